-- Numbering one cell after another.
use Rattle.std.proofs.Common.{◌≡◌, ℕ, ◌+◌, ◌<◌, ◌≤◌, List, [], ◌∷◌, ◌++◌, length, get_or, take, drop, set, sym, refl, ap, ◌∙◌, arith}
use Rattle.std.proofs.lemmas.List.{append_assoc, append-nil, take_more_set, drop-set-lt, drop_more, take_all, drop_all}
use Rattle.terms.specs.declared.Cell.{Cell}
use Rattle.lexis.specs.declared.token.Span.{Span}
use Rattle.names.specs.Spans.{word_at}
use Rattle.draft.specs.Numbering.{numbered, noted, numbered_all, words_after}

numbered_cons : (text : List ℕ) (ws : List (List ℕ)) (c : Cell) (cs : List Cell) (s : Span) (ss : List Span)
    → numbered_all text ws (c ∷ cs) (s ∷ ss) ≡ numbered (word_at text s) ws c ∷ numbered_all text (noted (word_at text s) ws c) cs ss
unfolding numbered_all
numbered_cons text ws c cs s ss = refl

after_cons : (text : List ℕ) (ws : List (List ℕ)) (c : Cell) (cs : List Cell) (s : Span) (ss : List Span)
    → words_after text ws (c ∷ cs) (s ∷ ss) ≡ words_after text (noted (word_at text s) ws c) cs ss
unfolding words_after
after_cons text ws c cs s ss = refl

numbered_nil : (text : List ℕ) (ws : List (List ℕ)) (ss : List Span) → numbered_all text ws [] ss ≡ []
unfolding numbered_all
numbered_nil text ws ss = refl

after_nil : (text : List ℕ) (ws : List (List ℕ)) (ss : List Span) → words_after text ws [] ss ≡ ws
unfolding words_after
after_nil text ws ss = refl

-- one cell further on: the cells so numbered, and the others to come
pub numbered_more : (text : List ℕ) (ws : List (List ℕ)) (cs : List Cell) (ss : List Span) (i : ℕ) (c : Cell) (s : Span) → i < length cs → i < length ss
    → take (i + 1) (set cs i (numbered (word_at text (get_or ss i s)) ws (get_or cs i c)))
    ++ numbered_all text (noted (word_at text (get_or ss i s)) ws (get_or cs i c)) (drop (i + 1) (set cs i (numbered (word_at text (get_or ss i s)) ws (get_or cs i c)))) (drop (i + 1) ss)
    ≡ take i cs ++ numbered_all text ws (drop i cs) (drop i ss)
numbered_more text ws cs ss i c s h k =
    let x = numbered (word_at text (get_or ss i s)) ws (get_or cs i c) in
    let us = noted (word_at text (get_or ss i s)) ws (get_or cs i c) in
    ap (λ ys. take (i + 1) (set cs i x) ++ numbered_all text us ys (drop (i + 1) ss)) (drop-set-lt (i + 1) cs i x (omega arith))
    ∙ (ap (λ ys. ys ++ numbered_all text us (drop (i + 1) cs) (drop (i + 1) ss)) (take_more_set cs i x h)
    ∙ (append_assoc (take i cs) (x ∷ []) (numbered_all text us (drop (i + 1) cs) (drop (i + 1) ss))
    ∙ ap (λ ys. take i cs ++ ys)
    (sym (ap (λ ys. numbered_all text ws ys (drop i ss)) (drop_more cs i c h)
    ∙ (ap (λ ys. numbered_all text ws (get_or cs i c ∷ drop (i + 1) cs) ys) (drop_more ss i s k)
    ∙ numbered_cons text ws (get_or cs i c) (drop (i + 1) cs) (get_or ss i s) (drop (i + 1) ss))))))

pub after_more : (text : List ℕ) (ws : List (List ℕ)) (cs : List Cell) (ss : List Span) (i : ℕ) (c : Cell) (s : Span) (x : Cell) → i < length cs → i < length ss
    → words_after text (noted (word_at text (get_or ss i s)) ws (get_or cs i c)) (drop (i + 1) (set cs i x)) (drop (i + 1) ss) ≡ words_after text ws (drop i cs) (drop i ss)
after_more text ws cs ss i c s x h k =
    let us = noted (word_at text (get_or ss i s)) ws (get_or cs i c) in
    ap (λ ys. words_after text us ys (drop (i + 1) ss)) (drop-set-lt (i + 1) cs i x (omega arith))
    ∙ sym (ap (λ ys. words_after text ws ys (drop i ss)) (drop_more cs i c h)
    ∙ (ap (λ ys. words_after text ws (get_or cs i c ∷ drop (i + 1) cs) ys) (drop_more ss i s k)
    ∙ after_cons text ws (get_or cs i c) (drop (i + 1) cs) (get_or ss i s) (drop (i + 1) ss)))

pub numbered_all_lem : (text : List ℕ) (ws : List (List ℕ)) (cs : List Cell) (ss : List Span) (i : ℕ) → length cs ≤ i → take i cs ++ numbered_all text ws (drop i cs) (drop i ss) ≡ cs
numbered_all_lem text ws cs ss i h =
    ap (λ ys. take i cs ++ numbered_all text ws ys (drop i ss)) (drop_all i cs h)
    ∙ (ap (λ ys. take i cs ++ ys) (numbered_nil text ws (drop i ss)) ∙ (append-nil (take i cs) ∙ take_all i cs h))

pub after_all : (text : List ℕ) (ws : List (List ℕ)) (cs : List Cell) (ss : List Span) (i : ℕ) → length cs ≤ i → words_after text ws (drop i cs) (drop i ss) ≡ ws
after_all text ws cs ss i h = ap (λ ys. words_after text ws ys (drop i ss)) (drop_all i cs h) ∙ after_nil text ws (drop i ss)

pub numbered_step : (text : List ℕ) (ws us : List (List ℕ)) (cs ds : List Cell) (ss ts : List Span) (i : ℕ) (c : Cell) (s : Span) → i < length cs → i < length ss
    → ds ≡ set cs i (numbered (word_at text (get_or ss i s)) ws (get_or cs i c)) → ts ≡ ss → us ≡ noted (word_at text (get_or ss i s)) ws (get_or cs i c)
    → take (i + 1) ds ++ numbered_all text us (drop (i + 1) ds) (drop (i + 1) ts) ≡ take i cs ++ numbered_all text ws (drop i cs) (drop i ss)
numbered_step text ws us cs ds ss ts i c s h k ed et eu =
    ap (λ xs. take (i + 1) xs ++ numbered_all text us (drop (i + 1) xs) (drop (i + 1) ts)) ed
    ∙ (ap (λ xs. take (i + 1) (set cs i (numbered (word_at text (get_or ss i s)) ws (get_or cs i c))) ++ numbered_all text us (drop (i + 1) (set cs i (numbered (word_at text (get_or ss i s)) ws (get_or cs i c)))) (drop (i + 1) xs)) et
    ∙ (ap (λ xs. take (i + 1) (set cs i (numbered (word_at text (get_or ss i s)) ws (get_or cs i c))) ++ numbered_all text xs (drop (i + 1) (set cs i (numbered (word_at text (get_or ss i s)) ws (get_or cs i c)))) (drop (i + 1) ss)) eu
    ∙ numbered_more text ws cs ss i c s h k))

pub after_step : (text : List ℕ) (ws us : List (List ℕ)) (cs ds : List Cell) (ss ts : List Span) (i : ℕ) (c : Cell) (s : Span) (x : Cell) → i < length cs → i < length ss
    → ds ≡ set cs i x → ts ≡ ss → us ≡ noted (word_at text (get_or ss i s)) ws (get_or cs i c)
    → words_after text us (drop (i + 1) ds) (drop (i + 1) ts) ≡ words_after text ws (drop i cs) (drop i ss)
after_step text ws us cs ds ss ts i c s x h k ed et eu =
    ap (λ xs. words_after text us (drop (i + 1) xs) (drop (i + 1) ts)) ed
    ∙ (ap (λ xs. words_after text us (drop (i + 1) (set cs i x)) (drop (i + 1) xs)) et
    ∙ (ap (λ xs. words_after text xs (drop (i + 1) (set cs i x)) (drop (i + 1) ss)) eu
    ∙ after_more text ws cs ss i c s x h k))
