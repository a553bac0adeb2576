-- Words numbered one after another have the numbers of their places among all words in the end.
use Rattle.std.proofs.Common.{◌≡◌, ℕ, cond, ltb, List, [], ◌∷◌, ◌++◌, length, Ok, sym, refl, ap, ◌∙◌, subst, inl, inr, arith}
use Rattle.std.proofs.lemmas.List.{append-nil, append_assoc, length_push}
use Rattle.std.proofs.lemmas.Bool.{cond-true, cond-false, cases_Bool, lt-ltb, le-ltb}
use Rattle.std.proofs.lemmas.Slice.Eq.{bytes_eq-Decides}
use Rattle.terms.specs.declared.Cell.{Cell}
use Rattle.lexis.specs.declared.token.Span.{Span}
use Rattle.names.specs.Places.{place_of, with_word}
use Rattle.names.specs.Spans.{word_at}
use Rattle.draft.specs.Numbering.{is_named, numbered, noted, numbered_all, words_after}
use Rattle.draft.specs.Sketch.{Sketch, ReadsClause}
use Rattle.grammar.specs.Grammar.{name_as, named}
use Rattle.grammar.specs.Laws.{Numbered}
use Rattle.names.proofs.Finding.{place_left}
use Rattle.grammar.proofs.Variables.{place_same, either}
use Rattle.grammar.proofs.Clauses.{clause_written}

record Extends (ws vs : List (List ℕ)) : Type 0 where
  rest : List (List ℕ)
  is : vs ≡ ws ++ rest

noted_extends : (w : List ℕ) (ws : List (List ℕ)) (c : Cell) → Extends ws (noted w ws c)
noted_extends w ws c =
    elim (cases_Bool (is_named c)) [
      | inl e ↦
          elim (either w ws) [
            | inl h ↦
                record {
                  rest = [];
                  is = cond-true (is_named c) (with_word w ws) ws e ∙ (cond-true (ltb (place_of w ws) (length ws)) ws (ws ++ w ∷ []) (lt-ltb (place_of w ws) (length ws) h) ∙ sym (append-nil ws));
                }
            | inr h ↦
                record {
                  rest = w ∷ [];
                  is = cond-true (is_named c) (with_word w ws) ws e ∙ cond-false (ltb (place_of w ws) (length ws)) ws (ws ++ w ∷ []) (le-ltb (place_of w ws) (length ws) (omega arith));
                }
          ]
      | inr e ↦ record { rest = []; is = cond-false (is_named c) (with_word w ws) ws e ∙ sym (append-nil ws) }
    ]

after_extends : (text : List ℕ) (ws : List (List ℕ)) (cs : List Cell) (ss : List Span) → Extends ws (words_after text ws cs ss)
unfolding words_after
after_extends text ws [] ss = record { rest = []; is = sym (append-nil ws) }
after_extends text ws (c ∷ cs) [] = record { rest = []; is = sym (append-nil ws) }
after_extends text ws (c ∷ cs) (s ∷ ss) =
    let a = noted_extends (word_at text s) ws c in
    let b = after_extends text (noted (word_at text s) ws c) cs ss in
    record { rest = a.rest ++ b.rest; is = b.is ∙ (ap (λ x. x ++ b.rest) a.is ∙ append_assoc ws a.rest b.rest) }

-- a word's place stays when words are added
place_after : (w : List ℕ) (ws vs : List (List ℕ)) → Extends (with_word w ws) vs → place_of w ws ≡ place_of w vs
place_after w ws vs x =
    elim (either w ws) [
      | inl h ↦
          let e : vs ≡ ws ++ x.rest = x.is ∙ ap (λ y. y ++ x.rest) (cond-true (ltb (place_of w ws) (length ws)) ws (ws ++ w ∷ []) (lt-ltb (place_of w ws) (length ws) h)) in
          sym (ap (place_of w) e ∙ place_left w ws x.rest h)
      | inr h ↦
          let e : vs ≡ (ws ++ w ∷ []) ++ x.rest = x.is ∙ ap (λ y. y ++ x.rest) (cond-false (ltb (place_of w ws) (length ws)) ws (ws ++ w ∷ []) (le-ltb (place_of w ws) (length ws) (omega arith))) in
          let p = place_same w w ws h ((bytes_eq-Decides w w).1 refl) in
          h ∙ (sym p ∙ sym (ap (place_of w) e ∙ place_left w (ws ++ w ∷ []) x.rest (omega (arith, length_push ws w))))
    ]

numbered_is : (w : List ℕ) (ws vs : List (List ℕ)) (c : Cell) → Extends (noted w ws c) vs → numbered w ws c ≡ name_as (λ x. place_of x vs) w c
numbered_is w ws vs c x =
    elim (cases_Bool (is_named c)) [
      | inl e ↦
          let y : Extends (with_word w ws) vs = subst (λ z. Extends z vs) (cond-true (is_named c) (with_word w ws) ws e) x in
          ap (λ v. cond (is_named c) (record { tag = c.tag; form = c.form; arity = c.arity; value = v }) c) (place_after w ws vs y)
      | inr e ↦
          cond-false (is_named c) (record { tag = c.tag; form = c.form; arity = c.arity; value = place_of w ws }) c e
          ∙ sym (cond-false (is_named c) (record { tag = c.tag; form = c.form; arity = c.arity; value = place_of w vs }) c e)
    ]

pub numbered_all_lem : (text : List ℕ) (ws : List (List ℕ)) (cs : List Cell) (ss : List Span) → numbered_all text ws cs ss ≡ named (λ w. place_of w (words_after text ws cs ss)) text cs ss
unfolding numbered_all words_after
numbered_all_lem text ws [] ss = refl
numbered_all_lem text ws (c ∷ cs) [] = refl
numbered_all_lem text ws (c ∷ cs) (s ∷ ss) =
    let w = word_at text s in
    let vs = words_after text (noted w ws c) cs ss in
    ap (λ x. x ∷ numbered_all text (noted w ws c) cs ss) (numbered_is w ws vs c (after_extends text (noted w ws c) cs ss))
    ∙ ap (λ xs. name_as (λ x. place_of x vs) w c ∷ xs) (numbered_all_lem text (noted w ws c) cs ss)

pub clause_numbered : (text : List ℕ) (ws : List (List ℕ)) (at end : ℕ) (s : Sketch) → ReadsClause text at (Ok (end, s)) → Numbered text ws at end s
clause_numbered text ws at end s d =
    let w = clause_written text (λ x. place_of x (words_after text ws s.cells s.spans)) at end s d in
    record { tokens = w.tokens; clause = w.clause; stand = w.stand; grammatical = w.grammatical; spelt = w.spelt ∙ sym (numbered_all_lem text ws s.cells s.spans) }
