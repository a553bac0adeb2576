-- The place of a word among words.
use Rattle.std.proofs.Common.{◌≡◌, ℕ, ◌+◌, ◌<◌, ◌≤◌, Bool, true, false, not, List, [], ◌∷◌, ◌++◌, length, sym, refl, ap, ◌∙◌, inl, inr, cond, ltb, map, Some, None, Option, arith}
use Rattle.std.proofs.lemmas.Bool.{cases_lt, cases_Bool, cond-true, cond-false, lt-ltb, le-ltb}
use Rattle.std.specs.Str.{bytes_eq}
use Rattle.lexis.specs.declared.token.Span.{Span}
use Rattle.std.specs.List.{position_or_len}
use Rattle.std.proofs.lemmas.List.{length-map, length-append}
use Rattle.std.proofs.lemmas.List.Sums.{prefix_len-le-length}
use Rattle.names.specs.Places.{place_of, found_in, with_word}
use Rattle.names.specs.Spans.{word_at, words_in}

pub place_nil : (w : List ℕ) → place_of w [] ≡ 0
unfolding place_of
place_nil w = refl

pub place_here : (w x : List ℕ) (xs : List (List ℕ)) → bytes_eq x w ≡ true → place_of w (x ∷ xs) ≡ 0
unfolding place_of
place_here w x xs e = cond-false (not (bytes_eq x w)) (1 + place_of w xs) 0 (ap not e)

pub place_next : (w x : List ℕ) (xs : List (List ℕ)) → bytes_eq x w ≡ false → place_of w (x ∷ xs) ≡ 1 + place_of w xs
unfolding place_of
place_next w x xs e = cond-true (not (bytes_eq x w)) (1 + place_of w xs) 0 (ap not e)

pub place_left : (w : List ℕ) (xs ys : List (List ℕ)) → place_of w xs < length xs → place_of w (xs ++ ys) ≡ place_of w xs
place_left w [] ys h = absurd (omega arith)
place_left w (x ∷ xs) ys h =
    elim (cases_Bool (bytes_eq x w)) [
      | inl b ↦ place_here w x (xs ++ ys) b ∙ sym (place_here w x xs b)
      | inr b ↦
          let e = place_next w x xs b in
          place_next w x (xs ++ ys) b ∙ (ap (λ n. 1 + n) (place_left w xs ys (omega arith)) ∙ sym e)
    ]

pub place_right : (w : List ℕ) (xs ys : List (List ℕ)) → place_of w xs ≡ length xs → place_of w (xs ++ ys) ≡ length xs + place_of w ys
place_right w [] ys h = omega arith
place_right w (x ∷ xs) ys h =
    elim (cases_Bool (bytes_eq x w)) [
      | inl b ↦ let e = place_here w x xs b in absurd (omega arith)
      | inr b ↦
          let e = place_next w x xs b in
          let r = place_right w xs ys (omega arith) in
          place_next w x (xs ++ ys) b ∙ omega arith
    ]

pub place_within : (w : List ℕ) (ws : List (List ℕ)) → place_of w ws ≤ length ws
unfolding place_of
place_within w ws = prefix_len-le-length (λ x. not (bytes_eq x w)) ws

found_here : (w : List ℕ) (ws : List (List ℕ)) (n : ℕ) → place_of w ws ≡ n → n < length ws → found_in w ws ≡ Some n
unfolding place_of found_in
found_here w ws n e h = let p = position_or_len (λ x. bytes_eq x w) ws in cond-true (ltb p (length ws)) (Some p) None (lt-ltb p (length ws) (omega arith)) ∙ ap Some e

found_not : (w : List ℕ) (ws : List (List ℕ)) → place_of w ws ≡ length ws → found_in w ws ≡ None
unfolding place_of found_in
found_not w ws e = let p = position_or_len (λ x. bytes_eq x w) ws in cond-false (ltb p (length ws)) (Some p) None (le-ltb p (length ws) (omega arith))

pub found_some : (w : List ℕ) (ws : List (List ℕ)) (n : ℕ) → found_in w ws ≡ Some n → (place_of w ws ≡ n) × (n < length ws)
found_some w ws n h =
    elim (cases_lt (place_of w ws) (length ws)) [
      | inl l ↦ let z : place_of w ws ≡ n = cc (h, found_here w ws (place_of w ws) refl l) in (z, omega arith)
      | inr l ↦ let z : ◌≡◌ {A = ℕ} 0 1 = cc (h, found_not w ws (omega (arith, place_within w ws))) in absurd (omega arith)
    ]

pub found_none : (w : List ℕ) (ws : List (List ℕ)) → found_in w ws ≡ None → place_of w ws ≡ length ws
found_none w ws h =
    elim (cases_lt (place_of w ws) (length ws)) [
      | inl l ↦ let z : ◌≡◌ {A = ℕ} 0 1 = cc (h, found_here w ws (place_of w ws) refl l) in absurd (omega arith)
      | inr l ↦ omega (arith, place_within w ws)
    ]

-- among the words of two lists, the one after the other
pub found_left : (w : List ℕ) (xs ys : List (List ℕ)) (n : ℕ) → found_in w xs ≡ Some n → Some n ≡ found_in w (xs ++ ys)
found_left w xs ys n h =
    let p = found_some w xs n h in
    sym (found_here w (xs ++ ys) n (place_left w xs ys (omega arith) ∙ p.0) (omega (arith, length-append xs ys)))

pub found_right : (w : List ℕ) (xs ys : List (List ℕ)) (m n : ℕ) → m ≡ length xs → found_in w xs ≡ None → found_in w ys ≡ Some n → Some (m + n) ≡ found_in w (xs ++ ys)
found_right w xs ys m n e h k =
    let p = found_some w ys n k in
    sym (found_here w (xs ++ ys) (m + n) (omega (arith, place_right w xs ys (found_none w xs h))) (omega (arith, length-append xs ys)))

pub found_neither : (w : List ℕ) (xs ys : List (List ℕ)) → found_in w xs ≡ None → found_in w ys ≡ None → found_in w (xs ++ ys) ≡ None
found_neither w xs ys h k =
    found_not w (xs ++ ys) (omega (arith, place_right w xs ys (found_none w xs h), found_none w ys k, length-append xs ys))

over_map : {X Y : Type 0} (p : Y → Bool) (f : X → Y) (xs : List X) → position_or_len (λ x. p (f x)) xs ≡ position_or_len p (map f xs)
over_map p f [] = refl
over_map p f (x ∷ xs) = ap (λ n. cond (not (p (f x))) (1 + n) 0) (over_map p f xs)

-- the first span whose word is the same
pub found_at_span : (w bytes : List ℕ) (spans : List Span)
    → cond (ltb (position_or_len (λ s. bytes_eq (word_at bytes s) w) spans) (length spans)) (Some (position_or_len (λ s. bytes_eq (word_at bytes s) w) spans)) None ≡ found_in w (words_in bytes spans)
unfolding found_in words_in
found_at_span w bytes spans =
    let e = over_map (λ x. bytes_eq x w) (word_at bytes) spans in
    let l = length-map spans (word_at bytes) in
    ap (λ n. cond (ltb n (length spans)) (Some n) None) e ∙ ap (λ k. cond (ltb (position_or_len (λ x. bytes_eq x w) (map (word_at bytes) spans)) k) (Some (position_or_len (λ x. bytes_eq x w) (map (word_at bytes) spans))) None) (sym l)

pub word_known : (w : List ℕ) (ws : List (List ℕ)) → place_of w ws < length ws → with_word w ws ≡ ws
word_known w ws h = cond-true _ _ _ (lt-ltb (place_of w ws) (length ws) h)

pub word_new : (w : List ℕ) (ws : List (List ℕ)) → place_of w ws ≡ length ws → with_word w ws ≡ ws ++ w ∷ []
word_new w ws h = cond-false _ _ _ (le-ltb (place_of w ws) (length ws) (omega arith))

pub found_words : (w bytes bytes₀ : List ℕ) (ss ss₀ : List Span) (r : Option ℕ) → r ≡ found_in w (words_in bytes ss) → bytes ≡ bytes₀ → ss ≡ ss₀ → found_in w (words_in bytes₀ ss₀) ≡ r
found_words w bytes bytes₀ ss ss₀ r h eb es = cc

pub found_same : (w w₀ bytes bytes₀ : List ℕ) (ns ns₀ : List (List ℕ)) (ss ss₀ : List Span) → w ≡ w₀ → bytes ≡ bytes₀ → ss ≡ ss₀ → ns ≡ ns₀
    → found_in w (ns ++ words_in bytes ss) ≡ found_in w₀ (ns₀ ++ words_in bytes₀ ss₀)
found_same w w₀ bytes bytes₀ ns ns₀ ss ss₀ ew eb es en = cc
