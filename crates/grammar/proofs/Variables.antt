-- The number of a variable's word, and what finds it among cells with their words.
use Rattle.std.proofs.Common.{◌≡◌, ℕ, suc, ◌+◌, ◌<◌, true, false, cond, ◌&&◌, eqb, ltb, leb, ◌⊎◌, List, [], ◌∷◌, ◌++◌, length, sym, refl, ap, ◌∙◌, subst, inl, inr, arith}
use Rattle.std.proofs.lemmas.List.{length_push}
use Rattle.std.proofs.lemmas.Bool.{cond-true, cond-false, cases_Bool, both_ways, ltb-true, ltb-false, lt-ltb, le-ltb, le-leb, lt-leb}
use Rattle.std.proofs.lemmas.Slice.Eq.{bytes_eq-Decides}
use Rattle.std.specs.Str.{bytes_eq}
use Rattle.terms.specs.declared.Cell.{Cell}
use Rattle.lexis.specs.declared.token.Span.{Span}
use Rattle.names.specs.Places.{place_of, with_word}
use Rattle.names.specs.Spans.{word_at}
use Rattle.names.proofs.Finding.{place_nil, place_here, place_next, place_within, place_left}
use Rattle.draft.specs.Drafts.{var_cell}
use Rattle.clauses.specs.Clauses.{vars_after}
use Rattle.draft.specs.Sketch.{is_variable, same_variable}
use Rattle.grammar.specs.Grammar.{variable_in, with_variable}

abbrev pub lone : List ℕ
lone = 95 ∷ []

-- the place of a word among words, or else a number
abbrev pub lookup : List ℕ → List (List ℕ) → ℕ → ℕ
lookup w ws n = cond (ltb (place_of w ws) (length ws)) (place_of w ws) n

place_later : (w x : List ℕ) (xs : List (List ℕ)) → bytes_eq x w ≡ false → place_of w (x ∷ xs) ≡ suc (place_of w xs)
place_later w x xs e = omega (arith, place_next w x xs e)

pub place_same : (w x : List ℕ) (ws : List (List ℕ)) → place_of w ws ≡ length ws → bytes_eq x w ≡ true → place_of w (ws ++ x ∷ []) ≡ length ws
place_same w x [] h e = place_here w x [] e
place_same w x (y ∷ ws) h e =
    elim (cases_Bool (bytes_eq y w)) [
      | inl f ↦ absurd (let z : 0 ≡ suc (length ws) = sym (place_here w y ws f) ∙ h in omega arith)
      | inr f ↦ place_later w y (ws ++ x ∷ []) f ∙ ap suc (place_same w x ws (omega (arith, place_later w y ws f)) e)
    ]

pub place_past : (w x : List ℕ) (ws : List (List ℕ)) → place_of w ws ≡ length ws → bytes_eq x w ≡ false → place_of w (ws ++ x ∷ []) ≡ suc (length ws)
place_past w x [] h e = place_later w x [] e ∙ ap suc (place_nil w)
place_past w x (y ∷ ws) h e =
    elim (cases_Bool (bytes_eq y w)) [
      | inl f ↦ absurd (let z : 0 ≡ suc (length ws) = sym (place_here w y ws f) ∙ h in omega arith)
      | inr f ↦ place_later w y (ws ++ x ∷ []) f ∙ ap suc (place_past w x ws (omega (arith, place_later w y ws f)) e)
    ]

found : (w : List ℕ) (ws : List (List ℕ)) (n : ℕ) → place_of w ws < length ws → lookup w ws n ≡ place_of w ws
found w ws n h = cond-true (ltb (place_of w ws) (length ws)) (place_of w ws) n (lt-ltb (place_of w ws) (length ws) h)

missed : (w : List ℕ) (ws : List (List ℕ)) (n : ℕ) → place_of w ws ≡ length ws → lookup w ws n ≡ n
missed w ws n h = cond-false (ltb (place_of w ws) (length ws)) (place_of w ws) n (le-ltb (place_of w ws) (length ws) (omega arith))

pub either : (w : List ℕ) (ws : List (List ℕ)) → (place_of w ws < length ws) ⊎ (place_of w ws ≡ length ws)
either w ws =
    elim (cases_Bool (ltb (place_of w ws) (length ws))) [
      | inl e ↦ inl (ltb-true (place_of w ws) (length ws) e)
      | inr e ↦ inr (omega (arith, ltb-false (place_of w ws) (length ws) e, place_within w ws))
    ]

lookup_other : (w x : List ℕ) (ws : List (List ℕ)) (n : ℕ) → bytes_eq x w ≡ false → lookup w (ws ++ x ∷ []) n ≡ lookup w ws n
lookup_other w x ws n e =
    elim (either w ws) [
      | inl h ↦
          let k = place_left w ws (x ∷ []) h in
          found w (ws ++ x ∷ []) n (omega (arith, length_push ws x)) ∙ (k ∙ sym (found w ws n h))
      | inr h ↦
          let k = place_past w x ws h e in
          missed w (ws ++ x ∷ []) n (omega (arith, length_push ws x)) ∙ sym (missed w ws n h)
    ]

-- a search among cells with one more
pub same_push : (text w : List ℕ) (cs : List Cell) (ss : List Span) (c : Cell) (s : Span) (n : ℕ) → length ss ≡ length cs
    → same_variable text w (cs ++ c ∷ []) (ss ++ s ∷ []) n ≡ same_variable text w cs ss (cond (is_variable text w c s) c.value n)
unfolding same_variable
same_push text w [] [] c s n h = refl
same_push text w [] (x ∷ ss) c s n h = absurd (omega arith)
same_push text w (y ∷ cs) [] c s n h = absurd (omega arith)
same_push text w (y ∷ cs) (x ∷ ss) c s n h =
    ap (λ m. cond (is_variable text w y x) y.value m) (same_push text w cs ss c s n (omega arith))

-- a cell that is no variable can be another
pub same_swap : (text w : List ℕ) (pre mid : List Cell) (f g : Cell) (ss : List Span) (n : ℕ) → eqb f.tag 0 ≡ false → eqb g.tag 0 ≡ false
    → same_variable text w (pre ++ f ∷ mid) ss n ≡ same_variable text w (pre ++ g ∷ mid) ss n
unfolding same_variable
same_swap text w [] mid f g [] n hf hg = refl
same_swap text w [] mid f g (s ∷ ss) n hf hg =
    cond-false (is_variable text w f s) f.value (same_variable text w mid ss n) (ap (λ b. b && bytes_eq (word_at text s) w) hf)
    ∙ sym (cond-false (is_variable text w g s) g.value (same_variable text w mid ss n) (ap (λ b. b && bytes_eq (word_at text s) w) hg))
same_swap text w (p ∷ pre) mid f g [] n hf hg = refl
same_swap text w (p ∷ pre) mid f g (s ∷ ss) n hf hg = ap (λ m. cond (is_variable text w p s) p.value m) (same_swap text w pre mid f g ss n hf hg)

-- the words of the variables among cells, at their numbers
pub record Known (text : List ℕ) (cs : List Cell) (ss : List Span) (ws : List (List ℕ)) : Type 0 where
  pub level : length ss ≡ length cs
  pub finds : (w : List ℕ) (n : ℕ) → bytes_eq w lone ≡ false → same_variable text w cs ss n ≡ lookup w ws n

pub known_other : (text : List ℕ) (cs : List Cell) (ss : List Span) (ws : List (List ℕ)) (c : Cell) (s : Span) → eqb c.tag 0 ≡ false → Known text cs ss ws → Known text (cs ++ c ∷ []) (ss ++ s ∷ []) ws
known_other text cs ss ws c s e k =
    record {
      level = omega (arith, length_push cs c, length_push ss s, k.level);
      finds = λ w n h.
          same_push text w cs ss c s n k.level
          ∙ (ap (same_variable text w cs ss) (cond-false (is_variable text w c s) c.value n (ap (λ b. b && bytes_eq (word_at text s) w) e)) ∙ k.finds w n h);
    }

pub known_swap : (text : List ℕ) (pre mid : List Cell) (f g : Cell) (ss : List Span) (ws : List (List ℕ)) → eqb f.tag 0 ≡ false → eqb g.tag 0 ≡ false
    → length (pre ++ f ∷ mid) ≡ length (pre ++ g ∷ mid) → Known text (pre ++ f ∷ mid) ss ws → Known text (pre ++ g ∷ mid) ss ws
known_swap text pre mid f g ss ws hf hg l k =
    record { level = k.level ∙ l; finds = λ w n h. sym (same_swap text w pre mid f g ss n hf hg) ∙ k.finds w n h }

same_is : (u w : List ℕ) → bytes_eq u w ≡ true → u ≡ w
same_is u w e = (bytes_eq-Decides u w).0 e

-- the number of a word that is not a lone `_`
find_number : (ws : List (List ℕ)) (u : List ℕ) → lookup u ws (length ws) ≡ place_of u ws
find_number ws u = elim (either u ws) [ inl h ↦ found u ws (length ws) h | inr h ↦ missed u ws (length ws) h ∙ sym h ]

pub variable_number_lem : (text : List ℕ) (cs : List Cell) (ss : List Span) (ws : List (List ℕ)) (u : List ℕ) → Known text cs ss ws
    → cond (bytes_eq u lone) (length ws) (same_variable text u cs ss (length ws)) ≡ variable_in ws u
variable_number_lem text cs ss ws u k =
    elim (cases_Bool (bytes_eq u lone)) [
      | inl e ↦ cond-true (bytes_eq u lone) (length ws) (same_variable text u cs ss (length ws)) e ∙ sym (cond-true (bytes_eq u lone) (length ws) (place_of u ws) e)
      | inr e ↦
          cond-false (bytes_eq u lone) (length ws) (same_variable text u cs ss (length ws)) e
          ∙ (k.finds u (length ws) e ∙ (find_number ws u ∙ sym (cond-false (bytes_eq u lone) (length ws) (place_of u ws) e)))
    ]

-- what the words and the number are in each of the three cases
pub data Entry (ws : List (List ℕ)) (u : List ℕ) : Type 0 where
  is_lone : bytes_eq u lone ≡ true → variable_in ws u ≡ length ws → with_variable ws u ≡ ws ++ u ∷ [] → Entry ws u
  is_known : place_of u ws < length ws → variable_in ws u ≡ place_of u ws → with_variable ws u ≡ ws → Entry ws u
  is_new : place_of u ws ≡ length ws → variable_in ws u ≡ length ws → with_variable ws u ≡ ws ++ u ∷ [] → Entry ws u

pub entry : (ws : List (List ℕ)) (u : List ℕ) → Entry ws u
entry ws u =
    elim (cases_Bool (bytes_eq u lone)) [
      | inl e ↦ is_lone e (cond-true (bytes_eq u lone) (length ws) (place_of u ws) e) (cond-true (bytes_eq u lone) (ws ++ u ∷ []) (with_word u ws) e)
      | inr e ↦
          let n = cond-false (bytes_eq u lone) (length ws) (place_of u ws) e in
          let v = cond-false (bytes_eq u lone) (ws ++ u ∷ []) (with_word u ws) e in
          elim (either u ws) [
            | inl h ↦ is_known h n (v ∙ cond-true (ltb (place_of u ws) (length ws)) ws (ws ++ u ∷ []) (lt-ltb (place_of u ws) (length ws) h))
            | inr h ↦ is_new h (n ∙ h) (v ∙ cond-false (ltb (place_of u ws) (length ws)) ws (ws ++ u ∷ []) (le-ltb (place_of u ws) (length ws) (omega arith)))
          ]
    ]

pub count_number : (ws : List (List ℕ)) (u : List ℕ) → vars_after (length ws) (var_cell (variable_in ws u)) ≡ length (with_variable ws u)
count_number ws u =
    elim (entry ws u) [
      | is_lone e n v ↦ cond-true (leb (length ws) (variable_in ws u)) (length ws + 1) (length ws) (le-leb (length ws) (variable_in ws u) (omega arith)) ∙ (sym (length_push ws u) ∙ ap length (sym v))
      | is_known h n v ↦ cond-false (leb (length ws) (variable_in ws u)) (length ws + 1) (length ws) (lt-leb (length ws) (variable_in ws u) (omega arith)) ∙ ap length (sym v)
      | is_new h n v ↦ cond-true (leb (length ws) (variable_in ws u)) (length ws + 1) (length ws) (le-leb (length ws) (variable_in ws u) (omega arith)) ∙ (sym (length_push ws u) ∙ ap length (sym v))
    ]

lookup_with : (ws : List (List ℕ)) (u w : List ℕ) (n : ℕ) → bytes_eq w lone ≡ false → lookup w ws (cond (bytes_eq u w) (variable_in ws u) n) ≡ lookup w (with_variable ws u) n
lookup_with ws u w n h =
    elim (cases_Bool (bytes_eq u w)) [
      | inl e ↦
          let p : u ≡ w = same_is u w e in
          let at-w = subst (λ x. lookup x ws (variable_in ws u) ≡ lookup x (with_variable ws u) n) p in
          ap (lookup w ws) (cond-true (bytes_eq u w) (variable_in ws u) n e)
          ∙ elim (entry ws u) [
            | is_lone f i v ↦ absurd (both_ways (bytes_eq w lone) h (ap (λ x. bytes_eq x lone) (sym p) ∙ f))
            | is_known f i v ↦ at-w (found u ws (variable_in ws u) f ∙ (sym (found u ws n f) ∙ ap (λ x. lookup u x n) (sym v)))
            | is_new f i v ↦
                let k = place_same u u ws f ((bytes_eq-Decides u u).1 refl) in
                at-w (missed u ws (variable_in ws u) f ∙ (i ∙ (sym k ∙ (sym (found u (ws ++ u ∷ []) n (omega (arith, length_push ws u))) ∙ ap (λ x. lookup u x n) (sym v)))))
          ]
      | inr e ↦
          ap (lookup w ws) (cond-false (bytes_eq u w) (variable_in ws u) n e)
          ∙ elim (entry ws u) [
            | is_lone f i v ↦ sym (lookup_other w u ws n e) ∙ ap (λ x. lookup w x n) (sym v)
            | is_known f i v ↦ ap (λ x. lookup w x n) (sym v)
            | is_new f i v ↦ sym (lookup_other w u ws n e) ∙ ap (λ x. lookup w x n) (sym v)
          ]
    ]

pub known_variable : (text : List ℕ) (cs : List Cell) (ss : List Span) (ws : List (List ℕ)) (s : Span) → Known text cs ss ws
    → Known text (cs ++ var_cell (variable_in ws (word_at text s)) ∷ []) (ss ++ s ∷ []) (with_variable ws (word_at text s))
known_variable text cs ss ws s k =
    let c = var_cell (variable_in ws (word_at text s)) in
    record {
      level = omega (arith, length_push cs c, length_push ss s, k.level);
      finds = λ w n h.
          same_push text w cs ss c s n k.level
          ∙ (k.finds w (cond (is_variable text w c s) c.value n) h ∙ lookup_with ws (word_at text s) w n h);
    }
