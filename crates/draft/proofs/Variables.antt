use Rattle.std.proofs.Common.{◌≡◌, ℕ, Bool, true, false, cond, List, [], ◌∷◌, Some, None, Option, sym, refl, ap, ◌∙◌}
use Rattle.std.specs.Prelude.{find, zip, MatchOption}
use Rattle.std.specs.Option.{option_map}
use Rattle.terms.specs.declared.Cell.{Cell}
use Rattle.lexis.specs.declared.token.Span.{Span}
use Rattle.draft.specs.Sketch.{same_variable, is_variable}

-- the number of the cell that was found, or else the next number
abbrev number_in : ℕ → Option (Cell × Span) → ℕ
number_in next None = next
number_in next (Some p) = p.0.value

choose : (b : Bool) (next : ℕ) (c : Cell) (s : Span) (o : Option (Cell × Span)) → cond b c.value (number_in next o) ≡ number_in next (cond b (Some (c, s)) o)
choose true next c s o = refl
choose false next c s o = refl

variable_in : (text w : List ℕ) (cs : List Cell) (ss : List Span) (next : ℕ) → same_variable text w cs ss next ≡ number_in next (find (λ p. is_variable text w p.0 p.1) (zip cs ss))
unfolding same_variable
variable_in text w [] ss next = refl
variable_in text w (c ∷ cs) [] next = refl
variable_in text w (c ∷ cs) (s ∷ ss) next =
    ap (λ n. cond (is_variable text w c s) c.value n) (variable_in text w cs ss next)
    ∙ choose (is_variable text w c s) next c s (find (λ p. is_variable text w p.0 p.1) (zip cs ss))

-- what the first pair with the same word tells
pub variable_found : {A : Type 0} (v : A → Cell × Span) (text w : List ℕ) (cs : List Cell) (ss : List Span) (next n : ℕ) (r : Option A) → option_map v r ≡ find (λ p. is_variable text w p.0 p.1) (zip cs ss)
    → MatchOption r (n ≡ next) (λ x. n ≡ (v x).0.value) → n ≡ same_variable text w cs ss next
variable_found v text w cs ss next n None e m = m ∙ (ap (number_in next) e ∙ sym (variable_in text w cs ss next))
variable_found v text w cs ss next n (Some x) e m = m ∙ (ap (number_in next) e ∙ sym (variable_in text w cs ss next))
