-- Worked examples: what six lists of equations come to.
use Rattle.std.specs.Prelude.{List, [], ◌∷◌, ℕ, ◌+◌, get_or}
use Rattle.std.proofs.Math.Decide.{ℕ_discrete}
use Rattle.typing.specs.Terms.{Term, var, con, fun, none, more, ◌≈◌, if, Signature}
use Rattle.typing.specs.Rules.{solved, false, wrong, ComesTo}

-- The form signature, and the declared one: the kind of an atom is 16 and its group.
abbrev pub form : Signature
form f v = f

abbrev pub declared : List ℕ → Signature
declared groups f v = if (ℕ_discrete f 2) (16 + get_or groups v 0) f

abbrev X : Term
X = var 0

abbrev Y : Term
Y = var 1

abbrev one : Term
one = con 0 1

abbrev two : Term
two = con 0 2

-- atom number 0, and atom number 1
abbrev a : Term
a = con 2 0

abbrev b : Term
b = con 2 1

abbrev f1 : Term → Term
f1 t = fun 0 (more t none)

abbrev f2 : Term → Term → Term
f2 t u = fun 0 (more t (more u none))

pub record Worked : Type 0 where
  pub nothing : ComesTo form [] solved
  pub one_is_two : ComesTo form ((one ≈ two) ∷ []) false
  pub false_then_wrong : ComesTo form ((f2 one one ≈ f2 two a) ∷ []) wrong
  pub inside_its_function : ComesTo form ((X ≈ f1 X) ∷ []) wrong
  pub through_a_variable : ComesTo form ((X ≈ Y) ∷ (Y ≈ one) ∷ (X ≈ two) ∷ []) false
  pub atoms_of_two_groups : ComesTo (declared (1 ∷ 2 ∷ [])) ((a ≈ b) ∷ []) wrong
  pub atoms_by_form : ComesTo form ((a ≈ b) ∷ []) false
