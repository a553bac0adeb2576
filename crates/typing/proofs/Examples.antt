-- The worked examples, from what the outcomes mean.
use mathlib.Core.Path.{◌≡◌, refl, sym, ◌∙◌}
use mathlib.Core.List.{[], ◌∷◌}
use Prim.Native.Nat.{ℕ, ◌+◌}
use native.Mathlib.Decide.{ℕ_discrete}
use native.Mathlib.Omega.{arith}
use lib.ListN.{get_or}
use Rattle.typing.specs.Terms.{var, con, base}
use Rattle.typing.specs.Rules.{on_left, inside_itself, stop, at_clash, solved, false, wrong}
use Rattle.typing.specs.Worked.{form, declared, Worked}
use Rattle.typing.proofs.Counts.{if_yes, count_self}
use Rattle.typing.proofs.Finals.{fun_var}
use Rattle.typing.proofs.Orders.{meant}

con_inj : {f v g w : ℕ} → con f v ≡ con g w → v ≡ w
con_inj p = cc

base_inj : {j k : ℕ} → base j ≡ base k → j ≡ k
base_inj p = cc

group : (v : ℕ) → declared (1 ∷ 2 ∷ []) 2 v ≡ 16 + get_or (1 ∷ 2 ∷ []) v 0
group v = if_yes (ℕ_discrete 2 2) (16 + get_or (1 ∷ 2 ∷ []) v 0) 2 refl

pub worked : Worked
worked = record {
  nothing = meant form _ solved (var, tt);
  one_is_two = meant form _ false (((λ x. base 0), (refl, tt)), λ u. let p = con_inj u.1.0 in omega arith);
  false_then_wrong = meant form _ wrong (λ k. let p = k.1.0 in let z : ◌≡◌ {A = ℕ} 0 2 = cc in omega arith);
  inside_its_function = record { last = _; run = stop; ends = at_clash (inside_itself [] [] on_left fun_var (omega (arith, count_self 0))) };
  through_a_variable = meant form _ false (((λ x. base 0), (refl, (refl, (refl, tt)))), λ u. let p = con_inj (sym u.1.1.1.0 ∙ u.1.0 ∙ u.1.1.0) in omega arith);
  atoms_of_two_groups = meant (declared (1 ∷ 2 ∷ [])) _ wrong (λ k. let p = base_inj k.1.0 in omega (arith, group 0, group 1));
  atoms_by_form = meant form _ false (((λ x. base 0), (refl, tt)), λ u. let p = con_inj u.1.0 in omega arith);
}
