use Rattle.std.proofs.Common.{◌≡◌, ℕ, Ok, Err, Result, arith}
use Rattle.lexis.specs.declared.fault.Fault.{Fault}

-- a refusal is no result
pub never : {A : Type 0} (e : Fault) (a : A) → ◌≡◌ {A = Result A Fault} (Err e) (Ok a) → ⊥
never e a h = let z : ◌≡◌ {A = ℕ} 0 1 = cc in omega arith
