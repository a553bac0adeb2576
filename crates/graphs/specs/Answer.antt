use Rattle.std.specs.Prelude.{◌≡◌, ℕ, ◌≤◌}
use Rattle.graphs.specs.Terms.{Subst, var}

-- of variables tied together and otherwise free, the lowest stands for all
pub record Lowest (θ : Subst) : Type 0 where
  pub itself : (v u : ℕ) → θ v ≡ var u → θ u ≡ var u
  pub least : (v u : ℕ) → θ v ≡ var u → u ≤ v
