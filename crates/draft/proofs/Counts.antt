use Rattle.std.proofs.Common.{◌≡◌, ℕ, ◌+◌, ◌<◌, ◌≤◌, arith}
use Rattle.std.proofs.lemmas.Bool.Decides.{nat_tests}
use Rattle.terms.specs.declared.Cell.{Cell}
use Rattle.clauses.specs.Clauses.{vars_after}

pub vars_up : (n : ℕ) (c : Cell) → n ≤ vars_after n c
vars_up n c = grind (arith, nat_tests)

pub vars_most : (n : ℕ) (c : Cell) → vars_after n c ≤ n + 1
vars_most n c = grind (arith, nat_tests)

pub vars_cell : (n : ℕ) (c : Cell) → c.tag ≡ 0 → c.value ≤ n → c.value < vars_after n c
vars_cell n c t h = grind (arith, nat_tests)
