use Rattle.std.proofs.Common.{◌≡◌, ℕ, ◌-◌, ◌≤◌, List, ◌∷◌, length, get_or, sym, ap, ◌∙◌, arith}
use Rattle.unification.specs.Held.{newest}
use Rattle.unification.proofs.Stacks.{newest_zero, newest_pop}
use Rattle.unification.proofs.stack.Stack.pop.Goals as goal

pub returns-in_err-self-clause-held : goal.returns-in_err-self-clause-held
returns-in_err-self-clause-held g c =
    let z = newest_zero c.args.self.now.len c.args.self.now.items.now (omega (arith, c.in_err-self.ensures)) in
    rw c.from_residual.ensures (z, z)

popped : {A : Type 0} (n k : ℕ) (xs : List A) (d x : A) → 1 ≤ n → k ≡ n - 1 → n ≤ length xs → newest n xs ≡ get_or xs k d ∷ newest k xs
popped n k xs d x p e h = newest_pop n xs d p h ∙ ap (λ (m : ℕ). get_or xs m d ∷ newest m xs) (sym e)

pub returns-clause-held : goal.returns-clause-held
returns-clause-held g c =
    popped c.args.self.now.len c.in_ok-self.field-0 c.args.self.now.items.now c.index-self-self.result c.index-self-self.result c.in_ok-self.ensures.0 c.in_ok-self.ensures.1 c.args.self.now.inside
