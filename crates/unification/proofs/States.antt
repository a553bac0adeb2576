use Rattle.std.proofs.Common.{◌≡◌, ℕ, ◌≤◌, List, [], length, sym, subst, arith}
use Rattle.terms.specs.declared.Cell.{Cell}
use Rattle.graphs.specs.declared.Pair.{Pair}
use Rattle.unification.specs.declared.Outcome.{Outcome}
use Rattle.unification.specs.declared.arena.Arena.{Arena}
use Rattle.unification.specs.declared.links.Links.{Links}
use Rattle.unification.specs.Run.{Ready, Within}
use Rattle.unification.specs.Outcomes.{opened, Tells, Leads, TellsNext, LeadsNext}
use Rattle.unification.specs.State.{cells_in, links_in}
use Rattle.graphs.proofs.Wholes.{owes_room}
use Rattle.unification.proofs.Runs.{laid}
use Rattle.unification.proofs.Opened.{within_open}
use Rattle.unification.proofs.Settled.{tells_next, leads_next}

-- the stack of the one equation is ready to be solved
pub first_ready : (a : Arena) (k : Links) (left right : ℕ) (st : List Pair) (n m : ℕ) → st ≡ opened (cells_in a) left right [] → n ≤ 8 → 12864 ≤ m → Ready (cells_in a) (links_in k) st n m
first_ready a k left right st n m se ne room =
    let cs = cells_in a in let l = links_in k in let f = laid a k in
    let o = owes_room cs l f.small a.fit in
    record { within = subst (λ s. Within cs (length l) s) (sym se) (within_open cs (length l) left right f.small f.named); room = omega arith }

-- what is told of what is stacked is told of the next equation
module _ (kind : ℕ → ℕ → ℕ) (cs : List Cell) (small : length cs ≤ 1568) (l : List ℕ) (left right : ℕ) (st : List Pair) (se : st ≡ opened cs left right []) (after : List ℕ) (o : Outcome) where
  pub told_next : Tells kind cs l st after o → TellsNext kind cs l left right after o
  told_next t = tells_next kind cs small l left right after o st se t

  pub led_next : Leads kind cs l st after o → LeadsNext kind cs l left right after o
  led_next t = leads_next kind cs small l left right after o st se t
