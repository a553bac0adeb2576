use Rattle.std.proofs.Common.{◌≡◌, ℕ, ◌≤◌, Bool, true, false, List, [], ◌∷◌, ◌++◌, length, Some, None, sym, refl, subst, arith}
use Rattle.terms.specs.declared.Cell.{Cell}
use Rattle.graphs.specs.declared.Pair.{Pair}
use Rattle.unification.specs.declared.solve.Tally.{Tally}
use Rattle.unification.specs.declared.Outcome.{Outcome}
use Rattle.unification.specs.declared.Outcome.TheVariants.{Wrong}
use Rattle.graphs.specs.Graph.{Acyclic}
use Rattle.graphs.specs.Links.{up_of, restore}
use Rattle.graphs.specs.Meaning.{arena, Going, AllLive}
use Rattle.graphs.specs.Cells.{graph}
use Rattle.graphs.specs.Search.{Cyclic}
use Rattle.unification.specs.Run.{Ran, StaysChecked}
use Rattle.unification.specs.Outcomes.{Tells, Leads, TellsNext, LeadsNext, equation, opened, outcome_of}
use Rattle.graphs.proofs.Outcomes.{told_lost, told_cyclic, told_solved, told_false, answer_lowest}
use Rattle.graphs.proofs.CellLaws.{node_alive}
use Rattle.unification.proofs.Opened.{going_open}

module _ (kind : ℕ → ℕ → ℕ) (cs : List Cell) (small : length cs ≤ 1568) (l : List ℕ) (st : List Pair) (l' : List ℕ) where
  pub lost_tells : Ran kind cs l st l' None → Tells kind cs l st l' Wrong
  lost_tells ran E e a live = told_lost kind cs small E live (ran E e)

  module _ (t : Tally) (ran : Ran kind cs l st l' (Some t)) (nodes : List ℕ) where
    cyclic : (d : Bool) → StaysChecked d cs l' nodes false → Cyclic cs l'
    cyclic true c = c
    cyclic false c = let z : ◌≡◌ {A = ℕ} 0 1 = cc in absurd (omega arith)

    pub cyclic_tells : StaysChecked t.deep cs l' nodes false → Tells kind cs l st l' Wrong
    cyclic_tells c E e a live = told_cyclic kind cs small E live t.equal l' (ran.0 E e) (cyclic t.deep c)

    module _ (back : restore l' nodes ≡ l) (checked : StaysChecked t.deep cs l' nodes true) where
      still : Acyclic (graph cs) (up_of l) → Acyclic (graph cs) (up_of l')
      still a = go t.deep refl
        where
          go : (d : Bool) → t.deep ≡ d → Acyclic (graph cs) (up_of l')
          go true e = subst (λ d. StaysChecked d cs l' nodes true) e checked (subst (λ x. Acyclic (graph cs) (up_of x)) (sym back) a)
          go false e = ran.1 e a

      fits_tells : (b : Bool) → t.equal ≡ b → Tells kind cs l st l' (outcome_of b)
      fits_tells true b E e a live =
          let o = still a in let g = ran.0 E e in
          (o.0, (o.1, told_solved kind cs small E live t.equal l' g o.0 o.1 b, answer_lowest cs small l' o.0 g.sound g.tied o.1))
      fits_tells false b E e a live =
          let o = still a in told_false kind cs small E live t.equal l' (ran.0 E e) o.0 o.1 b

      fits_leads : (b : Bool) → t.equal ≡ b → Leads kind cs l st l' (outcome_of b)
      fits_leads true b E e a = (subst (λ f. Going kind (graph cs) E f (up_of l') []) b (ran.0 E e), still a)
      fits_leads false b E e a = tt

      pub settled_tells : (o : Outcome) → o ≡ outcome_of t.equal → Tells kind cs l st l' o
      settled_tells o oe = subst (Tells kind cs l st l') (sym oe) (fits_tells t.equal refl)

      pub settled_leads : (o : Outcome) → o ≡ outcome_of t.equal → Leads kind cs l st l' o
      settled_leads o oe = subst (Leads kind cs l st l') (sym oe) (fits_leads t.equal refl)

-- one more equation on a solved system
pub live_append : (cs : List Cell) (E F : List Pair) → AllLive arena (graph cs) E → AllLive arena (graph cs) F → AllLive arena (graph cs) (E ++ F)
live_append cs [] F a b = b
live_append cs (p ∷ E) F a b = (a.0, a.1, live_append cs E F a.2 b)

module _ (kind : ℕ → ℕ → ℕ) (cs : List Cell) (small : length cs ≤ 1568) (l : List ℕ) (left right : ℕ) (l' : List ℕ) (o : Outcome) (st : List Pair) (se : st ≡ opened cs left right []) where
  going_next : (E : List Pair) → Going kind (graph cs) E true (up_of l) [] → Going kind (graph cs) (E ++ equation cs left right) true (up_of l) st
  going_next E e = subst (Going kind (graph cs) (E ++ equation cs left right) true (up_of l)) (sym se) (going_open kind cs E l left right e)

  pub tells_next : Tells kind cs l st l' o → TellsNext kind cs l left right l' o
  tells_next t E e a live =
      t (E ++ equation cs left right) (going_next E e) a
      (live_append cs E (equation cs left right) live (node_alive cs small left, node_alive cs small right, tt))

  pub leads_next : Leads kind cs l st l' o → LeadsNext kind cs l left right l' o
  leads_next t E e a = t (E ++ equation cs left right) (going_next E e) a
