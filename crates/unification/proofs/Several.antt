-- Several equations at once: what is stacked is ready, and stands for all of them.
use Rattle.std.proofs.Common.{◌≡◌, ℕ, ◌+◌, ◌<◌, ◌≤◌, true, List, [], ◌∷◌, ◌++◌, length, get_or, drop, sym, ap, ◌∙◌, subst, arith}
use Rattle.std.proofs.lemmas.List.{append-nil, append_assoc, at_drop_more, at_drop_all}
use Rattle.typing.specs.Terms.{Term, ◌≈◌, Eqs}
use Rattle.typing.specs.Terms as Typing
use Rattle.typing.specs.Rules.{Means}
use Rattle.terms.specs.declared.Cell.{Cell}
use Rattle.graphs.specs.declared.Pair.{Pair}
use Rattle.graphs.specs.Links.{up_of}
use Rattle.graphs.specs.Meaning.{arena, decode, AllLive, Going}
use Rattle.graphs.specs.Cells.{graph, node_at}
use Rattle.unification.specs.declared.Equation.{Equation}
use Rattle.unification.specs.declared.Outcome.{Outcome}
use Rattle.unification.specs.declared.Outcome.TheVariants.{Solved, False, Wrong}
use Rattle.unification.specs.declared.arena.Arena.{Arena}
use Rattle.unification.specs.declared.links.Links.{Links}
use Rattle.unification.specs.State.{cells_in, links_in}
use Rattle.unification.specs.Run.{Ready, Within}
use Rattle.unification.specs.Outcomes.{Tells, Leads}
use Rattle.unification.specs.Standing.{named, between, decoded, Standing}
use Rattle.unification.specs.Several.{stacked, SpeltAt, UnifiedAll}
use Rattle.graphs.proofs.CellLaws.{node_alive}
use Rattle.graphs.proofs.Flats.{stands_decode}
use Rattle.graphs.proofs.Grow.{going_push}
use Rattle.graphs.proofs.Wholes.{owes_room}
use Rattle.unification.proofs.Runs.{laid}
use Rattle.unification.proofs.Settled.{live_append}
use Rattle.unification.proofs.Standing.{told_means}

abbrev nowhere : Equation
nowhere = record { left = 0; right = 0 }

-- one equation is stacked
pub stacked_more : (cs : List Cell) (es : List Equation) (i : ℕ) (st rest : List Pair) → i < length es → stacked cs (drop i es) st ≡ rest
    → stacked cs (drop (i + 1) es) (record { left = node_at cs (get_or es i nowhere).left; right = node_at cs (get_or es i nowhere).right } ∷ st) ≡ rest
stacked_more cs es i st rest h e =
    let m : stacked cs (drop i es) st ≡ stacked cs (drop (i + 1) es) (record { left = node_at cs (get_or es i nowhere).left; right = node_at cs (get_or es i nowhere).right } ∷ st) = at_drop_more (λ xs. stacked cs xs st) es i nowhere h in
    sym m ∙ e

pub stacked_end : (cs : List Cell) (es : List Equation) (i : ℕ) (st rest : List Pair) → length es ≤ i → stacked cs (drop i es) st ≡ rest → st ≡ rest
stacked_end cs es i st rest h e =
    let m : stacked cs (drop i es) st ≡ st = at_drop_all (λ xs. stacked cs xs st) es i h in
    sym m ∙ e

decoded_append : (cs : List Cell) (ps qs : List Pair) → decoded cs (ps ++ qs) ≡ decoded cs qs ++ decoded cs ps
decoded_append cs [] qs = sym (append-nil (decoded cs qs))
decoded_append cs (p ∷ ps) qs = ap (λ (E : Eqs). E ++ (between cs p ∷ [])) (decoded_append cs ps qs) ∙ append_assoc (decoded cs qs) (decoded cs ps) (between cs p ∷ [])

sides : (t u : Term) (q : Typing.Equation) → t ≡ q.left → u ≡ q.right → (t ≈ u) ≡ q
sides t u q a b = ap (λ x. x ≈ u) a ∙ ap (λ x. q.left ≈ x) b

module _ (cs : List Cell) (small : length cs ≤ 1568) where
  -- what is stacked stands for the equations of the places, in their order
  decoded_stacked : (es : List Equation) (st : List Pair) (F : Eqs) → SpeltAt cs es F → decoded cs (stacked cs es st) ≡ decoded cs st ++ F
  decoded_stacked [] st [] s = sym (append-nil (decoded cs st))
  decoded_stacked [] st (q ∷ F) s = absurd s
  decoded_stacked (e ∷ es) st [] s = absurd s
  decoded_stacked (e ∷ es) st (q ∷ F) s =
      let p : Pair = record { left = node_at cs e.left; right = node_at cs e.right } in
      let a = stands_decode cs small e.left q.left s.0 in
      let b = stands_decode cs small e.right q.right s.1 in
      let same : between cs p ≡ q = sides (decode arena (graph cs) p.left) (decode arena (graph cs) p.right) q a b in
      decoded_stacked es (p ∷ st) F s.2 ∙ (append_assoc (decoded cs st) (between cs p ∷ []) F ∙ ap (λ x. decoded cs st ++ (x ∷ F)) same)

  live_stacked : (es : List Equation) (st : List Pair) → AllLive arena (graph cs) st → AllLive arena (graph cs) (stacked cs es st)
  live_stacked [] st a = a
  live_stacked (e ∷ es) st a = live_stacked es (record { left = node_at cs e.left; right = node_at cs e.right } ∷ st) (node_alive cs small e.left, node_alive cs small e.right, a)

  within_stacked : (m : ℕ) → ((p : ℕ) → node_at cs p < m) → (es : List Equation) (st : List Pair) → Within cs m st → Within cs m (stacked cs es st)
  within_stacked m bound [] st w = w
  within_stacked m bound (e ∷ es) st w =
      within_stacked m bound es (record { left = node_at cs e.left; right = node_at cs e.right } ∷ st)
      ((bound e.left, node_alive cs small e.left), (bound e.right, node_alive cs small e.right), w)

  -- all equations added
  module _ (kind : ℕ → ℕ → ℕ) (l : List ℕ) (es : List Equation) (l' : List ℕ) where
    module _ (E F : Eqs) (s : Standing kind cs l E) (spelt : SpeltAt cs es F) where
      abbrev all : List Pair
      all = s.pairs ++ stacked cs es []

      all_equations : decoded cs all ≡ F ++ E
      all_equations =
          decoded_append cs s.pairs (stacked cs es []) ∙ (ap (λ (x : Eqs). x ++ decoded cs s.pairs) (decoded_stacked es [] F spelt) ∙ ap (λ (x : Eqs). F ++ x) s.equations)

      all_live : AllLive arena (graph cs) all
      all_live = live_append cs s.pairs (stacked cs es []) s.live (live_stacked es [] tt)

      all_going : Going kind (graph cs) all true (up_of l) (stacked cs es [])
      all_going = going_push kind (graph cs) s.pairs (stacked cs es []) true (up_of l) s.going

      all_means : (o : Outcome) → Tells kind cs l (stacked cs es []) l' o → Means kind (F ++ E) (named o)
      all_means o tells = subst (λ (x : Eqs). Means kind x (named o)) all_equations (told_means cs kind all l' o (tells all all_going s.acyclic all_live))

      all_standing : (o : Outcome) → Leads kind cs l (stacked cs es []) l' o → o ≡ Solved → Standing kind cs l' (F ++ E)
      all_standing Solved leads e =
          let w = leads all all_going s.acyclic in
          record { whole = s.whole; pairs = all; live = all_live; going = w.0; acyclic = w.1; equations = all_equations }
      all_standing False leads e = let z : ◌≡◌ {A = ℕ} 0 1 = cc in absurd (omega arith)
      all_standing Wrong leads e = let z : ◌≡◌ {A = ℕ} 0 1 = cc in absurd (omega arith)

    pub unified_all : (o : Outcome) → Tells kind cs l (stacked cs es []) l' o → Leads kind cs l (stacked cs es []) l' o → UnifiedAll kind cs l es l' o
    unified_all o tells leads E F s spelt = (all_means E F s spelt o tells, all_standing E F s spelt o leads)

-- unless all are solved, nothing is told of the links after
pub unified_false : (kind : ℕ → ℕ → ℕ) (cs : List Cell) (l : List ℕ) (es : List Equation) (l' back : List ℕ) → UnifiedAll kind cs l es l' False → UnifiedAll kind cs l es back False
unified_false kind cs l es l' back u E F s spelt = ((u E F s spelt).0, λ e. let z : ◌≡◌ {A = ℕ} 0 1 = cc in absurd (omega arith))

pub unified_wrong : (kind : ℕ → ℕ → ℕ) (cs : List Cell) (l : List ℕ) (es : List Equation) (l' back : List ℕ) → UnifiedAll kind cs l es l' Wrong → UnifiedAll kind cs l es back Wrong
unified_wrong kind cs l es l' back u E F s spelt = ((u E F s spelt).0, λ e. let z : ◌≡◌ {A = ℕ} 0 1 = cc in absurd (omega arith))

-- the stack of all equations is ready to be solved
pub all_ready : (a : Arena) (k : Links) (es : List Equation) (st : List Pair) (n m : ℕ) → st ≡ stacked (cells_in a) es [] → n ≤ 16 → 12864 ≤ m → Ready (cells_in a) (links_in k) st n m
all_ready a k es st n m se ne room =
    let cs = cells_in a in let l = links_in k in let f = laid a k in
    let o = owes_room cs l f.small a.fit in
    record { within = subst (λ s. Within cs (length l) s) (sym se) (within_stacked cs f.small (length l) f.named es [] tt); room = omega arith }

-- what is told of the stack, told of the equations
pub all_unified : (kind : ℕ → ℕ → ℕ) (cs : List Cell) (l : List ℕ) (es : List Equation) (st : List Pair) (after : List ℕ) (o : Outcome) → length cs ≤ 1568
    → st ≡ stacked cs es [] → Tells kind cs l st after o → Leads kind cs l st after o → UnifiedAll kind cs l es after o
all_unified kind cs l es st after o small se tells leads =
    unified_all cs small kind l es after o (subst (λ s. Tells kind cs l s after o) se tells) (subst (λ s. Leads kind cs l s after o) se leads)
