-- Links that stand for equations between terms: the start, more cells, one more equation.
use Rattle.std.proofs.Common.{◌≡◌, ℕ, ◌≤◌, true, List, [], ◌∷◌, ◌++◌, length, refl, ap, ◌∙◌, subst, arith}
use Rattle.std.proofs.lemmas.List.{length-append}
use Rattle.typing.specs.Terms.{Term, ◌≈◌, Eqs, Subst, apply, KTerm, kinds, Alike}
use Rattle.typing.specs.Terms as Typing
use Rattle.typing.specs.Rules.{Means}
use Rattle.terms.specs.declared.Cell.{Cell}
use Rattle.graphs.specs.declared.Pair.{Pair}
use Rattle.unification.specs.declared.Outcome.{Outcome}
use Rattle.unification.specs.declared.Outcome.TheVariants.{Solved, False, Wrong}
use Rattle.graphs.specs.Links.{up_of, roots}
use Rattle.graphs.specs.Meaning.{arena, decode, answer, term_algebra, Live, AllLive, Grows, Unifies, Fits}
use Rattle.graphs.specs.Cells.{graph, node_at}
use Rattle.graphs.specs.Flat.{Stands}
use Rattle.graphs.specs.Whole.{Whole}
use Rattle.unification.specs.Outcomes.{Told, TellsNext, LeadsNext, equation}
use Rattle.unification.specs.Standing.{named, between, decoded, Standing, Unified}
use Rattle.graphs.proofs.Arena.{cells_forward}
use Rattle.graphs.proofs.CellLaws.{node_alive}
use Rattle.graphs.proofs.Flats.{stands_decode}
use Rattle.graphs.proofs.Grow.{going_grow, grow_value}
use Rattle.graphs.proofs.Outcomes.{told_solved}
use Rattle.graphs.proofs.Wholes.{cells_grow, acyclic_grow, start_going, start_acyclic, bare_fresh, whole_append, live_grow}
use Rattle.unification.proofs.Settled.{live_append}

-- the newest pair's equation comes first
decoded_last : (cs : List Cell) (ps : List Pair) (q : Pair) → decoded cs (ps ++ (q ∷ [])) ≡ between cs q ∷ decoded cs ps
decoded_last cs [] q = refl
decoded_last cs (p ∷ ps) q = ap (λ (E : Eqs). E ++ (between cs p ∷ [])) (decoded_last cs ps q)

-- equations read alike, one more at the end
module _ {A : Type 0} (value : Term → A) (t u : Term) where
  alike_append : (E : Eqs) → Alike value E → value t ≡ value u → Alike value (E ++ ((t ≈ u) ∷ []))
  alike_append [] a e = (e, tt)
  alike_append (x ∷ E) a e = (a.0, alike_append E a.1 e)

  alike_front : (E : Eqs) → Alike value (E ++ ((t ≈ u) ∷ [])) → Alike value E
  alike_front [] a = tt
  alike_front (x ∷ E) a = (a.0, alike_front E a.1)

  alike_last : (E : Eqs) → Alike value (E ++ ((t ≈ u) ∷ [])) → value t ≡ value u
  alike_last [] a = a.0
  alike_last (x ∷ E) a = alike_last E a.1

-- what unifies or fits the pairs does so with their equations
module _ (cs : List Cell) where
  abbrev at : ℕ → Term
  at = decode arena (graph cs)

  pub unifies_in : (θ : Subst) (ps : List Pair) → Unifies arena (graph cs) θ ps → Typing.Unifies θ (decoded cs ps)
  unifies_in θ [] w = tt
  unifies_in θ (p ∷ ps) w = alike_append (apply θ) (at p.left) (at p.right) (decoded cs ps) (unifies_in θ ps w.1) w.0

  pub unifies_out : (θ : Subst) (ps : List Pair) → Typing.Unifies θ (decoded cs ps) → Unifies arena (graph cs) θ ps
  unifies_out θ [] w = tt
  unifies_out θ (p ∷ ps) w =
      (alike_last (apply θ) (at p.left) (at p.right) (decoded cs ps) w, unifies_out θ ps (alike_front (apply θ) (at p.left) (at p.right) (decoded cs ps) w))

  module _ (kind : ℕ → ℕ → ℕ) where
    fits_in : (κ : ℕ → KTerm) (ps : List Pair) → Fits kind arena (graph cs) κ ps → Typing.Fits kind κ (decoded cs ps)
    fits_in κ [] w = tt
    fits_in κ (p ∷ ps) w = alike_append (kinds kind κ) (at p.left) (at p.right) (decoded cs ps) (fits_in κ ps w.1) w.0

    fits_out : (κ : ℕ → KTerm) (ps : List Pair) → Typing.Fits kind κ (decoded cs ps) → Fits kind arena (graph cs) κ ps
    fits_out κ [] w = tt
    fits_out κ (p ∷ ps) w =
        (alike_last (kinds kind κ) (at p.left) (at p.right) (decoded cs ps) w, fits_out κ ps (alike_front (kinds kind κ) (at p.left) (at p.right) (decoded cs ps) w))

    pub told_means : (ps : List Pair) (l : List ℕ) (o : Outcome) → Told kind cs ps l o → Means kind (decoded cs ps) (named o)
    told_means ps l Solved w = (_, unifies_in _ ps w.1.1.unifies)
    told_means ps l False w = ((w.fits.0, fits_in w.fits.0 ps w.fits.1), λ s. w.none s.0 (unifies_out s.0 ps s.1))
    told_means ps l Wrong w = λ s. w s.0 (fits_out s.0 ps s.1)

-- one more equation
module _ (kind : ℕ → ℕ → ℕ) (cs : List Cell) (small : length cs ≤ 1568) (l : List ℕ) (left right : ℕ) (l' : List ℕ) where
  abbrev pair : Pair
  pair = record { left = node_at cs left; right = node_at cs right }

  module _ (E : Eqs) (t u : Term) (s : Standing kind cs l E) (lt : Stands cs left t) (ru : Stands cs right u) where
    next_equations : decoded cs (s.pairs ++ equation cs left right) ≡ (t ≈ u) ∷ E
    next_equations =
        let a = stands_decode cs small left t lt in
        let b = stands_decode cs small right u ru in
        let e = s.equations in
        decoded_last cs s.pairs pair ∙ cc

    next_live : AllLive arena (graph cs) (s.pairs ++ equation cs left right)
    next_live = live_append cs s.pairs (equation cs left right) s.live (node_alive cs small left, node_alive cs small right, tt)

    next_means : (o : Outcome) → TellsNext kind cs l left right l' o → Means kind ((t ≈ u) ∷ E) (named o)
    next_means o tells =
        subst (λ (F : Eqs). Means kind F (named o)) next_equations
        (told_means cs kind (s.pairs ++ equation cs left right) l' o (tells s.pairs s.going s.acyclic s.live))

    next_standing : (o : Outcome) → LeadsNext kind cs l left right l' o → o ≡ Solved → Standing kind cs l' ((t ≈ u) ∷ E)
    next_standing Solved leads e =
        let w = leads s.pairs s.going s.acyclic in
        record { whole = s.whole; pairs = s.pairs ++ equation cs left right; live = next_live; going = w.0; acyclic = w.1; equations = next_equations }
    next_standing False leads e = let z : ◌≡◌ {A = ℕ} 0 1 = cc in absurd (omega arith)
    next_standing Wrong leads e = let z : ◌≡◌ {A = ℕ} 0 1 = cc in absurd (omega arith)

  pub unified : (o : Outcome) → TellsNext kind cs l left right l' o → LeadsNext kind cs l left right l' o → Unified kind cs l left right l' o
  unified o tells leads E t u s lt ru = (next_means E t u s lt ru o tells, next_standing E t u s lt ru o leads)

-- no cells and no links stand for no equations
pub standing_start : (kind : ℕ → ℕ → ℕ) → Standing kind [] (roots 0 2624) []
standing_start kind = record {
  whole = λ p h t. absurd (omega arith);
  pairs = [];
  live = tt;
  going = start_going kind [] 2624 [];
  acyclic = start_acyclic [] 2624 (omega arith);
  equations = refl;
}

-- more cells leave the terms of live nodes as they are
module _ (cs more : List Cell) (up : ℕ → ℕ) (small : length (cs ++ more) ≤ 1568) (grows : Grows (graph cs) (graph (cs ++ more)) up) where
  same_term : (n : ℕ) → Live arena (graph cs) n → decode arena (graph (cs ++ more)) n ≡ decode arena (graph cs) n
  same_term n live =
      let h = length-append cs more in
      grow_value (graph cs) (graph (cs ++ more)) up grows term_algebra arena (cells_forward cs (omega arith)) (cells_forward (cs ++ more) small) Typing.var n live

  same_equations : (ps : List Pair) → AllLive arena (graph cs) ps → decoded (cs ++ more) ps ≡ decoded cs ps
  same_equations [] a = refl
  same_equations (p ∷ ps) a =
      let l = same_term p.left a.0 in let r = same_term p.right a.1 in let i = same_equations ps a.2 in cc

-- whole terms added leave what links stand for as it is
pub standing_grow : (kind : ℕ → ℕ → ℕ) (cs more : List Cell) (l : List ℕ) (E : Eqs) → length (cs ++ more) ≤ 1568 → Whole more → Standing kind cs l E → Standing kind (cs ++ more) l E
standing_grow kind cs more l E small whole s =
    let fresh = bare_fresh cs more (up_of l) small s.going.bare in
    let grows = cells_grow cs more (up_of l) small s.whole fresh in
    record {
      whole = whole_append cs more s.whole whole;
      pairs = s.pairs;
      live = live_grow cs more s.pairs s.live;
      going = going_grow (graph cs) (graph (cs ++ more)) (up_of l) grows kind s.pairs true s.going;
      acyclic = acyclic_grow cs more (up_of l) small s.whole fresh s.going.tied s.acyclic.0 s.acyclic.1;
      equations = same_equations cs more (up_of l) small grows s.pairs s.live ∙ s.equations;
    }

-- what links stand for has a solution
pub standing_solvable : (kind : ℕ → ℕ → ℕ) (cs : List Cell) (l : List ℕ) (E : Eqs) → length cs ≤ 1568 → Standing kind cs l E → (θ : Subst) × Typing.Unifies θ E
standing_solvable kind cs l E small s =
    let θ = answer arena (graph cs) (up_of l) s.acyclic.0 in
    let w = told_solved kind cs small s.pairs s.live true l s.going s.acyclic.0 s.acyclic.1 refl in
    (θ, subst (Typing.Unifies θ) s.equations (unifies_in cs θ s.pairs w.unifies))
