-- What unifying goal and head leaves behind, by its outcome.
use Rattle.std.proofs.Common.{◌≡◌, ℕ, ◌+◌, List, ◌++◌, take, drop, Some, Option, sym, refl, ap, ◌∙◌, subst}
use Rattle.terms.specs.declared.Cell.{Cell}
use Rattle.typing.specs.Terms.{Signature}
use Rattle.trees.specs.Tree.{Goal}
use Rattle.graphs.specs.Cells.{after}
use Rattle.graphs.specs.Links.{restore}
use Rattle.programs.specs.Spelling.{spell_goals}
use Rattle.unification.specs.declared.Outcome.{Outcome}
use Rattle.unification.specs.declared.Outcome.TheVariants as outcome
use Rattle.unification.specs.Outcomes.{Settles}
use Rattle.unification.specs.Standing.{Unified}
use Rattle.frames.specs.declared.Waiting.{Waiting}
use Rattle.frames.specs.declared.Frame.{Frame}
use Rattle.frames.specs.declared.Node.{Node}
use Rattle.frames.specs.Memory.{Memory, rolled}
use Rattle.frames.specs.Goals.{Lists}
use Rattle.frames.specs.Steps.{dropped, TakenUp, Resolved}
use Rattle.frames.proofs.Memories.{memory_path}
use Rattle.frames.proofs.Listing.{later_of}

module _ (kind : Signature) (f : Frame) (w : Waiting) (head : Option ℕ) (h : ℕ) (some : head ≡ Some h) (m : Memory) (n : Node) (o : Outcome) where
  -- solved: cells, links and trail after the new equation, and the goals that wait after its body is listed
  pub resolved_solved : o ≡ outcome.Solved → (cs : List Cell) (l t : List ℕ) (ws : List Waiting) (place k : ℕ)
      → Unified kind m.cells m.links w.goal h l o → Settles m.links m.trail l t o → cs ≡ m.cells
      → place ≡ after cs h → take k ws ≡ m.waiting
      → ((bs gs : List Goal) → drop place cs ≡ spell_goals bs → Lists cs m.waiting w.rest gs → Lists cs ws n.goals (bs ++ gs))
      → n.flag ≡ f.node.flag → n.step ≡ f.node.step + 1
      → Resolved kind f w head m (record { cells = cs; links = l; trail = t; waiting = ws }) n o
  resolved_solved is cs l t ws place k told settles same at kept lists flag step =
      let m' : Memory = record { cells = cs; links = l; trail = t; waiting = ws } in
      let up : TakenUp kind f w h m m' n =
      record {
        told = subst (Unified kind m.cells m.links w.goal h l) is told;
        cells = same;
        logged = subst (Settles m.links m.trail l t) is settles;
        later = drop k ws;
        waiting = later_of k m.waiting ws kept;
        goals = λ bs gs e g. lists bs gs (ap (λ p. drop p cs) at ∙ subst (λ x. drop (after x h) x ≡ spell_goals bs) (sym same) e) (subst (λ x. Lists x m.waiting w.rest gs) (sym same) g);
        flag = flag;
        step = step;
      } in
      subst (λ x. Resolved kind f w x m m' n o) (sym some) (subst (Resolved kind f w (Some h) m m' n) (sym is) up)

  -- otherwise the bindings are rolled back
  pub resolved_other : (o ≡ outcome.Solved → ⊥) → (cs : List Cell) (l t : List ℕ) (m' : Memory)
      → Unified kind m.cells m.links w.goal h l o → Settles m.links m.trail l t o → cs ≡ m.cells
      → m'.cells ≡ take f.bindings.cells cs → m'.links ≡ restore l (drop f.bindings.trail t) → m'.trail ≡ take f.bindings.trail t → m'.waiting ≡ m.waiting
      → n ≡ dropped f w → Resolved kind f w head m m' n o
  resolved_other not-solved cs l t m' told settles same cells links trail waiting node =
      subst (λ x. Resolved kind f w x m m' n o) (sym some) (by o refl told settles)
    where
      back : l ≡ m.links → t ≡ m.trail → m' ≡ rolled m f.bindings
      back le te =
          memory_path m' (rolled m f.bindings) (cells ∙ ap (take f.bindings.cells) same)
          (links ∙ (ap (λ x. restore x (drop f.bindings.trail t)) le ∙ ap (λ x. restore m.links (drop f.bindings.trail x)) te))
          (trail ∙ ap (take f.bindings.trail) te) waiting

      by : (p : Outcome) → o ≡ p → Unified kind m.cells m.links w.goal h l p → Settles m.links m.trail l t p → Resolved kind f w (Some h) m m' n p
      by outcome.Solved e u s = absurd (not-solved e)
      by outcome.False e u s = ((λ E t u' a b c. (u E t u' a b c).0), back s.0 s.1, node)
      by outcome.Wrong e u s = ((λ E t u' a b c. (u E t u' a b c).0), back s.0 s.1, node)
