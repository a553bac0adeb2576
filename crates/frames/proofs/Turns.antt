-- One turn: the newest frame goes back, and its next clause is a step.
use Rattle.std.proofs.Common.{◌≡◌, ℕ, ◌<◌, ◌≤◌, Bool, true, false, not, ◌⊎◌, List, [], ◌∷◌, length, is_some, Some, None, Option, sym, refl, ap, ◌∙◌, subst, inl, inr, arith}
use Rattle.terms.specs.declared.Cell.{Cell}
use Rattle.typing.specs.Terms.{Signature}
use Rattle.trees.specs.Tree.{Program}
use Rattle.trees.specs.Summaries.{Summary}
use Rattle.trees.specs.Search.{Toward}
use Rattle.programs.specs.Spelling.{Spells}
use Rattle.unification.specs.declared.Outcome.{Outcome}
use Rattle.verdicts.specs.declared.ending.Tally.{Tally}
use Rattle.frames.specs.declared.Waiting.{Waiting}
use Rattle.frames.specs.declared.Frame.{Frame}
use Rattle.frames.specs.declared.Node.{Node}
use Rattle.frames.specs.Frames.{list_at, Fetched, trodden_after}
use Rattle.frames.specs.Memory.{Memory, back, Grown}
use Rattle.frames.specs.Goals.{First}
use Rattle.trees.proofs.Toward.{toward_end}
use Rattle.frames.specs.Owed.{Owing, Owes, Tallied, Underway, Arrives, one_more}
use Rattle.frames.specs.Steps.{with_cells, next_clause, Resolved}
use Rattle.frames.proofs.Memories.{memory_path}
use Rattle.frames.proofs.Steps.{finished, counted, stepped, loaded_since}

pub none_of : (o : Option ℕ) → is_some o ≡ false → o ≡ None
none_of None e = refl
none_of (Some n) e = absurd (cc)

-- going back leaves the branch and the shortest path as they are
pub same_branch : (home : Memory) (P : Program) (kind : Signature) (limit : ℕ) (whole : Summary) (m : Memory) (trodden trodden' best best' : List ℕ) (fs : List Frame) (t : Tally) → trodden' ≡ trodden → best' ≡ best
    → Underway home P kind limit whole m trodden best fs t → Underway home P kind limit whole m trodden' best' fs t
same_branch home P kind limit whole m trodden trodden' best best' fs t p q on =
    subst (λ x. Underway home P kind limit whole m x best' fs t) (sym p) (subst (λ x. Underway home P kind limit whole m trodden x fs t) (sym q) on)

-- unless the clause is the first, there is one
pub first_of : (o : Option ℕ) (b : Bool) (i : ℕ) → is_some o ≡ not b → (((b ≡ true) × (i ≤ 0)) ⊎ (b ≡ false)) → o ≡ None → i ≡ 0
first_of o b i e (inl h) n = let l = h.1 in omega arith
first_of o b i e (inr h) n = absurd (let x : false ≡ true = sym (ap is_some n) ∙ (e ∙ ap not h) in cc)

module _ (home : Memory) (P : Program) (kind : Signature) (limit : ℕ) (whole : Summary) (m₀ : Memory) (trodden best : List ℕ) (f : Frame) (fs : List Frame) (t : Tally)
    (on : Underway home P kind limit whole m₀ trodden best (f ∷ fs) t) (m : Memory) (gone : m ≡ back m₀ f) where
  owing : Owing home P kind limit trodden m f on.owes.0
  owing = subst (λ x. Owing home P kind limit trodden x f on.owes.0) (sym gone) on.owes.3

  owes : Owes home P kind limit trodden m fs on.owes.1
  owes = subst (λ x. Owes home P kind limit trodden x fs on.owes.1) (sym gone) on.owes.5

  toward : Toward P kind limit whole on.sum (on.owes.0 ∷ on.owes.1)
  toward = subst (Toward P kind limit whole on.sum) on.owes.2 on.toward

  module _ (lists : ℕ → ℕ → List (List Cell)) (spells : Spells P lists) (w : Waiting) (nth : First m.waiting f.node.goals w) (cs : List Cell) (head : Option ℕ)
      (fetched : Fetched (list_at lists m.cells w.goal) f.clause f.node.step m.cells cs head) where
    -- all its clauses have been tried
    pub turn_done : head ≡ None → 0 < f.clause → (m' : Memory) → m' ≡ with_cells m cs → Underway home P kind limit whole m' trodden best fs t
    turn_done none some m' same =
        let fetched' = subst (Fetched (list_at lists m.cells w.goal) f.clause f.node.step m.cells cs) none fetched in
        let back-again : m ≡ m' = memory_path m (with_cells m cs) (sym fetched'.1) refl refl refl ∙ sym same in
        subst (λ x. Underway home P kind limit whole x trodden best fs t) back-again
        (finished home P kind limit whole lists spells m f fs on.owes.0 on.owes.1 trodden best t on.sum owing on.owes.4 owes on.tallied toward w nth cs fetched' some)

    pub turn_since : length cs ≤ 1568 → (m' : Memory) → m' ≡ with_cells m cs → Grown home m'
    turn_since small m' same =
        subst (Grown home) (sym same)
        (loaded_since home P kind limit whole lists spells m f fs on.owes.0 on.owes.1 trodden best t on.sum owing on.owes.4 owes on.tallied toward w nth cs head small fetched)

    module _ (first : head ≡ None → f.clause ≡ 0) where
      -- a step is to come
      pub turn_counts : t.steps < whole.edges
      turn_counts =
          let n = counted home P kind limit whole lists spells m f fs on.owes.0 on.owes.1 trodden best t on.sum owing on.owes.4 owes on.tallied toward w nth cs head fetched first in
          let s = on.tallied.steps in omega arith

      pub turn_steps : length cs ≤ 1568 → f.node.step < length trodden → (m₂ m' : Memory) → m₂ ≡ with_cells m cs → (n : Node) (o : Outcome) (trodden' : List ℕ)
          → Resolved kind f w head m₂ m' n o → trodden' ≡ trodden_after head trodden f.node.step f.clause
          → Arrives home P kind limit whole m' trodden' best (next_clause f ∷ fs) (one_more t) n o
      turn_steps small long m₂ m' same n o trodden' resolved path =
          stepped home P kind limit whole lists spells m f fs on.owes.0 on.owes.1 trodden best t on.sum owing on.owes.4 owes on.tallied toward w nth cs head small long fetched first m' n o trodden'
          (subst (λ x. Resolved kind f w head x m' n o) same resolved) path

-- no frame is left: the tally is the whole tree's
pub walk_ended : (home : Memory) (P : Program) (kind : Signature) (limit : ℕ) (whole : Summary) (m : Memory) (trodden best : List ℕ) (fs : List Frame) (t : Tally) → fs ≡ []
    → Underway home P kind limit whole m trodden best fs t → Tallied t best whole × Grown home m
walk_ended home P kind limit whole m trodden best fs t none on₀ =
    let on = subst (λ x. Underway home P kind limit whole m trodden best x t) none on₀ in
    (subst (Tallied t best) (toward_end P kind limit whole on.sum (subst (Toward P kind limit whole on.sum) on.owes.0 on.toward)) on.tallied, on.owes.1)
