-- What becomes of a node that has just been reached.
use Rattle.std.proofs.Common.{◌≡◌, ℕ, ◌<◌, ◌≤◌, Bool, true, false, cond, ltb, leb, List, [], ◌∷◌, length, take, is_some, Some, None, Option, sym, refl, ap, ◌∙◌, subst, arith}
use mathlib.Core.Option as option
use Rattle.std.proofs.Math.Bool.{or-false, or-true, and-false}
use Rattle.std.proofs.lemmas.List.{length-take-le}
use Rattle.std.proofs.lemmas.Bool.{leb-true, leb-false}
use Rattle.typing.specs.Terms.{Signature}
use Rattle.trees.specs.Tree.{Goal, Program}
use Rattle.trees.specs.Summaries.{Summary, better, ◌⊕◌, at_success, at_failed, at_cut}
use Rattle.trees.specs.Search.{node, Toward}
use Rattle.trees.proofs.Toward.{toward_success, toward_failed, toward_cut}
use Rattle.unification.specs.declared.Outcome.{Outcome}
use Rattle.unification.specs.declared.Outcome.TheVariants as outcome
use Rattle.verdicts.specs.declared.ending.Left.TheVariants as left
use Rattle.verdicts.specs.declared.ending.Left.{Left}
use Rattle.verdicts.specs.declared.ending.Ending.{Ending}
use Rattle.verdicts.specs.declared.ending.Ending.TheVariants.{Success, Untrue, Wrong, Cut}
use Rattle.verdicts.specs.declared.ending.Tally.{Tally}
use Rattle.verdicts.specs.Leaves.{state_of, ending_of, shorter, least}
use Rattle.frames.specs.declared.Frame.{Frame}
use Rattle.frames.specs.declared.Node.{Node}
use Rattle.frames.specs.Memory.{Memory, Marks}
use Rattle.frames.specs.Goals.{Lists}
use Rattle.frames.specs.Owed.{Reached, Owing, Owes, Kept, Tallied, Underway, Entering, Arrives, frame_at, frames_after, best_after, tally_after}
use Rattle.frames.proofs.Memories.{back_here}

pub better_none : (o : option.Option (List ℕ)) → better o option.none ≡ o
better_none option.none = refl
better_none (option.some p) = refl

-- of two paths the shorter is kept, by its length
kept_shorter : (b : Bool) (k j : ℕ) (r p trodden best : List ℕ) → length r ≡ k → take k trodden ≡ r → length p ≡ j → take j best ≡ p
    → Kept (cond b (Some k) (Some j)) (cond b trodden best) (cond b (option.some r) (option.some p))
kept_shorter true k j r p trodden best l e m f = (l, e)
kept_shorter false k j r p trodden best l e m f = (m, f)

kept_success : (uses : Option ℕ) (o : option.Option (List ℕ)) (k : ℕ) (r trodden best : List ℕ) → length r ≡ k → take k trodden ≡ r → Kept uses best o
    → Kept (least uses k) (cond (shorter uses k) trodden best) (better o (option.some r))
kept_success None option.none k r trodden best l e h = (l, e)
kept_success None (option.some p) k r trodden best l e h = absurd h
kept_success (Some j) option.none k r trodden best l e h = absurd h
kept_success (Some j) (option.some p) k r trodden best l e h =
    let same : ltb (length r) (length p) ≡ ltb k j = ap (λ x. ltb x (length p)) l ∙ ap (ltb k) h.0 in
    subst (λ b. Kept (cond (ltb k j) (Some k) (Some j)) (cond (ltb k j) trodden best) (cond b (option.some r) (option.some p))) (sym same)
    (kept_shorter (ltb k j) k j r p trodden best l e h.0 h.1)

module _ (t : Tally) (best : List ℕ) (a : Summary) (h : Tallied t best a) where
  tallied_success : (k : ℕ) (r trodden : List ℕ) → length r ≡ k → take k trodden ≡ r
      → Tallied (tally_after (Some Success) t k) (best_after (Some Success) t.leaves k trodden best) (a ⊕ at_success r)
  tallied_success k r trodden l e =
      let s = h.steps in
      record { steps = omega arith; uses = kept_success t.leaves.uses a.best k r trodden best l e h.uses; cut = or-false a.any_cut ∙ h.cut; wrong = and-false a.all_wrong }

  tallied_failed : (k : ℕ) → Tallied (tally_after (Some Untrue) t k) best (a ⊕ at_failed)
  tallied_failed k =
      let s = h.steps in
      record { steps = omega arith; uses = subst (Kept t.leaves.uses best) (sym (better_none a.best)) h.uses; cut = or-false a.any_cut ∙ h.cut; wrong = and-false a.all_wrong }

  tallied_cut : (k : ℕ) → Tallied (tally_after (Some Cut) t k) best (a ⊕ at_cut)
  tallied_cut k =
      let s = h.steps in
      record { steps = omega arith; uses = subst (Kept t.leaves.uses best) (sym (better_none a.best)) h.uses; cut = or-true a.any_cut; wrong = and-false a.all_wrong }

marks_at : (m : Memory) (n : Node) → Marks m (frame_at m n)
marks_at m n = record { cells = refl; trail = refl; waiting = refl }

module _ (home : Memory) (P : Program) (kind : Signature) (limit : ℕ) (whole : Summary) (m : Memory) (trodden best : List ℕ) (fs : List Frame) (t : Tally) (n : Node) (long : n.step ≤ length trodden) where
  abbrev After : Option Ending → Type 0
  After end = Underway home P kind limit whole m trodden (best_after end t.leaves n.step trodden best) (frames_after end (frame_at m n) fs) (tally_after end t n.step)

  abbrev left_at : Left
  left_at = state_of (is_some n.goals) n.step limit

  on_nothing : (e : Entering home P kind limit whole m trodden best fs t n) → e.goals ≡ [] → left_at ≡ left.Nothing
  on_nothing e none =
      let z : n.goals ≡ None = subst (λ gs. Lists m.cells m.waiting n.goals gs) none e.reached.goals in
      ap (λ o. state_of (is_some o) n.step limit) z

  on_some : (e : Entering home P kind limit whole m trodden best fs t n) (g : Goal) (gs : List Goal) → e.goals ≡ g ∷ gs → left_at ≡ state_of true n.step limit
  on_some e g gs some =
      ap (λ o. state_of (is_some o) n.step limit) (subst (λ gs. Lists m.cells m.waiting n.goals gs) some e.reached.goals).1.some

  success : (e : Entering home P kind limit whole m trodden best fs t n) → e.goals ≡ [] → n.flag ≡ true → After (Some Success)
  success e none flag =
      let path = e.reached.path flag in
      let l : length e.path ≡ n.step = sym (ap length path) ∙ length-take-le n.step trodden long in
      record {
        sum = e.sum ⊕ at_success e.path;
        works = e.works;
        owes = e.owes;
        tallied = tallied_success t best e.sum e.tallied n.step e.path trodden l path;
        toward = toward_success P kind limit whole e.sum e.works e.path e.equations n.step
            (subst (λ f. Toward P kind limit whole e.sum (node e.path f [] e.equations n.step ∷ e.works)) flag
            (subst (λ gs. Toward P kind limit whole e.sum (node e.path n.flag gs e.equations n.step ∷ e.works)) none e.toward));
      }

  failed : (e : Entering home P kind limit whole m trodden best fs t n) → e.goals ≡ [] → n.flag ≡ false → After (Some Untrue)
  failed e none flag =
      record {
        sum = e.sum ⊕ at_failed;
        works = e.works;
        owes = e.owes;
        tallied = tallied_failed t best e.sum e.tallied n.step;
        toward = toward_failed P kind limit whole e.sum e.works e.path e.equations n.step
            (subst (λ f. Toward P kind limit whole e.sum (node e.path f [] e.equations n.step ∷ e.works)) flag
            (subst (λ gs. Toward P kind limit whole e.sum (node e.path n.flag gs e.equations n.step ∷ e.works)) none e.toward));
      }

  cut : (e : Entering home P kind limit whole m trodden best fs t n) (g : Goal) (gs : List Goal) → e.goals ≡ g ∷ gs → limit ≤ n.step → After (Some Cut)
  cut e g gs some late =
      record {
        sum = e.sum ⊕ at_cut;
        works = e.works;
        owes = e.owes;
        tallied = tallied_cut t best e.sum e.tallied n.step;
        toward = toward_cut P kind limit whole e.sum e.works e.path e.equations n.step n.flag g gs late
            (subst (λ gs. Toward P kind limit whole e.sum (node e.path n.flag gs e.equations n.step ∷ e.works)) some e.toward);
      }

  on : (e : Entering home P kind limit whole m trodden best fs t n) (g : Goal) (gs : List Goal) → e.goals ≡ g ∷ gs → n.step < limit → After None
  on e g gs some early =
      let w = node e.path n.flag (g ∷ gs) e.equations n.step in
      let here = sym (back_here m (frame_at m n) (marks_at m n)) in
      let owing : Owing home P kind limit trodden m (frame_at m n) w =
      record { since = e.since; marks = marks_at m n; early = early; path = e.path; goal = g; rest = gs; equations = e.equations; reached = subst (λ gs. Reached kind trodden m n e.path gs e.equations) some e.reached; work = refl } in
      record {
        sum = e.sum;
        works = w ∷ e.works;
        owes = (w, e.works, refl, subst (λ x. Owing home P kind limit trodden x (frame_at m n) w) here owing, e.lower, subst (λ x. Owes home P kind limit trodden x fs e.works) here e.owes);
        tallied = e.tallied;
        toward = subst (λ gs. Toward P kind limit whole e.sum (node e.path n.flag gs e.equations n.step ∷ e.works)) some e.toward;
      }

  -- a node without goals, by its flag; with goals, by the limit
  entered : (o : Outcome) → (o ≡ outcome.Wrong → ⊥) → (o ≡ outcome.False → n.flag ≡ false) → Entering home P kind limit whole m trodden best fs t n → After (ending_of n.flag left_at o)
  entered o right fall e = by e.goals refl
    where
      by_flag : (f : Bool) → n.flag ≡ f → e.goals ≡ [] → (o' : Outcome) → o ≡ o' → After (ending_of f left.Nothing o')
      by_flag true flag none outcome.Solved i = success e none flag
      by_flag true flag none outcome.False i = absurd (let c : true ≡ false = sym flag ∙ fall i in cc)
      by_flag true flag none outcome.Wrong i = absurd (right i)
      by_flag false flag none outcome.Solved i = failed e none flag
      by_flag false flag none outcome.False i = failed e none flag
      by_flag false flag none outcome.Wrong i = absurd (right i)

      by-limit : (g : Goal) (gs : List Goal) → e.goals ≡ g ∷ gs → (b : Bool) → leb limit n.step ≡ b → (o' : Outcome) → o ≡ o' → After (ending_of n.flag (cond b left.Cut left.Goals) o')
      by-limit g gs some true late outcome.Solved i = cut e g gs some (leb-true limit n.step late)
      by-limit g gs some true late outcome.False i = cut e g gs some (leb-true limit n.step late)
      by-limit g gs some true late outcome.Wrong i = absurd (right i)
      by-limit g gs some false late outcome.Solved i = on e g gs some (leb-false limit n.step late)
      by-limit g gs some false late outcome.False i = on e g gs some (leb-false limit n.step late)
      by-limit g gs some false late outcome.Wrong i = absurd (right i)

      by : (gs : List Goal) → e.goals ≡ gs → After (ending_of n.flag left_at o)
      by [] none = subst (λ l. After (ending_of n.flag l o)) (sym (on_nothing e none)) (by_flag n.flag refl none o refl)
      by (g ∷ gs) some = subst (λ l. After (ending_of n.flag l o)) (sym (on_some e g gs some)) (by-limit g gs some (leb limit n.step) refl o refl)

  wrong_ends : (f : Bool) (l : Left) → ending_of f l outcome.Wrong ≡ Some Wrong
  wrong_ends f left.Nothing = refl
  wrong_ends f left.Cut = refl
  wrong_ends f left.Goals = refl

  pub arrived : (o : Outcome) (end : Option Ending) → end ≡ ending_of n.flag left_at o → Arrives home P kind limit whole m trodden best fs t n o → After end
  arrived outcome.Solved end e h = subst After (sym e) (entered outcome.Solved (λ i. cc) (λ i. absurd (cc)) h)
  arrived outcome.False end e h = subst After (sym e) (entered outcome.False (λ i. cc) (λ i. h.1) h.0)
  arrived outcome.Wrong end e h = subst After (sym (e ∙ wrong_ends n.flag left_at)) h

  -- the same, where the parts are known by equations
  pub arrived_to : (o : Outcome) (end : Option Ending) → end ≡ ending_of n.flag left_at o → (m' : Memory) (trodden' best' : List ℕ) (fs' : List Frame) (t' : Tally)
      → m' ≡ m → trodden' ≡ trodden → best' ≡ best_after end t.leaves n.step trodden best → fs' ≡ frames_after end (frame_at m n) fs → t' ≡ tally_after end t n.step
      → Arrives home P kind limit whole m trodden best fs t n o → Underway home P kind limit whole m' trodden' best' fs' t'
  arrived_to o end e m' trodden' best' fs' t' me te be fe le h =
      subst (λ x. Underway home P kind limit whole x trodden' best' fs' t') (sym me)
      (subst (λ x. Underway home P kind limit whole m x best' fs' t') (sym te)
      (subst (λ x. Underway home P kind limit whole m trodden x fs' t') (sym be)
      (subst (λ x. Underway home P kind limit whole m trodden (best_after end t.leaves n.step trodden best) x t') (sym fe)
      (subst (λ x. Underway home P kind limit whole m trodden (best_after end t.leaves n.step trodden best) (frames_after end (frame_at m n) fs) x) (sym le) (arrived o end e h)))))

-- a frame with these marks
pub frame_at_lem : (m : Memory) (n : Node) (f : Frame) → f.node ≡ n → f.clause ≡ 0 → f.bindings.cells ≡ length m.cells → f.bindings.trail ≡ length m.trail → f.waiting ≡ length m.waiting → f ≡ frame_at m n
frame_at_lem m n f a b c d e = λ i. record { node = a i; clause = b i; bindings = record { cells = c i; trail = d i }; waiting = e i }
