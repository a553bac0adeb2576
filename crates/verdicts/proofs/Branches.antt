-- Where a branch goes on.
use Rattle.std.proofs.Common.{◌≡◌, ℕ, ◌<◌, ◌≤◌, Bool, true, false, cond, ltb, leb, IfSome, Some, None, Option, sym, refl, ap, ◌∙◌, arith}
use Rattle.std.proofs.lemmas.Bool.{leb-false}
use Rattle.unification.specs.declared.Outcome.{Outcome}
use Rattle.unification.specs.declared.Outcome.TheVariants as outcome
use Rattle.verdicts.specs.declared.ending.Left.{Left}
use Rattle.verdicts.specs.declared.ending.Left.TheVariants as left
use Rattle.verdicts.specs.declared.ending.Ending.{Ending}
use Rattle.verdicts.specs.declared.ending.Ending.TheVariants.{Success, Untrue, Wrong, Cut}
use Rattle.verdicts.specs.Leaves.{flag_after, state_of, ending_of, noted, least, verdict_of, verdict_by, Few}
use Rattle.verdicts.specs.declared.Verdict.TheVariants.{Holds}
use Rattle.verdicts.specs.declared.ending.Leaves.{Leaves}

-- only a node with goals goes on
on_goals : (f : Bool) (l : Left) (o : Outcome) → ending_of f l o ≡ None → l ≡ left.Goals
on_goals f left.Nothing outcome.Wrong e = absurd (cc)
on_goals f left.Cut outcome.Wrong e = absurd (cc)
on_goals f left.Goals outcome.Wrong e = refl
on_goals f left.Cut outcome.Solved e = absurd (cc)
on_goals f left.Cut outcome.False e = absurd (cc)
on_goals f left.Goals outcome.Solved e = refl
on_goals f left.Goals outcome.False e = refl
on_goals true left.Nothing outcome.Solved e = absurd (cc)
on_goals false left.Nothing outcome.Solved e = absurd (cc)
on_goals f left.Nothing outcome.False e = absurd (cc)

goals_early : (g : Bool) (step limit : ℕ) → state_of g step limit ≡ left.Goals → step < limit
goals_early false step limit e = absurd (cc)
goals_early true step limit e = go (leb limit step) refl
  where
    go : (b : Bool) → leb limit step ≡ b → step < limit
    go true h = absurd (let s = ap (λ b. cond b left.Cut left.Goals) (sym h) ∙ e in cc)
    go false h = leb-false limit step h

-- and it goes on below the limit
pub on_early : (f g : Bool) (step limit : ℕ) (l : Left) (o : Outcome) (end : Option Ending) → end ≡ ending_of f l o → l ≡ state_of g step limit → end ≡ None → step < limit
on_early f g step limit l o end e s h = goals_early g step limit (sym s ∙ on_goals f l o (sym e ∙ h))

-- a success within 32 steps keeps the uses within 32
pub few_noted : (l : Leaves) (end : Option Ending) (n : ℕ) → n ≤ 32 → Few l → Few (noted l end n)
few_noted l (Some Success) n h f = go l.uses f
  where
    go : (o : Option ℕ) → IfSome o (λ k. k ≤ 32) → IfSome (least o n) (λ k. k ≤ 32)
    go None g = h
    go (Some m) g = by (ltb n m)
      where
        by : (b : Bool) → IfSome (cond b (Some n) (Some m)) (λ k. k ≤ 32)
        by true = h
        by false = g
few_noted l (Some Untrue) n h f = f
few_noted l (Some Wrong) n h f = f
few_noted l (Some Cut) n h f = f
few_noted l None n h f = f

-- the uses of a verdict are those of the leaves, within 32
pub holds_few : (l : Leaves) (n : ℕ) → Holds n ≡ verdict_of l → Few l → n ≤ 32
holds_few l n e f = go l.uses l.cut l.wrong e f
  where
    go : (o : Option ℕ) (c w : Bool) → Holds n ≡ verdict_by o c w → IfSome o (λ k. k ≤ 32) → n ≤ 32
    go (Some m) c w e f = let s : n ≡ m = cc in omega arith
    go None true w e f = absurd (cc)
    go None false true e f = absurd (cc)
    go None false false e f = absurd (cc)

-- a step that is not solved leaves the flag false
pub flag_dropped : (o : Outcome) (f : Bool) → (o ≡ outcome.Solved → ⊥) → false ≡ flag_after o f
flag_dropped outcome.Solved f n = absurd (n refl)
flag_dropped outcome.False f n = refl
flag_dropped outcome.Wrong f n = refl
