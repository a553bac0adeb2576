-- How a branch ends, and what the leaves of a tree say.
use Rattle.std.specs.Prelude.{ℕ, ◌≤◌, Bool, true, false, cond, IfSome, Some, None, Option, nat_le, nat_lt}
use Rattle.unification.specs.declared.Outcome.{Outcome}
use Rattle.unification.specs.declared.Outcome.TheVariants as outcome
use Rattle.verdicts.specs.declared.Verdict.{Verdict}
use Rattle.verdicts.specs.declared.Verdict.TheVariants.{Holds, Fails, Erroneous, Unsettled}
use Rattle.verdicts.specs.declared.ending.Left.{Left}
use Rattle.verdicts.specs.declared.ending.Left.TheVariants as left
use Rattle.verdicts.specs.declared.ending.Ending.{Ending}
use Rattle.verdicts.specs.declared.ending.Ending.TheVariants.{Success, Untrue, Wrong, Cut}
use Rattle.verdicts.specs.declared.ending.Leaves.{Leaves}

-- goals at the step limit are cut
abbrev pub state_of : Bool → ℕ → ℕ → Left
state_of false step limit = left.Nothing
state_of true step limit = cond (nat_le limit step) left.Cut left.Goals

-- A node after a wrong step is a wrong leaf; a node with goals below the limit goes on. A node without goals is a success if its flag is true, else a
-- false leaf; a step that did not come out solved leaves the flag false.
abbrev pub ending_of : Bool → Left → Outcome → Option Ending
ending_of f left.Nothing outcome.Wrong = Some Wrong
ending_of f left.Cut outcome.Wrong = Some Wrong
ending_of f left.Goals outcome.Wrong = Some Wrong
ending_of f left.Cut outcome.Solved = Some Cut
ending_of f left.Cut outcome.False = Some Cut
ending_of f left.Goals outcome.Solved = None
ending_of f left.Goals outcome.False = None
ending_of true left.Nothing outcome.Solved = Some Success
ending_of false left.Nothing outcome.Solved = Some Untrue
ending_of f left.Nothing outcome.False = Some Untrue

-- only a solved step keeps the flag
abbrev pub flag_after : Outcome → Bool → Bool
flag_after outcome.Solved f = f
flag_after outcome.False f = false
flag_after outcome.Wrong f = false

-- a path of n uses is shorter than the shortest so far
abbrev pub shorter : Option ℕ → ℕ → Bool
shorter None n = true
shorter (Some m) n = nat_lt n m

abbrev pub least : Option ℕ → ℕ → Option ℕ
least best n = cond (shorter best n) (Some n) best

-- a branch that goes on is no leaf
abbrev pub noted : Leaves → Option Ending → ℕ → Leaves
noted l (Some Success) n = record { uses = least l.uses n; cut = l.cut; wrong = false }
noted l (Some Untrue) n = record { uses = l.uses; cut = l.cut; wrong = false }
noted l (Some Cut) n = record { uses = l.uses; cut = true; wrong = false }
noted l (Some Wrong) n = l
noted l None n = l

abbrev pub verdict_by : Option ℕ → Bool → Bool → Verdict
verdict_by (Some n) c w = Holds n
verdict_by None true w = Unsettled
verdict_by None false true = Erroneous
verdict_by None false false = Fails

abbrev pub verdict_of : Leaves → Verdict
verdict_of l = verdict_by l.uses l.cut l.wrong

-- no success so far has more uses than any step limit
abbrev pub Few : Leaves → Type 0
Few l = IfSome l.uses (λ n. n ≤ 32)
