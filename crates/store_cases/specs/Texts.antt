-- What is printed for a reply: what was called, and the number that tells how it came out.
use Rattle.std.specs.Prelude.{ℕ, List, ◌++◌, codes, decimal, Ok, Err, Result}
use Rattle.std.specs.List.{flat_map}
use Rattle.unification.specs.declared.Outcome.{Outcome}
use Rattle.unification.specs.declared.Outcome.TheVariants.{Solved, False, Wrong}
use Rattle.verdicts.specs.declared.Verdict.{Verdict}
use Rattle.verdicts.specs.declared.Verdict.TheVariants.{Holds, Fails, Erroneous, Unsettled}
use Rattle.store.specs.declared.Refusal.{Refusal}
use Rattle.store.specs.Numbers.{number_of}
use Rattle.store.specs.declared.call.Reply.{Reply}
use Rattle.store.specs.declared.call.Reply.TheVariants.{OfEnter, OfMark, OfKeep, OfTakeBack, OfAsk, OfRead}

abbrev pub outcome_number : Outcome → ℕ
outcome_number Solved = 0
outcome_number False = 1
outcome_number Wrong = 2

-- the uses of a path, and 100 and more without one
abbrev pub verdict_number : Verdict → ℕ
verdict_number (Holds uses) = uses
verdict_number Fails = 100
verdict_number Erroneous = 101
verdict_number Unsettled = 102

abbrev pub refused_text : Refusal → List ℕ
refused_text e = codes "refused " ++ decimal (number_of e)

abbrev pub ended_text : Result (Unit {0}) Refusal → List ℕ
ended_text (Ok u) = codes "ended 0"
ended_text (Err e) = refused_text e

abbrev pub reply_text : Reply → List ℕ
reply_text (OfEnter (Ok o)) = codes "enter " ++ decimal (outcome_number o)
reply_text (OfEnter (Err e)) = refused_text e
reply_text (OfMark (Ok t)) = codes "mark " ++ decimal t.depth
reply_text (OfMark (Err e)) = refused_text e
reply_text (OfKeep r) = ended_text r
reply_text (OfTakeBack r) = ended_text r
reply_text (OfAsk (Ok a)) = codes "ask " ++ decimal (verdict_number a.verdict)
reply_text (OfAsk (Err e)) = refused_text e
reply_text (OfRead (Ok n)) = codes "read " ++ decimal n
reply_text (OfRead (Err e)) = refused_text e

-- the replies in order, each with what parts it from the next
abbrev pub replies_text : List Reply → List ℕ
replies_text rs = flat_map (λ (r : Reply). reply_text r ++ codes "; ") rs
