-- The lines that are printed.
use Rattle.std.specs.Prelude.{ℕ, List, [], ◌∷◌, ◌++◌, codes, decimal}
use Rattle.lexis.specs.Told as fault
use Rattle.verdicts.specs.declared.Verdict.{Verdict}
use Rattle.verdicts.specs.declared.Verdict.TheVariants.{Holds, Fails, Erroneous, Unsettled}
use Rattle.verdicts.specs.Numbers as refusal
use Rattle.line.specs.declared.Reply.{Reply}
use Rattle.line.specs.declared.Reply.TheVariants.{Answered, Faulty, Refused}

abbrev pub word_of : Verdict → List ℕ
word_of (Holds uses) = codes "holds"
word_of Fails = codes "fails"
word_of Erroneous = codes "erroneous"
word_of Unsettled = codes "unsettled"

-- the uses of a verdict that holds, else a dash
abbrev pub uses_of : Verdict → List ℕ
uses_of (Holds uses) = decimal uses
uses_of Fails = codes "-"
uses_of Erroneous = codes "-"
uses_of Unsettled = codes "-"

-- what is told of a reply
abbrev pub told : Reply → List ℕ
told (Answered a) = word_of a.verdict ++ (codes " " ++ (uses_of a.verdict ++ (codes " " ++ decimal a.steps)))
told (Faulty f) = codes "refused " ++ fault.told f
told (Refused e) = codes "refused " ++ decimal (refusal.number_of e)

-- the line of a reply, with its line end
abbrev pub printed : Reply → List ℕ
printed r = told r ++ (10 ∷ [])
