-- What each call answers, and what it makes of the model.
use Rattle.std.specs.Prelude.{◌≡◌, ℕ, ◌+◌, ◌<◌, ◌≤◌, Bool, true, false, List, ◌++◌, map, length, drop, Ok, Err, Result, nat_lt}
use Rattle.terms.specs.declared.Cell.{Cell}
use Rattle.typing.specs.Terms.{Eqs, Subst, Signature}
use Rattle.typing.specs.Rules.{ComesTo, Reads}
use Rattle.graphs.specs.Flat.{flat}
use Rattle.programs.specs.Spelling.{spell_equation}
use Rattle.unification.specs.declared.Outcome.{Outcome}
use Rattle.unification.specs.declared.Outcome.TheVariants.{Solved, False, Wrong}
use Rattle.unification.specs.Standing.{named}
use Rattle.verdicts.specs.declared.Refusal as search
use Rattle.verdicts.specs.declared.Answer.{Answer}
use Rattle.frames.specs.Asked.{Answered, Proven}
use Rattle.store.specs.declared.Refusal.{Refusal}
use Rattle.store.specs.declared.Refusal.TheVariants.{MarksFull, NotNewest, NotSolved, Allowance, OutputShort}
use Rattle.store.specs.declared.token.Token.{Token}
use Rattle.store.specs.declared.token.Slip.{Slip}
use Rattle.store.specs.Judged.{judged, judged_question, judged_variable}
use Rattle.store.specs.Model.{Model, with_entry, with_mark, without_mark, cut_back}

-- the equations that the entries spell
abbrev pub Spelt : Eqs → List (List Cell) → Type 0
Spelt E entries = map spell_equation E ≡ entries

-- the outcome to which the rules take the equations that stand
abbrev pub Told : Signature → List (List Cell) → Outcome → Type 0
Told kind entries o = (E : Eqs) × Spelt E entries × ComesTo kind E (named o)

-- where nothing is refused the equation stands, and the outcome of all that stand is told
abbrev pub EnteredBy : Result ℕ Refusal → Signature → Model → List Cell → Result Outcome Refusal → Model → Type 0
EnteredBy (Err e) kind m cells r m' = (r ≡ Err e) × (m' ≡ m)
EnteredBy (Ok p) kind m cells r m' = (o : Outcome) × (r ≡ Ok o) × (m' ≡ with_entry m cells) × Told kind m'.entries o

abbrev pub Entered : Signature → Model → List Cell → (pairs frames : ℕ) → Result Outcome Refusal → Model → Type 0
Entered kind m cells pairs frames r m' = EnteredBy (judged cells pairs frames (length m.entries)) kind m cells r m'

-- what the search tells, with the store's name of its one refusal that is left
abbrev pub answer_of : Result Answer search.Refusal → Result Answer Refusal
answer_of (Ok a) = Ok a
answer_of (Err e) = Err Allowance

-- a question under the solved equations: its cut tree's answer, and what it says of proofs
pub record Inferred (lists : ℕ → ℕ → List (List Cell)) (kind : Signature) (limit allowance : ℕ) (question : List Cell) (entries : List (List Cell)) (before after : List ℕ) (r : Result Answer Refusal) : Type 0 where
  pub equations : Eqs
  pub spelt : Spelt equations entries
  pub told : Result Answer search.Refusal
  pub is : r ≡ answer_of told
  pub answered : Answered lists kind limit allowance question equations before after told
  pub proven : Proven answered.program answered.goals equations limit after told

-- a path slice below 32 places
abbrev pub AskedWith : Bool → (lists : ℕ → ℕ → List (List Cell)) (kind : Signature) (limit allowance : ℕ) (question : List Cell) (entries : List (List Cell)) (before after : List ℕ) → Result Answer Refusal → Type 0
AskedWith true lists kind limit allowance question entries before after r = (r ≡ Err OutputShort) × (after ≡ before)
AskedWith false lists kind limit allowance question entries before after r = Inferred lists kind limit allowance question entries before after r

-- equations that are not solved
abbrev pub AskedUnder : Outcome → (lists : ℕ → ℕ → List (List Cell)) (kind : Signature) (limit allowance : ℕ) (question : List Cell) (entries : List (List Cell)) (before after : List ℕ) → Result Answer Refusal → Type 0
AskedUnder Solved lists kind limit allowance question entries before after r = AskedWith (nat_lt (length before) 32) lists kind limit allowance question entries before after r
AskedUnder False lists kind limit allowance question entries before after r = (r ≡ Err NotSolved) × (after ≡ before)
AskedUnder Wrong lists kind limit allowance question entries before after r = (r ≡ Err NotSolved) × (after ≡ before)

-- what is judged first is told; else it goes by the outcome of the equations
abbrev pub AskedBy : Result (Unit {0}) Refusal → (lists : ℕ → ℕ → List (List Cell)) (kind : Signature) (limit allowance : ℕ) (question : List Cell) (entries : List (List Cell)) (before after : List ℕ) → Result Answer Refusal → Type 0
AskedBy (Err e) lists kind limit allowance question entries before after r = (r ≡ Err e) × (after ≡ before)
AskedBy (Ok u) lists kind limit allowance question entries before after r = (o : Outcome) × Told kind entries o × AskedUnder o lists kind limit allowance question entries before after r

abbrev pub Asked : (lists : ℕ → ℕ → List (List Cell)) (kind : Signature) (limit allowance : ℕ) (m : Model) (question : List Cell) (pairs frames : ℕ) (before : List ℕ) → Result Answer Refusal → (after : List ℕ) → Type 0
Asked lists kind limit allowance m question pairs frames before r after =
    AskedBy (judged_question question pairs frames) lists kind limit allowance question m.entries before after r

-- the cells xs are written from the start, and their number is told; or there are too many, and nothing changes
abbrev pub WroteOut : (xs before : List Cell) → Result ℕ Refusal → (after : List Cell) → Type 0
WroteOut xs before (Ok n) after = (length xs ≤ length before) × (n ≡ length xs) × (after ≡ xs ++ drop (length xs) before)
WroteOut xs before (Err e) after = (e ≡ OutputShort) × (length before < length xs) × (after ≡ before)

-- a variable's term in the reading of the solved equations, of which there is one
pub record Shown (kind : Signature) (entries : List (List Cell)) (variable : ℕ) (before after : List Cell) (r : Result ℕ Refusal) : Type 0 where
  pub equations : Eqs
  pub spelt : Spelt equations entries
  pub reading : Subst
  pub reads : Reads reading equations
  pub wrote : WroteOut (flat (reading variable)) before r after

abbrev pub ReadUnder : Outcome → (kind : Signature) (entries : List (List Cell)) (variable : ℕ) (before after : List Cell) → Result ℕ Refusal → Type 0
ReadUnder Solved kind entries variable before after r = Shown kind entries variable before after r
ReadUnder False kind entries variable before after r = (r ≡ Err NotSolved) × (after ≡ before)
ReadUnder Wrong kind entries variable before after r = (r ≡ Err NotSolved) × (after ≡ before)

abbrev pub ReadBy : Result (Unit {0}) Refusal → (kind : Signature) (entries : List (List Cell)) (variable : ℕ) (before after : List Cell) → Result ℕ Refusal → Type 0
ReadBy (Err e) kind entries variable before after r = (r ≡ Err e) × (after ≡ before)
ReadBy (Ok u) kind entries variable before after r = (o : Outcome) × Told kind entries o × ReadUnder o kind entries variable before after r

abbrev pub ReadOut : (kind : Signature) (m : Model) (variable pairs frames : ℕ) (before : List Cell) → Result ℕ Refusal → (after : List Cell) → Type 0
ReadOut kind m variable pairs frames before r after = ReadBy (judged_variable variable pairs frames) kind m.entries variable before after r

-- a mark's token has the store's number and the mark's depth
abbrev pub Marked : ℕ → Model → Result Slip Refusal → Model → Type 0
Marked number m (Ok t) m' = (length m.marks < 8) × (t.store ≡ number) × (t.depth ≡ length m.marks + 1) × (m' ≡ with_mark m)
Marked number m (Err r) m' = (8 ≤ length m.marks) × (r ≡ MarksFull) × (m' ≡ m)

-- the token is that of the newest open mark
abbrev pub Newest : ℕ → Model → Slip → Type 0
Newest number m t = (t.store ≡ number) × (t.depth ≡ length m.marks) × (0 < length m.marks)

abbrev pub Ended : ℕ → Model → Slip → Result (Unit {0}) Refusal → (accepted m' : Model) → Type 0
Ended number m t (Ok u) accepted m' = Newest number m t × (m' ≡ accepted)
Ended number m t (Err r) accepted m' = (Newest number m t → ⊥) × (r ≡ NotNewest) × (m' ≡ m)

abbrev pub Kept : ℕ → Model → Slip → Result (Unit {0}) Refusal → Model → Type 0
Kept number m t r m' = Ended number m t r (without_mark m) m'

abbrev pub TakenBack : ℕ → Model → Slip → Result (Unit {0}) Refusal → Model → Type 0
TakenBack number m t r m' = Ended number m t r (cut_back m) m'

-- what is written on the token that marking gives; how ending a mark is answered, and the token that is returned with a refusal
abbrev pub slip_of : Result Token Refusal → Result Slip Refusal
slip_of (Ok t) = Ok t.slip
slip_of (Err r) = Err r

abbrev pub ended_of : Result (Unit {0}) (Token × Refusal) → Result (Unit {0}) Refusal
ended_of (Ok u) = Ok u
ended_of (Err e) = Err e.1

abbrev pub Returned : Token → Result (Unit {0}) (Token × Refusal) → Type 0
Returned t (Ok u) = Unit {0}
Returned t (Err e) = e.0 ≡ t
