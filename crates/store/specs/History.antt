-- Histories of calls, and what holds after every one.
use Rattle.std.specs.Prelude.{◌≡◌, ℕ, ◌<◌, ◌≤◌, List, [], ◌∷◌, ◌++◌, length, take, drop, Ok, Err, Result, slice_index}
use Rattle.terms.specs.declared.Cell.{Cell}
use Rattle.typing.specs.Terms.{Subst, Equation, Eqs, Signature, Unifies}
use Rattle.typing.specs.Rules.{InEveryOrder, Means, ComesTo, Reads}
use Rattle.trees.specs.Terms.{EqsBelow}
use Rattle.graphs.specs.Flat.{flat}
use Rattle.programs.specs.Spelling.{spell_equation}
use Rattle.unification.specs.declared.Outcome.{Outcome}
use Rattle.unification.specs.Standing.{named}
use Rattle.verdicts.specs.declared.Answer.{Answer}
use Rattle.frames.specs.Asked.{Answered, Proves}
use Rattle.store.specs.declared.Refusal.{Refusal}
use Rattle.store.specs.declared.Refusal.TheVariants.{NotSolved, OutputShort}
use Rattle.store.specs.declared.token.Slip.{Slip}
use Rattle.store.specs.declared.call.Call.{Call}
use Rattle.store.specs.declared.call.Call.TheVariants.{Enter, Mark, Keep, TakeBack, Ask, Read}
use Rattle.store.specs.declared.call.Reply.{Reply}
use Rattle.store.specs.declared.call.Reply.TheVariants.{OfEnter, OfMark, OfKeep, OfTakeBack, OfAsk, OfRead}
use Rattle.store.specs.Model.{Model, opened}
use Rattle.store.specs.Calls.{Spelt, Entered, Marked, Kept, TakenBack, Asked, WroteOut, ReadOut}

-- What stays through a history: the source's clauses, the kinds, the settings, the store's number, and how much scratch is lent.
pub record Fixed : Type 0 where
  pub lists : ℕ → ℕ → List (List Cell)
  pub kind : Signature
  pub limit : ℕ
  pub allowance : ℕ
  pub number : ℕ
  pub pairs : ℕ
  pub frames : ℕ

abbrev pub fixed : (ℕ → ℕ → List (List Cell)) → Signature → (limit allowance number pairs frames : ℕ) → Fixed
fixed lists kind limit allowance number pairs frames =
    record { lists = lists; kind = kind; limit = limit; allowance = allowance; number = number; pairs = pairs; frames = frames }

-- A store's model, and what the slices hold that paths and readings are written to.
pub record World : Type 0 where
  pub model : Model
  pub path : List ℕ
  pub out : List Cell

abbrev pub world : Model → List ℕ → List Cell → World
world m path out = record { model = m; path = path; out = out }

-- One call on the store it finds: its reply, and the store after it.
abbrev pub Step : Fixed → World → Call → Reply → World → Type 0
Step f w (Enter cells) a w' =
    (r : Result Outcome Refusal) × (a ≡ OfEnter r) × Entered f.kind w.model cells.now f.pairs f.frames r w'.model × (w'.path ≡ w.path) × (w'.out ≡ w.out)
Step f w Mark a w' = (r : Result Slip Refusal) × (a ≡ OfMark r) × Marked f.number w.model r w'.model × (w'.path ≡ w.path) × (w'.out ≡ w.out)
Step f w (Keep t) a w' = (r : Result (Unit {0}) Refusal) × (a ≡ OfKeep r) × Kept f.number w.model t r w'.model × (w'.path ≡ w.path) × (w'.out ≡ w.out)
Step f w (TakeBack t) a w' = (r : Result (Unit {0}) Refusal) × (a ≡ OfTakeBack r) × TakenBack f.number w.model t r w'.model × (w'.path ≡ w.path) × (w'.out ≡ w.out)
Step f w (Ask question) a w' =
    (r : Result Answer Refusal) × (a ≡ OfAsk r) × Asked f.lists f.kind f.limit f.allowance w.model question.now f.pairs f.frames w.path r w'.path
    × (w'.model ≡ w.model) × (w'.out ≡ w.out)
Step f w (Read v) a w' =
    (r : Result ℕ Refusal) × (a ≡ OfRead r) × ReadOut f.kind w.model v f.pairs f.frames w.out r w'.out × (w'.model ≡ w.model) × (w'.path ≡ w.path)

-- A history: calls one after another, each with its reply, each on the store it finds.
pub data History (f : Fixed) : World → List Call → List Reply → World → Type 0 where
  none : {w : World} → History f w [] [] w
  next : {w w' w'' : World} {c : Call} {a : Reply} {cs : List Call} {bs : List Reply} → Step f w c a w' → History f w' cs bs w'' → History f w (c ∷ cs) (a ∷ bs) w''

-- A question that is answered: what its cut tree and proofs say under the equations, which some terms make alike.
pub record Replied (f : Fixed) (E : Eqs) (question : List Cell) (before after : List ℕ) (a : Answer) : Type 0 where
  pub alike : (θ : Subst) × Unifies θ E
  pub answered : Answered f.lists f.kind f.limit f.allowance question E before after (Ok a)
  pub proven : Proves a.verdict answered.program answered.goals E f.limit after

-- What a reply says, in terms of the equations E that stand.
abbrev pub Says : Fixed → Eqs → World → Call → Reply → World → Type 0
Says f E w (Enter cells) a w' =
    (o : Outcome) → a ≡ OfEnter (Ok o) → (e : Equation) × (cells.now ≡ spell_equation e) × ComesTo f.kind (E ++ (e ∷ [])) (named o) × Means f.kind (E ++ (e ∷ [])) (named o)
Says f E w Mark a w' = Unit {0}
Says f E w (Keep t) a w' = Unit {0}
Says f E w (TakeBack t) a w' = Unit {0}
Says f E w (Ask question) a w' =
    ((b : Answer) → a ≡ OfAsk (Ok b) → Replied f E question.now w.path w'.path b) × (a ≡ OfAsk (Err NotSolved) → ¬ ((θ : Subst) × Unifies θ E))
Says f E w (Read v) a w' =
    ((n : ℕ) → a ≡ OfRead (Ok n) → (θ : Subst) → Reads θ E → WroteOut (flat (θ v)) w.out (Ok n) w'.out) × (a ≡ OfRead (Err NotSolved) → ¬ ((θ : Subst) × Unifies θ E))

-- What holds of a store.
pub record Holds (f : Fixed) (w : World) : Type 0 where
  -- the entries spell equations over the variables 0 to 31, and no others
  pub equations : Eqs
  pub spelt : Spelt equations w.model.entries
  pub only : (F : Eqs) → Spelt F w.model.entries → F ≡ equations
  pub below : EqsBelow 32 equations
  -- they have one outcome, whatever the order of the rules, which is the one that has its meaning; and where they are solved, one reading
  pub ordered : InEveryOrder f.kind equations
  -- and the next reply, whatever the call, says so
  pub says : (c : Call) (a : Reply) (w' : World) → Step f w c a w' → Says f equations w c a w'
  -- the marks
  pub few : length w.model.entries ≤ 16
  pub shallow : length w.model.marks ≤ 8
  pub rising : (i j : ℕ) → i ≤ j → j < length w.model.marks → slice_index w.model.marks i ≤ slice_index w.model.marks j
  pub within : (k : ℕ) → k < length w.model.marks → slice_index w.model.marks k ≤ length w.model.entries

abbrev pub AfterEveryHistory : Fixed → Type 0
AfterEveryHistory f = (path : List ℕ) (out : List Cell) (cs : List Call) (bs : List Reply) (w : World) → History f (world opened path out) cs bs w → Holds f w

-- What making a list of calls answers and leaves: the replies, in order, and the rest of the slice as it was.
abbrev pub Ran : Fixed → World → List Call → (before : List Reply) → Result (Unit {0}) Refusal → (after : List Reply) → World → Type 0
Ran f w cs before (Ok u) after w' = (length cs ≤ length before) × History f w cs (take (length cs) after) w' × (drop (length cs) after ≡ drop (length cs) before)
Ran f w cs before (Err e) after w' = (length before < length cs) × (e ≡ OutputShort) × (after ≡ before) × (w' ≡ w)

-- after each beginning of the list of calls the store holds what it promises
abbrev pub Held : Fixed → List Call → (path : List ℕ) (out : List Cell) (after : List Reply) → Type 0
Held f cs path out after = (k : ℕ) → k ≤ length cs → (w : World) × History f (world opened path out) (take k cs) (take k after) w × Holds f w

abbrev pub Replayed : Fixed → List Call → (path : List ℕ) (out : List Cell) (before : List Reply) → Result (Unit {0}) Refusal → (after : List Reply) (path' : List ℕ) (out' : List Cell) → Type 0
Replayed f cs path out before r after path' out' =
    ((m : Model) × Ran f (world opened path out) cs before r after (world m path' out')) × (r ≡ Ok tt → Held f cs path out after)
