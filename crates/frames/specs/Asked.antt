-- When a question is refused before its tree is walked, and what its answer tells of the tree and of proofs.
use Rattle.std.specs.Prelude.{◌≡◌, ℕ, ◌<◌, ◌≤◌, Bool, true, cond, ◌||◌, List, ◌++◌, length, take, drop, is_some, Some, None, Ok, Err, Option, Result, nat_lt}
use Rattle.std.specs.Result.{result_and, result_err}
use Rattle.terms.specs.declared.Cell.{Cell}
use Rattle.typing.specs.Terms.{Subst, Eqs, Signature, Unifies}
use Rattle.trees.specs.Terms.{EqsBelow}
use Rattle.trees.specs.Tree.{Goal, Program, Tree, IsTree, steps}
use Rattle.trees.specs.Proofs.{ProofUnder, uses}
use Rattle.trees.specs.Proofs as proofs
use Rattle.trees.specs.Verdicts.{Told, VerdictOf, fails, erroneous, unsettled}
use Rattle.programs.specs.Spelling.{spell_goals, Spells}
use Rattle.terms.specs.Shape.{goals, all_low}
use Rattle.verdicts.specs.declared.Refusal.{Refusal}
use Rattle.verdicts.specs.declared.Refusal.TheVariants.{NoGoalList, TooLarge, Allowance, ScratchShort, PathShort}
use Rattle.verdicts.specs.declared.Answer.{Answer}
use Rattle.verdicts.specs.declared.Verdict.{Verdict}
use Rattle.verdicts.specs.declared.Verdict.TheVariants.{Holds, Fails, Erroneous, Unsettled}

-- too little scratch
abbrev pub judged_scratch : (pairs frames : ℕ) → Result (Unit {0}) Refusal
judged_scratch pairs frames = cond (nat_lt pairs 12864 || nat_lt frames 512) (Err ScratchShort) (Ok tt)

-- over 32 cells, over 8 goals
abbrev pub judged_size : (cells goals : ℕ) → Result (Unit {0}) Refusal
judged_size cells goals = cond (nat_lt 32 cells || nat_lt 8 goals) (Err TooLarge) (Ok tt)

abbrev pub judged_list : Option ℕ → Bool → (cells : ℕ) → Result (Unit {0}) Refusal
judged_list None low cells = Err NoGoalList
judged_list (Some n) low cells = cond low (judged_size cells n) (Err NoGoalList)

-- no goal list, or a variable above 31; too large
abbrev pub judged_goals : List Cell → Result (Unit {0}) Refusal
judged_goals question = judged_list (goals 0 0 question) (all_low question) (length question)

-- a path slice that is too short
abbrev pub judged_path : ℕ → Result (Unit {0}) Refusal
judged_path path = cond (nat_lt path 32) (Err PathShort) (Ok tt)

-- the first of these that refuses: the scratch, the question, the path slice
abbrev pub judged : List Cell → (pairs frames path : ℕ) → Option Refusal
judged question pairs frames path = result_err (result_and (judged_scratch pairs frames) (result_and (judged_goals question) (judged_path path)))

-- a goal list of at most 32 cells over the variables 0 to 31, and scratch enough
pub record Sized (question : List Cell) (pairs frames : ℕ) : Type 0 where
  pub list : is_some (goals 0 0 question) ≡ true
  pub low : all_low question ≡ true
  pub few : length question ≤ 32
  pub wide : 12864 ≤ pairs
  pub deep : 512 ≤ frames

-- What a verdict says of a tree, and what it leaves in the path slice: with holds the path told stands in the first places and the rest is unchanged, otherwise all of it is.
abbrev pub Shows : Verdict → Tree → (before after : List ℕ) → Type 0
Shows (Holds n) t before after = (p : List ℕ) × Told t p × (length p ≡ n) × (after ≡ p ++ drop n before)
Shows Fails t before after = VerdictOf t fails × (after ≡ before)
Shows Erroneous t before after = VerdictOf t erroneous × (after ≡ before)
Shows Unsettled t before after = VerdictOf t unsettled × (after ≡ before)

-- The steps told are the whole tree's; the question is refused where they are more than the allowance, and only there.
abbrev pub Tells : ℕ → Tree → (before after : List ℕ) → Result Answer Refusal → Type 0
Tells allowance t before after (Ok a) = (a.steps ≡ steps t) × (steps t ≤ allowance) × Shows a.verdict t before after
Tells allowance t before after (Err e) = (e ≡ Allowance) × (allowance < steps t) × (after ≡ before)

-- a proof of the goals under terms that make the equations alike
pub record Chain (P : Program) (gs : List Goal) (E : Eqs) : Type 0 where
  pub terms : Subst
  pub alike : Unifies terms E
  pub proof : ProofUnder P terms gs

-- With holds there is a chain of that many uses, whose clauses the path gives, and none has fewer; otherwise there is none within the limit.
abbrev pub Proves : Verdict → Program → List Goal → Eqs → ℕ → List ℕ → Type 0
Proves (Holds n) P gs E limit path = ((c : Chain P gs E) × (uses c.proof ≡ n) × (proofs.path c.proof ≡ take n path) × (n ≤ limit)) × ((c : Chain P gs E) → n ≤ uses c.proof)
Proves Fails P gs E limit path = (c : Chain P gs E) → limit < uses c.proof
Proves Erroneous P gs E limit path = (c : Chain P gs E) → limit < uses c.proof
Proves Unsettled P gs E limit path = (c : Chain P gs E) → limit < uses c.proof

abbrev pub Proven : Program → List Goal → Eqs → ℕ → List ℕ → Result Answer Refusal → Type 0
Proven P gs E limit path (Ok a) = Proves a.verdict P gs E limit path
Proven P gs E limit path (Err e) = Unit {0}

-- A question put to a source, kinds and standing equations: the program that the source spells, the goals that the question spells, and their cut tree, of which the answer tells.
pub record Answered (lists : ℕ → ℕ → List (List Cell)) (kind : Signature) (limit allowance : ℕ) (question : List Cell) (E : Eqs) (before after : List ℕ) (r : Result Answer Refusal) : Type 0 where
  pub program : Program
  pub spells : Spells program lists
  pub goals : List Goal
  pub spelt : question ≡ spell_goals goals
  pub tree : Tree
  pub is_tree : IsTree program kind limit true goals E 0 tree
  pub told : Tells allowance tree before after r
  -- over equations between terms of the variables 0 to 31
  pub proven : EqsBelow 32 E → Proven program goals E limit after r

-- what is judged first is told, and then nothing is written
abbrev pub Asked : Option Refusal → (lists : ℕ → ℕ → List (List Cell)) (kind : Signature) (limit allowance : ℕ) (question : List Cell) (E : Eqs) (before after : List ℕ) (r : Result Answer Refusal) → Type 0
Asked (Some e) lists kind limit allowance question E before after r = (r ≡ Err e) × (after ≡ before)
Asked None lists kind limit allowance question E before after r = Answered lists kind limit allowance question E before after r

-- with holds the rest of the path slice is unchanged, and otherwise all of it
abbrev pub PathBy : Verdict → List ℕ → List ℕ → Type 0
PathBy (Holds n) before after = (n ≤ 32) × (drop n after ≡ drop n before)
PathBy Fails before after = after ≡ before
PathBy Erroneous before after = after ≡ before
PathBy Unsettled before after = after ≡ before

abbrev pub PathOf : Result Answer Refusal → List ℕ → List ℕ → Type 0
PathOf (Err e) before after = after ≡ before
PathOf (Ok a) before after = PathBy a.verdict before after

-- what is judged first is told; else there is an answer within the allowance, or more steps than that
abbrev pub Bounded : Option Refusal → ℕ → Result Answer Refusal → Type 0
Bounded (Some e) allowance r = r ≡ Err e
Bounded None allowance (Ok a) = a.steps ≤ allowance
Bounded None allowance (Err e) = e ≡ Allowance
