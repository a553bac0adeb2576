-- When an equation, a question or a reading is refused for what is handed in.
use Rattle.std.specs.Prelude.{ℕ, Bool, cond, List, length, Some, None, Ok, Err, Option, Result, nat_lt}
use Rattle.std.specs.Result.{result_map_both}
use Rattle.terms.specs.declared.Cell.{Cell}
use Rattle.terms.specs.Shape.{two_terms, all_low}
use Rattle.verdicts.specs.declared.Refusal as search
use Rattle.frames.specs.Asked as asked
use Rattle.store.specs.declared.Refusal.{Refusal}
use Rattle.store.specs.declared.Refusal.TheVariants.{NotTerms, TooLarge, EquationsFull, NoVariable}
use Rattle.store.specs.Numbers.{refusal_of}

-- the first refusal, or what comes of the last
abbrev pub and_then : {A B : Type 0} → Result A Refusal → (A → Result B Refusal) → Result B Refusal
and_then (Ok a) f = f a
and_then (Err e) f = Err e

-- what the search judges, by the store's names
abbrev pub judged_by : Result (Unit {0}) search.Refusal → Result (Unit {0}) Refusal
judged_by r = result_map_both (λ u. u) refusal_of r

-- too little scratch
abbrev pub judged_scratch : (pairs frames : ℕ) → Result (Unit {0}) Refusal
judged_scratch pairs frames = judged_by (asked.judged_scratch pairs frames)

-- not two terms, or a variable above 31; over 32 cells
abbrev pub judged_cells : Option ℕ → Bool → (size : ℕ) → Result ℕ Refusal
judged_cells None low size = Err NotTerms
judged_cells (Some n) low size = cond low (cond (nat_lt 32 size) (Err TooLarge) (Ok n)) (Err NotTerms)

-- sixteen equations stand
abbrev pub judged_room : (standing p : ℕ) → Result ℕ Refusal
judged_room standing p = cond (nat_lt standing 16) (Ok p) (Err EquationsFull)

-- not two terms, or a variable above 31; over 32 cells; sixteen equations stand; where nothing is refused, the place of the second term
abbrev pub judged_equation : List Cell → (standing : ℕ) → Result ℕ Refusal
judged_equation cells standing = and_then (judged_cells (two_terms cells) (all_low cells) (length cells)) (judged_room standing)

-- no goal list, or a variable above 31; over 32 cells, or over 8 goals
abbrev pub judged_goals : List Cell → Result (Unit {0}) Refusal
judged_goals question = judged_by (asked.judged_goals question)

-- a variable above 31
abbrev pub judged_number : (variable : ℕ) → Result (Unit {0}) Refusal
judged_number variable = cond (nat_lt variable 32) (Ok tt) (Err NoVariable)

-- too little scratch first
abbrev pub judged : List Cell → (pairs frames standing : ℕ) → Result ℕ Refusal
judged cells pairs frames standing = and_then (judged_scratch pairs frames) (λ _. judged_equation cells standing)

abbrev pub judged_question : List Cell → (pairs frames : ℕ) → Result (Unit {0}) Refusal
judged_question question pairs frames = and_then (judged_scratch pairs frames) (λ _. judged_goals question)

abbrev pub judged_variable : (variable pairs frames : ℕ) → Result (Unit {0}) Refusal
judged_variable variable pairs frames = and_then (judged_scratch pairs frames) (λ _. judged_number variable)
