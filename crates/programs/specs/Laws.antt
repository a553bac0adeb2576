-- What holds of spelling: cells that have the shape of goals spell them, and no others; renaming goes through; a source's cells spell one program.
use Rattle.std.specs.Prelude.{◌≡◌, ℕ, suc, ◌+◌, ◌<◌, List, [], ◌++◌, length, Some, All, slice_index_or}
use Rattle.terms.specs.declared.Cell.{Cell}
use Rattle.terms.specs.Kinds.{declared_kind}
use Rattle.terms.specs.Shape.{goals, two_terms}
use Rattle.clauses.specs.Clauses.{renamed, Low}
use Rattle.typing.specs.Terms.{Term, Equation}
use Rattle.typing.specs.Worked.{declared}
use Rattle.trees.specs.Tree.{Goal, Clause, Program, Small, raised, fresh, instance_of, new_head, new_body}
use Rattle.graphs.specs.Flat.{flat}
use Rattle.programs.specs.Spelling.{spell_goal, spell_goals, spell_clause, spell_equation, Spells}

-- cells in which n goals stand spell n goals
abbrev pub GoalsRead : Type 0
GoalsRead = (k n : ℕ) (cs : List Cell) → goals k 0 cs ≡ Some n → (gs : List Goal) × (cs ≡ spell_goals gs) × (k + length gs ≡ n)

-- and if they are one or more, a clause
abbrev pub ClauseRead : Type 0
ClauseRead = (n : ℕ) (cs : List Cell) → goals 0 0 cs ≡ Some (suc n) → (c : Clause) × (cs ≡ spell_clause c) × (length c.body ≡ n)

-- cells begin with one term at most
abbrev pub TermUnique : Type 0
TermUnique = (t u : Term) (xs ys : List Cell) → flat t ++ xs ≡ flat u ++ ys → (t ≡ u) × (xs ≡ ys)

abbrev pub GoalsUnique : Type 0
GoalsUnique = (gs hs : List Goal) → spell_goals gs ≡ spell_goals hs → gs ≡ hs

abbrev pub ClauseUnique : Type 0
ClauseUnique = (c d : Clause) → spell_clause c ≡ spell_clause d → c ≡ d

-- cells that are two terms spell an equation, and the second term begins where the first ends
abbrev pub EquationRead : Type 0
EquationRead = (p : ℕ) (cs : List Cell) → two_terms cs ≡ Some p → (e : Equation) × (cs ≡ spell_equation e) × (p ≡ length (flat e.left))

abbrev pub EquationUnique : Type 0
EquationUnique = (d e : Equation) → spell_equation d ≡ spell_equation e → d ≡ e

-- the declared kinds are those of the declared signature
abbrev pub DeclaredKinds : Type 0
DeclaredKinds = (groups : List ℕ) (f v : ℕ) → declared_kind groups f v ≡ declared groups f v

-- the cells of a goal with its variables raised spell the goal with its variables raised
abbrev pub GoalRenamed : Type 0
GoalRenamed = (b : ℕ) (g : Goal) → renamed b (spell_goal g) ≡ spell_goal (instance_of (raised b) g)

-- the cells of a clause made new for a step spell its new head and body
abbrev pub ClauseRenamed : Type 0
ClauseRenamed = (k : ℕ) (c : Clause) → renamed (fresh k) (spell_clause c) ≡ spell_goal (new_head k c) ++ spell_goals (new_body k c)

-- lists of cells that are clauses over the variables 0 to 31 spell a program over them
abbrev pub ProgramRead : Type 0
ProgramRead = (lists : ℕ → ℕ → List (List Cell))
    → ((s a k : ℕ) → k < length (lists s a) → (n : ℕ) × (goals 0 0 (slice_index_or (lists s a) k []) ≡ Some (suc n)))
    → ((s a k : ℕ) → k < length (lists s a) → All Low (slice_index_or (lists s a) k []))
    → (P : Program) × Spells P lists × Small P

-- and no other
abbrev pub ProgramUnique : Type 0
ProgramUnique = (P Q : Program) (lists : ℕ → ℕ → List (List Cell)) → Spells P lists → Spells Q lists → (s a : ℕ) → P s a ≡ Q s a

abbrev pub SpellingLaw : Type 0
SpellingLaw = GoalsRead × ClauseRead × EquationRead × TermUnique × GoalsUnique × ClauseUnique × EquationUnique × DeclaredKinds × GoalRenamed × ClauseRenamed × ProgramRead × ProgramUnique
