-- A clause or question that was read is a goal list.
use Rattle.std.proofs.Common.{◌≡◌, ℕ, true, false, not, eqb, List, [], ◌∷◌, IfOk, Ok, Err, All, Result, sym, refl, ap, ◌∙◌, subst, inl, inr, arith}
use Rattle.std.proofs.lemmas.List.Elements.{All-head, All-tail}
use Rattle.std.proofs.lemmas.Bool.{cases_Bool, cond-true, eqb-true, lt-ltb, not_from_false, or_left, or_right}
use Rattle.terms.specs.declared.Cell.{Cell}
use Rattle.terms.specs.Shape.{low_cell, all_low}
use Rattle.clauses.specs.Clauses.{Low}
use Rattle.lexis.specs.declared.fault.Fault.{Fault}
use Rattle.lexis.specs.declared.token.Token.{Token}
use Rattle.draft.specs.declared.grammar.Due.{Due}
use Rattle.draft.specs.declared.grammar.Due.TheVariants.{Head, GoalOrDot, Nothing}
use Rattle.draft.specs.declared.reader.Form.{Form}
use Rattle.draft.specs.declared.reader.Form.TheVariants.{Clause, Question}
use Rattle.draft.specs.Sketch.{Sketch, Reads, ReadsClause, GoalsRead, QuestionRead, Outcome, blank}
use Rattle.draft.specs.Sketch.Reads.{no_token, misfit, last, more}
use Rattle.draft.specs.Spelled.{Spelled}
use Rattle.draft.proofs.Order.{low_order}
use Rattle.draft.proofs.States.{State, Sound}
use Rattle.draft.proofs.Steps.{took, took_sound}
use Rattle.draft.proofs.Within.{took_over}
use Rattle.draft.proofs.Refusals.{never}

reads_sound : (text : List ℕ) (form : Form) (h : ℕ) (due : Due) (s s' : Sketch) (at end : ℕ) (r : Result (ℕ × Sketch) Fault)
    → Reads text form due s at r → r ≡ Ok (end, s') → Sound h due s → Sound h Nothing s'
reads_sound text form h due s s' at end r (no_token x) e i = absurd (never _ (end, s') e)
reads_sound text form h due s s' at end r (misfit t x y) e i = absurd (never _ (end, s') e)
reads_sound text form h due s s' at end r (last {s' = u} {end = m} t x y z) e i =
    let p : ◌≡◌ {A = ℕ × Sketch} (m, u) (end, s') = cc in
    subst (Sound h Nothing) (ap (λ (w : ℕ × Sketch). w.1) p) (took_sound text form h due t Nothing s u (took text form due t Nothing s u y) i)
reads_sound text form h due s s' at end r (more {next = d} {s' = u} t x y z w) e i =
    reads_sound text form h d u s' t.end end r w e (took_sound text form h due t d s u (took text form due t d s u y) i)

-- a clause has no first goal that may be missing
head_first : (s : Sketch) (due : Due) → State 1 due s → due ≡ GoalOrDot → ⊥
head_first s due x e = let z = (subst (λ d. State 1 d s) e x).0 in omega arith

reads_within : (text : List ℕ) (due : Due) (s s' : Sketch) (at end : ℕ) (r : Result (ℕ × Sketch) Fault)
    → Reads text Clause due s at r → r ≡ Ok (end, s') → Sound 1 due s → s.over ≡ false → s'.over ≡ false
reads_within text due s s' at end r (no_token x) e i o = absurd (never _ (end, s') e)
reads_within text due s s' at end r (misfit t x y) e i o = absurd (never _ (end, s') e)
reads_within text due s s' at end r (last {s' = u} {end = m} t x y z) e i o =
    let p : ◌≡◌ {A = ℕ × Sketch} (m, u) (end, s') = cc in
    ap (λ (w : ℕ × Sketch). w.1.over) (sym p) ∙ took_over text due t Nothing s u (took text Clause due t Nothing s u y) (head_first s due (i o).1) o
reads_within text due s s' at end r (more {next = d} {s' = u} t x y z w) e i o =
    let k = took text Clause due t d s u y in
    reads_within text d u s' t.end end r w e (took_sound text Clause 1 due t d s u k i) (took_over text due t d s u k (head_first s due (i o).1) o)

spelled_from : (h : ℕ) (s : Sketch) → Sound h Nothing s → s.over ≡ false → Spelled h s.cells
spelled_from h s i o =
    let y = i o in
    let a = y.0 in
    record { count = s.goals; goal_list = y.1; eight = a.eight; few = a.few; in_order = a.in_order; low = low_order s.cells a.few a.in_order }

-- a head and at most 8 body goals
pub clause_spelled : (text : List ℕ) (at end : ℕ) (s : Sketch) → ReadsClause text at (Ok (end, s)) → Spelled 1 s.cells
clause_spelled text at end s r =
    let i : Sound 1 Head (blank _ false) = λ o. (record { in_order = tt; vars = refl; few = omega arith; eight = omega arith }, (refl, refl, refl, refl)) in
    spelled_from 1 s (reads_sound text Clause 1 Head _ s _ end _ r refl i) (reads_within text Head _ s _ end _ r refl i refl)

-- at most 8 goals
pub goals_spelled : (text : List ℕ) (query : Token) (s : Sketch) → GoalsRead text query s → Spelled 0 s.cells
goals_spelled text query s g =
    let i : Sound 0 GoalOrDot (blank query.start true) = λ o. (record { in_order = tt; vars = refl; few = omega arith; eight = omega arith }, (refl, refl, refl)) in
    spelled_from 0 s (reads_sound text Question 0 GoalOrDot _ s _ g.end _ g.goals refl i) g.within

pub question_spelled : (text : List ℕ) (at : ℕ) (s : Sketch) → QuestionRead text at s → Spelled 0 s.cells
question_spelled text at s q = goals_spelled text q.query s q.goals

pub clause_whole : (text : List ℕ) (at : ℕ) (u : Sketch) (r : Result ℕ Fault) → Outcome (ReadsClause text at) u r → IfOk r (λ _. Spelled 1 u.cells)
clause_whole text at u (Ok e) x = clause_spelled text at e u x
clause_whole text at u (Err e) x = tt

-- the test of the variables tells that they are low
pub low_tested : (cs : List Cell) → All Low cs → all_low cs ≡ true
low_tested [] w = refl
low_tested (c ∷ cs) w =
    cond-true (low_cell c) (all_low cs) false
    (elim (cases_Bool (eqb c.tag 0)) [
      | inl a ↦ let v = All-head Low c cs w (eqb-true c.tag 0 a) in or_right (not (eqb c.tag 0)) _ (lt-ltb c.value 32 (omega arith))
      | inr a ↦ or_left (not (eqb c.tag 0)) _ (not_from_false (eqb c.tag 0) a)
    ])
    ∙ low_tested cs (All-tail Low c cs w)
