-- A question that has been judged fits among the cells.
use Rattle.std.proofs.Common.{◌≡◌, ℕ, zero, suc, ◌+◌, ◌≤◌, Bool, true, false, cond, not, ◌&&◌, ◌||◌, eqb, ltb, leb, List, [], ◌∷◌, ◌++◌, length, is_some, Some, None, Ok, Err, All, Option, Result, refl, ap, ◌∙◌, arith}
use Rattle.std.proofs.lemmas.List.Elements.{All-head, All-tail}
use Rattle.std.proofs.lemmas.List.{length-append}
use Rattle.std.proofs.lemmas.Bool.{eqb-true, ltb-true, ltb-false, le-leb, lt-ltb, le-ltb, cond-true}
use Rattle.std.specs.Result.{result_and, result_err}
use Rattle.clauses.specs.Clauses.{Low}
use Rattle.terms.specs.declared.Cell.{Cell}
use Rattle.terms.specs.Shape.{term_cell, goal_cell, goals, low_cell, all_low}
use Rattle.graphs.specs.Cells.{fits, all_fit}
use Rattle.unification.specs.State.{takes}
use Rattle.frames.specs.Asked.{judged, judged_list, judged_path, Sized}
use Rattle.verdicts.specs.declared.Refusal.{Refusal}
use Rattle.verdicts.specs.declared.Refusal.TheVariants.{ScratchShort, TooLarge, PathShort}
use Rattle.frames.proofs.Loading.{and_true}

false_true : {P : Type 0} → false ≡ true → P
false_true e = absurd (cc)

and_right : (a b : Bool) → (a && b) ≡ true → b ≡ true
and_right true b e = e
and_right false b e = false_true e

and_left : (a b : Bool) → (a && b) ≡ true → a ≡ true
and_left true b e = refl
and_left false b e = e

-- the arguments of a term's cell, by its tag
arity_by : (v c f : Bool) (c₁ : Cell) → cond v (eqb c₁.form 0 && eqb c₁.arity 0) (cond c (eqb c₁.arity 0 && (ltb c₁.form 2 || (ltb c₁.form 4 && ltb c₁.value 65536))) (cond f (eqb c₁.form 0 && (ltb 0 c₁.arity && (ltb c₁.arity 9 && ltb c₁.value 65536))) false)) ≡ true → c₁.arity ≤ 8
arity_by true c f k e = let z = eqb-true k.arity 0 (and_right (eqb k.form 0) _ e) in omega arith
arity_by false true f k e = let z = eqb-true k.arity 0 (and_left (eqb k.arity 0) _ e) in omega arith
arity_by false false true k e = let z = ltb-true k.arity 9 (and_left (ltb k.arity 9) _ (and_right (ltb 0 k.arity) _ (and_right (eqb k.form 0) _ e))) in omega arith
arity_by false false false k e = false_true e

term_arity : (c : Cell) → term_cell c ≡ true → c.arity ≤ 8
term_arity c e = arity_by (eqb c.tag 0) (eqb c.tag 1) (eqb c.tag 2) c e

goal_arity : (c : Cell) → goal_cell c ≡ true → c.arity ≤ 8
goal_arity c e = let z = ltb-true c.arity 9 (and_left (ltb c.arity 9) _ (and_right (eqb c.form 0) _ (and_right (eqb c.tag 2) _ e))) in omega arith

fits_low : (c : Cell) → c.arity ≤ 8 → low_cell c ≡ true → fits c ≡ true
fits_low c a l = and_true (leb c.arity 8) _ (le-leb c.arity 8 a) (go (eqb c.tag 0) l)
  where
    go : (t : Bool) → (not t || ltb c.value 32) ≡ true → cond t (ltb c.value 1056) true ≡ true
    go true e = let z = ltb-true c.value 32 e in lt-ltb c.value 1056 (omega arith)
    go false e = refl

-- where a test has to hold for anything to come
passes : {A : Type 0} (b : Bool) (x : Option A) → is_some (cond b x None) ≡ true → (b ≡ true) × (is_some x ≡ true)
passes true x e = (refl, e)
passes false x e = false_true e

both : (a b : Bool) → cond a b false ≡ true → (a ≡ true) × (b ≡ true)
both true b e = (refl, e)
both false b e = false_true e

pub fit_goals : (k n : ℕ) (cs : List Cell) → is_some (goals k n cs) ≡ true → all_low cs ≡ true → all_fit cs ≡ true
fit_goals k n [] e l = refl
fit_goals k zero (c ∷ cs) e l =
    let p = passes (goal_cell c) _ e in let q = both (low_cell c) (all_low cs) l in
    and_true (fits c) _ (fits_low c (goal_arity c p.0) q.0) (fit_goals (k + 1) c.arity cs p.1 q.1)
fit_goals k (suc n) (c ∷ cs) e l =
    let p = passes (term_cell c) _ e in let q = both (low_cell c) (all_low cs) l in
    and_true (fits c) _ (fits_low c (term_arity c p.0) q.0) (fit_goals k (c.arity + n) cs p.1 q.1)

-- after the cells of the equations there is room for it
pub taken : (cells question : List Cell) → length cells ≤ 512 → length question ≤ 32 → is_some (goals 0 0 question) ≡ true → all_low question ≡ true → takes cells question ≡ true
taken cells question e few list low = and_true _ _ (le-leb (length cells + length question) 1568 (omega arith)) (fit_goals 0 0 question list low)

-- it is appended, and takes 32 places at most
pub placed : (cells question cells' : List Cell) (r : Option ℕ) → length cells ≤ 512 → length question ≤ 32 → is_some (goals 0 0 question) ≡ true → all_low question ≡ true
    → r ≡ cond (takes cells question) (Some (length cells)) None → cells' ≡ cond (takes cells question) (cells ++ question) cells
    → (r ≡ Some (length cells)) × (cells' ≡ cells ++ question) × (length cells' ≤ length cells + 32)
placed cells question cells' r e few list low re ce =
    let t = taken cells question e few list low in
    let more : cells' ≡ cells ++ question = ce ∙ cond-true (takes cells question) _ _ t in
    let long = ap length more ∙ length-append cells question in
    (re ∙ cond-true (takes cells question) _ _ t, more, omega arith)

-- where nothing is refused
neither : (a b : Bool) → (a || b) ≡ false → (a ≡ false) × (b ≡ false)
neither true b e = absurd (cc)
neither false b e = (refl, e)

unjudged : (b : Bool) (e : Refusal) (q : Result (Unit {0}) Refusal) → result_err (result_and (cond b (Err e) (Ok (tt {0}))) q) ≡ None → (b ≡ false) × (result_err q ≡ None)
unjudged true e q h = absurd (cc)
unjudged false e q h = (refl, h)

pub judged_none : (question : List Cell) (pairs frames path : ℕ) → judged question pairs frames path ≡ None → Sized question pairs frames × (32 ≤ path)
judged_none question pairs frames path e =
    let u = unjudged (ltb pairs 12864 || ltb frames 512) ScratchShort _ e in
    let s = neither (ltb pairs 12864) (ltb frames 512) u.0 in
    go (goals 0 0 question) (all_low question) refl refl u.1 (ltb-false pairs 12864 s.0) (ltb-false frames 512 s.1)
  where
    go : (o : Option ℕ) (low : Bool) → goals 0 0 question ≡ o → all_low question ≡ low → result_err (result_and (judged_list o low (length question)) (judged_path path)) ≡ None → 12864 ≤ pairs → 512 ≤ frames
        → Sized question pairs frames × (32 ≤ path)
    go None low g l h wide deep = absurd (cc)
    go (Some n) false g l h wide deep = absurd (cc)
    go (Some n) true g l h wide deep =
        let t = unjudged (ltb 32 (length question) || ltb 8 n) TooLarge _ h in
        let f = neither (ltb 32 (length question)) (ltb 8 n) t.0 in
        let p = unjudged (ltb path 32) PathShort (Ok tt) (long (ltb path 32) t.1) in
        (record { list = ap is_some g; low = l; few = ltb-false 32 (length question) f.0; wide = wide; deep = deep }, ltb-false path 32 p.0)
      where
        long : (b : Bool) → result_err (cond b (Err PathShort) (Ok (tt {0}))) ≡ None → result_err (result_and (cond b (Err PathShort) (Ok (tt {0}))) (Ok (tt {0}))) ≡ None
        long true h = h
        long false h = h

-- the place that an option holds
pub some_place : (o : Option ℕ) (p n : ℕ) → o ≡ Some p → o ≡ Some n → p ≡ n
some_place o p n a b = cc

-- a goal list of at most 8 goals and 32 cells over the variables 0 to 31 is not refused
all_low_lem : (cs : List Cell) → All Low cs → all_low cs ≡ true
all_low_lem [] h = refl
all_low_lem (c ∷ cs) h = ap (λ b. cond b (all_low cs) false) (low (eqb c.tag 0) refl) ∙ all_low_lem cs (All-tail Low c cs h)
  where
    low : (b : Bool) → eqb c.tag 0 ≡ b → (not b || ltb c.value 32) ≡ true
    low true e = lt-ltb c.value 32 (let v = All-head Low c cs h (eqb-true c.tag 0 e) in omega arith)
    low false e = refl

pub judged_spelled : (question : List Cell) (pairs frames path n : ℕ) → goals 0 0 question ≡ Some (0 + n) → n ≤ 8 → length question ≤ 32 → All Low question → 12864 ≤ pairs → 512 ≤ frames → 32 ≤ path
    → judged question pairs frames path ≡ None
judged_spelled question pairs frames path n list eight few low wide deep long =
    let z : 0 + n ≡ n = omega arith in
    rw (le-ltb pairs 12864 wide, le-ltb frames 512 deep, list, all_low_lem question low, le-ltb 32 (length question) few, z, le-ltb 8 n eight, le-ltb path 32 long)
