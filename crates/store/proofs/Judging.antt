-- What holds where nothing is refused.
use Rattle.std.proofs.Common.{◌≡◌, ℕ, ◌<◌, ◌≤◌, Bool, true, false, cond, ◌||◌, ltb, List, length, Some, None, Ok, Err, Option, Result, refl, ap, ◌∙◌, arith}
use Rattle.std.proofs.lemmas.Bool.{or_parts, ltb-true, ltb-false}
use Rattle.std.specs.Result.{result_err}
use Rattle.terms.specs.declared.Cell.{Cell}
use Rattle.terms.specs.Shape.{two_terms, all_low}
use Rattle.frames.specs.Asked as search
use Rattle.verdicts.specs.declared.Refusal as searched
use Rattle.verdicts.specs.declared.Refusal.TheVariants as refusals
use Rattle.store.specs.declared.Refusal.{Refusal}
use Rattle.store.specs.declared.Refusal.TheVariants.{NotTerms, TooLarge, EquationsFull, ScratchShort}
use Rattle.store.specs.Judged.{and_then, judged_scratch, judged_cells, judged_room, judged_equation, judged_by, judged, judged_goals, judged_question}
use Rattle.store.specs.Numbers.{refusal_of}

err_ok : {A B P : Type 0} (e : B) (a : A) → ◌≡◌ {A = Result A B} (Err e) (Ok a) → P
err_ok e a h = absurd (let z : ◌≡◌ {A = ℕ} 0 1 = cc in omega arith)

-- of two that follow one another, neither refuses
both : {A B : Type 0} (r : Result A Refusal) (f : A → Result B Refusal) (b : B) → and_then r f ≡ Ok b → (a : A) × (r ≡ Ok a) × (f a ≡ Ok b)
both (Ok a) f b h = (a, refl, h)
both (Err e) f b h = err_ok e b h

scratch : (pairs frames : ℕ) (u : Unit {0}) → judged_scratch pairs frames ≡ Ok u → (12864 ≤ pairs) × (512 ≤ frames)
scratch pairs frames u = at (ltb pairs 12864 || ltb frames 512) refl
  where
    at : (b : Bool) → (ltb pairs 12864 || ltb frames 512) ≡ b → judged_by (cond b (Err refusals.ScratchShort) (Ok (tt {0}))) ≡ Ok u → (12864 ≤ pairs) × (512 ≤ frames)
    at true eb e = err_ok ScratchShort u e
    at false eb e = let q = or_parts (ltb pairs 12864) (ltb frames 512) eb in (ltb-false pairs 12864 q.0, ltb-false frames 512 q.1)

cells_parts : (o : Option ℕ) (low : Bool) (size n : ℕ) → judged_cells o low size ≡ Ok n → (o ≡ Some n) × (low ≡ true) × (size ≤ 32)
cells_parts None low size n e = err_ok NotTerms n e
cells_parts (Some q) false size n e = err_ok NotTerms n e
cells_parts (Some q) true size n e = at (ltb 32 size) refl e
  where
    at : (b : Bool) → ltb 32 size ≡ b → cond b (Err TooLarge) (Ok q) ≡ Ok n → (Some q ≡ Some n) × (true ≡ true) × (size ≤ 32)
    at true eb e = err_ok TooLarge n e
    at false eb e = let z : q ≡ n = cc in (ap Some z, refl, ltb-false 32 size eb)

-- an equation that is not refused
pub record Accepted (cells : List Cell) (pairs frames standing p : ℕ) : Type 0 where
  pub wide : 12864 ≤ pairs
  pub deep : 512 ≤ frames
  pub two : two_terms cells ≡ Some p
  pub low : all_low cells ≡ true
  pub small : length cells ≤ 32
  pub room : standing < 16

pub accepted : (cells : List Cell) (pairs frames standing p : ℕ) → judged cells pairs frames standing ≡ Ok p → Accepted cells pairs frames standing p
accepted cells pairs frames standing p h =
    let a = both (judged_scratch pairs frames) (λ _. judged_equation cells standing) p h in
    let b = both (judged_cells (two_terms cells) (all_low cells) (length cells)) (judged_room standing) p a.2 in
    let s = scratch pairs frames a.0 a.1 in
    let c = cells_parts (two_terms cells) (all_low cells) (length cells) b.0 b.1 in
    let r = room b.0 (ltb standing 16) refl b.2 in
    record { wide = s.0; deep = s.1; two = c.0 ∙ ap Some r.1; low = c.1; small = c.2; room = r.0 }
  where
    room : (q : ℕ) (b : Bool) → ltb standing 16 ≡ b → cond b (Ok q) (Err EquationsFull) ≡ Ok p → (standing < 16) × (q ≡ p)
    room q true eb e = (ltb-true standing 16 eb, cc)
    room q false eb e = err_ok EquationsFull p e

-- what is not refused by the store's names is not refused by the search's
passed : (r : Result (Unit {0}) searched.Refusal) (u : Unit {0}) → judged_by r ≡ Ok u → r ≡ Ok (tt {0})
passed (Ok v) u h = refl
passed (Err e) u h = err_ok (refusal_of e) u h

-- a question that is not refused is refused by the search for its path slice alone
pub path_judged : (question : List Cell) (pairs frames path : ℕ) (u : Unit {0}) → judged_question question pairs frames ≡ Ok u → search.judged question pairs frames path ≡ result_err (search.judged_path path)
path_judged question pairs frames path u h =
    let b = both (judged_scratch pairs frames) (λ _. judged_goals question) u h in
    let s = passed (search.judged_scratch pairs frames) b.0 b.1 in
    let g = passed (search.judged_goals question) u b.2 in
    rw (s, g)
