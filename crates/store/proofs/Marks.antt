-- What each call hands on: few entries, each an equation, and marks that rise and never pass the entries.
use Rattle.std.proofs.Common.{◌≡◌, ℕ, ◌<◌, ◌≤◌, true, List, [], ◌∷◌, map, length, get_or, take, drop, Some, Ok, Err, All, Result, sym, refl, ap, ◌∙◌, subst, ap₂, arith}
use Rattle.std.proofs.lemmas.List.Elements.{All-nil, All-head, All-tail}
use Rattle.std.proofs.lemmas.List.{length_push, length-take-le}
use Rattle.std.proofs.lemmas.List.Elements.{All-push, All-take}
use Rattle.terms.specs.declared.Cell.{Cell}
use Rattle.terms.specs.Shape.{two_terms, all_low}
use Rattle.typing.specs.Terms.{Eqs, Signature}
use Rattle.trees.specs.Terms.{EqsBelow}
use Rattle.unification.specs.declared.Outcome.{Outcome}
use Rattle.programs.specs.Spelling.{spell_equation}
use Rattle.programs.proofs.Equations.{parse_equation, spell_equation_injective}
use Rattle.programs.proofs.Lows.{equation_below}
use Rattle.store.specs.declared.Refusal.{Refusal}
use Rattle.store.specs.declared.token.Slip.{Slip}
use Rattle.store.specs.Judged.{judged}
use Rattle.store.specs.Model.{Model, opened, but_last, newest, with_entry, with_mark, without_mark, cut_back}
use Rattle.store.specs.Calls.{Spelt, EnteredBy, Marked, Ended}
use Rattle.store.proofs.Judging.{accepted}
use Rattle.store.proofs.Rows.{Rising, rising_more, rising_less, rising_back, newest_within, length_but_last}

-- the cells are an equation over the variables 0 to 31
abbrev pub Proper : List Cell → Type 0
Proper cells = (p : ℕ) × (two_terms cells ≡ Some p) × (all_low cells ≡ true)

pub record Well (m : Model) : Type 0 where
  pub proper : All Proper m.entries
  pub few : length m.entries ≤ 16
  pub shallow : length m.marks ≤ 8
  pub rising : (i j : ℕ) → i ≤ j → j < length m.marks → get_or m.marks i 0 ≤ get_or m.marks j 0
  pub within : (k : ℕ) → k < length m.marks → get_or m.marks k 0 ≤ length m.entries

pub well_opened : Well opened
well_opened = record { proper = All-nil Proper; few = omega arith; shallow = omega arith; rising = λ i j p h. omega arith; within = λ k h. omega arith }

well_entry : (m : Model) (cells : List Cell) → Proper cells → length m.entries < 16 → Well m → Well (with_entry m cells)
well_entry m cells e h w =
    let p = length_push m.entries cells in
    record { proper = All-push Proper m.entries cells w.proper e; few = omega arith; shallow = w.shallow; rising = w.rising; within = λ k l. omega (arith, w.within k l) }

marks_of : (m : Model) → Well m → Rising m.marks (length m.entries)
marks_of m w = record { rising = w.rising; within = w.within }

well_mark : (m : Model) → length m.marks < 8 → Well m → Well (with_mark m)
well_mark m h w =
    let p = length_push m.marks (length m.entries) in
    let r = rising_more m.marks (length m.entries) (marks_of m w) in record { proper = w.proper; few = w.few; shallow = omega arith; rising = r.rising; within = r.within }

pub well_without : (m : Model) → Well m → Well (without_mark m)
well_without m w =
    let r = rising_less m.marks (length m.entries) (marks_of m w) in
    record { proper = w.proper; few = w.few; shallow = omega (arith, length_but_last m.marks); rising = r.rising; within = r.within }

pub well_back : (m : Model) → 1 ≤ length m.marks → Well m → Well (cut_back m)
well_back m h w = record {
  proper = All-take Proper (newest m.marks) m.entries w.proper;
  few = omega (arith, cut, top, w.few);
  shallow = (well_without m w).shallow;
  rising = r.rising;
  within = λ k l. omega (arith, cut, r.within k l);
}
  where
    r : Rising (but_last m.marks) (newest m.marks)
    r = rising_back m.marks (length m.entries) (marks_of m w)

    top : newest m.marks ≤ length m.entries
    top = newest_within m.marks (length m.entries) (marks_of m w) (omega arith)

    cut : length (take (newest m.marks) m.entries) ≡ newest m.marks
    cut = length-take-le (newest m.marks) m.entries top

pub entered_well : (kind : Signature) (m : Model) (cells : List Cell) (pairs frames : ℕ) (j : Result ℕ Refusal) → judged cells pairs frames (length m.entries) ≡ j → (r : Result Outcome Refusal) (m' : Model)
    → EnteredBy j kind m cells r m' → Well m → Well m'
entered_well kind m cells pairs frames (Ok p) e r m' s w =
    let a = accepted cells pairs frames (length m.entries) p e in
    subst Well (sym s.2) (well_entry m cells (p, a.two, a.low) a.room w)
entered_well kind m cells pairs frames (Err x) e r m' s w = subst Well (sym s.1) w

pub marked_well : (number : ℕ) (m : Model) (r : Result Slip Refusal) (m' : Model) → Marked number m r m' → Well m → Well m'
marked_well number m (Ok t) m' s w = subst Well (sym s.3) (well_mark m s.0 w)
marked_well number m (Err r) m' s w = subst Well (sym s.2) w

pub ended_well : (number : ℕ) (m : Model) (t : Slip) (r : Result (Unit {0}) Refusal) (n m' : Model) → (1 ≤ length m.marks → Well m → Well n) → Ended number m t r n m' → Well m → Well m'
ended_well number m t (Ok u) n m' f s w = subst Well (sym s.1) (f s.0.2 w)
ended_well number m t (Err r) n m' f s w = subst Well (sym s.2) w

-- the equations that proper entries spell
pub entries_spell : (es : List (List Cell)) → All Proper es → (E : Eqs) × Spelt E es × EqsBelow 32 E
entries_spell [] h = ([], refl, tt)
entries_spell (cells ∷ es) h =
    let a = All-head Proper cells es h in
    let p = parse_equation a.0 cells a.1 in
    let r = entries_spell es (All-tail Proper cells es h) in
    (p.0 ∷ r.0, ap₂ ◌∷◌ (sym p.1) r.1, (equation_below p.0 (ap all_low (sym p.1) ∙ a.2), r.2))

-- and no others
pub spelt_only : (E F : Eqs) → map spell_equation E ≡ map spell_equation F → E ≡ F
spelt_only [] [] e = refl
spelt_only [] (d ∷ F) e = let z = ap length e in absurd (omega arith)
spelt_only (d ∷ E) [] e = let z = ap length e in absurd (omega arith)
spelt_only (d ∷ E) (g ∷ F) e = ap₂ ◌∷◌ (spell_equation_injective d g (ap (λ xs. get_or xs 0 []) e)) (spelt_only E F (ap (drop 1) e))
