-- Reading never takes a cell away, and a head makes one.
use Rattle.std.proofs.Common.{◌≡◌, ℕ, ◌-◌, ◌<◌, ◌≤◌, true, false, cond, ◌&&◌, eqb, ltb, leb, List, length, get_or, Some, None, Ok, Err, Option, Result, sym, refl, ap, ◌∙◌, subst, inl, inr, arith}
use Rattle.std.proofs.lemmas.List.{length-set, length_push}
use Rattle.std.proofs.lemmas.Bool.{cases_Bool, cond-true, cond-false, leb-true}
use Rattle.terms.specs.declared.Cell.{Cell}
use Rattle.lexis.specs.Worth.{worth_of}
use Rattle.lexis.specs.declared.fault.Fault.{Fault}
use Rattle.lexis.specs.declared.fault.Cause.TheVariants.{Question as TooLarge}
use Rattle.lexis.specs.declared.token.Token.{Token}
use Rattle.lexis.specs.declared.token.Kind.{Kind}
use Rattle.lexis.specs.declared.token.Kind.TheVariants.{Name, Variable, Integer, Float, Text, Open, Close, Comma, Dot, Neck, Query, End}
use Rattle.draft.specs.declared.grammar.Due.{Due}
use Rattle.draft.specs.declared.grammar.Due.TheVariants.{Head, Goal, GoalOrDot, Argument, NameEnd, TermEnd, Nothing}
use Rattle.lexis.specs.declared.token.Span.{Span}
use Rattle.draft.specs.declared.reader.Form.{Form}
use Rattle.draft.specs.Drafts.{makes_cell, cell_of, span_of}
use Rattle.draft.specs.Grammar.{after, goal_begins}
use Rattle.draft.specs.Sketch.{Sketch, argued, argued_by, one_more, innermost, counted_as, celled, full, with_cell, valued, added, opened, opened_in, entered, entered_as, too_many, failed, goes_on, sized_in, fitting, taken, Reads, no_cell, with_arguments}
use Rattle.draft.specs.Sketch.Reads.{no_token, misfit, last, more}
use Rattle.draft.proofs.Refusals.{never}

argued_start : (s : Sketch) → (argued s).start ≡ s.start
argued_start s =
    elim (eqb (length s.brackets) 0) as (λ b. (cond b s (argued_by (one_more (innermost s.brackets)) s)).start ≡ s.start) [ true ↦ refl | false ↦ refl ]

counted_start : (due : Due) (s : Sketch) → (counted_as due s).start ≡ s.start
counted_start Argument s = argued_start s
counted_start Goal s = refl
counted_start GoalOrDot s = refl
counted_start Head s = refl
counted_start NameEnd s = refl
counted_start TermEnd s = refl
counted_start Nothing s = refl

celled_start : (c : Cell) (w : Span) (s : Sketch) → (celled c w s).start ≡ s.start
celled_start c w s = elim (leb 32 (length s.cells)) as (λ b. (cond b (full s) (with_cell c w s)).start ≡ s.start) [ true ↦ refl | false ↦ refl ]

argued_cells : (s : Sketch) → length (argued s).cells ≡ length s.cells
argued_cells s =
    elim (eqb (length s.brackets) 0) as (λ b. length (cond b s (argued_by (one_more (innermost s.brackets)) s)).cells ≡ length s.cells)
    [ true ↦ refl | false ↦ length-set s.cells _ _ ]

pub counted_cells : (due : Due) (s : Sketch) → length (counted_as due s).cells ≡ length s.cells
counted_cells Argument s = argued_cells s
counted_cells Goal s = refl
counted_cells GoalOrDot s = refl
counted_cells Head s = refl
counted_cells NameEnd s = refl
counted_cells TermEnd s = refl
counted_cells Nothing s = refl

-- one cell more leaves at least one, and no fewer
celled_cells : (c : Cell) (w : Span) (s : Sketch) → (0 < length (celled c w s).cells) × (length s.cells ≤ length (celled c w s).cells)
celled_cells c w s =
    elim (cases_Bool (leb 32 (length s.cells))) [
      | inl e ↦
          let l = leb-true 32 (length s.cells) e in
          let x = ap (λ (y : Sketch). length y.cells) (cond-true (leb 32 (length s.cells)) (full s) (with_cell c w s) e) in
          (omega (arith, x), omega (arith, x))
      | inr e ↦
          let l = length_push s.cells c in
          let x = ap (λ (y : Sketch). length y.cells) (cond-false (leb 32 (length s.cells)) (full s) (with_cell c w s) e) in
          (omega (arith, x), omega (arith, x))
    ]

added_cells : (text : List ℕ) (t : Token) (due : Due) (v : ℕ) (s : Sketch)
    → (0 < length (added text t due v s).cells) × (length s.cells ≤ length (added text t due v s).cells) × ((added text t due v s).start ≡ s.start)
added_cells text t due v s =
    let w = celled_cells (cell_of t.kind due (valued t.kind text (span_of t) v (counted_as due s))) (span_of t) (counted_as due s) in
    let e = counted_cells due s in
    (w.0, omega (arith, w.1), celled_start (cell_of t.kind due (valued t.kind text (span_of t) v (counted_as due s))) (span_of t) (counted_as due s) ∙ counted_start due s)

abbrev Grown : Kind → Sketch → Sketch → Type 0
Grown k s s' = (makes_cell k ≡ true → 0 < length s'.cells) × (length s.cells ≤ length s'.cells) × (s'.start ≡ s.start)

kept : (k : Kind) (s x s' : Sketch) → ◌≡◌ {A = Result Sketch Fault} (Ok x) (Ok s') → Grown k s x → Grown k s s'
kept k s x s' e g = let p : x ≡ s' = cc in subst (Grown k s) p g

no : false ≡ true → ⊥
no h = let z : ◌≡◌ {A = ℕ} 0 1 = cc in omega arith

opened_grows : (s s' : Sketch) → opened_in s ≡ Ok s' → Grown Open s s'
opened_grows s s' e =
    elim (cases_Bool (leb 8192 (length s.brackets))) [
      | inl b ↦ absurd (never _ s' (sym (cond-true (leb 8192 (length s.brackets)) (Err (record { cause = TooLarge; at = s.start })) (Ok (opened s)) b) ∙ e))
      | inr b ↦
          kept Open s (opened s) s' (sym (cond-false (leb 8192 (length s.brackets)) (Err (record { cause = TooLarge; at = s.start })) (Ok (opened s)) b) ∙ e)
          (λ h. absurd (no h), omega (arith, length-set s.cells (length s.cells - 1) (with_arguments (get_or s.cells (length s.cells - 1) no_cell))), refl)
    ]

entered_grows : (k : Kind) (text : List ℕ) (t : Token) (due : Due) (v : ℕ) (s s' : Sketch) → entered_as k text t due v s ≡ Ok s' → Grown k s s'
entered_grows Open text t due v s s' e = opened_grows s s' e
entered_grows Close text t due v s s' e = kept Close s _ s' e (λ h. absurd (no h), omega arith, refl)
entered_grows Neck text t due v s s' e = kept Neck s _ s' e (λ h. absurd (no h), omega arith, refl)
entered_grows Comma text t due v s s' e = kept Comma s _ s' e (λ h. absurd (no h), omega arith, refl)
entered_grows Dot text t due v s s' e = kept Dot s _ s' e (λ h. absurd (no h), omega arith, refl)
entered_grows Query text t due v s s' e = kept Query s _ s' e (λ h. absurd (no h), omega arith, refl)
entered_grows End text t due v s s' e = kept End s _ s' e (λ h. absurd (no h), omega arith, refl)
entered_grows Name text t due v s s' e = let w = added_cells text t due v s in kept Name s _ s' e (λ h. w.0, w.1, w.2)
entered_grows Variable text t due v s s' e = let w = added_cells text t due v s in kept Variable s _ s' e (λ h. w.0, w.1, w.2)
entered_grows Integer text t due v s s' e = let w = added_cells text t due v s in kept Integer s _ s' e (λ h. w.0, w.1, w.2)
entered_grows Float text t due v s s' e = let w = added_cells text t due v s in kept Float s _ s' e (λ h. w.0, w.1, w.2)
entered_grows Text text t due v s s' e = let w = added_cells text t due v s in kept Text s _ s' e (λ h. w.0, w.1, w.2)

went_on : (next d : Due) (s' : Sketch) (r : Result Sketch Fault) → goes_on next r ≡ Ok (d, s') → r ≡ Ok s'
went_on next d s' (Ok a) e = let p : ◌≡◌ {A = Due × Sketch} (next, a) (d, s') = cc in ap (λ (q : Due × Sketch). Ok q.1) p
went_on next d s' (Err f) e = absurd (never f (d, s') e)

sized_grows : (text : List ℕ) (form : Form) (due : Due) (t : Token) (next d : Due) (s s' : Sketch) (r : Result ℕ Fault)
    → sized_in text form due t next s r ≡ Ok (d, s') → Grown t.kind s s'
unfolding entered
sized_grows text form due t next d s s' (Err f) e = absurd (never f (d, s') e)
sized_grows text form due t next d s s' (Ok v) e =
    elim (cases_Bool (makes_cell t.kind && too_many s form due)) [
      | inl b ↦ absurd (never _ (d, s') (sym (cond-true (makes_cell t.kind && too_many s form due) (failed t) (goes_on next (entered text t due v s)) b) ∙ e))
      | inr b ↦
          entered_grows t.kind text t due v s s'
          (went_on next d s' (entered text t due v s) (sym (cond-false (makes_cell t.kind && too_many s form due) (failed t) (goes_on next (entered text t due v s)) b) ∙ e))
    ]

fitting_grows : (text : List ℕ) (form : Form) (due : Due) (t : Token) (d : Due) (s s' : Sketch) (o : Option Due)
    → fitting text form due t s o ≡ Ok (d, s') → Grown t.kind s s' × ((o ≡ None → ⊥))
fitting_grows text form due t d s s' None e = absurd (never _ (d, s') e)
fitting_grows text form due t d s s' (Some next) e =
    (sized_grows text form due t next d s s' (worth_of text t) e, λ h. let z : ◌≡◌ {A = ℕ} 0 1 = cc in omega arith)

head_makes : (k : Kind) → (goal_begins k ≡ None → ⊥) → makes_cell k ≡ true
head_makes Name h = refl
head_makes Variable h = refl
head_makes Integer h = refl
head_makes Float h = refl
head_makes Text h = refl
head_makes Open h = absurd (h refl)
head_makes Close h = absurd (h refl)
head_makes Comma h = absurd (h refl)
head_makes Dot h = absurd (h refl)
head_makes Neck h = absurd (h refl)
head_makes Query h = absurd (h refl)
head_makes End h = absurd (h refl)

taken_grows : (text : List ℕ) (form : Form) (due d : Due) (s s' : Sketch) (t : Token) → taken text form due s t ≡ Ok (d, s') → (length s.cells ≤ length s'.cells) × (s'.start ≡ s.start)
unfolding taken
taken_grows text form due d s s' t e =
    let w = fitting_grows text form due t d s s' (after due (ltb 0 (length s.brackets)) s.body t.kind) e in
    (w.0.1, w.0.2)

taken_head : (text : List ℕ) (form : Form) (d : Due) (s s' : Sketch) (t : Token) → taken text form Head s t ≡ Ok (d, s') → 0 < length s'.cells
unfolding taken
taken_head text form d s s' t e =
    let w = fitting_grows text form Head t d s s' (after Head (ltb 0 (length s.brackets)) s.body t.kind) e in
    w.0.0 (head_makes t.kind w.1)

pub reads_grow : (text : List ℕ) (form : Form) (due : Due) (s s' : Sketch) (at end : ℕ) (r : Result (ℕ × Sketch) Fault)
    → Reads text form due s at r → r ≡ Ok (end, s') → (length s.cells ≤ length s'.cells) × (s'.start ≡ s.start)
reads_grow text form due s s' at end r (no_token x) e = absurd (never _ (end, s') e)
reads_grow text form due s s' at end r (misfit t x y) e = absurd (never _ (end, s') e)
reads_grow text form due s s' at end r (last {s' = u} {end = m} t x y z) e =
    let p : ◌≡◌ {A = ℕ × Sketch} (m, u) (end, s') = cc in
    let q = ap (λ (w : ℕ × Sketch). length w.1.cells) p in
    let g = taken_grows text form due Nothing s u t y in
    (omega arith, sym (ap (λ (w : ℕ × Sketch). w.1.start) p) ∙ g.1)
reads_grow text form due s s' at end r (more {next = d} {s' = u} t x y z w) e =
    let a = taken_grows text form due d s u t y in
    let b = reads_grow text form d u s' t.end end r w e in
    (omega arith, b.1 ∙ a.1)

-- a clause has a head
pub reads_head : (text : List ℕ) (form : Form) (s s' : Sketch) (at end : ℕ) (r : Result (ℕ × Sketch) Fault)
    → Reads text form Head s at r → r ≡ Ok (end, s') → 0 < length s'.cells
reads_head text form s s' at end r (no_token x) e = absurd (never _ (end, s') e)
reads_head text form s s' at end r (misfit t x y) e = absurd (never _ (end, s') e)
reads_head text form s s' at end r (last {s' = u} {end = m} t x y z) e =
    let p : ◌≡◌ {A = ℕ × Sketch} (m, u) (end, s') = cc in
    let q = ap (λ (w : ℕ × Sketch). length w.1.cells) p in
    omega (arith, taken_head text form Nothing s u t y)
reads_head text form s s' at end r (more {next = d} {s' = u} t x y z w) e =
    let a = taken_head text form d s u t y in
    let b = reads_grow text form d u s' t.end end r w e in
    omega arith
