-- A clause that is read is over no limit.
use Rattle.std.proofs.Common.{◌≡◌, ℕ, true, false, ◌&&◌, leb, List, length, Ok, Err, Result, sym, refl, ap, ◌∙◌, inl, inr}
use Rattle.std.proofs.lemmas.Bool.{cases_Bool, cond-true, cond-false, or_parts}
use Rattle.terms.specs.declared.Cell.{Cell}
use Rattle.lexis.specs.declared.fault.Fault.{Fault}
use Rattle.lexis.specs.declared.fault.Cause.TheVariants.{Question as TooLarge}
use Rattle.lexis.specs.declared.token.Token.{Token}
use Rattle.lexis.specs.declared.token.Kind.{Kind}
use Rattle.lexis.specs.declared.token.Kind.TheVariants.{Name, Variable, Integer, Float, Text, Open, Close, Comma, Dot, Neck, Query, End}
use Rattle.draft.specs.declared.grammar.Due.{Due}
use Rattle.draft.specs.declared.grammar.Due.TheVariants.{Head, Goal, GoalOrDot, Argument, NameEnd, TermEnd, Nothing}
use Rattle.draft.specs.declared.reader.Form.TheVariants.{Clause}
use Rattle.lexis.specs.declared.token.Span.{Span}
use Rattle.draft.specs.Drafts.{makes_cell}
use Rattle.draft.specs.Sketch.{Sketch, counted_as, celled, full, with_cell, opened, opened_in, entered_as, too_many}
use Rattle.draft.proofs.Growth.{counted_cells}
use Rattle.draft.proofs.Pushing.{argued_over}
use Rattle.draft.proofs.Steps.{Took}
use Rattle.draft.proofs.Refusals.{never}

cells_room : (due : Due) (s : Sketch) → too_many s Clause due ≡ false → leb 32 (length s.cells) ≡ false
cells_room Argument s e = (or_parts (leb 32 (length s.cells)) _ e).0
cells_room Goal s e = (or_parts (leb 32 (length s.cells)) _ e).0
cells_room Head s e = e
cells_room GoalOrDot s e = e
cells_room NameEnd s e = e
cells_room TermEnd s e = e
cells_room Nothing s e = e

counted_over : (due : Due) (s : Sketch) → (due ≡ GoalOrDot → ⊥) → too_many s Clause due ≡ false → (counted_as due s).over ≡ s.over
counted_over Argument s n e = argued_over s
counted_over Goal s n e = cond-false (leb 8 s.goals) true s.over (or_parts (leb 32 (length s.cells)) _ e).1
counted_over GoalOrDot s n e = absurd (n refl)
counted_over Head s n e = refl
counted_over NameEnd s n e = refl
counted_over TermEnd s n e = refl
counted_over Nothing s n e = refl

celled_over : (c : Cell) (w : Span) (due : Due) (s s' : Sketch) → (due ≡ GoalOrDot → ⊥) → too_many s Clause due ≡ false
    → ◌≡◌ {A = Result Sketch Fault} (Ok (celled c w (counted_as due s))) (Ok s') → s.over ≡ false → s'.over ≡ false
celled_over c w due s s' n m e o =
    let u = counted_as due s in
    let x : celled c w u ≡ s' = cc in
    let l : leb 32 (length u.cells) ≡ false = ap (leb 32) (counted_cells due s) ∙ cells_room due s m in
    ap (λ (y : Sketch). y.over) (sym x ∙ cond-false (leb 32 (length u.cells)) (full u) (with_cell c w u) l) ∙ (counted_over due s n m ∙ o)

kept : (s x s' : Sketch) → ◌≡◌ {A = Result Sketch Fault} (Ok x) (Ok s') → x.over ≡ s.over → s.over ≡ false → s'.over ≡ false
kept s x s' e f o = let p : x ≡ s' = cc in ap (λ (y : Sketch). y.over) (sym p) ∙ (f ∙ o)

opened_over : (s s' : Sketch) → opened_in s ≡ Ok s' → s.over ≡ false → s'.over ≡ false
opened_over s s' e o =
    elim (cases_Bool (leb 8192 (length s.brackets))) [
      | inl b ↦ absurd (never _ s' (sym (cond-true (leb 8192 (length s.brackets)) (Err (record { cause = TooLarge; at = s.start })) (Ok (opened s)) b) ∙ e))
      | inr b ↦ kept s (opened s) s' (sym (cond-false (leb 8192 (length s.brackets)) (Err (record { cause = TooLarge; at = s.start })) (Ok (opened s)) b) ∙ e) refl o
    ]

entered_over : (k : Kind) (text : List ℕ) (t : Token) (due : Due) (v : ℕ) (s s' : Sketch) → (due ≡ GoalOrDot → ⊥) → (makes_cell k && too_many s Clause due) ≡ false
    → entered_as k text t due v s ≡ Ok s' → s.over ≡ false → s'.over ≡ false
entered_over Name text t due v s s' n m e o = celled_over _ _ due s s' n m e o
entered_over Variable text t due v s s' n m e o = celled_over _ _ due s s' n m e o
entered_over Integer text t due v s s' n m e o = celled_over _ _ due s s' n m e o
entered_over Float text t due v s s' n m e o = celled_over _ _ due s s' n m e o
entered_over Text text t due v s s' n m e o = celled_over _ _ due s s' n m e o
entered_over Open text t due v s s' n m e o = opened_over s s' e o
entered_over Close text t due v s s' n m e o = kept s _ s' e refl o
entered_over Comma text t due v s s' n m e o = kept s _ s' e refl o
entered_over Dot text t due v s s' n m e o = kept s _ s' e refl o
entered_over Neck text t due v s s' n m e o = kept s _ s' e refl o
entered_over Query text t due v s s' n m e o = kept s _ s' e refl o
entered_over End text t due v s s' n m e o = kept s _ s' e refl o

pub took_over : (text : List ℕ) (due : Due) (t : Token) (d : Due) (s s' : Sketch) → Took text Clause due s t d s' → (due ≡ GoalOrDot → ⊥) → s.over ≡ false → s'.over ≡ false
took_over text due t d s s' w n o = entered_over t.kind text t due w.value s s' n w.small w.adds o
