use Rattle.std.proofs.Common.{◌≡◌, ℕ, ◌<◌, List, length, IfOk, Ok, Err, Result, sym, refl, ap, ◌∙◌, subst, MatchResult}
use Rattle.lexis.specs.declared.fault.Fault.{Fault}
use Rattle.draft.specs.declared.grammar.Due.{Due}
use Rattle.draft.specs.declared.reader.Form.{Form}
use Rattle.lexis.specs.Tokens.{start_at}
use Rattle.draft.specs.declared.grammar.Due.TheVariants.{Head}
use Rattle.draft.specs.declared.reader.Form.TheVariants.{Clause}
use Rattle.draft.specs.Sketch.{Sketch, Reads, ReadsClause, Outcome}
use Rattle.draft.proofs.Growth.{reads_grow, reads_head}

pub reads_from : (text : List ℕ) (form : Form) (due : Due) (s : Sketch) (a b : ℕ) (r : Result (ℕ × Sketch) Fault) → a ≡ b → Reads text form due s a r → Reads text form due s b r
reads_from text form due s a b r e x = subst (λ (n : ℕ). Reads text form due s n r) e x

-- what a fault that passes unchanged tells
pub outcome_err : (P : Result (ℕ × Sketch) Fault → Type 0) (s : Sketch) (r : Result ℕ Fault) (x e : Fault) → r ≡ Err x → x ≡ e → P (Err e) → Outcome P s r
outcome_err P s r x e h k p = subst (Outcome P s) (sym (h ∙ ap Err k)) p

pub made_err : (Q : ℕ → Type 0) (r : Result ℕ Fault) (x : Fault) → r ≡ Err x → IfOk r Q
made_err Q r x h = subst (λ (y : Result ℕ Fault). IfOk y Q) (sym h) tt

pub reads_state : (text : List ℕ) (form : Form) (due : Due) (s s₀ : Sketch) (at : ℕ) (r : Result (ℕ × Sketch) Fault) → s ≡ s₀ → Reads text form due s at r → Reads text form due s₀ at r
reads_state text form due s s₀ at r e x = subst (λ (u : Sketch). Reads text form due u at r) e x

pub outcome_state : (text : List ℕ) (form : Form) (due : Due) (s s₀ : Sketch) (at : ℕ) (u : Sketch) (r : Result ℕ Fault) → s ≡ s₀ → Outcome (Reads text form due s at) u r → Outcome (Reads text form due s₀ at) u r
outcome_state text form due s s₀ at u (Ok e) h x = reads_state text form due s s₀ at (Ok (e, u)) h x
outcome_state text form due s s₀ at u (Err e) h x = reads_state text form due s s₀ at (Err e) h x

pub clause_some : (text : List ℕ) (at : ℕ) (u : Sketch) (r : Result ℕ Fault) → Outcome (ReadsClause text at) u r → IfOk r (λ _. 0 < length u.cells)
clause_some text at u (Ok e) x = reads_head text Clause _ u _ e _ x refl
clause_some text at u (Err e) x = tt

pub clause_start : (text : List ℕ) (at : ℕ) (u : Sketch) (r : Result ℕ Fault) → Outcome (ReadsClause text at) u r → IfOk r (λ _. u.start ≡ start_at text at)
clause_start text at u (Ok e) x = (reads_grow text Clause Head _ u _ e _ x refl).1
clause_start text at u (Err e) x = tt

-- the exit of a fault that passes unchanged
pub cases_err : {A : Type 0} (P : A → Type 0) (Q : Fault → Type 0) (r : Result A Fault) (x e : Fault) → r ≡ Err x → x ≡ e → Q e → MatchResult r P Q
cases_err {A = A} P Q r x e h k q = subst (λ (y : Result A Fault). MatchResult y P Q) (sym (h ∙ ap Err k)) q
