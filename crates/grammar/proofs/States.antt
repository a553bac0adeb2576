-- What one token does to a clause as far as it is read.
use Rattle.std.proofs.Common.{◌≡◌, ℕ, suc, ◌+◌, ◌-◌, ◌<◌, min, Bool, false, ◌&&◌, eqb, ltb, leb, List, [], ◌∷◌, ◌++◌, length, set, Some, None, Ok, Err, Option, Result, sym, refl, ap, ◌∙◌, subst, inl, inr, arith}
use Rattle.std.proofs.lemmas.List.{length_push, get_or_push, get_or_at, set_at, take_at}
use Rattle.std.proofs.lemmas.Bool.{cond-true, cond-false, cases_Bool, ne_eqb, or_parts, leb-false, lt-leb}
use Rattle.terms.specs.declared.Cell.{Cell}
use Rattle.lexis.specs.Tokens.{token_at}
use Rattle.lexis.specs.Worth.{worth_of}
use Rattle.lexis.specs.declared.fault.Fault.{Fault}
use Rattle.lexis.specs.declared.fault.Cause.TheVariants.{Question as TooLarge}
use Rattle.lexis.specs.declared.token.Token.{Token}
use Rattle.lexis.specs.declared.token.Kind.{Kind}
use Rattle.lexis.specs.declared.token.Kind.TheVariants.{Name, Variable, Integer, Float, Text, Open, Close, Comma, Dot, Neck, Query, End}
use Rattle.lexis.specs.declared.token.Span.{Span}
use Rattle.draft.specs.declared.Bracket.{Bracket}
use Rattle.draft.specs.declared.grammar.Due.{Due}
use Rattle.draft.specs.declared.grammar.Due.TheVariants.{Argument, NameEnd, TermEnd, Nothing}
use Rattle.draft.specs.declared.reader.Form.TheVariants.{Clause}
use Rattle.draft.specs.Drafts.{makes_cell}
use Rattle.clauses.specs.Clauses.{vars_after}
use Rattle.draft.specs.Grammar.{after}
use Rattle.draft.specs.Sketch.{Sketch, argued, argued_by, one_more, innermost, no_bracket, no_cell, with_arity, with_arguments, full, with_cell, celled, opened, opened_in, closed, entered_as, entered, too_many, failed, goes_on, sized_in, fitting, taken, Reads}
use Rattle.draft.specs.Sketch.Reads.{no_token, misfit, last, more}

abbrev pub state : ℕ → List Cell → List Span → List Bracket → ℕ → ℕ → Bool → Bool → Sketch
state st cs ss bs v g b o = record { start = st; cells = cs; spans = ss; brackets = bs; vars = v; goals = g; body = b; over = o }

abbrev pub bracket : ℕ → ℕ → Bracket
bracket i k = record { cell = i; args = k }

pub never : {A : Type 0} {e : Fault} {a : A} → ◌≡◌ {A = Result A Fault} (Err e) (Ok a) → ⊥
never h = let z : ◌≡◌ {A = ℕ} 0 1 = cc in omega arith

pub ok_same : {A : Type 0} {a b : A} → ◌≡◌ {A = Result A Fault} (Ok a) (Ok b) → a ≡ b
ok_same h = cc

-- a token that was taken fits, is not too large, and was entered
pub record Step (text : List ℕ) (due : Due) (s : Sketch) (t : Token) (k : Kind) (next : Due) (s' : Sketch) : Type 0 where
  pub fits : after due (ltb 0 (length s.brackets)) s.body k ≡ Some next
  pub value : ℕ
  pub sized : worth_of text t ≡ Ok value
  pub room : (makes_cell k && too_many s Clause due) ≡ false
  pub enters : entered_as k text t due value s ≡ Ok s'

went : (next d : Due) (s' : Sketch) (r : Result Sketch Fault) → goes_on next r ≡ Ok (d, s') → (next ≡ d) × (r ≡ Ok s')
went next d s' (Ok a) e =
    let p : ◌≡◌ {A = Due × Sketch} (next, a) (d, s') = ok_same e in
    (ap (λ (q : Due × Sketch). q.0) p, ap (λ (q : Due × Sketch). Ok q.1) p)
went next d s' (Err f) e = absurd (never e)

step_sized : (text : List ℕ) (due : Due) (t : Token) (next d : Due) (s s' : Sketch) (r : Result ℕ Fault) → after due (ltb 0 (length s.brackets)) s.body t.kind ≡ Some next → worth_of text t ≡ r
    → sized_in text Clause due t next s r ≡ Ok (d, s') → Step text due s t t.kind d s'
unfolding entered
step_sized text due t next d s s' (Err f) a w e = absurd (never e)
step_sized text due t next d s s' (Ok v) a w e =
    elim (cases_Bool (makes_cell t.kind && too_many s Clause due)) [
      | inl b ↦ absurd (never (sym (cond-true (makes_cell t.kind && too_many s Clause due) (failed t) (goes_on next (entered text t due v s)) b) ∙ e))
      | inr b ↦
          let g = went next d s' (entered text t due v s) (sym (cond-false (makes_cell t.kind && too_many s Clause due) (failed t) (goes_on next (entered text t due v s)) b) ∙ e) in
          record { fits = a ∙ ap Some g.0; value = v; sized = w; room = b; enters = g.1 }
    ]

step_fitting : (text : List ℕ) (due : Due) (t : Token) (d : Due) (s s' : Sketch) (o : Option Due) → after due (ltb 0 (length s.brackets)) s.body t.kind ≡ o
    → fitting text Clause due t s o ≡ Ok (d, s') → Step text due s t t.kind d s'
step_fitting text due t d s s' None a e = absurd (never e)
step_fitting text due t d s s' (Some next) a e = step_sized text due t next d s s' (worth_of text t) a refl e

pub step_of : (text : List ℕ) (due : Due) (t : Token) (d : Due) (s s' : Sketch) → taken text Clause due s t ≡ Ok (d, s') → Step text due s t t.kind d s'
unfolding taken
step_of text due t d s s' e = step_fitting text due t d s s' (after due (ltb 0 (length s.brackets)) s.body t.kind) refl e

pub taken_of : (text : List ℕ) (due : Due) (t : Token) (d : Due) (s s' : Sketch) → Step text due s t t.kind d s' → taken text Clause due s t ≡ Ok (d, s')
unfolding taken entered
taken_of text due t d s s' w =
    ap (fitting text Clause due t s) w.fits
    ∙ (ap (sized_in text Clause due t d s) w.sized
    ∙ (cond-false (makes_cell t.kind && too_many s Clause due) (failed t) (goes_on d (entered text t due w.value s)) w.room ∙ ap (goes_on d) w.enters))

-- reading that comes to its end, in so many steps
pub data Run (text : List ℕ) (end : ℕ) (u : Sketch) : ℕ → Due → Sketch → ℕ → Type 0 where
  done : Run text end u 0 Nothing u end
  step : {n : ℕ} {due next : Due} {s s' : Sketch} {at : ℕ} (t : Token) → token_at text at ≡ Ok t → taken text Clause due s t ≡ Ok (next, s') → Run text end u n next s' t.end
      → Run text end u (suc n) due s at

pub run_of : (text : List ℕ) (due : Due) (s : Sketch) (at end : ℕ) (u : Sketch) (r : Result (ℕ × Sketch) Fault) → r ≡ Ok (end, u) → Reads text Clause due s at r
    → (n : ℕ) × Run text end u n due s at
run_of text due s at end u r e (no_token h) = absurd (never e)
run_of text due s at end u r e (misfit t h k) = absurd (never e)
run_of text due s at end u r e (last {s' = s'} {end = end'} t h k j) =
    let p : ◌≡◌ {A = ℕ × Sketch} (end', s') (end, u) = ok_same e in
    let q : s' ≡ u = ap (λ (x : ℕ × Sketch). x.1) p in
    let place : t.end ≡ end = j ∙ ap (λ (x : ℕ × Sketch). x.0) p in
    (1, step t h (k ∙ ap (λ x. Ok (Nothing, x)) q) (subst (λ x. Run text end u 0 Nothing u x) (sym place) done))
run_of text due s at end u r e (more {next = next} {s' = s'} t h k j d) =
    let w = run_of text next s' t.end end u r e d in
    (suc w.0, step t h k w.1)

-- the next step of a run that is not at its end
pub record Stepped (text : List ℕ) (end : ℕ) (u : Sketch) (n : ℕ) (due : Due) (s : Sketch) (at : ℕ) : Type 0 where
  pub left : ℕ
  pub token : Token
  pub next : Due
  pub after_it : Sketch
  pub count : n ≡ suc left
  pub stands : token_at text at ≡ Ok token
  pub took : taken text Clause due s token ≡ Ok (next, after_it)
  pub rest : Run text end u left next after_it token.end

pub stepped : (text : List ℕ) (end : ℕ) (u : Sketch) (n : ℕ) (due : Due) (s : Sketch) (at : ℕ) → (due ≡ Nothing → ⊥) → Run text end u n due s at → Stepped text end u n due s at
stepped text end u n due s at h done = absurd (h refl)
stepped text end u n due s at h (step {n = m} {next = d} {s' = s'} t k e r) = record { left = m; token = t; next = d; after_it = s'; count = refl; stands = k; took = e; rest = r }

pub run_state : (text : List ℕ) (end : ℕ) (u : Sketch) (n : ℕ) (due due' : Due) (s s' : Sketch) (at : ℕ) → due ≡ due' → s ≡ s' → Run text end u n due s at → Run text end u n due' s' at
run_state text end u n due due' s s' at d e r = subst (λ x. Run text end u n due' x at) e (subst (λ x. Run text end u n x s at) d r)

-- an argument begins in the innermost bracket
pub argued_is : (st : ℕ) (pre mid : List Cell) (f : Cell) (ss : List Span) (bs : List Bracket) (k v g : ℕ) (b o : Bool) → k < 8
    → argued (state st (pre ++ f ∷ mid) ss (bs ++ bracket (length pre) k ∷ []) v g b o) ≡ state st (pre ++ with_arity (k + 1) f ∷ mid) ss (bs ++ bracket (length pre) (k + 1) ∷ []) v g b o
argued_is st pre mid f ss bs k v g b o h =
    let B = bs ++ bracket (length pre) k ∷ [] in
    let S = state st (pre ++ f ∷ mid) ss B v g b o in
    let l = length_push bs (bracket (length pre) k) in
    let i : length bs ≡ length B - 1 = omega arith in
    let inner : innermost B ≡ bracket (length pre) k = get_or_push bs (bracket (length pre) k) no_bracket (length B - 1) i in
    let m : min k 7 + 1 ≡ k + 1 = omega arith in
    cond-false (eqb (length B) 0) S (argued_by (one_more (innermost B)) S) (ne_eqb (length B) 0 (λ z. omega arith))
    ∙ (ap (λ x. argued_by (one_more x) S) inner
    ∙ (ap (λ x. argued_by (bracket (length pre) x) S) m
    ∙ (ap (λ x. state st (set (pre ++ f ∷ mid) (length pre) (with_arity (k + 1) x)) ss (set B (length B - 1) (bracket (length pre) (k + 1))) v g b o) (get_or_at pre f mid no_cell (length pre) refl)
    ∙ (ap (λ x. state st x ss (set B (length B - 1) (bracket (length pre) (k + 1))) v g b o) (set_at pre f mid (with_arity (k + 1) f) (length pre) refl)
    ∙ ap (λ x. state st (pre ++ with_arity (k + 1) f ∷ mid) ss x v g b o) (set_at bs (bracket (length pre) k) [] (bracket (length pre) (k + 1)) (length B - 1) i)))))

-- one cell more, where there is room
pub celled_is : (st : ℕ) (cs : List Cell) (ss : List Span) (bs : List Bracket) (v g : ℕ) (b o : Bool) (c : Cell) (w : Span) → length cs < 32
    → celled c w (state st cs ss bs v g b o) ≡ state st (cs ++ c ∷ []) (ss ++ w ∷ []) bs (vars_after v c) g b o
celled_is st cs ss bs v g b o c w h =
    let S = state st cs ss bs v g b o in
    cond-false (leb 32 (length cs)) (full S) (with_cell c w S) (lt-leb 32 (length cs) h)

-- a bracket opens behind the last cell
pub opened_is : (st : ℕ) (cs : List Cell) (c : Cell) (ss : List Span) (bs : List Bracket) (v g : ℕ) (b o : Bool) (s' : Sketch) → opened_in (state st (cs ++ c ∷ []) ss bs v g b o) ≡ Ok s'
    → state st (cs ++ with_arguments c ∷ []) ss (bs ++ bracket (length cs) 0 ∷ []) v g b o ≡ s'
opened_is st cs c ss bs v g b o s' e =
    let C = cs ++ c ∷ [] in
    let S = state st C ss bs v g b o in
    let l = length_push cs c in
    let i : length cs ≡ length C - 1 = omega arith in
    elim (cases_Bool (leb 8192 (length bs))) [
      | inl h ↦ absurd (never (sym (cond-true (leb 8192 (length bs)) (Err (record { cause = TooLarge; at = st })) (Ok (opened S)) h) ∙ e))
      | inr h ↦
          let p : opened S ≡ s' = ok_same (sym (cond-false (leb 8192 (length bs)) (Err (record { cause = TooLarge; at = st })) (Ok (opened S)) h) ∙ e) in
          sym (ap (λ x. state st (set C (length C - 1) (with_arguments x)) ss (bs ++ bracket (length C - 1) 0 ∷ []) v g b o) (get_or_at cs c [] no_cell (length C - 1) i)
          ∙ (ap (λ x. state st x ss (bs ++ bracket (length C - 1) 0 ∷ []) v g b o) (set_at cs c [] (with_arguments c) (length C - 1) i)
          ∙ ap (λ x. state st (cs ++ with_arguments c ∷ []) ss (bs ++ bracket x 0 ∷ []) v g b o) (sym i)))
          ∙ p
    ]

-- the innermost bracket closes
pub closed_is : (st : ℕ) (cs : List Cell) (ss : List Span) (bs : List Bracket) (x : Bracket) (v g : ℕ) (b o : Bool)
    → closed (state st cs ss (bs ++ x ∷ []) v g b o) ≡ state st cs ss bs v g b o
closed_is st cs ss bs x v g b o =
    let l = length_push bs x in
    ap (λ y. state st cs ss y v g b o) (take_at bs (x ∷ []) (length (bs ++ x ∷ []) - 1) (omega arith))

-- room for an argument
pub argument_room : (st : ℕ) (cs : List Cell) (ss : List Span) (bs : List Bracket) (i k v g : ℕ) (b o : Bool)
    → too_many (state st cs ss (bs ++ bracket i k ∷ []) v g b o) Clause Argument ≡ false → (length cs < 32) × (k < 8)
argument_room st cs ss bs i k v g b o h =
    let B = bs ++ bracket i k ∷ [] in
    let l = length_push bs (bracket i k) in
    let inner : innermost B ≡ bracket i k = get_or_push bs (bracket i k) no_bracket (length B - 1) (omega arith) in
    let p = or_parts (leb 32 (length cs)) (leb 8 (innermost B).args) h in
    (leb-false 32 (length cs) p.0, leb-false 8 k (ap (λ x. leb 8 x.args) (sym inner) ∙ p.1))

pub none_some : {A : Type 0} {a : A} → ◌≡◌ {A = Option A} None (Some a) → ⊥
none_some h = let z : ◌≡◌ {A = ℕ} 0 1 = cc in omega arith

pub some_same : {A : Type 0} {a b : A} → ◌≡◌ {A = Option A} (Some a) (Some b) → a ≡ b
some_same h = cc

-- after a name, what is no bracket is as after a whole term
pub after_name : (text : List ℕ) (s s' : Sketch) (t : Token) (k : Kind) (d : Due) → (k ≡ Open → ⊥) → Step text NameEnd s t k d s' → Step text TermEnd s t k d s'
after_name text s s' t Open d h w = absurd (h refl)
after_name text s s' t Close d h w = record { fits = w.fits; value = w.value; sized = w.sized; room = refl; enters = w.enters }
after_name text s s' t Comma d h w = record { fits = w.fits; value = w.value; sized = w.sized; room = refl; enters = w.enters }
after_name text s s' t Dot d h w = record { fits = w.fits; value = w.value; sized = w.sized; room = refl; enters = w.enters }
after_name text s s' t Neck d h w = record { fits = w.fits; value = w.value; sized = w.sized; room = refl; enters = w.enters }
after_name text s s' t Name d h w = absurd (none_some w.fits)
after_name text s s' t Variable d h w = absurd (none_some w.fits)
after_name text s s' t Integer d h w = absurd (none_some w.fits)
after_name text s s' t Float d h w = absurd (none_some w.fits)
after_name text s s' t Text d h w = absurd (none_some w.fits)
after_name text s s' t Query d h w = absurd (none_some w.fits)
after_name text s s' t End d h w = absurd (none_some w.fits)

-- nothing follows the dot
pub finished : (text : List ℕ) (end : ℕ) (u : Sketch) (n : ℕ) (due : Due) (s : Sketch) (at : ℕ) → due ≡ Nothing → Run text end u n due s at → (s ≡ u) × (at ≡ end)
finished text end u n due s at h done = (refl, refl)
finished text end u n due s at h (step {next = d} {s' = s'} t k e r) =
    let w = step_of text due t d s s' e in
    absurd (none_some (ap (λ x. after x (ltb 0 (length s.brackets)) s.body t.kind) (sym h) ∙ w.fits))
