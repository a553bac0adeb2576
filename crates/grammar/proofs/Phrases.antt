-- Terms in brackets, read token by token, are terms of the grammar.
use Rattle.std.proofs.Common.{◌≡◌, ℕ, zero, suc, ◌+◌, ◌<◌, ◌≤◌, Bool, true, false, cond, eqb, ltb, leb, List, [], ◌∷◌, ◌++◌, length, Some, None, Ok, sym, refl, ap, ◌∙◌, subst, zero-add, arith}
use Rattle.std.proofs.lemmas.List.{length_push, append_assoc, append-nil, length-append}
use Rattle.std.proofs.lemmas.Bool.{lt-ltb}
use Rattle.terms.specs.declared.Cell.{Cell}
use Rattle.typing.specs.Terms.{Term, Terms, var, con, fun, none, more}
use Rattle.graphs.specs.Flat.{flat, flats, count}
use Rattle.lexis.specs.Tokens.{token_at}
use Rattle.lexis.specs.Worth.{word_of, worth_of, value_of, sized}
use Rattle.lexis.specs.declared.token.Token.{Token}
use Rattle.lexis.specs.declared.token.Kind.{Kind}
use Rattle.lexis.specs.declared.token.Kind.TheVariants.{Name, Variable, Integer, Float, Text, Open, Close, Comma, Dot, Neck, Query, End}
use Rattle.lexis.specs.declared.token.Span.{Span}
use Rattle.draft.specs.declared.Bracket.{Bracket}
use Rattle.draft.specs.declared.grammar.Due.{Due}
use Rattle.draft.specs.declared.grammar.Due.TheVariants.{Argument, NameEnd, TermEnd, Nothing}
use Rattle.draft.specs.declared.reader.Form.TheVariants.{Clause}
use Rattle.draft.specs.Drafts.{var_cell, const_cell, cell_of, span_of}
use Rattle.clauses.specs.Clauses.{vars_after}
use Rattle.draft.specs.Grammar.{after, term_ends, inside_ends}
use Rattle.draft.specs.Sketch.{Sketch, with_arity, with_arguments, valued, celled, cell_added, added, too_many}
use Rattle.grammar.specs.Grammar.{Tokens, word_for, variable_in, with_variable, IsTerm, AreTerms, named}
use Rattle.grammar.specs.Grammar.Tokens.{stop, next}
use Rattle.grammar.specs.Grammar.IsTerm.{variable, integer, float, atom, string, compound}
use Rattle.grammar.specs.Grammar.AreTerms.{one_term, more_terms}
use Rattle.grammar.proofs.Variables.{Known, known_other, known_swap, known_variable, variable_number_lem, count_number}
use Rattle.grammar.proofs.Named.{named_append, tokens_append}
use Rattle.grammar.proofs.States.Run.{step}
use Rattle.grammar.proofs.States.{state, bracket, never, ok_same, Step, step_of, taken_of, Run, stepped, run_state, argued_is, celled_is, opened_is, closed_is, argument_room, none_some, some_same, after_name}

-- a term was read where an argument was due: its tokens, its cells behind those before, one argument more in the bracket, and the rest of the run
pub record TermRead (text : List ℕ) (number : List ℕ → ℕ) (end : ℕ) (u : Sketch) (st : ℕ) (pre mid : List Cell) (f : Cell) (ss : List Span) (bs : List Bracket) (k g : ℕ) (b o : Bool)
    (ws : List (List ℕ)) (at n : ℕ) : Type 0 where
  pub ts : List Token
  pub term : Term
  pub vs : List (List ℕ)
  pub left : ℕ
  pub place : ℕ
  pub cs : List Cell
  pub sp : List Span
  pub less : left < n
  pub stand : Tokens text at ts place
  pub is : IsTerm text number ws ts term vs
  pub even : length sp ≡ length cs
  pub spelt : flat term ≡ named number text cs sp
  pub plain : cs ≡ named (λ _. 0) text cs sp
  pub known : Known text (pre ++ with_arity (k + 1) f ∷ mid ++ cs) (ss ++ sp) vs
  pub rest : Run text end u left TermEnd (state st (pre ++ with_arity (k + 1) f ∷ mid ++ cs) (ss ++ sp) (bs ++ bracket (length pre) (k + 1) ∷ []) (length vs) g b o) place

-- terms and the closing bracket were read where an argument was due
pub record ArgsRead (text : List ℕ) (number : List ℕ → ℕ) (end : ℕ) (u : Sketch) (st : ℕ) (pre mid : List Cell) (f : Cell) (ss : List Span) (bs : List Bracket) (k g : ℕ) (b o : Bool)
    (ws : List (List ℕ)) (at n : ℕ) : Type 0 where
  pub ts : List Token
  pub close : Token
  pub args : Terms
  pub vs : List (List ℕ)
  pub left : ℕ
  pub place : ℕ
  pub cs : List Cell
  pub sp : List Span
  pub less : left < n
  pub stand : Tokens text at (ts ++ close ∷ []) place
  pub is : AreTerms text number ws ts args vs
  pub closes : close.kind ≡ Close
  pub even : length sp ≡ length cs
  pub spelt : flats args ≡ named number text cs sp
  pub plain : cs ≡ named (λ _. 0) text cs sp
  pub known : Known text (pre ++ with_arity (k + count args) f ∷ mid ++ cs) (ss ++ sp) vs
  pub rest : Run text end u left TermEnd (state st (pre ++ with_arity (k + count args) f ∷ mid ++ cs) (ss ++ sp) bs (length vs) g b o) place

abbrev pub TermAll : (text : List ℕ) (number : List ℕ → ℕ) (end : ℕ) (u : Sketch) (fuel : ℕ) → Type 0
TermAll text number end u fuel =
    (st : ℕ) (pre mid : List Cell) (f : Cell) (ss : List Span) (bs : List Bracket) (k g : ℕ) (b o : Bool) (ws : List (List ℕ)) (at n : ℕ)
    → eqb f.tag 0 ≡ false → Known text (pre ++ f ∷ mid) ss ws → n + n ≤ fuel
    → Run text end u n Argument (state st (pre ++ f ∷ mid) ss (bs ++ bracket (length pre) k ∷ []) (length ws) g b o) at
    → TermRead text number end u st pre mid f ss bs k g b o ws at n

abbrev pub ArgsAll : (text : List ℕ) (number : List ℕ → ℕ) (end : ℕ) (u : Sketch) (fuel : ℕ) → Type 0
ArgsAll text number end u fuel =
    (st : ℕ) (pre mid : List Cell) (f : Cell) (ss : List Span) (bs : List Bracket) (k g : ℕ) (b o : Bool) (ws : List (List ℕ)) (at n : ℕ)
    → eqb f.tag 0 ≡ false → Known text (pre ++ f ∷ mid) ss ws → n + n + 1 ≤ fuel
    → Run text end u n Argument (state st (pre ++ f ∷ mid) ss (bs ++ bracket (length pre) k ∷ []) (length ws) g b o) at
    → ArgsRead text number end u st pre mid f ss bs k g b o ws at n

sized_zero : (start v : ℕ) (b : Bool) → sized start (cond b (Some 0) None) ≡ Ok v → v ≡ 0
sized_zero start v true e = sym (ok_same e)
sized_zero start v false e = absurd (never e)

-- a name and a string have no worth of their own
pub name_zero : (text : List ℕ) (t : Token) (v : ℕ) → t.kind ≡ Name → worth_of text t ≡ Ok v → v ≡ 0
name_zero text t v k e =
    let w = word_of text t.start t.end in
    sized_zero t.start v (leb (length w) 31) (ap (λ x. sized t.start (value_of x w)) (sym k) ∙ e)

string_zero : (text : List ℕ) (t : Token) (v : ℕ) → t.kind ≡ Text → worth_of text t ≡ Ok v → v ≡ 0
string_zero text t v k e =
    let w = word_of text t.start t.end in
    sized_zero t.start v (leb (length w) 33) (ap (λ x. sized t.start (value_of x w)) (sym k) ∙ e)

pub both_plain : (text : List ℕ) (cs ds : List Cell) (ss rs : List Span) → length ss ≡ length cs → cs ≡ named (λ _. 0) text cs ss → ds ≡ named (λ _. 0) text ds rs
    → cs ++ ds ≡ named (λ _. 0) text (cs ++ ds) (ss ++ rs)
both_plain text cs ds ss rs h p q = ap (λ x. x ++ ds) p ∙ (ap (λ x. named (λ _. 0) text cs ss ++ x) q ∙ sym (named_append (λ _. 0) text cs ds ss rs h))

-- a cell was added where an argument was due
pub added_is : (text : List ℕ) (st : ℕ) (pre mid : List Cell) (f : Cell) (ss : List Span) (bs : List Bracket) (k v g : ℕ) (b o : Bool) (t : Token) (x : ℕ) (kind : Kind) (c : Cell) → t.kind ≡ kind
    → cell_of kind Argument (valued kind text (span_of t) x (state st (pre ++ with_arity (k + 1) f ∷ mid) ss (bs ++ bracket (length pre) (k + 1) ∷ []) v g b o)) ≡ c
    → too_many (state st (pre ++ f ∷ mid) ss (bs ++ bracket (length pre) k ∷ []) v g b o) Clause Argument ≡ false
    → added text t Argument x (state st (pre ++ f ∷ mid) ss (bs ++ bracket (length pre) k ∷ []) v g b o)
    ≡ state st ((pre ++ with_arity (k + 1) f ∷ mid) ++ c ∷ []) (ss ++ span_of t ∷ []) (bs ++ bracket (length pre) (k + 1) ∷ []) (vars_after v c) g b o
added_is text st pre mid f ss bs k v g b o t x kind c ek ec h =
    let room = argument_room st (pre ++ f ∷ mid) ss bs (length pre) k v g b o h in
    let S = state st (pre ++ with_arity (k + 1) f ∷ mid) ss (bs ++ bracket (length pre) (k + 1) ∷ []) v g b o in
    let long : length (pre ++ with_arity (k + 1) f ∷ mid) < 32 = omega (arith, length-append pre (with_arity (k + 1) f ∷ mid), length-append pre (f ∷ mid), room.0) in
    ap (cell_added text t Argument x) (argued_is st pre mid f ss bs k v g b o room.1)
    ∙ (ap (λ y. celled (cell_of y Argument (valued y text (span_of t) x S)) (span_of t) S) ek
    ∙ (ap (λ y. celled y (span_of t) S) ec ∙ celled_is st (pre ++ with_arity (k + 1) f ∷ mid) ss (bs ++ bracket (length pre) (k + 1) ∷ []) v g b o c (span_of t) long))

pub swapped : (text : List ℕ) (pre mid : List Cell) (f g : Cell) (ss : List Span) (ws : List (List ℕ)) → eqb f.tag 0 ≡ false → eqb g.tag 0 ≡ false → Known text (pre ++ f ∷ mid) ss ws → Known text (pre ++ g ∷ mid) ss ws
swapped text pre mid f g ss ws hf hg k = known_swap text pre mid f g ss ws hf hg (length-append pre (f ∷ mid) ∙ sym (length-append pre (g ∷ mid))) k

-- a term of one token
leaf : (text : List ℕ) (number : List ℕ → ℕ) (end : ℕ) (u : Sketch) (st : ℕ) (pre mid : List Cell) (f : Cell) (ss : List Span) (bs : List Bracket) (k g : ℕ) (b o : Bool) (ws : List (List ℕ)) (at n left : ℕ)
    (t : Token) (c : Cell) (term : Term) (vs : List (List ℕ)) → token_at text at ≡ Ok t → left < n → IsTerm text number ws (t ∷ []) term vs → flat term ≡ named number text (c ∷ []) (span_of t ∷ []) → c ∷ [] ≡ named (λ _. 0) text (c ∷ []) (span_of t ∷ [])
    → Known text ((pre ++ with_arity (k + 1) f ∷ mid) ++ c ∷ []) (ss ++ span_of t ∷ []) vs
    → Run text end u left TermEnd (state st ((pre ++ with_arity (k + 1) f ∷ mid) ++ c ∷ []) (ss ++ span_of t ∷ []) (bs ++ bracket (length pre) (k + 1) ∷ []) (length vs) g b o) t.end
    → TermRead text number end u st pre mid f ss bs k g b o ws at n
leaf text number end u st pre mid f ss bs k g b o ws at n left t c term vs stands less is spelt plain known rest =
    record {
      ts = t ∷ [];
      term = term;
      vs = vs;
      left = left;
      place = t.end;
      cs = c ∷ [];
      sp = span_of t ∷ [];
      less = less;
      stand = next t stands stop;
      is = is;
      even = refl;
      spelt = spelt;
      plain = plain;
      known = known;
      rest = rest;
    }

due_open : Argument ≡ Nothing → ⊥
due_open h = let z : ◌≡◌ {A = ℕ} 0 1 = cc in omega arith

pub name_open : NameEnd ≡ Nothing → ⊥
name_open h = let z : ◌≡◌ {A = ℕ} 0 1 = cc in omega arith

pub term_open : TermEnd ≡ Nothing → ⊥
term_open h = let z : ◌≡◌ {A = ℕ} 0 1 = cc in omega arith

-- after a name: no bracket, or arguments in brackets
pub data NameTail (text : List ℕ) (number : List ℕ → ℕ) (end : ℕ) (u : Sketch) (st : ℕ) (cs : List Cell) (c : Cell) (ss : List Span) (bs : List Bracket) (g : ℕ) (b o : Bool) (ws : List (List ℕ)) (at n : ℕ) : Type 0 where
  bare : Run text end u n TermEnd (state st (cs ++ c ∷ []) ss bs (length ws) g b o) at → NameTail text number end u st cs c ss bs g b o ws at n
  bracketed : (left : ℕ) (t : Token) → t.kind ≡ Open → token_at text at ≡ Ok t → left < n → ArgsRead text number end u st cs [] (with_arguments c) ss bs 0 g b o ws t.end left
      → NameTail text number end u st cs c ss bs g b o ws at n

kept_run : (text : List ℕ) (end : ℕ) (u : Sketch) (n left : ℕ) (s s' : Sketch) (at : ℕ) (t : Token) (kind : Kind) (due : Due) → t.kind ≡ kind → n ≡ suc left → token_at text at ≡ Ok t
    → (kind ≡ Open → ⊥) → Step text NameEnd s t kind due s' → Run text end u left due s' t.end → Run text end u n TermEnd s at
kept_run text end u n left s s' at t kind due tk c tok h w run =
    let x : Step text TermEnd s t t.kind due s' = subst (λ y. Step text TermEnd s t y due s') (sym tk) (after_name text s s' t kind due h w) in
    subst (λ m. Run text end u m TermEnd s at) (sym c) (step t tok (taken_of text TermEnd t due s s' x) run)

tail_kind : (text : List ℕ) (number : List ℕ → ℕ) (end : ℕ) (u : Sketch) (fuel : ℕ) → ArgsAll text number end u fuel
    → (st : ℕ) (cs : List Cell) (c : Cell) (ss : List Span) (bs : List Bracket) (g : ℕ) (b o : Bool) (ws : List (List ℕ)) (at n left : ℕ) (t : Token) (kind : Kind) (due : Due) (s' : Sketch)
    → t.kind ≡ kind → token_at text at ≡ Ok t → n ≡ suc left → n + n ≤ suc fuel → eqb c.tag 0 ≡ false → Known text (cs ++ c ∷ []) ss ws
    → Step text NameEnd (state st (cs ++ c ∷ []) ss bs (length ws) g b o) t kind due s' → Run text end u left due s' t.end
    → NameTail text number end u st cs c ss bs g b o ws at n
tail_kind text number end u fuel args st cs c ss bs g b o ws at n left t Open due s' tk tok cn small ct known w run =
    let e = opened_is st cs c ss bs (length ws) g b o s' w.enters in
    bracketed left t tk tok (omega arith)
    (args st cs [] (with_arguments c) ss bs 0 g b o ws t.end left refl (swapped text cs [] c (with_arguments c) ss ws ct refl known) (omega arith)
    (run_state text end u left due Argument s' _ t.end (sym (some_same w.fits)) (sym e) run))
tail_kind text number end u fuel args st cs c ss bs g b o ws at n left t Name due s' tk tok cn small ct known w run =
    bare (kept_run text end u n left (state st (cs ++ c ∷ []) ss bs (length ws) g b o) s' at t Name due tk cn tok (λ h. let z : ◌≡◌ {A = ℕ} 0 1 = cc in omega arith) w run)
tail_kind text number end u fuel args st cs c ss bs g b o ws at n left t Variable due s' tk tok cn small ct known w run =
    bare (kept_run text end u n left (state st (cs ++ c ∷ []) ss bs (length ws) g b o) s' at t Variable due tk cn tok (λ h. let z : ◌≡◌ {A = ℕ} 0 1 = cc in omega arith) w run)
tail_kind text number end u fuel args st cs c ss bs g b o ws at n left t Integer due s' tk tok cn small ct known w run =
    bare (kept_run text end u n left (state st (cs ++ c ∷ []) ss bs (length ws) g b o) s' at t Integer due tk cn tok (λ h. let z : ◌≡◌ {A = ℕ} 0 1 = cc in omega arith) w run)
tail_kind text number end u fuel args st cs c ss bs g b o ws at n left t Float due s' tk tok cn small ct known w run =
    bare (kept_run text end u n left (state st (cs ++ c ∷ []) ss bs (length ws) g b o) s' at t Float due tk cn tok (λ h. let z : ◌≡◌ {A = ℕ} 0 1 = cc in omega arith) w run)
tail_kind text number end u fuel args st cs c ss bs g b o ws at n left t Text due s' tk tok cn small ct known w run =
    bare (kept_run text end u n left (state st (cs ++ c ∷ []) ss bs (length ws) g b o) s' at t Text due tk cn tok (λ h. let z : ◌≡◌ {A = ℕ} 0 1 = cc in omega arith) w run)
tail_kind text number end u fuel args st cs c ss bs g b o ws at n left t Close due s' tk tok cn small ct known w run =
    bare (kept_run text end u n left (state st (cs ++ c ∷ []) ss bs (length ws) g b o) s' at t Close due tk cn tok (λ h. let z : ◌≡◌ {A = ℕ} 0 1 = cc in omega arith) w run)
tail_kind text number end u fuel args st cs c ss bs g b o ws at n left t Comma due s' tk tok cn small ct known w run =
    bare (kept_run text end u n left (state st (cs ++ c ∷ []) ss bs (length ws) g b o) s' at t Comma due tk cn tok (λ h. let z : ◌≡◌ {A = ℕ} 0 1 = cc in omega arith) w run)
tail_kind text number end u fuel args st cs c ss bs g b o ws at n left t Dot due s' tk tok cn small ct known w run =
    bare (kept_run text end u n left (state st (cs ++ c ∷ []) ss bs (length ws) g b o) s' at t Dot due tk cn tok (λ h. let z : ◌≡◌ {A = ℕ} 0 1 = cc in omega arith) w run)
tail_kind text number end u fuel args st cs c ss bs g b o ws at n left t Neck due s' tk tok cn small ct known w run =
    bare (kept_run text end u n left (state st (cs ++ c ∷ []) ss bs (length ws) g b o) s' at t Neck due tk cn tok (λ h. let z : ◌≡◌ {A = ℕ} 0 1 = cc in omega arith) w run)
tail_kind text number end u fuel args st cs c ss bs g b o ws at n left t Query due s' tk tok cn small ct known w run =
    bare (kept_run text end u n left (state st (cs ++ c ∷ []) ss bs (length ws) g b o) s' at t Query due tk cn tok (λ h. let z : ◌≡◌ {A = ℕ} 0 1 = cc in omega arith) w run)
tail_kind text number end u fuel args st cs c ss bs g b o ws at n left t End due s' tk tok cn small ct known w run =
    bare (kept_run text end u n left (state st (cs ++ c ∷ []) ss bs (length ws) g b o) s' at t End due tk cn tok (λ h. let z : ◌≡◌ {A = ℕ} 0 1 = cc in omega arith) w run)

pub name_tail : (text : List ℕ) (number : List ℕ → ℕ) (end : ℕ) (u : Sketch) (fuel : ℕ) → ArgsAll text number end u fuel
    → (st : ℕ) (cs : List Cell) (c : Cell) (ss : List Span) (bs : List Bracket) (g : ℕ) (b o : Bool) (ws : List (List ℕ)) (at n : ℕ)
    → n + n ≤ suc fuel → eqb c.tag 0 ≡ false → Known text (cs ++ c ∷ []) ss ws
    → Run text end u n NameEnd (state st (cs ++ c ∷ []) ss bs (length ws) g b o) at
    → NameTail text number end u st cs c ss bs g b o ws at n
name_tail text number end u fuel args st cs c ss bs g b o ws at n small ct known run =
    let S = state st (cs ++ c ∷ []) ss bs (length ws) g b o in
    let x = stepped text end u n NameEnd S at name_open run in
    tail_kind text number end u fuel args st cs c ss bs g b o ws at n x.left x.token x.token.kind x.next x.after_it refl x.stands x.count small ct known
    (step_of text NameEnd x.token x.next S x.after_it x.took) x.rest

-- the name of a term was read; perhaps its arguments follow
name_read : (text : List ℕ) (number : List ℕ → ℕ) (end : ℕ) (u : Sketch) (fuel : ℕ) → ArgsAll text number end u fuel
    → (st : ℕ) (pre mid : List Cell) (f : Cell) (ss : List Span) (bs : List Bracket) (k g : ℕ) (b o : Bool) (ws : List (List ℕ)) (at n left v : ℕ) (t : Token)
    → t.kind ≡ Name → v ≡ 0 → token_at text at ≡ Ok t → n ≡ suc left → n + n ≤ suc fuel
    → Known text ((pre ++ with_arity (k + 1) f ∷ mid) ++ const_cell 2 v ∷ []) (ss ++ span_of t ∷ []) ws
    → Run text end u left NameEnd (state st ((pre ++ with_arity (k + 1) f ∷ mid) ++ const_cell 2 v ∷ []) (ss ++ span_of t ∷ []) (bs ++ bracket (length pre) (k + 1) ∷ []) (length ws) g b o) t.end
    → TermRead text number end u st pre mid f ss bs k g b o ws at n
name_read text number end u fuel args st pre mid f ss bs k g b o ws at n left v t tk zv tok c small known run =
    let C = pre ++ with_arity (k + 1) f ∷ mid in
    let B = bs ++ bracket (length pre) (k + 1) ∷ [] in
    elim (name_tail text number end u fuel args st C (const_cell 2 v) (ss ++ span_of t ∷ []) B g b o ws t.end left (omega arith) refl known run) [
      | bare r ↦ leaf text number end u st pre mid f ss bs k g b o ws at n left t (const_cell 2 v) (con 2 (number (word_for text t))) ws tok (omega arith) (atom t tk) refl (ap (λ x. const_cell 2 x ∷ []) zv) known r
      | bracketed m t2 tk2 tok2 lt a ↦
          let fc = with_arity (0 + count a.args) (with_arguments (const_cell 2 v)) in
          let cells : (C ++ fc ∷ []) ++ a.cs ≡ C ++ fc ∷ a.cs = append_assoc C (fc ∷ []) a.cs in
          let spans : (ss ++ span_of t ∷ []) ++ a.sp ≡ ss ++ span_of t ∷ a.sp = append_assoc ss (span_of t ∷ []) a.sp in
          record {
            ts = t ∷ t2 ∷ a.ts ++ a.close ∷ [];
            term = fun (number (word_for text t)) a.args;
            vs = a.vs;
            left = a.left;
            place = a.place;
            cs = fc ∷ a.cs;
            sp = span_of t ∷ a.sp;
            less = omega (arith, a.less);
            stand = next t tok (next t2 tok2 a.stand);
            is = compound t t2 a.close tk tk2 a.is a.closes;
            even = ap suc a.even;
            spelt =
                ap (λ x. record { tag = 2; form = 0; arity = x; value = number (word_for text t) } ∷ flats a.args) (sym (zero-add (count a.args)))
                ∙ ap (λ xs. record { tag = 2; form = 0; arity = 0 + count a.args; value = number (word_for text t) } ∷ xs) a.spelt;
            plain =
                ap (λ x. record { tag = 2; form = 0; arity = 0 + count a.args; value = x } ∷ a.cs) zv
                ∙ ap (λ xs. record { tag = 2; form = 0; arity = 0 + count a.args; value = 0 } ∷ xs) a.plain;
            known = subst (λ x. Known text (C ++ fc ∷ a.cs) x a.vs) spans (subst (λ x. Known text x ((ss ++ span_of t ∷ []) ++ a.sp) a.vs) cells a.known);
            rest =
                subst (λ x. Run text end u a.left TermEnd (state st (C ++ fc ∷ a.cs) x B (length a.vs) g b o) a.place) spans
                (subst (λ x. Run text end u a.left TermEnd (state st x ((ss ++ span_of t ∷ []) ++ a.sp) B (length a.vs) g b o) a.place) cells a.rest);
          }
    ]

-- the first token of a term, by its kind
by_kind : (text : List ℕ) (number : List ℕ → ℕ) (end : ℕ) (u : Sketch) (fuel : ℕ) → ArgsAll text number end u fuel
    → (st : ℕ) (pre mid : List Cell) (f : Cell) (ss : List Span) (bs : List Bracket) (k g : ℕ) (b o : Bool) (ws : List (List ℕ)) (at n left : ℕ) (t : Token) (kind : Kind) (due : Due) (s' : Sketch)
    → t.kind ≡ kind → token_at text at ≡ Ok t → n ≡ suc left → n + n ≤ suc fuel → eqb f.tag 0 ≡ false → Known text (pre ++ f ∷ mid) ss ws
    → Step text Argument (state st (pre ++ f ∷ mid) ss (bs ++ bracket (length pre) k ∷ []) (length ws) g b o) t kind due s'
    → Run text end u left due s' t.end
    → TermRead text number end u st pre mid f ss bs k g b o ws at n
by_kind text number end u fuel args st pre mid f ss bs k g b o ws at n left t Variable due s' tk tok c small ft known w run =
    let S = state st (pre ++ with_arity (k + 1) f ∷ mid) ss (bs ++ bracket (length pre) (k + 1) ∷ []) (length ws) g b o in
    let m = swapped text pre mid f (with_arity (k + 1) f) ss ws ft ft known in
    let cell = var_cell (variable_in ws (word_for text t)) in
    let e = added_is text st pre mid f ss bs k (length ws) g b o t w.value Variable cell tk (ap var_cell (variable_number_lem text (pre ++ with_arity (k + 1) f ∷ mid) ss ws (word_for text t) m)) w.room in
    let e2 = sym (ok_same w.enters) ∙ (e ∙ ap (λ x. state st ((pre ++ with_arity (k + 1) f ∷ mid) ++ cell ∷ []) (ss ++ span_of t ∷ []) (bs ++ bracket (length pre) (k + 1) ∷ []) x g b o) (count_number ws (word_for text t))) in
    leaf text number end u st pre mid f ss bs k g b o ws at n left t cell (var (variable_in ws (word_for text t))) (with_variable ws (word_for text t)) tok (omega arith) (variable t tk) refl refl
    (known_variable text (pre ++ with_arity (k + 1) f ∷ mid) ss ws (span_of t) m)
    (run_state text end u left due TermEnd s' _ t.end (sym (some_same w.fits)) e2 run)
by_kind text number end u fuel args st pre mid f ss bs k g b o ws at n left t Integer due s' tk tok c small ft known w run =
    let m = swapped text pre mid f (with_arity (k + 1) f) ss ws ft ft known in
    let cell = const_cell 0 w.value in
    let e = added_is text st pre mid f ss bs k (length ws) g b o t w.value Integer cell tk refl w.room in
    leaf text number end u st pre mid f ss bs k g b o ws at n left t cell (con 0 w.value) ws tok (omega arith) (integer t w.value tk w.sized) refl refl
    (known_other text (pre ++ with_arity (k + 1) f ∷ mid) ss ws cell (span_of t) refl m)
    (run_state text end u left due TermEnd s' _ t.end (sym (some_same w.fits)) (sym (ok_same w.enters) ∙ e) run)
by_kind text number end u fuel args st pre mid f ss bs k g b o ws at n left t Float due s' tk tok c small ft known w run =
    let m = swapped text pre mid f (with_arity (k + 1) f) ss ws ft ft known in
    let cell = const_cell 1 w.value in
    let e = added_is text st pre mid f ss bs k (length ws) g b o t w.value Float cell tk refl w.room in
    leaf text number end u st pre mid f ss bs k g b o ws at n left t cell (con 1 w.value) ws tok (omega arith) (float t w.value tk w.sized) refl refl
    (known_other text (pre ++ with_arity (k + 1) f ∷ mid) ss ws cell (span_of t) refl m)
    (run_state text end u left due TermEnd s' _ t.end (sym (some_same w.fits)) (sym (ok_same w.enters) ∙ e) run)
by_kind text number end u fuel args st pre mid f ss bs k g b o ws at n left t Text due s' tk tok c small ft known w run =
    let m = swapped text pre mid f (with_arity (k + 1) f) ss ws ft ft known in
    let cell = const_cell 3 w.value in
    let e = added_is text st pre mid f ss bs k (length ws) g b o t w.value Text cell tk refl w.room in
    leaf text number end u st pre mid f ss bs k g b o ws at n left t cell (con 3 (number (word_for text t))) ws tok (omega arith) (string t tk) refl (ap (λ x. const_cell 3 x ∷ []) (string_zero text t w.value tk w.sized))
    (known_other text (pre ++ with_arity (k + 1) f ∷ mid) ss ws cell (span_of t) refl m)
    (run_state text end u left due TermEnd s' _ t.end (sym (some_same w.fits)) (sym (ok_same w.enters) ∙ e) run)
by_kind text number end u fuel args st pre mid f ss bs k g b o ws at n left t Name due s' tk tok c small ft known w run =
    let m = swapped text pre mid f (with_arity (k + 1) f) ss ws ft ft known in
    let cell = const_cell 2 w.value in
    let e = added_is text st pre mid f ss bs k (length ws) g b o t w.value Name cell tk refl w.room in
    name_read text number end u fuel args st pre mid f ss bs k g b o ws at n left w.value t tk (name_zero text t w.value tk w.sized) tok c small
    (known_other text (pre ++ with_arity (k + 1) f ∷ mid) ss ws cell (span_of t) refl m)
    (run_state text end u left due NameEnd s' _ t.end (sym (some_same w.fits)) (sym (ok_same w.enters) ∙ e) run)
by_kind text number end u fuel args st pre mid f ss bs k g b o ws at n left t Open due s' tk tok c small ft known w run = absurd (none_some w.fits)
by_kind text number end u fuel args st pre mid f ss bs k g b o ws at n left t Close due s' tk tok c small ft known w run = absurd (none_some w.fits)
by_kind text number end u fuel args st pre mid f ss bs k g b o ws at n left t Comma due s' tk tok c small ft known w run = absurd (none_some w.fits)
by_kind text number end u fuel args st pre mid f ss bs k g b o ws at n left t Dot due s' tk tok c small ft known w run = absurd (none_some w.fits)
by_kind text number end u fuel args st pre mid f ss bs k g b o ws at n left t Neck due s' tk tok c small ft known w run = absurd (none_some w.fits)
by_kind text number end u fuel args st pre mid f ss bs k g b o ws at n left t Query due s' tk tok c small ft known w run = absurd (none_some w.fits)
by_kind text number end u fuel args st pre mid f ss bs k g b o ws at n left t End due s' tk tok c small ft known w run = absurd (none_some w.fits)

term_step : (text : List ℕ) (number : List ℕ → ℕ) (end : ℕ) (u : Sketch) (fuel : ℕ) → ArgsAll text number end u fuel → TermAll text number end u (suc fuel)
term_step text number end u fuel args st pre mid f ss bs k g b o ws at n ft known small run =
    let S = state st (pre ++ f ∷ mid) ss (bs ++ bracket (length pre) k ∷ []) (length ws) g b o in
    let x = stepped text end u n Argument S at due_open run in
    by_kind text number end u fuel args st pre mid f ss bs k g b o ws at n x.left x.token x.token.kind x.next x.after_it refl x.stands x.count small ft known
    (step_of text Argument x.token x.next S x.after_it x.took) x.rest

-- inside brackets
inside : (bs : List Bracket) (x : Bracket) (b : Bool) (kind : Kind) → after TermEnd (ltb 0 (length (bs ++ x ∷ []))) b kind ≡ inside_ends kind
inside bs x b kind = ap (λ y. term_ends y b kind) (lt-ltb 0 (length (bs ++ x ∷ [])) (omega (arith, length_push bs x)))

-- a term was read; a comma and more terms follow, or the closing bracket
args_kind : (text : List ℕ) (number : List ℕ → ℕ) (end : ℕ) (u : Sketch) (fuel : ℕ) → ArgsAll text number end u fuel
    → (st : ℕ) (pre mid : List Cell) (f : Cell) (ss : List Span) (bs : List Bracket) (k g : ℕ) (b o : Bool) (ws : List (List ℕ)) (at n : ℕ) → eqb f.tag 0 ≡ false → n + n + 1 ≤ suc fuel
    → (r : TermRead text number end u st pre mid f ss bs k g b o ws at n)
    → (left : ℕ) (t : Token) (kind : Kind) (due : Due) (s' : Sketch) → t.kind ≡ kind → token_at text r.place ≡ Ok t → r.left ≡ suc left → inside_ends kind ≡ Some due
    → Step text TermEnd (state st (pre ++ with_arity (k + 1) f ∷ mid ++ r.cs) (ss ++ r.sp) (bs ++ bracket (length pre) (k + 1) ∷ []) (length r.vs) g b o) t kind due s'
    → Run text end u left due s' t.end
    → ArgsRead text number end u st pre mid f ss bs k g b o ws at n
args_kind text number end u fuel args st pre mid f ss bs k g b o ws at n ft small r left t Close due s' tk tok c fits w run =
    record {
      ts = r.ts;
      close = t;
      args = more r.term none;
      vs = r.vs;
      left = left;
      place = t.end;
      cs = r.cs;
      sp = r.sp;
      less = omega (arith, r.less);
      stand = tokens_append text at r.place t.end r.ts (t ∷ []) r.stand (next t tok stop);
      is = one_term r.is;
      closes = tk;
      even = r.even;
      spelt = append-nil (flat r.term) ∙ r.spelt;
      plain = r.plain;
      known = r.known;
      rest =
          run_state text end u left due TermEnd s' _ t.end (sym (some_same fits))
          (sym (ok_same w.enters) ∙ closed_is st (pre ++ with_arity (k + 1) f ∷ mid ++ r.cs) (ss ++ r.sp) bs (bracket (length pre) (k + 1)) (length r.vs) g b o) run;
    }
args_kind text number end u fuel args st pre mid f ss bs k g b o ws at n ft small r left t Comma due s' tk tok c fits w run =
    let f1 = with_arity (k + 1) f in
    let split : (pre ++ f1 ∷ mid) ++ r.cs ≡ pre ++ f1 ∷ (mid ++ r.cs) = append_assoc pre (f1 ∷ mid) r.cs in
    let a =
    args st pre (mid ++ r.cs) f1 (ss ++ r.sp) bs (k + 1) g b o r.vs t.end left ft (subst (λ x. Known text x (ss ++ r.sp) r.vs) split r.known) (omega (arith, r.less))
    (run_state text end u left due Argument s' _ t.end (sym (some_same fits))
    (sym (ok_same w.enters) ∙ ap (λ x. state st x (ss ++ r.sp) (bs ++ bracket (length pre) (k + 1) ∷ []) (length r.vs) g b o) split) run) in
    let m : k + 1 + count a.args ≡ k + suc (count a.args) = omega arith in
    let f2 = with_arity (k + suc (count a.args)) f in
    let cells : (pre ++ with_arity (k + 1 + count a.args) f ∷ (mid ++ r.cs)) ++ a.cs ≡ (pre ++ f2 ∷ mid) ++ (r.cs ++ a.cs) =
    ap (λ x. (pre ++ with_arity x f ∷ (mid ++ r.cs)) ++ a.cs) m ∙ (ap (λ xs. xs ++ a.cs) (sym (append_assoc pre (f2 ∷ mid) r.cs)) ∙ append_assoc (pre ++ f2 ∷ mid) r.cs a.cs) in
    let spans : (ss ++ r.sp) ++ a.sp ≡ ss ++ (r.sp ++ a.sp) = append_assoc ss r.sp a.sp in
    record {
      ts = r.ts ++ t ∷ a.ts;
      close = a.close;
      args = more r.term a.args;
      vs = a.vs;
      left = a.left;
      place = a.place;
      cs = r.cs ++ a.cs;
      sp = r.sp ++ a.sp;
      less = omega (arith, r.less, a.less);
      stand =
          subst (λ x. Tokens text at x a.place) (sym (append_assoc r.ts (t ∷ a.ts) (a.close ∷ [])))
          (tokens_append text at r.place a.place r.ts (t ∷ a.ts ++ a.close ∷ []) r.stand (next t tok a.stand));
      is = more_terms t r.is tk a.is;
      closes = a.closes;
      even = omega (arith, length-append r.sp a.sp, length-append r.cs a.cs, r.even, a.even);
      spelt =
          ap (λ x. x ++ flats a.args) r.spelt ∙ (ap (λ x. named number text r.cs r.sp ++ x) a.spelt ∙ sym (named_append number text r.cs a.cs r.sp a.sp r.even));
      plain = both_plain text r.cs a.cs r.sp a.sp r.even r.plain a.plain;
      known = subst (λ x. Known text ((pre ++ f2 ∷ mid) ++ (r.cs ++ a.cs)) x a.vs) spans (subst (λ x. Known text x ((ss ++ r.sp) ++ a.sp) a.vs) cells a.known);
      rest =
          subst (λ x. Run text end u a.left TermEnd (state st ((pre ++ f2 ∷ mid) ++ (r.cs ++ a.cs)) x bs (length a.vs) g b o) a.place) spans
          (subst (λ x. Run text end u a.left TermEnd (state st x ((ss ++ r.sp) ++ a.sp) bs (length a.vs) g b o) a.place) cells a.rest);
    }
args_kind text number end u fuel args st pre mid f ss bs k g b o ws at n ft small r left t Name due s' tk tok c fits w run = absurd (none_some fits)
args_kind text number end u fuel args st pre mid f ss bs k g b o ws at n ft small r left t Variable due s' tk tok c fits w run = absurd (none_some fits)
args_kind text number end u fuel args st pre mid f ss bs k g b o ws at n ft small r left t Integer due s' tk tok c fits w run = absurd (none_some fits)
args_kind text number end u fuel args st pre mid f ss bs k g b o ws at n ft small r left t Float due s' tk tok c fits w run = absurd (none_some fits)
args_kind text number end u fuel args st pre mid f ss bs k g b o ws at n ft small r left t Text due s' tk tok c fits w run = absurd (none_some fits)
args_kind text number end u fuel args st pre mid f ss bs k g b o ws at n ft small r left t Open due s' tk tok c fits w run = absurd (none_some fits)
args_kind text number end u fuel args st pre mid f ss bs k g b o ws at n ft small r left t Dot due s' tk tok c fits w run = absurd (none_some fits)
args_kind text number end u fuel args st pre mid f ss bs k g b o ws at n ft small r left t Neck due s' tk tok c fits w run = absurd (none_some fits)
args_kind text number end u fuel args st pre mid f ss bs k g b o ws at n ft small r left t Query due s' tk tok c fits w run = absurd (none_some fits)
args_kind text number end u fuel args st pre mid f ss bs k g b o ws at n ft small r left t End due s' tk tok c fits w run = absurd (none_some fits)

args_step : (text : List ℕ) (number : List ℕ → ℕ) (end : ℕ) (u : Sketch) (fuel : ℕ) → TermAll text number end u fuel → ArgsAll text number end u fuel → ArgsAll text number end u (suc fuel)
args_step text number end u fuel terms args st pre mid f ss bs k g b o ws at n ft known small run =
    let r = terms st pre mid f ss bs k g b o ws at n ft known (omega arith) run in
    let S = state st (pre ++ with_arity (k + 1) f ∷ mid ++ r.cs) (ss ++ r.sp) (bs ++ bracket (length pre) (k + 1) ∷ []) (length r.vs) g b o in
    let x = stepped text end u r.left TermEnd S r.place term_open r.rest in
    let w = step_of text TermEnd x.token x.next S x.after_it x.took in
    args_kind text number end u fuel args st pre mid f ss bs k g b o ws at n ft small r x.left x.token x.token.kind x.next x.after_it refl x.stands x.count
    (sym (inside bs (bracket (length pre) (k + 1)) b x.token.kind) ∙ w.fits) w x.rest

run_zero : (text : List ℕ) (end : ℕ) (u : Sketch) (n : ℕ) (due : Due) (s : Sketch) (at : ℕ) → (due ≡ Nothing → ⊥) → Run text end u n due s at → 0 < n
run_zero text end u n due s at h r = let x = stepped text end u n due s at h r in omega (arith, x.count)

pub phrases : (text : List ℕ) (number : List ℕ → ℕ) (end : ℕ) (u : Sketch) (fuel : ℕ) → TermAll text number end u fuel × ArgsAll text number end u fuel
phrases text number end u zero = (
  λ st pre mid f ss bs k g b o ws at n ft known small run. absurd (let z = run_zero text end u n Argument _ at due_open run in omega arith),
  λ st pre mid f ss bs k g b o ws at n ft known small run. absurd (omega arith),
)
phrases text number end u (suc fuel) =
    let p = phrases text number end u fuel in
    (term_step text number end u fuel p.1, args_step text number end u fuel p.0 p.1)
