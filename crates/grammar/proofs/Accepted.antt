-- Tokens that are a clause of the grammar within the limits are read.
use Rattle.std.proofs.Common.{◌≡◌, ℕ, suc, ◌+◌, ◌-◌, ◌<◌, ◌≤◌, min, Bool, true, false, cond, ◌&&◌, eqb, ltb, leb, List, [], ◌∷◌, ◌++◌, length, get_or, drop, Some, Ok, Err, sym, refl, ap, ◌∙◌, subst, zero-add, arith}
use Rattle.std.proofs.lemmas.List.{length_push, get_or_push, append_assoc, append-nil, length-append}
use Rattle.std.proofs.lemmas.Bool.{cond-false, and_right, or_from, lt-leb, lt-ltb}
use Rattle.terms.specs.declared.Cell.{Cell}
use Rattle.typing.specs.Terms.{Term, Terms, fun}
use Rattle.trees.specs.Tree.{Goal as TreeGoal, Clause as TreeClause}
use Rattle.graphs.specs.Flat.{flat, flats, count}
use Rattle.programs.specs.Spelling.{spell_goal, spell_goals, spell_clause}
use Rattle.lexis.specs.Tokens.{token_at, start_at}
use Rattle.lexis.specs.Worth.{worth_of}
use Rattle.lexis.specs.declared.fault.Cause.TheVariants.{Question as TooLarge}
use Rattle.lexis.specs.declared.token.Token.{Token}
use Rattle.lexis.specs.declared.token.Kind.{Kind}
use Rattle.lexis.specs.declared.token.Kind.TheVariants.{Name, Variable, Integer, Float, Text, Open, Close, Comma, Dot, Neck, Query, End}
use Rattle.lexis.specs.declared.token.Span.{Span}
use Rattle.names.specs.Places.{place_of}
use Rattle.draft.specs.declared.Bracket.{Bracket}
use Rattle.draft.specs.declared.grammar.Due.{Due}
use Rattle.draft.specs.declared.grammar.Due.TheVariants.{Head, Goal, Argument, NameEnd, TermEnd, Nothing}
use Rattle.draft.specs.declared.reader.Form.TheVariants.{Clause}
use Rattle.draft.specs.Drafts.{var_cell, const_cell, symbol_cell, cell_of, span_of, makes_cell}
use Rattle.clauses.specs.Clauses.{vars_after}
use Rattle.draft.specs.Grammar.{after, term_begins, term_ends, inside_ends}
use Rattle.draft.specs.Sketch.{Sketch, with_arity, with_arguments, innermost, no_bracket, valued, celled, added, opened, opened_in, entered_as, too_many, taken, same_variable, ReadsClause}
use Rattle.grammar.specs.Grammar.{Tokens, word_for, variable_in, with_variable, IsTerm, AreTerms, IsGoal, AreGoals, IsClause, named}
use Rattle.grammar.specs.Grammar.Tokens.{stop, next}
use Rattle.grammar.specs.Grammar.IsTerm.{variable, integer, float, atom, string, compound}
use Rattle.grammar.specs.Grammar.AreTerms.{one_term, more_terms}
use Rattle.grammar.specs.Grammar.IsGoal.{plain, applied}
use Rattle.grammar.specs.Grammar.AreGoals.{one_goal, more_goals}
use Rattle.grammar.specs.Grammar.IsClause.{fact, rule}
use Rattle.grammar.specs.Laws.{Sized, Slim, Slims, SlimGoals, Fitting}
use Rattle.grammar.proofs.Named.{named_append}
use Rattle.grammar.proofs.Variables.{Known, known_other, known_variable, variable_number_lem, count_number}
use Rattle.grammar.proofs.Phrases.{added_is, swapped}
use Rattle.grammar.proofs.Local.{reads_of, head_open}
use Rattle.grammar.proofs.States.{state, bracket, none_some, Step, step_of, taken_of, Run, celled_is, opened_is, closed_is}
use Rattle.grammar.proofs.States.Run.{done, step}

abbrev pub Runs : (text : List ℕ) (end : ℕ) (u : Sketch) → Due → Sketch → ℕ → Type 0
Runs text end u due s at = (n : ℕ) × Run text end u n due s at

before : (text : List ℕ) (end : ℕ) (u : Sketch) (due d : Due) (s s' : Sketch) (at : ℕ) (t : Token) → token_at text at ≡ Ok t → taken text Clause due s t ≡ Ok (d, s') → Runs text end u d s' t.end
    → Runs text end u due s at
before text end u due d s s' at t k e r = (suc r.0, step t k e r.1)

runs_at : (text : List ℕ) (end : ℕ) (u : Sketch) (due : Due) (s : Sketch) (i j : ℕ) → i ≡ j → Runs text end u due s i → Runs text end u due s j
runs_at text end u due s i j e r = subst (Runs text end u due s) e r

runs_state : (text : List ℕ) (end : ℕ) (u : Sketch) (due : Due) (s s' : Sketch) (i : ℕ) → s ≡ s' → Runs text end u due s i → Runs text end u due s' i
runs_state text end u due s s' i e r = subst (λ x. Runs text end u due x i) e r

record HeadOf (text : List ℕ) (a m : ℕ) (t : Token) (ts : List Token) : Type 0 where
  stands : token_at text a ≡ Ok t
  rest : Tokens text t.end ts m

tokens_head : (text : List ℕ) (a m : ℕ) (all ts : List Token) (t : Token) → all ≡ t ∷ ts → Tokens text a all m → HeadOf text a m t ts
tokens_head text a m all ts t e stop = absurd (let z : 0 ≡ suc (length ts) = ap length e in omega arith)
tokens_head text a m all ts t e (next {ts = rs} t' k r) =
    let p : t' ≡ t = ap (λ (xs : List Token). get_or xs 0 t') e in
    let q : rs ≡ ts = ap (λ (xs : List Token). drop 1 xs) e in
    record { stands = k ∙ ap Ok p; rest = subst (λ (x : Token). Tokens text x.end ts m) p (subst (λ x. Tokens text t'.end x m) q r) }

tokens_none : (text : List ℕ) (a b : ℕ) (ts : List Token) → ts ≡ [] → Tokens text a ts b → a ≡ b
tokens_none text a b ts e stop = refl
tokens_none text a b ts e (next {ts = rs} t k r) = absurd (let z : suc (length rs) ≡ 0 = ap length e in omega arith)

record SplitAt (text : List ℕ) (a m : ℕ) (xs ys : List Token) : Type 0 where
  place : ℕ
  left : Tokens text a xs place
  right : Tokens text place ys m

tokens_split : (text : List ℕ) (a m : ℕ) (xs ys all : List Token) → all ≡ xs ++ ys → Tokens text a all m → SplitAt text a m xs ys
tokens_split text a m [] ys all e r = record { place = a; left = stop; right = subst (λ x. Tokens text a x m) e r }
tokens_split text a m (x ∷ xs) ys all e r =
    let h = tokens_head text a m all (xs ++ ys) x e r in
    let s = tokens_split text x.end m xs ys (xs ++ ys) refl h.rest in
    record { place = s.place; left = next x h.stands s.left; right = s.right }

sized_left : (text : List ℕ) (xs ys : List Token) → Sized text (xs ++ ys) → Sized text xs
sized_left text [] ys z = tt
sized_left text (x ∷ xs) ys z = (z.0, sized_left text xs ys z.1)

sized_right : (text : List ℕ) (xs ys : List Token) → Sized text (xs ++ ys) → Sized text ys
sized_right text [] ys z = z
sized_right text (x ∷ xs) ys z = sized_right text xs ys z.1

-- a token of a kind is taken where it fits, has room and is entered
takes : (text : List ℕ) (due d : Due) (s s' : Sketch) (t : Token) (kind : Kind) (v : ℕ) → t.kind ≡ kind → worth_of text t ≡ Ok v → after due (ltb 0 (length s.brackets)) s.body kind ≡ Some d
    → (makes_cell kind && too_many s Clause due) ≡ false → entered_as kind text t due v s ≡ Ok s' → taken text Clause due s t ≡ Ok (d, s')
takes text due d s s' t kind v tk w fits room enters =
    let x : Step text due s t kind d s' = record { fits = fits; value = v; sized = w; room = room; enters = enters } in
    taken_of text due t d s s' (subst (λ y. Step text due s t y d s') (sym tk) x)

joined_spelt : (number : List ℕ → ℕ) (text : List ℕ) (xs ys cs ds : List Cell) (ss rs : List Span) → length ss ≡ length cs → xs ≡ named number text cs ss → ys ≡ named number text ds rs
    → xs ++ ys ≡ named number text (cs ++ ds) (ss ++ rs)
joined_spelt number text xs ys cs ds ss rs h p q = ap (λ x. x ++ ys) p ∙ (ap (λ x. named number text cs ss ++ x) q ∙ sym (named_append number text cs ds ss rs h))

-- the tokens of a term take a run from where an argument is due to where it is read
record TermSim (text : List ℕ) (st : ℕ) (pre mid : List Cell) (f : Cell) (ss : List Span) (bs : List Bracket) (k g : ℕ) (b o : Bool) (ws vs : List (List ℕ)) (number : List ℕ → ℕ) (whole : List Cell) (a m : ℕ) : Type 0 where
  cs : List Cell
  sp : List Span
  even : length cs ≡ length whole
  level : length sp ≡ length cs
  spelt : whole ≡ named number text cs sp
  known : Known text (pre ++ with_arity (k + 1) f ∷ mid ++ cs) (ss ++ sp) vs
  back : (end : ℕ) (u : Sketch) → Runs text end u TermEnd (state st (pre ++ with_arity (k + 1) f ∷ mid ++ cs) (ss ++ sp) (bs ++ bracket (length pre) (k + 1) ∷ []) (length vs) g b o) m
      → Runs text end u Argument (state st (pre ++ f ∷ mid) ss (bs ++ bracket (length pre) k ∷ []) (length ws) g b o) a

record TermsSim (text : List ℕ) (st : ℕ) (pre mid : List Cell) (f : Cell) (ss : List Span) (bs : List Bracket) (k g : ℕ) (b o : Bool) (ws vs : List (List ℕ)) (n : ℕ) (number : List ℕ → ℕ) (whole : List Cell) (a m : ℕ) : Type 0 where
  cs : List Cell
  sp : List Span
  even : length cs ≡ length whole
  level : length sp ≡ length cs
  spelt : whole ≡ named number text cs sp
  known : Known text (pre ++ with_arity (k + n) f ∷ mid ++ cs) (ss ++ sp) vs
  back : (end : ℕ) (u : Sketch) → Runs text end u TermEnd (state st (pre ++ with_arity (k + n) f ∷ mid ++ cs) (ss ++ sp) (bs ++ bracket (length pre) (k + n) ∷ []) (length vs) g b o) m
      → Runs text end u Argument (state st (pre ++ f ∷ mid) ss (bs ++ bracket (length pre) k ∷ []) (length ws) g b o) a

room_for : (st : ℕ) (pre mid : List Cell) (f : Cell) (ss : List Span) (bs : List Bracket) (k g : ℕ) (b o : Bool) (v : ℕ) → k < 8 → length (pre ++ f ∷ mid) < 32 → too_many (state st (pre ++ f ∷ mid) ss (bs ++ bracket (length pre) k ∷ []) v g b o) Clause Argument ≡ false
room_for st pre mid f ss bs k g b o v small few =
    let B = bs ++ bracket (length pre) k ∷ [] in
    let l = length_push bs (bracket (length pre) k) in
    let inner : innermost B ≡ bracket (length pre) k = get_or_push bs (bracket (length pre) k) no_bracket (length B - 1) (omega arith) in
    or_from (leb 32 (length (pre ++ f ∷ mid))) (leb 8 (innermost B).args) (lt-leb 32 (length (pre ++ f ∷ mid)) few) (ap (λ (x : Bracket). leb 8 x.args) inner ∙ lt-leb 8 k small)

-- a token that makes a cell where an argument is due
cell_taken : (text : List ℕ) (st : ℕ) (pre mid : List Cell) (f : Cell) (ss : List Span) (bs : List Bracket) (k g : ℕ) (b o : Bool) (ws : List (List ℕ)) (t : Token) (kind : Kind) (x : ℕ) (c : Cell) (d : Due) (vs : List (List ℕ)) → t.kind ≡ kind → worth_of text t ≡ Ok x → term_begins kind ≡ Some d
    → entered_as kind text t Argument x (state st (pre ++ f ∷ mid) ss (bs ++ bracket (length pre) k ∷ []) (length ws) g b o) ≡ Ok (added text t Argument x (state st (pre ++ f ∷ mid) ss (bs ++ bracket (length pre) k ∷ []) (length ws) g b o))
    → cell_of kind Argument (valued kind text (span_of t) x (state st (pre ++ with_arity (k + 1) f ∷ mid) ss (bs ++ bracket (length pre) (k + 1) ∷ []) (length ws) g b o)) ≡ c
    → vars_after (length ws) c ≡ length vs → k < 8 → length (pre ++ f ∷ mid) < 32
    → taken text Clause Argument (state st (pre ++ f ∷ mid) ss (bs ++ bracket (length pre) k ∷ []) (length ws) g b o) t
    ≡ Ok (d, state st (pre ++ with_arity (k + 1) f ∷ mid ++ c ∷ []) (ss ++ span_of t ∷ []) (bs ++ bracket (length pre) (k + 1) ∷ []) (length vs) g b o)
cell_taken text st pre mid f ss bs k g b o ws t kind x c d vs tk w fits enters ec ev small few =
    let room = room_for st pre mid f ss bs k g b o (length ws) small few in
    takes text Argument d (state st (pre ++ f ∷ mid) ss (bs ++ bracket (length pre) k ∷ []) (length ws) g b o) _ t kind x tk w fits (and_right (makes_cell kind) _ room)
    (enters ∙ ap Ok (added_is text st pre mid f ss bs k (length ws) g b o t x kind c tk ec room
    ∙ ap (λ y. state st (pre ++ with_arity (k + 1) f ∷ mid ++ c ∷ []) (ss ++ span_of t ∷ []) (bs ++ bracket (length pre) (k + 1) ∷ []) y g b o) ev))

leaf_sim : (text : List ℕ) (st : ℕ) (pre mid : List Cell) (f : Cell) (ss : List Span) (bs : List Bracket) (k g : ℕ) (b o : Bool) (ws vs : List (List ℕ)) (a m : ℕ) (t : Token) (c : Cell) (number : List ℕ → ℕ) (whole : List Cell) → whole ≡ named number text (c ∷ []) (span_of t ∷ []) → Tokens text a (t ∷ []) m
    → taken text Clause Argument (state st (pre ++ f ∷ mid) ss (bs ++ bracket (length pre) k ∷ []) (length ws) g b o) t
    ≡ Ok (TermEnd, state st (pre ++ with_arity (k + 1) f ∷ mid ++ c ∷ []) (ss ++ span_of t ∷ []) (bs ++ bracket (length pre) (k + 1) ∷ []) (length vs) g b o)
    → Known text (pre ++ with_arity (k + 1) f ∷ mid ++ c ∷ []) (ss ++ span_of t ∷ []) vs
    → TermSim text st pre mid f ss bs k g b o ws vs number whole a m
leaf_sim text st pre mid f ss bs k g b o ws vs a m t c number whole spelt toks took known =
    let h = tokens_head text a m (t ∷ []) [] t refl toks in
    let e = tokens_none text t.end m [] refl h.rest in
    record {
      cs = c ∷ [];
      sp = span_of t ∷ [];
      even = ap length (sym spelt);
      level = refl;
      spelt = spelt;
      known = known;
      back = λ end u r. before text end u Argument TermEnd _ _ a t h.stands took (runs_at text end u TermEnd _ m t.end (sym e) r);
    }

-- what may follow a whole term may follow a name
before_name : (text : List ℕ) (s s' : Sketch) (t : Token) (k : Kind) (d : Due) (n b : Bool) → ltb 0 (length s.brackets) ≡ n → s.body ≡ b → Step text TermEnd s t k d s' → Step text NameEnd s t k d s'
before_name text s s' t Close d n b en eb w = record { fits = w.fits; value = w.value; sized = w.sized; room = refl; enters = w.enters }
before_name text s s' t Comma d n b en eb w = record { fits = w.fits; value = w.value; sized = w.sized; room = refl; enters = w.enters }
before_name text s s' t Dot d n b en eb w = record { fits = w.fits; value = w.value; sized = w.sized; room = refl; enters = w.enters }
before_name text s s' t Neck d n b en eb w = record { fits = w.fits; value = w.value; sized = w.sized; room = refl; enters = w.enters }
before_name text s s' t Name d true b en eb w = absurd (none_some (sym (ap (λ x. term_ends x s.body Name) en ∙ ap (λ x. term_ends true x Name) eb) ∙ w.fits))
before_name text s s' t Name d false true en eb w = absurd (none_some (sym (ap (λ x. term_ends x s.body Name) en ∙ ap (λ x. term_ends false x Name) eb) ∙ w.fits))
before_name text s s' t Name d false false en eb w = absurd (none_some (sym (ap (λ x. term_ends x s.body Name) en ∙ ap (λ x. term_ends false x Name) eb) ∙ w.fits))
before_name text s s' t Variable d true b en eb w = absurd (none_some (sym (ap (λ x. term_ends x s.body Variable) en ∙ ap (λ x. term_ends true x Variable) eb) ∙ w.fits))
before_name text s s' t Variable d false true en eb w = absurd (none_some (sym (ap (λ x. term_ends x s.body Variable) en ∙ ap (λ x. term_ends false x Variable) eb) ∙ w.fits))
before_name text s s' t Variable d false false en eb w = absurd (none_some (sym (ap (λ x. term_ends x s.body Variable) en ∙ ap (λ x. term_ends false x Variable) eb) ∙ w.fits))
before_name text s s' t Integer d true b en eb w = absurd (none_some (sym (ap (λ x. term_ends x s.body Integer) en ∙ ap (λ x. term_ends true x Integer) eb) ∙ w.fits))
before_name text s s' t Integer d false true en eb w = absurd (none_some (sym (ap (λ x. term_ends x s.body Integer) en ∙ ap (λ x. term_ends false x Integer) eb) ∙ w.fits))
before_name text s s' t Integer d false false en eb w = absurd (none_some (sym (ap (λ x. term_ends x s.body Integer) en ∙ ap (λ x. term_ends false x Integer) eb) ∙ w.fits))
before_name text s s' t Float d true b en eb w = absurd (none_some (sym (ap (λ x. term_ends x s.body Float) en ∙ ap (λ x. term_ends true x Float) eb) ∙ w.fits))
before_name text s s' t Float d false true en eb w = absurd (none_some (sym (ap (λ x. term_ends x s.body Float) en ∙ ap (λ x. term_ends false x Float) eb) ∙ w.fits))
before_name text s s' t Float d false false en eb w = absurd (none_some (sym (ap (λ x. term_ends x s.body Float) en ∙ ap (λ x. term_ends false x Float) eb) ∙ w.fits))
before_name text s s' t Text d true b en eb w = absurd (none_some (sym (ap (λ x. term_ends x s.body Text) en ∙ ap (λ x. term_ends true x Text) eb) ∙ w.fits))
before_name text s s' t Text d false true en eb w = absurd (none_some (sym (ap (λ x. term_ends x s.body Text) en ∙ ap (λ x. term_ends false x Text) eb) ∙ w.fits))
before_name text s s' t Text d false false en eb w = absurd (none_some (sym (ap (λ x. term_ends x s.body Text) en ∙ ap (λ x. term_ends false x Text) eb) ∙ w.fits))
before_name text s s' t Open d true b en eb w = absurd (none_some (sym (ap (λ x. term_ends x s.body Open) en ∙ ap (λ x. term_ends true x Open) eb) ∙ w.fits))
before_name text s s' t Open d false true en eb w = absurd (none_some (sym (ap (λ x. term_ends x s.body Open) en ∙ ap (λ x. term_ends false x Open) eb) ∙ w.fits))
before_name text s s' t Open d false false en eb w = absurd (none_some (sym (ap (λ x. term_ends x s.body Open) en ∙ ap (λ x. term_ends false x Open) eb) ∙ w.fits))
before_name text s s' t Query d true b en eb w = absurd (none_some (sym (ap (λ x. term_ends x s.body Query) en ∙ ap (λ x. term_ends true x Query) eb) ∙ w.fits))
before_name text s s' t Query d false true en eb w = absurd (none_some (sym (ap (λ x. term_ends x s.body Query) en ∙ ap (λ x. term_ends false x Query) eb) ∙ w.fits))
before_name text s s' t Query d false false en eb w = absurd (none_some (sym (ap (λ x. term_ends x s.body Query) en ∙ ap (λ x. term_ends false x Query) eb) ∙ w.fits))
before_name text s s' t End d true b en eb w = absurd (none_some (sym (ap (λ x. term_ends x s.body End) en ∙ ap (λ x. term_ends true x End) eb) ∙ w.fits))
before_name text s s' t End d false true en eb w = absurd (none_some (sym (ap (λ x. term_ends x s.body End) en ∙ ap (λ x. term_ends false x End) eb) ∙ w.fits))
before_name text s s' t End d false false en eb w = absurd (none_some (sym (ap (λ x. term_ends x s.body End) en ∙ ap (λ x. term_ends false x End) eb) ∙ w.fits))

name_first : (text : List ℕ) (end : ℕ) (u : Sketch) (n : ℕ) (due : Due) (s : Sketch) (at : ℕ) → due ≡ TermEnd → Run text end u n due s at → Run text end u n NameEnd s at
name_first text end u n due s at e done = absurd (let z : ◌≡◌ {A = ℕ} 0 1 = cc in omega arith)
name_first text end u n due s at e (step {next = d} {s' = s'} t k h r) =
    let w = step_of text TermEnd t d s s' (ap (λ x. taken text Clause x s t) (sym e) ∙ h) in
    step t k (taken_of text NameEnd t d s s' (before_name text s s' t t.kind d (ltb 0 (length s.brackets)) s.body refl refl w)) r

-- inside brackets
inside : (bs : List Bracket) (x : Bracket) (b : Bool) (kind : Kind) → after TermEnd (ltb 0 (length (bs ++ x ∷ []))) b kind ≡ inside_ends kind
inside bs x b kind = ap (λ y. term_ends y b kind) (lt-ltb 0 (length (bs ++ x ∷ [])) (omega (arith, length_push bs x)))

-- a bracket opens behind a name
open_taken : (text : List ℕ) (st : ℕ) (cs : List Cell) (c : Cell) (ss : List Span) (bs : List Bracket) (v g : ℕ) (b o : Bool) (t : Token) (x : ℕ) → t.kind ≡ Open → worth_of text t ≡ Ok x → length bs < 8192
    → taken text Clause NameEnd (state st (cs ++ c ∷ []) ss bs v g b o) t ≡ Ok (Argument, state st (cs ++ with_arguments c ∷ []) ss (bs ++ bracket (length cs) 0 ∷ []) v g b o)
open_taken text st cs c ss bs v g b o t x tk w few =
    let S = state st (cs ++ c ∷ []) ss bs v g b o in
    let e : opened_in S ≡ Ok (opened S) = cond-false (leb 8192 (length bs)) (Err (record { cause = TooLarge; at = st })) (Ok (opened S)) (lt-leb 8192 (length bs) few) in
    takes text NameEnd Argument S _ t Open x tk w refl refl (e ∙ ap Ok (sym (opened_is st cs c ss bs v g b o (opened S) e)))

-- and closes
close_taken : (text : List ℕ) (st : ℕ) (cs : List Cell) (ss : List Span) (bs : List Bracket) (y : Bracket) (v g : ℕ) (b o : Bool) (t : Token) (x : ℕ) → t.kind ≡ Close → worth_of text t ≡ Ok x
    → taken text Clause TermEnd (state st cs ss (bs ++ y ∷ []) v g b o) t ≡ Ok (TermEnd, state st cs ss bs v g b o)
close_taken text st cs ss bs y v g b o t x tk w =
    takes text TermEnd TermEnd (state st cs ss (bs ++ y ∷ []) v g b o) _ t Close x tk w (inside bs y b Close) refl (ap Ok (closed_is st cs ss bs y v g b o))

comma_taken : (text : List ℕ) (st : ℕ) (cs : List Cell) (ss : List Span) (bs : List Bracket) (y : Bracket) (v g : ℕ) (b o : Bool) (t : Token) (x : ℕ) → t.kind ≡ Comma → worth_of text t ≡ Ok x
    → taken text Clause TermEnd (state st cs ss (bs ++ y ∷ []) v g b o) t ≡ Ok (Argument, state st cs ss (bs ++ y ∷ []) v g b o)
comma_taken text st cs ss bs y v g b o t x tk w = takes text TermEnd Argument (state st cs ss (bs ++ y ∷ []) v g b o) _ t Comma x tk w (inside bs y b Comma) refl refl

-- arguments in brackets behind a name
record ArgsSim (text : List ℕ) (st : ℕ) (cs : List Cell) (c : Cell) (ss : List Span) (bs : List Bracket) (g : ℕ) (b o : Bool) (ws vs : List (List ℕ)) (n : ℕ) (number : List ℕ → ℕ) (whole : List Cell) (a m : ℕ) : Type 0 where
  ds : List Cell
  sp : List Span
  even : length ds ≡ length whole
  level : length sp ≡ length ds
  spelt : whole ≡ named number text ds sp
  known : Known text (cs ++ with_arity n (with_arguments c) ∷ ds) (ss ++ sp) vs
  back : (end : ℕ) (u : Sketch) → Runs text end u TermEnd (state st (cs ++ with_arity n (with_arguments c) ∷ ds) (ss ++ sp) bs (length vs) g b o) m
      → Runs text end u NameEnd (state st (cs ++ c ∷ []) ss bs (length ws) g b o) a

args_sim : (text : List ℕ) (st : ℕ) (cs : List Cell) (c : Cell) (ss : List Span) (bs : List Bracket) (g : ℕ) (b o : Bool) (ws vs : List (List ℕ)) (n : ℕ) (number : List ℕ → ℕ) (whole : List Cell) (a m : ℕ) (t cl : Token) (x y p : ℕ)
    → t.kind ≡ Open → cl.kind ≡ Close → worth_of text t ≡ Ok x → worth_of text cl ≡ Ok y → length bs < 8192 → token_at text a ≡ Ok t → Tokens text p (cl ∷ []) m
    → TermsSim text st cs [] (with_arguments c) ss bs 0 g b o ws vs n number whole t.end p
    → ArgsSim text st cs c ss bs g b o ws vs n number whole a m
args_sim text st cs c ss bs g b o ws vs n number whole a m t cl x y p tk ck wt wc few tok toks r =
    let h = tokens_head text p m (cl ∷ []) [] cl refl toks in
    let e = tokens_none text cl.end m [] refl h.rest in
    let z = zero-add n in
    let f = with_arguments c in
    let cells : cs ++ with_arity (0 + n) f ∷ [] ++ r.cs ≡ cs ++ with_arity n f ∷ r.cs = ap (λ i. cs ++ with_arity i f ∷ [] ++ r.cs) z ∙ append_assoc cs (with_arity n f ∷ []) r.cs in
    let B = bracket (length cs) (0 + n) in
    record {
      ds = r.cs;
      sp = r.sp;
      even = r.even;
      level = r.level;
      spelt = r.spelt;
      known = subst (λ i. Known text i (ss ++ r.sp) vs) cells r.known;
      back = λ end u q.
          before text end u NameEnd Argument _ _ a t tok (open_taken text st cs c ss bs (length ws) g b o t x tk wt few)
          (r.back end u
          (before text end u TermEnd TermEnd _ _ p cl h.stands (close_taken text st (cs ++ with_arity (0 + n) f ∷ [] ++ r.cs) (ss ++ r.sp) bs B (length vs) g b o cl y ck wc)
          (runs_at text end u TermEnd _ m cl.end (sym e)
          (runs_state text end u TermEnd _ _ m (ap (λ i. state st i (ss ++ r.sp) bs (length vs) g b o) (sym cells)) q))));
    }

mutual
  term_sim : (text : List ℕ) (number : List ℕ → ℕ) (ws : List (List ℕ)) (ts : List Token) (term : Term) (vs : List (List ℕ)) → IsTerm text number ws ts term vs
      → (st : ℕ) (pre mid : List Cell) (f : Cell) (ss : List Span) (bs : List Bracket) (k g : ℕ) (b o : Bool) (a m : ℕ) → eqb f.tag 0 ≡ false → Known text (pre ++ f ∷ mid) ss ws → Tokens text a ts m → Sized text ts → Slim term → k < 8
      → length (pre ++ f ∷ mid) + length (flat term) ≤ 32 → length bs < length (pre ++ f ∷ mid)
      → TermSim text st pre mid f ss bs k g b o ws vs number (flat term) a m
  term_sim text number ws ts term vs (variable t tk) st pre mid f ss bs k g b o a m ft known toks z slim small few deep =
      let q = swapped text pre mid f (with_arity (k + 1) f) ss ws ft ft known in
      let c = var_cell (variable_in ws (word_for text t)) in
      leaf_sim text st pre mid f ss bs k g b o ws (with_variable ws (word_for text t)) a m t c number (flat term) refl toks
      (cell_taken text st pre mid f ss bs k g b o ws t Variable z.0.0 c TermEnd (with_variable ws (word_for text t)) tk z.0.1 refl refl
      (ap var_cell (variable_number_lem text (pre ++ with_arity (k + 1) f ∷ mid) ss ws (word_for text t) q)) (count_number ws (word_for text t)) small (omega arith))
      (known_variable text (pre ++ with_arity (k + 1) f ∷ mid) ss ws (span_of t) q)
  term_sim text number ws ts term vs (integer t v tk w) st pre mid f ss bs k g b o a m ft known toks z slim small few deep =
      leaf_sim text st pre mid f ss bs k g b o ws ws a m t (const_cell 0 v) number (flat term) refl toks
      (cell_taken text st pre mid f ss bs k g b o ws t Integer v (const_cell 0 v) TermEnd ws tk w refl refl refl refl small (omega arith))
      (known_other text (pre ++ with_arity (k + 1) f ∷ mid) ss ws (const_cell 0 v) (span_of t) refl (swapped text pre mid f (with_arity (k + 1) f) ss ws ft ft known))
  term_sim text number ws ts term vs (float t v tk w) st pre mid f ss bs k g b o a m ft known toks z slim small few deep =
      leaf_sim text st pre mid f ss bs k g b o ws ws a m t (const_cell 1 v) number (flat term) refl toks
      (cell_taken text st pre mid f ss bs k g b o ws t Float v (const_cell 1 v) TermEnd ws tk w refl refl refl refl small (omega arith))
      (known_other text (pre ++ with_arity (k + 1) f ∷ mid) ss ws (const_cell 1 v) (span_of t) refl (swapped text pre mid f (with_arity (k + 1) f) ss ws ft ft known))
  term_sim text number ws ts term vs (string t tk) st pre mid f ss bs k g b o a m ft known toks z slim small few deep =
      leaf_sim text st pre mid f ss bs k g b o ws ws a m t (const_cell 3 z.0.0) number (flat term) refl toks
      (cell_taken text st pre mid f ss bs k g b o ws t Text z.0.0 (const_cell 3 z.0.0) TermEnd ws tk z.0.1 refl refl refl refl small (omega arith))
      (known_other text (pre ++ with_arity (k + 1) f ∷ mid) ss ws (const_cell 3 z.0.0) (span_of t) refl (swapped text pre mid f (with_arity (k + 1) f) ss ws ft ft known))
  term_sim text number ws ts term vs (atom t tk) st pre mid f ss bs k g b o a m ft known toks z slim small few deep =
      let c = const_cell 2 z.0.0 in
      let h = tokens_head text a m (t ∷ []) [] t refl toks in
      let e = tokens_none text t.end m [] refl h.rest in
      record {
        cs = c ∷ [];
        sp = span_of t ∷ [];
        even = refl;
        level = refl;
        spelt = refl;
        known = known_other text (pre ++ with_arity (k + 1) f ∷ mid) ss ws c (span_of t) refl (swapped text pre mid f (with_arity (k + 1) f) ss ws ft ft known);
        back = λ end u r.
            before text end u Argument NameEnd _ _ a t h.stands
            (cell_taken text st pre mid f ss bs k g b o ws t Name z.0.0 c NameEnd ws tk z.0.1 refl refl refl refl small (omega arith))
            (runs_at text end u NameEnd _ m t.end (sym e) (r.0, name_first text end u r.0 TermEnd _ m refl r.1));
      }
  term_sim text number ws ts term vs (compound {ts = us} {args = args} t op cl tk ok are ck) st pre mid f ss bs k g b o a m ft known toks z slim small few deep =
      let c = const_cell 2 z.0.0 in
      let h = tokens_head text a m (t ∷ op ∷ us ++ cl ∷ []) (op ∷ us ++ cl ∷ []) t refl toks in
      let h2 = tokens_head text t.end m (op ∷ us ++ cl ∷ []) (us ++ cl ∷ []) op refl h.rest in
      let sp = tokens_split text op.end m us (cl ∷ []) (us ++ cl ∷ []) refl h2.rest in
      let q = known_other text (pre ++ with_arity (k + 1) f ∷ mid) ss ws c (span_of t) refl (swapped text pre mid f (with_arity (k + 1) f) ss ws ft ft known) in
      let C = pre ++ with_arity (k + 1) f ∷ mid in
      let B = bs ++ bracket (length pre) (k + 1) ∷ [] in
      let lc = length_push C (with_arguments c) in
      let la = length-append pre (f ∷ mid) in
      let lb = length-append pre (with_arity (k + 1) f ∷ mid) in
      let ld = length_push bs (bracket (length pre) (k + 1)) in
      let r =
      terms_sim text number ws us args vs are st C [] (with_arguments c) (ss ++ span_of t ∷ []) B 0 g b o op.end sp.place refl
      (swapped text C [] c (with_arguments c) (ss ++ span_of t ∷ []) ws refl refl q) sp.left (sized_left text us (cl ∷ []) z.1.1) slim.1 (omega (arith, slim.0)) (omega arith) (omega arith) in
      let y = sized_right text us (cl ∷ []) z.1.1 in
      let w = args_sim text st C c (ss ++ span_of t ∷ []) B g b o ws vs (count args) number (flats args) t.end m op cl z.1.0.0 y.0.0 sp.place ok ck z.1.0.1 y.0.1 (omega arith) h2.stands sp.right r in
      let spans : (ss ++ span_of t ∷ []) ++ w.sp ≡ ss ++ span_of t ∷ w.sp = append_assoc ss (span_of t ∷ []) w.sp in
      let fc = with_arity (count args) (with_arguments c) in
      record {
        cs = fc ∷ w.ds;
        sp = span_of t ∷ w.sp;
        even = ap suc w.even;
        level = ap suc w.level;
        spelt = ap (λ xs. record { tag = 2; form = 0; arity = count args; value = number (word_for text t) } ∷ xs) w.spelt;
        known = subst (λ i. Known text (C ++ fc ∷ w.ds) i vs) spans w.known;
        back = λ end u i.
            before text end u Argument NameEnd _ _ a t h.stands
            (cell_taken text st pre mid f ss bs k g b o ws t Name z.0.0 c NameEnd ws tk z.0.1 refl refl refl refl small (omega arith))
            (w.back end u (runs_state text end u TermEnd _ _ m (ap (λ j. state st (C ++ fc ∷ w.ds) j B (length vs) g b o) (sym spans)) i));
      }

  terms_sim : (text : List ℕ) (number : List ℕ → ℕ) (ws : List (List ℕ)) (ts : List Token) (args : Terms) (vs : List (List ℕ)) → AreTerms text number ws ts args vs
      → (st : ℕ) (pre mid : List Cell) (f : Cell) (ss : List Span) (bs : List Bracket) (k g : ℕ) (b o : Bool) (a m : ℕ) → eqb f.tag 0 ≡ false → Known text (pre ++ f ∷ mid) ss ws → Tokens text a ts m → Sized text ts → Slims args → k + count args ≤ 8
      → length (pre ++ f ∷ mid) + length (flats args) ≤ 32 → length bs < length (pre ++ f ∷ mid)
      → TermsSim text st pre mid f ss bs k g b o ws vs (count args) number (flats args) a m
  terms_sim text number ws ts args vs (one_term {t = term} is) st pre mid f ss bs k g b o a m ft known toks z slim small few deep =
      let n = ap length (append-nil (flat term)) in
      let r = term_sim text number ws ts term vs is st pre mid f ss bs k g b o a m ft known toks z slim.0 (omega arith) (omega arith) deep in
      record { cs = r.cs; sp = r.sp; even = r.even ∙ sym n; level = r.level; spelt = append-nil (flat term) ∙ r.spelt; known = r.known; back = r.back }
  terms_sim text number ws ts args vs (more_terms {vs = xs} {ts = us} {us = rs} {t = term} {args = rest} c is ck are) st pre mid f ss bs k g b o a m ft known toks z slim small few deep =
      let sp = tokens_split text a m us (c ∷ rs) (us ++ c ∷ rs) refl toks in
      let h = tokens_head text sp.place m (c ∷ rs) rs c refl sp.right in
      let zr = sized_right text us (c ∷ rs) z in
      let lf = length-append (flat term) (flats rest) in
      let r = term_sim text number ws us term xs is st pre mid f ss bs k g b o a sp.place ft known sp.left (sized_left text us (c ∷ rs) z) slim.0 (omega arith) (omega arith) deep in
      let f1 = with_arity (k + 1) f in
      let split : (pre ++ f1 ∷ mid) ++ r.cs ≡ pre ++ f1 ∷ (mid ++ r.cs) = append_assoc pre (f1 ∷ mid) r.cs in
      let la = length-append pre (f ∷ mid) in
      let lb = length-append pre (f1 ∷ (mid ++ r.cs)) in
      let lm = length-append mid r.cs in
      let q =
      terms_sim text number xs rs rest vs are st pre (mid ++ r.cs) f1 (ss ++ r.sp) bs (k + 1) g b o c.end m ft (subst (λ i. Known text i (ss ++ r.sp) xs) split r.known) h.rest zr.1 slim.1 (omega arith)
      (omega (arith, r.even)) (omega arith) in
      let n : k + 1 + count rest ≡ k + suc (count rest) = omega arith in
      let f2 = with_arity (k + suc (count rest)) f in
      let cells : (pre ++ with_arity (k + 1 + count rest) f ∷ (mid ++ r.cs)) ++ q.cs ≡ (pre ++ f2 ∷ mid) ++ (r.cs ++ q.cs) =
      ap (λ i. (pre ++ with_arity i f ∷ (mid ++ r.cs)) ++ q.cs) n ∙ (ap (λ i. i ++ q.cs) (sym (append_assoc pre (f2 ∷ mid) r.cs)) ∙ append_assoc (pre ++ f2 ∷ mid) r.cs q.cs) in
      let spans : (ss ++ r.sp) ++ q.sp ≡ ss ++ (r.sp ++ q.sp) = append_assoc ss r.sp q.sp in
      let lc = length-append r.cs q.cs in
      let B = bs ++ bracket (length pre) (k + 1) ∷ [] in
      record {
        cs = r.cs ++ q.cs;
        sp = r.sp ++ q.sp;
        even = omega (arith, r.even, q.even);
        level = omega (arith, length-append r.sp q.sp, r.level, q.level);
        spelt = joined_spelt number text (flat term) (flats rest) r.cs q.cs r.sp q.sp r.level r.spelt q.spelt;
        known = subst (λ i. Known text ((pre ++ f2 ∷ mid) ++ (r.cs ++ q.cs)) i vs) spans (subst (λ i. Known text i ((ss ++ r.sp) ++ q.sp) vs) cells q.known);
        back = λ end u i.
            r.back end u
            (before text end u TermEnd Argument _ _ sp.place c h.stands (comma_taken text st (pre ++ f1 ∷ mid ++ r.cs) (ss ++ r.sp) bs (bracket (length pre) (k + 1)) (length xs) g b o c zr.0.0 ck zr.0.1)
            (runs_state text end u Argument _ _ c.end (ap (λ j. state st j (ss ++ r.sp) B (length xs) g b o) (sym split))
            (q.back end u
            (runs_state text end u TermEnd _ _ m
            (sym (ap (λ j. state st j ((ss ++ r.sp) ++ q.sp) (bs ++ bracket (length pre) (k + 1 + count rest) ∷ []) (length vs) g b o) cells
            ∙ (ap (λ j. state st ((pre ++ f2 ∷ mid) ++ (r.cs ++ q.cs)) j (bs ++ bracket (length pre) (k + 1 + count rest) ∷ []) (length vs) g b o) spans
            ∙ ap (λ j. state st ((pre ++ f2 ∷ mid) ++ (r.cs ++ q.cs)) (ss ++ (r.sp ++ q.sp)) (bs ++ bracket (length pre) j ∷ []) (length vs) g b o) n))) i))));
      }

record GoalSim (text : List ℕ) (st : ℕ) (cs : List Cell) (ss : List Span) (g n : ℕ) (b o : Bool) (due : Due) (ws vs : List (List ℕ)) (number : List ℕ → ℕ) (whole : List Cell) (a m : ℕ) : Type 0 where
  ds : List Cell
  sp : List Span
  even : length ds ≡ length whole
  level : length sp ≡ length ds
  spelt : whole ≡ named number text ds sp
  known : Known text (cs ++ ds) (ss ++ sp) vs
  back : (end : ℕ) (u : Sketch) → Runs text end u TermEnd (state st (cs ++ ds) (ss ++ sp) [] (length vs) n b o) m → Runs text end u due (state st cs ss [] (length ws) g b o) a

-- the name of a goal is taken
abbrev NameTaken : (text : List ℕ) (st : ℕ) (cs : List Cell) (ss : List Span) (g n : ℕ) (b o : Bool) (due : Due) (ws : List (List ℕ)) → Type 0
NameTaken text st cs ss g n b o due ws =
    (t : Token) (x : ℕ) → t.kind ≡ Name → worth_of text t ≡ Ok x
    → taken text Clause due (state st cs ss [] (length ws) g b o) t ≡ Ok (NameEnd, state st (cs ++ symbol_cell x ∷ []) (ss ++ span_of t ∷ []) [] (length ws) n b o)

head_taken : (text : List ℕ) (st : ℕ) (cs : List Cell) (ss : List Span) (g : ℕ) (b o : Bool) (ws : List (List ℕ)) → length cs < 32 → NameTaken text st cs ss g g b o Head ws
head_taken text st cs ss g b o ws few t x tk w =
    let S = state st cs ss [] (length ws) g b o in
    takes text Head NameEnd S _ t Name x tk w refl (lt-leb 32 (length cs) few)
    (ap Ok (ap (λ y. celled (cell_of y Head (valued y text (span_of t) x S)) (span_of t) S) tk ∙ celled_is st cs ss [] (length ws) g b o (symbol_cell x) (span_of t) few))

goal_taken : (text : List ℕ) (st : ℕ) (cs : List Cell) (ss : List Span) (g : ℕ) (b o : Bool) (ws : List (List ℕ)) → length cs < 32 → g < 8 → NameTaken text st cs ss g (g + 1) b o Goal ws
goal_taken text st cs ss g b o ws few small t x tk w =
    let g2 = cond (leb 8 g) g (g + 1) in
    let o2 = cond (leb 8 g) true o in
    let S = state st cs ss [] (length ws) g2 b o2 in
    let l = lt-leb 8 g small in
    let T = λ (i : ℕ) (j : Bool). state st (cs ++ symbol_cell x ∷ []) (ss ++ span_of t ∷ []) [] (length ws) i b j in
    takes text Goal NameEnd (state st cs ss [] (length ws) g b o) _ t Name x tk w refl (or_from (leb 32 (length cs)) (leb 8 g) (lt-leb 32 (length cs) few) l)
    (ap Ok (ap (λ y. celled (cell_of y Goal (valued y text (span_of t) x S)) (span_of t) S) tk
    ∙ (celled_is st cs ss [] (length ws) g2 b o2 (symbol_cell x) (span_of t) few ∙ (ap (λ i. T i o2) (cond-false (leb 8 g) g (g + 1) l) ∙ ap (λ j. T (g + 1) j) (cond-false (leb 8 g) true o l)))))

goal_sim : (text : List ℕ) (number : List ℕ → ℕ) (ws : List (List ℕ)) (ts : List Token) (goal : TreeGoal) (vs : List (List ℕ)) → IsGoal text number ws ts goal vs
    → (st : ℕ) (cs : List Cell) (ss : List Span) (g n : ℕ) (b o : Bool) (due : Due) → NameTaken text st cs ss g n b o due ws → (a m : ℕ) → Known text cs ss ws → Tokens text a ts m → Sized text ts
    → Slim (fun goal.symbol goal.arguments) → length cs + length (spell_goal goal) ≤ 32
    → GoalSim text st cs ss g n b o due ws vs number (spell_goal goal) a m
goal_sim text number ws ts goal vs (plain t tk) st cs ss g n b o due took a m known toks z slim few =
    let c = symbol_cell z.0.0 in
    let h = tokens_head text a m (t ∷ []) [] t refl toks in
    let e = tokens_none text t.end m [] refl h.rest in
    record {
      ds = c ∷ [];
      sp = span_of t ∷ [];
      even = refl;
      level = refl;
      spelt = refl;
      known = known_other text cs ss ws c (span_of t) refl known;
      back = λ end u r.
          before text end u due NameEnd _ _ a t h.stands (took t z.0.0 tk z.0.1)
          (runs_at text end u NameEnd _ m t.end (sym e) (r.0, name_first text end u r.0 TermEnd _ m refl r.1));
    }
goal_sim text number ws ts goal vs (applied {ts = us} {args = args} t op cl tk ok are ck) st cs ss g n b o due took a m known toks z slim few =
    let c = symbol_cell z.0.0 in
    let h = tokens_head text a m (t ∷ op ∷ us ++ cl ∷ []) (op ∷ us ++ cl ∷ []) t refl toks in
    let h2 = tokens_head text t.end m (op ∷ us ++ cl ∷ []) (us ++ cl ∷ []) op refl h.rest in
    let sp = tokens_split text op.end m us (cl ∷ []) (us ++ cl ∷ []) refl h2.rest in
    let q = known_other text cs ss ws c (span_of t) refl known in
    let lc = length_push cs (with_arguments c) in
    let r =
    terms_sim text number ws us args vs are st cs [] (with_arguments c) (ss ++ span_of t ∷ []) [] 0 n b o op.end sp.place refl
    (swapped text cs [] c (with_arguments c) (ss ++ span_of t ∷ []) ws refl refl q) sp.left (sized_left text us (cl ∷ []) z.1.1) slim.1 (omega (arith, slim.0)) (omega arith) (omega arith) in
    let y = sized_right text us (cl ∷ []) z.1.1 in
    let w = args_sim text st cs c (ss ++ span_of t ∷ []) [] n b o ws vs (count args) number (flats args) t.end m op cl z.1.0.0 y.0.0 sp.place ok ck z.1.0.1 y.0.1 (omega arith) h2.stands sp.right r in
    let spans : (ss ++ span_of t ∷ []) ++ w.sp ≡ ss ++ span_of t ∷ w.sp = append_assoc ss (span_of t ∷ []) w.sp in
    let fc = with_arity (count args) (with_arguments c) in
    record {
      ds = fc ∷ w.ds;
      sp = span_of t ∷ w.sp;
      even = ap suc w.even;
      level = ap suc w.level;
      spelt = ap (λ xs. record { tag = 2; form = 0; arity = count args; value = number (word_for text t) } ∷ xs) w.spelt;
      known = subst (λ i. Known text (cs ++ fc ∷ w.ds) i vs) spans w.known;
      back = λ end u i.
          before text end u due NameEnd _ _ a t h.stands (took t z.0.0 tk z.0.1)
          (w.back end u (runs_state text end u TermEnd _ _ m (ap (λ j. state st (cs ++ fc ∷ w.ds) j [] (length vs) n b o) (sym spans)) i));
    }

-- a goal has a cell
goal_cell : (g : TreeGoal) → 0 < length (spell_goal g)
goal_cell g = omega arith

goals_sim : (text : List ℕ) (number : List ℕ → ℕ) (ws : List (List ℕ)) (ts : List Token) (goals : List TreeGoal) (vs : List (List ℕ)) → AreGoals text number ws ts goals vs
    → (st : ℕ) (cs : List Cell) (ss : List Span) (g : ℕ) (o : Bool) (a m : ℕ) → Known text cs ss ws → Tokens text a ts m → Sized text ts
    → SlimGoals goals → length cs + length (spell_goals goals) ≤ 32 → g + length goals ≤ 8
    → GoalSim text st cs ss g (g + length goals) true o Goal ws vs number (spell_goals goals) a m
goals_sim text number ws ts goals vs (one_goal {g = goal} is) st cs ss g o a m known toks z slim few small =
    let n = ap length (append-nil (spell_goal goal)) in
    let r =
    goal_sim text number ws ts goal vs is st cs ss g (g + 1) true o Goal (goal_taken text st cs ss g true o ws (omega (arith, goal_cell goal)) (omega arith)) a m known toks z slim.0 (omega arith) in
    record { ds = r.ds; sp = r.sp; even = r.even ∙ sym n; level = r.level; spelt = append-nil (spell_goal goal) ∙ r.spelt; known = r.known; back = r.back }
goals_sim text number ws ts goals vs (more_goals {vs = xs} {ts = us} {us = rs} {g = goal} {gs = rest} c is ck are) st cs ss g o a m known toks z slim few small =
    let sp = tokens_split text a m us (c ∷ rs) (us ++ c ∷ rs) refl toks in
    let h = tokens_head text sp.place m (c ∷ rs) rs c refl sp.right in
    let zr = sized_right text us (c ∷ rs) z in
    let lf = length-append (spell_goal goal) (spell_goals rest) in
    let r =
    goal_sim text number ws us goal xs is st cs ss g (g + 1) true o Goal (goal_taken text st cs ss g true o ws (omega (arith, goal_cell goal)) (omega arith)) a sp.place known sp.left
    (sized_left text us (c ∷ rs) z) slim.0 (omega arith) in
    let la = length-append cs r.ds in
    let q =
    goals_sim text number xs rs rest vs are st (cs ++ r.ds) (ss ++ r.sp) (g + 1) o c.end m r.known h.rest zr.1 slim.1 (omega (arith, r.even)) (omega arith) in
    let cells : (cs ++ r.ds) ++ q.ds ≡ cs ++ (r.ds ++ q.ds) = append_assoc cs r.ds q.ds in
    let spans : (ss ++ r.sp) ++ q.sp ≡ ss ++ (r.sp ++ q.sp) = append_assoc ss r.sp q.sp in
    let n : g + 1 + length rest ≡ g + suc (length rest) = omega arith in
    let lc = length-append r.ds q.ds in
    let S = state st (cs ++ r.ds) (ss ++ r.sp) [] (length xs) (g + 1) true o in
    record {
      ds = r.ds ++ q.ds;
      sp = r.sp ++ q.sp;
      even = omega (arith, r.even, q.even);
      level = omega (arith, length-append r.sp q.sp, r.level, q.level);
      spelt = joined_spelt number text (spell_goal goal) (spell_goals rest) r.ds q.ds r.sp q.sp r.level r.spelt q.spelt;
      known = subst (λ i. Known text (cs ++ (r.ds ++ q.ds)) i vs) spans (subst (λ i. Known text i ((ss ++ r.sp) ++ q.sp) vs) cells q.known);
      back = λ end u i.
          r.back end u
          (before text end u TermEnd Goal S S sp.place c h.stands (takes text TermEnd Goal S S c Comma zr.0.0 ck zr.0.1 refl refl refl)
          (q.back end u
          (runs_state text end u TermEnd _ _ m
          (sym (ap (λ j. state st j ((ss ++ r.sp) ++ q.sp) [] (length vs) (g + 1 + length rest) true o) cells
          ∙ (ap (λ j. state st (cs ++ (r.ds ++ q.ds)) j [] (length vs) (g + 1 + length rest) true o) spans ∙ ap (λ j. state st (cs ++ (r.ds ++ q.ds)) (ss ++ (r.sp ++ q.sp)) [] (length vs) j true o) n))) i)));
    }

nothing_known : (text : List ℕ) → Known text [] [] []
unfolding same_variable place_of
nothing_known text = record { level = refl; finds = λ w n h. refl }

-- the dot ends a run
dot_ends : (text : List ℕ) (st : ℕ) (cs : List Cell) (ss : List Span) (v g : ℕ) (b o : Bool) (a end : ℕ) (t : Token) (x : ℕ) → t.kind ≡ Dot → worth_of text t ≡ Ok x → Tokens text a (t ∷ []) end
    → Runs text end (state st cs ss [] v g b o) TermEnd (state st cs ss [] v g b o) a
dot_ends text st cs ss v g b o a end t x tk w toks =
    let S = state st cs ss [] v g b o in
    let h = tokens_head text a end (t ∷ []) [] t refl toks in
    let e = tokens_none text t.end end [] refl h.rest in
    before text end S TermEnd Nothing S S a t h.stands (takes text TermEnd Nothing S S t Dot x tk w (dot-fits b) refl refl) (runs_at text end S Nothing S end t.end (sym e) (0, done))
  where
    dot-fits : (y : Bool) → after TermEnd false y Dot ≡ Some Nothing
    dot-fits true = refl
    dot-fits false = refl

pub clause_accepted : (text : List ℕ) (number : List ℕ → ℕ) (at end : ℕ) (ts : List Token) (c : TreeClause) → Tokens text (min at (length text)) ts end → IsClause text number ts c → Fitting text ts c
    → (s : Sketch) × ReadsClause text at (Ok (end, s)) × (spell_clause c ≡ named number text s.cells s.spans)
clause_accepted text number at end ts c toks (fact {ws = ws} {ts = us} {g = goal} d is dk) fit =
    let st = start_at text at in
    let a = min at (length text) in
    let z = fit.sized in
    let sp = tokens_split text a end us (d ∷ []) (us ++ d ∷ []) refl toks in
    let y = sized_right text us (d ∷ []) z in
    let few : length (spell_goal goal) ≤ 32 = omega (arith, fit.cells, length-append (spell_goal goal) []) in
    let r =
    goal_sim text number [] us goal ws is st [] [] 0 0 false false Head (head_taken text st [] [] 0 false false [] (omega arith)) a sp.place (nothing_known text) sp.left (sized_left text us (d ∷ []) z) fit.slim.0
    (omega arith) in
    let S = state st r.ds r.sp [] (length ws) 0 false false in
    let q = r.back end S (dot_ends text st r.ds r.sp (length ws) 0 false false sp.place end d y.0.0 dk y.0.1 sp.right) in
    (S, reads_of text end S q.0 Head (state st [] [] [] 0 0 false false) a head_open q.1, append-nil (spell_goal goal) ∙ r.spelt)
clause_accepted text number at end ts c toks (rule {ws = ws} {vs = vs} {ts = us} {us = rs} {g = goal} {gs = goals} n d is nk are dk) fit =
    let st = start_at text at in
    let a = min at (length text) in
    let assoc = append_assoc us (n ∷ rs) (d ∷ []) in
    let z = subst (Sized text) assoc fit.sized in
    let sp = tokens_split text a end us (n ∷ rs ++ d ∷ []) (us ++ (n ∷ rs ++ d ∷ [])) refl (subst (λ x. Tokens text a x end) assoc toks) in
    let h = tokens_head text sp.place end (n ∷ rs ++ d ∷ []) (rs ++ d ∷ []) n refl sp.right in
    let zn = sized_right text us (n ∷ rs ++ d ∷ []) z in
    let sr = tokens_split text n.end end rs (d ∷ []) (rs ++ d ∷ []) refl h.rest in
    let y = sized_right text rs (d ∷ []) zn.1 in
    let lf = length-append (spell_goal goal) (spell_goals goals) in
    let r =
    goal_sim text number [] us goal ws is st [] [] 0 0 false false Head (head_taken text st [] [] 0 false false [] (omega arith)) a sp.place (nothing_known text) sp.left
    (sized_left text us (n ∷ rs ++ d ∷ []) z) fit.slim.0 (omega (arith, fit.cells)) in
    let w =
    goals_sim text number ws rs goals vs are st r.ds r.sp 0 false n.end sr.place r.known sr.left (sized_left text rs (d ∷ []) zn.1) fit.slim.1 (omega (arith, fit.cells, r.even))
    (omega (arith, fit.goals)) in
    let S = state st (r.ds ++ w.ds) (r.sp ++ w.sp) [] (length vs) (0 + length goals) true false in
    let H = state st r.ds r.sp [] (length ws) 0 false false in
    let q =
    r.back end S
    (before text end S TermEnd Goal H (state st r.ds r.sp [] (length ws) 0 true false) sp.place n h.stands (takes text TermEnd Goal H _ n Neck zn.0.0 nk zn.0.1 refl refl refl)
    (w.back end S (dot_ends text st (r.ds ++ w.ds) (r.sp ++ w.sp) (length vs) (0 + length goals) true false sr.place end d y.0.0 dk y.0.1 sr.right))) in
    (S, reads_of text end S q.0 Head (state st [] [] [] 0 0 false false) a head_open q.1, joined_spelt number text (spell_goal goal) (spell_goals goals) r.ds w.ds r.sp w.sp r.level r.spelt w.spelt)
