-- Reading a clause is decided by the bytes up to its dot.
use Rattle.std.proofs.Common.{◌≡◌, ℕ, suc, ◌-◌, ◌≤◌, min, Bool, true, false, cond, ◌&&◌, eqb, ltb, leb, List, [], ◌∷◌, ◌++◌, length, get_or, take, drop, Some, None, Ok, Err, Option, Result, sym, refl, ap, ◌∙◌, subst, arith}
use Rattle.std.proofs.lemmas.List.{length_push}
use Rattle.std.specs.Str.{bytes_eq}
use Rattle.terms.specs.declared.Cell.{Cell}
use Rattle.trees.specs.Tree.{Clause as TreeClause}
use Rattle.lexis.specs.Tokens.{token_at, start_at, shape_at, told}
use Rattle.lexis.specs.Worth.{word_of, worth_of, value_of, sized}
use Rattle.lexis.specs.Spelt.{Spelt}
use Rattle.lexis.specs.Spelt.Spelt.{name, variable, digits, minus, float, quotes, opening, closing, comma, dot, neck, query}
use Rattle.lexis.specs.declared.fault.Fault.{Fault}
use Rattle.lexis.specs.declared.fault.Cause.TheVariants.{Question as TooLarge}
use Rattle.lexis.specs.declared.token.Token.{Token}
use Rattle.lexis.specs.declared.token.Kind.{Kind}
use Rattle.lexis.specs.declared.token.Kind.TheVariants.{Name, Variable, Integer, Float, Text, Open, Close, Comma, Dot, Neck, Query, End}
use Rattle.lexis.specs.declared.token.Span.{Span}
use Rattle.names.specs.Spans.{word_at}
use Rattle.draft.specs.declared.grammar.Due.{Due}
use Rattle.draft.specs.declared.grammar.Due.TheVariants.{Head, Goal, GoalOrDot, Argument, NameEnd, TermEnd, Nothing}
use Rattle.draft.specs.declared.reader.Form.TheVariants.{Clause}
use Rattle.draft.specs.Drafts.{cell_of, span_of, word_span, makes_cell}
use Rattle.draft.specs.Grammar.{after}
use Rattle.draft.specs.Sketch.{Sketch, blank, argued, argued_by, one_more, innermost, counted_as, full, with_cell, celled, opened, is_variable, same_variable, valued, added, entered_as, entered, too_many, failed, goes_on, sized_in, fitting, taken, Reads, ReadsClause}
use Rattle.draft.specs.Sketch.Reads.{last, more}
use Rattle.grammar.specs.Grammar.{Tokens, IsClause}
use Rattle.grammar.specs.Grammar.Tokens.{stop, next}
use Rattle.grammar.specs.Grammar.IsClause.{fact, rule}
use Rattle.grammar.specs.Laws.{Dotted}
use Rattle.grammar.proofs.States.{never, ok_same, none_some, step_of, Run, run_of}
use Rattle.grammar.proofs.States.Run.{done, step}
use Rattle.grammar.proofs.Bytes.{Stands, stands_at, long_enough, token_same, word_same, word_byte, word_length}
use Rattle.grammar.proofs.Clauses.{clause_written}

-- every word ends by the place
abbrev Within : ℕ → List Span → Type 0
Within end [] = Unit {0}
Within end (s ∷ ss) = (s.end ≤ end) × Within end ss

within_push : (end : ℕ) (ss : List Span) (s : Span) → Within end ss → s.end ≤ end → Within end (ss ++ s ∷ [])
within_push end [] s w h = (h, tt)
within_push end (x ∷ ss) s w h = (w.0, within_push end ss s w.1 h)

span_within : (k : Kind) (s e : ℕ) → (word_span k s e).end ≤ e
span_within Name s e = omega arith
span_within Variable s e = omega arith
span_within Integer s e = omega arith
span_within Float s e = omega arith
span_within Text s e = omega arith
span_within Open s e = omega arith
span_within Close s e = omega arith
span_within Comma s e = omega arith
span_within Dot s e = omega arith
span_within Neck s e = omega arith
span_within Query s e = omega arith
span_within End s e = omega arith

same_variable_lem : (text other w : List ℕ) (end : ℕ) (cs : List Cell) (ss : List Span) (n : ℕ) → take end text ≡ take end other → Within end ss → same_variable text w cs ss n ≡ same_variable other w cs ss n
unfolding same_variable
same_variable_lem text other w end [] ss n h x = refl
same_variable_lem text other w end (c ∷ cs) [] n h x = refl
same_variable_lem text other w end (c ∷ cs) (s ∷ ss) n h x =
    ap (λ b. cond b c.value (same_variable text w cs ss n)) (ap (λ v. eqb c.tag 0 && bytes_eq v w) (word_same text other s.start s.end end h x.0))
    ∙ ap (λ m. cond (is_variable other w c s) c.value m) (same_variable_lem text other w end cs ss n h x.1)

valued_same : (k : Kind) (text other : List ℕ) (end : ℕ) (w : Span) (v : ℕ) (s : Sketch) → take end text ≡ take end other → Within end s.spans → w.end ≤ end → valued k text w v s ≡ valued k other w v s
valued_same Variable text other end w v s h x l =
    let u = word_same text other w.start w.end end h l in
    ap (λ b. cond (bytes_eq (word_at text w) (95 ∷ [])) s.vars b) (same_variable_lem text other (word_at text w) end s.cells s.spans s.vars h x)
    ∙ ap (λ y. cond (bytes_eq y (95 ∷ [])) s.vars (same_variable other y s.cells s.spans s.vars)) u
valued_same Name text other end w v s h x l = refl
valued_same Integer text other end w v s h x l = refl
valued_same Float text other end w v s h x l = refl
valued_same Text text other end w v s h x l = refl
valued_same Open text other end w v s h x l = refl
valued_same Close text other end w v s h x l = refl
valued_same Comma text other end w v s h x l = refl
valued_same Dot text other end w v s h x l = refl
valued_same Neck text other end w v s h x l = refl
valued_same Query text other end w v s h x l = refl
valued_same End text other end w v s h x l = refl

argued_spans : (s : Sketch) → (argued s).spans ≡ s.spans
argued_spans s =
    elim (eqb (length s.brackets) 0) as (λ b. (cond b s (argued_by (one_more (innermost s.brackets)) s)).spans ≡ s.spans) [ true ↦ refl | false ↦ refl ]

counted_spans : (due : Due) (s : Sketch) → (counted_as due s).spans ≡ s.spans
counted_spans Argument s = argued_spans s
counted_spans Goal s = refl
counted_spans GoalOrDot s = refl
counted_spans Head s = refl
counted_spans NameEnd s = refl
counted_spans TermEnd s = refl
counted_spans Nothing s = refl

added_same : (text other : List ℕ) (end : ℕ) (t : Token) (due : Due) (v : ℕ) (s : Sketch) → take end text ≡ take end other → Within end s.spans → t.end ≤ end
    → added text t due v s ≡ added other t due v s
added_same text other end t due v s h x l =
    let S = counted_as due s in
    let w = subst (Within end) (sym (counted_spans due s)) x in
    ap (λ y. celled (cell_of t.kind due y) (span_of t) S) (valued_same t.kind text other end (span_of t) v S h w (omega (arith, span_within t.kind t.start t.end)))

entered_same : (k : Kind) (text other : List ℕ) (end : ℕ) (t : Token) (due : Due) (v : ℕ) (s : Sketch) → take end text ≡ take end other → Within end s.spans → t.end ≤ end
    → entered_as k text t due v s ≡ entered_as k other t due v s
entered_same Name text other end t due v s h x l = ap Ok (added_same text other end t due v s h x l)
entered_same Variable text other end t due v s h x l = ap Ok (added_same text other end t due v s h x l)
entered_same Integer text other end t due v s h x l = ap Ok (added_same text other end t due v s h x l)
entered_same Float text other end t due v s h x l = ap Ok (added_same text other end t due v s h x l)
entered_same Text text other end t due v s h x l = ap Ok (added_same text other end t due v s h x l)
entered_same Open text other end t due v s h x l = refl
entered_same Close text other end t due v s h x l = refl
entered_same Comma text other end t due v s h x l = refl
entered_same Dot text other end t due v s h x l = refl
entered_same Neck text other end t due v s h x l = refl
entered_same Query text other end t due v s h x l = refl
entered_same End text other end t due v s h x l = refl

added_within : (text : List ℕ) (end : ℕ) (t : Token) (due : Due) (v : ℕ) (s : Sketch) → Within end s.spans → t.end ≤ end → Within end (added text t due v s).spans
added_within text end t due v s x l =
    let S = counted_as due s in
    let c = cell_of t.kind due (valued t.kind text (span_of t) v S) in
    let w = subst (Within end) (sym (counted_spans due s)) x in
    let p = within_push end S.spans (span_of t) w (omega (arith, span_within t.kind t.start t.end)) in
    elim (leb 32 (length S.cells)) as (λ b. Within end (cond b (full S) (with_cell c (span_of t) S)).spans) [ true ↦ w | false ↦ p ]

opened_within : (end : ℕ) (s s' : Sketch) (b : Bool) → Within end s.spans → cond {A = Result Sketch Fault} b (Err (record { cause = TooLarge; at = s.start })) (Ok (opened s)) ≡ Ok s' → Within end s'.spans
opened_within end s s' true x e = absurd (never e)
opened_within end s s' false x e = subst (λ (y : Sketch). Within end y.spans) (ok_same e) x

entered_within : (k : Kind) (text : List ℕ) (end : ℕ) (t : Token) (due : Due) (v : ℕ) (s s' : Sketch) → Within end s.spans → t.end ≤ end → entered_as k text t due v s ≡ Ok s' → Within end s'.spans
entered_within Name text end t due v s s' x l e = subst (λ (y : Sketch). Within end y.spans) (ok_same e) (added_within text end t due v s x l)
entered_within Variable text end t due v s s' x l e = subst (λ (y : Sketch). Within end y.spans) (ok_same e) (added_within text end t due v s x l)
entered_within Integer text end t due v s s' x l e = subst (λ (y : Sketch). Within end y.spans) (ok_same e) (added_within text end t due v s x l)
entered_within Float text end t due v s s' x l e = subst (λ (y : Sketch). Within end y.spans) (ok_same e) (added_within text end t due v s x l)
entered_within Text text end t due v s s' x l e = subst (λ (y : Sketch). Within end y.spans) (ok_same e) (added_within text end t due v s x l)
entered_within Open text end t due v s s' x l e = opened_within end s s' (leb 8192 (length s.brackets)) x e
entered_within Close text end t due v s s' x l e = subst (λ (y : Sketch). Within end y.spans) (ok_same e) x
entered_within Comma text end t due v s s' x l e = subst (λ (y : Sketch). Within end y.spans) (ok_same e) x
entered_within Dot text end t due v s s' x l e = subst (λ (y : Sketch). Within end y.spans) (ok_same e) x
entered_within Neck text end t due v s s' x l e = subst (λ (y : Sketch). Within end y.spans) (ok_same e) x
entered_within Query text end t due v s s' x l e = subst (λ (y : Sketch). Within end y.spans) (ok_same e) x
entered_within End text end t due v s s' x l e = subst (λ (y : Sketch). Within end y.spans) (ok_same e) x

worth_same : (text other : List ℕ) (end : ℕ) (t : Token) → take end text ≡ take end other → t.end ≤ end → worth_of text t ≡ worth_of other t
worth_same text other end t h l = ap (λ w. sized t.start (value_of t.kind w)) (word_same text other t.start t.end end h l)

sized_same : (text other : List ℕ) (end : ℕ) (due : Due) (t : Token) (d : Due) (s : Sketch) (r : Result ℕ Fault) → take end text ≡ take end other → Within end s.spans → t.end ≤ end
    → sized_in text Clause due t d s r ≡ sized_in other Clause due t d s r
unfolding entered
sized_same text other end due t d s (Err e) h x l = refl
sized_same text other end due t d s (Ok v) h x l =
    ap (λ y. cond (makes_cell t.kind && too_many s Clause due) (failed t) (goes_on d y)) (entered_same t.kind text other end t due v s h x l)

fitting_same : (text other : List ℕ) (end : ℕ) (due : Due) (t : Token) (s : Sketch) (o : Option Due) → take end text ≡ take end other → Within end s.spans → t.end ≤ end
    → fitting text Clause due t s o ≡ fitting other Clause due t s o
fitting_same text other end due t s None h x l = refl
fitting_same text other end due t s (Some d) h x l =
    sized_same text other end due t d s (worth_of text t) h x l ∙ ap (sized_in other Clause due t d s) (worth_same text other end t h l)

taken_same : (text other : List ℕ) (end : ℕ) (due : Due) (t : Token) (s : Sketch) → take end text ≡ take end other → Within end s.spans → t.end ≤ end → taken text Clause due s t ≡ taken other Clause due s t
unfolding taken
taken_same text other end due t s h x l = fitting_same text other end due t s (after due (ltb 0 (length s.brackets)) s.body t.kind) h x l

-- the end of the text fits nowhere
no_end : (due : Due) (n b : Bool) → after due n b End ≡ None
no_end Head n b = refl
no_end Goal n b = refl
no_end GoalOrDot n b = refl
no_end Argument n b = refl
no_end NameEnd n b = refl
no_end TermEnd true b = refl
no_end TermEnd false true = refl
no_end TermEnd false false = refl
no_end Nothing n b = refl

stands_taken : (text : List ℕ) (at : ℕ) (due d : Due) (t : Token) (s s' : Sketch) → token_at text at ≡ Ok t → taken text Clause due s t ≡ Ok (d, s') → Stands text at t
stands_taken text at due d t s s' k e =
    let w = step_of text due t d s s' e in
    stands_at text at t k (λ z. none_some (sym (no_end due (ltb 0 (length s.brackets)) s.body) ∙ (ap (after due (ltb 0 (length s.brackets)) s.body) (sym z) ∙ w.fits)))

-- a run goes forward
run_forward : (text : List ℕ) (end : ℕ) (u : Sketch) (n : ℕ) (due : Due) (s : Sketch) (at : ℕ) → at ≤ length text → Run text end u n due s at → (at ≤ end) × (end ≤ length text)
run_forward text end u n due s at l done = (omega arith, l)
run_forward text end u n due s at l (step {n = m} {next = d} {s' = s'} t k e r) =
    let x = stands_taken text at due d t s s' k e in
    let y = run_forward text end u m d s' t.end x.within r in
    (omega (arith, x.blanks.0, x.some, y.0), y.1)

run_same : (text other : List ℕ) (end : ℕ) (u : Sketch) (n : ℕ) (due : Due) (s : Sketch) (at : ℕ) → take end text ≡ take end other → get_or text (end - 1) 0 ≡ 46 → at ≤ length text → Within end s.spans
    → Run text end u n due s at → Run other end u n due s at
run_same text other end u n due s at h b l x done = done
run_same text other end u n due s at h b l x (step {n = m} {next = d} {s' = s'} t k e r) =
    let y = stands_taken text at due d t s s' k e in
    let f = run_forward text end u m d s' t.end y.within r in
    let w = step_of text due t d s s' e in
    step t (token_same text other at end t h f.1 b f.0 y) (sym (taken_same text other end due t s h x f.0) ∙ e)
    (run_same text other end u m d s' t.end h b y.within (entered_within t.kind text end t due w.value s s' x f.0 w.enters) r)

-- a run is a reading
pub reads_of : (text : List ℕ) (end : ℕ) (u : Sketch) (n : ℕ) (due : Due) (s : Sketch) (at : ℕ) → (due ≡ Nothing → ⊥) → Run text end u n due s at → Reads text Clause due s at (Ok (end, u))
reads_of text end u n due s at h done = absurd (h refl)
reads_of text end u n due s at h (step t k e done) = last t k e refl
reads_of text end u n due s at h (step {next = d} {s' = s'} t k e (step {n = m} {next = d2} {s' = s2} t2 k2 e2 r)) =
    let w = step_of text d t2 d2 s' s2 e2 in
    let go : d ≡ Nothing → ⊥ = λ z. none_some (ap (λ x. after x (ltb 0 (length s'.brackets)) s'.body t2.kind) (sym z) ∙ w.fits) in
    more t k e go (reads_of text end u (suc m) d s' t.end go (step t2 k2 e2 r))

-- the last of the tokens
tokens_none : (text : List ℕ) (a b : ℕ) (ts : List Token) → ts ≡ [] → Tokens text a ts b → a ≡ b
tokens_none text a b ts e stop = refl
tokens_none text a b ts e (next {ts = rs} t k r) = absurd (let z : suc (length rs) ≡ 0 = ap length e in omega arith)

pub record Last (text : List ℕ) (d : Token) (end : ℕ) : Type 0 where
  pub from : ℕ
  pub stands : token_at text from ≡ Ok d
  pub ends : d.end ≡ end

tokens_last : (text : List ℕ) (a end : ℕ) (all front : List Token) (d : Token) → all ≡ front ++ d ∷ [] → Tokens text a all end → Last text d end
tokens_last text a end all front d e stop = absurd (omega (arith, ap length e, length_push front d))
tokens_last text a end all [] d e (next {ts = rs} t k r) =
    let same : t ≡ d = ap (λ (xs : List Token). get_or xs 0 t) e in
    record { from = a; stands = k ∙ ap Ok same; ends = ap (λ (x : Token). x.end) (sym same) ∙ tokens_none text t.end end rs (ap (λ (xs : List Token). drop 1 xs) e) r }
tokens_last text a end all (x ∷ front) d e (next {ts = rs} t k r) = tokens_last text t.end end rs front d (ap (λ (xs : List Token). drop 1 xs) e) r

pub record Closed (ts : List Token) : Type 0 where
  pub front : List Token
  pub point : Token
  pub is : ts ≡ front ++ point ∷ []
  pub mark : point.kind ≡ Dot

clause_closed : (text : List ℕ) (number : List ℕ → ℕ) (ts : List Token) (c : TreeClause) → IsClause text number ts c → Closed ts
clause_closed text number ts c (fact {ts = front} d g k) = record { front = front; point = d; is = refl; mark = k }
clause_closed text number ts c (rule {ts = ts1} {us = us} n d g nk gs k) = record { front = ts1 ++ n ∷ us; point = d; is = refl; mark = k }

dot_bytes : (k : Kind) (w : List ℕ) → Spelt k w → k ≡ Dot → w ≡ 46 ∷ []
dot_bytes k w (name c a) e = absurd (let z : ◌≡◌ {A = ℕ} 0 1 = cc in omega arith)
dot_bytes k w (variable c a) e = absurd (let z : ◌≡◌ {A = ℕ} 0 1 = cc in omega arith)
dot_bytes k w (digits c a) e = absurd (let z : ◌≡◌ {A = ℕ} 0 1 = cc in omega arith)
dot_bytes k w (minus c a) e = absurd (let z : ◌≡◌ {A = ℕ} 0 1 = cc in omega arith)
dot_bytes k w (float n a) e = absurd (let z : ◌≡◌ {A = ℕ} 0 1 = cc in omega arith)
dot_bytes k w (quotes a) e = absurd (let z : ◌≡◌ {A = ℕ} 0 1 = cc in omega arith)
dot_bytes k w opening e = absurd (let z : ◌≡◌ {A = ℕ} 0 1 = cc in omega arith)
dot_bytes k w closing e = absurd (let z : ◌≡◌ {A = ℕ} 0 1 = cc in omega arith)
dot_bytes k w comma e = absurd (let z : ◌≡◌ {A = ℕ} 0 1 = cc in omega arith)
dot_bytes k w neck e = absurd (let z : ◌≡◌ {A = ℕ} 0 1 = cc in omega arith)
dot_bytes k w query e = absurd (let z : ◌≡◌ {A = ℕ} 0 1 = cc in omega arith)
dot_bytes k w dot e = refl

pub clause_dotted : (text : List ℕ) (at end : ℕ) (s : Sketch) → ReadsClause text at (Ok (end, s)) → Dotted text end
clause_dotted text at end s d =
    let w = clause_written text (λ _. 0) at end s d in
    let c = clause_closed text (λ _. 0) w.tokens w.clause w.grammatical in
    let p = c.point in
    let l = tokens_last text (min at (length text)) end w.tokens c.front p c.is w.stand in
    let x = stands_at text l.from p l.stands (λ z. let o : ◌≡◌ {A = ℕ} 0 1 = cc (z, c.mark) in omega arith) in
    let bytes = dot_bytes p.kind (word_of text p.start p.end) x.spelt c.mark in
    let n = word_length text p.start p.end (omega (arith, x.some)) x.within in
    let one : p.end - p.start ≡ 1 = sym n ∙ ap length bytes in
    let i : end - 1 ≡ p.start = omega (arith, l.ends, x.some) in
    let z : p.start - p.start ≡ 0 = omega arith in
    record {
      point = p;
      from = l.from;
      stands = l.stands;
      mark = c.mark;
      ends = l.ends;
      within = omega (arith, l.ends, x.within);
      byte =
          ap (λ j. get_or text j 0) i
          ∙ (sym (word_byte text p.start p.end p.start (omega arith) x.some) ∙ (ap (λ j. get_or (word_of text p.start p.end) j 0) z ∙ ap (λ xs. get_or xs 0 0) bytes));
    }

-- where a token begins
told_start : (s : ℕ) (o : Option (Kind × ℕ)) (t : Token) → told s o ≡ Ok t → t.start ≡ s
told_start s (Some w) t e = ap (λ (x : Token). x.start) (sym (ok_same e))
told_start s None t e = absurd (never e)

start_of : (text : List ℕ) (at : ℕ) (t : Token) → token_at text at ≡ Ok t → t.start ≡ start_at text at
start_of text at t e = start-by (eqb (start_at text at) (length text)) e
  where
    start-by : (b : Bool) → cond b (Ok (record { kind = End; start = start_at text at; end = start_at text at })) (told (start_at text at) (shape_at text (start_at text at))) ≡ Ok t → t.start ≡ start_at text at
    start-by true k = ap (λ (x : Token). x.start) (sym (ok_same k))
    start-by false k = told_start (start_at text at) (shape_at text (start_at text at)) t k

pub head_open : Head ≡ Nothing → ⊥
head_open h = let z : ◌≡◌ {A = ℕ} 0 1 = cc in omega arith

-- the first token of a run
record First (text : List ℕ) (end at : ℕ) : Type 0 where
  token : Token
  told_at : token_at text at ≡ Ok token
  standing : Stands text at token
  by : token.end ≤ end

first_token : (text : List ℕ) (end : ℕ) (u : Sketch) (n : ℕ) (due : Due) (s : Sketch) (at : ℕ) → (due ≡ Nothing → ⊥) → Run text end u n due s at → First text end at
first_token text end u n due s at h done = absurd (h refl)
first_token text end u n due s at h (step {n = m} {next = d} {s' = s'} t k e r) =
    let x = stands_taken text at due d t s s' k e in
    record { token = t; told_at = k; standing = x; by = (run_forward text end u m d s' t.end x.within r).0 }

pub clause_local : (text other : List ℕ) (at end : ℕ) (s : Sketch) → take end text ≡ take end other → ReadsClause text at (Ok (end, s)) → ReadsClause other at (Ok (end, s))
clause_local text other at end u h d =
    let c = clause_dotted text at end u d in
    let st = start_at text at in
    let m = min at (length text) in
    let x = run_of text Head (blank st false) m end u (Ok (end, u)) refl d in
    let f = first_token text end u x.0 Head (blank st false) m head_open x.1 in
    let r = run_same text other end u x.0 Head (blank st false) m h c.byte (omega arith) tt x.1 in
    let far = long_enough text other end h c.within in
    let y = f.standing in
    let here : m ≡ at = omega (arith, y.blanks.0, y.some, y.within) in
    let place : m ≡ min at (length other) = omega (arith, y.blanks.0, y.some, f.by) in
    let told-there = token_same text other m end f.token h c.within c.byte f.by y in
    let starts : st ≡ start_at other at =
    ap (start_at text) (sym here) ∙ (sym (start_of text m f.token f.told_at) ∙ (start_of other m f.token told-there ∙ ap (start_at other) here)) in
    subst (λ i. Reads other Clause Head (blank (start_at other at) false) i (Ok (end, u))) place
    (subst (λ i. Reads other Clause Head (blank i false) m (Ok (end, u))) starts (reads_of other end u x.0 Head (blank st false) m head_open r))
