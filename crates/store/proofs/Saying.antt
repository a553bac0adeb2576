-- What the replies say of the equations that stand.
use Rattle.std.proofs.Common.{◌≡◌, ℕ, Bool, true, false, cond, ltb, List, [], ◌∷◌, ◌++◌, length, Ok, Err, Result, sym, refl, ap, ◌∙◌, subst, ap₂, arith}
use Rattle.std.proofs.lemmas.List.{map_push}
use Rattle.terms.specs.declared.Cell.{Cell}
use Rattle.typing.specs.Terms.{Subst, Equation, Eqs, KTerm, Signature, Unifies, Fits}
use Rattle.typing.specs.Rules.{solved, wrong, Means, Reads, ComesTo}
use Rattle.typing.specs.Rules as Rules
use Rattle.typing.proofs.Orders.{every_order}
use Rattle.graphs.specs.Flat.{flat}
use Rattle.programs.specs.Spelling.{spell_equation}
use Rattle.programs.proofs.Equations.{parse_equation}
use Rattle.unification.specs.declared.Outcome.{Outcome}
use Rattle.unification.specs.declared.Outcome.TheVariants.{Solved, False, Wrong}
use Rattle.unification.specs.Standing.{named}
use Rattle.verdicts.specs.declared.Refusal as search
use Rattle.verdicts.specs.declared.Answer.{Answer}
use Rattle.verdicts.specs.declared.Refusal.TheVariants as searched
use Rattle.frames.specs.Asked.{Answered, Proven}
use Rattle.frames.specs.Asked as asked
use Rattle.store.specs.declared.Refusal.{Refusal}
use Rattle.store.specs.declared.Refusal.TheVariants.{NoVariable, NotSolved}
use Rattle.store.specs.Judged.{and_then, judged_by, judged_scratch, judged, judged_goals, judged_question, judged_variable}
use Rattle.store.specs.Numbers.{refusal_of}
use Rattle.store.specs.Model.{Model}
use Rattle.store.specs.Calls.{Spelt, Told, EnteredBy, answer_of, AskedWith, AskedUnder, AskedBy, WroteOut, ReadUnder, ReadBy}
use Rattle.store.specs.History.{Fixed, Replied}
use Rattle.store.proofs.Judging.{accepted}
use Rattle.store.proofs.Marks.{spelt_only}

err_ok : {A B P : Type 0} (r : Result A B) (e : B) (a : A) → r ≡ Err e → r ≡ Ok a → P
err_ok r e a h k = absurd (let z : ◌≡◌ {A = ℕ} 0 1 = cc in omega arith)

-- an outcome told of the entries has its meaning for the equations
told_means : (kind : Signature) (entries : List (List Cell)) (E : Eqs) (o : Outcome) → Spelt E entries → Told kind entries o → Means kind E (named o)
told_means kind entries E o s t =
    let same : t.0 ≡ E = spelt_only t.0 E (t.1 ∙ sym s) in
    subst (λ F. Means kind F (named o)) same (((every_order kind t.0).comes_when (named o)).0 t.2)

pub enter_says : (kind : Signature) (m : Model) (E : Eqs) → Spelt E m.entries → (cells : List Cell) (pairs frames : ℕ) (j : Result ℕ Refusal) → judged cells pairs frames (length m.entries) ≡ j
    → (r : Result Outcome Refusal) (m' : Model) → EnteredBy j kind m cells r m' → (o : Outcome) → r ≡ Ok o → (e : Equation) × (cells ≡ spell_equation e) × ComesTo kind (E ++ (e ∷ [])) (named o) × Means kind (E ++ (e ∷ [])) (named o)
enter_says kind m E s cells pairs frames (Err x) i r m' b o k = err_ok r x o b.0 k
enter_says kind m E s cells pairs frames (Ok p) i r m' b o k =
    let q = parse_equation p cells (accepted cells pairs frames (length m.entries) p i).two in
    let e = q.0 in
    let spelt : Spelt (E ++ (e ∷ [])) m'.entries = map_push spell_equation E e ∙ (ap₂ (λ xs x. xs ++ (x ∷ [])) s (sym q.1) ∙ ap (λ n. n.entries) (sym b.2)) in
    let w = told_means kind m'.entries (E ++ (e ∷ [])) b.0 spelt b.3 in
    let same : b.0 ≡ o = cc b.1 in
    let means = subst (λ v. Means kind (E ++ (e ∷ [])) (named v)) same w in
    (e, q.1, ((every_order kind (E ++ (e ∷ []))).comes_when (named o)).1 means, means)

module _ (f : Fixed) (m : Model) (E : Eqs) (s : Spelt E m.entries) (question : List Cell) (before after : List ℕ) (r : Result Answer Refusal) (a : Answer) (is : r ≡ Ok a) where
  told_ok : (told : Result Answer search.Refusal) → r ≡ answer_of told → told ≡ Ok a
  told_ok (Ok b) e = let z : ◌≡◌ {A = Result Answer Refusal} (Ok b) (Ok a) = sym e ∙ is in let y : b ≡ a = cc in ap Ok y
  told_ok (Err x) e = err_ok r _ a e is

  with_path : (b : Bool) → ((θ : Subst) × Unifies θ E) → AskedWith b f.lists f.kind f.limit f.allowance question m.entries before after r → Replied f E question before after a
  with_path true u w = err_ok r _ a w.0 is
  with_path false u i =
      let same : i.equations ≡ E = spelt_only i.equations E (i.spelt ∙ sym s) in
      let t = told_ok i.told i.is in
      at i.equations same i.told t i.answered i.proven
    where
      at : (F : Eqs) → F ≡ E → (told : Result Answer search.Refusal) → told ≡ Ok a → (w : Answered f.lists f.kind f.limit f.allowance question F before after told)
          → Proven w.program w.goals F f.limit after told → Replied f E question before after a
      at F e told t w p =
          let v : (x : Answered f.lists f.kind f.limit f.allowance question E before after (Ok a)) × Proven x.program x.goals E f.limit after (Ok a)
          = subst (λ G. (x : Answered f.lists f.kind f.limit f.allowance question G before after (Ok a)) × Proven x.program x.goals G f.limit after (Ok a)) e
          (subst (λ o. (x : Answered f.lists f.kind f.limit f.allowance question F before after o) × Proven x.program x.goals F f.limit after o) t (w, p)) in
          record { alike = u; answered = v.0; proven = v.1 }

  under : (o : Outcome) → Told f.kind m.entries o → AskedUnder o f.lists f.kind f.limit f.allowance question m.entries before after r → Replied f E question before after a
  under Solved t w = with_path (ltb (length before) 32) (told_means f.kind m.entries E Solved s t) w
  under False t w = err_ok r _ a w.0 is
  under Wrong t w = err_ok r _ a w.0 is

  pub ask_says : (j : Result (Unit {0}) Refusal) → AskedBy j f.lists f.kind f.limit f.allowance question m.entries before after r → Replied f E question before after a
  ask_says (Err x) w = err_ok r x a w.0 is
  ask_says (Ok u) w = under w.0 w.1 w.2

module _ (kind : Signature) (m : Model) (E : Eqs) (s : Spelt E m.entries) (variable : ℕ) (before after : List Cell) (r : Result ℕ Refusal) (n : ℕ) (is : r ≡ Ok n) (θ : Subst) (reads : Reads θ E) where
  under_read : (o : Outcome) → Told kind m.entries o → ReadUnder o kind m.entries variable before after r → WroteOut (flat (θ variable)) before (Ok n) after
  under_read Solved t w =
      let same : w.equations ≡ E = spelt_only w.equations E (w.spelt ∙ sym s) in
      let same' : t.0 ≡ E = spelt_only t.0 E (t.1 ∙ sym s) in
      let one = ((every_order kind E).reads (subst (λ F. ComesTo kind F (named Solved)) same' t.2)).2 in
      let v : w.reading variable ≡ θ variable = one w.reading (subst (Reads w.reading) same w.reads) variable ∙ sym (one θ reads variable) in
      subst (λ u. WroteOut (flat u) before (Ok n) after) v (subst (λ q. WroteOut (flat (w.reading variable)) before q after) is w.wrote)
  under_read False t w = err_ok r _ n w.0 is
  under_read Wrong t w = err_ok r _ n w.0 is

  pub read_says : (j : Result (Unit {0}) Refusal) → ReadBy j kind m.entries variable before after r → WroteOut (flat (θ variable)) before (Ok n) after
  read_says (Err x) w = err_ok r x n w.0 is
  read_says (Ok u) w = under_read w.0 w.1 w.2

-- A refusal for equations that are not solved comes only of them.

fits_alike : (kind : Signature) (E : Eqs) → (¬ ((κ : ℕ → KTerm) × Fits kind κ E)) → ¬ ((θ : Subst) × Unifies θ E)
fits_alike kind E unfit s = let z : wrong ≡ solved = one wrong solved (((every_order kind E).comes_when wrong).1 unfit) (((every_order kind E).comes_when solved).1 s) in absurd (let y : ◌≡◌ {A = ℕ} 0 1 = cc in omega arith)
  where
    one : (o p : Rules.Outcome) → ComesTo kind E o → ComesTo kind E p → o ≡ p
    one o p a b = let u = (every_order kind E).comes_to_one.2 in u o a ∙ sym (u p b)

not_solved : (kind : Signature) (entries : List (List Cell)) (E : Eqs) (o : Outcome) → Spelt E entries → Told kind entries o → (o ≡ Solved → ⊥) → ¬ ((θ : Subst) × Unifies θ E)
not_solved kind entries E Solved s t n = λ u. n refl
not_solved kind entries E False s t n = (told_means kind entries E False s t).1
not_solved kind entries E Wrong s t n = fits_alike kind E (told_means kind entries E Wrong s t)

other : {A P : Type 0} (r : Result A Refusal) (x : Refusal) → (x ≡ NotSolved → ⊥) → r ≡ Err x → r ≡ Err NotSolved → P
other r x n e k = absurd (n (let z : x ≡ NotSolved = cc in z))

-- what is judged first is no such refusal
abbrev Other : {A : Type 0} → Result A Refusal → Type 0
Other {A} r = (x : Refusal) → r ≡ Err x → x ≡ NotSolved → ⊥

other_then : {A B : Type 0} (r : Result A Refusal) (f : A → Result B Refusal) → Other r → ((a : A) → Other (f a)) → Other (and_then r f)
other_then (Ok a) f h k = k a
other_then (Err e) f h k = λ x p n. h x (let z : e ≡ x = cc in ap Err z) n

other_if : {A : Type 0} (b : Bool) (r q : Result A Refusal) → Other r → Other q → Other (cond b r q)
other_if true r q h k = h
other_if false r q h k = k

ok_other : {A : Type 0} (a : A) → Other {A = A} (Ok a)
ok_other a x e n = let z : ◌≡◌ {A = ℕ} 0 1 = cc in omega arith

err_other : {A : Type 0} (y : Refusal) → (y ≡ NotSolved → ⊥) → Other {A = A} (Err y)
err_other y h x e n = h (let z : y ≡ x = cc in z ∙ n)

-- the search knows no such refusal
named_other : (e : search.Refusal) → refusal_of e ≡ NotSolved → ⊥
named_other searched.NoGoalList e = let z : ◌≡◌ {A = ℕ} 0 1 = cc in omega arith
named_other searched.TooLarge e = let z : ◌≡◌ {A = ℕ} 0 1 = cc in omega arith
named_other searched.Settings e = let z : ◌≡◌ {A = ℕ} 0 1 = cc in omega arith
named_other searched.Allowance e = let z : ◌≡◌ {A = ℕ} 0 1 = cc in omega arith
named_other searched.ScratchShort e = let z : ◌≡◌ {A = ℕ} 0 1 = cc in omega arith
named_other searched.PathShort e = let z : ◌≡◌ {A = ℕ} 0 1 = cc in omega arith

judged_other : (r : Result (Unit {0}) search.Refusal) → Other (judged_by r)
judged_other (Ok u) = ok_other u
judged_other (Err e) = err_other (refusal_of e) (named_other e)

question_other : (question : List Cell) (pairs frames : ℕ) → Other (judged_question question pairs frames)
question_other question pairs frames =
    other_then (judged_scratch pairs frames) (λ _. judged_goals question) (judged_other (asked.judged_scratch pairs frames)) (λ _. judged_other (asked.judged_goals question))

variable_other : (variable pairs frames : ℕ) → Other (judged_variable variable pairs frames)
variable_other variable pairs frames =
    other_then (judged_scratch pairs frames) (λ _. cond (ltb variable 32) (Ok tt) (Err NoVariable)) (judged_other (asked.judged_scratch pairs frames))
    (λ _. other_if (ltb variable 32) (Ok tt) (Err NoVariable) (ok_other tt) (err_other NoVariable (λ e. let z : ◌≡◌ {A = ℕ} 0 1 = cc in omega arith)))

answer_other : (told : Result Answer search.Refusal) (r : Result Answer Refusal) → r ≡ answer_of told → r ≡ Err NotSolved → ⊥
answer_other (Ok a) r e k = let z : ◌≡◌ {A = ℕ} 0 1 = cc in omega arith
answer_other (Err x) r e k = let z : ◌≡◌ {A = ℕ} 0 1 = cc in omega arith

module _ (f : Fixed) (m : Model) (E : Eqs) (s : Spelt E m.entries) (question : List Cell) (before after : List ℕ) (r : Result Answer Refusal) (is : r ≡ Err NotSolved) where
  unasked_with : (b : Bool) → AskedWith b f.lists f.kind f.limit f.allowance question m.entries before after r → ⊥
  unasked_with true w = let e = w.0 in let z : ◌≡◌ {A = ℕ} 0 1 = cc in omega arith
  unasked_with false w = answer_other w.told r w.is is

  unasked : (o : Outcome) → Told f.kind m.entries o → AskedUnder o f.lists f.kind f.limit f.allowance question m.entries before after r → ¬ ((θ : Subst) × Unifies θ E)
  unasked Solved t w = absurd (unasked_with (ltb (length before) 32) w)
  unasked False t w = not_solved f.kind m.entries E False s t (λ e. let z : ◌≡◌ {A = ℕ} 0 1 = cc in omega arith)
  unasked Wrong t w = not_solved f.kind m.entries E Wrong s t (λ e. let z : ◌≡◌ {A = ℕ} 0 1 = cc in omega arith)

  pub ask_unsolved : (j : Result (Unit {0}) Refusal) → judged_question question f.pairs f.frames ≡ j → AskedBy j f.lists f.kind f.limit f.allowance question m.entries before after r → ¬ ((θ : Subst) × Unifies θ E)
  ask_unsolved (Err x) e w = other r x (λ n. question_other question f.pairs f.frames x e n) w.0 is
  ask_unsolved (Ok u) e w = unasked w.0 w.1 w.2

module _ (f : Fixed) (m : Model) (E : Eqs) (s : Spelt E m.entries) (variable : ℕ) (before after : List Cell) (r : Result ℕ Refusal) (is : r ≡ Err NotSolved) where
  unwritten : (xs : List Cell) (q : Result ℕ Refusal) → q ≡ Err NotSolved → WroteOut xs before q after → ⊥
  unwritten xs (Ok n) k w = let z : ◌≡◌ {A = ℕ} 0 1 = cc in omega arith
  unwritten xs (Err x) k w = let e = w.0 in let z : ◌≡◌ {A = ℕ} 0 1 = cc in omega arith

  unread : (o : Outcome) → Told f.kind m.entries o → ReadUnder o f.kind m.entries variable before after r → ¬ ((θ : Subst) × Unifies θ E)
  unread Solved t w = absurd (unwritten (flat (w.reading variable)) r is w.wrote)
  unread False t w = not_solved f.kind m.entries E False s t (λ e. let z : ◌≡◌ {A = ℕ} 0 1 = cc in omega arith)
  unread Wrong t w = not_solved f.kind m.entries E Wrong s t (λ e. let z : ◌≡◌ {A = ℕ} 0 1 = cc in omega arith)

  pub read_unsolved : (j : Result (Unit {0}) Refusal) → judged_variable variable f.pairs f.frames ≡ j → ReadBy j f.kind m.entries variable before after r → ¬ ((θ : Subst) × Unifies θ E)
  read_unsolved (Err x) e w = other r x (λ n. variable_other variable f.pairs f.frames x e n) w.0 is
  read_unsolved (Ok u) e w = unread w.0 w.1 w.2
