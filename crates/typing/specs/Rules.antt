-- The rules of typed unification, their runs, and what every run comes to.
use Rattle.std.specs.Prelude.{◌≡◌, ◌↔◌, ◌≢◌, Bool, [], ◌∷◌, ◌++◌, ℕ, ◌≤◌}
use mathlib.Core.WellFounded.{Acc}
use Rattle.typing.specs.Terms.{Term, var, con, fun, Terms, arity, Equation, ◌≈◌, Eqs, arguments, Subst, set, replaces, count, count_in, KTerm, Signature, Unifies, Fits, MostGeneral}

-- The flag and the equations.
pub record State : Type 0 where
  pub flag : Bool
  pub eqs : Eqs

abbrev pub state : Bool → Eqs → State
state b E = record { flag = b; eqs = E }

-- X against a term t, on either side; of two variables the left one is X.
pub data Against : ℕ → Term → Equation → Type 0 where
  on_left : {x : ℕ} {t : Term} → Against x t (var x ≈ t)
  on_right : {x : ℕ} {t : Term} → ((y : ℕ) → t ≢ var y) → Against x t (t ≈ var x)

-- The rules that go on. Each takes one equation, wherever it stands.
pub data Step (kind : Signature) : State → State → Type 0 where
  same_functions : {b : Bool} (pre post : Eqs) (s : ℕ) (ts us : Terms) → arity ts ≡ arity us
      → Step kind (state b (pre ++ ((fun s ts ≈ fun s us) ∷ post))) (state b (pre ++ (arguments ts us ++ post)))
  equal_constants : {b : Bool} (pre post : Eqs) (f v : ℕ)
      → Step kind (state b (pre ++ ((con f v ≈ con f v) ∷ post))) (state b (pre ++ post))
  unequal_constants : {b : Bool} (pre post : Eqs) (f v g w : ℕ) → con f v ≢ con g w → kind f v ≡ kind g w
      → Step kind (state b (pre ++ ((con f v ≈ con g w) ∷ post))) (state Bool.false (pre ++ post))
  same_variable : {b : Bool} (pre post : Eqs) (x : ℕ)
      → Step kind (state b (pre ++ ((var x ≈ var x) ∷ post))) (state b (pre ++ post))
  replacement : {b : Bool} (pre post : Eqs) {e : Equation} {x : ℕ} {t : Term} → Against x t e → count x t ≡ 0 → 1 ≤ count_in x (pre ++ post)
      → Step kind (state b (pre ++ (e ∷ post))) (state b (replaces x t pre ++ (e ∷ replaces x t post)))

-- The rules that make it wrong.
pub data Clash (kind : Signature) : State → Type 0 where
  other_functions : {b : Bool} (pre post : Eqs) (s r : ℕ) (ts us : Terms) → ¬ ((s ≡ r) × (arity ts ≡ arity us))
      → Clash kind (state b (pre ++ ((fun s ts ≈ fun r us) ∷ post)))
  two_kinds : {b : Bool} (pre post : Eqs) (f v g w : ℕ) → kind f v ≢ kind g w
      → Clash kind (state b (pre ++ ((con f v ≈ con g w) ∷ post)))
  constant_function : {b : Bool} (pre post : Eqs) (f v s : ℕ) (ts : Terms)
      → Clash kind (state b (pre ++ ((con f v ≈ fun s ts) ∷ post)))
  function_constant : {b : Bool} (pre post : Eqs) (f v s : ℕ) (ts : Terms)
      → Clash kind (state b (pre ++ ((fun s ts ≈ con f v) ∷ post)))
  inside_itself : {b : Bool} (pre post : Eqs) {e : Equation} {x : ℕ} {t : Term} → Against x t e → t ≢ var x → 1 ≤ count x t
      → Clash kind (state b (pre ++ (e ∷ post)))

-- Any number of steps.
pub data Run (kind : Signature) : State → State → Type 0 where
  stop : {s : State} → Run kind s s
  step : {s s' s'' : State} → Step kind s s' → Run kind s' s'' → Run kind s s''

-- No rule applies.
pub record Final (kind : Signature) (s : State) : Type 0 where
  pub no_step : (s' : State) → ¬ Step kind s s'
  pub no_clash : ¬ Clash kind s

pub data Outcome : Type 0 where
  solved false wrong : Outcome

-- What a run that ends here tells.
pub data Ends (kind : Signature) : State → Outcome → Type 0 where
  at_clash : {s : State} → Clash kind s → Ends kind s wrong
  at_true : {E : Eqs} → Final kind (state Bool.true E) → Ends kind (state Bool.true E) solved
  at_false : {E : Eqs} → Final kind (state Bool.false E) → Ends kind (state Bool.false E) false

-- Some order of the rules takes E, with the flag true, to this outcome.
pub record ComesTo (kind : Signature) (E : Eqs) (o : Outcome) : Type 0 where
  pub last : State
  pub run : Run kind (state Bool.true E) last
  pub ends : Ends kind last o

-- The assignment that final equations show: X against t gives X the term t.
abbrev pub shown : Term → Term → Subst → Subst
shown (var x) t θ = set x t θ
shown (con f v) (var x) θ = set x (con f v) θ
shown (con f v) (con g w) θ = θ
shown (con f v) (fun r us) θ = θ
shown (fun s ts) (var x) θ = set x (fun s ts) θ
shown (fun s ts) (con g w) θ = θ
shown (fun s ts) (fun r us) θ = θ

abbrev pub solution : Eqs → Subst
solution [] = var
solution (e ∷ E) = shown e.left e.right (solution E)

-- What the outcomes mean: solved, that some assignment of terms makes E alike; wrong, that no assignment of kinds fits E; false, neither.
abbrev pub Means : Signature → Eqs → Outcome → Type 0
Means kind E solved = (θ : Subst) × Unifies θ E
Means kind E wrong = ¬ ((κ : ℕ → KTerm) × Fits kind κ E)
Means kind E false = ((κ : ℕ → KTerm) × Fits kind κ E) × (¬ ((θ : Subst) × Unifies θ E))

-- What reading the variables of E gives: a most general assignment in which, of variables tied together and otherwise free, the
-- lowest stands for all. So a variable y that stands in any reading stands for itself, and for no variable below it.
pub record Reads (θ : Subst) (E : Eqs) : Type 0 where
  pub general : MostGeneral θ E
  pub lowest : (x y : ℕ) → 1 ≤ count y (θ x) → (θ y ≡ var y) × ((z : ℕ) → θ z ≡ var y → y ≤ z)

-- Whatever the order of the rules.
pub record InEveryOrder (kind : Signature) (E : Eqs) : Type 0 where
  -- it ends
  pub ends : Acc (λ s' s. Step kind s s') (state Bool.true E)
  -- with one and the same outcome
  pub comes_to_one : (o : Outcome) × ComesTo kind E o × ((p : Outcome) → ComesTo kind E p → p ≡ o)
  -- which is the one that has its meaning
  pub comes_when : (o : Outcome) → ComesTo kind E o ↔ Means kind E o
  -- when solved, the last equations show a most general assignment of E
  pub shows : (F : Eqs) → Run kind (state Bool.true E) (state Bool.true F) → Final kind (state Bool.true F) → MostGeneral (solution F) E
  -- and there is one reading of E
  pub reads : ComesTo kind E solved → (θ : Subst) × Reads θ E × ((η : Subst) → Reads η E → (x : ℕ) → η x ≡ θ x)
  -- further equations come to the same after E and after what a run has made of it with its flag true
  pub goes_on : (F G : Eqs) → Run kind (state Bool.true E) (state Bool.true F) → (o : Outcome) → ComesTo kind (E ++ G) o ↔ ComesTo kind (F ++ G) o

abbrev pub EveryOrder : Type 0
EveryOrder = (kind : Signature) (E : Eqs) → InEveryOrder kind E
