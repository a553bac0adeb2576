use Rattle.std.specs.Prelude.{◌≡◌, ℕ, ◌+◌, ◌-◌, ◌<◌, ◌≤◌, Bool, true, false, ◌≢◌, List, [], ◌∷◌}
use Rattle.graphs.specs.Terms.{Term, var, con, fun, KTerm, base, kfun, Subst, apply, kinds, pack, kpack, ksize}
use Rattle.graphs.specs.Graph.{Shape, free, atom, app, Graph, Algebra, Each, Pair, find, Values, Stacked, Sound, solution, Solves}

abbrev pub term_algebra : Algebra
term_algebra = record { T = Term; atom_t = con; app_t = λ s ts. fun s (pack ts) }

abbrev pub kind_algebra : (ℕ → ℕ → ℕ) → Algebra
kind_algebra kind = record { T = KTerm; atom_t = λ f v. base (kind f v); app_t = λ s ts. kfun s (kpack ts) }

-- the nodes below are places of cells, and variable v is node arena + v
abbrev pub arena : ℕ
arena = 1568

-- a node whose value depends on variables alone
abbrev pub Live : ℕ → Graph → ℕ → Type 0
Live cap g n = g n ≡ free → cap ≤ n

-- arguments stand after their symbol, and from cap on stand the variables
pub record Forward (cap : ℕ) (g : Graph) : Type 0 where
  pub variables : (n : ℕ) → cap ≤ n → g n ≡ free
  pub arguments : (p s : ℕ) (ks : List ℕ) → g p ≡ app s ks → Each (λ k. (p < k) × Live cap g k) ks

abbrev pub AllLive : ℕ → Graph → List Pair → Type 0
AllLive cap g [] = Unit {0}
AllLive cap g (p ∷ ps) = Live cap g p.left × Live cap g p.right × AllLive cap g ps

abbrev pub same_node : ℕ → ℕ
same_node n = n

-- the value of a node where variable v, which is node cap + v, has the value θ v
abbrev pub value : (A : Algebra) → ℕ → Graph → (ℕ → A.T) → ℕ → A.T
value A cap g θ = solution A (λ n. θ (n - cap)) g same_node (λ n. cap - n)

-- the term at a node
abbrev pub decode : ℕ → Graph → ℕ → Term
decode cap g = value term_algebra cap g var

abbrev pub Unifies : ℕ → Graph → Subst → List Pair → Type 0
Unifies cap g θ [] = Unit {0}
Unifies cap g θ (p ∷ ps) = (apply θ (decode cap g p.left) ≡ apply θ (decode cap g p.right)) × Unifies cap g θ ps

abbrev pub Fits : (ℕ → ℕ → ℕ) → ℕ → Graph → (ℕ → KTerm) → List Pair → Type 0
Fits kind cap g κ [] = Unit {0}
Fits kind cap g κ (p ∷ ps) = (kinds kind κ (decode cap g p.left) ≡ kinds kind κ (decode cap g p.right)) × Fits kind cap g κ ps

-- the solved form read off the links
abbrev pub answer : ℕ → Graph → (ℕ → ℕ) → (ℕ → ℕ) → Subst
answer cap g up rank v = solution term_algebra (λ n. var (n - cap)) g up rank (cap + v)

pub record MostGeneral (cap : ℕ) (g : Graph) (E : List Pair) (θ : Subst) : Type 0 where
  pub unifies : Unifies cap g θ E
  pub general : (θ' : Subst) → Unifies cap g θ' E → (v : ℕ) → θ' v ≡ apply θ' (θ v)

-- no kinds fit the equations
abbrev pub NoKinds : (ℕ → ℕ → ℕ) → ℕ → Graph → List Pair → Type 0
NoKinds kind cap g E = (κ : ℕ → KTerm) → ¬ Fits kind cap g κ E

-- kinds fit, and no terms do
pub record KindsOnly (kind : ℕ → ℕ → ℕ) (cap : ℕ) (g : Graph) (E : List Pair) : Type 0 where
  pub fits : (κ : ℕ → KTerm) × Fits kind cap g κ E
  pub none : (θ : Subst) → ¬ Unifies cap g θ E

-- What every turn of the loop keeps: live nodes are linked to live nodes, a place without a cell is a root, and links and stacked pairs
-- stand for the equations, of kinds always, of terms while the flag stands.
pub record Going (kind : ℕ → ℕ → ℕ) (g : Graph) (E : List Pair) (flag : Bool) (up : ℕ → ℕ) (st : List Pair) : Type 0 where
  pub sound : Sound g up
  pub tied : (k : ℕ) → Live arena g k → Live arena g (up k)
  pub bare : (k : ℕ) → g k ≡ free → k < arena → up k ≡ k
  pub on_kinds : Solves (kind_algebra kind) g (λ ρ. Stacked (kind_algebra kind) ρ E) up st
  pub on_terms : flag ≡ true → Solves term_algebra g (λ ρ. Stacked term_algebra ρ E) up st
  pub dead : flag ≡ false → (ρ : ℕ → Term) → Values term_algebra g ρ → ¬ Stacked term_algebra ρ E

-- The search for a cycle. A root application has number 0 before its visit, 1 during it, and its finishing number, from 3 on, after it; other roots count as 2.
abbrev pub number_of : Shape → ℕ → ℕ
number_of free x = 2
number_of (atom f v) x = 2
number_of (app s ks) x = x

abbrev pub number : Graph → (ℕ → ℕ) → ℕ → ℕ
number g order n = number_of (g n) (order n)

-- an argument whose root is finished before x
abbrev pub Before : Graph → (ℕ → ℕ) → (ℕ → ℕ) → ℕ → ℕ → Type 0
Before g up order x k = (2 ≤ number g order (find up k)) × (number g order (find up k) < x)

abbrev pub Visited : Graph → (ℕ → ℕ) → (ℕ → ℕ) → Type 0
Visited g up order = (r s : ℕ) (ks : List ℕ) → g r ≡ app s ks → 3 ≤ order r → Each (Before g up order (order r)) ks

-- whatever fits gives every open root a larger kind term than r
abbrev pub Inside : (kind : ℕ → ℕ → ℕ) → Graph → (ℕ → ℕ) → (ℕ → ℕ) → ℕ → Type 0
Inside kind g up order r = (ρ : ℕ → KTerm) → Values (kind_algebra kind) g ρ → ((n : ℕ) → ρ n ≡ ρ (up n)) → (o : ℕ) → order o ≡ 1 → ksize (ρ r) < ksize (ρ o)

-- g' has all that g has, and what it has besides are roots
pub record Grows (g g' : Graph) (up : ℕ → ℕ) : Type 0 where
  pub kept : (n : ℕ) → g n ≢ free → g' n ≡ g n
  pub fresh : (n : ℕ) → g n ≡ free → g' n ≢ free → up n ≡ n
