use Rattle.std.specs.Prelude.{◌≡◌, ℕ, ◌+◌, ◌-◌, ◌<◌, ◌≤◌, Bool, true, false, ◌≢◌, ◌⊎◌, List, [], ◌∷◌, length, drop, Some, None, Option, ◌==◌, slice_index}
use Rattle.terms.specs.declared.Cell.{Cell}
use Rattle.graphs.specs.Terms.{KTerm}
use Rattle.graphs.specs.Graph.{Values, find, Acyclic}
use Rattle.graphs.specs.Links.{up_of, counted, restore}
use Rattle.graphs.specs.Meaning.{kind_algebra, number, Visited, Inside}
use Rattle.graphs.specs.Cells.{node_at, graph, arguments}

abbrev pub order_of : List ℕ → ℕ → ℕ
order_of o n = slice_index o n

abbrev pub zeros : List ℕ → ℕ
zeros [] = 0
zeros (x ∷ xs) = counted (x == 0) 1 + zeros xs

-- only roots that were not visited have changed, and they are finished
abbrev pub Progress : List ℕ → List ℕ → Type 0
Progress o o' = (n : ℕ) → (slice_index o' n ≡ slice_index o n) ⊎ ((slice_index o n ≡ 0) × (3 ≤ slice_index o' n))

pub record Searching (cs : List Cell) (l o : List ℕ) (clock : ℕ) : Type 0 where
  pub small : length cs ≤ 1568
  pub down : (n : ℕ) → up_of l n ≤ n
  pub named : (p : ℕ) → node_at cs p < length l
  pub wide : length cs ≤ length o
  pub visited : Visited (graph cs) (up_of l) (order_of o)
  pub early : 3 ≤ clock
  pub later : (n : ℕ) → slice_index o n < clock
  pub count : clock + zeros o ≤ 60000

-- no valuation of kinds respects the links
abbrev pub Cyclic : List Cell → List ℕ → Type 0
Cyclic cs l = (kind : ℕ → ℕ → ℕ) (ρ : ℕ → KTerm) → Values (kind_algebra kind) (graph cs) ρ → ((n : ℕ) → ρ n ≡ ρ (up_of l n)) → ⊥

pub record Finished (cs : List Cell) (l o : List ℕ) (clock r : ℕ) (o' : List ℕ) (c : ℕ) : Type 0 where
  pub state : Searching cs l o' c
  pub progress : Progress o o'
  pub done : 3 ≤ slice_index o' r
  pub fewer : zeros o' < zeros o
  pub within : c + zeros o' ≤ clock + zeros o

abbrev pub Visits : List Cell → List ℕ → List ℕ → ℕ → ℕ → List ℕ → Option ℕ → Type 0
Visits cs l o clock r o' (Some c) = Finished cs l o clock r o' c
Visits cs l o clock r o' None = Cyclic cs l

-- r is open, and its first i arguments are finished; place is where the next one stands
pub record Amid (cs : List Cell) (l o₁ : List ℕ) (total r n : ℕ) (o : List ℕ) (time place i : ℕ) : Type 0 where
  pub state : Searching cs l o time
  pub progress : Progress o₁ o
  pub past : (j : ℕ) → j < i → 2 ≤ number (graph cs) (order_of o) (find (up_of l) (slice_index (arguments cs n (r + 1)) j))
  pub rest : arguments cs (n - i) place ≡ drop i (arguments cs n (r + 1))
  pub near : place ≤ 1568
  pub fewer : zeros o ≤ zeros o₁
  pub within : time + zeros o ≤ total

-- whatever the kinds are, what fits gives every open root a larger kind term than r
abbrev pub Enclosed : List Cell → List ℕ → List ℕ → ℕ → Type 0
Enclosed cs l o r = (kind : ℕ → ℕ → ℕ) → Inside kind (graph cs) (up_of l) (order_of o) r

-- the roots of the first n nodes of a list are finished or no functions, and none is open
pub record SweepingFrom (cs : List Cell) (l nodes o : List ℕ) (time n : ℕ) : Type 0 where
  pub state : Searching cs l o time
  pub closed : (k : ℕ) → slice_index o k ≢ 1
  pub solid : (k : ℕ) → slice_index o k ≢ 2
  pub done : (k : ℕ) → k < n → slice_index nodes k < length l → 2 ≤ number (graph cs) (order_of o) (find (up_of l) (slice_index nodes k))

-- whether no application contains itself, if none did before these nodes were linked
abbrev pub StillAcyclic : List Cell → List ℕ → List ℕ → Bool → Type 0
StillAcyclic cs l nodes true = Acyclic (graph cs) (up_of (restore l nodes)) → Acyclic (graph cs) (up_of l)
StillAcyclic cs l nodes false = Cyclic cs l
