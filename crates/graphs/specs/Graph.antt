use Rattle.std.specs.Prelude.{◌≡◌, ℕ, zero, suc, ◌<◌, ◌≤◌, ◌≢◌, ◌⊎◌, ◌↔◌, List, [], ◌∷◌, map}
pub use Rattle.graphs.specs.declared.Pair.{Pair}

-- What stands at a node: nothing (a variable, or no cell), a constant (form, value), or a symbol and its argument nodes.
pub data Shape : Type 0 where
  free : Shape
  atom : ℕ → ℕ → Shape
  app : ℕ → List ℕ → Shape

abbrev pub Graph : Type 0
Graph = ℕ → Shape

-- Values that nodes can take: terms, and kind terms.
pub record Algebra : Type 1 where
  pub T : Type 0
  pub atom_t : ℕ → ℕ → T
  pub app_t : ℕ → List T → T

-- P of each element
abbrev pub Each : (ℕ → Type 0) → List ℕ → Type 0
Each P [] = Unit {0}
Each P (x ∷ xs) = P x × Each P xs

-- two argument lists as pairs, the first pair first
abbrev pub pairs : List ℕ → List ℕ → List Pair
pairs [] ys = []
pairs (x ∷ xs) [] = []
pairs (x ∷ xs) (y ∷ ys) = record { left = x; right = y } ∷ pairs xs ys

-- the pairs of two argument lists, stacked one after another
abbrev pub onto : List ℕ → List ℕ → List Pair → List Pair
onto [] ls st = st
onto (k ∷ ks) [] st = st
onto (k ∷ ks) (l ∷ ls) st = onto ks ls (record { left = k; right = l } ∷ st)

-- k steps along the links
abbrev pub walk : (ℕ → ℕ) → ℕ → ℕ → ℕ
walk up zero n = n
walk up (suc k) n = walk up k (up n)

-- the root of a node: links never go up, so n steps suffice
abbrev pub find : (ℕ → ℕ) → ℕ → ℕ
find up n = walk up n n

module _ (A : Algebra) where
  open A use {T, atom_t, app_t}

  -- the constants have their own values
  abbrev pub Atoms : Graph → (ℕ → T) → Type 0
  Atoms g ρ = (n f v : ℕ) → g n ≡ atom f v → ρ n ≡ atom_t f v

  -- each application has the value that its arguments give it
  abbrev pub Apps : Graph → (ℕ → T) → Type 0
  Apps g ρ = (n s : ℕ) (ks : List ℕ) → g n ≡ app s ks → ρ n ≡ app_t s (map ρ ks)

  -- ρ is the value of every node under one assignment
  pub record Values (g : Graph) (ρ : ℕ → T) : Type 0 where
    pub atoms : Atoms g ρ
    pub apps : Apps g ρ

  abbrev pub Stacked : (ℕ → T) → List Pair → Type 0
  Stacked ρ [] = Unit {0}
  Stacked ρ (p ∷ ps) = (ρ p.left ≡ ρ p.right) × Stacked ρ ps

  -- each node's value is its link's, and each stacked pair's values are equal
  pub record Sat (up : ℕ → ℕ) (st : List Pair) (ρ : ℕ → T) : Type 0 where
    pub linked : (n : ℕ) → ρ n ≡ ρ (up n)
    pub stacked : Stacked ρ st

  -- an application's link has arguments of the same values, once links and stacked pairs are respected
  abbrev pub Closed : Graph → (ℕ → ℕ) → List Pair → Type 0
  Closed g up st = (n s : ℕ) (ks ls : List ℕ) → g n ≡ app s ks → g (up n) ≡ app s ls
      → (ρ : ℕ → T) → Atoms g ρ → Sat up st ρ → map ρ ks ≡ map ρ ls

-- the shape of the links alone
pub record Sound (g : Graph) (up : ℕ → ℕ) : Type 0 where
  pub down : (n : ℕ) → up n ≤ n
  pub atom_root : (n f v : ℕ) → g n ≡ atom f v → up n ≡ n
  pub app_link : (n s : ℕ) (ks : List ℕ) → g n ≡ app s ks → (ls : List ℕ) × (g (up n) ≡ app s ls)

-- up' is up with r linked to s
pub record Linked (up : ℕ → ℕ) (r s : ℕ) (up' : ℕ → ℕ) : Type 0 where
  pub here : up' r ≡ s
  pub else : (n : ℕ) → n ≢ r → up' n ≡ up n

-- numbers that fall from each root application to the roots of its arguments
abbrev pub Ordered : Graph → (ℕ → ℕ) → (ℕ → ℕ) → Type 0
Ordered g up rank = (r s : ℕ) (ks : List ℕ) → up r ≡ r → g r ≡ app s ks → Each (λ k. rank (find up k) < rank r) ks

-- no application contains itself
abbrev pub Acyclic : Graph → (ℕ → ℕ) → Type 0
Acyclic g up = (rank : ℕ → ℕ) × Ordered g up rank

-- The solved form: each root's value by its shape, its arguments by their roots, a variable's by h; the rank bounds the depth.
module _ (A : Algebra) where
  open A use {T, atom_t, app_t}

  abbrev pub put : Shape → T → (ℕ → T) → T
  put free d h = d
  put (atom f v) d h = atom_t f v
  put (app s ks) d h = app_t s (map h ks)

  abbrev pub build : (ℕ → T) → Graph → (ℕ → ℕ) → ℕ → ℕ → T
  build h g up zero n = h n
  build h g up (suc k) n = put (g n) (h n) (λ m. build h g up k (find up m))

  abbrev pub solution : (ℕ → T) → Graph → (ℕ → ℕ) → (ℕ → ℕ) → ℕ → T
  solution h g up rank n = build h g up (suc (rank (find up n))) (find up n)

  -- the links and the stack stand for the condition P, and are closed under arguments
  pub record Solves (g : Graph) (P : (ℕ → T) → Type 0) (up : ℕ → ℕ) (st : List Pair) : Type 0 where
    pub closed : Closed A g up st
    pub same : (ρ : ℕ → T) → Values A g ρ → Sat A up st ρ ↔ P ρ

-- r and q are the roots of the two nodes of p, in either order
abbrev pub Tie : (ℕ → ℕ) → Pair → ℕ → ℕ → Type 0
Tie up p r q = ((r ≡ find up p.left) × (q ≡ find up p.right)) ⊎ ((r ≡ find up p.right) × (q ≡ find up p.left))
