-- Links as they are made and taken back.
use Rattle.std.proofs.Common.{◌≡◌, ℕ, zero, suc, ◌+◌, ◌-◌, ◌<◌, ◌≤◌, ◌≢◌, List, ◌∷◌, [], ◌++◌, length, get_or, take, drop, min, set, sym, refl, ap, ◌∙◌, subst, arith}
use native.Mathlib.Decide.{ℕ_discrete, dec_le}
use Rattle.std.proofs.lemmas.List.{length-drop, take-append-le, take_all, set_comm, get_or_default, drop_all}
use Rattle.std.proofs.Math.Nat.{min-eq_left, min_comm}
use Rattle.std.specs.List.{range_with_len}
use Rattle.graphs.specs.Links.{up_of, Down, weight, ones, roots, restore}
use Rattle.graphs.proofs.Lists.{restore_down, restore_weight, restore_length, weight_length, weight_root, set_linked}
use Rattle.graphs.proofs.Wholes.{roots_down, roots_length}

-- a vector that was lent as a slice holds what the slice holds
pub refill : {X : Type 0} (n : ℕ) (ws xs : List X) → n ≡ length ws → take n (ws ++ xs) ≡ ws
refill n ws xs e = take-append-le n ws xs (omega arith) ∙ take_all n ws (omega arith)

pub range_roots : (i n : ℕ) → range_with_len i n ≡ roots i n
range_roots i zero = refl
range_roots i (suc n) = let z : i + 1 ≡ suc i = omega arith in ap (λ k. i ∷ range_with_len k n) z ∙ ap (λ (xs : List ℕ). i ∷ xs) (range_roots (suc i) n)

-- an element that is read is the node's link
pub read_up : (l : List ℕ) (k x : ℕ) → x ≡ get_or l k x → k < length l → x ≡ up_of l k
read_up l k x e h = e ∙ get_or_default l k x k h

-- the links of every node to itself
pub record Fresh (l : List ℕ) : Type 0 where
  pub length : length l ≡ 2624
  pub down : Down l
  pub light : weight ones 0 l ≤ 2624

pub fresh : (l : List ℕ) → l ≡ roots 0 2624 → Fresh l
fresh l e =
    let w = weight_length 0 l in let n = ap length e ∙ roots_length 0 2624 in
    record { length = n; down = λ k. subst (λ m. up_of m k ≤ k) (sym e) (roots_down 2624 k); light = omega arith }

-- links that are taken back
pub record Restored (l t : List ℕ) (to : ℕ) (l' : List ℕ) (n m : ℕ) : Type 0 where
  pub down : Down l'
  pub paper : weight ones 0 l' + m ≤ 2624

pub restored : (l t : List ℕ) (to : ℕ) (l' : List ℕ) (n m : ℕ) → Down l → weight ones 0 l + n ≤ 2624 → n ≡ length t → m + (n - to) ≡ n → l' ≡ restore l (drop to t) → Restored l t to l' n m
restored l t to l' n m down paper ne me e =
    let w = restore_weight l (drop to t) in let d = length-drop to t in let x = ap (weight ones 0) e in
    record { down = λ k. subst (λ x. up_of x k ≤ k) (sym e) (restore_down l (drop to t) down k); paper = omega arith }

-- the nodes past the first `to`
pub undone : (n to : ℕ) (l t l₁ t₁ l₂ xs : List ℕ) (k from : ℕ) → n ≡ length l → l₁ ≡ l → t₁ ≡ t → k ≡ length t₁ → from ≡ min to k → l₂ ≡ restore l₁ (take (length t₁ - from) (drop from t₁))
    → take n (l₂ ++ xs) ≡ restore l (drop to t)
undone n to l t l₁ t₁ l₂ xs k from ne le te ke fe e =
    let d = length-drop from t₁ in
    let f : l₂ ≡ restore l (drop to t) = e ∙ (ap (restore l₁) (take_all (length t₁ - from) (drop from t₁) (omega arith) ∙ past) ∙ (ap (λ x. restore x (drop to t₁)) le ∙ ap (λ x. restore l (drop to x)) te)) in
    let g = ap length f ∙ restore_length l (drop to t) in
    refill n l₂ xs (ne ∙ sym g) ∙ f
  where
    past : drop from t₁ ≡ drop to t₁
    past = go (dec_le to k)
      where
        go : Dec (to ≤ k) → drop from t₁ ≡ drop to t₁
        go (yes h) = ap (λ i. drop i t₁) (fe ∙ min-eq_left h)
        go (no h) = let m = fe ∙ (min_comm to k ∙ min-eq_left {n = k} {m = to} (omega arith)) in drop_all from t₁ (omega arith) ∙ sym (drop_all to t₁ (omega arith))

-- roots may be made in any order
set_both : (l : List ℕ) (a b : ℕ) → set (set l a a) b b ≡ set (set l b b) a a
set_both l a b = go (ℕ_discrete a b)
  where
    go : Dec (a ≡ b) → set (set l a a) b b ≡ set (set l b b) a a
    go (yes e) = rw e refl
    go (no n) = set_comm l a b a b n

pub restore_first : (l t : List ℕ) (r : ℕ) → restore (set l r r) t ≡ restore l (r ∷ t)
restore_first l [] r = refl
restore_first l (x ∷ t) r = ap (λ m. set m x x) (restore_first l t r) ∙ set_both (restore l t) r x

set_down : (l : List ℕ) (r q : ℕ) → r < length l → q < r → Down l → Down (set l r q)
set_down l r q inside above down k = go (ℕ_discrete k r)
  where
    link : (k : ℕ) → (k ≢ r) → up_of (set l r q) k ≡ up_of l k
    link = (set_linked l r q inside).else

    go : Dec (k ≡ r) → up_of (set l r q) k ≤ k
    go (yes i) = let e = ap (up_of (set l r q)) i ∙ (set_linked l r q inside).here in omega arith
    go (no i) = let e = link k i in let d = down k in omega arith

-- a link leaves the links as they have to be
pub record Added (l : List ℕ) (r q n m : ℕ) : Type 0 where
  pub down : Down (set l r q)
  pub paper : weight ones 0 (set l r q) + m ≤ 2624

pub added : (l : List ℕ) (r q n m : ℕ) → r < length l → up_of l r ≡ r → q < r → Down l → weight ones 0 l + n ≤ 2624 → m ≡ n + 1 → Added l r q n m
added l r q n m inside top above down paper e = let w = weight_root ones l r q inside top above in record { down = set_down l r q inside above down; paper = omega arith }
