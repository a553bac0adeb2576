use Rattle.std.proofs.Common.{◌≡◌, ℕ, zero, suc, ◌+◌, ◌-◌, ◌*◌, ◌<◌, ◌≤◌, Bool, true, false, eqb, ◌≢◌, ◌⊎◌, List, [], ◌∷◌, ◌++◌, length, get_or, take, drop, set, sym, refl, ap, ◌∙◌, subst, inl, inr, add-zero, arith, eq-eqb, ne_eqb}
use native.Mathlib.Decide.{dec_le, dec_lt, ℕ_discrete}
use Rattle.std.proofs.lemmas.List.{set-set, set-get_or, get_or-set_same, get_or-set_other, get_or_default, get_or_past, length-set, take_more, take-append-le, drop-append-le, length-append, length-take-le, drop_all, take_all, set_past, take-take, take-append-drop}
use Rattle.graphs.specs.Graph.{Linked}
use Rattle.graphs.specs.Links.{up_of, counted, weight, restore, ones, Logged}

pub set_linked : (l : List ℕ) (r q : ℕ) → r < length l → Linked (up_of l) r q (up_of (set l r q))
set_linked l r q h = record {
  here = get_or-set_same l r q r h;
  else = λ n i. get_or-set_other l r n q n i;
}

-- a link is taken back
pub restore_last : (l t : List ℕ) (r : ℕ) → restore l (t ++ (r ∷ [])) ≡ restore (set l r r) t
restore_last l [] r = refl
restore_last l (x ∷ t) r = ap (λ m. set m x x) (restore_last l t r)

pub restore_link : (l t : List ℕ) (r q : ℕ) → up_of l r ≡ r → restore (set l r q) (t ++ (r ∷ [])) ≡ restore l t
restore_link l t r q root =
    restore_last (set l r q) t r ∙ ap (λ m. restore m t) (set-set l r q r ∙ (ap (set l r) (sym root) ∙ set-get_or l r r))

-- a link takes the weight of one root away
pub weight_link : (w : ℕ → ℕ) (i : ℕ) (l : List ℕ) (k q : ℕ) → k < length l → get_or l k (i + k) ≡ i + k → q ≢ i + k → weight w i l ≡ w (i + k) + weight w i (set l k q)
weight_link w i [] k q h root ne = absurd (omega arith)
weight_link w i (x ∷ xs) zero q h root ne =
    let e : x ≡ i = root ∙ add-zero i in
    let a : eqb x i ≡ true = eq-eqb x i e in
    let b : eqb q i ≡ false = ne_eqb q i (λ z. ne (z ∙ sym (add-zero i))) in
    let s = ap w (add-zero i) in
    rw (a, b) (omega arith)
weight_link w i (x ∷ xs) (suc k) q h root ne =
    let j : i + suc k ≡ suc i + k = omega arith in
    let ih = weight_link w (suc i) xs k q (omega arith) (subst (λ m. get_or xs k m ≡ m) j root) (λ z. ne (z ∙ sym j)) in
    let s = ap w j in
    omega arith

-- with weights of at most b below cap and none from there on
pub weight_bound : (w : ℕ → ℕ) (b cap : ℕ) → ((n : ℕ) → w n ≤ b) → ((n : ℕ) → cap ≤ n → w n ≡ 0) → (i : ℕ) (l : List ℕ) → weight w i l ≤ b * (cap - i)
weight_bound w b cap small none i [] = omega arith
weight_bound w b cap small none i (x ∷ xs) = go (weight_bound w b cap small none (suc i) xs) (dec_le cap i)
  where
    here : (t : Bool) → counted t (w i) ≤ w i
    here true = omega arith
    here false = omega arith

    go : weight w (suc i) xs ≤ b * (cap - suc i) → Dec (cap ≤ i) → weight w i (x ∷ xs) ≤ b * (cap - i)
    go ih (yes l) = let z = none i l in let h = here (eqb x i) in let e : cap - suc i ≡ 0 = omega arith in let f : cap - i ≡ 0 = omega arith in
        let ih' : weight w (suc i) xs ≤ b * 0 = subst (λ m. weight w (suc i) xs ≤ b * m) e ih in rw f (omega arith)
    go ih (no l) = let s = small i in let h = here (eqb x i) in
        let e : cap - i ≡ suc (cap - suc i) = omega arith in rw e (omega arith)

pub up_read : (l : List ℕ) (k : ℕ) → k < length l → get_or l k 0 ≡ up_of l k
up_read l k h = get_or_default l k 0 k h

pub weight_root : (w : ℕ → ℕ) (l : List ℕ) (r q : ℕ) → r < length l → up_of l r ≡ r → q < r → weight w 0 l ≡ w r + weight w 0 (set l r q)
weight_root w l r q h root b =
    let z : 0 + r ≡ r = omega arith in
    subst (λ m. weight w 0 l ≡ w m + weight w 0 (set l r q)) z
    (weight_link w 0 l r q h (subst (λ m. get_or l r m ≡ m) (sym z) root) (λ e. let f = e ∙ z in omega arith))

pub restore_append : (l a b : List ℕ) → restore l (a ++ b) ≡ restore (restore l b) a
restore_append l [] b = refl
restore_append l (x ∷ a) b = ap (λ m. set m x x) (restore_append l a b)

pub logged_none : (l t : List ℕ) → Logged l t l t
logged_none l t = record {
  grown = omega arith;
  kept = take_all (length t) t (omega arith);
  back = ap (restore l) (drop_all (length t) t (omega arith));
  balance = refl;
}

pub logged_link : (l t : List ℕ) (r q : ℕ) → r < length l → up_of l r ≡ r → q < r → Logged l t (set l r q) (t ++ (r ∷ []))
logged_link l t r q inside top above =
    let w = weight_root ones l r q inside top above in
    let k = length-append t (r ∷ []) in
    record {
      grown = omega arith;
      kept = take-append-le (length t) t (r ∷ []) (omega arith) ∙ take_all (length t) t (omega arith);
      back = ap (restore (set l r q)) (drop-append-le (length t) t (r ∷ []) (omega arith) ∙ ap (λ xs. xs ++ (r ∷ [])) (drop_all (length t) t (omega arith))) ∙ restore_link l [] r q top;
      balance = omega arith;
    }

-- a root to be linked has its place on the trail
pub logged_room : (l : List ℕ) (n m r q : ℕ) → weight ones 0 l + n ≤ m → r < length l → up_of l r ≡ r → q < r → n < m
logged_room l n m r q h inside top above = let w = weight_root ones l r q inside top above in omega arith

pub logged_trans : (l t l' t' l'' t'' : List ℕ) → Logged l t l' t' → Logged l' t' l'' t'' → Logged l t l'' t''
logged_trans l t l' t' l'' t'' a b =
    let ga = a.grown in let gb = b.grown in let ba = a.balance in let bb = b.balance in
    let all : t' ++ drop (length t') t'' ≡ t'' = ap (λ xs. xs ++ drop (length t') t'') (sym b.kept) ∙ take-append-drop (length t') t'' in
    let cut : drop (length t) t'' ≡ drop (length t) t' ++ drop (length t') t'' = ap (drop (length t)) (sym all) ∙ drop-append-le (length t) t' (drop (length t') t'') ga in
    record {
      grown = omega arith;
      kept = sym (take-take (length t) (length t') t'' ga) ∙ (ap (take (length t)) b.kept ∙ a.kept);
      back = ap (restore l'') cut ∙ (restore_append l'' (drop (length t) t') (drop (length t') t'')
          ∙ (ap (λ x. restore x (drop (length t) t')) b.back ∙ a.back));
      balance = omega arith;
    }

pub part_last : (t : List ℕ) (m k : ℕ) → m ≤ k → k < length t → drop m (take (k + 1) t) ≡ drop m (take k t) ++ (get_or t k 0 ∷ [])
part_last t m k h l =
    let n = length-take-le k t (omega arith) in
    ap (drop m) (take_more t k 0 l) ∙ drop-append-le m (take k t) (get_or t k 0 ∷ []) (omega arith)

-- one entry of the trail is taken back
pub undo_step : (l t : List ℕ) (to k : ℕ) (goal : List ℕ) → to < k → k ≤ length t → restore l (drop to (take k t)) ≡ goal
    → restore (set l (get_or t (k - 1) 0) (get_or t (k - 1) 0)) (drop to (take (k - 1) t)) ≡ goal
undo_step l t to k goal h f e =
    let z : k - 1 + 1 ≡ k = omega arith in
    let p = part_last t to (k - 1) (omega arith) (omega arith) in
    let x = get_or t (k - 1) 0 in
    sym (restore_last l (drop to (take (k - 1) t)) x) ∙ (ap (restore l) (sym p ∙ ap (λ m. drop to (take m t)) z) ∙ e)

pub undo_end : (l t : List ℕ) (to k : ℕ) (goal : List ℕ) → k ≤ to → k ≤ length t → restore l (drop to (take k t)) ≡ goal → l ≡ goal
undo_end l t to k goal h f e =
    let n = length-take-le k t f in
    ap (restore l) (sym (drop_all to (take k t) (omega arith))) ∙ e

pub set_outside : (l : List ℕ) (x : ℕ) → length l ≤ x → set l x x ≡ l
set_outside l x h = set_past l x x h

-- taking links back keeps them from going up, and gives at most one root for each entry
set_down : (l : List ℕ) (r : ℕ) → ((k : ℕ) → up_of l k ≤ k) → (k : ℕ) → up_of (set l r r) k ≤ k
set_down l r down k = go (ℕ_discrete k r) (dec_le (length l) r)
  where
    go : Dec (k ≡ r) → Dec (length l ≤ r) → up_of (set l r r) k ≤ k
    go d (yes h) = rw (set_past l r r h) (down k)
    go (yes i) (no h) = let e : up_of (set l r r) k ≡ r = ap (λ m. get_or (set l r r) m k) i ∙ get_or-set_same l r r k (omega arith) in omega arith
    go (no i) (no h) = let e = get_or-set_other l r k r k i in let d = down k in omega arith

pub restore_down : (l t : List ℕ) → ((k : ℕ) → up_of l k ≤ k) → (k : ℕ) → up_of (restore l t) k ≤ k
restore_down l [] down = down
restore_down l (r ∷ t) down = set_down (restore l t) r (restore_down l t down)

weight_set : (i : ℕ) (l : List ℕ) (k x : ℕ) → weight ones i (set l k x) ≤ 1 + weight ones i l
weight_set i [] k x = omega arith
weight_set i (y ∷ ys) zero x = let h = one (eqb x i) in omega arith
  where
    one : (t : Bool) → counted t 1 ≤ 1
    one true = omega arith
    one false = omega arith
weight_set i (y ∷ ys) (suc k) x = let h = weight_set (suc i) ys k x in omega arith

pub restore_weight : (l t : List ℕ) → weight ones 0 (restore l t) ≤ length t + weight ones 0 l
restore_weight l [] = omega arith
restore_weight l (r ∷ t) = let h = restore_weight l t in let s = weight_set 0 (restore l t) r r in omega arith

pub restore_length : (l t : List ℕ) → length (restore l t) ≡ length l
restore_length l [] = refl
restore_length l (r ∷ t) = length-set (restore l t) r r ∙ restore_length l t

pub weight_length : (i : ℕ) (l : List ℕ) → weight ones i l ≤ length l
weight_length i [] = omega arith
weight_length i (x ∷ xs) = let h = weight_length (suc i) xs in let o = one (eqb x i) in omega arith
  where
    one : (t : Bool) → counted t 1 ≤ 1
    one true = omega arith
    one false = omega arith

-- a link that is taken back is of a listed node
pub restore_member : (l t : List ℕ) (n : ℕ) → ((i : ℕ) × ((i < length t) × ((get_or t i 0 ≡ n) × (n < length l)))) ⊎ (up_of (restore l t) n ≡ up_of l n)
restore_member l [] n = inr refl
restore_member l (r ∷ t) n = go (ℕ_discrete n r) (dec_lt n (length l)) (restore_member l t n)
  where
    go : Dec (n ≡ r) → Dec (n < length l) → ((i : ℕ) × ((i < length t) × ((get_or t i 0 ≡ n) × (n < length l)))) ⊎ (up_of (restore l t) n ≡ up_of l n)
        → ((i : ℕ) × ((i < suc (length t)) × ((get_or (r ∷ t) i 0 ≡ n) × (n < length l)))) ⊎ (up_of (set (restore l t) r r) n ≡ up_of l n)
    go (yes e) (yes h) w = inl (0, (omega arith, (sym e, h)))
    go (yes e) (no h) w = inr (let k = restore_length l t in let j = length-set (restore l t) r r in
        get_or_past (set (restore l t) r r) n n (omega arith) ∙ sym (get_or_past l n n (omega arith)))
    go (no e) h (inl w) = inl (suc w.0, (let a = w.1.0 in omega arith, w.1.1))
    go (no e) h (inr i) = inr (get_or-set_other (restore l t) r n r n e ∙ i)
