use Rattle.std.proofs.Common.{◌≡◌, ℕ, ◌<◌, ◌≢◌, List, [], ◌∷◌, ◌++◌, map, length, sym, refl, ap, ◌∙◌, subst, inl, inr, arith}
use native.Mathlib.Decide.{ℕ_discrete}
use Rattle.graphs.specs.Graph.{free, app, Graph, Algebra, Each, Pair, pairs, onto, Atoms, Values, Stacked, Sat, Linked, Solves, Tie}
use Rattle.graphs.proofs.Walks.{walk_keeps}

-- what is asked of the values: applications are equal only part by part, and are no constants
pub record Laws (A : Algebra) : Type 0 where
  pub app_symbol : (s t : ℕ) (xs ys : List A.T) → A.app_t s xs ≡ A.app_t t ys → s ≡ t
  pub app_parts : (s t : ℕ) (xs ys : List A.T) → A.app_t s xs ≡ A.app_t t ys → xs ≡ ys
  pub app_atom : (s f v : ℕ) (xs : List A.T) → A.app_t s xs ≢ A.atom_t f v
  pub size : A.T → ℕ
  pub size_app : (ρ : ℕ → A.T) (s : ℕ) (ks : List ℕ) → Each (λ k. size (ρ k) < size (A.app_t s (map ρ ks))) ks

module _ (A : Algebra) where
  open A use {T, atom_t, app_t}

  pub stacked_append : (ρ : ℕ → T) (xs ys : List Pair) → Stacked A ρ xs → Stacked A ρ ys → Stacked A ρ (xs ++ ys)
  stacked_append ρ [] ys a b = b
  stacked_append ρ (x ∷ xs) ys a b = (a.0, stacked_append ρ xs ys a.1 b)

  pub stacked_left : (ρ : ℕ → T) (xs ys : List Pair) → Stacked A ρ (xs ++ ys) → Stacked A ρ xs
  stacked_left ρ [] ys a = tt
  stacked_left ρ (x ∷ xs) ys a = (a.0, stacked_left ρ xs ys a.1)

  pub stacked_right : (ρ : ℕ → T) (xs ys : List Pair) → Stacked A ρ (xs ++ ys) → Stacked A ρ ys
  stacked_right ρ [] ys a = a
  stacked_right ρ (x ∷ xs) ys a = stacked_right ρ xs ys a.1

  pub pairs_equal : (ρ : ℕ → T) (ks ls : List ℕ) → length ks ≡ length ls → Stacked A ρ (pairs ks ls) → map ρ ks ≡ map ρ ls
  pairs_equal ρ [] [] e a = refl
  pairs_equal ρ [] (y ∷ ys) e a = absurd (omega arith)
  pairs_equal ρ (x ∷ xs) [] e a = absurd (omega arith)
  pairs_equal ρ (x ∷ xs) (y ∷ ys) e a = let t = pairs_equal ρ xs ys (omega arith) a.1 in let p = a.0 in cc

  pub equal_pairs : (ρ : ℕ → T) (ks ls : List ℕ) → map ρ ks ≡ map ρ ls → Stacked A ρ (pairs ks ls)
  equal_pairs ρ [] ls e = tt
  equal_pairs ρ (x ∷ xs) [] e = tt
  equal_pairs ρ (x ∷ xs) (y ∷ ys) e = (cc, equal_pairs ρ xs ys (cc))

  pub tie_back : (up : ℕ → ℕ) (p : Pair) (r q : ℕ) → Tie up p r q → (ρ : ℕ → T) → ((n : ℕ) → ρ n ≡ ρ (up n)) → ρ r ≡ ρ q → ρ p.left ≡ ρ p.right
  tie_back up p r q (inl t) ρ l e =
      let a = walk_keeps up ρ l p.left p.left in let b = walk_keeps up ρ l p.right p.right in let t0 = t.0 in let t1 = t.1 in cc
  tie_back up p r q (inr t) ρ l e =
      let a = walk_keeps up ρ l p.left p.left in let b = walk_keeps up ρ l p.right p.right in let t0 = t.0 in let t1 = t.1 in cc

  pub tie_forth : (up : ℕ → ℕ) (p : Pair) (r q : ℕ) → Tie up p r q → (ρ : ℕ → T) → ((n : ℕ) → ρ n ≡ ρ (up n)) → ρ p.left ≡ ρ p.right → ρ r ≡ ρ q
  tie_forth up p r q (inl t) ρ l e =
      let a = walk_keeps up ρ l p.left p.left in let b = walk_keeps up ρ l p.right p.right in let t0 = t.0 in let t1 = t.1 in cc
  tie_forth up p r q (inr t) ρ l e =
      let a = walk_keeps up ρ l p.left p.left in let b = walk_keeps up ρ l p.right p.right in let t0 = t.0 in let t1 = t.1 in cc

  linked_back : (up : ℕ → ℕ) (r q : ℕ) (up' : ℕ → ℕ) → Linked up r q up' → up r ≡ r → (ρ : ℕ → T) → ((n : ℕ) → ρ n ≡ ρ (up' n)) → (n : ℕ) → ρ n ≡ ρ (up n)
  linked_back up r q up' k e ρ l n = go (ℕ_discrete n r)
    where
      go : Dec (n ≡ r) → ρ n ≡ ρ (up n)
      go (yes i) = cc
      go (no i) = let o = k.else n i in let m = l n in cc

  linked_forth : (up : ℕ → ℕ) (r q : ℕ) (up' : ℕ → ℕ) → Linked up r q up' → (ρ : ℕ → T) → ((n : ℕ) → ρ n ≡ ρ (up n)) → ρ r ≡ ρ q → (n : ℕ) → ρ n ≡ ρ (up' n)
  linked_forth up r q up' k ρ l e n = go (ℕ_discrete n r)
    where
      go : Dec (n ≡ r) → ρ n ≡ ρ (up' n)
      go (yes i) = let o = k.here in cc
      go (no i) = let o = k.else n i in let m = l n in cc

  -- pairs stacked one after another
  pub stacked_onto : (ρ : ℕ → T) (ks ls : List ℕ) (st : List Pair) → Stacked A ρ (pairs ks ls) → Stacked A ρ st → Stacked A ρ (onto ks ls st)
  stacked_onto ρ [] ls st a b = b
  stacked_onto ρ (k ∷ ks) [] st a b = b
  stacked_onto ρ (k ∷ ks) (l ∷ ls) st a b = stacked_onto ρ ks ls (record { left = k; right = l } ∷ st) a.1 (a.0, b)

  pub onto_stacked : (ρ : ℕ → T) (ks ls : List ℕ) (st : List Pair) → Stacked A ρ (onto ks ls st) → Stacked A ρ (pairs ks ls) × Stacked A ρ st
  onto_stacked ρ [] ls st a = (tt, a)
  onto_stacked ρ (k ∷ ks) [] st a = (tt, a)
  onto_stacked ρ (k ∷ ks) (l ∷ ls) st a = let w = onto_stacked ρ ks ls (record { left = k; right = l } ∷ st) a in ((w.1.0, w.0), w.1.1)

  module _ (g : Graph) (P : (ℕ → T) → Type 0) (up : ℕ → ℕ) (st : List Pair) (p : Pair) (solves : Solves A g P up (p ∷ st)) where
    -- the pair holds already: it is dropped
    pub drop_turn : ((ρ : ℕ → T) → Atoms A g ρ → ((n : ℕ) → ρ n ≡ ρ (up n)) → ρ p.left ≡ ρ p.right) → Solves A g P up st
    drop_turn holds = record {
      closed = λ n s ks ls a b ρ at sat. solves.closed n s ks ls a b ρ at (back ρ at sat);
      same = λ ρ val. (λ sat. (solves.same ρ val).0 (back ρ val.atoms sat), λ d. forth ρ ((solves.same ρ val).1 d));
    }
      where
        back : (ρ : ℕ → T) → Atoms A g ρ → Sat A up st ρ → Sat A up (p ∷ st) ρ
        back ρ at sat = record { linked = sat.linked; stacked = (holds ρ at sat.linked, sat.stacked) }

        forth : (ρ : ℕ → T) → Sat A up (p ∷ st) ρ → Sat A up st ρ
        forth ρ sat = record { linked = sat.linked; stacked = sat.stacked.1 }

    -- no valuation makes the two roots equal: nothing meets the condition
    pub clash_turn : (r q : ℕ) → Tie up p r q → ((ρ : ℕ → T) → Values A g ρ → ρ r ≢ ρ q) → (ρ : ℕ → T) → Values A g ρ → ¬ P ρ
    clash_turn r q tie apart ρ val d =
        let sat = (solves.same ρ val).1 d in
        apart ρ val (tie_forth up p r q tie ρ sat.linked sat.stacked.0)

    -- the two roots are joined, and what they owe goes on the stack
    module _ (up' : ℕ → ℕ) (r q : ℕ) (tie : Tie up p r q) (root : up r ≡ r) (link : Linked up r q up') where
      module _ (ps st' : List Pair) (split : (ρ : ℕ → T) → Stacked A ρ st' → Stacked A ρ ps × Stacked A ρ st) (merge : (ρ : ℕ → T) → Stacked A ρ ps → Stacked A ρ st → Stacked A ρ st') where
        join_back : (ρ : ℕ → T) → Sat A up' st' ρ → Sat A up (p ∷ st) ρ
        join_back ρ sat =
            let l = linked_back up r q up' link root ρ sat.linked in
            let e : ρ r ≡ ρ q = let a = sat.linked r in let b = link.here in cc in
            record { linked = l; stacked = (tie_back up p r q tie ρ l e, (split ρ sat.stacked).1) }

        join_forth : (ρ : ℕ → T) → (ρ r ≡ ρ q → Stacked A ρ ps) → Sat A up (p ∷ st) ρ → Sat A up' st' ρ
        join_forth ρ owe sat =
            let e = tie_forth up p r q tie ρ sat.linked sat.stacked.0 in
            record { linked = linked_forth up r q up' link ρ sat.linked e; stacked = merge ρ (owe e) sat.stacked.1 }

        join_turn : ((ρ : ℕ → T) → Values A g ρ → ρ r ≡ ρ q → Stacked A ρ ps)
            → ((s : ℕ) (ks ls : List ℕ) → g r ≡ app s ks → g q ≡ app s ls → (ρ : ℕ → T) → Stacked A ρ ps → map ρ ks ≡ map ρ ls)
            → Solves A g P up' st'
        join_turn owe pay = record {
          closed = λ n s ks ls a b ρ at sat. go n s ks ls a b ρ at sat (ℕ_discrete n r);
          same = λ ρ val. (λ sat. (solves.same ρ val).0 (join_back ρ sat), λ d. join_forth ρ (owe ρ val) ((solves.same ρ val).1 d));
        }
          where
            go : (n s : ℕ) (ks ls : List ℕ) → g n ≡ app s ks → g (up' n) ≡ app s ls → (ρ : ℕ → T) → Atoms A g ρ → Sat A up' st' ρ → Dec (n ≡ r) → map ρ ks ≡ map ρ ls
            go n s ks ls a b ρ at sat (yes i) =
                let h = link.here in
                pay s ks ls (subst (λ m. g m ≡ app s ks) i a) (subst (λ m. g m ≡ app s ls) (ap up' i ∙ h) b) ρ (split ρ sat.stacked).0
            go n s ks ls a b ρ at sat (no i) =
                let o = link.else n i in
                solves.closed n s ks ls a (subst (λ m. g m ≡ app s ls) o b) ρ at (join_back ρ sat)

      -- a variable is linked
      pub free_turn : g r ≡ free → Solves A g P up' st
      free_turn f = join_turn [] st (λ ρ a. (tt, a)) (λ ρ _ a. a) (λ ρ val e. tt) (λ s ks ls a b ρ _. cc)

      -- two applications of one symbol and arity are linked
      pub app_turn : Laws A → (s : ℕ) (ks ls : List ℕ) → g r ≡ app s ks → g q ≡ app s ls → length ks ≡ length ls → Solves A g P up' (onto ks ls st)
      app_turn laws s ks ls a b len = join_turn (pairs ks ls) (onto ks ls st) (λ ρ w. onto_stacked ρ ks ls st w) (λ ρ v w. stacked_onto ρ ks ls st v w)
          (λ ρ val e. equal_pairs ρ ks ls (laws.app_parts s s (map ρ ks) (map ρ ls) (sym (val.apps r s ks a) ∙ (e ∙ val.apps q s ls b))))
          (λ t ks' ls' c d ρ owed. let e = pairs_equal ρ ks ls len owed in
          let i : ks' ≡ ks = cc in let j : ls' ≡ ls = cc in rw (i, j) e)
