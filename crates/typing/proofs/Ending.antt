-- Every order of the rules ends. A variable is done when it stands once in all equations, and there as the variable that its
-- equation is against. No step undoes one. replacement makes its variable done, and each other step makes the equations smaller.
use mathlib.Core.Path.{◌≡◌, refl, ◌∙◌, ap}
use mathlib.Core.Logic.{◌≢◌, ◌⊎◌, inl, inr}
use mathlib.Core.List.{[], ◌∷◌, ◌++◌}
use mathlib.Core.WellFounded.{Acc}
use Prim.Native.Nat.{ℕ, zero, suc, ◌+◌, ◌≤◌, ◌<◌}
use native.Mathlib.Decide.{ℕ_discrete, dec_le}
use native.Mathlib.Omega.{arith}
use Rattle.typing.specs.Terms.{Term, var, con, fun, Terms, none, more, Equation, ◌≈◌, Eqs, arguments, if, replaces, count, counts, count_in, Signature}
use Rattle.typing.specs.Rules.{State, Against, Step, same_functions, equal_constants, unequal_constants, same_variable, replacement}
use Rattle.typing.proofs.Counts.{count_self, count_other, count_append, count_arguments, count_against, count_gone_in, count_kept_in}
use Rattle.typing.proofs.Heads.{head, heads, head_against, heads_count, heads_append, heads_kept}

-- The number of symbols.
abbrev mutual
  size : Term → ℕ
  size (var x) = 1
  size (con f v) = 1
  size (fun s ts) = 1 + sizes ts

  sizes : Terms → ℕ
  sizes none = 0
  sizes (more t ts) = size t + sizes ts

abbrev size_in : Eqs → ℕ
size_in [] = 0
size_in (e ∷ E) = (size e.left + size e.right) + size_in E

size_append : (E F : Eqs) → size_in (E ++ F) ≡ size_in E + size_in F
size_append [] F = omega arith
size_append (e ∷ E) F = omega (arith, size_append E F)

size_arguments : (ts us : Terms) → size_in (arguments ts us) ≤ sizes ts + sizes us
size_arguments none us = omega arith
size_arguments (more t ts) none = omega arith
size_arguments (more t ts) (more u us) = omega (arith, size_arguments ts us)

pub record Done (y : ℕ) (E : Eqs) : Type 0 where
  pub once : count_in y E ≡ 1
  pub there : heads y E ≡ 1

-- Each step keeps what is done, brings in no variable, and makes something done or smaller.
pub record Less (E F : Eqs) : Type 0 where
  pub kept : (y : ℕ) → Done y E → Done y F
  pub no_more : (y : ℕ) → count_in y E ≡ 0 → count_in y F ≡ 0
  pub less : (size_in F < size_in E) ⊎ ((x : ℕ) × (2 ≤ count_in x E) × Done x F)

module _ (y : ℕ) (pre post : Eqs) (e : Equation) where
  count_at : count_in y (pre ++ (e ∷ post)) ≡ count_in y pre + ((count y e.left + count y e.right) + count_in y post)
  count_at = count_append y pre (e ∷ post)

  heads_at : heads y (pre ++ (e ∷ post)) ≡ heads y pre + (head y e.left e.right + heads y post)
  heads_at = heads_append y pre (e ∷ post)

-- An equation that is not against a variable gives way to smaller ones, with the same variables.
module _ (pre post : Eqs) (e : Equation) (new : Eqs)
    (same : (y : ℕ) → count_in y new ≡ count y e.left + count y e.right)
    (headless : (y : ℕ) → head y e.left e.right ≡ 0)
    (lighter : size_in new < size e.left + size e.right) where
  gives_way : Less (pre ++ (e ∷ post)) (pre ++ (new ++ post))
  gives_way = record {
    kept = λ y d. record {
      once = omega (arith, d.once, count_at y pre post e, count_append y pre (new ++ post), count_append y new post, same y);
      there = omega (arith, d.once, d.there, count_at y pre post e, heads_at y pre post e, heads_append y pre (new ++ post), heads_append y new post, same y, headless y, heads_count y pre, heads_count y new, heads_count y post);
    };
    no_more = λ y z. omega (arith, z, count_at y pre post e, count_append y pre (new ++ post), count_append y new post, same y);
    less = inl (omega (arith, size_append pre (e ∷ post), size_append pre (new ++ post), size_append new post, lighter));
  }

-- X against X.
dropped : (pre post : Eqs) (x : ℕ) → Less (pre ++ ((var x ≈ var x) ∷ post)) (pre ++ post)
dropped pre post x = record {
  kept = λ y d. record {
    once = omega (arith, d.once, d.there, count_at y pre post (var x ≈ var x), heads_at y pre post (var x ≈ var x), count_append y pre post, heads_count y pre, heads_count y post);
    there = omega (arith, d.once, d.there, count_at y pre post (var x ≈ var x), heads_at y pre post (var x ≈ var x), heads_append y pre post, heads_count y pre, heads_count y post);
  };
  no_more = λ y z. omega (arith, z, count_at y pre post (var x ≈ var x), count_append y pre post);
  less = inl (omega (arith, size_append pre ((var x ≈ var x) ∷ post), size_append pre post));
}

-- X against a term without it.
module _ (pre post : Eqs) {e : Equation} {x : ℕ} {t : Term} (a : Against x t e) (own : count x t ≡ 0) (another : 1 ≤ count_in x (pre ++ post)) where
  twice : 2 ≤ count_in x (pre ++ (e ∷ post))
  twice = omega (arith, count_at x pre post e, count_append x pre post, count_against x a, count_self x, another)

  -- another variable that is not in t stands where it stood
  elsewhere : (y : ℕ) → y ≢ x → count y t ≡ 0 → count_in y (replaces x t pre ++ (e ∷ replaces x t post)) ≡ count_in y (pre ++ (e ∷ post))
  elsewhere y n z = omega (arith, count_at y pre post e, count_at y (replaces x t pre) (replaces x t post) e, count_kept_in y x t n z pre, count_kept_in y x t n z post)

  replaced : Less (pre ++ (e ∷ post)) (replaces x t pre ++ (e ∷ replaces x t post))
  replaced = record {
    kept = λ y d. keep y d (λ p. omega (arith, twice, d.once, ap (λ (z : ℕ). count_in z (pre ++ (e ∷ post))) p));
    no_more = λ y z. none-new y z (λ p. omega (arith, twice, z, ap (λ (z : ℕ). count_in z (pre ++ (e ∷ post))) p));
    less = inr (x, twice, now-done);
  }
    where
      new : Eqs
      new = replaces x t pre ++ (e ∷ replaces x t post)

      keep : (y : ℕ) → Done y (pre ++ (e ∷ post)) → y ≢ x → Done y new
      keep y d n =
          let z : count y t ≡ 0 = omega (arith, d.once, d.there, count_at y pre post e, heads_at y pre post e, head_against y a, count_against y a, count_other y x n, heads_count y pre, heads_count y post) in
          let o : count_in y new ≡ 1 = elsewhere y n z ∙ d.once in
          record {
            once = o;
            there = omega (arith, d.there, o, heads_count y new, heads_at y pre post e, heads_at y (replaces x t pre) (replaces x t post) e, heads_kept y x t n pre, heads_kept y x t n post);
          }

      none-new : (y : ℕ) → count_in y (pre ++ (e ∷ post)) ≡ 0 → y ≢ x → count_in y new ≡ 0
      none-new y c n =
          let z : count y t ≡ 0 = omega (arith, c, count_at y pre post e, count_against y a) in
          elsewhere y n z ∙ c

      now-done : Done x new
      now-done =
          let o : count_in x new ≡ 1 = omega (arith, count_at x (replaces x t pre) (replaces x t post) e, count_against x a, count_self x, own, count_gone_in x t own pre, count_gone_in x t own post) in
          record {
            once = o;
            there = omega (arith, o, heads_count x new, heads_at x (replaces x t pre) (replaces x t post) e, head_against x a, count_self x);
          }

step_less : {kind : Signature} {s s' : State} → Step kind s s' → Less s.eqs s'.eqs
step_less (same_functions pre post s ts us a) = gives_way pre post (fun s ts ≈ fun s us) (arguments ts us) (λ y. count_arguments y ts us a) (λ y. refl) (omega (arith, size_arguments ts us))
step_less (equal_constants pre post f v) = gives_way pre post (con f v ≈ con f v) [] (λ y. omega arith) (λ y. refl) (omega arith)
step_less (unequal_constants pre post f v g w n k) = gives_way pre post (con f v ≈ con g w) [] (λ y. omega arith) (λ y. refl) (omega arith)
step_less (same_variable pre post x) = dropped pre post x
step_less (replacement pre post a own another) = replaced pre post a own another

-- 1 unless y is done, and the number of variables below n that are not done.
abbrev undone : ℕ → Eqs → ℕ
undone y E = if (ℕ_discrete (count_in y E) 1) (if (ℕ_discrete (heads y E) 1) 0 1) 1

abbrev all_undone : ℕ → Eqs → ℕ
all_undone zero E = 0
all_undone (suc n) E = undone n E + all_undone n E

module _ (y : ℕ) (E : Eqs) where
  done_zero : Done y E → undone y E ≡ 0
  done_zero d = at (ℕ_discrete (count_in y E) 1) (ℕ_discrete (heads y E) 1)
    where
      at : (p : Dec (count_in y E ≡ 1)) (q : Dec (heads y E ≡ 1)) → ◌≡◌ {A = ℕ} (if p (if q 0 1) 1) 0
      at (yes p) (yes q) = refl
      at (yes p) (no q) = absurd (q d.there)
      at (no p) q = absurd (p d.once)

  undone_cases : (undone y E ≡ 1) ⊎ Done y E
  undone_cases = at (ℕ_discrete (count_in y E) 1) (ℕ_discrete (heads y E) 1)
    where
      at : (p : Dec (count_in y E ≡ 1)) (q : Dec (heads y E ≡ 1)) → (◌≡◌ {A = ℕ} (if p (if q 0 1) 1) 1) ⊎ Done y E
      at (yes p) (yes q) = inr (record { once = p; there = q })
      at (yes p) (no q) = inl refl
      at (no p) q = inl refl

  undone_one : undone y E ≤ 1
  undone_one = at undone_cases
    where
      at : (undone y E ≡ 1) ⊎ Done y E → undone y E ≤ 1
      at (inl p) = omega arith
      at (inr d) = omega (arith, done_zero d)

  twice_undone : 2 ≤ count_in y E → undone y E ≡ 1
  twice_undone h = at undone_cases
    where
      at : (undone y E ≡ 1) ⊎ Done y E → undone y E ≡ 1
      at (inl p) = p
      at (inr d) = absurd (omega (arith, d.once))

module _ (E F : Eqs) (keep : (y : ℕ) → Done y E → Done y F) where
  undone_falls : (y : ℕ) → undone y F ≤ undone y E
  undone_falls y = at (undone_cases y E)
    where
      at : (undone y E ≡ 1) ⊎ Done y E → undone y F ≤ undone y E
      at (inl p) = omega (arith, undone_one y F)
      at (inr d) = omega (arith, done_zero y F (keep y d))

  all_falls : (n : ℕ) → all_undone n F ≤ all_undone n E
  all_falls zero = omega arith
  all_falls (suc n) = omega (arith, undone_falls n, all_falls n)

  one_falls : (n x : ℕ) → x < n → undone x F < undone x E → all_undone n F < all_undone n E
  one_falls zero x h l = absurd (omega arith)
  one_falls (suc n) x h l = at (ℕ_discrete x n) (λ k. one_falls n x k l)
    where
      at : Dec (x ≡ n) → (x < n → all_undone n F < all_undone n E) → all_undone (suc n) F < all_undone (suc n) E
      at (yes p) ih = omega (arith, all_falls n, l, ap (λ (z : ℕ). undone z F) p, ap (λ (z : ℕ). undone z E) p)
      at (no q) ih = let k : x < n = omega arith in omega (arith, undone_falls n, ih k)

-- No variable from n on stands in E.
abbrev Below : ℕ → Eqs → Type 0
Below n E = (y : ℕ) → n ≤ y → count_in y E ≡ 0

abbrev mutual
  top : Term → ℕ
  top (var x) = suc x
  top (con f v) = 0
  top (fun s ts) = tops ts

  tops : Terms → ℕ
  tops none = 0
  tops (more t ts) = top t + tops ts

abbrev top_in : Eqs → ℕ
top_in [] = 0
top_in (e ∷ E) = (top e.left + top e.right) + top_in E

mutual
  top_above : (y : ℕ) (t : Term) → top t ≤ y → count y t ≡ 0
  top_above y (var x) h = count_other y x (λ p. omega arith)
  top_above y (con f v) h = refl
  top_above y (fun s ts) h = tops_above y ts h

  tops_above : (y : ℕ) (ts : Terms) → tops ts ≤ y → counts y ts ≡ 0
  tops_above y none h = refl
  tops_above y (more t ts) h = omega (arith, top_above y t (omega arith), tops_above y ts (omega arith))

below_top : (E : Eqs) (y : ℕ) → top_in E ≤ y → count_in y E ≡ 0
below_top [] y h = refl
below_top (e ∷ E) y h = omega (arith, top_above y e.left (omega arith), top_above y e.right (omega arith), below_top E y (omega arith))

module _ (kind : Signature) (n : ℕ) where
  abbrev Ending : State → Type 0
  Ending s = Acc (λ s' s. Step kind s s') s

  -- by the number of symbols, while no variable becomes done
  by_size : (k : ℕ) → ((s : State) → Below n s.eqs → all_undone n s.eqs < k → Ending s)
      → (m : ℕ) (s : State) → Below n s.eqs → all_undone n s.eqs < suc k → size_in s.eqs < m → Ending s
  by_size k ih zero s b u l = absurd (omega arith)
  by_size k ih (suc m) s b u l = Acc.intro s (λ s' r. at s' (step_less r) (by_size k ih m s'))
    where
      at : (s' : State) → Less s.eqs s'.eqs
          → (Below n s'.eqs → all_undone n s'.eqs < suc k → size_in s'.eqs < m → Ending s') → Ending s'
      at s' q again = go q.less
        where
          below : Below n s'.eqs
          below y h = q.no_more y (b y h)

          go : (size_in s'.eqs < size_in s.eqs) ⊎ ((x : ℕ) × (2 ≤ count_in x s.eqs) × Done x s'.eqs) → Ending s'
          go (inl p) = again below (omega (arith, all_falls s.eqs s'.eqs q.kept n)) (omega arith)
          go (inr d) = ih s' below (omega (
            arith,
            one_falls s.eqs s'.eqs q.kept n d.0 inside
                (omega (arith, done_zero d.0 s'.eqs d.2, twice_undone d.0 s.eqs d.1)),
          ))
            where
              inside : d.0 < n
              inside = at' (dec_le n d.0)
                where
                  at' : Dec (n ≤ d.0) → d.0 < n
                  at' (yes h) = absurd (omega (arith, b d.0 h, d.1))
                  at' (no h) = omega arith

  by_undone : (k : ℕ) (s : State) → Below n s.eqs → all_undone n s.eqs < k → Ending s
  by_undone zero s b u = absurd (omega arith)
  by_undone (suc k) s b u = by_size k (by_undone k) (suc (size_in s.eqs)) s b u (omega arith)

pub always_ends : (kind : Signature) (s : State) → Acc (λ s' s. Step kind s s') s
always_ends kind s = by_undone kind (top_in s.eqs) (suc (all_undone (top_in s.eqs) s.eqs)) s (below_top s.eqs) (omega arith)
