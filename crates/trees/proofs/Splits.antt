-- Proofs of a list of goals by their paths: the first goal's clause, and a proof of two lists back to back
use Rattle.std.proofs.Common.{◌≡◌, ℕ, List, [], ◌∷◌, ◌++◌, length, sym, refl, ap, ◌∙◌, ap₂, append_assoc, arith, length-append}
use mathlib.Core.Option.{some}
use lib.ListN.{get_elem?}
use Rattle.trees.specs.Terms.{Subst}
use Rattle.trees.specs.Tree.{Goal, Clause, Program, listed, instance_of, instances}
use Rattle.trees.specs.Proofs.{Proof, done, use_of, uses, path}

pub uses_length : {P : Program} {gs : List Goal} (π : Proof P gs) → uses π ≡ length (path π)
uses_length done = refl
uses_length (use_of i c σ a e b r) = let x = uses_length b in let y = uses_length r in let z = length-append (path b) (path r) in omega arith

-- there is a proof with the path p
abbrev pub Has : Program → List Goal → List ℕ → Type 0
Has P gs p = (π : Proof P gs) × (path π ≡ p)

-- what a proof of a first goal and others is made of
pub record Opened (P : Program) (g : Goal) (gs : List Goal) (p : List ℕ) : Type 0 where
  pub number : ℕ
  pub clause : Clause
  pub terms : Subst
  pub front : List ℕ
  pub rest : List ℕ
  pub there : get_elem? (listed P g) number ≡ some clause
  pub heads : instance_of terms clause.head ≡ g
  pub below : Has P (instances terms clause.body) front
  pub beside : Has P gs rest
  pub whole : number ∷ (front ++ rest) ≡ p

pub opened : {P : Program} {g : Goal} {gs : List Goal} {p : List ℕ} → Has P (g ∷ gs) p → Opened P g gs p
opened h = go h.0 h.1
  where
    go : {P : Program} {g : Goal} {gs : List Goal} {p : List ℕ} (π : Proof P (g ∷ gs)) → path π ≡ p → Opened P g gs p
    go (use_of i c σ a e b r) q =
        record { number = i; clause = c; terms = σ; front = path b; rest = path r; there = a; heads = e; below = (b, refl); beside = (r, refl); whole = q }

pub closed : {P : Program} {g : Goal} {gs : List Goal} {p : List ℕ} → Opened P g gs p → Has P (g ∷ gs) p
closed o = (
  use_of o.number o.clause o.terms o.there o.heads o.below.0 o.beside.0,
  ap₂ {C = List ℕ} (λ x y. o.number ∷ (x ++ y)) o.below.1 o.beside.1 ∙ o.whole,
)

pub joined : {P : Program} (gs hs : List Goal) (p q : List ℕ) → Has P gs p → Has P hs q → Has P (gs ++ hs) (p ++ q)
joined gs hs p q a b = ((go gs hs a.0 b.0).0, (go gs hs a.0 b.0).1 ∙ ap₂ ◌++◌ a.1 b.1)
  where
    go : {P : Program} (gs hs : List Goal) (π : Proof P gs) (ρ : Proof P hs) → Has P (gs ++ hs) (path π ++ path ρ)
    go [] hs done ρ = (ρ, refl)
    go (g ∷ gs) hs (use_of i c σ a e b r) ρ =
        let w = go gs hs r ρ in
        (use_of i c σ a e b w.0, ap {B = List ℕ} (λ x. i ∷ (path b ++ x)) w.1 ∙ ap {B = List ℕ} (λ x. i ∷ x) (sym (append_assoc (path b) (path r) (path ρ))))

pub record Parted (P : Program) (gs hs : List Goal) (p : List ℕ) : Type 0 where
  pub front : List ℕ
  pub rest : List ℕ
  pub left : Has P gs front
  pub right : Has P hs rest
  pub whole : front ++ rest ≡ p

pub parted : {P : Program} (gs hs : List Goal) (p : List ℕ) → Has P (gs ++ hs) p → Parted P gs hs p
parted [] hs p h = record { front = []; rest = p; left = (done, refl); right = h; whole = refl }
parted (g ∷ gs) hs p h = go (opened h) (λ r. parted gs hs r)
  where
    go : {P : Program} {p : List ℕ} → Opened P g (gs ++ hs) p → ((r : List ℕ) → Has P (gs ++ hs) r → Parted P gs hs r) → Parted P (g ∷ gs) hs p
    go o rec =
        let w = rec o.rest o.beside in
        record {
          front = o.number ∷ (o.front ++ w.front);
          rest = w.rest;
          left = closed (record { number = o.number; clause = o.clause; terms = o.terms; front = o.front; rest = w.front; there = o.there; heads = o.heads; below = o.below; beside = w.left; whole = refl });
          right = w.right;
          whole = ap {B = List ℕ} (λ x. o.number ∷ x) (append_assoc o.front w.front w.rest ∙ ap (λ x. o.front ++ x) w.whole) ∙ o.whole;
        }
