-- What assignments of terms and assignments of kinds share: both read a term part by part, without loss at functions.
use mathlib.Core.Path.{◌≡◌, refl, sym, ◌∙◌, ap, ap₂}
use mathlib.Core.List.{[], ◌∷◌, ◌++◌}
use Prim.Native.Nat.{ℕ}
use native.Mathlib.Decide.{ℕ_discrete}
use native.Mathlib.Omega.{arith}
use Rattle.typing.specs.Terms.{Term, var, con, fun, Terms, none, more, arity, Equation, Eqs, arguments, Subst, apply, applies, if, set, replace, replaces, KTerm, kfun, kmore, Signature, kinds, kinds*, Alike}
use Rattle.typing.specs.Rules.{Against, on_left, on_right}

pub record Reading {A As : Type 0} (value : Term → A) (values : Terms → As) : Type 0 where
  pub node : ℕ → As → A
  pub link : A → As → As
  pub at_fun : (s : ℕ) (ts : Terms) → value (fun s ts) ≡ node s (values ts)
  pub at_more : (t : Term) (ts : Terms) → values (more t ts) ≡ link (value t) (values ts)
  pub node_inj : (s : ℕ) (a b : As) → node s a ≡ node s b → a ≡ b
  pub link_inj : (a b : A) (c d : As) → link a c ≡ link b d → (a ≡ b) × (c ≡ d)

pub term_reading : (θ : Subst) → Reading (apply θ) (applies θ)
term_reading θ = record {
  node = fun;
  link = more;
  at_fun = λ s ts. refl;
  at_more = λ t ts. refl;
  node_inj = λ s a b p. cc;
  link_inj = λ a b c d p. (cc, cc);
}

pub kind_reading : (kind : Signature) (κ : ℕ → KTerm) → Reading (kinds kind κ) (kinds* kind κ)
kind_reading kind κ = record {
  node = kfun;
  link = kmore;
  at_fun = λ s ts. refl;
  at_more = λ t ts. refl;
  node_inj = λ s a b p. cc;
  link_inj = λ a b c d p. (cc, cc);
}

-- Alike in a list and in its parts.
module _ {A : Type 0} (value : Term → A) where
  pub front : (E F : Eqs) → Alike value (E ++ F) → Alike value E
  front [] F h = tt
  front (e ∷ E) F h = (h.0, front E F h.1)

  pub back : (E F : Eqs) → Alike value (E ++ F) → Alike value F
  back [] F h = h
  back (e ∷ E) F h = back E F h.1

  pub join : (E F : Eqs) → Alike value E → Alike value F → Alike value (E ++ F)
  join [] F h k = k
  join (e ∷ E) F h k = (h.0, join E F h.1 k)

module _ {A As : Type 0} {value : Term → A} {values : Terms → As} (R : Reading value values) where
  mutual
    pub agree : (σ : Subst) → ((y : ℕ) → value (σ y) ≡ value (var y)) → (u : Term) → value (apply σ u) ≡ value u
    agree σ h (var x) = h x
    agree σ h (con f v) = refl
    agree σ h (fun s ts) = R.at_fun s (applies σ ts) ∙ ap (R.node s) (agrees σ h ts) ∙ sym (R.at_fun s ts)

    pub agrees : (σ : Subst) → ((y : ℕ) → value (σ y) ≡ value (var y)) → (us : Terms) → values (applies σ us) ≡ values us
    agrees σ h none = refl
    agrees σ h (more t ts) = R.at_more (apply σ t) (applies σ ts) ∙ ap₂ R.link (agree σ h t) (agrees σ h ts) ∙ sym (R.at_more t ts)

  pub replace_alike : (x : ℕ) (t : Term) → value (var x) ≡ value t → (u : Term) → value (replace x t u) ≡ value u
  replace_alike x t p = agree (set x t var) (λ y. at y (ℕ_discrete y x))
    where
      at : (y : ℕ) (d : Dec (y ≡ x)) → value (if d t (var y)) ≡ value (var y)
      at y (yes q) = sym p ∙ ap (λ (z : ℕ). value (var z)) (sym q)
      at y (no q) = refl

  pub replaces_out : (x : ℕ) (t : Term) → value (var x) ≡ value t → (E : Eqs) → Alike value E → Alike value (replaces x t E)
  replaces_out x t p [] h = tt
  replaces_out x t p (e ∷ E) h = (replace_alike x t p e.left ∙ h.0 ∙ sym (replace_alike x t p e.right), replaces_out x t p E h.1)

  pub replaces_in : (x : ℕ) (t : Term) → value (var x) ≡ value t → (E : Eqs) → Alike value (replaces x t E) → Alike value E
  replaces_in x t p [] h = tt
  replaces_in x t p (e ∷ E) h = (sym (replace_alike x t p e.left) ∙ h.0 ∙ replace_alike x t p e.right, replaces_in x t p E h.1)

  arguments_out : (ts us : Terms) → values ts ≡ values us → Alike value (arguments ts us)
  arguments_out none us p = tt
  arguments_out (more t ts) none p = tt
  arguments_out (more t ts) (more u us) p =
      let q : (value t ≡ value u) × (values ts ≡ values us) = R.link_inj (value t) (value u) (values ts) (values us) (sym (R.at_more t ts) ∙ p ∙ R.at_more u us) in
      (q.0, arguments_out ts us q.1)

  arguments_in : (ts us : Terms) → arity ts ≡ arity us → Alike value (arguments ts us) → values ts ≡ values us
  arguments_in none none a h = refl
  arguments_in none (more u us) a h = absurd (omega arith)
  arguments_in (more t ts) none a h = absurd (omega arith)
  arguments_in (more t ts) (more u us) a h = R.at_more t ts ∙ ap₂ R.link h.0 (arguments_in ts us (omega arith) h.1) ∙ sym (R.at_more u us)

  pub fun_out : (s : ℕ) (ts us : Terms) → value (fun s ts) ≡ value (fun s us) → Alike value (arguments ts us)
  fun_out s ts us p = arguments_out ts us (R.node_inj s (values ts) (values us) (sym (R.at_fun s ts) ∙ p ∙ R.at_fun s us))

  pub fun_in : (s : ℕ) (ts us : Terms) → arity ts ≡ arity us → Alike value (arguments ts us) → value (fun s ts) ≡ value (fun s us)
  fun_in s ts us a h = R.at_fun s ts ∙ ap (R.node s) (arguments_in ts us a h) ∙ sym (R.at_fun s us)

  -- an equation of X against t says that X and t are alike
  pub against : {x : ℕ} {t : Term} {e : Equation} → Against x t e → value e.left ≡ value e.right → value (var x) ≡ value t
  against on_left p = p
  against (on_right q) p = sym p
