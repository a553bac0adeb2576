-- Variables below a number, and what an outcome of typed unification means, over the terms and equations of the crate `typing`.
use Rattle.std.specs.Prelude.{ℕ, ◌<◌, [], ◌∷◌}
pub use Rattle.typing.specs.Terms.{Term, Terms, var, con, fun, none, more, arity, Subst, apply, applies, KTerm, KTerms, base, kfun, knone, kmore, Signature, kinds, kinds*, Equation, ◌≈◌, Eqs, Unifies, Fits}
pub use Rattle.typing.specs.Rules.{Outcome, solved, false, wrong, Means}

-- every variable's number is below n
abbrev mutual
  pub Below : ℕ → Term → Type 0
  Below n (var x) = x < n
  Below n (con f v) = Unit {0}
  Below n (fun s ts) = Belows n ts

  pub Belows : ℕ → Terms → Type 0
  Belows n none = Unit {0}
  Belows n (more t ts) = Below n t × Belows n ts

abbrev pub EqsBelow : ℕ → Eqs → Type 0
EqsBelow n [] = Unit {0}
EqsBelow n (e ∷ E) = (Below n e.left × Below n e.right) × EqsBelow n E

abbrev pub Solvable : Eqs → Type 0
Solvable E = (θ : Subst) × Unifies θ E

abbrev pub Fitting : Signature → Eqs → Type 0
Fitting kind E = (κ : ℕ → KTerm) × Fits kind κ E

-- o is the outcome of E
abbrev pub OutcomeOf : Signature → Eqs → Outcome → Type 0
OutcomeOf = Means
