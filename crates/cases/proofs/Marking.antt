use Rattle.std.proofs.Common.{◌≡◌, ℕ, ◌+◌, List, [], ◌∷◌, refl}
use Rattle.std.proofs.lemmas.Bool.{ne_eqb, eq-eqb}
use Rattle.cases.specs.Marks.{mark_in}

pub mark_plain : (m at b : ℕ) (t : List ℕ) → (b ≡ 92 → ⊥) → mark_in m at (b ∷ t) ≡ mark_in m (at + 1) t
mark_plain m at b [] n = refl
mark_plain m at b (c ∷ cs) n = rw (ne_eqb b 92 n)

pub mark_passed : (m at b c : ℕ) (t : List ℕ) → b ≡ 92 → (c ≡ m → ⊥) → mark_in m at (b ∷ c ∷ t) ≡ mark_in m (at + 2) t
mark_passed m at b c t e n = rw (eq-eqb b 92 e, ne_eqb c m n)
