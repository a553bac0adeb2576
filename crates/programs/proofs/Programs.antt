-- Lists of clauses in cells spell a program.
use Rattle.std.proofs.Common.{◌≡◌, ℕ, suc, ◌<◌, List, [], ◌∷◌, map, length, get_or, Some, All, sym, refl, subst, ap₂, arith}
use Rattle.terms.specs.declared.Cell.{Cell}
use Rattle.terms.specs.Shape.{goals}
use Rattle.clauses.specs.Clauses.{Low}
use Rattle.trees.specs.Tree.{Clause, Program, ClausesSmall, Small}
use Rattle.programs.specs.Spelling.{spell_clause, Spells}
use Rattle.programs.proofs.Parsing.{parse_clause}
use Rattle.programs.proofs.Lows.{clause_below}

clauses_of : (xs : List (List Cell)) → ((k : ℕ) → k < length xs → (n : ℕ) × (goals 0 0 (get_or xs k []) ≡ Some (suc n))) → ((k : ℕ) → k < length xs → All Low (get_or xs k []))
    → (cs : List Clause) × (map spell_clause cs ≡ xs) × ClausesSmall cs
clauses_of [] formed low = ([], refl, tt)
clauses_of (x ∷ xs) formed low =
    let f = formed 0 (omega arith) in
    let p = parse_clause f.0 x f.1 in
    let q = clauses_of xs (λ k h. formed (suc k) (omega arith)) (λ k h. low (suc k) (omega arith)) in
    (p.0 ∷ q.0, ap₂ ◌∷◌ (sym p.1) q.1, (clause_below p.0 (subst (All Low) p.1 (low 0 (omega arith))), q.2))

pub program_of : (lists : ℕ → ℕ → List (List Cell))
    → ((s a k : ℕ) → k < length (lists s a) → (n : ℕ) × (goals 0 0 (get_or (lists s a) k []) ≡ Some (suc n)))
    → ((s a k : ℕ) → k < length (lists s a) → All Low (get_or (lists s a) k []))
    → (P : Program) × Spells P lists × Small P
program_of lists formed low =
    let at = λ (s a : ℕ). clauses_of (lists s a) (formed s a) (low s a) in
    ((λ s a. (at s a).0), (λ s a. (at s a).1), (λ s a. (at s a).2))
