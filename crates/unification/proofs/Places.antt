-- What is read of the cells.
use Rattle.std.proofs.Common.{◌≡◌, ℕ, zero, suc, ◌+◌, ◌<◌, ◌≤◌, Bool, true, false, cond, ltb, List, ◌∷◌, length, get_or, Some, None, sym, refl, ap, ◌∙◌, arith}
use Rattle.std.proofs.lemmas.Bool.{ltb-true, ltb-false}
use Rattle.std.proofs.lemmas.List.{get_or_default}
use Rattle.terms.specs.declared.Cell.{Cell}
use Rattle.graphs.specs.Cells.{blank, all_fit, node_at, arguments}
use Rattle.unification.specs.declared.arena.Arguments.{Arguments}
use Rattle.unification.specs.Arguments.{rest_of}
use Rattle.graphs.proofs.Wholes.{node_below, all_fits, fits_arity}
use Rattle.unification.specs.Outcomes.{functors_match, shared_arity}
use Rattle.unification.specs.State.{cells_in, cell_at}

pub read_cell : (cs : List Cell) (p : ℕ) (x : Cell) → x ≡ get_or cs p x → p < length cs → x ≡ get_or cs p blank
read_cell cs p x e h = e ∙ get_or_default cs p x blank h

-- a cell that is found stands there
pub cell_found : (cs : List Cell) (p : ℕ) (x : Cell) → cell_at cs p ≡ Some x → (p < length cs) × (x ≡ get_or cs p blank)
cell_found cs p x e = go (ltb p (length cs)) refl e
  where
    go : (b : Bool) → ltb p (length cs) ≡ b → cond b (Some (get_or cs p blank)) None ≡ Some x → (p < length cs) × (x ≡ get_or cs p blank)
    go true i e = (ltb-true p (length cs) i, let d : x ≡ get_or cs p blank = cc in d)
    go false i e = absurd (let z : ◌≡◌ {A = ℕ} 0 1 = cc in omega arith)

pub cell_missing : (cs : List Cell) (p : ℕ) → cell_at cs p ≡ None → length cs ≤ p
cell_missing cs p e = go (ltb p (length cs)) refl e
  where
    go : (b : Bool) → ltb p (length cs) ≡ b → cond b (Some (get_or cs p blank)) None ≡ None → length cs ≤ p
    go true i e = absurd (let z : ◌≡◌ {A = ℕ} 0 1 = cc in omega arith)
    go false i e = ltb-false p (length cs) i

-- the arity that two functions share is small
pub shared_small : (cs : List Cell) → all_fit cs ≡ true → (left right n : ℕ) → shared_arity cs left right ≡ Some n → n ≤ 8
shared_small cs fit left right n e = go (functors_match cs left right) e
  where
    go : (b : Bool) → cond b (Some (get_or cs left blank).arity) None ≡ Some n → n ≤ 8
    go true e = let d : n ≡ (get_or cs left blank).arity = cc in let h = fits_arity (get_or cs left blank) (all_fits cs left fit) in omega arith
    go false e = absurd (let z : ◌≡◌ {A = ℕ} 0 1 = cc in omega arith)

-- the nodes of terms are cells' or variables'
pub kid_below : (it : Arguments) (k : ℕ) (ks : List ℕ) → rest_of it ≡ k ∷ ks → k < 2624
kid_below it k ks e = go it.left e
  where
    go : (n : ℕ) → arguments (cells_in it.arena.now) n it.place ≡ k ∷ ks → k < 2624
    go zero e = absurd (let z : ◌≡◌ {A = ℕ} 0 1 = cc in omega arith)
    go (suc n) e =
        let a = it.arena.now in let few = a.few in let ok = a.cells.ok.0 in
        let b = node_below (cells_in a) (omega arith) a.fit it.place in
        let d : k ≡ node_at (cells_in a) it.place = cc in omega arith

-- the node of a variable's cell
pub variable_below : (cs : List Cell) → length cs ≤ 1568 → all_fit cs ≡ true → (p : ℕ) (x : Cell) → cell_at cs p ≡ Some x → x.tag ≡ 0 → 1568 + x.value < 2624
variable_below cs small fit p x e t =
    let w = cell_found cs p x e in let b = node_below cs small fit p in
    let t' : (get_or cs p blank).tag ≡ 0 = ap (λ (y : Cell). y.tag) (sym w.1) ∙ t in
    let v : x.value ≡ (get_or cs p blank).value = ap (λ (y : Cell). y.value) w.1 in
    let n : node_at cs p ≡ 1568 + (get_or cs p blank).value = rw t' refl in omega arith
