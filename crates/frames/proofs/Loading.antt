-- A clause with its variables made new fits among the cells.
use Rattle.std.proofs.Common.{◌≡◌, ℕ, ◌+◌, ◌*◌, ◌<◌, ◌≤◌, Bool, true, false, cond, ◌&&◌, eqb, ltb, leb, List, [], ◌∷◌, ◌++◌, length, get_or, take, Some, None, All, Option, sym, refl, ap, ◌∙◌, subst, arith}
use Rattle.std.proofs.lemmas.List.Elements.{All-head, All-tail}
use native.Mathlib.Decide.{ℕ_discrete}
use Rattle.std.proofs.lemmas.List.{take-append-le, take_all, length-append}
use Rattle.std.proofs.lemmas.Bool.{eqb-true, le-leb, lt-ltb, cond-true}
use Rattle.terms.specs.declared.Cell.{Cell}
use Rattle.clauses.specs.Clauses.{raised, renamed, spliced, Low, Slim, Formed}
use Rattle.clauses.proofs.Renaming.{raised_var, raised_other, length_renamed}
use Rattle.graphs.specs.Cells.{fits, all_fit}
use Rattle.unification.specs.State.{takes}
use Rattle.frames.specs.Frames.{cells_at, Fetched}

pub and_true : (a b : Bool) → a ≡ true → b ≡ true → (a && b) ≡ true
and_true true b p q = q
and_true false b p q = p

-- a variable below 32 is raised below 1,056
fits_raised : (b : ℕ) (c : Cell) → b ≤ 1024 → Low c → Slim c → fits (raised b c) ≡ true
fits_raised b c h l s = go (ℕ_discrete c.tag 0)
  where
    go : Dec (c.tag ≡ 0) → fits (raised b c) ≡ true
    go (yes e) = ap fits (raised_var b c e) ∙ and_true (leb c.arity 8) _ (le-leb c.arity 8 s) (on (eqb c.tag 0))
      where
        on : (t : Bool) → cond t (ltb (c.value + b) 1056) true ≡ true
        on true = lt-ltb (c.value + b) 1056 (let v = l e in omega arith)
        on false = refl
    go (no e) = ap fits (raised_other b c e) ∙ and_true (leb c.arity 8) _ (le-leb c.arity 8 s) (off (eqb c.tag 0) refl)
      where
        off : (t : Bool) → eqb c.tag 0 ≡ t → cond t (ltb c.value 1056) true ≡ true
        off true f = absurd (e (eqb-true c.tag 0 f))
        off false f = refl

fit_renamed : (b : ℕ) (cs : List Cell) → b ≤ 1024 → All Low cs → All Slim cs → all_fit (renamed b cs) ≡ true
unfolding renamed
fit_renamed b [] h l s = refl
fit_renamed b (c ∷ cs) h l s = and_true (fits (raised b c)) _ (fits_raised b c h (All-head Low c cs l) (All-head Slim c cs s)) (fit_renamed b cs h (All-tail Low c cs l) (All-tail Slim c cs s))

-- what was written at the start of a slice
front : (n : ℕ) (xs ys zs : List Cell) → n ≡ length ys → zs ≡ spliced xs 0 ys → take n zs ≡ ys
unfolding spliced
front n xs ys zs e h =
    ap (λ k. take k zs) e ∙ (ap (take (length ys)) h ∙ (take-append-le (length ys) ys _ (omega arith) ∙ take_all (length ys) ys (omega arith)))

-- it is appended
pub fetched : (symbol arity : ℕ) (list : List (List Cell)) (clause step n : ℕ) (cells cells' buffer buffer' : List Cell) (r : Option ℕ)
    → step < 32 → length cells ≤ cells_at step → length list ≤ 65535 → Formed (get_or list clause [])
    → clause < length list → n ≡ length (get_or list clause []) → (base₀ : ℕ) → base₀ ≡ 32 + 32 * step → buffer' ≡ spliced buffer 0 (renamed base₀ (get_or list clause []))
    → r ≡ cond (takes cells (take n buffer')) (Some (length cells)) None
    → cells' ≡ cond (takes cells (take n buffer')) (cells ++ take n buffer') cells
    → Fetched list clause step cells cells' r
fetched symbol arity list clause step n cells cells' buffer buffer' r early roomy short formed number e base₀ at_base wrote₀ re ce =
    let wrote = subst (λ b. buffer' ≡ spliced buffer 0 (renamed b (get_or list clause []))) at_base wrote₀ in
    let base = 32 + 32 * step in
    let new = renamed base (get_or list clause []) in
    let long : length new ≡ length (get_or list clause []) = length_renamed base (get_or list clause []) in
    let written : take n buffer' ≡ new = front n buffer new buffer' (e ∙ sym long) wrote in
    let few = formed.few in
    let fit : all_fit new ≡ true = fit_renamed base (get_or list clause []) (omega arith) formed.low formed.slim in
    let room : leb (length cells + length new) 1568 ≡ true = le-leb (length cells + length new) 1568 (omega arith) in
    let taken : takes cells (take n buffer') ≡ true = ap (takes cells) written ∙ and_true _ _ room fit in
    let some : r ≡ Some (length cells) = re ∙ cond-true (takes cells (take n buffer')) _ _ taken in
    let more : cells' ≡ cells ++ new = ce ∙ (cond-true (takes cells (take n buffer')) _ _ taken ∙ ap (λ xs. cells ++ xs) written) in
    let longer : length cells' ≡ length cells + length new = ap length more ∙ length-append cells new in
    subst (Fetched list clause step cells cells') (sym some)
    (record { number = number; many = omega arith; place = refl; cells = more; few = omega arith })
