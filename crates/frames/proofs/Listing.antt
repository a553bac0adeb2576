-- Goals that are put before a list.
use Rattle.std.proofs.Common.{◌≡◌, ℕ, ◌+◌, ◌<◌, ◌≤◌, List, [], ◌∷◌, ◌++◌, length, get_or, take, drop, Some, Option, sym, refl, ap, ◌∙◌, subst, append-nil, arith}
use Rattle.std.proofs.lemmas.List.{get_or_push, length_push, length-drop, length-append, take-append-drop}
use Rattle.terms.specs.declared.Cell.{Cell}
use Rattle.trees.specs.Tree.{Goal}
use Rattle.graphs.specs.Cells.{after}
use Rattle.programs.specs.Spelling.{spell_goal, spell_goals}
use Rattle.programs.proofs.Places.{place_goals}
use Rattle.frames.specs.declared.Waiting.{Waiting}
use Rattle.frames.specs.Goals.{First, Lists}
use Rattle.frames.proofs.Memories.{lists_grown}

-- more goals come to wait
lists_later : (cs : List Cell) (ws later : List Waiting) (n : Option ℕ) (gs : List Goal) → Lists cs ws n gs → Lists cs (ws ++ later) n gs
lists_later cs ws later n gs h = subst (λ x. Lists x (ws ++ later) n gs) (append-nil cs) (lists_grown cs [] ws later n gs h)

-- no goals stand past the end
pub listed_none : (cs : List Cell) (p : ℕ) (ws : List Waiting) (rest : Option ℕ) → length cs ≤ p
    → (bs gs : List Goal) → drop p cs ≡ spell_goals bs → Lists cs ws rest gs → Lists cs ws rest (bs ++ gs)
listed_none cs p ws rest past [] gs e h = h
listed_none cs p ws rest past (b ∷ bs) gs e h =
    absurd (let l = length-drop p cs in let m = ap length e ∙ length-append (spell_goal b) (spell_goals bs) in omega arith)

-- the first goal is put before those after it
pub listed_more : (cs : List Cell) (p : ℕ) (ws ws₁ ws₂ : List Waiting) (w : Waiting) (n : ℕ) (rest : Option ℕ) → p < length cs → w.goal ≡ p → ws₂ ≡ ws₁ ++ w ∷ [] → n ≡ length ws₁
    → ((bs gs : List Goal) → drop (after cs p) cs ≡ spell_goals bs → Lists cs ws rest gs → Lists cs ws₁ w.rest (bs ++ gs))
    → (bs gs : List Goal) → drop p cs ≡ spell_goals bs → Lists cs ws rest gs → Lists cs ws₂ (Some n) (bs ++ gs)
listed_more cs p ws ws₁ ws₂ w n rest inside at we ne ih [] gs e h = absurd (let l = length-drop p cs in let m = ap length e in omega arith)
listed_more cs p ws ws₁ ws₂ w n rest inside at we ne ih (b ∷ bs) gs e h =
    let s = place_goals cs p b bs e in
    let long : length ws₂ ≡ length ws₁ + 1 = ap length we ∙ length_push ws₁ w in
    let first : First ws₂ (Some n) w = record { place = n; some = refl; within = omega arith; is = ap (λ xs. get_or xs n w) we ∙ get_or_push ws₁ w w n (sym ne) } in
    (w, first, subst (λ q. (post : List Cell) × (drop q cs ≡ spell_goal b ++ post)) (sym at) s.0, subst (λ x. Lists cs x w.rest (bs ++ gs)) (sym we) (lists_later cs ws₁ (w ∷ []) w.rest (bs ++ gs) (ih bs gs s.1 h)))

-- what was kept at the front, and what came after it
pub later_of : {A : Type 0} (n : ℕ) (xs ys : List A) → take n ys ≡ xs → ys ≡ xs ++ drop n ys
later_of n xs ys e = sym (take-append-drop n ys) ∙ ap (λ zs. zs ++ drop n ys) e
