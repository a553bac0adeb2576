-- The equations of a table, one after another among its cells.
use Rattle.std.proofs.Common.{◌≡◌, ℕ, zero, suc, ◌+◌, ◌-◌, ◌*◌, ◌<◌, ◌≤◌, true, leb, List, [], ◌∷◌, ◌++◌, length, get_or, take, drop, is_some, Some, None, All, Option, sym, refl, ap, ◌∙◌, subst, ap₂, arith}
use Rattle.std.proofs.lemmas.List.Elements.{All-head, All-tail, All-push, All-take}
use Rattle.std.proofs.lemmas.List.{append_assoc, append-nil, length-append, take-append-drop, take_at, drop_at, drop-drop, flat_map_more}
use Rattle.std.proofs.lemmas.Bool.{and_from, le-leb}
use Rattle.std.proofs.lemmas.Grind.{flat_map-append}
use Rattle.terms.specs.declared.Cell.{Cell}
use Rattle.terms.specs.Shape.{skip, nothing_left, second_term, two_terms, all_low}
use Rattle.terms.proofs.Laws.{skip_more, goals_read}
use Rattle.typing.specs.Terms.{Term, none, more, Equation, Eqs}
use Rattle.trees.specs.Terms.{EqsBelow}
use Rattle.graphs.specs.Cells.{all_fit}
use Rattle.graphs.specs.Flat.{flat, Stands}
use Rattle.graphs.specs.Whole.{Whole}
use Rattle.graphs.proofs.Spelt.{whole_terms}
use Rattle.graphs.proofs.Wholes.{whole_append, fit_append}
use Rattle.unification.specs.declared.Equation as places
use Rattle.unification.specs.Several.{SpeltAt}
use Rattle.programs.specs.Spelling.{spell_equation}
use Rattle.programs.proofs.Equations.{parse_equation, spell_equation_injective}
use Rattle.programs.proofs.Lows.{equation_below}
use Rattle.resolution.specs.State.{stands}
use Rattle.frames.proofs.Questions.{fit_goals}
use Rattle.store.specs.Entries.{Sound, place_of, second_of, joined, places_from, next_place, cut_at, Laid}
use Rattle.store.specs.Calls.{Spelt}

-- sound cells spell one equation
pub spells : (e : List Cell) → Sound e → (q : Equation) × (spell_equation q ≡ e) × (second_of e ≡ length (flat q.left))
spells e h = let p = parse_equation (second_of e) e h.1 in (p.0, sym p.1, p.2)

pub second_place : (e : List Cell) → Sound e → (q : Equation) → spell_equation q ≡ e → second_of e ≡ length (flat q.left)
second_place e h q s =
    let p = spells e h in
    let same : p.0 ≡ q = spell_equation_injective p.0 q (p.1 ∙ sym s) in
    p.2 ∙ ap (λ d. length (flat d.left)) same

-- two terms are read to the end
two_skip : (cs : List Cell) (p : ℕ) → two_terms cs ≡ Some p → skip 2 cs ≡ Some []
two_skip cs p = first (skip 1 cs) refl
  where
    second : (mid : List Cell) (n : ℕ) (o : Option (List Cell)) → skip 1 mid ≡ o → nothing_left o n ≡ Some p → skip 1 mid ≡ Some []
    second mid n None h e = absurd (let z : ◌≡◌ {A = ℕ} 0 1 = cc in omega arith)
    second mid n (Some []) h e = h
    second mid n (Some (x ∷ xs)) h e = absurd (let z : ◌≡◌ {A = ℕ} 0 1 = cc in omega arith)

    first : (o : Option (List Cell)) → skip 1 cs ≡ o → second_term (length cs) o ≡ Some p → skip 2 cs ≡ Some []
    first None h e = absurd (let z : ◌≡◌ {A = ℕ} 0 1 = cc in omega arith)
    first (Some mid) h e = skip_more 1 1 cs mid h ∙ second mid (length cs - length mid) (skip 1 mid) refl e

pub entry_fit : (e : List Cell) → Sound e → all_fit e ≡ true
entry_fit e h =
    let s = two_skip e (second_of e) h.1 in
    fit_goals 0 2 e (ap is_some (goals_read 0 2 e [] s)) h.2

pub joined_fit : (es : List (List Cell)) → All Sound es → all_fit (joined es) ≡ true
joined_fit [] h = refl
joined_fit (e ∷ es) h = fit_append e (joined es) (entry_fit e (All-head Sound e es h)) (joined_fit es (All-tail Sound e es h))

pub joined_few : (es : List (List Cell)) → All Sound es → length (joined es) ≤ 32 * length es
joined_few [] h = omega arith
joined_few (e ∷ es) h =
    let n = length-append e (joined es) in
    let s = (All-head Sound e es h).0 in let r = joined_few es (All-tail Sound e es h) in omega arith

-- the equations that the entries spell
pub equations_of : (es : List (List Cell)) → All Sound es → (E : Eqs) × Spelt E es
equations_of [] h = ([], refl)
equations_of (e ∷ es) h = let p = spells e (All-head Sound e es h) in let r = equations_of es (All-tail Sound e es h) in (p.0 ∷ r.0, ap₂ ◌∷◌ p.1 r.1)

first_of : (x y : List Cell) (xs ys : List (List Cell)) → x ∷ xs ≡ y ∷ ys → (x ≡ y) × (xs ≡ ys)
first_of x y xs ys e = (ap (λ zs. get_or zs 0 []) e, ap (drop 1) e)

-- each stands where its places say
module _ (e : List Cell) (q : Equation) (rest pre post : List Cell) (s : spell_equation q ≡ e) (n : second_of e ≡ length (flat q.left)) where
  abbrev behind : List Cell
  behind = (e ++ rest) ++ post

  open_left : drop (length pre) (pre ++ behind) ≡ flat q.left ++ (flat q.right ++ (rest ++ post))
  open_left =
      drop_at pre behind (length pre) refl
      ∙ (append_assoc e rest post ∙ (ap (λ xs. xs ++ (rest ++ post)) (sym s) ∙ append_assoc (flat q.left) (flat q.right) (rest ++ post)))

  left_stands : Stands (pre ++ behind) (length pre) q.left
  left_stands = (flat q.right ++ (rest ++ post), open_left)

  right_stands : Stands (pre ++ behind) (length pre + second_of e) q.right
  right_stands = (
    rest ++ post,
    sym (drop-drop (second_of e) (length pre) (pre ++ behind))
        ∙ (ap (drop (second_of e)) open_left ∙ drop_at (flat q.left) (flat q.right ++ (rest ++ post)) (second_of e) (sym n)),
  )

pub spelt_at : (es : List (List Cell)) → All Sound es → (E : Eqs) → Spelt E es → (pre post : List Cell)
    → SpeltAt (pre ++ (joined es ++ post)) (places_from (length pre) es) E
spelt_at [] h [] s pre post = tt
spelt_at [] h (q ∷ E) s pre post = let z = ap length s in absurd (omega arith)
spelt_at (e ∷ es) h [] s pre post = let z = ap length s in absurd (omega arith)
spelt_at (e ∷ es) h (q ∷ E) s pre post =
    let f = first_of _ _ _ _ s in
    let n = second_place e (All-head Sound e es h) q f.0 in
    let rest = joined es in
    let k : length (pre ++ e) ≡ length pre + length e = length-append pre e in
    let m : (pre ++ e) ++ (rest ++ post) ≡ pre ++ ((e ++ rest) ++ post) = append_assoc pre e (rest ++ post) ∙ ap (λ xs. pre ++ xs) (sym (append_assoc e rest post)) in (
      left_stands e q rest pre post f.0 n,
      right_stands e q rest pre post f.0 n,
      subst (λ cs. SpeltAt cs (places_from (length pre + length e) es) E) m
          (subst (λ i. SpeltAt ((pre ++ e) ++ (rest ++ post)) (places_from i es) E) k (spelt_at es (All-tail Sound e es h) E f.1 (pre ++ e) post)),
    )

whole_term : (t : Term) → Whole (flat t)
whole_term t = subst Whole (append-nil (flat t)) (whole_terms (more t none))

pub loaded_whole : (es : List (List Cell)) (E : Eqs) → Spelt E es → Whole (joined es)
loaded_whole [] E s = whole_terms none
loaded_whole (e ∷ es) [] s = let z = ap length s in absurd (omega arith)
loaded_whole (e ∷ es) (q ∷ E) s =
    let f = first_of _ _ _ _ s in
    whole_append e (joined es) (subst Whole f.0 (whole_append (flat q.left) (flat q.right) (whole_term q.left) (whole_term q.right))) (loaded_whole es E f.1)

pub equations_below : (es : List (List Cell)) → All Sound es → (E : Eqs) → Spelt E es → EqsBelow 32 E
equations_below es h [] s = tt
equations_below [] h (q ∷ E) s = let z = ap length s in absurd (omega arith)
equations_below (e ∷ es) h (q ∷ E) s =
    let f = first_of _ _ _ _ s in
    (equation_below q (ap all_low f.0 ∙ (All-head Sound e es h).2), equations_below es (All-tail Sound e es h) E f.1)

-- The places.

abbrev places_at : (at : ℕ) (e : List Cell) → places.Equation
places_at at e = record { left = at; right = at + second_of e }

places_push : (at : ℕ) (es : List (List Cell)) (e : List Cell) → places_from at (es ++ (e ∷ [])) ≡ places_from at es ++ (places_at (at + length (joined es)) e ∷ [])
places_push at [] e = let z : at + 0 ≡ at = omega arith in ap (λ n. places_at n e ∷ []) (sym z)
places_push at (d ∷ ds) e =
    let n = length-append d (joined ds) in
    let z : at + length d + length (joined ds) ≡ at + length (joined (d ∷ ds)) = omega arith in
    ap (λ ps. places_at at d ∷ ps) (places_push (at + length d) ds e ∙ ap (λ n. places_from (at + length d) ds ++ (places_at n e ∷ [])) z)

places_take : (n at : ℕ) (es : List (List Cell)) → take n (places_from at es) ≡ places_from at (take n es)
places_take zero at es = refl
places_take (suc n) at [] = refl
places_take (suc n) at (e ∷ es) = ap (λ ps. places_at at e ∷ ps) (places_take n (at + length e) es)

places_left : (at n : ℕ) (es : List (List Cell)) (d : places.Equation) → n < length es → (get_or (places_from at es) n d).left ≡ at + length (joined (take n es))
places_left at n [] d h = absurd (omega arith)
places_left at zero (e ∷ es) d h = omega arith
places_left at (suc n) (e ∷ es) d h =
    let l = length-append e (joined (take n es)) in
    let r = places_left (at + length e) n es d (omega arith) in
    omega arith

next_is : (at n : ℕ) (es : List (List Cell)) → n ≡ at + length (joined es) → next_place (places_from at es) n ≡ at
next_is at n [] e = omega arith
next_is at n (x ∷ es) e = refl

-- the cells are cut where they were joined
cut_joined : (pre : List Cell) (es : List (List Cell)) → cut_at (places_from (length pre) es) (pre ++ joined es) ≡ es
cut_joined pre [] = refl
cut_joined pre (e ∷ es) = ap₂ ◌∷◌ first (rest (cut_joined (pre ++ e) es))
  where
    n : ℕ
    n = length pre + length e

    cells : List Cell
    cells = pre ++ (e ++ joined es)

    parted : cells ≡ (pre ++ e) ++ joined es
    parted = sym (append_assoc pre e (joined es))

    long : length (pre ++ e) ≡ n
    long = length-append pre e

    next : next_place (places_from n es) (length cells) ≡ n
    next = next_is n (length cells) es (ap length parted ∙ (length-append (pre ++ e) (joined es) ∙ ap (λ k. k + length (joined es)) long))

    first : drop (length pre) (take (next_place (places_from n es) (length cells)) cells) ≡ e
    first =
        ap (λ k. drop (length pre) (take k cells)) next
        ∙ (ap (λ xs. drop (length pre) (take n xs)) parted ∙ (ap (drop (length pre)) (take_at (pre ++ e) (joined es) n long) ∙ drop_at pre e (length pre) refl))

    rest : cut_at (places_from (length (pre ++ e)) es) ((pre ++ e) ++ joined es) ≡ es → cut_at (places_from n es) cells ≡ es
    rest again = ap (cut_at (places_from n es)) parted ∙ (ap (λ k. cut_at (places_from k es) ((pre ++ e) ++ joined es)) (sym long) ∙ again)

pub cut_length : (ps : List places.Equation) (cells : List Cell) → length (cut_at ps cells) ≡ length ps
cut_length [] cells = refl
cut_length (p ∷ ps) cells = ap suc (cut_length ps cells)

-- sound equations that are laid one after another are those that are cut out again
pub laid : (es : List (List Cell)) (cells : List Cell) (ps : List places.Equation) → All Sound es → cells ≡ joined es → ps ≡ places_from 0 es → (cut_at ps cells ≡ es) × Laid cells ps
laid es cells ps h w p =
    let e : cut_at ps cells ≡ es = ap₂ cut_at p w ∙ cut_joined [] es in
    (e, (subst (All Sound) (sym e) h, w ∙ ap joined (sym e), p ∙ ap (places_from 0) (sym e)))

pub laid_few : (cells : List Cell) (ps : List places.Equation) → Laid cells ps → length cells ≤ 32 * length ps
laid_few cells ps l = let n = joined_few (cut_at ps cells) l.0 in let m = ap length l.1 in let k = cut_length ps cells in omega arith

-- one equation more
pub laid_more : (cells new cells' : List Cell) (left second : ℕ) (ps ps' : List places.Equation) → Laid cells ps → Sound new → two_terms new ≡ Some second → left ≡ length cells → cells' ≡ cells ++ new
    → ps' ≡ ps ++ (record { left = left; right = left + second } ∷ []) → (cut_at ps' cells' ≡ cut_at ps cells ++ (new ∷ [])) × Laid cells' ps'
laid_more cells new cells' left second ps ps' l s t f c p =
    let es = cut_at ps cells in
    let at : 0 + length (joined es) ≡ left = let z = ap length l.1 in omega arith in
    let two : second ≡ second_of new = ap place_of (sym t) in
    let w : cells' ≡ joined (es ++ (new ∷ [])) = c ∙ (ap (λ xs. xs ++ new) l.1 ∙ flat_map_more (λ (xs : List Cell). xs) [] es new) in
    let q : ps' ≡ places_from 0 (es ++ (new ∷ [])) =
    p ∙ (ap₂ (λ qs (k : ℕ). qs ++ (record { left = left; right = left + k } ∷ [])) l.2 two
    ∙ (ap (λ (k : ℕ). places_from 0 es ++ (places_at k new ∷ [])) (sym at) ∙ sym (places_push 0 es new))) in
    laid (es ++ (new ∷ [])) cells' ps' (All-push Sound es new l.0 s) w q

-- the first equations alone
pub laid_less : (cells cells' : List Cell) (n : ℕ) (d : places.Equation) (ps ps' : List places.Equation) → Laid cells ps → n < length ps → cells' ≡ take ((get_or ps n d).left) cells → ps' ≡ take n ps
    → (cut_at ps' cells' ≡ take n (cut_at ps cells)) × Laid cells' ps'
laid_less cells cells' n d ps ps' l h c p =
    let es = cut_at ps cells in
    let k = cut_length ps cells in
    let left : (get_or ps n d).left ≡ length (joined (take n es)) = let z = ap (λ qs. (get_or qs n d).left) l.2 ∙ places_left 0 n es d (omega arith) in omega arith in
    let parted : cells ≡ joined (take n es) ++ joined (drop n es) = l.1 ∙ (ap joined (sym (take-append-drop n es)) ∙ flat_map-append (λ (xs : List Cell). xs) (take n es) (drop n es)) in
    let w : cells' ≡ joined (take n es) = c ∙ (ap₂ take left parted ∙ take_at (joined (take n es)) (joined (drop n es)) (length (joined (take n es))) refl) in
    let q : ps' ≡ places_from 0 (take n es) = p ∙ (ap (take n) l.2 ∙ places_take n 0 es) in
    laid (take n es) cells' ps' (All-take Sound n es l.0) w q

-- the cells of few sound equations have their place in a search in which none stand
pub has_room : (es : List (List Cell)) (before cells : List Cell) → All Sound es → length es ≤ 16 → before ≡ [] → cells ≡ joined es → stands before cells ≡ true
has_room es before cells h few b q =
    let n = joined_few es h in let m = ap length b in let k = ap length q in
    and_from (leb (length before + length cells) 512) _ (le-leb (length before + length cells) 512 (omega arith)) (ap all_fit q ∙ joined_fit es h)
