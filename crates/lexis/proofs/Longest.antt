-- The token at a place is the longest that fits there, and the only one.
use Rattle.std.proofs.Common.{◌≡◌, ℕ, suc, ◌+◌, ◌-◌, ◌<◌, ◌≤◌, Bool, true, cond, ◌&&◌, eqb, ltb, leb, List, [], ◌∷◌, ◌++◌, length, get_or, take, drop, Some, None, Option, sym, refl, ap, ◌∙◌, subst, inl, inr, not-suc-le-zero, add-zero, arith}
use Rattle.std.proofs.lemmas.List.{drop_more, drop-drop, get_or-drop, get_or_past, take_more, length-drop, length-take-le, take-append-drop, length_push, get_or_at, append_assoc}
use Rattle.std.proofs.lemmas.Bool.{cond-true, cond-false, cond_both, cases_Bool, cases_lt, eq-eqb, eqb-true, leb-true, ltb-true, le-leb, lt-ltb, and_parts, and_from}
use Rattle.lexis.specs.declared.token.Kind.{Kind}
use Rattle.lexis.specs.declared.token.Kind.TheVariants.{Name, Variable, Integer, Float, Text, Open, Close, Comma, Dot, Neck, Query}
use Rattle.lexis.specs.declared.class.Class.{Class}
use Rattle.lexis.specs.declared.class.Class.TheVariants.{Other, Blank, Lower, Upper, Mark, Visible}
use Rattle.lexis.specs.declared.class.Class.TheVariants as class
use Rattle.std.specs.List.{prefix_len}
use Rattle.std.proofs.lemmas.List.Sums.{prefix_len-le-length}
use Rattle.lexis.specs.Classes.{class_of, digit}
use Rattle.lexis.specs.Runs.{end_of, is_digit, is_hex, is_quoted, is_word}
use Rattle.lexis.specs.Tokens.{float_at, number_at, quoted_at, negative_at, arrow_at, by_mark, mark_at, by_class, shape_at}
use Rattle.lexis.specs.Worth.{word_of}
use Rattle.lexis.specs.Spelt.{All, Spelt, NoneAfter}
use Rattle.lexis.specs.Spelt.All.{none, more}
use Rattle.lexis.specs.Spelt.Spelt.{name, variable, digits, minus, float, quotes, opening, closing, comma, dot, neck, query}
use Rattle.lexis.proofs.Classed as kind
use Rattle.lexis.proofs.Fronts.{front_no, front_reach, front_exact, front_all}

-- the rest of the text, taken apart
pub rest_head : (text zs : List ℕ) (s b : ℕ) → drop s text ≡ b ∷ zs → get_or text s 0 ≡ b
rest_head text zs s b e = ap (λ i. get_or text i 0) (sym (add-zero s)) ∙ (sym (get_or-drop s text 0 0) ∙ ap (λ xs. get_or xs 0 0) e)

pub rest_tail : (text zs : List ℕ) (s b : ℕ) → drop s text ≡ b ∷ zs → drop (s + 1) text ≡ zs
rest_tail text zs s b e = sym (drop-drop 1 s text) ∙ ap (drop 1) e

present : (text : List ℕ) (i b : ℕ) → get_or text i 0 ≡ b → 0 < b → i < length text
present text i b e h =
    elim (cases_lt i (length text)) [
      | inl l ↦ l
      | inr l ↦ absurd (let z : 0 < 0 = subst (λ n. 0 < n) (sym e ∙ get_or_past text i 0 l) h in omega arith)
    ]

-- the bytes from a place on, with the first apart
word_from : (text : List ℕ) (s e n : ℕ) → s < length text → e ≡ s + 1 + n → word_of text s e ≡ get_or text s 0 ∷ take n (drop (s + 1) text)
unfolding word_of
word_from text s e n l h =
    let m : e - s ≡ suc n = omega arith in
    ap (λ i. take i (drop s text)) m ∙ ap (take (suc n)) (drop_more text s 0 l)

pub end_is : (run : ℕ → Bool) (text : List ℕ) (at : ℕ) → end_of run text at ≡ at + prefix_len run (drop at text)
unfolding end_of
end_is run text at = refl

end_within : (run : ℕ → Bool) (text : List ℕ) (at : ℕ) → at ≤ length text → (at ≤ end_of run text at) × (end_of run text at ≤ length text)
end_within run text at h = omega (arith, end_is run text at, prefix_len-le-length run (drop at text), length-drop at text)

-- a token of the shape stands from the place on
abbrev pub Sound : List ℕ → ℕ → Option (Kind × ℕ) → Type 0
Sound text s None = Unit {0}
Sound text s (Some w) = (s < w.1) × (w.1 ≤ length text) × Spelt w.0 (word_of text s w.1)

run_sound : (text : List ℕ) (s : ℕ) (run : ℕ → Bool) (k : Kind) → s < length text
    → ((w : List ℕ) → All run w → length w ≡ prefix_len run (drop (s + 1) text) → Spelt k (get_or text s 0 ∷ w)) → Sound text s (Some (k, end_of run text (s + 1)))
run_sound text s run k l f =
    let n = prefix_len run (drop (s + 1) text) in
    let b : (s + 1 ≤ end_of run text (s + 1)) × (end_of run text (s + 1) ≤ length text) = end_within run text (s + 1) (omega arith) in
    (omega arith, b.1, subst (Spelt k) (sym (word_from text s (end_of run text (s + 1)) n l (end_is run text (s + 1)))) (f (take n (drop (s + 1) text)) (front_all run n (drop (s + 1) text) (omega arith)) (length-take-le n (drop (s + 1) text) (prefix_len-le-length run (drop (s + 1) text)))))

mark_sound : (text : List ℕ) (s b : ℕ) (k : Kind) → s < length text → get_or text s 0 ≡ b → Spelt k (b ∷ []) → Sound text s (Some (k, s + 1))
mark_sound text s b k l e f = (omega arith, omega arith, subst (Spelt k) (ap (λ x. x ∷ []) (sym e) ∙ sym (word_from text s (s + 1) 0 l (omega arith))) f)

two_from : (text : List ℕ) (s b c : ℕ) → s < length text → get_or text s 0 ≡ b → get_or text (s + 1) 0 ≡ c → 0 < c → drop s text ≡ b ∷ c ∷ drop (s + 2) text
two_from text s b c l e f h =
    let n : s + 1 + 1 ≡ s + 2 = omega arith in
    drop_more text s 0 l ∙ (ap (λ x. x ∷ drop (s + 1) text) e
    ∙ ap (λ xs. b ∷ xs) (drop_more text (s + 1) 0 (present text (s + 1) c f h) ∙ (ap (λ x. x ∷ drop (s + 1 + 1) text) f ∙ ap (λ i. c ∷ drop i text) n)))

word_of_lem : (text xs : List ℕ) (s e n : ℕ) → drop s text ≡ xs → e ≡ s + n → word_of text s e ≡ take n xs
unfolding word_of
word_of_lem text xs s e n d h = let m : e - s ≡ n = omega arith in ap (λ i. take i (drop s text)) m ∙ ap (take n) d

arrow_sound : (text : List ℕ) (s b : ℕ) (k : Kind) → s < length text → get_or text s 0 ≡ b → Spelt k (b ∷ 45 ∷ []) → Sound text s (arrow_at text s k)
arrow_sound text s b k l e f =
    cond_both (eqb (get_or text (s + 1) 0) 45) (Some (k, s + 2)) None (Sound text s)
    (λ t.
    let c = eqb-true (get_or text (s + 1) 0) 45 t in
    let l2 = present text (s + 1) 45 c (omega arith) in
    (omega arith, omega arith, subst (Spelt k) (sym (word_of_lem text (b ∷ 45 ∷ drop (s + 2) text) s (s + 2) 2 (two_from text s b 45 l e c (omega arith)) refl)) f))
    (λ _. tt)

minus_digits : (w : List ℕ) → All is_digit w → 0 < length w → Spelt Integer (45 ∷ w)
minus_digits w none h = absurd (not-suc-le-zero h)
minus_digits w (more {b = b} e a) h = minus (kind.is_digit (class_of b) e) a

negative_sound : (text : List ℕ) (s : ℕ) → s < length text → get_or text s 0 ≡ 45 → Sound text s (negative_at text s)
negative_sound text s l e =
    cond_both (ltb (s + 1) (end_of is_digit text (s + 1))) (Some (Integer, end_of is_digit text (s + 1))) None (Sound text s)
    (λ t.
    let h = ltb-true (s + 1) (end_of is_digit text (s + 1)) t in
    run_sound text s is_digit Integer l (λ w a n. subst (λ b. Spelt Integer (b ∷ w)) (sym e) (minus_digits w a (omega (arith, end_is is_digit text (s + 1))))))
    (λ _. tt)

quoted_sound : (text : List ℕ) (s : ℕ) → s < length text → get_or text s 0 ≡ 34 → Sound text s (quoted_at text s)
quoted_sound text s l e =
    cond_both (eqb (get_or text (end_of is_quoted text (s + 1)) 0) 34) (Some (Text, end_of is_quoted text (s + 1) + 1)) None (Sound text s)
    (λ t.
    let ys = drop (s + 1) text in
    let n = prefix_len is_quoted ys in
    let q = eqb-true (get_or text (end_of is_quoted text (s + 1)) 0) 34 t in
    let i = end_is is_quoted text (s + 1) in
    let m = present text (end_of is_quoted text (s + 1)) 34 q (omega arith) in
    let short : n < length ys = omega (arith, length-drop (s + 1) text) in
    let close : get_or ys n 0 ≡ 34 = get_or-drop (s + 1) text n 0 ∙ (ap (λ j. get_or text j 0) (sym i) ∙ q) in
    let w : word_of text s (end_of is_quoted text (s + 1) + 1) ≡ 34 ∷ take n ys ++ 34 ∷ [] =
    word_from text s (end_of is_quoted text (s + 1) + 1) (n + 1) l (omega arith)
    ∙ (ap (λ b. b ∷ take (n + 1) ys) e ∙ ap (λ xs. 34 ∷ xs) (take_more ys n 0 short ∙ ap (λ b. take n ys ++ b ∷ []) close)) in
    (omega arith, omega arith, subst (Spelt Text) (sym w) (quotes (front_all is_quoted n ys (omega arith)))))
    (λ _. tt)

float_sound : (text : List ℕ) (s : ℕ) → s < length text → float_at text s ≡ true → Sound text s (Some (Float, s + 10))
float_sound text s l t =
    let a = and_parts (eqb (get_or text s 0) 48) (eqb (get_or text (s + 1) 0) 102 && leb (s + 10) (end_of is_hex text (s + 2))) t in
    let b = and_parts (eqb (get_or text (s + 1) 0) 102) (leb (s + 10) (end_of is_hex text (s + 2))) a.1 in
    let zs = drop (s + 2) text in
    let x = eqb-true (get_or text s 0) 48 a.0 in
    let y = eqb-true (get_or text (s + 1) 0) 102 b.0 in
    let z = leb-true (s + 10) (end_of is_hex text (s + 2)) b.1 in
    let far : 8 ≤ prefix_len is_hex zs = omega (arith, end_is is_hex text (s + 2)) in
    let within : 8 ≤ length zs = omega (arith, prefix_len-le-length is_hex zs) in
    let m = present text (s + 1) 102 y (omega arith) in
    let w : word_of text s (s + 10) ≡ 48 ∷ 102 ∷ take 8 zs = word_of_lem text (48 ∷ 102 ∷ zs) s (s + 10) 10 (two_from text s 48 102 l x y (omega arith)) refl in
    (omega arith, omega (arith, length-drop (s + 2) text), subst (Spelt Float) (sym w) (float (length-take-le 8 zs within) (front_all is_hex 8 zs far)))

number_sound : (text : List ℕ) (s : ℕ) → s < length text → class_of (get_or text s 0) ≡ class.Digit → Sound text s (Some (number_at text s))
number_sound text s l e =
    cond_both (float_at text s) (Float, s + 10) (Integer, end_of is_digit text (s + 1)) (λ w. Sound text s (Some w))
    (float_sound text s l)
    (λ _. run_sound text s is_digit Integer l (λ w a _. digits e a))

at_byte : (text : List ℕ) (s b : ℕ) (x y : Option (Kind × ℕ)) → (get_or text s 0 ≡ b → Sound text s x) → Sound text s y → Sound text s (cond (eqb (get_or text s 0) b) x y)
at_byte text s b x y f g = cond_both (eqb (get_or text s 0) b) x y (Sound text s) (λ t. f (eqb-true (get_or text s 0) b t)) (λ _. g)

marks_sound : (text : List ℕ) (s : ℕ) → s < length text → Sound text s (mark_at text s)
marks_sound text s l =
    at_byte text s 40 _ _ (λ e. mark_sound text s 40 Open l e opening)
    (at_byte text s 41 _ _ (λ e. mark_sound text s 41 Close l e closing)
    (at_byte text s 44 _ _ (λ e. mark_sound text s 44 Comma l e comma)
    (at_byte text s 46 _ _ (λ e. mark_sound text s 46 Dot l e dot)
    (at_byte text s 58 _ _ (λ e. arrow_sound text s 58 Neck l e neck)
    (at_byte text s 63 _ _ (λ e. arrow_sound text s 63 Query l e query)
    (at_byte text s 45 _ _ (negative_sound text s l)
    (at_byte text s 34 _ _ (quoted_sound text s l) tt)))))))

class_sound : (text : List ℕ) (s : ℕ) → s < length text → (c : Class) → class_of (get_or text s 0) ≡ c → Sound text s (by_class text s c)
class_sound text s l class.Digit e = number_sound text s l e
class_sound text s l Lower e = run_sound text s is_word Name l (λ w a _. name e a)
class_sound text s l Upper e = run_sound text s is_word Variable l (λ w a _. variable e a)
class_sound text s l Mark e = marks_sound text s l
class_sound text s l Other e = tt
class_sound text s l Blank e = tt
class_sound text s l Visible e = tt

pub shape_sound : (text : List ℕ) (s : ℕ) → s < length text → Sound text s (shape_at text s)
shape_sound text s l = class_sound text s l (class_of (get_or text s 0)) refl

-- the shape at a place reaches as far as the end, and is of the kind where it ends there
abbrev pub Reach : ℕ → Kind → Option (Kind × ℕ) → Type 0
Reach e k o = (w : Kind × ℕ) × (o ≡ Some w) × (e ≤ w.1) × (e ≡ w.1 → k ≡ w.0)

pub of_class : (text : List ℕ) (s : ℕ) (c : Class) → class_of (get_or text s 0) ≡ c → shape_at text s ≡ by_class text s c
of_class text s c e = ap (by_class text s) e

of_mark : (text : List ℕ) (s b : ℕ) → class_of b ≡ Mark → get_or text s 0 ≡ b → shape_at text s ≡ by_mark text s b
of_mark text s b c e = of_class text s Mark (ap class_of e ∙ c) ∙ ap (by_mark text s) e

one_mark : (text rest : List ℕ) (s b : ℕ) (k : Kind) → class_of b ≡ Mark → by_mark text s b ≡ Some (k, s + 1) → drop s text ≡ b ∷ rest → Reach (s + 1) k (shape_at text s)
one_mark text rest s b k c m d = ((k, s + 1), of_mark text s b c (rest_head text rest s b d) ∙ m, omega arith, λ _. refl)

two_marks : (text rest : List ℕ) (s b : ℕ) (k : Kind) → class_of b ≡ Mark → by_mark text s b ≡ arrow_at text s k → drop s text ≡ b ∷ 45 ∷ rest → Reach (s + 2) k (shape_at text s)
two_marks text rest s b k c m d =
    let n = rest_head text rest (s + 1) 45 (rest_tail text (45 ∷ rest) s b d) in (
      (k, s + 2),
      of_mark text s b c (rest_head text (45 ∷ rest) s b d) ∙ (m ∙ cond-true (eqb (get_or text (s + 1) 0) 45) (Some (k, s + 2)) None (eq-eqb (get_or text (s + 1) 0) 45 n)),
      omega arith,
      λ _. refl,
    )

run_reach : (text w rest : List ℕ) (s b : ℕ) (run : ℕ → Bool) → All run w → drop s text ≡ b ∷ w ++ rest → s + suc (length w) ≤ end_of run text (s + 1)
run_reach text w rest s b run a d =
    let t : prefix_len run (drop (s + 1) text) ≡ prefix_len run (w ++ rest) = ap (prefix_len run) (rest_tail text (w ++ rest) s b d) in
    omega (arith, end_is run text (s + 1), front_reach run w rest a)

digits_reach : (text w rest : List ℕ) (s b : ℕ) → class_of b ≡ class.Digit → All is_digit w → drop s text ≡ b ∷ w ++ rest → Reach (s + suc (length w)) Integer (shape_at text s)
unfolding class_of
digits_reach text w rest s b c a d =
    let reach = run_reach text w rest s b is_digit a d in
    let shape = of_class text s class.Digit (ap class_of (rest_head text (w ++ rest) s b d) ∙ c) in
    elim (cases_Bool (float_at text s)) [
      | inl t ↦
          let p = and_parts (eqb (get_or text s 0) 48) (eqb (get_or text (s + 1) 0) 102 && leb (s + 10) (end_of is_hex text (s + 2))) t in
          let q = and_parts (eqb (get_or text (s + 1) 0) 102) (leb (s + 10) (end_of is_hex text (s + 2))) p.1 in
          let f = eqb-true (get_or text (s + 1) 0) 102 q.0 in
          let l = present text (s + 1) 102 f (omega arith) in
          let n : prefix_len is_digit (drop (s + 1) text) ≡ 0 = ap (prefix_len is_digit) (drop_more text (s + 1) 0 l) ∙ front_no is_digit (get_or text (s + 1) 0) (drop (s + 1 + 1) text) (ap is_digit f) in
          let short : length w ≡ 0 = omega (arith, end_is is_digit text (s + 1)) in
          ((Float, s + 10), shape ∙ ap Some (cond-true (float_at text s) (Float, s + 10) (Integer, end_of is_digit text (s + 1)) t), omega arith, λ h. absurd (omega arith))
      | inr t ↦ ((Integer, end_of is_digit text (s + 1)), shape ∙ ap Some (cond-false (float_at text s) (Float, s + 10) (Integer, end_of is_digit text (s + 1)) t), reach, λ _. refl)
    ]

minus_reach : (text w rest : List ℕ) (s b : ℕ) → class_of b ≡ class.Digit → All is_digit w → drop s text ≡ 45 ∷ b ∷ w ++ rest → Reach (s + suc (suc (length w))) Integer (shape_at text s)
unfolding class_of
minus_reach text w rest s b c a d =
    let reach = run_reach text (b ∷ w) rest s 45 is_digit (more (ap digit c) a) d in (
      (Integer, end_of is_digit text (s + 1)),
      of_mark text s 45 refl (rest_head text (b ∷ w ++ rest) s 45 d)
          ∙ cond-true (ltb (s + 1) (end_of is_digit text (s + 1))) (Some (Integer, end_of is_digit text (s + 1))) None (lt-ltb (s + 1) (end_of is_digit text (s + 1)) (omega arith)),
      reach,
      λ _. refl,
    )

float_reach : (text w rest : List ℕ) (s : ℕ) → length w ≡ 8 → All is_hex w → drop s text ≡ 48 ∷ 102 ∷ w ++ rest → Reach (s + suc (suc (length w))) Float (shape_at text s)
unfolding class_of
float_reach text w rest s n a d =
    let one = rest_head text (102 ∷ w ++ rest) s 48 d in
    let next = rest_tail text (102 ∷ w ++ rest) s 48 d in
    let two = rest_head text (w ++ rest) (s + 1) 102 next in
    let i : s + 2 ≡ s + 1 + 1 = omega arith in
    let last : drop (s + 2) text ≡ w ++ rest = ap (λ j. drop j text) i ∙ rest_tail text (w ++ rest) (s + 1) 102 next in
    let far : 8 ≤ prefix_len is_hex (drop (s + 2) text) = omega (arith, ap (prefix_len is_hex) last, front_reach is_hex w rest a) in
    let far2 : s + 10 ≤ end_of is_hex text (s + 2) = omega (arith, end_is is_hex text (s + 2)) in
    let t : float_at text s ≡ true =
    and_from (eqb (get_or text s 0) 48) (eqb (get_or text (s + 1) 0) 102 && leb (s + 10) (end_of is_hex text (s + 2))) (eq-eqb (get_or text s 0) 48 one)
    (and_from (eqb (get_or text (s + 1) 0) 102) (leb (s + 10) (end_of is_hex text (s + 2))) (eq-eqb (get_or text (s + 1) 0) 102 two) (le-leb (s + 10) (end_of is_hex text (s + 2)) far2)) in
    ((Float, s + 10), of_class text s class.Digit (ap class_of one) ∙ ap Some (cond-true (float_at text s) (Float, s + 10) (Integer, end_of is_digit text (s + 1)) t), omega arith, λ _. refl)

quotes_reach : (text w rest : List ℕ) (s : ℕ) → All is_quoted w → drop s text ≡ 34 ∷ (w ++ 34 ∷ []) ++ rest → Reach (s + suc (length (w ++ 34 ∷ []))) Text (shape_at text s)
unfolding class_of
quotes_reach text w rest s a d =
    let next : drop (s + 1) text ≡ w ++ 34 ∷ rest = rest_tail text ((w ++ 34 ∷ []) ++ rest) s 34 d ∙ append_assoc w (34 ∷ []) rest in
    let e : end_of is_quoted text (s + 1) ≡ s + 1 + length w = end_is is_quoted text (s + 1) ∙ ap (λ n. s + 1 + n) (ap (prefix_len is_quoted) next ∙ front_exact is_quoted w 34 rest a refl) in
    let close : get_or text (end_of is_quoted text (s + 1)) 0 ≡ 34 =
    ap (λ i. get_or text i 0) e ∙ (sym (get_or-drop (s + 1) text (length w) 0) ∙ (ap (λ xs. get_or xs (length w) 0) next ∙ get_or_at w 34 rest 0 (length w) refl)) in (
      (Text, end_of is_quoted text (s + 1) + 1),
      of_mark text s 34 refl (rest_head text ((w ++ 34 ∷ []) ++ rest) s 34 d)
          ∙ cond-true (eqb (get_or text (end_of is_quoted text (s + 1)) 0) 34) (Some (Text, end_of is_quoted text (s + 1) + 1)) None (eq-eqb (get_or text (end_of is_quoted text (s + 1)) 0) 34 close),
      omega (arith, length_push w 34),
      λ _. refl,
    )

pub shape_reach : (text w rest : List ℕ) (s : ℕ) (k : Kind) → Spelt k w → drop s text ≡ w ++ rest → Reach (s + length w) k (shape_at text s)
unfolding class_of
shape_reach text _ rest s k (name {b = b} {w = w} c a) d =
    ((Name, end_of is_word text (s + 1)), of_class text s Lower (ap class_of (rest_head text (w ++ rest) s b d) ∙ c), run_reach text w rest s b is_word a d, λ _. refl)
shape_reach text _ rest s k (variable {b = b} {w = w} c a) d =
    ((Variable, end_of is_word text (s + 1)), of_class text s Upper (ap class_of (rest_head text (w ++ rest) s b d) ∙ c), run_reach text w rest s b is_word a d, λ _. refl)
shape_reach text _ rest s k (digits {b = b} {w = w} c a) d = digits_reach text w rest s b c a d
shape_reach text _ rest s k (minus {b = b} {w = w} c a) d = minus_reach text w rest s b c a d
shape_reach text _ rest s k (float {w = w} n a) d = float_reach text w rest s n a d
shape_reach text _ rest s k (quotes {w = w} a) d = quotes_reach text w rest s a d
shape_reach text _ rest s k opening d = one_mark text rest s 40 Open refl refl d
shape_reach text _ rest s k closing d = one_mark text rest s 41 Close refl refl d
shape_reach text _ rest s k comma d = one_mark text rest s 44 Comma refl refl d
shape_reach text _ rest s k dot d = one_mark text rest s 46 Dot refl refl d
shape_reach text _ rest s k neck d = two_marks text rest s 58 Neck refl refl d
shape_reach text _ rest s k query d = two_marks text rest s 63 Query refl refl d

pub reach_at : (text : List ℕ) (s e : ℕ) (k : Kind) → s ≤ e → e ≤ length text → Spelt k (word_of text s e) → Reach e k (shape_at text s)
unfolding word_of
reach_at text s e k l h sp =
    let w = take (e - s) (drop s text) in
    let n : length w ≡ e - s = length-take-le (e - s) (drop s text) (omega (arith, length-drop s text)) in
    let m : s + length w ≡ e = omega arith in
    subst (λ i. Reach i k (shape_at text s)) m (shape_reach text w (drop (e - s) (drop s text)) s k sp (sym (take-append-drop (e - s) (drop s text))))

pub none_longer : (text : List ℕ) (s : ℕ) (w : Kind × ℕ) → shape_at text s ≡ Some w → s ≤ w.1 → NoneAfter text s w.1
none_longer text s w h l k e lt le sp =
    let r = reach_at text s e k (omega arith) le sp in
    let same : r.0 ≡ w = cc (h, r.1) in
    let far : e ≤ w.1 = subst (λ v. e ≤ v.1) same r.2 in
    omega arith

pub none_begins : (text : List ℕ) (s : ℕ) → shape_at text s ≡ None → NoneAfter text s s
none_begins text s h k e lt le sp =
    let r = reach_at text s e k (omega arith) le sp in
    let z : ◌≡◌ {A = ℕ} 0 1 = cc (h, r.1) in
    omega arith
