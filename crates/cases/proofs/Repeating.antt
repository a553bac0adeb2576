use Rattle.std.proofs.Common.{◌≡◌, ℕ, zero, suc, ◌+◌, ◌-◌, ◌*◌, ◌^◌, ◌<◌, ◌≤◌, min, List, ◌++◌, length, get_or, take, drop, Some, None, sym, ap, ◌∙◌, append_assoc, append-nil, add-one, arith, length-drop}
use lib.Bits.{bit_and}
use Rattle.std.proofs.lemmas.List.{drop_more, drop_all}
use Rattle.std.proofs.lemmas.Bool.{ne_eqb, eq-eqb}
use Rattle.cases.specs.Escapes.{unescaped}
use Rattle.cases.specs.Marks.{mark_in}
use Rattle.cases.specs.Repeats.{times_of, body_of, rounds, repeated, decoded_in}

pub times_stop : (t : List ℕ) (i n : ℕ) → i < length t → get_or t i 0 ≡ 58 → times_of n (drop i t) ≡ n
times_stop t i n h e = ap (times_of n) (drop_more t i 0 h) ∙ rw (eq-eqb (get_or t i 0) 58 e)

pub times_more : (t : List ℕ) (i n m : ℕ) → i < length t → (get_or t i 0 ≡ 58 → ⊥) → m ≡ min (n * 10 + bit_and (get_or t i 0) 15) (2 ^ 64 - 1) → times_of n (drop i t) ≡ times_of m (drop (i + 1) t)
times_more t i n m h e f = ap (times_of n) (drop_more t i 0 h) ∙ rw (ne_eqb (get_or t i 0) 58 e) (ap (λ x. times_of x (drop (i + 1) t)) (sym f))

pub times_end : (t : List ℕ) (i n : ℕ) → length t ≤ i → times_of n (drop i t) ≡ n
times_end t i n h = ap (times_of n) (drop_all i t h)

pub body_stop : (t : List ℕ) (i : ℕ) → i < length t → get_or t i 0 ≡ 58 → body_of (drop i t) ≡ drop (i + 1) t
body_stop t i h e = ap body_of (drop_more t i 0 h) ∙ rw (eq-eqb (get_or t i 0) 58 e)

pub body_more : (t : List ℕ) (i : ℕ) → i < length t → (get_or t i 0 ≡ 58 → ⊥) → body_of (drop i t) ≡ body_of (drop (i + 1) t)
body_more t i h e = ap body_of (drop_more t i 0 h) ∙ rw (ne_eqb (get_or t i 0) 58 e)

pub body_end : (t : List ℕ) (i : ℕ) → length t ≤ i → body_of (drop i t) ≡ drop (length t) t
body_end t i h = ap body_of (drop_all i t h) ∙ sym (drop_all (length t) t (omega arith))

pub rounds_more : (body : List ℕ) (n : ℕ) (v w x : List ℕ) → w ≡ v ++ rounds body n → x ≡ w ++ unescaped n body → x ≡ v ++ rounds body (n + 1)
rounds_more body n v w x a b = rw add-one (b ∙ (ap (λ y. y ++ unescaped n body) a ∙ append_assoc v (rounds body n) (unescaped n body)))

pub rounds_all : (t : List ℕ) (from times n : ℕ) (v w : List ℕ) → drop from t ≡ body_of t → times ≡ times_of 0 t → n ≡ times → w ≡ v ++ rounds (drop from t) n → w ≡ v ++ repeated t
unfolding repeated
rounds_all t from times n v w a b c e = e ∙ (ap (λ x. v ++ rounds x n) a ∙ ap (λ x. v ++ rounds (body_of t) x) (c ∙ b))

pub decode_last : (k : ℕ) (t : List ℕ) → length t < k → mark_in 123 0 t ≡ None → decoded_in k t ≡ unescaped 0 t
decode_last zero t h e = absurd (omega arith)
decode_last (suc k) t h e = rw e

pub decode_open : (k : ℕ) (t : List ℕ) (start : ℕ) → length t < k → mark_in 123 0 t ≡ Some start → mark_in 125 0 (drop (start + 2) t) ≡ None
    → decoded_in k t ≡ unescaped 0 (take start t)
decode_open zero t start h e f = absurd (omega arith)
decode_open (suc k) t start h e f = rw (e, f) (append-nil (unescaped 0 (take start t)))

pub decode_more : (k : ℕ) (t : List ℕ) (start end : ℕ) → length t < k → mark_in 123 0 t ≡ Some start → mark_in 125 0 (drop (start + 2) t) ≡ Some end → start + 2 ≤ length t
    → (j : ℕ) × (length (drop (end + 2) (drop (start + 2) t)) < j)
    × (decoded_in k t ≡ unescaped 0 (take start t) ++ (repeated (take end (drop (start + 2) t)) ++ decoded_in j (drop (end + 2) (drop (start + 2) t))))
decode_more zero t start end h e f b = absurd (omega arith)
decode_more (suc k) t start end h e f b = (k, simp length-drop (omega arith), rw (e, f))

-- two additions, one after the other
pub carried_two : (v w x a b u rest all : List ℕ) → w ≡ v ++ a → x ≡ w ++ b → u ≡ a ++ (b ++ rest) → v ++ u ≡ all → x ++ rest ≡ all
carried_two v w x a b u rest all p q s h =
    ap (λ y. y ++ rest) q ∙ (append_assoc w b rest ∙ (ap (λ y. y ++ (b ++ rest)) p ∙ (append_assoc v a (b ++ rest) ∙ (ap (λ y. v ++ y) (sym s) ∙ h))))
