-- A token that ends before a dot, or is it, is told by the bytes up to that dot.
use Rattle.std.proofs.Common.{◌≡◌, ℕ, zero, suc, ◌+◌, ◌-◌, ◌<◌, ◌≤◌, min, Bool, true, false, List, [], ◌∷◌, ◌++◌, length, get_or, take, drop, Ok, Result, sym, refl, ap, ◌∙◌, subst, inl, inr, not-suc-le-zero, arith}
use Rattle.std.proofs.lemmas.List.{get_or-take, get_or-drop, take-take, drop-take, length-take, length-drop, length-take-le, length_push, get_or_append_left, get_or_push}
use Rattle.std.proofs.lemmas.Bool.{cases_lt, both_ways}
use Rattle.lexis.specs.declared.class.Class.{Class}
use Rattle.lexis.specs.declared.class.Class.TheVariants.{Other, Blank, Digit, Lower, Upper, Mark, Visible}
use Rattle.lexis.specs.Classes.{class_of}
use Rattle.lexis.specs.Runs.{is_digit, is_hex, is_quoted, is_word}
use Rattle.lexis.specs.Tokens.{token_at}
use Rattle.lexis.specs.Worth.{word_of}
use Rattle.lexis.specs.Spelt.{All, Spelt, BlanksTo, NoneAfter, Longest}
use Rattle.lexis.specs.Spelt.All.{none, more}
use Rattle.lexis.specs.Spelt.Spelt.{name, variable, digits, minus, float, quotes, opening, closing, comma, dot, neck, query}
use Rattle.lexis.specs.Spelt.Longest.{stands, ends, refused}
use Rattle.lexis.specs.declared.fault.Fault.{Fault}
use Rattle.lexis.specs.declared.token.Token.{Token}
use Rattle.lexis.specs.declared.token.Kind.{Kind}
use Rattle.lexis.specs.declared.token.Kind.TheVariants.{End}
use Rattle.lexis.proofs.Scans.{token_longest, only_longest}
use Rattle.grammar.proofs.States.{never, ok_same}

pub byte_same : (text other : List ℕ) (end i : ℕ) → take end text ≡ take end other → i < end → get_or text i 0 ≡ get_or other i 0
byte_same text other end i h l = sym (get_or-take end text i 0 l) ∙ (ap (λ xs. get_or xs i 0) h ∙ get_or-take end other i 0 l)

-- the bytes up to a place, from another on
word_cut : (text : List ℕ) (a b end : ℕ) → a ≤ b → b ≤ end → word_of text a b ≡ drop a (take b (take end text))
unfolding word_of
word_cut text a b end l h =
    let m : a + (b - a) ≡ b = omega arith in
    sym (drop-take a (b - a) text) ∙ (ap (λ i. drop a (take i text)) m ∙ ap (drop a) (sym (take-take b end text h)))

word_empty : (text : List ℕ) (a b : ℕ) → b ≤ a → word_of text a b ≡ []
unfolding word_of
word_empty text a b l = let m : b - a ≡ 0 = omega arith in ap (λ i. take i (drop a text)) m

pub word_same : (text other : List ℕ) (a b end : ℕ) → take end text ≡ take end other → b ≤ end → word_of text a b ≡ word_of other a b
word_same text other a b end h l =
    elim (cases_lt a b) [
      | inl lt ↦ word_cut text a b end (omega arith) l ∙ (ap (λ xs. drop a (take b xs)) h ∙ sym (word_cut other a b end (omega arith) l))
      | inr ge ↦ word_empty text a b ge ∙ sym (word_empty other a b ge)
    ]

pub long_enough : (text other : List ℕ) (end : ℕ) → take end text ≡ take end other → end ≤ length text → end ≤ length other
long_enough text other end h l = omega (arith, ap length h, length-take end text, length-take end other)

pub word_length : (text : List ℕ) (a b : ℕ) → a ≤ b → b ≤ length text → length (word_of text a b) ≡ b - a
unfolding word_of
word_length text a b l h = length-take-le (b - a) (drop a text) (omega (arith, length-drop a text))

pub word_byte : (text : List ℕ) (a b i : ℕ) → a ≤ i → i < b → get_or (word_of text a b) (i - a) 0 ≡ get_or text i 0
unfolding word_of
word_byte text a b i l h =
    let m : a + (i - a) ≡ i = omega arith in
    get_or-take (b - a) (drop a text) (i - a) 0 (omega arith) ∙ (get_or-drop a text (i - a) 0 ∙ ap (λ j. get_or text j 0) m)

all_at : (p : ℕ → Bool) (w : List ℕ) (i : ℕ) → All p w → i < length w → p (get_or w i 0) ≡ true
all_at p w i none h = absurd (not-suc-le-zero h)
all_at p w zero (more e a) h = e
all_at p w (suc i) (more {bs = bs} e a) h = all_at p bs i a (omega arith)

-- a byte that fails a test is not among bytes that pass it
not_among : (p : ℕ → Bool) (w : List ℕ) (i b : ℕ) → All p w → i < length w → get_or w i 0 ≡ b → p b ≡ false → ⊥
not_among p w i b a h e n = both_ways (p b) n (ap p (sym e) ∙ all_at p w i a h)

abbrev rank : Class → ℕ
rank Other = 0
rank Blank = 1
rank Digit = 2
rank Lower = 3
rank Upper = 4
rank Mark = 5
rank Visible = 6

apart : (b : ℕ) (c : Class) (k : ℕ) → class_of b ≡ c → b ≡ k → (rank (class_of k) ≡ rank c → ⊥) → ⊥
apart b c k e h n = n (ap rank (ap class_of (sym h) ∙ e))

-- bytes in quotes
pub record Quotes (w : List ℕ) : Type 0 where
  pub inner : List ℕ
  pub is : w ≡ 34 ∷ inner ++ 34 ∷ []
  pub clean : All is_quoted inner

-- of the tokens only strings have a dot before their last byte
dot_inside : (k : Kind) (w : List ℕ) (i : ℕ) → Spelt k w → suc i < length w → get_or w i 0 ≡ 46 → Quotes w
unfolding class_of
dot_inside k w zero (name {b = b} c a) h e = absurd (apart b Lower 46 c e (λ z. omega arith))
dot_inside k w (suc i) (name {w = v} c a) h e = absurd (not_among is_word v i 46 a (omega arith) e refl)
dot_inside k w zero (variable {b = b} c a) h e = absurd (apart b Upper 46 c e (λ z. omega arith))
dot_inside k w (suc i) (variable {w = v} c a) h e = absurd (not_among is_word v i 46 a (omega arith) e refl)
dot_inside k w zero (digits {b = b} c a) h e = absurd (apart b Digit 46 c e (λ z. omega arith))
dot_inside k w (suc i) (digits {w = v} c a) h e = absurd (not_among is_digit v i 46 a (omega arith) e refl)
dot_inside k w zero (minus c a) h e = absurd (omega arith)
dot_inside k w (suc zero) (minus {b = b} c a) h e = absurd (apart b Digit 46 c e (λ z. omega arith))
dot_inside k w (suc (suc i)) (minus {w = v} c a) h e = absurd (not_among is_digit v i 46 a (omega arith) e refl)
dot_inside k w zero (float n a) h e = absurd (omega arith)
dot_inside k w (suc zero) (float n a) h e = absurd (omega arith)
dot_inside k w (suc (suc i)) (float {w = v} n a) h e = absurd (not_among is_hex v i 46 a (omega arith) e refl)
dot_inside k w i (quotes {w = v} a) h e = record { inner = v; is = refl; clean = a }
dot_inside k w i opening h e = absurd (omega arith)
dot_inside k w i closing h e = absurd (omega arith)
dot_inside k w i comma h e = absurd (omega arith)
dot_inside k w i dot h e = absurd (omega arith)
dot_inside k w zero neck h e = absurd (omega arith)
dot_inside k w (suc i) neck h e = absurd (omega arith)
dot_inside k w zero query h e = absurd (omega arith)
dot_inside k w (suc i) query h e = absurd (omega arith)

-- only strings begin with a quote
quote_first : (k : Kind) (w : List ℕ) → Spelt k w → get_or w 0 0 ≡ 34 → Quotes w
unfolding class_of
quote_first k w (name {b = b} c a) e = absurd (apart b Lower 34 c e (λ z. omega arith))
quote_first k w (variable {b = b} c a) e = absurd (apart b Upper 34 c e (λ z. omega arith))
quote_first k w (digits {b = b} c a) e = absurd (apart b Digit 34 c e (λ z. omega arith))
quote_first k w (minus c a) e = absurd (omega arith)
quote_first k w (float n a) e = absurd (omega arith)
quote_first k w (quotes {w = v} a) e = record { inner = v; is = refl; clean = a }
quote_first k w opening e = absurd (omega arith)
quote_first k w closing e = absurd (omega arith)
quote_first k w comma e = absurd (omega arith)
quote_first k w dot e = absurd (omega arith)
quote_first k w neck e = absurd (omega arith)
quote_first k w query e = absurd (omega arith)

quotes_length : (w : List ℕ) (q : Quotes w) → length w ≡ length q.inner + 2
quotes_length w q = omega (arith, ap length q.is, length_push q.inner 34)

-- a string's last byte is a quote, and no other after the first is
quotes_last : (w : List ℕ) (q : Quotes w) → get_or w (length w - 1) 0 ≡ 34
quotes_last w q =
    let l = quotes_length w q in
    let m : length w - 1 ≡ suc (length q.inner) = omega arith in
    ap (λ i. get_or w i 0) m ∙ (ap (λ xs. get_or xs (suc (length q.inner)) 0) q.is ∙ get_or_push q.inner 34 0 (length q.inner) refl)

quotes_clean : (w : List ℕ) (q : Quotes w) (i : ℕ) → suc (suc i) < length w → get_or w (suc i) 0 ≡ 34 → ⊥
quotes_clean w q i h e =
    let l = quotes_length w q in
    not_among is_quoted q.inner i 34 q.clean (omega arith)
    (sym (get_or_append_left q.inner (34 ∷ []) 0 i (omega arith)) ∙ (ap (λ xs. get_or xs (suc i) 0) (sym q.is) ∙ e)) refl

-- a token with bytes, as it stands in the text
pub record Stands (text : List ℕ) (at : ℕ) (t : Token) : Type 0 where
  pub blanks : BlanksTo text at t.start
  pub some : t.start < t.end
  pub within : t.end ≤ length text
  pub spelt : Spelt t.kind (word_of text t.start t.end)
  pub longest : NoneAfter text t.start t.end

from_longest : (text : List ℕ) (at : ℕ) (r : Result Token Fault) → Longest text at r → (t : Token) → r ≡ Ok t → (t.kind ≡ End → ⊥) → Stands text at t
from_longest text at r (stands t' b l h sp n) t e k =
    subst (Stands text at) (ok_same e) (record { blanks = b; some = l; within = h; spelt = sp; longest = n })
from_longest text at r (ends t' b x s y) t e k = absurd (k (ap (λ (z : Token). z.kind) (sym (ok_same e)) ∙ x))
from_longest text at r (refused f b l n o c) t e k = absurd (never e)

pub stands_at : (text : List ℕ) (at : ℕ) (t : Token) → token_at text at ≡ Ok t → (t.kind ≡ End → ⊥) → Stands text at t
stands_at text at t e k = from_longest text at (token_at text at) (token_longest text at) t e k

-- no token of the other text goes on past the dot
none_past : (text other : List ℕ) (s e end : ℕ) (k : Kind) → take end text ≡ take end other → end ≤ length text → get_or text (end - 1) 0 ≡ 46 → s < e → e ≤ end → Spelt k (word_of text s e)
    → (kind : Kind) (f : ℕ) → end < f → f ≤ length other → Spelt kind (word_of other s f) → ⊥
none_past text other s e end k same long byte some within sp kind f past h q =
    let w = word_of other s f in
    let n : length w ≡ f - s = word_length other s f (omega arith) h in
    let m : end - 1 - s < f - s = omega arith in
    let d : get_or w (end - 1 - s) 0 ≡ 46 = word_byte other s f (end - 1) (omega arith) (omega arith) ∙ (sym (byte_same text other end (end - 1) same (omega arith)) ∙ byte) in
    let x : Quotes w = dot_inside kind w (end - 1 - s) q (omega arith) d in
    let z : s - s ≡ 0 = omega arith in
    let first : get_or other s 0 ≡ 34 = sym (word_byte other s f s (omega arith) (omega arith)) ∙ (ap (λ i. get_or w i 0) z ∙ ap (λ xs. get_or xs 0 0) x.is) in
    let v = word_of text s e in
    let l : length v ≡ e - s = word_length text s e (omega arith) (omega arith) in
    let head : get_or v 0 0 ≡ 34 = ap (λ i. get_or v i 0) (sym z) ∙ (word_byte text s e s (omega arith) some ∙ (byte_same text other end s same (omega arith) ∙ first)) in
    let y : Quotes v = quote_first k v sp head in
    let c = quotes_length v y in
    let i : length v - 1 ≡ e - 1 - s = omega arith in
    let close : get_or other (e - 1) 0 ≡ 34 =
    sym (byte_same text other end (e - 1) same (omega arith)) ∙ (sym (word_byte text s e (e - 1) (omega arith) (omega arith)) ∙ (ap (λ j. get_or v j 0) (sym i) ∙ quotes_last v y)) in
    let j : suc (e - 2 - s) ≡ e - 1 - s = omega arith in
    quotes_clean w x (e - 2 - s) (omega arith) (ap (λ o. get_or w o 0) j ∙ (word_byte other s f (e - 1) (omega arith) (omega arith) ∙ close))

-- a token that ends by the dot is told alike
pub token_same : (text other : List ℕ) (at end : ℕ) (t : Token) → take end text ≡ take end other → end ≤ length text → get_or text (end - 1) 0 ≡ 46 → t.end ≤ end → Stands text at t
    → token_at other at ≡ Ok t
token_same text other at end t same long byte within x =
    let far = long_enough text other end same long in
    let low = x.blanks.0 in
    let here : at ≤ t.start = omega (arith, x.some, x.within) in
    let m : min at (length text) ≡ min at (length other) = omega (arith, x.some, x.within) in
    sym (only_longest other at (Ok t)
    (stands t
    (omega (arith, low), λ i a b. ap class_of (sym (byte_same text other end i same (omega (arith, x.some)))) ∙ x.blanks.1 i (omega arith) b)
    x.some
    (omega arith)
    (subst (Spelt t.kind) (word_same text other t.start t.end end same within) x.spelt)
    (λ kind f lt le sp.
    elim (cases_lt end f) [
      | inl past ↦ none_past text other t.start t.end end t.kind same long byte x.some within x.spelt kind f past le sp
      | inr by ↦ x.longest kind f lt (omega arith) (subst (Spelt kind) (sym (word_same text other t.start f end same by)) sp)
    ])))
