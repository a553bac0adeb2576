-- Which bytes are a token, and which token is the longest from a place on: said of the bytes alone.
use Rattle.std.specs.Prelude.{◌≡◌, ℕ, ◌<◌, ◌≤◌, min, Bool, true, List, [], ◌∷◌, ◌++◌, length, Ok, Err, Result, ◌≢◌, slice_index}
use Rattle.lexis.specs.Classes.{class_of}
use Rattle.lexis.specs.declared.class.Class.TheVariants.{Blank, Digit, Lower, Upper}
use Rattle.lexis.specs.Runs.{is_digit, is_hex, is_quoted, is_word}
use Rattle.lexis.specs.Worth.{word_of}
use Rattle.lexis.specs.declared.fault.Fault.{Fault}
use Rattle.lexis.specs.declared.fault.Cause.TheVariants.{Grammar}
use Rattle.lexis.specs.declared.token.Token.{Token}
use Rattle.lexis.specs.declared.token.Kind.{Kind}
use Rattle.lexis.specs.declared.token.Kind.TheVariants.{Name, Variable, Integer, Float, Text, Open, Close, Comma, Dot, Neck, Query, End}

-- every byte of the list passes the test
pub data All (p : ℕ → Bool) : List ℕ → Type 0 where
  none : All p []
  more : {b : ℕ} {bs : List ℕ} → p b ≡ true → All p bs → All p (b ∷ bs)

-- The bytes of a token. A name is a lower letter, and a variable an upper letter or an underscore, and then letters, digits and underscores.
-- An integer is digits, perhaps directly after a `-`; a float is `0f` and eight digits of base 16. A string is bytes from 32 to 126 without the quote, in quotes.
-- The marks are `(` `)` `,` `.` `:-` and `?-`. The end of the text has no bytes.
pub data Spelt : Kind → List ℕ → Type 0 where
  name : {b : ℕ} {w : List ℕ} → class_of b ≡ Lower → All is_word w → Spelt Name (b ∷ w)
  variable : {b : ℕ} {w : List ℕ} → class_of b ≡ Upper → All is_word w → Spelt Variable (b ∷ w)
  digits : {b : ℕ} {w : List ℕ} → class_of b ≡ Digit → All is_digit w → Spelt Integer (b ∷ w)
  minus : {b : ℕ} {w : List ℕ} → class_of b ≡ Digit → All is_digit w → Spelt Integer (45 ∷ b ∷ w)
  float : {w : List ℕ} → length w ≡ 8 → All is_hex w → Spelt Float (48 ∷ 102 ∷ w)
  quotes : {w : List ℕ} → All is_quoted w → Spelt Text (34 ∷ w ++ 34 ∷ [])
  opening : Spelt Open (40 ∷ [])
  closing : Spelt Close (41 ∷ [])
  comma : Spelt Comma (44 ∷ [])
  dot : Spelt Dot (46 ∷ [])
  neck : Spelt Neck (58 ∷ 45 ∷ [])
  query : Spelt Query (63 ∷ 45 ∷ [])

-- only blanks stand from the place that was asked to before another; a place past the text counts as its end
abbrev pub BlanksTo : List ℕ → ℕ → ℕ → Type 0
BlanksTo text at to = (min at (length text) ≤ to) × ((i : ℕ) → min at (length text) ≤ i → i < to → class_of (slice_index text i) ≡ Blank)

-- no bytes from one place on that end after another are a token
abbrev pub NoneAfter : List ℕ → ℕ → ℕ → Type 0
NoneAfter text start end = (kind : Kind) (e : ℕ) → end < e → e ≤ length text → Spelt kind (word_of text start e) → ⊥

-- what stands from a place on, after blanks: the longest token that begins there; the end of the text; or bytes with which no token begins
pub data Longest (text : List ℕ) (at : ℕ) : Result Token Fault → Type 0 where
  stands : (t : Token) → BlanksTo text at t.start → t.start < t.end → t.end ≤ length text → Spelt t.kind (word_of text t.start t.end) → NoneAfter text t.start t.end
      → Longest text at (Ok t)
  ends : (t : Token) → BlanksTo text at (length text) → t.kind ≡ End → t.start ≡ length text → t.end ≡ length text → Longest text at (Ok t)
  refused : (e : Fault) → BlanksTo text at e.at → e.at < length text → (class_of (slice_index text e.at) ≢ Blank) → NoneAfter text e.at e.at → e.cause ≡ Grammar → Longest text at (Err e)

-- nothing else stands there
abbrev pub Only : List ℕ → ℕ → Result Token Fault → Type 0
Only text at r = (other : Result Token Fault) → Longest text at other → other ≡ r
