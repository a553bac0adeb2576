-- The token that stands at a place of the text.
use Rattle.std.specs.Prelude.{ℕ, ◌+◌, ◌<◌, ◌≤◌, min, Bool, cond, ◌&&◌, List, length, Some, None, Ok, Err, Option, Result, ◌==◌, ◌≢◌, nat_le, nat_lt, slice_index}
use Rattle.lexis.specs.Classes.{class_of}
use Rattle.lexis.specs.declared.class.Class.{Class}
use Rattle.lexis.specs.declared.class.Class.TheVariants.{Other, Blank, Digit, Lower, Upper, Mark, Visible}
use Rattle.lexis.specs.Runs.{is_blank, is_digit, is_hex, is_quoted, is_word, end_of}
use Rattle.lexis.specs.declared.fault.Fault.{Fault}
use Rattle.lexis.specs.declared.fault.Cause.TheVariants.{Grammar}
use Rattle.lexis.specs.declared.token.Token.{Token}
use Rattle.lexis.specs.declared.token.Kind.{Kind}
use Rattle.lexis.specs.declared.token.Kind.TheVariants.{Name, Variable, Integer, Float, Text, Open, Close, Comma, Dot, Neck, Query, End}

-- `0f` and eight digits in base 16
abbrev pub float_at : List ℕ → ℕ → Bool
float_at text s = slice_index text s == 48 && (slice_index text (s + 1) == 102 && nat_le (s + 10) (end_of is_hex text (s + 2)))

-- a float, or else an integer
abbrev pub number_at : List ℕ → ℕ → Kind × ℕ
number_at text s = cond (float_at text s) (Float, s + 10) (Integer, end_of is_digit text (s + 1))

-- a string ends with a second quote
abbrev pub quoted_at : List ℕ → ℕ → Option (Kind × ℕ)
quoted_at text s = cond (slice_index text (end_of is_quoted text (s + 1)) == 34) (Some (Text, end_of is_quoted text (s + 1) + 1)) None

-- a minus sign belongs to the digits directly after it
abbrev pub negative_at : List ℕ → ℕ → Option (Kind × ℕ)
negative_at text s = cond (nat_lt (s + 1) (end_of is_digit text (s + 1))) (Some (Integer, end_of is_digit text (s + 1))) None

-- a mark of two bytes, the second of them `-`
abbrev pub arrow_at : List ℕ → ℕ → Kind → Option (Kind × ℕ)
arrow_at text s kind = cond (slice_index text (s + 1) == 45) (Some (kind, s + 2)) None

abbrev pub by_mark : List ℕ → ℕ → ℕ → Option (Kind × ℕ)
by_mark text s b =
    cond (b == 40) (Some (Open, s + 1))
    (cond (b == 41) (Some (Close, s + 1))
    (cond (b == 44) (Some (Comma, s + 1))
    (cond (b == 46) (Some (Dot, s + 1))
    (cond (b == 58) (arrow_at text s Neck)
    (cond (b == 63) (arrow_at text s Query)
    (cond (b == 45) (negative_at text s)
    (cond (b == 34) (quoted_at text s) None)))))))

abbrev pub mark_at : List ℕ → ℕ → Option (Kind × ℕ)
mark_at text s = by_mark text s (slice_index text s)

abbrev pub by_class : List ℕ → ℕ → Class → Option (Kind × ℕ)
by_class text s Digit = Some (number_at text s)
by_class text s Lower = Some (Name, end_of is_word text (s + 1))
by_class text s Upper = Some (Variable, end_of is_word text (s + 1))
by_class text s Mark = mark_at text s
by_class text s Other = None
by_class text s Blank = None
by_class text s Visible = None

-- the kind and the end of the token that begins at a place
abbrev pub shape_at : List ℕ → ℕ → Option (Kind × ℕ)
shape_at text s = by_class text s (class_of (slice_index text s))

-- the place of the first byte from a place on that is no blank; a place past the text counts as its end
abbrev pub start_at : List ℕ → ℕ → ℕ
start_at text at = end_of is_blank text (min at (length text))

abbrev pub told : ℕ → Option (Kind × ℕ) → Result Token Fault
told s (Some w) = Ok (record { kind = w.0; start = s; end = w.1 })
told s None = Err (record { cause = Grammar; at = s })

-- the token from a place on: at the text's end there is `End`, and where none fits the text is not the grammar
abbrev pub token_at : List ℕ → ℕ → Result Token Fault
token_at text at =
    cond (start_at text at == length text) (Ok (record { kind = End; start = start_at text at; end = start_at text at }))
    (told (start_at text at) (shape_at text (start_at text at)))

-- where a token stands: not before the place that was asked, within the text, and with a byte at least unless it is the end
abbrev pub Placed : ℕ → ℕ → Result Token Fault → Type 0
Placed length at (Ok t) = (at ≤ length → at ≤ t.start) × (t.start ≤ t.end) × (t.end ≤ length) × ((t.kind ≢ End) → t.start < t.end)
Placed length at (Err e) = (at ≤ length → at ≤ e.at) × (e.at ≤ length)
