-- Which class passes a test of classes.
use Rattle.std.proofs.Common.{◌≡◌, true, false, refl, ap}
use Rattle.std.proofs.lemmas.Bool.{both_ways}
use Rattle.lexis.specs.declared.class.Class.{Class}
use Rattle.lexis.specs.declared.class.Class.TheVariants.{Other, Blank, Digit, Lower, Upper, Mark, Visible}
use Rattle.lexis.specs.Classes.{blank, digit}

pub is_digit : (c : Class) → digit c ≡ true → c ≡ Digit
is_digit Digit h = refl
is_digit Other h = absurd (both_ways _ refl h)
is_digit Blank h = absurd (both_ways _ refl h)
is_digit Lower h = absurd (both_ways _ refl h)
is_digit Upper h = absurd (both_ways _ refl h)
is_digit Mark h = absurd (both_ways _ refl h)
is_digit Visible h = absurd (both_ways _ refl h)

pub is_blank : (c : Class) → blank c ≡ true → c ≡ Blank
is_blank Blank h = refl
is_blank Other h = absurd (both_ways _ refl h)
is_blank Digit h = absurd (both_ways _ refl h)
is_blank Lower h = absurd (both_ways _ refl h)
is_blank Upper h = absurd (both_ways _ refl h)
is_blank Mark h = absurd (both_ways _ refl h)
is_blank Visible h = absurd (both_ways _ refl h)

pub not_blank : (c : Class) → blank c ≡ false → c ≡ Blank → ⊥
not_blank c h e = both_ways (blank c) h (ap blank e)
