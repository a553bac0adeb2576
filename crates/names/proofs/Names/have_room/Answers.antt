use Rattle.std.proofs.Common.{◌≡◌, ℕ, ◌+◌, ◌-◌, Bool, true, false, cond, ◌&&◌, leb, ◌++◌, length, vec_items, vec_len, is_some, Some, None, sym, refl, ap, ◌∙◌, arith}
use Rattle.std.proofs.lemmas.List.{length-append}
use Rattle.std.proofs.lemmas.Bool.{le-leb, lt-leb, leb-true, both_ways, and_left}
use Rattle.names.specs.Spans.{words_in, bytes_of}
use Rattle.names.specs.Words.{names_of}
use Rattle.names.proofs.Tables.{length_words, bytes_append, leb_shift}
use Rattle.names.proofs.Names.have_room.Goals as goal

-- there is room left exactly where the words fit
held : (b : Bool) (n : ℕ) → is_some (cond b (Some n) None) ≡ b
held true n = refl
held false n = refl

pub returns-then-spans-len : goal.returns-then-spans-len
returns-then-spans-len c =
    let n = c.args.self.now in
    let ws = words_in c.args.text.now c.args.spans.now in
    let l = length-append (names_of n) ws in
    let l₁ = length_words (vec_items n.bytes) (vec_items n.spans) in
    let l₂ = length_words c.args.text.now c.args.spans.now in
    let k = n.spans.ok.0 in
    let f = n.few in
    let b = bytes_append (names_of n) ws in
    let g = n.filled in
    let e : bytes_of (names_of n ++ ws) ≡ vec_len n.bytes + bytes_of ws = omega arith in
    let lenₑ = c.len-then-spans-len.ensures in
    let told = c.is_some.ensures ∙ (ap is_some c.room_after.ensures ∙ held (leb (bytes_of ws) (4096 - c.len-then-spans-len.result)) _) in
    let v = told ∙ (ap (λ m. leb (bytes_of ws) (4096 - m)) lenₑ ∙ (leb_shift (vec_len n.bytes) (bytes_of ws) 4096 n.small ∙ ap (λ m. leb m 4096) (sym e))) in
    record {
      value = v ∙ ap (λ t. t && leb (bytes_of (names_of n ++ ws)) 4096) (sym (le-leb (length (names_of n ++ ws)) 256 (omega arith)));
      room = λ h. (omega arith, omega (arith, leb-true (bytes_of (names_of n ++ ws)) 4096 (sym v ∙ h)));
    }

pub returns-else-spans-len : goal.returns-else-spans-len
returns-else-spans-len c =
    let n = c.args.self.now in
    let ws = words_in c.args.text.now c.args.spans.now in
    let l = length-append (names_of n) ws in
    let l₁ = length_words (vec_items n.bytes) (vec_items n.spans) in
    let l₂ = length_words c.args.text.now c.args.spans.now in
    let k = n.spans.ok.0 in
    let f = n.few in
    let no = lt-leb (length c.args.spans.now) (256 - c.len.result) c.if-spans-len.false in
    record {
      value = no ∙ sym (and_left (leb (length (names_of n ++ ws)) 256) _ (lt-leb (length (names_of n ++ ws)) 256 (omega arith)));
      room = λ h. absurd (both_ways _ no h);
    }
