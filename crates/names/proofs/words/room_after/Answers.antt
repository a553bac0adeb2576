use Rattle.std.proofs.Common.{◌≡◌, ◌-◌, ◌<◌, Some, None, length, sym, ap, ◌∙◌, arith, rules}
use Rattle.std.proofs.lemmas.Bool.{cond-true, cond-false, le-leb, lt-leb}
use Rattle.names.specs.Spans.{words_in, bytes_of}
use Rattle.names.proofs.Tables.{bytes_from, bytes_end}
use Rattle.names.proofs.words.room_after.Goals as goal

pub returns-in_err-left : goal.returns-in_err-left
returns-in_err-left c =
    let m = bytes_from c.args.text.now c.args.spans.now c.loop-s.s-index (record { start = 0; end = 0 }) (search rules) in
    let e = ap length c.word.ensures in
    let n = bytes_of (words_in c.args.text.now c.args.spans.now) in
    let over : c.args.room < n = omega (arith, c.in_err-left.ensures) in
    let none : c.from_residual.result ≡ None = search rules in
    none ∙ sym (cond-false _ _ _ (lt-leb n c.args.room over))

pub loop-s-preserved : goal.loop-s-preserved
loop-s-preserved c =
    let m = bytes_from c.args.text.now c.args.spans.now c.loop-s.s-index (record { start = 0; end = 0 }) (search rules) in
    let e = ap length c.word.ensures in
    let h = c.in_ok-left.ensures in
    omega arith

pub returns : goal.returns
returns c =
    let m = bytes_end c.args.text.now c.args.spans.now c.loop-s.s-index (search rules) in
    let n = bytes_of (words_in c.args.text.now c.args.spans.now) in
    let e : c.loop-s.left ≡ c.args.room - n = omega arith in
    ap Some e ∙ sym (cond-true _ _ _ (le-leb n c.args.room (omega arith)))
