use Rattle.std.proofs.Common.{◌≡◌, ℕ, ◌+◌, ◌-◌, ◌*◌, ◌^◌, min, get_or, sym, ap, ◌∙◌, arith}
use lib.Bits.{bit_and}
use Rattle.cases.proofs.Repeating.{times_stop, times_more, times_end, body_stop, body_more, body_end}
use Rattle.cases.proofs.head.Goals as goal

saturated : (a d m : ℕ) → min (min a m + d) m ≡ min (a + d) m
saturated a d m = omega arith

pub returns-then-b-eq58 : goal.returns-then-b-eq58
returns-then-b-eq58 c =
    let t = c.args.text.now in
    let i = c.loop-i.i in
    record {
      times = sym (times_stop t i c.loop-i.times (omega arith) c.if-b-eq58.true) ∙ c.loop-i.invariant.0;
      body = sym (body_stop t i (omega arith) c.if-b-eq58.true) ∙ c.loop-i.invariant.1;
      bound = omega arith;
    }

pub loop-i-preserved : goal.loop-i-preserved
loop-i-preserved c =
    let t = c.args.text.now in
    let i = c.loop-i.i in
    let d = bit_and (get_or t i 0) 15 in
    let m = c.saturating_add-times.ensures ∙ (ap (λ x. min (x + d) (2 ^ 64 - 1)) c.saturating_mul.ensures ∙ saturated (c.loop-i.times * 10) d (2 ^ 64 - 1)) in (
      sym (times_more t i c.loop-i.times c.saturating_add-times.result (omega arith) c.if-b-eq58.false m) ∙ c.loop-i.invariant.0,
      sym (body_more t i (omega arith) c.if-b-eq58.false) ∙ c.loop-i.invariant.1,
    )

pub returns : goal.returns
returns c =
    let t = c.args.text.now in
    let i = c.loop-i.i in
    record {
      times = sym (times_end t i c.loop-i.times (omega arith)) ∙ c.loop-i.invariant.0;
      body = sym (body_end t i (omega arith)) ∙ c.loop-i.invariant.1;
      bound = omega arith;
    }
