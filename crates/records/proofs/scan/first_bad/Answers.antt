use Rattle.std.proofs.Common.{◌≡◌, drop, sym, ◌∙◌, arith}
use Rattle.records.proofs.Scanning.{end_more, end_none, end_here, none_told}
use Rattle.records.specs.Faults.{end_of}
use Rattle.records.proofs.scan.first_bad.Goals.{then-at-bytes-via-then-at-bytes, then-at-bytes-via-else-at-bytes+then-is_some}
use Rattle.records.proofs.scan.first_bad.Goals as goal

pub loop-at-preserved : goal.loop-at-preserved
loop-at-preserved c =
    let f = none_told c.fault_at.result (sym c.is_some.ensures ∙ c.if-is_some.false) in
    let m = end_more c.args.bytes.now c.loop-at.at c.fields_len.result c.fields_len.ensures.value c.if-at-bytes.false (sym c.fault_at.ensures ∙ f) in
    (sym m.0 ∙ c.loop-at.invariant.0, m.1)

pub returns-clause-place : goal.returns-clause-place
returns-clause-place c =
    let bs = c.args.bytes.now in
    let at = c.loop-at.at in
    let none : end_of (drop at bs) ≡ 0 =
    elim c.then-at-bytes.branch [
      | then-at-bytes-via-then-at-bytes w ↦ end_none bs at w.if-at-bytes.true
      | then-at-bytes-via-else-at-bytes+then-is_some w ↦ end_here bs at w.fault_at.result w.fault_at.ensures (sym w.is_some.ensures ∙ w.if-is_some.true)
    ] in
    omega (arith, c.loop-at.invariant.0)
