use Rattle.std.proofs.Common.{◌<◌, length, drop, sym, ◌∙◌, arith}
use Rattle.records.specs.Faults.{end_of}
use Rattle.records.proofs.Gathering.{gathered_none, gathered_more, gathered_all}
use Rattle.records.proofs.Scanning.{end_some, end_more}
use Rattle.records.proofs.gather.Listing.gather.Goals as goal

pub loop-at-init : goal.loop-at-init
loop-at-init c =
    let p = c.requires.place in
    (gathered_none c.args.symbols c.args.bytes.now c.args.symbol c.new-listing.result c.new-listing.ensures.0 c.new-listing.ensures.1, omega arith)

pub record_at-requires : goal.record_at-requires
record_at-requires c = let p = c.loop-at.invariant.1 in let w = c.requires.within in (omega arith, omega arith)

pub loop-at-preserved : goal.loop-at-preserved
loop-at-preserved c =
    let bs = c.args.bytes.now in
    let s = c.args.symbols in
    let at = c.loop-at.at in
    let n = c.fields_len.result in
    let p = c.loop-at.invariant.1 in
    let w = c.requires.within in
    let h : 0 < end_of (drop at bs) = omega arith in
    let l : at < length bs = omega arith in
    let g = (end_some (drop at bs) h).1 in
    let k = c.fields_len.ensures.value in
    let m = end_more bs at n k l g in
    let x = c.in_ok-add_record.ensures in
    (gathered_more s bs at n c.args.symbol c.loop-at.listing c.add_record.new.self c.record_at.result c.loop-at.invariant.0 k l g c.record_at.ensures x.items x.symbol, sym m.0 ∙ p)

pub returns : goal.returns
returns c =
    let p = c.loop-at.invariant.1 in
    gathered_all c.args.symbols c.args.bytes.now c.loop-at.at c.args.symbol c.loop-at.listing c.loop-at.invariant.0 (omega arith)
