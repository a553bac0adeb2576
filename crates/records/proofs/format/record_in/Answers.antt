use Rattle.std.proofs.Common.{◌≡◌, ◌+◌, get_or, ◌∙◌, rules}
use Rattle.records.specs.declared.format.Field.TheVariants.{Lot, Stage, Cycles}
use Rattle.records.specs.Format.{field_in, width_of}
use Rattle.records.proofs.Bytes.{record_by_place, told_then}
use Rattle.records.proofs.format.record_in.Goals as goal

pub returns : goal.returns
returns c =
    let bs = c.args.bytes.now in
    let lot : c.then.result ≡ field_in bs 3 Lot = told_then _ _ _ (c.then.ensures.variant ∙ c.stands_in.ensures) (search rules) in
    let stage_at : 3 + c.width.result ≡ 3 + width_of (get_or bs 0 0) Lot = search rules in
    let stage : c.then-2.result ≡ field_in bs (3 + c.width.result) Stage = told_then _ _ _ (c.then-2.ensures.variant ∙ c.stands_in-2.ensures) (search rules) in
    let cycles : c.then-3.result ≡ field_in bs (3 + c.width.result + c.width-2.result) Cycles = told_then _ _ _ (c.then-3.ensures.variant ∙ c.stands_in-3.ensures) (search rules) in
    cc (c.width.ensures.value, c.width-2.ensures.value, c.word.ensures, lot, stage, cycles, record_by_place bs (search rules))
