use Rattle.std.proofs.Common.{◌≡◌, ℕ, ◌<◌, true, List, length, get_or, drop, sym, ap, ◌∙◌, subst}
use Rattle.std.proofs.lemmas.List.{take_rest}
use Rattle.records.specs.Format.{map_fits, sizes, fields_of, record_in}
use Rattle.records.proofs.Scanning.{end_some, good_map, good_whole}
use Rattle.records.proofs.gather.record_at.Goals as goal

pub record_in-requires : goal.record_in-requires
record_in-requires c =
    let bs = drop c.args.at c.args.bytes.now in
    let g = end_some bs c.requires.1 in
    subst (λ (t : List ℕ). (map_fits (get_or t 0 0) ≡ true) × (sizes (fields_of (get_or t 0 0)) < length t)) (sym (take_rest c.args.bytes.now c.args.at))
    (good_map bs g.0 g.1, good_whole bs g.0 g.1)

pub returns : goal.returns
returns c = c.record_in.ensures ∙ ap record_in (take_rest c.args.bytes.now c.args.at)
