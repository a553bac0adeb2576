use Rattle.std.proofs.Common.{◌≡◌, Ok, Err, Result, OnOk, vec_items, rules}
use Rattle.std.specs.Option.{option_map}
use Rattle.records.specs.declared.fact.Value.TheVariants.{Atom, Integer}
use Rattle.records.proofs.Gathering.{each_said}
use Rattle.records.proofs.gather.Listing.add_record.Goals as goal

on_ok : {A E : Type 0} (r : Result A E) {P Q : Type 0} → OnOk r P → (P → Q) → OnOk r Q
on_ok (Ok x) h f = f h
on_ok (Err e) h f = tt

pub returns-clause-items : goal.returns-clause-items
returns-clause-items c =
    let s = c.args.symbols in
    let r = c.args.said in
    let l = c.args.self.now in
    let lot : c.map.result ≡ option_map Atom r.lot = search rules in
    let stage : c.map-2.result ≡ option_map Atom r.stage = search rules in
    let cycles : c.map-3.result ≡ option_map Integer r.cycles = search rules in
    let one = c.in_ok-add.ensures.items in
    let two = c.in_ok-add-2.ensures.items in
    let e = each_said s r l.symbol (vec_items l.facts) in
    on_ok c.add-3.result c.add-3.ensures.items (λ k. cc (k, e, one, two, lot, stage, cycles, c.of.ensures, c.of-2.ensures, c.of-3.ensures, c.add.ensures.symbol, c.add-2.ensures.symbol))
