use Rattle.std.proofs.Common.{◌≡◌, ℕ, ◌≤◌, ◌++◌, length, vec_items, sym, ◌∙◌, subst, ap₂, arith}
use Rattle.std.proofs.lemmas.Bool.{cond-true}
use Rattle.resolution.specs.State.{standing_cells, standing_links, stands}
use Rattle.store.specs.declared.table.Table.{Table}
use Rattle.store.specs.Entries.{joined}
use Rattle.store.specs.Model.{entries_of}
use Rattle.store.specs.Solved.{Stood}
use Rattle.store.proofs.Loading.{cut_length, has_room}
use Rattle.store.proofs.Standings.{stood}
use Rattle.store.proofs.solver.Solver.stand.Goals as goal

few_stand : (t : Table) → length (entries_of t) ≤ 16
few_stand t = let k = cut_length (vec_items t.places) (vec_items t.cells) in let a = t.places.ok.0 in let few = t.few in omega arith

pub unreachable-requires : goal.unreachable-requires
unreachable-requires g c =
    let t = c.args.table.now in
    let r = has_room (entries_of t) (standing_cells c.clear.new.self) c.cells.result.now c.cells.ensures.sound (few_stand t) c.clear.ensures.cells c.cells.ensures.cells in
    let v = c.in_default.ensures.value ∙ cond-true (stands (standing_cells c.clear.new.self) c.cells.result.now) _ _ r in
    absurd (let z : ◌≡◌ {A = ℕ} 0 1 = cc in omega arith)

pub returns : goal.returns
returns g c =
    let t = c.args.table.now in
    let kind = g.G.Signature.kind c.args.signature.now in
    let r = has_room (entries_of t) (standing_cells c.clear.new.self) c.cells.result.now c.cells.ensures.sound (few_stand t) c.clear.ensures.cells c.cells.ensures.cells in
    let cells : standing_cells c.append.new.self ≡ joined (entries_of t)
    = c.append.ensures.cells ∙ (cond-true (stands (standing_cells c.clear.new.self) c.cells.result.now) _ _ r ∙ ap₂ ◌++◌ c.clear.ensures.cells c.cells.ensures.cells) in
    let links = c.append.ensures.links ∙ (c.clear.ensures.links ∙ c.args.self.now.undone) in
    let w = c.in-Some-settle.ensures in
    subst (λ cs. Stood kind (entries_of t) cs (standing_links c.settle.new.self) c.in-Some-settle.outcome) (sym w.cells)
    (stood kind (entries_of t) c.cells.ensures.sound (few_stand t) _ _ _ _ c.in-Some-settle.outcome cells links c.places.ensures.places w.means)
