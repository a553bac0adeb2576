use Rattle.std.proofs.Common.{◌≡◌, length, vec_items, refl, arith}
use Rattle.store.proofs.Loading.{cut_length, laid_few, laid_more}
use Rattle.store.proofs.Rows.{same_model}
use Rattle.store.proofs.table.Table.add.Goals as goal

pub unreachable-requires : goal.unreachable-requires
unreachable-requires c =
    let t = c.args.self.now in
    let n = laid_few (vec_items t.cells) (vec_items t.places) t.laid in let k = cut_length (vec_items t.places) (vec_items t.cells) in
    let a = t.cells.ok.0 in let s = c.requires.sound.0 in let few = c.requires.few in let room = t.room.0 in
    let full = c.in_default.ensures.full in omega arith

pub push_reserved-requires : goal.push_reserved-requires
push_reserved-requires c =
    let t = c.args.self.now in
    let k = cut_length (vec_items t.places) (vec_items t.cells) in
    let a = t.places.ok.0 in let few = c.requires.few in let room = t.room.1 in omega arith

pub invariant_of-self : goal.invariant_of-self
invariant_of-self c =
    let t = c.args.self.now in
    let k = cut_length (vec_items t.places) (vec_items t.cells) in
    let a = t.cells.ok.0 in let b = t.places.ok.0 in let few = c.requires.few in
    let left : c.len-left.result ≡ length (vec_items t.cells) = let z = c.len-left.ensures in omega arith in
    let m = laid_more (vec_items t.cells) c.args.cells.now (vec_items c.extend_from_slice.new.self) c.len-left.result c.args.second (vec_items t.places) (vec_items c.push_reserved.new.self) t.laid
    c.requires.sound c.requires.second left c.in-Ok.ensures.items c.push_reserved.ensures.items in
    let p = c.extend_from_slice.ensures.capacity in let q = c.push_reserved.ensures.capacity in let l = c.push_reserved.ensures.len in
    let x = t.room.0 in let y = t.room.1 in
    let d = c.push_reserved.new.self.ok.0 in
    record { room = (omega arith, omega arith, t.room.2); few = omega arith; shallow = t.shallow; laid = m.1; rising = t.rising; within = λ i h. omega (arith, t.within i h) }

pub returns : goal.returns
returns c =
    let t = c.args.self.now in
    let a = t.cells.ok.0 in
    let left : c.len-left.result ≡ length (vec_items t.cells) = let z = c.len-left.ensures in omega arith in
    let m = laid_more (vec_items t.cells) c.args.cells.now (vec_items c.extend_from_slice.new.self) c.len-left.result c.args.second (vec_items t.places) (vec_items c.push_reserved.new.self) t.laid
    c.requires.sound c.requires.second left c.in-Ok.ensures.items c.push_reserved.ensures.items in
    same_model m.0 refl
