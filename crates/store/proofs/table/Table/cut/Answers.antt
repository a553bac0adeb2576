use Rattle.std.proofs.Common.{◌≡◌, ◌<◌, ◌≤◌, length, take, vec_items, sym, ap, ◌∙◌, subst, ap₂, arith}
use Rattle.std.proofs.lemmas.List.{length-take-le, take_all}
use Rattle.store.specs.Model.{entries_of, but_last, newest}
use Rattle.store.proofs.Loading.{cut_length, laid_less}
use Rattle.store.proofs.Rows.{same_model, Rising, rising_back}
use Rattle.store.proofs.table.Table.cut.Goals as goal

pub invariant_of-self : goal.invariant_of-self
invariant_of-self c =
    let t = c.args.self.now in let u = c.unmark-stood.new.self in let n = c.unmark-stood.result in
    let e : vec_items u.marks ≡ but_last (vec_items t.marks) = ap (λ m. m.marks) c.unmark-stood.ensures.model in
    let r = rising_back (vec_items t.marks) (length (vec_items t.places)) (record { rising = t.rising; within = t.within }) in
    let s : Rising (vec_items u.marks) n = subst (Rising (vec_items u.marks)) (sym c.unmark-stood.ensures.mark) (subst (λ ms. Rising ms (newest (vec_items t.marks))) (sym e) r) in
    let b = u.places.ok.0 in let i = c.if-stood-len.true in let j = c.len.ensures in
    let h : n < length (vec_items u.places) = omega arith in
    let l = laid_less (vec_items u.cells) (vec_items c.truncate.new.self) n c.index.result.now (vec_items u.places) (vec_items c.truncate-then-stood-len.new.self) u.laid h
    (c.truncate.ensures.items ∙ ap (λ d. take d.left (vec_items u.cells)) c.index.ensures) c.truncate-then-stood-len.ensures.items in
    let p = c.truncate.ensures.capacity in let q = c.truncate-then-stood-len.ensures.capacity in
    let x = u.room.0 in let y = u.room.1 in let few = u.few in let k = c.truncate-then-stood-len.ensures.len in
    let long : length (vec_items c.truncate-then-stood-len.new.self) ≡ n = ap length c.truncate-then-stood-len.ensures.items ∙ length-take-le n (vec_items u.places) (omega arith) in
    record { room = (omega arith, omega arith, u.room.2); few = omega arith; shallow = u.shallow; laid = l.1; rising = u.rising; within = λ m g. omega (arith, s.within m g, long) }

pub returns-then-stood-len : goal.returns-then-stood-len
returns-then-stood-len c =
    let u = c.unmark-stood.new.self in let n = c.unmark-stood.result in
    let b = u.places.ok.0 in let i = c.if-stood-len.true in let j = c.len.ensures in
    let h : n < length (vec_items u.places) = omega arith in
    let l = laid_less (vec_items u.cells) (vec_items c.truncate.new.self) n c.index.result.now (vec_items u.places) (vec_items c.truncate-then-stood-len.new.self) u.laid h
    (c.truncate.ensures.items ∙ ap (λ d. take d.left (vec_items u.cells)) c.index.ensures) c.truncate-then-stood-len.ensures.items in
    same_model (l.0 ∙ ap₂ take c.unmark-stood.ensures.mark (ap (λ m. m.entries) c.unmark-stood.ensures.model)) (ap (λ m. m.marks) c.unmark-stood.ensures.model)

pub returns-else-stood-len : goal.returns-else-stood-len
returns-else-stood-len c =
    let u = c.unmark-stood.new.self in let n = c.unmark-stood.result in
    let k = cut_length (vec_items u.places) (vec_items u.cells) in
    let b = u.places.ok.0 in let i = c.if-stood-len.false in let j = c.len.ensures in
    let h : length (entries_of u) ≤ n = omega arith in
    same_model (sym (take_all n (entries_of u) h) ∙ ap₂ take c.unmark-stood.ensures.mark (ap (λ m. m.entries) c.unmark-stood.ensures.model)) (ap (λ m. m.marks) c.unmark-stood.ensures.model)
