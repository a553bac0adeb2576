use Rattle.std.proofs.Common.{◌+◌, set, sym, refl, ap, ◌∙◌, subst, arith}
use Rattle.std.proofs.lemmas.List.{length-set}
use Rattle.unification.specs.Arguments.{rest_of}
use Rattle.unification.specs.Reading.{Writing}
use Rattle.unification.specs.State.{cells_of, links_of}
use Rattle.unification.proofs.Places.{kid_below}
use Rattle.unification.proofs.Reading.{write_full, write_start, write_more, write_end}
use Rattle.unification.proofs.Runs.{few_cells}
use Rattle.unification.proofs.bindings.Bindings.+write.Goals as goal

pub returns-then-at-out : goal.returns-then-at-out
returns-then-at-out t c = record {
  writes = write_full (cells_of c.args.self.now) (links_of c.args.self.now) c.args.node c.args.out.now c.args.at c.if-at-out.true;
  on = omega arith;
}

pub loop-kid-init : goal.loop-kid-init
loop-kid-init t c =
    let cs = cells_of c.args.self.now in let l = links_of c.args.self.now in
    let out = set c.args.out.now c.args.at c.head-c.result in
    subst (Writing cs l c.find-r.result c.head-c.result.arity out (c.args.at + 1) out (c.args.at + 1)) (sym (ap rest_of c.into_iter-kid-iterator.ensures.into_iter_gives ∙ c.arguments-kid-items.ensures))
    (write_start cs l c.find-r.result c.head-c.result.arity out (c.args.at + 1))

pub write-next-requires : goal.write-next-requires
write-next-requires t c =
    let b = kid_below c.loop-kid.kid-iterator c.in-Some.kid (rest_of c.next.new.self) c.in-Some.ensures.steps in
    let h = c.loop-kid.invariant.0 in let o = c.loop-kid.invariant.1 in let k = length-set c.args.out.now c.args.at c.head-c.result in
    (omega arith, omega arith)

pub loop-kid-preserved : goal.loop-kid-preserved
loop-kid-preserved t c =
    let cs = cells_of c.args.self.now in let l = links_of c.args.self.now in
    write_more cs l c.find-r.result c.head-c.result.arity (set c.args.out.now c.args.at c.head-c.result) (c.args.at + 1) c.loop-kid.out c.loop-kid.next (rest_of c.loop-kid.kid-iterator) c.loop-kid.invariant
    c.in-Some.kid (rest_of c.next.new.self) c.in-Some.ensures.steps c.write-next.new.out c.write-next.result c.write-next.auto.out c.write-next.ensures.on c.write-next.ensures.writes

pub returns : goal.returns
returns t c =
    let cs = cells_of c.args.self.now in let l = links_of c.args.self.now in
    let o = c.loop-kid.invariant.1 in
    record {
      writes = write_end cs (few_cells c.args.self.now.arena) l c.args.node c.find-r.result c.head-c.result.arity c.head-c.result c.args.out.now c.args.at c.loop-kid.out c.loop-kid.next (rest_of c.loop-kid.kid-iterator)
          c.find-r.ensures.value c.find-r.ensures.top c.head-c.ensures refl (omega arith) c.loop-kid.invariant c.in-None.ensures.steps.0;
      on = omega arith;
    }
