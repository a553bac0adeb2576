use Rattle.std.proofs.Common.{refl, ap}
use Rattle.store.specs.Model.{model_of}
use Rattle.store.proofs.Histories.{ran_replayed, same_fixed}
use Rattle.store.proofs.replay.replay.Goals as goal

pub returns : goal.returns
returns g c =
    let s = c.in_ok-store.store in
    let e = c.in_ok-store.ensures in
    let f = same_fixed (ap g.P.Source.clauses e.2) (ap g.G.Signature.kind e.3) (ap (λ x. x.limit) e.0) (ap (λ x. x.allowance) e.0) e.1 refl refl in
    ran_replayed _ _ (model_of s.table) (model_of c.run.new.store.table) c.args.path.now c.run.new.path c.args.out.now c.run.new.out c.args.calls.now c.args.replies.now
    c.run.new.replies c.run.result f e.4 c.run.ensures.told
