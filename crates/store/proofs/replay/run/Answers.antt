use Rattle.std.proofs.Common.{◌≡◌, ℕ, ◌+◌, ◌<◌, List, length, drop, sym, refl, ap, ◌∙◌, subst, arith}
use Rattle.std.proofs.lemmas.List.{drop-set-lt, drop-drop}
use Rattle.store.specs.declared.call.Reply.{Reply}
use Rattle.store.specs.History.{none}
use Rattle.store.proofs.Histories.{history_written, ran_all, same_fixed}
use Rattle.store.proofs.replay.run.Goals as goal

pub loop-i-init : goal.loop-i-init
loop-i-init g c = (refl, none, refl)

pub loop-i-preserved : goal.loop-i-preserved
loop-i-preserved g c =
    let i = c.loop-i.i in
    let l : i < length c.args.calls.now = omega arith in
    let k : i < length c.loop-i.replies = omega arith in
    let v = c.loop-i.invariant.0 in
    let t = c.step.ensures.same in
    let p : length c.loop-i.pairs ≡ length c.args.pairs.now = omega arith in
    let q : length c.loop-i.frames ≡ length c.args.frames.now = omega arith in
    let a = ap (λ b. g.P.Source.clauses b.source) v in
    let b = ap (λ b. g.G.Signature.kind b.signature) v in
    let d = ap (λ b. b.settings.limit) v in
    let e = ap (λ b. b.settings.allowance) v in
    let n = ap (λ b. b.number) v in (
      t ∙ v,
      history_written _ _ c.args.calls.now c.loop-i.replies i _ c.step.result (same_fixed a b d e n p q) l k c.loop-i.invariant.1 c.step.ensures.told,
      drop-set-lt (i + 1) c.loop-i.replies i c.step.result (omega arith)
          ∙ (sym (drop-drop 1 i c.loop-i.replies) ∙ (ap (λ (bs : List Reply). drop 1 bs) c.loop-i.invariant.2 ∙ drop-drop 1 i c.args.replies.now)),
    )

pub returns : goal.returns
returns g c =
    let n = length c.args.calls.now in
    let e : c.loop-i.i ≡ n = omega arith in
    record {
      told = (
        c.if-replies-calls.false,
        ran_all _ c.args.calls.now c.loop-i.replies c.loop-i.i e c.loop-i.invariant.1,
        subst (λ (k : ℕ). drop k c.loop-i.replies ≡ drop k c.args.replies.now) e c.loop-i.invariant.2,
      );
      same = c.loop-i.invariant.0;
    }
