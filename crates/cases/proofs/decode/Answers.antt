use Rattle.std.proofs.Common.{◌≡◌, suc, ◌+◌, ◌≤◌, ◌++◌, length, take, drop, vec_items, sym, refl, ap, ◌∙◌, arith, length-drop}
use Rattle.std.proofs.lemmas.Result.{IfOk-weaker}
use Rattle.cases.specs.Escapes.{unescaped}
use Rattle.cases.specs.Marks.{mark_in}
use Rattle.cases.specs.Repeats.{repeated, decoded_in, decoded}
use Rattle.cases.proofs.Repeating.{decode_last, decode_open, decode_more, carried_two}
use Rattle.cases.proofs.decode.Goals as goal

pub loop-start-init : goal.loop-start-init
unfolding decoded
loop-start-init c = (omega arith, (suc (length c.args.case.now), omega arith, refl))

pub loop-start-preserved : goal.loop-start-preserved
loop-start-preserved c =
    let rest = c.loop-start.rest.now in
    let start = c.in-Some.start in
    let end = c.in-Some-find_mark.end in
    let inv = c.loop-start.invariant.1 in
    let o = c.after-opened.ensures in
    let left : c.after-rest.result.now ≡ drop (end + 2) (drop (start + 2) rest) = c.after-rest.ensures ∙ ap (drop (end + 2)) o in
    let m = decode_more inv.0 rest start end inv.1 (sym c.in-Some.ensures.value) (ap (mark_in 125 0) (sym o) ∙ sym c.in-Some-find_mark.ensures.value) c.in-Some.ensures.bound in
    let fewer : length (drop (end + 2) (drop (start + 2) rest)) ≤ length rest = simp length-drop (omega arith) in (
      rw left (omega (arith, fewer, c.loop-start.invariant.0)),
      (
        m.0,
        rw left m.1,
        rw left
            (carried_two (vec_items c.loop-start.out) (vec_items c.unescape.new.out) (vec_items c.repeat.new.out) (unescaped 0 (take start rest)) (repeated (take end (drop (start + 2) rest))) (decoded_in inv.0 rest)
            (decoded_in m.0 (drop (end + 2) (drop (start + 2) rest))) _ c.in_ok-unescape.ensures (c.in_ok-repeat.ensures ∙ ap (λ t. vec_items c.unescape.new.out ++ repeated (take end t)) o) m.2 inv.2),
      ),
    )

pub returns-in_default-find_mark : goal.returns-in_default-find_mark
returns-in_default-find_mark c =
    let rest = c.loop-start.rest.now in
    let inv = c.loop-start.invariant.1 in
    let e = decode_open inv.0 rest c.in-Some.start inv.1 (sym c.in-Some.ensures.value) (ap (mark_in 125 0) (sym c.after-opened.ensures) ∙ sym c.in_default-find_mark.ensures.value) in
    c.in_ok-unescape.ensures ∙ (ap (λ x. vec_items c.loop-start.out ++ x) (sym e) ∙ inv.2)

pub returns : goal.returns
returns c =
    let inv = c.loop-start.invariant.1 in
    let rest = c.loop-start.rest.now in
    let v = vec_items c.loop-start.out in
    let e = decode_last inv.0 rest inv.1 (sym c.in_default.ensures.value) in
    IfOk-weaker c.unescape-2.result _ _ (λ x h. h ∙ (ap (λ x. v ++ x) (sym e) ∙ inv.2)) c.unescape-2.ensures
