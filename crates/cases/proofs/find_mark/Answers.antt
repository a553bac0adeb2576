use Rattle.std.proofs.Common.{◌≡◌, ℕ, suc, ◌+◌, ◌-◌, ◌≤◌, ◌∷◌, List, length, sym, ap, ◌∙◌, arith, rules}
use Rattle.cases.specs.Marks.{mark_in}
use Rattle.cases.proofs.Marking.{mark_plain, mark_passed}
use Rattle.cases.proofs.find_mark.Goals as goal

-- the search goes on in what is left, so many bytes on
goes_on : (m n all : ℕ) (rest left : List ℕ) → length rest ≡ n + length left → length rest ≤ all → mark_in m (all - length rest) rest ≡ mark_in m (all - length rest + n) left
    → mark_in m (all - length left) left ≡ mark_in m (all - length rest) rest
goes_on m n all rest left l h e =
    let p : all - length left ≡ all - length rest + n = omega arith in ap (λ at. mark_in m at left) p ∙ sym e

pub loop-first-preserved-then-first-ne92 : goal.loop-first-preserved-then-first-ne92
loop-first-preserved-then-first-ne92 c =
    let rest = c.loop-first.rest.now in
    let tail = c.in-Some.tail.now in
    let all = length c.args.text.now in
    let e : rest ≡ c.in-Some.first.now ∷ tail = search rules in
    let l : length rest ≡ suc (length tail) = ap length e in (
      omega (arith, c.loop-first.invariant.0),
      goes_on c.args.mark 1 all rest tail (omega arith) c.loop-first.invariant.0
          (ap (mark_in c.args.mark (all - length rest)) e ∙ mark_plain c.args.mark (all - length rest) c.in-Some.first.now tail c.if-first-ne92.true)
          ∙ c.loop-first.invariant.1,
    )

pub loop-first-preserved : goal.loop-first-preserved
loop-first-preserved c =
    let rest = c.loop-first.rest.now in
    let left = c.in_ok-second.left.now in
    let all = length c.args.text.now in
    let e : rest ≡ c.in-Some.first.now ∷ c.in-Some.tail.now = search rules in
    let f : c.in-Some.tail.now ≡ c.in_ok-second.second.now ∷ left = search rules in
    let l : length rest ≡ suc (length c.in-Some.tail.now) = ap length e in
    let m : length c.in-Some.tail.now ≡ suc (length left) = ap length f in (
      omega (arith, c.loop-first.invariant.0),
      goes_on c.args.mark 2 all rest left (omega arith) c.loop-first.invariant.0
          (ap (mark_in c.args.mark (all - length rest)) (e ∙ ap (λ t. c.in-Some.first.now ∷ t) f)
          ∙ mark_passed c.args.mark (all - length rest) c.in-Some.first.now c.in_ok-second.second.now left c.if-first-ne92.false c.if-second-mark.false)
          ∙ c.loop-first.invariant.1,
    )
