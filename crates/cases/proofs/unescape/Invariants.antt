use Rattle.std.proofs.Common.{◌≡◌, ◌++◌, length, vec_items}
use Rattle.cases.specs.Escapes.{unescaped}
use Rattle.cases.proofs.unescape.Given as goal

abbrev pub invariant-loop-first : goal.invariant-loop-first
invariant-loop-first l = vec_items l.out ++ unescaped l.round l.rest ≡ vec_items l.initial.out ++ unescaped l.round l.text

abbrev pub decreases-loop-first : goal.decreases-loop-first
decreases-loop-first l = length l.rest
