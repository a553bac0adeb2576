use Rattle.std.proofs.Common.{◌≡◌, ◌≤◌, ◌++◌, take, drop, vec_items, vec_len}
use Rattle.draft.specs.Numbering.{numbered_all, words_after, known}
use Rattle.draft.proofs.Draft.number.Given as goal

abbrev pub invariant-loop-i : goal.invariant-loop-i
invariant-loop-i l =
    (vec_len l.self.fresh ≤ l.i)
    × (vec_len l.self.cells ≡ vec_len l.initial.self.cells)
    × (l.self.start ≡ l.initial.self.start)
    × (take l.i (vec_items l.self.cells) ++ numbered_all l.text (known l.names l.text l.self) (drop l.i (vec_items l.self.cells)) (drop l.i (vec_items l.self.spans))
    ≡ numbered_all l.text (known l.names l.text l.initial.self) (vec_items l.initial.self.cells) (vec_items l.initial.self.spans))
    × (words_after l.text (known l.names l.text l.self) (drop l.i (vec_items l.self.cells)) (drop l.i (vec_items l.self.spans))
    ≡ words_after l.text (known l.names l.text l.initial.self) (vec_items l.initial.self.cells) (vec_items l.initial.self.spans))
