use Rattle.std.proofs.Common.{◌≡◌, ◌+◌, ◌-◌, ◌≤◌, ◌++◌, length, take, drop, vec_len}
use Rattle.names.specs.Spans.{bytes_of, words_in}
use Rattle.names.specs.Words.{names_of}
use Rattle.names.proofs.Names.add_all.Given as goal

abbrev pub invariant-loop-s : goal.invariant-loop-s
invariant-loop-s l =
    (vec_len l.self.spans + (length l.spans - l.s-index) ≤ 256) × (vec_len l.self.bytes + bytes_of (words_in l.text (drop l.s-index l.spans)) ≤ 4096)
    × (names_of l.self ≡ names_of l.initial.self ++ words_in l.text (take l.s-index l.spans))
