use Rattle.std.proofs.Common.{◌≡◌, ◌+◌, drop}
use Rattle.names.specs.Spans.{words_in, bytes_of}
use Rattle.names.proofs.words.room_after.Given as goal

abbrev pub invariant-loop-s : goal.invariant-loop-s
invariant-loop-s l = bytes_of (words_in l.text l.spans) + l.left ≡ l.room + bytes_of (words_in l.text (drop l.s-index l.spans))
