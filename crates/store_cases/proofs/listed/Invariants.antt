use Rattle.std.proofs.Common.{◌≡◌, take, string_bytes}
use Rattle.store_cases.specs.Texts.{replies_text}
use Rattle.store_cases.proofs.listed.Given as goal

abbrev pub invariant-loop-reply : goal.invariant-loop-reply
invariant-loop-reply l = string_bytes l.text ≡ replies_text (take l.reply-index l.replies)
