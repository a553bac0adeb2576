use Rattle.std.proofs.Common.{◌≡◌, [], length, vec_items, refl, ap, subst}
use Rattle.typing.specs.Worked.{form}
use Rattle.names.specs.Words.{names_of}
use Rattle.book.specs.declared.Book.{Book}
use Rattle.book.specs.Meaning.{book_clauses, listed}
use Rattle.frames.specs.Asked.{judged, Asked}
use Rattle.line.specs.Reading.{RepliesWithin, reply_of, Empty}
use Rattle.line.specs.Reading as reading
use Rattle.line.proofs.reply_within.Goals as goal

-- a book without rows has no clauses
empty : (b : Book) → (vec_items b.rows ≡ []) × (vec_items b.cells ≡ []) × (names_of b.names ≡ []) → Empty b
empty b e = record { clauses = λ p n. ap (λ rows. listed rows (vec_items b.cells) p n) e.0; names = e.2 }

pub returns-in-Err : goal.returns-in-Err
returns-in-Err c = reading.RepliesWithin.faulty _ _ (empty _ c.in_ok-book.ensures) c.in-Err.ensures refl

pub returns-in-Ok-2 : goal.returns-in-Ok-2
returns-in-Ok-2 c =
    subst (λ r. RepliesWithin c.args.text.now c.args.settings.limit c.args.settings.allowance c.args.path.now c.ask.new.path (reply_of r)) c.in-Ok-2.is
    (reading.RepliesWithin.replied _ _ _ c.in_ok-answer.field-0 (empty _ c.in_ok-book.ensures) c.in-Ok.ensures
    (subst (λ q. Asked (judged q 12864 512 (length c.args.path.now)) (book_clauses c.in-Ok.sealed) form c.args.settings.limit c.args.settings.allowance q [] c.args.path.now c.ask.new.path c.in_ok-answer.field-0) c.cells.ensures c.in_ok-answer.ensures.asked))

pub returns : goal.returns
returns c =
    subst (λ r. RepliesWithin c.args.text.now c.args.settings.limit c.args.settings.allowance c.args.path.now c.ask.new.path (reply_of r)) c.in-Err-2.is
    (reading.RepliesWithin.replied _ _ _ c.in_ok-answer.field-0 (empty _ c.in_ok-book.ensures) c.in-Ok.ensures
    (subst (λ q. Asked (judged q 12864 512 (length c.args.path.now)) (book_clauses c.in-Ok.sealed) form c.args.settings.limit c.args.settings.allowance q [] c.args.path.now c.ask.new.path c.in_ok-answer.field-0) c.cells.ensures c.in_ok-answer.ensures.asked))
