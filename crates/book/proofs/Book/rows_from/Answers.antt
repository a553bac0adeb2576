use Rattle.std.proofs.Common.{drop, ap, ◌∙◌}
use Rattle.std.proofs.lemmas.List.{take_rest}
use Rattle.book.proofs.Book.rows_from.Goals as goal

pub returns : goal.returns
returns c =
    record {
      first = c.start_of-first.result;
      parted = c.start_of-first.ensures;
      after = take_rest c.as_slice.result.now c.start_of-first.result ∙ ap (λ xs. drop c.start_of-first.result xs) c.as_slice.ensures.value;
    }
