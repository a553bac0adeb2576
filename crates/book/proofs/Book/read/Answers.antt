use Rattle.std.proofs.Common.{◌≡◌, vec_items, sym, refl, ◌∙◌, subst}
use Rattle.std.proofs.lemmas.Result.{err_from_is_err_and}
use Rattle.draft.specs.Sketch.{sketch_of}
use Rattle.draft.specs.Numbering.{known}
use Rattle.book.specs.Reading.{Accepted, Refused}
use Rattle.book.specs.Reading.Refused.{unread}
use Rattle.book.proofs.Accepting.{accepted_from, refused_full}
use Rattle.draft.specs.Spelled.{Spelled}
use Rattle.book.specs.Forming.{spelled_from}
use Rattle.draft.proofs.Readings.{cases_err, made_err}
use Rattle.book.proofs.Book.read.Goals as goal

pub admit-requires : goal.admit-requires
admit-requires c =
    let e = c.in_ok-end.ensures in
    subst (Spelled 1) (sym c.number.ensures.cells) (spelled_from 1 c.args.text.now c.args.self.now.names (sketch_of c.clause.new.self) e.spelled)

pub returns-in_err-end : goal.returns-in_err-end
returns-in_err-end c =
    let p = err_from_is_err_and c.from_residual.result c.from_residual.ensures.1 in
    let b = c.args.self.now in
    record {
      read =
          cases_err (λ end. Accepted b b c.args.text.now c.args.at end) (λ e. Refused b c.args.text.now c.args.at e × (b ≡ b)) c.from_residual.result p.0 _ p.1 p.2
          (unread c.in_err-end.ensures.reads, refl);
      bounds = made_err _ c.from_residual.result p.0 p.1;
    }

pub returns-in_err-admit : goal.returns-in_err-admit
returns-in_err-admit c =
    let p = err_from_is_err_and c.from_residual-in_err-admit.result c.from_residual-in_err-admit.ensures.1 in
    let b = c.args.self.now in
    let a = c.admit.new.self in
    let d = c.number.new.self in
    let text = c.args.text.now in
    let w = c.in_err-admit.ensures in
    record {
      read =
          cases_err (λ end. Accepted b a text c.args.at end) (λ e. Refused b text c.args.at e × (a ≡ b)) c.from_residual-in_err-admit.result p.0 _ p.1 p.2 (
            refused_full b text c.args.at c.in_ok-end.end (sketch_of c.clause.new.self) (vec_items d.cells) (known b.names text d) d.start _ c.in_ok-end.ensures.reads
                c.number.ensures.cells c.number.ensures.words w.0 (c.number.ensures.start ∙ c.in_ok-end.ensures.start) w.1,
            w.2,
          );
      bounds = made_err _ c.from_residual-in_err-admit.result p.0 p.1;
    }

pub returns : goal.returns
returns c =
    let b = c.args.self.now in
    let a = c.admit.new.self in
    let d = c.number.new.self in
    let text = c.args.text.now in
    let w = c.in_ok-admit.ensures in
    record {
      read =
          accepted_from b a text c.args.at c.in_ok-end.end (sketch_of c.clause.new.self) (vec_items d.cells) (known b.names text d) c.in_ok-end.ensures.reads
          c.number.ensures.cells c.number.ensures.words w.0 w.1;
      bounds = c.in_ok-end.ensures.bounds;
    }
