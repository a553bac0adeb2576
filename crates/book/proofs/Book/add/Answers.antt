use Rattle.std.proofs.Common.{◌≡◌, ◌<◌, ◌++◌, All, length, vec_items, vec_len, vec_capacity, refl, ap, sym, ◌∙◌, subst, arith, rules}
use Rattle.std.specs.List.{insert}
use Rattle.std.proofs.lemmas.Bool.{cond-true}
use Rattle.std.proofs.lemmas.List.Elements.{All-append, All-get_or}
use Rattle.clauses.specs.Clauses.{Low, Slim}
use Rattle.book.specs.Fit.{Inside, Right, Narrow, Rising, Parted, up_to}
use Rattle.book.specs.Meaning.{row_of}
use Rattle.book.specs.Forming.{spelled_some, draft_slim, inside_all, right_all}
use Rattle.book.specs.Rows.{all_inserted, rising_more}
use Rattle.book.proofs.Book.add.Goals as goal

pub invariant_of-self : goal.invariant_of-self
invariant_of-self c =
    let s = c.args.self.now in
    let d = c.args.draft.now in
    let clause = vec_items d.cells in
    let old = vec_items s.cells in
    let cells = vec_items c.extend_from_slice.new.self in
    let rows = vec_items c.insert.new.self in
    let at = c.end_of-at.result in
    let r = row_of (length old) clause in
    let p = c.requires.spelled in
    let some = spelled_some clause p in
    let lens = s.cells.ok.0 in
    let lenr = s.rows.ok.0 in
    let lenc = c.extend_from_slice.new.self.ok.0 in
    let ec : cells ≡ old ++ clause = c.in-Ok.ensures.items ∙ ap (λ t. old ++ t) c.cells-clause.ensures in
    let room : vec_len s.rows < vec_capacity s.rows = omega arith in
    let good = c.insert.ensures.succeeds room in
    let er : rows ≡ insert (vec_items s.rows) at r = c.insert.ensures.items ∙ (cond-true _ _ _ good ∙ search rules) in
    let place : Parted (vec_items s.rows) (λ q. up_to q r.predicate) at = search rules in
    let inside : All (Inside (length old)) (vec_items s.rows) = subst (λ n. All (Inside n) (vec_items s.rows)) lens s.inside in
    record {
      space = search rules;
      few = search rules;
      small = search rules;
      low = subst (All Low) (sym ec) (All-append Low old clause s.low p.low);
      slim = subst (All Slim) (sym ec) (All-append Slim old clause s.slim (draft_slim d));
      inside = subst (λ xs. All (Inside c.extend_from_slice.new.self.len) xs) (sym er) (subst (λ n. All (Inside n) (insert (vec_items s.rows) at r)) (ap length (sym ec) ∙ sym lenc) (inside_all old clause (vec_items s.rows) at inside p));
      right = subst (λ xs. All (Right cells) xs) (sym er) (subst (λ cs. All (Right cs) (insert (vec_items s.rows) at r)) (sym ec) (right_all old clause (vec_items s.rows) at inside s.right p));
      narrow = subst (All Narrow) (sym er) (all_inserted Narrow (vec_items s.rows) at r s.narrow (All-get_or Slim clause 0 _ some (draft_slim d)));
      sorted = subst Rising (sym er) (rising_more (vec_items s.rows) at r s.sorted place);
    }

pub returns : goal.returns
returns c =
    let s = c.args.self.now in
    let clause = vec_items c.args.draft.now.cells in
    record {
      cells = c.in-Ok.ensures.items ∙ ap (λ t. vec_items s.cells ++ t) c.cells-clause.ensures;
      place = c.end_of-at.result;
      after_others = search rules;
      rows = c.in-Ok-insert.ensures.items ∙ search rules;
      names = refl;
    }
