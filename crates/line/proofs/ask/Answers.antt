use Rattle.std.proofs.Common.{◌≡◌, ℕ, List, [], length, Result, sym, ◌∙◌, subst}
use Rattle.std.proofs.lemmas.Result.{IfOk-from_err}
use Rattle.terms.specs.declared.Cell.{Cell}
use Rattle.verdicts.specs.declared.Answer.{Answer}
use Rattle.verdicts.specs.declared.Refusal.{Refusal}
use Rattle.typing.specs.Terms.{Eqs}
use Rattle.typing.specs.Worked.{form}
use Rattle.graphs.specs.Links.{roots}
use Rattle.unification.specs.Standing.{Standing}
use Rattle.unification.proofs.Standing.{standing_start}
use Rattle.book.specs.Meaning.{book_clauses}
use Rattle.book.specs.Books.{books_formed}
use Rattle.frames.specs.Asked.{judged, Asked, Bounded}
use Rattle.resolution.specs.State.{standing_cells, standing_links}
use Rattle.line.proofs.ask.Goals as goal

-- the scratch has the stated sizes
sized : (q : List Cell) (p f n a l : ℕ) (lists : ℕ → ℕ → List (List Cell)) (E : Eqs) (before after : List ℕ) (r : Result Answer Refusal) → p ≡ 12864 → f ≡ 512
    → Asked (judged q p f n) lists form l a q E before after r → Asked (judged q 12864 512 n) lists form l a q E before after r
sized q p f n a l lists E before after r pe fe h =
    subst (λ f. Asked (judged q 12864 f n) lists form l a q E before after r) fe (subst (λ p. Asked (judged q p f n) lists form l a q E before after r) pe h)

-- nothing stands in a new search
nothing_stands : (cs : List Cell) (l : List ℕ) → cs ≡ [] → l ≡ roots 0 2624 → Standing form cs l []
nothing_stands cs l ce le = subst (λ x. Standing form x l []) (sym ce) (subst (λ x. Standing form [] x []) (sym le) (standing_start form))

bounds : (q : List Cell) (p f n a : ℕ) (r : Result Answer Refusal) → p ≡ 12864 → f ≡ 512 → Bounded (judged q p f n) a r → Bounded (judged q 12864 512 n) a r
bounds q p f n a r pe fe h = subst (λ f. Bounded (judged q 12864 f n) a r) fe (subst (λ p. Bounded (judged q p f n) a r) pe h)

pub returns-in_err-frames : goal.returns-in_err-frames
returns-in_err-frames c =
    record {
      asked = IfOk-from_err c.from_residual-in_err-frames.result _ c.from_residual-in_err-frames.ensures.0;
      bounded = IfOk-from_err c.from_residual-in_err-frames.result _ c.from_residual-in_err-frames.ensures.0;
    }

pub returns : goal.returns
returns c =
    let new = c.in_ok-search.ensures in
    let pairs = c.as_mut_slice.ensures.len ∙ c.in_ok-pairs.ensures.len in
    let frames = c.as_mut_slice-2.ensures.len ∙ c.in_ok-frames.ensures.len in
    record {
      asked =
          sized c.args.question.now _ _ (length c.args.path.now) c.args.settings.allowance c.args.settings.limit (book_clauses c.args.book.now) [] c.args.path.now c.ask.new.path c.ask.result pairs frames
          (c.ask.ensures.asked (books_formed c.args.book.now) [] (nothing_stands (standing_cells c.in_ok-search.search) (standing_links c.in_ok-search.search) new.0 new.1));
      bounded = bounds c.args.question.now _ _ (length c.args.path.now) c.args.settings.allowance c.ask.result pairs frames c.ask.ensures.bounded;
    }
