use Rattle.std.proofs.Common.{◌≡◌, ℕ, List, [], length, Ok, Err, None, vec_items, Result, refl, sym, subst, arith}
use Rattle.std.proofs.lemmas.Result.{IfOk-weaker}
use Rattle.typing.specs.Worked.{form}
use Rattle.verdicts.specs.declared.Answer.{Answer}
use Rattle.verdicts.specs.declared.Refusal.{Refusal}
use Rattle.trees.specs.Tree.{Tree}
use Rattle.draft.specs.declared.Draft.{Draft}
use Rattle.draft.specs.Spelled.{Spelled}
use Rattle.book.specs.declared.Book.{Book}
use Rattle.book.specs.declared.SealedBook.{SealedBook}
use Rattle.book.specs.Forming.{asked_spelled}
use Rattle.book.specs.Meaning.{book_clauses}
use Rattle.frames.specs.Asked.{judged, Asked, Answered, Bounded, Tells}
use Rattle.frames.proofs.Questions.{judged_spelled}
use Rattle.line.specs.declared.Reply.{Reply}
use Rattle.line.specs.Reading.{ReadsText, question, RepliesWithin, RepliesByTree, Replies, Empty}
use Rattle.line.specs.Reading as reading
use Rattle.line.proofs.reply_to.Goals as goal

-- a question that was read is not refused for its cells, so its tree tells
spelled : (text : List ℕ) (b : Book) (d : Draft) (s : SealedBook) → ReadsText text b d (Ok s) → Spelled 0 (vec_items d.cells)
spelled text b d s (question l r f a) = asked_spelled s.book.names text _ d a

not_refused : (text : List ℕ) (b : Book) (d : Draft) (s : SealedBook) (n : ℕ) → n ≡ 32 → ReadsText text b d (Ok s) → judged (vec_items d.cells) 12864 512 n ≡ None
not_refused text b d s n ne reads =
    let sp = spelled text b d s reads in
    judged_spelled (vec_items d.cells) 12864 512 n sp.count sp.goal_list sp.eight sp.few sp.low (omega arith) (omega arith) (omega arith)

told : (text : List ℕ) (b : Book) (d : Draft) (s : SealedBook) (n limit allowance : ℕ) (before after : List ℕ) (r : Result Answer Refusal) → n ≡ 32 → limit ≡ 32 → allowance ≡ 100000 → ReadsText text b d (Ok s)
    → Asked (judged (vec_items d.cells) 12864 512 n) (book_clauses s) form limit allowance (vec_items d.cells) [] before after r
    → Answered (book_clauses s) form 32 100000 (vec_items d.cells) [] before after r
told text b d s n limit allowance before after r ne le ae reads h =
    let q = vec_items d.cells in
    subst (λ l. Answered (book_clauses s) form l 100000 q [] before after r) le
    (subst (λ a. Answered (book_clauses s) form limit a q [] before after r) ae
    (subst (λ o. Asked o (book_clauses s) form limit allowance q [] before after r) (not_refused text b d s n ne reads) h))

by_tree : (text : List ℕ) (limit allowance : ℕ) (before after : List ℕ) → length before ≡ 32 → limit ≡ 32 → allowance ≡ 100000 → (p : Reply) → RepliesWithin text limit allowance before after p → RepliesByTree text p
by_tree text limit allowance before after ne le ae _ (reading.RepliesWithin.faulty b d e r same) = reading.RepliesByTree.faulty b d e r
by_tree text limit allowance before after ne le ae _ (reading.RepliesWithin.replied b d s r e reads h) =
    reading.RepliesByTree.replied b d s r before after e reads (told text b d s (length before) limit allowance before after r ne le ae reads h)

-- what the tree tells is within the allowance
bounded : (t : Tree) (before after : List ℕ) (r : Result Answer Refusal) → Tells 100000 t before after r → Bounded None 100000 r
bounded t before after (Ok a) h = let e = h.0 in let l = h.1 in omega arith
bounded t before after (Err e) h = h.0

usual : (text : List ℕ) (p : Reply) → RepliesByTree text p → Replies text p
usual text _ (reading.RepliesByTree.faulty b d e r) = reading.Replies.faulty b d e r
usual text _ (reading.RepliesByTree.replied b d s r before after e reads a) =
    reading.Replies.replied b d s r e reads (subst (λ o. Bounded o 100000 r) (sym (not_refused text b d s 32 refl reads)) (bounded a.tree before after r a.told))

pub returns : goal.returns
returns c =
    let tree =
    IfOk-weaker c.reply_within.result _ _ (by_tree c.args.text.now c.usual_settings.result.limit c.usual_settings.result.allowance _ _ refl c.usual_settings.ensures.0 c.usual_settings.ensures.1)
    c.reply_within.ensures in
    record { replies = IfOk-weaker c.reply_within.result _ _ (usual c.args.text.now) tree; tree = tree }
