-- What holds after every history.
use Rattle.std.proofs.Common.{◌≡◌, ℕ, zero, suc, ◌+◌, ◌<◌, List, [], ◌∷◌, ◌++◌, length, get_or, take, set, Ok, Err, Result, sym, refl, ◌∙◌, subst, arith}
use Rattle.std.proofs.lemmas.List.{take_more, take_more_set, take-take, take_all}
use Rattle.terms.specs.declared.Cell.{Cell}
use Rattle.typing.specs.Terms.{Eqs, Signature}
use Rattle.typing.proofs.Orders.{every_order}
use Rattle.store.specs.declared.Refusal.{Refusal}
use Rattle.store.specs.declared.call.Call.{Call}
use Rattle.store.specs.declared.call.Call.TheVariants.{Enter, Mark, Keep, TakeBack, Ask, Read}
use Rattle.store.specs.declared.call.Reply.{Reply}
use Rattle.store.specs.Judged.{judged, judged_question, judged_variable}
use Rattle.store.specs.Model.{Model, opened, without_mark, cut_back}
use Rattle.store.specs.Calls.{Spelt}
use Rattle.store.specs.History.{Fixed, fixed, World, world, Step, History, none, next, Says, AfterEveryHistory, Ran, Held, Replayed}
use Rattle.store.proofs.Marks.{Well, well_opened, well_without, well_back, entered_well, marked_well, ended_well, entries_spell, spelt_only}
use Rattle.store.proofs.Saying.{enter_says, ask_says, ask_unsolved, read_says, read_unsolved}

step_well : (f : Fixed) (w : World) (c : Call) (a : Reply) (w' : World) → Step f w c a w' → Well w.model → Well w'.model
step_well f w (Enter cells) a w' s h =
    entered_well f.kind w.model cells.now f.pairs f.frames (judged cells.now f.pairs f.frames (length w.model.entries)) refl s.0 w'.model s.2 h
step_well f w Mark a w' s h = marked_well f.number w.model s.0 w'.model s.2 h
step_well f w (Keep t) a w' s h = ended_well f.number w.model t s.0 (without_mark w.model) w'.model (λ _ k. well_without w.model k) s.2 h
step_well f w (TakeBack t) a w' s h = ended_well f.number w.model t s.0 (cut_back w.model) w'.model (well_back w.model) s.2 h
step_well f w (Ask question) a w' s h = subst Well (sym s.3) h
step_well f w (Read v) a w' s h = subst Well (sym s.3) h

history_well : {f : Fixed} {w w' : World} {cs : List Call} {bs : List Reply} → History f w cs bs w' → Well w.model → Well w'.model
history_well none h = h
history_well {f} (next {w} {w'} {c = c} {a = a} s r) h = history_well r (step_well f w c a w' s h)

step_says : (f : Fixed) (w : World) (E : Eqs) → Spelt E w.model.entries → (c : Call) (a : Reply) (w' : World) → Step f w c a w' → Says f E w c a w'
step_says f w E e (Enter cells) a w' s = λ o b.
    enter_says f.kind w.model E e cells.now f.pairs f.frames (judged cells.now f.pairs f.frames (length w.model.entries)) refl s.0 w'.model s.2 o (cc s.1)
step_says f w E e Mark a w' s = tt
step_says f w E e (Keep t) a w' s = tt
step_says f w E e (TakeBack t) a w' s = tt
step_says f w E e (Ask question) a w' s = (
  (λ b i. ask_says f w.model E e question.now w.path w'.path s.0 b (cc s.1) (judged_question question.now f.pairs f.frames) s.2),
  (λ i. ask_unsolved f w.model E e question.now w.path w'.path s.0 (cc s.1) (judged_question question.now f.pairs f.frames) refl s.2),
)
step_says f w E e (Read v) a w' s = (
  (λ n i θ reads. read_says f.kind w.model E e v w.out w'.out s.0 n (cc s.1) θ reads (judged_variable v f.pairs f.frames) s.2),
  (λ i. read_unsolved f w.model E e v w.out w'.out s.0 (cc s.1) (judged_variable v f.pairs f.frames) refl s.2),
)

pub after_every_history : (f : Fixed) → AfterEveryHistory f
after_every_history f path out cs bs w h =
    let k = history_well h well_opened in
    let p = entries_spell w.model.entries k.proper in
    record {
      equations = p.0;
      spelt = p.1;
      only = λ F s. spelt_only F p.0 (s ∙ sym p.1);
      below = p.2;
      ordered = every_order f.kind p.0;
      says = step_says f w p.0 p.1;
      few = k.few;
      shallow = k.shallow;
      rising = k.rising;
      within = k.within;
    }

-- one call more, at the end; the first calls of a history
history_more : {f : Fixed} {w w' w'' : World} {cs : List Call} {bs : List Reply} (c : Call) (a : Reply) → History f w cs bs w' → Step f w' c a w'' → History f w (cs ++ (c ∷ [])) (bs ++ (a ∷ [])) w''
history_more c a none s = next s none
history_more c a (next t r) s = next t (history_more c a r s)

history_first : {f : Fixed} {w w'' : World} {cs : List Call} {bs : List Reply} → (k : ℕ) → History f w cs bs w'' → (w' : World) × History f w (take k cs) (take k bs) w'
history_first {w = w} zero h = (w, none)
history_first {w = w} (suc k) none = (w, none)
history_first (suc k) (next {w' = w'} s r) = let f = history_first {w = w'} k r in (f.0, next s f.1)

-- a loop's step: the call at i is made, and its reply written at i
pub history_written : (f f' : Fixed) {w w' w'' : World} (cs : List Call) (bs : List Reply) (i : ℕ) (d : Call) (a : Reply) → f' ≡ f → i < length cs → i < length bs
    → History f w (take i cs) (take i bs) w' → Step f' w' (get_or cs i d) a w'' → History f w (take (i + 1) cs) (take (i + 1) (set bs i a)) w''
history_written f f' {w} {w'} {w''} cs bs i d a p l k h s =
    subst (λ (ds : List Call). History f w ds (take (i + 1) (set bs i a)) w'') (sym (take_more cs i d l))
    (subst (λ (ds : List Reply). History f w (take i cs ++ (get_or cs i d ∷ [])) ds w'') (sym (take_more_set bs i a k))
    (history_more (get_or cs i d) a h (subst (λ (g : Fixed). Step g w' (get_or cs i d) a w'') p s)))

pub ran_all : (f : Fixed) {w w' : World} (cs : List Call) (bs : List Reply) (i : ℕ) → i ≡ length cs → History f w (take i cs) (take i bs) w' → History f w cs (take (length cs) bs) w'
ran_all f {w} {w'} cs bs i e h =
    subst (λ (ds : List Call). History f w ds (take (length cs) bs) w') (take_all (length cs) cs (omega arith))
    (subst (λ (k : ℕ). History f w (take k cs) (take k bs) w') e h)

-- each beginning of a history is one
held : (f : Fixed) (path : List ℕ) (out : List Cell) (cs : List Call) (bs : List Reply) (w : World) → History f (world opened path out) cs (take (length cs) bs) w → Held f cs path out bs
held f path out cs bs w h k l =
    let p = history_first k h in
    let g = subst (λ (ds : List Reply). History f (world opened path out) (take k cs) ds p.0) (take-take k (length cs) bs l) p.1 in
    (p.0, g, after_every_history f path out (take k cs) (take k bs) p.0 g)

ran_held : (f : Fixed) (path path' : List ℕ) (out out' : List Cell) (cs : List Call) (before after : List Reply) (r : Result (Unit {0}) Refusal) (m : Model)
    → Ran f (world opened path out) cs before r after (world m path' out') → r ≡ Ok tt → Held f cs path out after
ran_held f path path' out out' cs before after (Ok u) m h p = held f path out cs after (world m path' out') h.1
ran_held f path path' out out' cs before after (Err e) m h p = absurd (let z : ◌≡◌ {A = ℕ} 0 1 = cc in omega arith)

-- what running the calls on a new store comes to
pub ran_replayed : (f f' : Fixed) (m m' : Model) (path path' : List ℕ) (out out' : List Cell) (cs : List Call) (before after : List Reply) (r : Result (Unit {0}) Refusal) → f' ≡ f → m ≡ opened
    → Ran f' (world m path out) cs before r after (world m' path' out') → Replayed f cs path out before r after path' out'
ran_replayed f f' m m' path path' out out' cs before after r p e h = ((m', k), ran_held f path path' out out' cs before after r m' k)
  where
    k : Ran f (world opened path out) cs before r after (world m' path' out')
    k =
        subst (λ (g : Fixed). Ran g (world opened path out) cs before r after (world m' path' out')) p
        (subst (λ (v : Model). Ran f' (world v path out) cs before r after (world m' path' out')) e h)

pub same_fixed : {l l' : ℕ → ℕ → List (List Cell)} {k k' : Signature} {m m' a a' n n' p p' q q' : ℕ} → l ≡ l' → k ≡ k' → m ≡ m' → a ≡ a' → n ≡ n' → p ≡ p' → q ≡ q'
    → fixed l k m a n p q ≡ fixed l' k' m' a' n' p' q'
same_fixed b c d e f g h = cc
