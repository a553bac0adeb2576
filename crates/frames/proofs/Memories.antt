-- Going back from what has grown; goal lists in what has grown; frames whose branch is written on.
use Rattle.std.proofs.Common.{◌≡◌, ℕ, suc, ◌<◌, ◌≤◌, List, [], ◌∷◌, ◌++◌, length, take, drop, set, Option, sym, refl, ap, ◌∙◌, append_assoc, append-nil, arith}
use Rattle.std.proofs.lemmas.List.{take_at, take-set-le, drop-append-le, get_or_append_left, length-append, length-drop}
use Rattle.terms.specs.declared.Cell.{Cell}
use Rattle.typing.specs.Terms.{Term, var, con, fun, Eqs, Signature}
use Rattle.trees.specs.Tree.{Goal, Program}
use Rattle.trees.specs.Search.{Work}
use Rattle.graphs.specs.Flat.{flat, Stands}
use Rattle.graphs.specs.Links.{restore}
use Rattle.graphs.proofs.Lists.{logged_none, logged_trans}
use Rattle.frames.specs.declared.Waiting.{Waiting}
use Rattle.frames.specs.declared.Frame.{Frame}
use Rattle.frames.specs.declared.Node.{Node}
use Rattle.frames.specs.Memory.{Memory, back, rolled, Grown, Marks}
use Rattle.frames.specs.Goals.{First, Lists}
use Rattle.frames.specs.Owed.{Reached, Lower, Owing, Owes}

pub memory_path : (m n : Memory) → m.cells ≡ n.cells → m.links ≡ n.links → m.trail ≡ n.trail → m.waiting ≡ n.waiting → m ≡ n
memory_path m n p q r s = λ i. record { cells = p i; links = q i; trail = r i; waiting = s i }

pub grown_same : (m : Memory) → Grown m m
grown_same m = record { more = []; cells = sym (append-nil m.cells); logged = logged_none m.links m.trail; later = []; waiting = sym (append-nil m.waiting) }

pub grown_trans : (m m' m'' : Memory) → Grown m m' → Grown m' m'' → Grown m m''
grown_trans m m' m'' a b =
    record {
      more = a.more ++ b.more;
      cells = b.cells ∙ (ap (λ xs. xs ++ b.more) a.cells ∙ append_assoc m.cells a.more b.more);
      logged = logged_trans m.links m.trail m'.links m'.trail m''.links m''.trail a.logged b.logged;
      later = a.later ++ b.later;
      waiting = b.waiting ∙ (ap (λ xs. xs ++ b.later) a.waiting ∙ append_assoc m.waiting a.later b.later);
    }

-- from what has grown one goes back to what there was
pub back_grown : (m m' : Memory) (f : Frame) → Marks m f → Grown m m' → back m' f ≡ m
back_grown m m' f marks grown =
    memory_path (back m' f) m
    (ap (λ n. take n m'.cells) marks.cells ∙ (ap (take (length m.cells)) grown.cells ∙ take_at m.cells grown.more (length m.cells) refl))
    (ap (λ n. restore m'.links (drop n m'.trail)) marks.trail ∙ grown.logged.back)
    (ap (λ n. take n m'.trail) marks.trail ∙ grown.logged.kept)
    (ap (λ n. take n m'.waiting) marks.waiting ∙ (ap (take (length m.waiting)) grown.waiting ∙ take_at m.waiting grown.later (length m.waiting) refl))

-- and so do the bindings alone, where no goal has come to wait
pub rolled_grown : (m m' : Memory) (f : Frame) → Marks m f → Grown m m' → m'.waiting ≡ m.waiting → rolled m' f.bindings ≡ m
rolled_grown m m' f marks grown same =
    memory_path (rolled m' f.bindings) m (ap (λ (x : Memory). x.cells) (back_grown m m' f marks grown)) (ap (λ (x : Memory). x.links) (back_grown m m' f marks grown)) (ap (λ (x : Memory). x.trail) (back_grown m m' f marks grown)) same

-- a frame that is made and goes back at once
pub back_here : (m : Memory) (f : Frame) → Marks m f → back m f ≡ m
back_here m f marks = back_grown m m f marks (grown_same m)

some_cell : (t : Term) → 0 < length (flat t)
some_cell (var x) = omega arith
some_cell (con f v) = omega arith
some_cell (fun s ts) = omega arith

pub stands_grown : (cs more : List Cell) (p : ℕ) (t : Term) → Stands cs p t → Stands (cs ++ more) p t
stands_grown cs more p t s =
    let l = length-drop p cs in let e = ap length s.1 ∙ length-append (flat t) s.0 in let o = some_cell t in
    (s.0 ++ more, drop-append-le p cs more (omega arith) ∙ (ap (λ xs. xs ++ more) s.1 ∙ append_assoc (flat t) s.0 more))

first_grown : (ws later : List Waiting) (list : Option ℕ) (w : Waiting) → First ws list w → First (ws ++ later) list w
first_grown ws later list w h =
    let within = h.within in let l = length-append ws later in
    record { place = h.place; some = h.some; within = omega arith; is = get_or_append_left ws later w h.place (omega arith) ∙ h.is }

pub lists_grown : (cs more : List Cell) (ws later : List Waiting) (list : Option ℕ) (gs : List Goal) → Lists cs ws list gs → Lists (cs ++ more) (ws ++ later) list gs
lists_grown cs more ws later list [] h = h
lists_grown cs more ws later list (g ∷ gs) h =
    (h.0, first_grown ws later list h.0 h.1, stands_grown cs more h.0.goal (fun g.symbol g.arguments) h.2, lists_grown cs more ws later h.0.rest gs h.3)

-- a branch that is written on from step k is what it was below
pub reached_set : (kind : Signature) (trodden : List ℕ) (k v : ℕ) (m : Memory) (n : Node) (r : List ℕ) (gs : List Goal) (E : Eqs) → n.step ≤ k
    → Reached kind trodden m n r gs E → Reached kind (set trodden k v) m n r gs E
reached_set kind trodden k v m n r gs E l h = record { standing = h.standing; goals = h.goals; path = λ e. take-set-le n.step trodden k v l ∙ h.path e }

pub owing_set : (home : Memory) (P : Program) (kind : Signature) (limit : ℕ) (trodden : List ℕ) (k v : ℕ) (m : Memory) (f : Frame) (w : Work) → f.node.step ≤ k
    → Owing home P kind limit trodden m f w → Owing home P kind limit (set trodden k v) m f w
owing_set home P kind limit trodden k v m f w l h =
    record { since = h.since; marks = h.marks; early = h.early; path = h.path; goal = h.goal; rest = h.rest; equations = h.equations; reached = reached_set kind trodden k v m f.node h.path (h.goal ∷ h.rest) h.equations l h.reached; work = h.work }

pub owes_set : (home : Memory) (P : Program) (kind : Signature) (limit : ℕ) (trodden : List ℕ) (k v : ℕ) (m : Memory) (fs : List Frame) (ws : List Work) → Lower (suc k) fs
    → Owes home P kind limit trodden m fs ws → Owes home P kind limit (set trodden k v) m fs ws
owes_set home P kind limit trodden k v m [] ws l h = h
owes_set home P kind limit trodden k v m (f ∷ fs) ws l h =
    let low = l.0 in
    (h.0, h.1, h.2, owing_set home P kind limit trodden k v (back m f) f h.0 (omega arith) h.3, h.4, owes_set home P kind limit trodden k v (back m f) fs h.1 l.1 h.5)

-- steps below k are below what is above k
pub lower_more : (j k : ℕ) (fs : List Frame) → j ≤ k → Lower j fs → Lower k fs
lower_more j k [] h l = tt
lower_more j k (f ∷ fs) h l = let low = l.0 in (omega arith, lower_more j k fs h l.1)
