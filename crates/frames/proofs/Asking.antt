-- From the tally of the whole tree to the answer.
use Rattle.std.proofs.Common.{◌≡◌, ℕ, ◌<◌, ◌≤◌, Bool, true, false, List, [], ◌∷◌, ◌++◌, length, get_or, take, drop, is_some, Some, None, Ok, Err, Option, Result, sym, refl, ap, ◌∙◌, subst, append-nil, arith, MatchResult}
use mathlib.Core.Option as option
use native.Mathlib.Decide.{dec_le}
use Rattle.std.proofs.lemmas.List.{take-append-drop, take_at, drop_at}
use Rattle.graphs.specs.Links.{restore, Logged}
use Rattle.graphs.proofs.Lists.{logged_none}
use Rattle.frames.specs.declared.Waiting.{Waiting}
use Rattle.frames.proofs.Memories.{memory_path, back_grown}
use Rattle.frames.proofs.Listing.{later_of}
use Rattle.terms.specs.declared.Cell.{Cell}
use Rattle.terms.specs.Shape.{goals, all_low}
use Rattle.typing.specs.Terms.{Eqs, Signature}
use Rattle.trees.specs.Terms.{EqsBelow}
use Rattle.trees.specs.Tree.{Goal, Program, Small, GoalsBelow, Tree, IsTree, Succeeds, steps}
use Rattle.trees.specs.Proofs.{uses}
use Rattle.trees.specs.Verdicts.{VerdictOf, Told}
use Rattle.trees.specs.Summaries.{Best, chosen, summary, nothing}
use Rattle.trees.specs.Search.{node, Toward}
use Rattle.trees.specs.Claims.{Question}
use Rattle.trees.proofs.Claims.{every_tree, holds_is_proof, told_is_best}
use Rattle.trees.proofs.Summaries.{summed}
use Rattle.trees.proofs.Toward.{toward_start}
use Rattle.graphs.specs.Whole.{Whole}
use Rattle.clauses.specs.Clauses.{OfPredicate}
use Rattle.programs.specs.Spelling.{spell_goals, Spells}
use Rattle.programs.proofs.Parsing.{parse_goals}
use Rattle.programs.proofs.Programs.{program_of}
use Rattle.programs.proofs.Lows.{goals_below}
use Rattle.programs.proofs.Wholes.{whole_goals}
use Rattle.unification.specs.Standing.{Standing}
use Rattle.unification.proofs.Standing.{standing_grow, standing_solvable}
use Rattle.verdicts.specs.declared.Answer.{Answer}
use Rattle.verdicts.specs.declared.Refusal.{Refusal}
use Rattle.verdicts.specs.declared.Refusal.TheVariants.{Allowance}
use Rattle.verdicts.specs.declared.Verdict.TheVariants as verdict
use Rattle.verdicts.specs.declared.Verdict as told
use Rattle.verdicts.specs.declared.ending.Tally.{Tally}
use Rattle.verdicts.specs.Leaves.{verdict_of, verdict_by}
use Rattle.frames.specs.declared.Frame.{Frame}
use Rattle.frames.specs.declared.Node.{Node}
use Rattle.frames.specs.Memory.{Memory, Grown, Marks}
use Rattle.frames.specs.Goals.{Lists}
use Rattle.frames.specs.Owed.{Kept, Tallied, Entering}
use Rattle.frames.specs.Asked.{PathBy, Shows, Tells, Chain, Proves, Proven, Answered}

-- the root, before anything is counted
pub entering_root : (home : Memory) (P : Program) (kind : Signature) (limit : ℕ) (gs : List Goal) (E : Eqs) (t : Tree) (m : Memory) (trodden best : List ℕ) (n : Node) (none : Tally)
    → IsTree P kind limit true gs E 0 t → Grown home m → Standing kind m.cells m.links E → Lists m.cells m.waiting n.goals gs
    → n.flag ≡ true → n.step ≡ 0 → none ≡ record { leaves = record { uses = None; cut = false; wrong = true }; steps = 0 }
    → (fs : List Frame) → fs ≡ [] → Entering home P kind limit (summary [] t) m trodden best fs none n
entering_root home P kind limit gs E t m trodden best n none is since standing lists flag step zero-tally fs empty =
    subst (λ x. Entering home P kind limit (summary [] t) m trodden best x none n) (sym empty)
    (record {
      sum = nothing;
      works = [];
      path = [];
      goals = gs;
      equations = E;
      since = since;
      owes = (refl, since);
      lower = tt;
      reached = record { standing = standing; goals = lists; path = λ e. ap (λ k. take k trodden) step };
      tallied = subst (λ x. Tallied x best nothing) (sym zero-tally) (record { steps = refl; uses = tt; cut = refl; wrong = refl });
      toward = subst (λ k. Toward P kind limit (summary [] t) nothing (node [] n.flag gs E k ∷ [])) (sym step)
          (subst (λ f. Toward P kind limit (summary [] t) nothing (node [] f gs E 0 ∷ [])) (sym flag) (toward_start P kind limit true gs E 0 t is));
    })

-- a question's cells after the cells of the equations
pub standing_question : (kind : Signature) (cs question : List Cell) (l : List ℕ) (E : Eqs) (gs : List Goal) → length (cs ++ question) ≤ 1568 → question ≡ spell_goals gs
    → Standing kind cs l E → Standing kind (cs ++ question) l E
standing_question kind cs question l E gs small e s = standing_grow kind cs question l E small (subst Whole (sym e) (whole_goals gs)) s

-- the path that was kept is written at the front
pub written : (n : ℕ) (best before after p : List ℕ) → take n after ≡ take n best → drop n after ≡ drop n before → take n best ≡ p → after ≡ p ++ drop n before
written n best before after p w k e = sym (take-append-drop n after) ∙ (ap (λ xs. xs ++ drop n after) (w ∙ e) ∙ ap (λ xs. p ++ xs) k)

-- what the path slice holds after a verdict is written
abbrev pub Wrote : told.Verdict → (best before after : List ℕ) → Type 0
Wrote (verdict.Holds n) best before after = (take n after ≡ take n best) × (drop n after ≡ drop n before)
Wrote verdict.Fails best before after = after ≡ before
Wrote verdict.Erroneous best before after = after ≡ before
Wrote verdict.Unsettled best before after = after ≡ before

shows : (t : Tree) (best before after : List ℕ) (u : Option ℕ) (o : option.Option (List ℕ)) (c w : Bool) → Kept u best o → Best (λ p. Succeeds t p) o → VerdictOf t (chosen o c w)
    → Wrote (verdict_by u c w) best before after → Shows (verdict_by u c w) t before after
shows t best before after None option.none true w k b v h = (v, h)
shows t best before after None option.none false true k b v h = (v, h)
shows t best before after None option.none false false k b v h = (v, h)
shows t best before after None (option.some p) c w k b v h = absurd k
shows t best before after (Some n) option.none c w k b v h = absurd k
shows t best before after (Some n) (option.some p) c w k b v h = (p, b, k.0, written n best before after p h.0 h.1 k.1)

pub shown : (t : Tree) (tally : Tally) (best before after : List ℕ) → Tallied tally best (summary [] t) → Wrote (verdict_of tally.leaves) best before after → Shows (verdict_of tally.leaves) t before after
shown t tally best before after h w =
    let s = summed t in
    shows t best before after tally.leaves.uses (summary [] t).best tally.leaves.cut tally.leaves.wrong h.uses s.best
    (subst (λ x. VerdictOf t (chosen (summary [] t).best tally.leaves.cut x)) h.wrong (subst (λ x. VerdictOf t (chosen (summary [] t).best x (summary [] t).all_wrong)) h.cut s.verdict)) w

pub counted_steps : (t : Tree) (tally : Tally) (best : List ℕ) → Tallied tally best (summary [] t) → tally.steps ≡ steps t
counted_steps t tally best h = sym h.steps ∙ (summed t).edges

-- a source's lists spell one program, and a judged question its goals
pub program_read : (lists : ℕ → ℕ → List (List Cell)) → ((s a k : ℕ) → k < length (lists s a) → OfPredicate s a (get_or (lists s a) k [])) → (P : Program) × Spells P lists × Small P
program_read lists formed = program_of lists (λ s a k h. ((formed s a k h).body, (formed s a k h).goal_list)) (λ s a k h. (formed s a k h).formed.low)

pub goals_read : (question : List Cell) → is_some (goals 0 0 question) ≡ true → all_low question ≡ true → (gs : List Goal) × (question ≡ spell_goals gs) × GoalsBelow 32 gs
goals_read question list low = go (goals 0 0 question) refl list
  where
    go : (o : Option ℕ) → goals 0 0 question ≡ o → is_some o ≡ true → (gs : List Goal) × (question ≡ spell_goals gs) × GoalsBelow 32 gs
    go None e h = absurd (cc)
    go (Some n) e h =
        let p = parse_goals 0 n question e in
        (p.0, p.1, goals_below p.0 (subst (λ cs. all_low cs ≡ true) p.1 low))

module _ (P : Program) (kind : Signature) (limit : ℕ) (gs : List Goal) (E : Eqs) (t : Tree) (question : Question P kind limit gs E t) where
  -- no success is no chain within the limit
  no_chain : ¬ ((p : List ℕ) × Succeeds t p) → (c : Chain P gs E) → limit < uses c.proof
  no_chain none c = go (dec_le (uses c.proof) limit)
    where
      go : Dec (uses c.proof ≤ limit) → limit < uses c.proof
      go (yes l) = absurd (none ((holds_is_proof P kind limit gs E t question).1 (c.terms, c.alike, (c.proof, l))))
      go (no l) = omega arith

  best_chain : (n : ℕ) (before after p : List ℕ) → Told t p → length p ≡ n → after ≡ p ++ drop n before → Proves (verdict.Holds n) P gs E limit after
  best_chain n before after p told long at =
      let b = told_is_best P kind limit gs E t p question told in
      let w = (holds_is_proof P kind limit gs E t question).0 (p, told.0) in
      let short = (b.1 w.0 w.1 w.2.0).1 in let within = w.2.1 in
      let c : Chain P gs E = record { terms = b.0.0; alike = b.0.1; proof = b.0.2.0 } in
      ((c, b.0.2.2 ∙ long, b.0.2.1 ∙ sym (ap (take n) at ∙ take_at p (drop n before) n long), omega arith), λ d. let l = (b.1 d.terms d.alike d.proof).1 in omega arith)

  pub proves : (v : told.Verdict) (before after : List ℕ) → Shows v t before after → Proves v P gs E limit after
  proves (verdict.Holds n) before after h = best_chain n before after h.0 h.1 h.2 h.3
  proves verdict.Fails before after h = no_chain h.0.0
  proves verdict.Erroneous before after h = no_chain h.0.0
  proves verdict.Unsettled before after h = no_chain h.0.0

-- the answer, from what the walk tallied of whatever tree the question has
module _ (lists : ℕ → ℕ → List (List Cell)) (formed : (s a k : ℕ) → k < length (lists s a) → OfPredicate s a (get_or (lists s a) k [])) (kind : Signature) (limit allowance : ℕ)
    (question : List Cell) (list : is_some (goals 0 0 question) ≡ true) (low : all_low question ≡ true) (cs : List Cell) (l : List ℕ) (E : Eqs) (small : length cs ≤ 1568) (standing : Standing kind cs l E)
    (before after : List ℕ) where
  abbrev P : Program
  P = (program_read lists formed).0

  abbrev gs : List Goal
  gs = (goals_read question list low).0

  abbrev tree : Tree
  tree = (every_tree P kind limit true gs E 0).0

  answered : (r : Result Answer Refusal) → Tells allowance tree before after r → (EqsBelow 32 E → Proven P gs E limit after r) → Answered lists kind limit allowance question E before after r
  answered r told proven =
      record { program = P; spells = (program_read lists formed).1; goals = gs; spelt = (goals_read question list low).1; tree = tree; is_tree = (every_tree P kind limit true gs E 0).1; told = told; proven = proven }

  pub answered_ok : (tally : Tally) (best : List ℕ)
      → ((Q : Program) (hs : List Goal) (t : Tree) → Spells Q lists → question ≡ spell_goals hs → IsTree Q kind limit true hs E 0 t → Tallied tally best (summary [] t))
      → tally.steps ≤ allowance → Wrote (verdict_of tally.leaves) best before after
      → Answered lists kind limit allowance question E before after (Ok (record { verdict = verdict_of tally.leaves; steps = tally.steps }))
  answered_ok tally best tallied within wrote =
      let h = tallied P gs tree (program_read lists formed).1 (goals_read question list low).1 (every_tree P kind limit true gs E 0).1 in
      let s = counted_steps tree tally best h in
      let v = shown tree tally best before after h wrote in
      answered (Ok (record { verdict = verdict_of tally.leaves; steps = tally.steps })) (s, omega arith, v)
      (λ below.
      proves P kind limit gs E tree
      (record { small = (program_read lists formed).2; equations = below; goals = (goals_read question list low).2; solvable = standing_solvable kind cs l E small standing; tree = (every_tree P kind limit true gs E 0).1 })
      (verdict_of tally.leaves) before after v)

  pub answered_err : ((Q : Program) (hs : List Goal) (t : Tree) → Spells Q lists → question ≡ spell_goals hs → IsTree Q kind limit true hs E 0 t → allowance < steps t)
      → after ≡ before → Answered lists kind limit allowance question E before after (Err Allowance)
  answered_err more same =
      answered (Err Allowance) (refl, more P gs tree (program_read lists formed).1 (goals_read question list low).1 (every_tree P kind limit true gs E 0).1, same) (λ below. tt)

-- the question's cells and goals come after what stood
module _ (home : Memory) (question : List Cell) (gs : List Goal) (spelt : question ≡ spell_goals gs) (cs : List Cell) (l t : List ℕ) (ws : List Waiting) (place k : ℕ) (r : Option ℕ)
    (cells : cs ≡ home.cells ++ question) (links : l ≡ home.links) (trail : t ≡ home.trail) (kept : take k ws ≡ home.waiting) (at : place ≡ length home.cells) where
  abbrev root_memory : Memory
  root_memory = record { cells = cs; links = l; trail = t; waiting = ws }

  pub root_grown : Grown home root_memory
  root_grown =
      record {
        more = question;
        cells = cells;
        logged = subst (λ x. Logged home.links home.trail x t) (sym links) (subst (Logged home.links home.trail home.links) (sym trail) (logged_none home.links home.trail));
        later = drop k ws;
        waiting = later_of k home.waiting ws kept;
      }

  pub root_standing : (kind : Signature) (E : Eqs) → length cs ≤ 1568 → Standing kind home.cells home.links E → Standing kind cs l E
  root_standing kind E small s =
      subst (λ x. Standing kind cs x E) (sym links)
      (subst (λ x. Standing kind x home.links E) (sym cells) (standing_question kind home.cells question home.links E gs (let z = ap length cells in omega arith) spelt s))

  pub root_listed : ((bs hs : List Goal) → drop place cs ≡ spell_goals bs → Lists cs home.waiting None hs → Lists cs ws r (bs ++ hs)) → Lists cs ws r gs
  root_listed lists =
      subst (Lists cs ws r) (append-nil gs)
      (lists gs [] (ap (λ n. drop n cs) at ∙ (ap (drop (length home.cells)) cells ∙ (drop_at home.cells question (length home.cells) refl ∙ spelt))) refl)

-- rolled back to where the search began
pub home_again : (home m m' : Memory) (f : Frame) → Marks home f → Grown home m
    → m'.cells ≡ take f.bindings.cells m.cells → m'.links ≡ restore m.links (drop f.bindings.trail m.trail) → m'.trail ≡ take f.bindings.trail m.trail → m'.waiting ≡ home.waiting → m' ≡ home
home_again home m m' f marks grown cells links trail waiting =
    let b = back_grown home m f marks grown in
    memory_path m' home (cells ∙ ap (λ (x : Memory). x.cells) b) (links ∙ ap (λ (x : Memory). x.links) b) (trail ∙ ap (λ (x : Memory). x.trail) b) waiting

pub cases_both : {X Y : Type 0} (r : Result X Y) (A : X → Type 0) (B : Y → Type 0) (G : Type 0) → MatchResult r (λ x. A x × G) (λ y. B y × G) → MatchResult r A B × G
cases_both (Ok x) A B G h = (h.0, h.1)
cases_both (Err y) A B G h = (h.0, h.1)

pub more_steps : (t : Tree) (allowance : ℕ) → allowance < (summary [] t).edges → allowance < steps t
more_steps t allowance h = let e = (summed t).edges in omega arith

pub wrote_other : (v : told.Verdict) (best before : List ℕ) → ((n : ℕ) → v ≡ verdict.Holds n → ⊥) → Wrote v best before before
wrote_other (verdict.Holds n) best before h = absurd (h n refl)
wrote_other verdict.Fails best before h = refl
wrote_other verdict.Erroneous best before h = refl
wrote_other verdict.Unsettled best before h = refl

-- what holds whatever the program, the goals and the tree, holds, since there are such
pub some_question : (lists : ℕ → ℕ → List (List Cell)) → ((s a k : ℕ) → k < length (lists s a) → OfPredicate s a (get_or (lists s a) k [])) → (kind : Signature) (limit : ℕ) (question : List Cell)
    → is_some (goals 0 0 question) ≡ true → all_low question ≡ true → (E : Eqs) (X : Type 0)
    → ((Q : Program) (hs : List Goal) (t : Tree) → Spells Q lists → question ≡ spell_goals hs → IsTree Q kind limit true hs E 0 t → X) → X
some_question lists formed kind limit question list low E X f =
    let p = program_read lists formed in let g = goals_read question list low in let t = every_tree p.0 kind limit true g.0 E 0 in
    f p.0 g.0 t.0 p.1 g.1 t.1

pub path_other : (v : told.Verdict) (before : List ℕ) → ((n : ℕ) → v ≡ verdict.Holds n → ⊥) → PathBy v before before
path_other (verdict.Holds n) before h = absurd (h n refl)
path_other verdict.Fails before h = refl
path_other verdict.Erroneous before h = refl
path_other verdict.Unsettled before h = refl
