-- A step from the newest frame is a move of the search toward its tree.
use Rattle.std.proofs.Common.{◌≡◌, ℕ, zero, suc, ◌+◌, ◌<◌, ◌≤◌, Bool, true, false, ltb, List, [], ◌∷◌, ◌++◌, length, get_or, take, drop, set, Some, None, Option, sym, refl, ap, ◌∙◌, subst, append-nil, add-one, arith}
use Rattle.std.proofs.lemmas.List.{get_or_default, take_more_set, drop_at}
use Rattle.std.proofs.Math.Bool.{or-false, and-true}
use Rattle.std.proofs.lemmas.Bool.{lt-ltb, cond-true}
use Rattle.terms.specs.declared.Cell.{Cell}
use Rattle.typing.specs.Terms.{Term, fun, Eqs, Signature, arity}
use Rattle.trees.specs.Tree.{Goal, Clause, Program, listed, fresh, new_head, new_body, with_head}
use Rattle.trees.specs.Summaries.{Summary, ◌⊕◌, tick}
use Rattle.trees.specs.Search.{Work, node, tries, Toward}
use Rattle.trees.proofs.Toward.{toward_goal, toward_done, toward_dropped, toward_wrong, toward_false, toward_solved, counts_node, counts_tries}
use Rattle.graphs.specs.Cells.{blank}
use Rattle.graphs.specs.Flat.{Stands}
use Rattle.graphs.proofs.Lists.{logged_none}
use Rattle.clauses.specs.Clauses.{renamed}
use Rattle.programs.specs.Spelling.{spell_goal, spell_goals, spell_clause, Spells}
use Rattle.programs.proofs.Places.{place_goals, goal_cell}
use Rattle.programs.proofs.Renamings.{renamed_clause}
use Rattle.programs.proofs.Sources.{spelt_clause, spelt_none, spelt_length}
use Rattle.programs.proofs.Wholes.{whole_goal_goals}
use Rattle.unification.specs.declared.Outcome.{Outcome}
use Rattle.unification.specs.declared.Outcome.TheVariants as outcome
use Rattle.unification.specs.Standing.{Standing}
use Rattle.unification.proofs.Standing.{standing_grow}
use Rattle.verdicts.specs.declared.ending.Tally.{Tally}
use Rattle.frames.specs.declared.Waiting.{Waiting}
use Rattle.frames.specs.declared.Frame.{Frame}
use Rattle.frames.specs.declared.Node.{Node}
use Rattle.frames.specs.Frames.{list_at, Fetched, trodden_after}
use Rattle.frames.specs.Memory.{Memory, back, rolled, Grown}
use Rattle.frames.specs.Goals.{First, Lists}
use Rattle.frames.specs.Owed.{work_from, Lower, Owing, Owes, Kept, Tallied, Underway, Entering, Arrives, one_more}
use Rattle.frames.specs.Steps.{with_cells, next_clause, dropped, Told, TakenUp, Resolved}
use Rattle.frames.proofs.Arrivals.{better_none}
use Rattle.frames.proofs.Memories.{grown_same, grown_trans, back_grown, rolled_grown, stands_grown, lists_grown, owes_set, lower_more}

-- the first of a list is one
same_waiting : (ws : List Waiting) (list : Option ℕ) (v w : Waiting) → First ws list v → First ws list w → v ≡ w
same_waiting ws list v w a b =
    let one : a.place ≡ b.place = cc (a.some, b.some) in
    sym a.is ∙ (get_or_default ws a.place v w a.within ∙ (ap (λ p. get_or ws p w) one ∙ b.is))

tallied_more : (t : Tally) (best : List ℕ) (a : Summary) → Tallied t best a → Tallied (one_more t) best (a ⊕ tick)
tallied_more t best a h =
    let s = h.steps in
    record { steps = omega arith; uses = subst (Kept t.leaves.uses best) (sym (better_none a.best)) h.uses; cut = or-false a.any_cut ∙ h.cut; wrong = and-true a.all_wrong ∙ h.wrong }

module _ (home : Memory) (P : Program) (kind : Signature) (limit : ℕ) (whole : Summary) (lists : ℕ → ℕ → List (List Cell)) (spells : Spells P lists) where
  -- a frame at its clause number i has the clauses from i on to try
  to_tries : (i : ℕ) (a : Summary) (ws : List Work) (r : List ℕ) (f : Bool) (g : Goal) (gs : List Goal) (E : Eqs) (k : ℕ) → k < limit → i < length (listed P g)
      → Toward P kind limit whole a (work_from P i r f g gs E k ∷ ws) → Toward P kind limit whole a (tries r i f g gs E k (drop i (listed P g)) ∷ ws)
  to_tries zero a ws r f g gs E k early many t = toward_goal P kind limit whole a ws r E k f g gs early (λ e. let z = ap length e in omega arith) t
  to_tries (suc i) a ws r f g gs E k early many t = t

  module _ (m : Memory) (f : Frame) (fs : List Frame) (w₀ : Work) (ws : List Work) (trodden best : List ℕ) (t : Tally) (a : Summary)
      (owing : Owing home P kind limit trodden m f w₀) (low : Lower f.node.step fs) (owes : Owes home P kind limit trodden m fs ws) (tallied : Tallied t best a)
      (toward : Toward P kind limit whole a (w₀ ∷ ws))
      (w : Waiting) (first-goal : First m.waiting f.node.goals w) where
    abbrev k : ℕ
    k = f.node.step

    abbrev i : ℕ
    i = f.clause

    abbrev g : Goal
    g = owing.goal

    abbrev gs : List Goal
    gs = owing.rest

    abbrev E : Eqs
    E = owing.equations

    abbrev r : List ℕ
    r = owing.path

    abbrev flag : Bool
    flag = f.node.flag

    same_goal : owing.reached.goals.0 ≡ w
    same_goal = same_waiting m.waiting f.node.goals owing.reached.goals.0 w owing.reached.goals.1 first-goal

    goal_stands : Stands m.cells w.goal (fun g.symbol g.arguments)
    goal_stands = subst (λ x. Stands m.cells x.goal (fun g.symbol g.arguments)) same_goal owing.reached.goals.2

    rest_listed : Lists m.cells m.waiting w.rest gs
    rest_listed = subst (λ x. Lists m.cells m.waiting x.rest gs) same_goal owing.reached.goals.3

    -- the goal's clauses
    list_is : list_at lists m.cells w.goal ≡ lists g.symbol (arity g.arguments)
    list_is =
        let c = goal_cell m.cells w.goal g goal_stands in
        cond-true (ltb w.goal (length m.cells)) _ _ (lt-ltb w.goal (length m.cells) c.0)
        ∙ (ap (λ s. lists s (get_or m.cells w.goal blank).arity) c.1 ∙ ap (lists g.symbol) c.2)

    toward_work : Toward P kind limit whole a (work_from P i r flag g gs E k ∷ ws)
    toward_work = subst (λ x. Toward P kind limit whole a (x ∷ ws)) owing.work toward

    -- all clauses have been tried
    pub finished : (cs : List Cell) → Fetched (list_at lists m.cells w.goal) i k m.cells cs None → 0 < i → Underway home P kind limit whole m trodden best fs t
    finished cs fetched some = go i refl some
      where
        go : (j : ℕ) → i ≡ j → 0 < j → Underway home P kind limit whole m trodden best fs t
        go zero e h = absurd (omega arith)
        go (suc j) e h =
            let none : drop i (listed P g) ≡ [] = spelt_none P lists spells g.symbol (arity g.arguments) i (subst (λ l. length l ≤ i) list_is fetched.0) in
            let t₁ : Toward P kind limit whole a (tries r (suc j) flag g gs E k (drop (suc j) (listed P g)) ∷ ws) = subst (λ n. Toward P kind limit whole a (work_from P n r flag g gs E k ∷ ws)) e toward_work in
            let t₂ = subst (λ cs. Toward P kind limit whole a (tries r (suc j) flag g gs E k cs ∷ ws)) (ap (λ n. drop n (listed P g)) (sym e) ∙ none) t₁ in
            record { sum = a; works = ws; owes = owes; tallied = tallied; toward = toward_done P kind limit whole a ws r E k flag g gs (suc j) t₂ }

    many : (cs : List Cell) (h : ℕ) → Fetched (list_at lists m.cells w.goal) i k m.cells cs (Some h) → i < length (listed P g)
    many cs h fetched =
        let n = subst (λ l. i < length l) list_is fetched.number in
        let e = spelt_length P lists spells g.symbol (arity g.arguments) in omega arith

    -- a step is to come, so the whole tree has more steps than were counted
    pub counted : (cs : List Cell) (head : Option ℕ) → Fetched (list_at lists m.cells w.goal) i k m.cells cs head → (head ≡ None → i ≡ 0) → a.edges < whole.edges
    counted cs None fetched first =
        counts_node P kind limit whole a ws r E k flag g gs owing.early (subst (λ n. Toward P kind limit whole a (work_from P n r flag g gs E k ∷ ws)) (first refl) toward_work)
    counted cs (Some h) fetched first =
        let n = many cs h fetched in
        let s = spelt_clause P lists spells g.symbol (arity g.arguments) i (subst (λ l. i < length l) list_is fetched.number) in
        counts_tries P kind limit whole a ws r E k flag g gs i s.0 (drop (suc i) (listed P g))
        (subst (λ cs. Toward P kind limit whole a (tries r i flag g gs E k cs ∷ ws)) s.3 (to_tries i a ws r flag g gs E k owing.early n toward_work))

    -- the frame that goes on, and those below it, from a memory that has grown
    module _ (m' : Memory) (grown : Grown m m') where
      abbrev next : Work
      next = tries r (suc i) flag g gs E k (drop (suc i) (listed P g))

      owes_next : Owes home P kind limit trodden m' (next_clause f ∷ fs) (next ∷ ws)
      owes_next =
          let here : m ≡ back m' (next_clause f) = sym (back_grown m m' f owing.marks grown) in
          let o : Owing home P kind limit trodden m (next_clause f) next =
          record { since = owing.since; marks = record { cells = owing.marks.cells; trail = owing.marks.trail; waiting = owing.marks.waiting }; early = owing.early; path = r; goal = g; rest = gs; equations = E; reached = owing.reached; work = ap (λ n. work_from P n r flag g gs E k) (sym (add-one i)) } in
          (next, ws, refl, subst (λ x. Owing home P kind limit trodden x (next_clause f) next) here o, low, subst (λ x. Owes home P kind limit trodden x fs ws) here owes)

      lower_next : (n : ℕ) → n ≡ k + 1 → Lower n (next_clause f ∷ fs)
      lower_next n e = (omega arith, lower_more k n fs (omega arith) low)

      owes_set_next : Owes home P kind limit (set trodden k i) m' (next_clause f ∷ fs) (next ∷ ws)
      owes_set_next = owes_set home P kind limit trodden k i m' (next_clause f ∷ fs) (next ∷ ws) (omega arith, lower_more k (suc k) fs (omega arith) low) owes_next

    -- a goal without clauses is dropped
    drop_none : (cs : List Cell) → Fetched (list_at lists m.cells w.goal) i k m.cells cs None → i ≡ 0
        → Entering home P kind limit whole (with_cells m cs) trodden best (next_clause f ∷ fs) (one_more t) (dropped f w)
    drop_none cs fetched first =
        let same : with_cells m m.cells ≡ with_cells m cs = ap (with_cells m) (sym fetched.1) in
        let none : (j : ℕ) → drop j (listed P g) ≡ [] = λ j. spelt_none P lists spells g.symbol (arity g.arguments) j (let z = subst (λ l. length l ≤ i) list_is fetched.0 in omega arith) in
        let t₀ = subst (λ n. Toward P kind limit whole a (work_from P n r flag g gs E k ∷ ws)) first toward_work in
        let t₁ = toward_dropped P kind limit whole a ws r E k flag g gs owing.early (none 0) t₀ in
        let t₂ = subst (λ cs. Toward P kind limit whole (a ⊕ tick) (node r false gs E (suc k) ∷ (tries r 1 flag g gs E k cs ∷ ws))) (sym (none 1)) t₁ in
        let t₃ = subst (λ n. Toward P kind limit whole (a ⊕ tick) (node r false gs E (suc k) ∷ (tries r (suc n) flag g gs E k (drop (suc n) (listed P g)) ∷ ws))) (sym first) t₂ in
        subst (λ x. Entering home P kind limit whole x trodden best (next_clause f ∷ fs) (one_more t) (dropped f w)) same
        (record {
          sum = a ⊕ tick;
          works = next m (grown_same m) ∷ ws;
          path = r;
          goals = gs;
          equations = E;
          since = owing.since;
          owes = owes_next m (grown_same m);
          lower = lower_next m (grown_same m) (k + 1) refl;
          reached = record { standing = owing.reached.standing; goals = rest_listed; path = λ e. absurd (cc) };
          tallied = tallied_more t best a tallied;
          toward = subst (λ n. Toward P kind limit whole (a ⊕ tick) (node r false gs E n ∷ (next m (grown_same m) ∷ ws))) (sym (add-one k)) t₃;
        })

    -- a clause stands after the cells
    module _ (cs : List Cell) (small : length cs ≤ 1568) (h : ℕ) (fetched : Fetched (list_at lists m.cells w.goal) i k m.cells cs (Some h)) where
      the_clause : (c : Clause) × (get_or (lists g.symbol (arity g.arguments)) i [] ≡ spell_clause c) × (drop i (listed P g) ≡ c ∷ drop (suc i) (listed P g))
      the_clause = let s = spelt_clause P lists spells g.symbol (arity g.arguments) i (subst (λ l. i < length l) list_is fetched.number) in (s.0, s.2, s.3)

      abbrev c : Clause
      c = the_clause.0

      abbrev goal_term : Term
      goal_term = fun g.symbol g.arguments

      abbrev head_term : Term
      head_term = fun (new_head k c).symbol (new_head k c).arguments

      abbrev new : List Cell
      new = spell_goal (new_head k c) ++ spell_goals (new_body k c)

      cells_are : cs ≡ m.cells ++ new
      cells_are = fetched.cells ∙ ap (λ xs. m.cells ++ xs) (ap (λ l. renamed (fresh k) (get_or l i [])) list_is ∙ (ap (renamed (fresh k)) the_clause.1 ∙ renamed_clause k c))

      grown_cells : Grown m (with_cells m cs)
      grown_cells = record { more = new; cells = cells_are; logged = logged_none m.links m.trail; later = []; waiting = sym (append-nil m.waiting) }

      placed : drop h cs ≡ spell_goals (new_head k c ∷ new_body k c)
      placed = ap (λ n. drop n cs) fetched.place ∙ (ap (drop (length m.cells)) cells_are ∙ drop_at m.cells new (length m.cells) refl)

      head_stands : Stands cs h (fun (new_head k c).symbol (new_head k c).arguments)
      head_stands = (place_goals cs h (new_head k c) (new_body k c) placed).0

      goal_still : Stands cs w.goal (fun g.symbol g.arguments)
      goal_still = subst (λ x. Stands x w.goal (fun g.symbol g.arguments)) (sym cells_are) (stands_grown m.cells new w.goal (fun g.symbol g.arguments) goal_stands)

      still : Standing kind cs m.links E
      still =
          subst (λ x. Standing kind x m.links E) (sym cells_are)
          (standing_grow kind m.cells new m.links E (let z = ap length cells_are in omega arith) (whole_goal_goals (new_head k c) (new_body k c)) owing.reached.standing)

      rest_still : Lists cs m.waiting w.rest gs
      rest_still =
          subst (λ x. Lists x m.waiting w.rest gs) (sym cells_are)
          (subst (λ x. Lists (m.cells ++ new) x w.rest gs) (append-nil m.waiting) (lists_grown m.cells new m.waiting [] w.rest gs rest_listed))

      toward_clause : Toward P kind limit whole a (tries r i flag g gs E k (c ∷ drop (suc i) (listed P g)) ∷ ws)
      toward_clause = subst (λ cs. Toward P kind limit whole a (tries r i flag g gs E k cs ∷ ws)) the_clause.2 (to_tries i a ws r flag g gs E k owing.early (many cs h fetched) toward_work)

      -- not solved: the bindings go back to what the frame had
      gone_back : rolled (with_cells m cs) f.bindings ≡ m
      gone_back = rolled_grown m (with_cells m cs) f owing.marks grown_cells refl

      step_wrong : Told kind (with_cells m cs) w.goal h outcome.Wrong → Underway home P kind limit whole m (set trodden k i) best (next_clause f ∷ fs) (one_more t)
      step_wrong told =
          record {
            sum = a ⊕ tick;
            works = next m (grown_same m) ∷ ws;
            owes = owes_set_next m (grown_same m);
            tallied = tallied_more t best a tallied;
            toward = toward_wrong P kind limit whole a ws r E k flag g gs i c (drop (suc i) (listed P g)) (told E goal_term head_term still goal_still head_stands) toward_clause;
          }

      step_false : Told kind (with_cells m cs) w.goal h outcome.False → Entering home P kind limit whole m (set trodden k i) best (next_clause f ∷ fs) (one_more t) (dropped f w)
      step_false told =
          let t₁ = toward_false P kind limit whole a ws r E k flag g gs i c (drop (suc i) (listed P g)) (told E goal_term head_term still goal_still head_stands) toward_clause in
          record {
            sum = a ⊕ tick;
            works = next m (grown_same m) ∷ ws;
            path = r ++ (i ∷ []);
            goals = gs;
            equations = E;
            since = owing.since;
            owes = owes_set_next m (grown_same m);
            lower = lower_next m (grown_same m) (k + 1) refl;
            reached = record { standing = owing.reached.standing; goals = rest_listed; path = λ e. absurd (cc) };
            tallied = tallied_more t best a tallied;
            toward = subst (λ n. Toward P kind limit whole (a ⊕ tick) (node (r ++ (i ∷ [])) false gs E n ∷ (next m (grown_same m) ∷ ws))) (sym (add-one k)) t₁;
          }

      module _ (long : k < length trodden) (m' : Memory) (n : Node) (up : TakenUp kind f w h (with_cells m cs) m' n) where
        grown_up : Grown m m'
        grown_up = record { more = new; cells = up.cells ∙ cells_are; logged = up.logged; later = up.later; waiting = up.waiting }

        on_path : n.flag ≡ true → take n.step (set trodden k i) ≡ r ++ (i ∷ [])
        on_path e = ap (λ x. take x (set trodden k i)) up.step ∙ (take_more_set trodden k i long ∙ ap (λ xs. xs ++ (i ∷ [])) (owing.reached.path (sym up.flag ∙ e)))

        step_solved : Entering home P kind limit whole m' (set trodden k i) best (next_clause f ∷ fs) (one_more t) n
        step_solved =
            let told = up.told E goal_term head_term still goal_still head_stands in
            let E' = with_head k g c E in
            let t₁ = toward_solved P kind limit whole a ws r E k flag g gs i c (drop (suc i) (listed P g)) told.0 toward_clause in
            let t₂ = subst (λ x. Toward P kind limit whole (a ⊕ tick) (node (r ++ (i ∷ [])) flag (new_body k c ++ gs) E' x ∷ (next m' grown_up ∷ ws))) (sym (up.step ∙ add-one k)) t₁ in
            record {
              sum = a ⊕ tick;
              works = next m' grown_up ∷ ws;
              path = r ++ (i ∷ []);
              goals = new_body k c ++ gs;
              equations = E';
              since = grown_trans home m m' owing.since grown_up;
              owes = owes_set_next m' grown_up;
              lower = lower_next m' grown_up n.step up.step;
              reached = record {
                standing = subst (λ x. Standing kind x m'.links E') (sym up.cells) (told.1 refl);
                goals = up.goals (new_body k c) gs (place_goals cs h (new_head k c) (new_body k c) placed).1 rest_still;
                path = on_path;
              };
              tallied = tallied_more t best a tallied;
              toward = subst (λ x. Toward P kind limit whole (a ⊕ tick) (node (r ++ (i ∷ [])) x (new_body k c ++ gs) E' n.step ∷ (next m' grown_up ∷ ws))) (sym up.flag) t₂;
            }

    -- whether or not a clause was loaded, the memory has grown from where the search began
    pub loaded_since : (cs : List Cell) (head : Option ℕ) → length cs ≤ 1568 → Fetched (list_at lists m.cells w.goal) i k m.cells cs head → Grown home (with_cells m cs)
    loaded_since cs None small fetched = subst (Grown home) (ap (with_cells m) (sym fetched.1)) owing.since
    loaded_since cs (Some h) small fetched = grown_trans home m (with_cells m cs) owing.since (grown_cells cs small h fetched)

    -- whatever the step, the search is on the way
    pub stepped : (cs : List Cell) (head : Option ℕ) → length cs ≤ 1568 → k < length trodden → Fetched (list_at lists m.cells w.goal) i k m.cells cs head → (head ≡ None → i ≡ 0)
        → (m' : Memory) (n : Node) (o : Outcome) (trodden' : List ℕ) → Resolved kind f w head (with_cells m cs) m' n o → trodden' ≡ trodden_after head trodden k i
        → Arrives home P kind limit whole m' trodden' best (next_clause f ∷ fs) (one_more t) n o
    stepped cs None small long fetched first m' n o trodden' resolved path =
        subst (λ o. Arrives home P kind limit whole m' trodden' best (next_clause f ∷ fs) (one_more t) n o) (sym resolved.2)
        (subst (λ x. Arrives home P kind limit whole x trodden' best (next_clause f ∷ fs) (one_more t) n outcome.False) (sym resolved.0)
        (subst (λ x. Arrives home P kind limit whole (with_cells m cs) x best (next_clause f ∷ fs) (one_more t) n outcome.False) (sym path)
        (subst (λ x. Arrives home P kind limit whole (with_cells m cs) trodden best (next_clause f ∷ fs) (one_more t) x outcome.False) (sym resolved.1) (drop_none cs fetched (first refl), refl))))
    stepped cs (Some h) small long fetched first m' n outcome.Solved trodden' resolved path =
        subst (λ x. Arrives home P kind limit whole m' x best (next_clause f ∷ fs) (one_more t) n outcome.Solved) (sym path) (step_solved cs small h fetched long m' n resolved)
    stepped cs (Some h) small long fetched first m' n outcome.False trodden' resolved path =
        subst (λ x. Arrives home P kind limit whole x trodden' best (next_clause f ∷ fs) (one_more t) n outcome.False) (sym (resolved.1 ∙ gone_back cs small h fetched))
        (subst (λ x. Arrives home P kind limit whole m x best (next_clause f ∷ fs) (one_more t) n outcome.False) (sym path)
        (subst (λ x. Arrives home P kind limit whole m (set trodden k i) best (next_clause f ∷ fs) (one_more t) x outcome.False) (sym resolved.2) (step_false cs small h fetched resolved.0, refl)))
    stepped cs (Some h) small long fetched first m' n outcome.Wrong trodden' resolved path =
        subst (λ x. Arrives home P kind limit whole x trodden' best (next_clause f ∷ fs) (one_more t) n outcome.Wrong) (sym (resolved.1 ∙ gone_back cs small h fetched))
        (subst (λ x. Arrives home P kind limit whole m x best (next_clause f ∷ fs) (one_more t) n outcome.Wrong) (sym path)
        (subst (λ x. Arrives home P kind limit whole m (set trodden k i) best (next_clause f ∷ fs) (one_more t) x outcome.Wrong) (sym resolved.2) (step_wrong cs small h fetched resolved.0)))
