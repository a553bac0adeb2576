-- Reading a variable: the links' solved form is the reading of the equations, and a root is spelt by its cell and its arguments.
use Rattle.std.proofs.Common.{◌≡◌, ℕ, suc, ◌+◌, ◌-◌, ◌<◌, ◌≤◌, true, ◌⊎◌, List, [], ◌∷◌, ◌++◌, map, length, take, drop, set, Some, None, Option, sym, refl, ap, ◌∙◌, subst, inl, inr, arith}
use Rattle.std.proofs.lemmas.List.{append_assoc, length-append, length-take-le, take_at, drop_at, drop-drop, set_split, take-append-drop, length-set}
use Rattle.typing.specs.Terms.{Term, Terms, var, con, fun, none, more, Eqs, Subst, apply, applies, Signature, MostGeneral}
use Rattle.typing.specs.Terms as Typing
use Rattle.typing.specs.Rules.{Reads}
use Rattle.typing.proofs.Counts.{count_var, one_of}
use Rattle.typing.proofs.Readouts.{one_reading}
use Rattle.terms.specs.declared.Cell.{Cell}
use Rattle.graphs.specs.Terms.{pack}
use Rattle.graphs.specs.Graph.{Shape, free, atom, app, find, solution}
use Rattle.graphs.specs.Links.{up_of}
use Rattle.graphs.specs.Meaning.{arena, term_algebra, answer}
use Rattle.graphs.specs.Cells.{graph, arguments}
use Rattle.graphs.specs.Flat.{flat, count}
use Rattle.graphs.proofs.Arena.{app_arguments}
use Rattle.graphs.proofs.CellLaws.{arguments_length}
use Rattle.graphs.proofs.Final.{solution_values, solution_linked, solution_free}
use Rattle.graphs.proofs.Outcomes.{told_solved, answer_lowest}
use Rattle.graphs.proofs.Walks.{walk_keeps}
use Rattle.unification.specs.Standing.{Standing}
use Rattle.unification.specs.Reading.{SolvedForm, head_of, spelt, Counts, Counting, spliced, Writes, Writing, Written, ReadsVariable}
use Rattle.unification.proofs.Standing.{unifies_in, unifies_out}

-- a variable that stands in what an assignment leaves as it is stands for itself
mutual
  stays : (θ : Subst) (y : ℕ) (t : Term) → apply θ t ≡ t → 1 ≤ Typing.count y t → θ y ≡ var y
  stays θ y (var x) e c = let i = count_var y x c in subst (λ z. θ z ≡ var z) (sym i) e
  stays θ y (con f v) e c = absurd (omega arith)
  stays θ y (fun s ts) e c = all_stay θ y ts (let i : fun s (applies θ ts) ≡ fun s ts = e in cc) c

  all_stay : (θ : Subst) (y : ℕ) (ts : Terms) → applies θ ts ≡ ts → 1 ≤ Typing.counts y ts → θ y ≡ var y
  all_stay θ y none e c = absurd (omega arith)
  all_stay θ y (more t ts) e c =
      let i : more (apply θ t) (applies θ ts) ≡ more t ts = e in
      let a : apply θ t ≡ t = cc in let b : applies θ ts ≡ ts = cc in
      either (one_of (Typing.count y t) (Typing.counts y ts) c) (λ h. stays θ y t a h) (λ h. all_stay θ y ts b h)
    where
      either : {A B C : Type 0} → A ⊎ B → (A → C) → (B → C) → C
      either (inl x) f g = f x
      either (inr x) f g = g x

-- what links stand for is read off them
module _ (kind : Signature) (cs : List Cell) (small : length cs ≤ 1568) (l : List ℕ) (E : Eqs) (s : Standing kind cs l E) where
  abbrev rank : ℕ → ℕ
  rank = s.acyclic.0

  abbrev θ : Subst
  θ = answer arena (graph cs) (up_of l) rank

  abbrev ρ : ℕ → Term
  ρ = solution term_algebra (λ n. var (n - arena)) (graph cs) (up_of l) rank

  answer_unifies : Typing.Unifies θ E
  answer_unifies = subst (Typing.Unifies θ) s.equations (unifies_in cs θ s.pairs (told_solved kind cs small s.pairs s.live true l s.going rank s.acyclic.1 refl).unifies)

  answer_general : (η : Subst) → Typing.Unifies η E → (x : ℕ) → η x ≡ apply η (θ x)
  answer_general η u =
      (told_solved kind cs small s.pairs s.live true l s.going rank s.acyclic.1 refl).general η (unifies_out cs η s.pairs (subst (Typing.Unifies η) (sym s.equations) u))

  -- the solved form is the reading
  pub answer_reads : Reads θ E
  answer_reads = record {
    general = record { unifies = answer_unifies; general = λ η u. (η, answer_general η u) };
    lowest = λ x y c. (stays θ y (θ x) (sym (answer_general θ answer_unifies x)) c, λ z e. (answer_lowest cs small l rank s.going.sound s.going.tied s.acyclic.1).least z y e);
  }

  pub answer_form : SolvedForm cs l ρ
  answer_form = record {
    values = solution_values term_algebra (λ n. var (n - arena)) (graph cs) (up_of l) rank s.going.sound s.acyclic.1 (s.going.on_terms refl).closed;
    linked = solution_linked term_algebra (λ n. var (n - arena)) (graph cs) (up_of l) rank s.going.sound s.acyclic.1;
    bare = λ r top q. solution_free term_algebra (λ n. var (n - arena)) (graph cs) (up_of l) rank s.going.sound s.acyclic.1 r top q;
  }

count_pack : (ρ : ℕ → Term) (ks : List ℕ) → count (pack (map ρ ks)) ≡ length ks
count_pack ρ [] = refl
count_pack ρ (k ∷ ks) = ap suc (count_pack ρ ks)

module _ (cs : List Cell) (small : length cs ≤ 1568) (l : List ℕ) (ρ : ℕ → Term) (s : SolvedForm cs l ρ) where
  -- a root is spelt by its first cell and its arguments
  root_spelt : (r : ℕ) → up_of l r ≡ r → flat (ρ r) ≡ head_of (graph cs r) r ∷ spelt ρ (arguments cs (head_of (graph cs r) r).arity (r + 1))
  root_spelt r top = go (graph cs r) refl
    where
      go : (sh : Shape) → graph cs r ≡ sh → flat (ρ r) ≡ head_of sh r ∷ spelt ρ (arguments cs (head_of sh r).arity (r + 1))
      go free q = ap flat (s.bare r top q)
      go (atom f v) q = ap flat (s.values.atoms r f v q)
      go (app t ks) q =
          let a = app_arguments cs small r t ks q in
          let n = ap length a ∙ arguments_length cs _ (r + 1) in
          let e : ks ≡ arguments cs (length ks) (r + 1) = a ∙ ap (λ m. arguments cs m (r + 1)) (sym n) in
          ap flat (s.values.apps r t ks q)
          ∙ (ap (λ m. record { tag = 2; form = 0; arity = m; value = t } ∷ spelt ρ ks) (count_pack ρ ks)
          ∙ ap (λ (xs : List ℕ). record { tag = 2; form = 0; arity = length ks; value = t } ∷ spelt ρ xs) e)

  -- and so is every node that it stands for
  pub node_spelt : (n r : ℕ) (c : Cell) → r ≡ find (up_of l) n → up_of l r ≡ r → c ≡ head_of (graph cs r) r → flat (ρ n) ≡ c ∷ spelt ρ (arguments cs c.arity (r + 1))
  node_spelt n r c re top ce =
      ap flat (walk_keeps (up_of l) ρ s.linked n n ∙ ap ρ (sym re)) ∙ (root_spelt r top ∙ ap (λ x. x ∷ spelt ρ (arguments cs x.arity (r + 1))) (sym ce))

-- cells written one after another
pub splice_splice : (out : List Cell) (at : ℕ) (xs ys : List Cell) → at + length xs ≤ length out → spliced (spliced out at xs) (at + length xs) ys ≡ spliced out at (xs ++ ys)
splice_splice out at xs ys h =
    let p = take at out ++ xs in let d = drop (at + length xs) out in
    let m = length-take-le at out (omega arith) in let k = length-append (take at out) xs in let y = length-append xs ys in
    let n : length p ≡ at + length xs = omega arith in
    let w : spliced out at xs ≡ p ++ d = sym (append_assoc (take at out) xs d) in
    let t : take (at + length xs) (spliced out at xs) ≡ p = ap (take (at + length xs)) w ∙ take_at p d (at + length xs) n in
    let z : (at + length xs) + length ys ≡ at + length (xs ++ ys) = omega arith in
    let e : drop ((at + length xs) + length ys) (spliced out at xs) ≡ drop (at + length (xs ++ ys)) out =
    ap (drop ((at + length xs) + length ys)) w ∙ (sym (drop-drop (length ys) (at + length xs) (p ++ d)) ∙ (ap (drop (length ys)) (drop_at p d (at + length xs) n)
    ∙ (drop-drop (length ys) (at + length xs) out ∙ ap (λ q. drop q out) z))) in
    ap (λ q. q ++ (ys ++ drop ((at + length xs) + length ys) (spliced out at xs))) t
    ∙ (ap (λ q. p ++ (ys ++ q)) e
    ∙ (append_assoc (take at out) xs (ys ++ drop (at + length (xs ++ ys)) out) ∙ ap (λ q. take at out ++ q) (sym (append_assoc xs ys (drop (at + length (xs ++ ys)) out)))))

pub splice_none : (out : List Cell) (at : ℕ) → spliced out at [] ≡ out
splice_none out at = let z : at + 0 ≡ at = omega arith in ap (λ q. take at out ++ drop q out) z ∙ take-append-drop at out

pub splice_set : (out : List Cell) (at : ℕ) (c : Cell) (ys : List Cell) → at < length out → spliced (set out at c) (at + 1) ys ≡ spliced out at (c ∷ ys)
splice_set out at c ys h =
    let z : at + 1 ≡ suc at = omega arith in
    let e : set out at c ≡ spliced out at (c ∷ []) = set_split out at c h ∙ ap (λ q. take at out ++ (c ∷ drop q out)) (sym z) in
    ap (λ q. spliced q (at + 1) ys) e ∙ splice_splice out at (c ∷ []) ys (omega arith)

-- the arguments of a root, counted one after another
module _ (cs : List Cell) (l : List ℕ) (r n : ℕ) where
  pub count_start : (room : ℕ) → 0 < room → Counting cs l r n room (room - 1) (arguments cs n (r + 1))
  count_start room h = (omega arith, λ ρ s. omega arith)

  module _ (room rest : ℕ) (ks : List ℕ) (inv : Counting cs l r n room rest ks) where
    pub count_more : (k : ℕ) (ks' : List ℕ) → ks ≡ k ∷ ks' → (left : ℕ) → left < rest → Counts cs l k rest (Some left) → Counting cs l r n room left ks'
    count_more k ks' e left less w =
        let a = inv.0 in (
          omega arith,
          λ ρ s.
              let f = ap (λ (x : List ℕ). length (spelt ρ x)) e ∙ length-append (flat (ρ k)) (spelt ρ ks') in
              let b = inv.1 ρ s in let d = w ρ s in omega arith,
        )

    module _ (small : length cs ≤ 1568) (node : ℕ) (c : Cell) (re : r ≡ find (up_of l) node) (top : up_of l r ≡ r) (ce : c ≡ head_of (graph cs r) r) (ne : n ≡ c.arity) where
      whole_length : (ρ : ℕ → Term) → SolvedForm cs l ρ → length (flat (ρ node)) ≡ 1 + length (spelt ρ (arguments cs n (r + 1)))
      whole_length ρ s =
          let f : length (flat (ρ node)) ≡ 1 + length (spelt ρ (arguments cs c.arity (r + 1))) = ap length (node_spelt cs small l ρ s node r c re top ce) ∙ (omega arith) in
          f ∙ ap (λ m. 1 + length (spelt ρ (arguments cs m (r + 1)))) (sym ne)

      pub count_short : (k : ℕ) (ks' : List ℕ) → ks ≡ k ∷ ks' → Counts cs l k rest None → Counts cs l node room None
      count_short k ks' e w ρ s =
          let f = ap (λ (x : List ℕ). length (spelt ρ x)) e ∙ length-append (flat (ρ k)) (spelt ρ ks') in
          let b = inv.1 ρ s in let d = w ρ s in let g = whole_length ρ s in omega arith

      pub count_end : ks ≡ [] → Counts cs l node room (Some rest)
      count_end e ρ s =
          let f = ap (λ (x : List ℕ). length (spelt ρ x)) e in let b = inv.1 ρ s in let g = whole_length ρ s in omega arith

-- a spelling is not empty
flat_some : (t : Term) → 1 ≤ length (flat t)
flat_some (var x) = omega arith
flat_some (con f v) = omega arith
flat_some (fun t ts) = omega arith

pub count_none : (cs : List Cell) (l : List ℕ) (node room : ℕ) → room ≡ 0 → Counts cs l node room None
count_none cs l node room z ρ s = let a = flat_some (ρ node) in omega arith

-- and written one after another
module _ (cs : List Cell) (l : List ℕ) (r n : ℕ) (out₀ : List Cell) (at₀ : ℕ) where
  pub write_start : Writing cs l r n out₀ at₀ out₀ at₀ (arguments cs n (r + 1))
  write_start = (refl, omega arith, λ ρ s h. (refl, refl))

  module _ (out : List Cell) (at : ℕ) (ks : List ℕ) (inv : Writing cs l r n out₀ at₀ out at ks) where
    pub write_more : (k : ℕ) (ks' : List ℕ) → ks ≡ k ∷ ks' → (out' : List Cell) (at' : ℕ) → length out' ≡ length out → at ≤ at' → Writes cs l k out at out' at' → Writing cs l r n out₀ at₀ out' at' ks'
    write_more k ks' is out' at' le on w =
        let a = inv.0 in let b = inv.1 in (
          omega arith,
          omega arith,
          λ ρ s fit.
              let xs = flat (ρ k) in let ys = spelt ρ ks' in
              let m : spelt ρ ks ≡ xs ++ ys = ap (spelt ρ) is in
              let e = ap length m ∙ length-append xs ys in
              let v = inv.2 ρ s fit in let v0 = v.0 in
              let d = w ρ s (omega arith) in let d0 = d.0 in
              let g : spliced out' at' ys ≡ spliced (spliced out at xs) (at + length xs) ys = ap (λ q. spliced q at' ys) d.1 ∙ ap (λ q. spliced (spliced out at xs) q ys) d0 in
              (omega arith, g ∙ (splice_splice out at xs ys (omega arith) ∙ (ap (spliced out at) (sym m) ∙ v.1))),
        )

-- the root's cell, and its arguments after it
pub write_end : (cs : List Cell) → length cs ≤ 1568 → (l : List ℕ) (node r n : ℕ) (c : Cell) (out : List Cell) (at : ℕ) (out' : List Cell) (at' : ℕ) (ks : List ℕ) → r ≡ find (up_of l) node → up_of l r ≡ r → c ≡ head_of (graph cs r) r → n ≡ c.arity
    → at < length out → Writing cs l r n (set out at c) (at + 1) out' at' ks → ks ≡ [] → Writes cs l node out at out' at'
write_end cs small l node r n c out at out' at' ks re top ce ne h inv e ρ s fit =
    let all = spelt ρ (arguments cs n (r + 1)) in
    let f : flat (ρ node) ≡ c ∷ all = node_spelt cs small l ρ s node r c re top ce ∙ ap (λ m. c ∷ spelt ρ (arguments cs m (r + 1))) (sym ne) in
    let k : length (flat (ρ node)) ≡ 1 + length all = ap length f ∙ (omega arith) in
    let j = length-set out at c in
    let v = inv.2 ρ s (omega arith) in let v0 = v.0 in
    let z : spelt ρ ks ≡ [] = ap (spelt ρ) e in let y = ap length z in
    let g : out' ≡ spliced out' at' (spelt ρ ks) = sym (ap (spliced out' at') z ∙ splice_none out' at') in
    (omega arith, g ∙ (v.1 ∙ (splice_set out at c all h ∙ ap (spliced out at) (sym f))))

-- a full slice has no room for a term
pub write_full : (cs : List Cell) (l : List ℕ) (node : ℕ) (out : List Cell) (at : ℕ) → length out ≤ at → Writes cs l node out at out at
write_full cs l node out at h ρ s fit = absurd (let a = flat_some (ρ node) in omega arith)

-- what is written of the reading is written of every reading
pub form_reads : (cs : List Cell) → length cs ≤ 1568 → (l : List ℕ) (v : ℕ) (out : List Cell) (r : Option ℕ) (out' : List Cell)
    → ((ρ : ℕ → Term) → SolvedForm cs l ρ → Written (flat (ρ (arena + v))) out r out') → ReadsVariable cs l v out r out'
form_reads cs small l v out r out' w kind E θ s reads =
    let e = one_reading (answer_reads kind cs small l E s) reads v in
    subst (λ t. Written (flat t) out r out') (sym e) (w _ (answer_form kind cs small l E s))

-- what both walks tell of a variable's node
module _ (cs : List Cell) (small : length cs ≤ 1568) (l : List ℕ) (v : ℕ) (out : List Cell) where
  pub read_none : Counts cs l (arena + v) (length out) None → ReadsVariable cs l v out None out
  read_none w = form_reads cs small l v out None out (λ ρ s. (w ρ s, refl))

  pub read_some : (rest : ℕ) → Counts cs l (arena + v) (length out) (Some rest) → (out' : List Cell) (end : ℕ) → Writes cs l (arena + v) out 0 out' end → ReadsVariable cs l v out (Some end) out'
  read_some rest w out' end x = form_reads cs small l v out (Some end) out' (λ ρ s.
      let k = w ρ s in
      let y = x ρ s (omega arith) in let e = y.0 in
      let z : 0 + length (flat (ρ (arena + v))) ≡ length (flat (ρ (arena + v))) = omega arith in
      (omega arith, omega arith, y.1 ∙ ap (λ q. flat (ρ (arena + v)) ++ drop q out) z))
