-- The numbers of facts fit, since those of bytes do.
use Rattle.std.proofs.Common.{◌≡◌, ℕ, zero, suc, ◌+◌, ◌<◌, Bool, true, false, cond, eqb, ltb, List, [], ◌∷◌, get_or, take, drop, vec_items, Some, None, All, filter, Option, sym, refl, ◌∙◌, subst, arith}
use Rattle.std.proofs.lemmas.List.Elements.{All-nil, All-cons, All-head, All-tail, All-append, All-filter, All-take, All-get_or, All-from_get_or, filter_passes}
use Rattle.std.specs.List.{flat_map}
use Rattle.std.specs.Option.{option_map}
use Rattle.std.proofs.lemmas.List.{get_or-drop}
use Rattle.std.proofs.lemmas.Bool.{and_from, eqb-true, lt-ltb}
use Rattle.records.specs.declared.format.Field.{Field}
use Rattle.records.specs.declared.format.Field.TheVariants.{Card, Lot, Stage, Cycles}
use Rattle.records.specs.declared.format.Record.{Record}
use Rattle.records.specs.declared.fact.Fact.{Fact}
use Rattle.records.specs.declared.gather.Listing.{Listing}
use Rattle.records.specs.Meaning.{Gathers}
use Rattle.records.specs.declared.fact.Symbols.{Symbols}
use Rattle.records.specs.declared.fact.Value.TheVariants.{Atom, Integer}
use Rattle.records.specs.Format.{Entry, bit_of, size_of, little, entries, value_of, or_zero, record_in, fields_of, sizes}
use Rattle.records.specs.Faults.{fault_in, is_good, records_from, records_of}
use Rattle.records.specs.Facts.{cut, is_for, listed, record_facts, facts_of, fact_of}
use Rattle.records.specs.Fit.{fits, AllFit, value_fits}

abbrev Octets : List ℕ → Type 0
Octets bs = (i : ℕ) → get_or bs i 0 < 256

abbrev Under : Option ℕ → Type 0
Under None = Unit {0}
Under (Some n) = n < 65536

abbrev Small : Record → Type 0
Small r = (r.card < 65536) × Under r.lot × Under r.stage

octets_drop : (n : ℕ) (bs : List ℕ) → Octets bs → Octets (drop n bs)
octets_drop n bs h i = let e = get_or-drop n bs i 0 in let k = h (n + i) in omega arith

octets_tail : (b : ℕ) (bs : List ℕ) → Octets (b ∷ bs) → Octets bs
octets_tail b bs h i = h (suc i)

word_small : (bs : List ℕ) → Octets bs → little (take 2 bs) < 65536
word_small [] h = omega arith
word_small (a ∷ []) h = let p : a < 256 = h 0 in omega arith
word_small (a ∷ b ∷ bs) h = let p : a < 256 = h 0 in let q : b < 256 = h 1 in omega arith

abbrev Held : Entry → Type 0
Held e = size_of e.field ≡ 2 → e.value < 65536

entry_small : (f : Field) (bs : List ℕ) → Octets bs → size_of f ≡ 2 → little (take (size_of f) bs) < 65536
entry_small f bs h e = subst (λ (n : ℕ). little (take n bs) < 65536) (sym e) (word_small bs h)

entries_small : (fs : List Field) (bs : List ℕ) → Octets bs → All Held (entries fs bs)
entries_small [] bs h = All-nil Held
entries_small (f ∷ fs) bs h = All-cons Held _ _ (entry_small f bs h) (entries_small fs (drop (size_of f) bs) (octets_drop (size_of f) bs h))

same_size : (f g : Field) → eqb (bit_of f) (bit_of g) ≡ true → size_of g ≡ size_of f
same_size Card Card e = refl
same_size Card Lot e = refl
same_size Card Stage e = refl
same_size Card Cycles e = cc
same_size Lot Card e = refl
same_size Lot Lot e = refl
same_size Lot Stage e = refl
same_size Lot Cycles e = cc
same_size Stage Card e = refl
same_size Stage Lot e = refl
same_size Stage Stage e = refl
same_size Stage Cycles e = cc
same_size Cycles Card e = cc
same_size Cycles Lot e = cc
same_size Cycles Stage e = cc
same_size Cycles Cycles e = refl

pick_small : (b : Bool) (n : ℕ) (o : Option ℕ) → (b ≡ true → n < 65536) → Under o → Under (cond b (Some n) o)
pick_small true n o p q = p refl
pick_small false n o p q = q

value_small : (f : Field) (es : List Entry) → size_of f ≡ 2 → All Held es → Under (value_of f es)
value_small f [] e h = tt
value_small f (x ∷ xs) e h =
    pick_small (eqb (bit_of f) (bit_of x.field)) x.value (value_of f xs) (λ k. All-head Held x xs h (same_size f x.field k ∙ e)) (value_small f xs e (All-tail Held x xs h))

or_zero_small : (o : Option ℕ) → Under o → or_zero o < 65536
or_zero_small None h = omega arith
or_zero_small (Some n) h = h

record_small : (bs : List ℕ) → Octets bs → Small (record_in bs)
unfolding record_in
record_small bs h =
    let es = entries_small (fields_of (get_or bs 0 0)) (drop 1 bs) (octets_drop 1 bs h) in
    (or_zero_small _ (value_small Card _ refl es), value_small Lot _ refl es, value_small Stage _ refl es)

all_or_none : (g : Bool) (r : Record) (rs : List Record) → Small r → All Small rs → All Small (cond g (r ∷ rs) [])
all_or_none true r rs h k = All-cons Small r rs h k
all_or_none false r rs h k = All-nil Small

records_small : (n : ℕ) (bs : List ℕ) → Octets bs → All Small (records_from n bs)
unfolding records_from
records_small n [] h = All-nil Small
records_small (suc n) (b ∷ bs) h = records_small n bs (octets_tail b bs h)
records_small zero (b ∷ bs) h = all_or_none (is_good (fault_in (b ∷ bs))) (record_in (b ∷ bs)) (records_from (sizes (fields_of b)) bs) (record_small (b ∷ bs) h) (records_small (sizes (fields_of b)) bs (octets_tail b bs h))

-- a fact whose atoms have 16 bits
abbrev Brief : Fact → Type 0
Brief f = (f.card < 65536) × (value_fits f.value ≡ true)

atom_brief : (y c : ℕ) (o : Option ℕ) → c < 65536 → Under o → All Brief (listed (fact_of y c (option_map Atom o)))
atom_brief y c None h u = All-nil Brief
atom_brief y c (Some n) h u = All-cons Brief _ [] (h, lt-ltb n 65536 u) (All-nil Brief)

integer_brief : (y c : ℕ) (o : Option ℕ) → c < 65536 → All Brief (listed (fact_of y c (option_map Integer o)))
integer_brief y c None h = All-nil Brief
integer_brief y c (Some n) h = All-cons Brief _ [] (h, refl) (All-nil Brief)

said_brief : (s : Symbols) (r : Record) → Small r → All Brief (record_facts s r)
said_brief s r h =
    All-append Brief (listed (fact_of s.lot r.card (option_map Atom r.lot))) _ (atom_brief s.lot r.card r.lot h.0 h.1)
    (All-append Brief (listed (fact_of s.stage r.card (option_map Atom r.stage))) _ (atom_brief s.stage r.card r.stage h.0 h.2) (integer_brief s.cycles r.card r.cycles h.0))

all_brief : (s : Symbols) (rs : List Record) → All Small rs → All Brief (flat_map (record_facts s) rs)
all_brief s [] h = All-nil Brief
all_brief s (r ∷ rs) h = All-append Brief (record_facts s r) (flat_map (record_facts s) rs) (said_brief s r (All-head Small r rs h)) (all_brief s rs (All-tail Small r rs h))

one_fits : (x : ℕ) (f : Fact) → x < 65536 → is_for x f ≡ true → Brief f → fits x f ≡ true
one_fits x f h e b =
    let k = eqb-true f.symbol x e in
    and_from (eqb f.symbol x) _ e (and_from (ltb f.symbol 65536) _ (lt-ltb f.symbol 65536 (omega arith)) (and_from (ltb f.card 65536) _ (lt-ltb f.card 65536 b.0) b.1))

fact₀ : Fact
fact₀ = record { symbol = 0; card = 0; value = Integer 0 }

-- what was gathered fits
gathered_fit : (s : Symbols) (x : ℕ) (bytes : List ℕ) (fs : List Fact) → x < 65536 → ((i : ℕ) → get_or bytes i 0 < 256) → fs ≡ cut (filter (is_for x) (facts_of s bytes)) → AllFit x fs
unfolding cut
gathered_fit s x bytes fs hx h e =
    let all = facts_of s bytes in
    let kept = filter (is_for x) all in
    let brief = All-filter (is_for x) Brief all (all_brief s (records_of bytes) (records_small 0 bytes h)) in
    let under = filter_passes (is_for x) all in
    subst (AllFit x) (sym e)
    (All-take (λ f. fits x f ≡ true) 65535 kept
    (All-from_get_or (λ f. fits x f ≡ true) kept fact₀ (λ i l. one_fits x (get_or kept i fact₀) hx (All-get_or (λ f. is_for x f ≡ true) kept i fact₀ l under) (All-get_or Brief kept i fact₀ l brief))))

pub listing_fit : (s : Symbols) (bytes : List ℕ) (x : ℕ) (l : Listing) → ((i : ℕ) → get_or bytes i 0 < 256) → Gathers s bytes x l → AllFit l.symbol (vec_items l.facts)
listing_fit s bytes x l h g =
    let n = l.narrow in
    let e = g.under in
    subst (λ (y : ℕ). AllFit y (vec_items l.facts)) (sym e) (gathered_fit s x bytes (vec_items l.facts) (omega arith) h g.facts)
