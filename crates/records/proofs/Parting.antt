-- Good records one after the other.
use Rattle.std.proofs.Common.{◌≡◌, ℕ, zero, suc, ◌+◌, ◌-◌, ◌<◌, ◌≤◌, Bool, cond, not, eqb, leb, List, [], ◌∷◌, ◌++◌, map, length, get_or, take, drop, Some, None, Option, sym, refl, ap, ◌∙◌, subst, inl, inr, arith}
use Rattle.std.proofs.lemmas.List.{take-append-le, drop-append-le, drop_at, drop-drop, length-drop, length-append, length-take-le, get_or_append_left, get_or-take, take-append-drop}
use Rattle.std.proofs.lemmas.Bool.{ne_eqb, lt-leb}
use Rattle.records.specs.declared.fault.Cause.{Cause}
use Rattle.records.specs.declared.fault.Cause.TheVariants.{Short, Map, Cycles}
use Rattle.records.specs.declared.format.Field.{Field}
use Rattle.records.specs.declared.format.Record.{Record}
use Rattle.records.specs.Format.{Entry, map_fits, size_of, sizes, fields_of, little, entries, record_of, record_in}
use Rattle.records.specs.Faults.{fault_in, end_of, records_of, told_at, too_many}
use Rattle.records.specs.Parting.{Whole, Parted, PartingLaw}
use Rattle.records.specs.Parting.Parted.{ended, more}
use Rattle.records.proofs.Scanning.{good_whole, end_good, records_good, end_bad, records_bad, end_none, records_none}

abbrev entry : Field → ℕ → Entry
entry f n = record { field = f; value = n }

entries_local : (fs : List Field) (bs others : List ℕ) → sizes fs ≤ length bs → entries fs (bs ++ others) ≡ entries fs bs
entries_local [] bs others h = refl
entries_local (f ∷ fs) bs others h =
    let l = length-drop (size_of f) bs in
    ap (λ t. entry f (little t) ∷ entries fs (drop (size_of f) (bs ++ others))) (take-append-le (size_of f) bs others (omega arith))
    ∙ ap (λ es. entry f (little (take (size_of f) bs)) ∷ es)
    (ap (entries fs) (drop-append-le (size_of f) bs others (omega arith)) ∙ entries_local fs (drop (size_of f) bs) others (omega arith))

record_local : (r bs : List ℕ) (n : ℕ) → n ≡ sizes (fields_of (get_or r 0 0)) → length r ≡ 1 + n → record_in (r ++ bs) ≡ record_in r
unfolding record_in
record_local r bs n k h =
    let l = length-drop 1 r in
    let m = get_or r 0 0 in
    ap (λ b. record_of (entries (fields_of b) (drop 1 (r ++ bs)))) (get_or_append_left r bs 0 0 (omega arith))
    ∙ (ap (λ t. record_of (entries (fields_of m) t)) (drop-append-le 1 r bs (omega arith)) ∙ ap record_of (entries_local (fields_of m) (drop 1 r) bs (room (sizes (fields_of m)) (length (drop 1 r)) k l h)))
  where
    room : (s d : ℕ) → n ≡ s → d ≡ length r - 1 → length r ≡ 1 + n → s ≤ d
    room s d p q w = omega arith

abbrev judged : Bool → Bool → Bool → Bool → Option Cause
judged e m l t = cond e None (cond (not m) (Some Map) (cond l (Some Short) (cond t (Some Cycles) None)))

judged_same : {e f m n l k t u : Bool} → e ≡ f → m ≡ n → l ≡ k → t ≡ u → judged e m l t ≡ judged f n k u
judged_same p q r s = cc

-- what follows a record does not matter to it
fault_local : (r bs : List ℕ) (n : ℕ) → n ≡ sizes (fields_of (get_or r 0 0)) → length r ≡ 1 + n → fault_in (r ++ bs) ≡ fault_in r
fault_local r bs n k h =
    let l = length-append r bs in
    let g : get_or (r ++ bs) 0 0 ≡ get_or r 0 0 = get_or_append_left r bs 0 0 (omega arith) in
    let k₂ : n ≡ sizes (fields_of (get_or (r ++ bs) 0 0)) = k ∙ ap (λ b. sizes (fields_of b)) (sym g) in
    judged_same {e = eqb (length (r ++ bs)) 0} {f = eqb (length r) 0} {m = map_fits (get_or (r ++ bs) 0 0)} {n = map_fits (get_or r 0 0)} {l = leb (length (r ++ bs)) (sizes (fields_of (get_or (r ++ bs) 0 0)))}
    {k = leb (length r) (sizes (fields_of (get_or r 0 0)))} {t = too_many (record_in (r ++ bs)).cycles} {u = too_many (record_in r).cycles}
    (ne_eqb (length (r ++ bs)) 0 (λ e. omega arith) ∙ sym (ne_eqb (length r) 0 (λ e. omega arith))) (ap map_fits g)
    (lt-leb (length (r ++ bs)) (sizes (fields_of (get_or (r ++ bs) 0 0))) (below n _ k₂ (omega arith)) ∙ sym (lt-leb (length r) (sizes (fields_of (get_or r 0 0))) (below n _ k (omega arith))))
    (ap (λ (x : Record). too_many x.cycles) (record_local r bs n k h))
  where
    below : (n s : ℕ) {d : ℕ} → n ≡ s → n < d → s < d
    below n s p q = omega arith

more_end : (r bs : List ℕ) → Whole r → end_of (r ++ bs) ≡ length r + end_of bs
more_end r bs w =
    let n = sizes (fields_of (get_or r 0 0)) in
    let l = length-append r bs in
    let g : get_or (r ++ bs) 0 0 ≡ get_or r 0 0 = get_or_append_left r bs 0 0 (first (length r) n w.size) in
    let e = end_good (r ++ bs) n (ap (λ b. sizes (fields_of b)) (sym g)) (long (length r) n (length bs) (length (r ++ bs)) w.size l) (fault_local r bs n refl w.size ∙ w.good) in
    let d : end_of (drop (1 + n) (r ++ bs)) ≡ end_of bs = ap end_of (drop_at r bs (1 + n) w.size) in
    sums (end_of (r ++ bs)) n _ (end_of bs) (length r) e d w.size
  where
    first : (a n : ℕ) → a ≡ 1 + n → 0 < a
    first a n h = omega arith

    long : (a n b d : ℕ) → a ≡ 1 + n → d ≡ a + b → 0 < d
    long a n b d h k = omega arith

    sums : (a n x y l : ℕ) → a ≡ 1 + n + x → x ≡ y → l ≡ 1 + n → a ≡ l + y
    sums a n x y l p q h = omega arith

more_records : (r bs : List ℕ) → Whole r → records_of (r ++ bs) ≡ record_in r ∷ records_of bs
more_records r bs w =
    let n = sizes (fields_of (get_or r 0 0)) in
    let l = length-append r bs in
    let g : get_or (r ++ bs) 0 0 ≡ get_or r 0 0 = get_or_append_left r bs 0 0 (first (length r) n w.size) in
    records_good (r ++ bs) n (ap (λ b. sizes (fields_of b)) (sym g)) (long (length r) n (length bs) (length (r ++ bs)) w.size l) (fault_local r bs n refl w.size ∙ w.good)
    ∙ (ap (λ x. x ∷ records_of (drop (1 + n) (r ++ bs))) (record_local r bs n refl w.size) ∙ ap (λ t. record_in r ∷ records_of t) (drop_at r bs (1 + n) w.size))
  where
    first : (a n : ℕ) → a ≡ 1 + n → 0 < a
    first a n h = omega arith

    long : (a n b d : ℕ) → a ≡ 1 + n → d ≡ a + b → 0 < d
    long a n b d h k = omega arith

-- what the parts tell: the records, where they end, and what is left there
parts_tell : {bytes : List ℕ} {rs : List (List ℕ)} {rest : List ℕ} → Parted bytes rs rest
    → (records_of bytes ≡ map record_in rs) × (end_of bytes + length rest ≡ length bytes) × (drop (end_of bytes) bytes ≡ rest)
parts_tell (ended {rest} (inl e)) =
    let n = subst (λ (t : List ℕ). end_of t ≡ 0) (sym e) (end_none [] 0 (omega arith)) in
    (subst (λ (t : List ℕ). records_of t ≡ []) (sym e) (records_none [] 0 (omega arith)), omega arith, ap (λ k. drop k rest) n)
parts_tell (ended {rest} (inr (c, e))) = let n = end_bad rest c e in (records_bad rest c e, omega arith, ap (λ k. drop k rest) n)
parts_tell (more {r} {rs} {bs} {rest} w p) =
    let h = parts_tell p in
    let e = more_end r bs w in
    let l = length-append r bs in (
      more_records r bs w ∙ ap (λ xs. record_in r ∷ xs) h.0,
      sums (end_of (r ++ bs)) (length r) (end_of bs) (length rest) (length bs) (length (r ++ bs)) e h.1 l,
      ap (λ k. drop k (r ++ bs)) e ∙ (sym (drop-drop (end_of bs) (length r) (r ++ bs)) ∙ (ap (drop (end_of bs)) (drop_at r bs (length r) refl) ∙ h.2)),
    )
  where
    sums : (a b c d e f : ℕ) → a ≡ b + c → c + d ≡ e → f ≡ b + e → a + d ≡ f
    sums a b c d e f p q s = omega arith

first_part : (bytes : List ℕ) (n : ℕ) → n ≡ sizes (fields_of (get_or bytes 0 0)) → 0 < length bytes → fault_in bytes ≡ None → Whole (take (1 + n) bytes)
first_part bytes n k h e =
    let w : n < length bytes = subst (λ (m : ℕ). m < length bytes) (sym k) (good_whole bytes h e) in
    let l : length (take (1 + n) bytes) ≡ 1 + n = length-take-le (1 + n) bytes (omega arith) in
    let g : get_or (take (1 + n) bytes) 0 0 ≡ get_or bytes 0 0 = get_or-take (1 + n) bytes 0 0 (omega arith) in
    let k₂ : n ≡ sizes (fields_of (get_or (take (1 + n) bytes) 0 0)) = k ∙ ap (λ b. sizes (fields_of b)) (sym g) in
    record {
      size = l ∙ ap (λ m. 1 + m) k₂;
      good = sym (fault_local (take (1 + n) bytes) (drop (1 + n) bytes) n k₂ l) ∙ (ap fault_in (take-append-drop (1 + n) bytes) ∙ e);
    }

abbrev Parts : List ℕ → Type 0
Parts bytes = (rs : List (List ℕ)) × (rest : List ℕ) × Parted bytes rs rest

joined_parts : (bytes : List ℕ) (n : ℕ) → Whole (take (1 + n) bytes) → Parts (drop (1 + n) bytes) → Parts bytes
joined_parts bytes n w p =
    (take (1 + n) bytes ∷ p.0, p.1, subst (λ (t : List ℕ). Parted t (take (1 + n) bytes ∷ p.0) p.1) (take-append-drop (1 + n) bytes) (more w p.2))

by_fault : (bytes : List ℕ) (o : Option Cause) → fault_in bytes ≡ o → (fault_in bytes ≡ None → Parts bytes) → Parts bytes
by_fault bytes None e f = f e
by_fault bytes (Some c) e f = ([], bytes, ended (inr (c, e)))

parts_of : (k : ℕ) (bytes : List ℕ) → length bytes ≤ k → Parts bytes
parts_of k [] h = ([], [], ended (inl refl))
parts_of zero (b ∷ bs) h = absurd (omega arith)
parts_of (suc k) (b ∷ bs) h =
    by_fault (b ∷ bs) (fault_in (b ∷ bs)) refl
    (λ e. joined_parts (b ∷ bs) (sizes (fields_of b)) (first_part (b ∷ bs) (sizes (fields_of b)) refl (omega arith) e)
    (parts_of k (drop (1 + sizes (fields_of b)) (b ∷ bs)) (fewer (sizes (fields_of b)) _ (length (b ∷ bs)) k (length-drop (1 + sizes (fields_of b)) (b ∷ bs)) h)))
  where
    fewer : (n d l k : ℕ) → d ≡ l - (1 + n) → l ≤ suc k → d ≤ k
    fewer n d l k e h = omega arith

pub parting_law : PartingLaw
parting_law = (
  (λ bytes. parts_of (length bytes) bytes (omega arith)),
  (λ bytes rs rest p.
      let h = parts_tell p in
      let n : end_of bytes ≡ length bytes - length rest = omega (arith, h.1) in
      (h.0, h.1, ap (λ t. told_at (end_of bytes) (fault_in t)) h.2 ∙ ap (λ k. told_at k (fault_in rest)) n)),
)
