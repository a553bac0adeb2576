-- Words at their spans.
use Rattle.std.proofs.Common.{◌≡◌, ℕ, suc, ◌+◌, ◌-◌, ◌<◌, ◌≤◌, leb, List, [], ◌∷◌, ◌++◌, length, get_or, take, drop, sym, refl, ap, ◌∙◌, inl, inr, arith}
use Rattle.std.proofs.lemmas.List.{length-map, get_or-map, map-append, length-drop, take-append-le, drop-append-le, drop_more, drop_at, take_all, map_more, drop_all}
use Rattle.std.proofs.lemmas.Bool.{cases_lt, lt-leb, le-leb}
use Rattle.lexis.specs.Worth.{word_of}
use Rattle.lexis.specs.declared.token.Span.{Span}
use Rattle.names.specs.Spans.{word_at, words_in, bytes_of}

pub length_words : (bytes : List ℕ) (spans : List Span) → length (words_in bytes spans) ≡ length spans
unfolding words_in
length_words bytes spans = length-map spans (word_at bytes)

pub word_read : (bytes : List ℕ) (spans : List Span) (k : ℕ) (d : Span) → k < length spans → get_or (words_in bytes spans) k [] ≡ word_at bytes (get_or spans k d)
unfolding words_in
word_read bytes spans k d h = get_or-map (word_at bytes) spans k d [] h

pub words_none : (bytes : List ℕ) → words_in bytes [] ≡ []
unfolding words_in
words_none bytes = refl

pub words_push : (bytes : List ℕ) (spans : List Span) (s : Span) → words_in bytes (spans ++ s ∷ []) ≡ words_in bytes spans ++ word_at bytes s ∷ []
unfolding words_in
words_push bytes spans s = map-append (word_at bytes) spans (s ∷ [])

pub words_append : (bytes : List ℕ) (xs ys : List Span) → words_in bytes (xs ++ ys) ≡ words_in bytes xs ++ words_in bytes ys
unfolding words_in
words_append bytes xs ys = map-append (word_at bytes) xs ys

take_zero : (n : ℕ) (xs : List ℕ) → n ≡ 0 → take n xs ≡ []
take_zero n xs e = ap (λ m. take m xs) e

-- a word within the bytes stays where more bytes follow
pub word_stays : (bytes more : List ℕ) (s e : ℕ) → e ≤ length bytes → word_of (bytes ++ more) s e ≡ word_of bytes s e
unfolding word_of
word_stays bytes more s e h =
    elim (cases_lt e s) [
      | inl a ↦ take_zero (e - s) (drop s (bytes ++ more)) (omega arith) ∙ sym (take_zero (e - s) (drop s bytes) (omega arith))
      | inr a ↦
          let l = length-drop s bytes in
          ap (take (e - s)) (drop-append-le s bytes more (omega arith)) ∙ take-append-le (e - s) (drop s bytes) more (omega arith)
    ]

-- the bytes that were added last
pub word_added : (bytes more : List ℕ) (s e : ℕ) → s ≡ length bytes → e ≡ s + length more → word_of (bytes ++ more) s e ≡ more
unfolding word_of
word_added bytes more s e hs he = ap (take (e - s)) (drop_at bytes more s (sym hs)) ∙ take_all (e - s) more (omega arith)

pub words_stay : (bytes more : List ℕ) (spans : List Span) → ((k : ℕ) (d : Span) → k < length spans → (get_or spans k d).end ≤ length bytes)
    → words_in (bytes ++ more) spans ≡ words_in bytes spans
unfolding words_in
words_stay bytes more [] h = refl
words_stay bytes more (s ∷ ss) h =
    ap (λ w. w ∷ words_in (bytes ++ more) ss) (word_stays bytes more s.start s.end (h 0 s (omega arith)))
    ∙ ap (λ ws. word_at bytes s ∷ ws) (words_stay bytes more ss (λ k d l. h (suc k) d (omega arith)))

pub words_more : (bytes : List ℕ) (spans : List Span) (i : ℕ) (d : Span) → i < length spans
    → words_in bytes (take (i + 1) spans) ≡ words_in bytes (take i spans) ++ word_at bytes (get_or spans i d) ∷ []
unfolding words_in
words_more bytes spans i d h = map_more (word_at bytes) spans i d h

pub words_all : (bytes : List ℕ) (spans : List Span) (i : ℕ) → length spans ≤ i → words_in bytes (take i spans) ≡ words_in bytes spans
words_all bytes spans i h = ap (words_in bytes) (take_all i spans h)

pub bytes_append : (xs ys : List (List ℕ)) → bytes_of (xs ++ ys) ≡ bytes_of xs + bytes_of ys
bytes_append [] ys = omega arith
bytes_append (x ∷ xs) ys = omega (arith, bytes_append xs ys)

-- what the spans from a place on take
pub bytes_from : (bytes : List ℕ) (spans : List Span) (i : ℕ) (d : Span) → i < length spans
    → bytes_of (words_in bytes (drop i spans)) ≡ length (word_at bytes (get_or spans i d)) + bytes_of (words_in bytes (drop (i + 1) spans))
unfolding words_in
bytes_from bytes spans i d h = ap (λ ss. bytes_of (words_in bytes ss)) (drop_more spans i d h)

pub bytes_end : (bytes : List ℕ) (spans : List Span) (i : ℕ) → length spans ≤ i → bytes_of (words_in bytes (drop i spans)) ≡ 0
unfolding words_in
bytes_end bytes spans i h = ap (λ ss. bytes_of (words_in bytes ss)) (drop_all i spans h)

-- one name more: its bytes after the others, and its span
pub name_added : (bytes more name : List ℕ) (spans others : List Span) (s e : ℕ) → more ≡ bytes ++ name → others ≡ spans ++ (record { start = s; end = e }) ∷ [] → s ≡ length bytes → e ≡ s + length name
    → ((k : ℕ) (d : Span) → k < length spans → (get_or spans k d).end ≤ length bytes) → words_in more others ≡ words_in bytes spans ++ name ∷ []
name_added bytes more name spans others s e eb es hs he inside =
    ap (words_in more) es
    ∙ (words_push more spans (record { start = s; end = e })
    ∙ (ap (λ bs. words_in bs spans ++ word_of bs s e ∷ []) eb
    ∙ (ap (λ ws. ws ++ word_of (bytes ++ name) s e ∷ []) (words_stay bytes name spans inside) ∙ ap (λ w. words_in bytes spans ++ w ∷ []) (word_added bytes name s e hs he))))

pub name_bytes : (bytes more name : List ℕ) (spans others : List Span) → words_in more others ≡ words_in bytes spans ++ name ∷ [] → bytes_of (words_in more others) ≡ bytes_of (words_in bytes spans) + length name
name_bytes bytes more name spans others e = ap bytes_of e ∙ (bytes_append (words_in bytes spans) (name ∷ []) ∙ omega arith)

pub leb_shift : (m n k : ℕ) → m ≤ k → leb n (k - m) ≡ leb (m + n) k
leb_shift m n k h =
    elim (cases_lt k (m + n)) [
      | inl a ↦ lt-leb n (k - m) (omega arith) ∙ sym (lt-leb (m + n) k a)
      | inr a ↦ le-leb n (k - m) (omega arith) ∙ sym (le-leb (m + n) k a)
    ]
