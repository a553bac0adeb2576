-- What `token_at` tells is the longest token after blanks, and nothing else is.
use Rattle.std.proofs.Common.{◌≡◌, ℕ, ◌+◌, ◌-◌, ◌<◌, ◌≤◌, min, eqb, List, length, get_or, drop, Some, None, Ok, Err, Option, Result, sym, refl, ap, ◌∙◌, subst, inl, inr, arith}
use Rattle.std.proofs.lemmas.List.{get_or-drop, length-drop}
use Rattle.std.proofs.lemmas.Bool.{cond-true, cond-false, cond_both, cases_lt, cases_order, eq-eqb, ne_eqb, eqb-true, eqb-false}
use Rattle.lexis.specs.declared.fault.Fault.{Fault}
use Rattle.lexis.specs.declared.fault.Cause.TheVariants.{Grammar}
use Rattle.lexis.specs.declared.token.Token.{Token}
use Rattle.lexis.specs.declared.token.Kind.{Kind}
use Rattle.lexis.specs.declared.token.Kind.TheVariants.{End}
use Rattle.lexis.specs.declared.class.Class.TheVariants.{Blank}
use Rattle.std.specs.List.{prefix_len}
use Rattle.std.proofs.lemmas.List.Sums.{prefix_len-le-length, prefix_len_passes, prefix_len_stops}
use Rattle.lexis.specs.Classes.{class_of}
use Rattle.lexis.specs.Runs.{is_blank}
use Rattle.lexis.specs.Tokens.{shape_at, start_at, told, token_at, Placed}
use Rattle.lexis.specs.Worth.{word_of}
use Rattle.lexis.specs.Spelt.{Spelt, BlanksTo, NoneAfter, Longest, Only}
use Rattle.lexis.specs.Spelt.Longest.{stands, ends, refused}
use Rattle.lexis.proofs.Classed as kind
use Rattle.lexis.proofs.Longest.{Sound, end_is, shape_sound, reach_at, none_longer, none_begins, of_class}

start_within : (text : List ℕ) (at : ℕ) → (min at (length text) ≤ start_at text at) × (start_at text at ≤ length text)
start_within text at =
    let m = min at (length text) in
    omega (arith, end_is is_blank text m, prefix_len-le-length is_blank (drop m text), length-drop m text)

-- blanks stand up to the start
start_blanks : (text : List ℕ) (at : ℕ) → BlanksTo text at (start_at text at)
start_blanks text at =
    let m = min at (length text) in (
      (start_within text at).0,
      λ i low high.
          let n : i - m < prefix_len is_blank (drop m text) = omega (arith, end_is is_blank text m) in
          let j : m + (i - m) ≡ i = omega arith in
          let b : get_or (drop m text) (i - m) 0 ≡ get_or text i 0 = get_or-drop m text (i - m) 0 ∙ ap (λ k. get_or text k 0) j in
          sym (ap class_of b) ∙ kind.is_blank (class_of (get_or (drop m text) (i - m) 0)) (prefix_len_passes is_blank (drop m text) (i - m) 0 n),
    )

-- and none stands there
start_stops : (text : List ℕ) (at : ℕ) → start_at text at < length text → class_of (get_or text (start_at text at) 0) ≡ Blank → ⊥
start_stops text at l e =
    let m = min at (length text) in
    let n = prefix_len is_blank (drop m text) in
    let s : start_at text at ≡ m + n = end_is is_blank text m in
    let short : n < length (drop m text) = omega (arith, length-drop m text) in
    let b : get_or (drop m text) n 0 ≡ get_or text (start_at text at) 0 = get_or-drop m text n 0 ∙ ap (λ k. get_or text k 0) (sym s) in
    kind.not_blank (class_of (get_or (drop m text) n 0)) (prefix_len_stops is_blank (drop m text) 0 short) (ap class_of b ∙ e)

told_longest : (text : List ℕ) (at s : ℕ) (o : Option (Kind × ℕ)) → shape_at text s ≡ o → BlanksTo text at s → s < length text → (class_of (get_or text s 0) ≡ Blank → ⊥)
    → Longest text at (told s o)
told_longest text at s None h b l n = refused _ b l n (none_begins text s h) refl
told_longest text at s (Some w) h b l n =
    let v : Sound text s (Some w) = subst (Sound text s) h (shape_sound text s l) in
    stands _ b v.0 v.1 v.2 (none_longer text s w h (omega arith))

pub token_longest : (text : List ℕ) (at : ℕ) → Longest text at (token_at text at)
token_longest text at =
    let s = start_at text at in
    cond_both (eqb s (length text)) (Ok (record { kind = End; start = s; end = s })) (told s (shape_at text s)) (Longest text at)
    (λ t.
    let e = eqb-true s (length text) t in
    ends _ (subst (BlanksTo text at) e (start_blanks text at)) refl e e)
    (λ t.
    let n = eqb-false s (length text) t in
    let l : s < length text = elim (cases_lt s (length text)) [ inl h ↦ h | inr h ↦ absurd (n (omega (arith, start_within text at))) ] in
    told_longest text at s (shape_at text s) refl (start_blanks text at) l (start_stops text at l))

-- the first place with no blank is the start
start_only : (text : List ℕ) (at p : ℕ) → BlanksTo text at p → p < length text → (class_of (get_or text p 0) ≡ Blank → ⊥) → start_at text at ≡ p
start_only text at p b l n =
    elim (cases_order (start_at text at) p) [
      | inl e ↦ e
      | inr o ↦ elim o [
        | inl lt ↦ absurd (start_stops text at (omega arith) (b.1 (start_at text at) (start_within text at).0 lt))
        | inr lt ↦ absurd (n ((start_blanks text at).1 p b.0 lt))
      ]
    ]

tell : (text : List ℕ) (at p : ℕ) → p < length text → start_at text at ≡ p → token_at text at ≡ told p (shape_at text p)
tell text at p l e =
    cond-false (eqb (start_at text at) (length text)) (Ok (record { kind = End; start = start_at text at; end = start_at text at })) (told (start_at text at) (shape_at text (start_at text at)))
    (ne_eqb (start_at text at) (length text) (λ h. omega arith))
    ∙ ap (λ s. told s (shape_at text s)) e

no_blank : (text : List ℕ) (s : ℕ) (w : Kind × ℕ) → shape_at text s ≡ Some w → class_of (get_or text s 0) ≡ Blank → ⊥
no_blank text s w h e = let z : ◌≡◌ {A = ℕ} 0 1 = cc (h, of_class text s Blank e) in omega arith

same_token : (t : Token) (k : Kind) (s e : ℕ) → t.kind ≡ k → t.start ≡ s → t.end ≡ e → ◌≡◌ {A = Result Token Fault} (Ok t) (Ok (record { kind = k; start = s; end = e }))
same_token t k s e hk hs he =
    ap (λ x. Ok (record { kind = x; start = t.start; end = t.end })) hk
    ∙ (ap (λ x. Ok (record { kind = k; start = x; end = t.end })) hs ∙ ap (λ x. Ok (record { kind = k; start = s; end = x })) he)

only_token : (text : List ℕ) (at : ℕ) (t : Token) → BlanksTo text at t.start → t.start < t.end → t.end ≤ length text → Spelt t.kind (word_of text t.start t.end) → NoneAfter text t.start t.end
    → Ok t ≡ token_at text at
only_token text at t b l h sp none =
    let r = reach_at text t.start t.end t.kind (omega arith) h sp in
    let w = r.0 in
    let v : Sound text t.start (Some w) = subst (Sound text t.start) r.1 (shape_sound text t.start (omega arith)) in
    let e : t.end ≡ w.1 = elim (cases_lt t.end w.1) [ inl lt ↦ absurd (none w.0 w.1 lt v.1 v.2) | inr ge ↦ omega (arith, r.2) ] in
    let k : t.kind ≡ w.0 = r.3 e in
    let f : token_at text at ≡ told t.start (Some w) = tell text at t.start (omega arith) (start_only text at t.start b (omega arith) (no_blank text t.start w r.1)) ∙ ap (told t.start) r.1 in
    same_token t w.0 t.start w.1 k refl e ∙ sym f

only_refusal : (text : List ℕ) (at : ℕ) (e : Fault) → BlanksTo text at e.at → e.at < length text → (class_of (get_or text e.at 0) ≡ Blank → ⊥) → NoneAfter text e.at e.at → e.cause ≡ Grammar
    → (o : Option (Kind × ℕ)) → shape_at text e.at ≡ o → Err e ≡ token_at text at
only_refusal text at e b l n none c None h =
    let f = tell text at e.at l (start_only text at e.at b l n) ∙ ap (told e.at) h in
    ap (λ x. Err (record { cause = x; at = e.at })) c ∙ sym f
only_refusal text at e b l n none c (Some w) h =
    let v : Sound text e.at (Some w) = subst (Sound text e.at) h (shape_sound text e.at l) in
    absurd (none w.0 w.1 v.0 v.1 v.2)

pub only_longest : (text : List ℕ) (at : ℕ) (r : Result Token Fault) → Longest text at r → r ≡ token_at text at
only_longest text at r (stands t b l h sp none) = only_token text at t b l h sp none
only_longest text at r (ends t b k s e) =
    let m : start_at text at ≡ length text =
    elim (cases_lt (start_at text at) (length text)) [
      | inl lt ↦ absurd (start_stops text at lt (b.1 (start_at text at) (start_within text at).0 lt))
      | inr ge ↦ omega (arith, start_within text at)
    ] in
    let f : token_at text at ≡ Ok (record { kind = End; start = start_at text at; end = start_at text at }) =
    cond-true (eqb (start_at text at) (length text)) (Ok (record { kind = End; start = start_at text at; end = start_at text at })) (told (start_at text at) (shape_at text (start_at text at)))
    (eq-eqb (start_at text at) (length text) m) in
    same_token t End (start_at text at) (start_at text at) k (s ∙ sym m) (e ∙ sym m) ∙ sym f
only_longest text at r (refused e b l n none c) = only_refusal text at e b l n none c (shape_at text e.at) refl

pub is_longest : (text : List ℕ) (at : ℕ) (r : Result Token Fault) → r ≡ token_at text at → Longest text at r
is_longest text at r e = subst (Longest text at) (sym e) (token_longest text at)

pub is_only : (text : List ℕ) (at : ℕ) (r : Result Token Fault) → r ≡ token_at text at → Only text at r
is_only text at r e other l = only_longest text at other l ∙ sym e

-- and so stands within the text
pub longest_placed : (text : List ℕ) (at : ℕ) (r : Result Token Fault) → Longest text at r → Placed (length text) at r
longest_placed text at r (stands t b l h sp none) = (λ m. omega (arith, b.0), omega arith, h, λ _. l)
longest_placed text at r (ends t b k s e) = (λ m. omega arith, omega arith, omega arith, λ n. absurd (n k))
longest_placed text at r (refused e b l n none c) = (λ m. omega (arith, b.0), omega arith)
