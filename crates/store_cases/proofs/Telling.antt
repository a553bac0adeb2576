-- The text of the replies that a replay left.
use Rattle.std.proofs.Common.{◌≡◌, ℕ, List, Ok, Err, Result, IfOk, subst}
use Rattle.terms.specs.declared.Cell.{Cell}
use Rattle.store.specs.declared.Refusal.{Refusal}
use Rattle.store.specs.declared.call.Call.{Call}
use Rattle.store.specs.declared.call.Reply.{Reply}
use Rattle.store.specs.History.{Fixed, fixed, Replayed}
use Rattle.store_cases.specs.Texts.{replies_text}
use Rattle.store_cases.specs.Told.{Told}

same_fixed : (lists : ℕ → ℕ → List (List Cell)) (kind : ℕ → ℕ → ℕ) (l a p f : ℕ) → l ≡ 32 → a ≡ 1000 → p ≡ 12864 → f ≡ 512 → fixed lists kind l a 3 p f ≡ fixed lists kind 32 1000 3 12864 512
same_fixed lists kind l a p f el ea ep ef = cc

pub tells : {S E : Type 0} (text : S → List ℕ) (listed : Result S E) (lists : ℕ → ℕ → List (List Cell)) (kind : ℕ → ℕ → ℕ) (l a p f : ℕ) (calls : List Call) (path : List ℕ) (out : List Cell) (before : List Reply)
    (r : Result (Unit {0}) Refusal) (after : List Reply) (path' : List ℕ) (out' : List Cell) → l ≡ 32 → a ≡ 1000 → p ≡ 12864 → f ≡ 512
    → Replayed (fixed lists kind l a 3 p f) calls path out before r after path' out' → IfOk listed (λ s. text s ≡ replies_text after) → IfOk listed (λ s. Told calls (text s))
tells text (Err e) lists kind l a p f calls path out before r after path' out' el ea ep ef w is = tt
tells text (Ok s) lists kind l a p f calls path out before r after path' out' el ea ep ef w is = record {
  lists = lists;
  kind = kind;
  path = path;
  out = out;
  before = before;
  result = r;
  after = after;
  path' = path';
  out' = out';
  replayed = subst (λ (x : Fixed). Replayed x calls path out before r after path' out') (same_fixed lists kind l a p f el ea ep ef) w;
  is = is;
}
