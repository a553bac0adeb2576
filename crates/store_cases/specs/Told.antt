-- What the program prints is what a store replies.
use Rattle.std.specs.Prelude.{◌≡◌, ℕ, List, Result}
use Rattle.terms.specs.declared.Cell.{Cell}
use Rattle.store.specs.declared.Refusal.{Refusal}
use Rattle.store.specs.declared.call.Call.{Call}
use Rattle.store.specs.declared.call.Reply.{Reply}
use Rattle.store.specs.History.{fixed, Replayed}
use Rattle.store_cases.specs.Texts.{replies_text}

-- the text is that of the replies to the calls on a store numbered 3, with a step limit of 32, an allowance of 1,000 and enough scratch
pub record Told (calls : List Call) (text : List ℕ) : Type 0 where
  pub lists : ℕ → ℕ → List (List Cell)
  pub kind : ℕ → ℕ → ℕ
  pub path : List ℕ
  pub out : List Cell
  pub before : List Reply
  pub result : Result (Unit {0}) Refusal
  pub after : List Reply
  pub path' : List ℕ
  pub out' : List Cell
  pub replayed : Replayed (fixed lists kind 32 1000 3 12864 512) calls path out before result after path' out'
  pub is : text ≡ replies_text after
