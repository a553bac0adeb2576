-- What a question and a reading come to where the equations that stand are solved.
use Rattle.std.proofs.Common.{◌≡◌, ℕ, Bool, true, false, cond, ltb, List, length, Some, None, Ok, Err, Option, Result, sym, refl, ap, ◌∙◌, subst}
use Rattle.std.specs.Option.{ok_or}
use Rattle.std.specs.Result.{result_err, result_map_both}
use Rattle.terms.specs.declared.Cell.{Cell}
use Rattle.typing.specs.Terms.{Signature}
use Rattle.typing.proofs.Orders.{every_order}
use Rattle.graphs.specs.Flat.{flat}
use Rattle.unification.specs.declared.Outcome.{Outcome}
use Rattle.unification.specs.declared.Outcome.TheVariants.{Solved}
use Rattle.unification.specs.Reading.{Written, ReadsVariable}
use Rattle.verdicts.specs.declared.Refusal as search
use Rattle.verdicts.specs.declared.Refusal.TheVariants.{PathShort}
use Rattle.verdicts.specs.declared.Answer.{Answer}
use Rattle.frames.specs.Asked as frames
use Rattle.store.specs.declared.Refusal.{Refusal}
use Rattle.store.specs.declared.Refusal.TheVariants.{OutputShort}
use Rattle.store.specs.Numbers.{refusal_of}
use Rattle.store.specs.Calls.{Told, answer_of, AskedWith, AskedBy, WroteOut, ReadBy}
use Rattle.store.specs.Solved.{Stood}

-- the outcome that was told
pub told_of : {kind : Signature} {entries : List (List Cell)} {cells : List Cell} {links : List ℕ} {o : Outcome} → Stood kind entries cells links o → Told kind entries o
told_of s = (s.equations, s.spelt, s.comes)

module _ (lists : ℕ → ℕ → List (List Cell)) (kind : Signature) (limit allowance : ℕ) (question : List Cell) (entries : List (List Cell)) (before after : List ℕ) (r : Result Answer Refusal) where
  -- the search's one refusal where the path slice is long enough
  named : (told : Result Answer search.Refusal) → r ≡ result_map_both (λ a. a) refusal_of told → frames.Bounded None allowance told → r ≡ answer_of told
  named (Ok a) is within = is
  named (Err e) is within = is ∙ ap (λ x. Err (refusal_of x)) within

  pub inferred : (cells : List Cell) (links : List ℕ) (s : Stood kind entries cells links Solved) (told : Result Answer search.Refusal) (j : Option search.Refusal) → j ≡ result_err (frames.judged_path (length before))
      → r ≡ result_map_both (λ a. a) refusal_of told → frames.Asked j lists kind limit allowance question s.equations before after told → frames.Bounded j allowance told
      → AskedBy (Ok tt) lists kind limit allowance question entries before after r
  inferred cells links s told j e is asked bounded =
      (Solved, told_of s, by (ltb (length before) 32) (subst (λ o. frames.Asked o lists kind limit allowance question s.equations before after told) e asked) (subst (λ o. frames.Bounded o allowance told) e bounded))
    where
      by : (b : Bool) → frames.Asked (result_err (cond b (Err PathShort) (Ok (tt {0})))) lists kind limit allowance question s.equations before after told → frames.Bounded (result_err (cond b (Err PathShort) (Ok (tt {0})))) allowance told
          → AskedWith b lists kind limit allowance question entries before after r
      by true a w = (is ∙ ap (λ q. result_map_both (λ a. a) refusal_of q) a.0, a.1)
      by false a w = record { equations = s.equations; spelt = s.spelt; told = told; is = named told is w; answered = a; proven = a.proven s.below }

module _ (kind : Signature) (entries : List (List Cell)) (variable : ℕ) (before after : List Cell) (cells : List Cell) (links : List ℕ) (s : Stood kind entries cells links Solved) where
  pub shown : (o : Option ℕ) (r : Result ℕ Refusal) → ((xs : List Cell) → Written xs before o after → WroteOut xs before r after) → ReadsVariable cells links variable before o after → ReadBy (Ok tt) kind entries variable before after r
  shown o r f reads =
      let θ = (every_order kind s.equations).reads s.comes in
      let w = reads kind s.equations θ.0 (s.stands refl) θ.1 in
      (Solved, told_of s, record { equations = s.equations; spelt = s.spelt; reading = θ.0; reads = θ.1; wrote = f (flat (θ.0 variable)) w })

-- what is written where a reading fits, and told where it does not
pub written_out : (o : Option ℕ) (r : Result ℕ Refusal) → r ≡ ok_or o OutputShort → (xs before after : List Cell) → Written xs before o after → WroteOut xs before r after
written_out (Some n) r e xs before after w = subst (λ q. WroteOut xs before q after) (sym e) w
written_out None r e xs before after w = subst (λ q. WroteOut xs before q after) (sym e) (refl, w.0, w.1)
