-- The outcome of the standing equations, settled together.
use Rattle.std.proofs.Common.{◌≡◌, ℕ, ◌≤◌, List, [], length, All, sym, subst, arith}
use Rattle.std.proofs.lemmas.List.{append-nil}
use Rattle.terms.specs.declared.Cell.{Cell}
use Rattle.typing.specs.Terms.{Eqs, Signature}
use Rattle.typing.specs.Rules.{Means}
use Rattle.typing.proofs.Orders.{every_order}
use Rattle.graphs.specs.Links.{roots}
use Rattle.unification.specs.declared.Outcome.{Outcome}
use Rattle.unification.specs.declared.Equation.{Equation}
use Rattle.unification.specs.Standing.{named, Standing}
use Rattle.unification.specs.Several.{SpeltAt, UnifiedAll}
use Rattle.unification.proofs.Standing.{standing_start, standing_grow}
use Rattle.store.specs.Entries.{Sound, joined, places_from}
use Rattle.store.specs.Calls.{Spelt}
use Rattle.store.specs.Solved.{Stood}
use Rattle.store.proofs.Loading.{equations_of, equations_below, spelt_at, loaded_whole, joined_few}

module _ (kind : Signature) (es : List (List Cell)) (sound : All Sound es) (few : length es ≤ 16) where
  small : length (joined es) ≤ 1568
  small = let n = joined_few es sound in omega arith

  none_stand : (E : Eqs) → Spelt E es → Standing kind (joined es) (roots 0 2624) []
  none_stand E s = standing_grow kind [] (joined es) (roots 0 2624) [] small (loaded_whole es E s) (standing_start kind)

  at_places : (E : Eqs) → Spelt E es → SpeltAt (joined es) (places_from 0 es) E
  at_places E s = subst (λ cs. SpeltAt cs (places_from 0 es) E) (append-nil (joined es)) (spelt_at es sound E s [] [])

  stood_at : (l' : List ℕ) (o : Outcome) → UnifiedAll kind (joined es) (roots 0 2624) (places_from 0 es) l' o → Stood kind es (joined es) l' o
  stood_at l' o u =
      let p = equations_of es sound in
      let E = p.0 in let s = p.1 in
      let w = u [] E (none_stand E s) (at_places E s) in
      record {
        equations = E;
        spelt = s;
        below = equations_below es sound E s;
        comes = ((every_order kind E).comes_when (named o)).1 (subst (λ F. Means kind F (named o)) (append-nil E) w.0);
        stands = λ e. subst (Standing kind (joined es) l') (append-nil E) (w.1 e);
      }

  pub stood : (cells : List Cell) (l l' : List ℕ) (places : List Equation) (o : Outcome) → cells ≡ joined es → l ≡ roots 0 2624 → places ≡ places_from 0 es → UnifiedAll kind cells l places l' o → Stood kind es cells l' o
  stood cells l l' places o c e p u =
      subst (λ cs. Stood kind es cs l' o) (sym c)
      (stood_at l' o (subst (λ ps. UnifiedAll kind (joined es) (roots 0 2624) ps l' o) p (subst (λ k. UnifiedAll kind (joined es) k places l' o) e (subst (λ cs. UnifiedAll kind cs l places l' o) c u))))
