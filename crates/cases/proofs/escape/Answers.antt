use Rattle.std.proofs.Common.{◌≡◌, ◌+◌, ◌*◌, ◌≤◌, false, [], ◌∷◌, ◌++◌, length, get_or, vec_items, sym, ap, ◌∙◌, arith}
use Rattle.cases.specs.Escapes.{hex_of, is_byte}
use Rattle.cases.proofs.Escaping.{escaped_n, escaped_t, escaped_r, escaped_backslash, escaped_number, escaped_byte, escaped_none, length_byte, length_other, letter_other, short_other, letter_past, added_none}
use Rattle.cases.proofs.escape.Goals as goal
use Rattle.cases.proofs.escape.Goals.{else-letter-eq120-via-then-letter-eq120+else-text-ge4, else-letter-eq120-via-else-letter-eq120}

pub returns-then-text-lt2 : goal.returns-then-text-lt2
returns-then-text-lt2 c =
    let t = c.args.text.now in
    let e : get_or t 1 0 ≡ 0 = letter_past t (omega arith) in
    let o = short_other t (omega arith) in
    record {
      size = sym (length_other t o);
      added = added_none _ _ (escaped_none c.args.round t (λ h. omega arith) (λ h. omega arith) (λ h. omega arith) (λ h. omega arith) (λ h. omega arith) o);
      bound = omega arith;
    }

pub returns-then-text-ge4 : goal.returns-then-text-ge4
returns-then-text-ge4 c =
    let t = c.args.text.now in
    let e : get_or t 1 0 ≡ 120 = omega arith in
    let l : 4 ≤ length t = omega arith in
    let v = vec_items c.args.out.now in
    record {
      size = sym (length_byte t e l);
      added =
          c.in_ok-push.ensures.items
          ∙ (ap (λ x. v ++ (x * 16 + c.hex-then-text-ge4.result) ∷ []) c.hex.ensures.value
          ∙ (ap (λ x. v ++ (hex_of (get_or t 2 0) * 16 + x) ∷ []) c.hex-then-text-ge4.ensures.value ∙ ap (λ x. v ++ x) (sym (escaped_byte c.args.round t e l))));
      bound = omega arith;
    }

pub returns-in_ok-push-in-110 : goal.returns-in_ok-push-in-110
returns-in_ok-push-in-110 c =
    let t = c.args.text.now in
    let e : get_or t 1 0 ≡ 110 = omega arith in
    record {
      size = sym (length_other t (letter_other t (λ h. omega arith)));
      added = c.in_ok-push-in-110.ensures.items ∙ ap (λ x. vec_items c.args.out.now ++ x) (sym (escaped_n c.args.round t e));
      bound = omega arith;
    }

pub returns-in_ok-push-in-116 : goal.returns-in_ok-push-in-116
returns-in_ok-push-in-116 c =
    let t = c.args.text.now in
    let e : get_or t 1 0 ≡ 116 = omega arith in
    record {
      size = sym (length_other t (letter_other t (λ h. omega arith)));
      added = c.in_ok-push-in-116.ensures.items ∙ ap (λ x. vec_items c.args.out.now ++ x) (sym (escaped_t c.args.round t e));
      bound = omega arith;
    }

pub returns-in_ok-push-in-114 : goal.returns-in_ok-push-in-114
returns-in_ok-push-in-114 c =
    let t = c.args.text.now in
    let e : get_or t 1 0 ≡ 114 = omega arith in
    record {
      size = sym (length_other t (letter_other t (λ h. omega arith)));
      added = c.in_ok-push-in-114.ensures.items ∙ ap (λ x. vec_items c.args.out.now ++ x) (sym (escaped_r c.args.round t e));
      bound = omega arith;
    }

pub returns-in_ok-push-in-92 : goal.returns-in_ok-push-in-92
returns-in_ok-push-in-92 c =
    let t = c.args.text.now in
    let e : get_or t 1 0 ≡ 92 = omega arith in
    record {
      size = sym (length_other t (letter_other t (λ h. omega arith)));
      added = c.in_ok-push-in-92.ensures.items ∙ ap (λ x. vec_items c.args.out.now ++ x) (sym (escaped_backslash c.args.round t e));
      bound = omega arith;
    }

pub returns-in_ok-number-in-35 : goal.returns-in_ok-number-in-35
returns-in_ok-number-in-35 c =
    let t = c.args.text.now in
    let e : get_or t 1 0 ≡ 35 = omega arith in
    record {
      size = sym (length_other t (letter_other t (λ h. omega arith)));
      added = c.in_ok-number-in-35.ensures ∙ ap (λ x. vec_items c.args.out.now ++ x) (sym (escaped_number c.args.round t e));
      bound = omega arith;
    }

pub returns-in_default : goal.returns-in_default
returns-in_default c =
    let t = c.args.text.now in
    let o : is_byte t ≡ false = elim c.else-letter-eq120.branch [
      | else-letter-eq120-via-then-letter-eq120+else-text-ge4 w ↦ short_other t w.if-text-ge4.false
      | else-letter-eq120-via-else-letter-eq120 w ↦ letter_other t w.if-letter-eq120.false
    ] in
    record {
      size = sym (length_other t o);
      added = added_none _ _ (escaped_none c.args.round t (λ h. omega arith) (λ h. omega arith) (λ h. omega arith) (λ h. omega arith) (λ h. omega arith) o);
      bound = omega arith;
    }
