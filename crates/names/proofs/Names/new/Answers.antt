use Rattle.std.proofs.Common.{vec_items, ap, ◌∙◌, arith}
use Rattle.names.specs.Spans.{words_in, bytes_of}
use Rattle.names.proofs.Tables.{words_none}
use Rattle.names.proofs.Names.new.Goals as goal

pub invariant_of-result : goal.invariant_of-result
invariant_of-result c =
    let none = ap (λ ss. bytes_of (words_in (vec_items c.in_ok-bytes.bytes) ss)) c.in_ok-spans.ensures.items ∙ ap bytes_of (words_none (vec_items c.in_ok-bytes.bytes)) in
    record {
      space = (c.in_ok-spans.ensures.capacity, c.in_ok-bytes.ensures.capacity);
      few = omega (arith, c.in_ok-spans.ensures.len);
      small = omega (arith, c.in_ok-bytes.ensures.len);
      filled = omega (arith, none, c.in_ok-bytes.ensures.len);
      inside = λ k d h. absurd (omega (arith, h, c.in_ok-spans.ensures.len));
    }

pub returns : goal.returns
returns c = ap (words_in _) c.in_ok-spans.ensures.items ∙ words_none _
