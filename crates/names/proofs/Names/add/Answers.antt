use Rattle.std.proofs.Common.{◌≤◌, [], ◌∷◌, vec_items, vec_len, arith, rules}
use Rattle.lexis.specs.declared.token.Span.{Span}
use Rattle.names.proofs.Laws.{each_joined, each_one}
use Rattle.names.proofs.Tables.{name_added, name_bytes}
use Rattle.names.proofs.Names.add.Goals as goal

pub invariant_of-self : goal.invariant_of-self
invariant_of-self c =
    let s = c.args.self.now in
    let bytes = c.extend_from_slice.new.self in
    let spans = c.push_reserved.new.self in
    let name = c.args.name.now in
    let lb = s.bytes.ok.0 in
    let ls = s.spans.ok.0 in
    let names = name_added (vec_items s.bytes) (vec_items bytes) name (vec_items s.spans) (vec_items spans) c.len-start.result c.len.result c.in-Ok.ensures.items c.push_reserved.ensures.items
    (omega arith) (omega (arith, c.in-Ok.ensures.len)) (λ k d h. omega (arith, s.inside k d (omega arith))) in
    let filled = name_bytes (vec_items s.bytes) (vec_items bytes) name (vec_items s.spans) (vec_items spans) names in
    let inside = each_joined (λ (x : Span). x.end ≤ vec_len bytes) (vec_items s.spans) (_ ∷ []) (vec_items spans) (vec_len s.spans) (vec_len spans)
    c.push_reserved.ensures.items s.spans.ok.0 spans.ok.0
    (λ k d h. omega (arith, s.inside k d h, c.in-Ok.ensures.len))
    (each_one (λ (x : Span). x.end ≤ vec_len bytes) _ (omega arith)) in
    record {
      space = (search rules, search rules);
      few = search rules;
      small = search rules;
      filled = omega (arith, filled, s.filled, c.in-Ok.ensures.len);
      inside = inside;
    }

pub returns : goal.returns
returns c =
    let s = c.args.self.now in
    let lb = s.bytes.ok.0 in
    let ls = s.spans.ok.0 in
    record {
      names =
          name_added (vec_items s.bytes) (vec_items c.extend_from_slice.new.self) c.args.name.now (vec_items s.spans) (vec_items c.push_reserved.new.self) c.len-start.result c.len.result
          c.in-Ok.ensures.items c.push_reserved.ensures.items (omega arith) (omega (arith, c.in-Ok.ensures.len)) (λ k d h. omega (arith, s.inside k d (omega arith)));
      spans = search rules;
      bytes = search rules;
    }
