use Rattle.std.proofs.Common.{◌∙◌, rules}
use Rattle.std.specs.Str.{bytes_eq}
use Rattle.std.proofs.lemmas.Iterator.{YieldsList-from_slice}
use Rattle.std.proofs.lemmas.Iterator.Search.{position_from_yields_List}
use Rattle.names.specs.Spans.{word_at}
use Rattle.names.proofs.Finding.{found_at_span}
use Rattle.names.proofs.words.place_in.Goals as goal

pub returns-clause-value : goal.returns-clause-value
returns-clause-value c =
    position_from_yields_List (λ s. bytes_eq (word_at c.args.bytes.now s) c.args.sought.now) _ _ c.position.result c.position.ensures.ran (YieldsList-from_slice c.args.spans.now (search rules)) (λ x b q k. search rules)
    ∙ found_at_span c.args.sought.now c.args.bytes.now c.args.spans.now
