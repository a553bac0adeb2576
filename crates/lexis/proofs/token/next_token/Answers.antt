use Rattle.lexis.proofs.Scans.{is_longest, is_only, longest_placed}
use Rattle.lexis.proofs.token.next_token.Goals as goal

pub returns : goal.returns
returns c =
    let l = is_longest c.args.text.now c.args.at c.scan.result c.scan.ensures.value in
    record {
      value = c.scan.ensures.value;
      bounds = longest_placed c.args.text.now c.args.at c.scan.result l;
      longest = l;
      only = is_only c.args.text.now c.args.at c.scan.result c.scan.ensures.value;
    }
