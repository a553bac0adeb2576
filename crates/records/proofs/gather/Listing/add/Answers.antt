use Rattle.std.proofs.Common.{◌≤◌, length, vec_items, rules, arith}
use Rattle.records.proofs.Gathering.{add_none, add_other, add_full, add_in}
use Rattle.records.proofs.gather.Listing.add.Goals as goal
use Rattle.records.proofs.gather.Listing.add.Goals.{in_default-via-in-None-1, in_default-via-in-Some+else-fact-self, in_default-via-in-Some+then-fact-self+else-len-lt-MOST}

pub returns-in_ok-push-clause-items : goal.returns-in_ok-push-clause-items
returns-in_ok-push-clause-items c =
    let l = c.args.self.now in
    let k = l.facts.ok.0 in
    rw c.in-Some.is (add_in (vec_items l.facts) (vec_items c.push.new.self) l.symbol c.in-Some.fact c.if-fact-self.true (omega arith) c.in_ok-push.ensures.items)

pub returns-in_default-clause-items : goal.returns-in_default-clause-items
returns-in_default-clause-items c =
    let l = c.args.self.now in
    let k = l.facts.ok.0 in
    let few : length (vec_items l.facts) ≤ 65535 = omega arith in
    elim c.in_default.branch [
      | in_default-via-in-None-1 w ↦ add_none (vec_items l.facts) l.symbol c.args.fact few (search rules)
      | in_default-via-in-Some+else-fact-self w ↦ rw w.in-Some.is (add_other (vec_items l.facts) l.symbol w.in-Some.fact few w.if-fact-self.false)
      | in_default-via-in-Some+then-fact-self+else-len-lt-MOST w ↦ add_full (vec_items l.facts) l.symbol c.args.fact few (omega arith)
    ]
