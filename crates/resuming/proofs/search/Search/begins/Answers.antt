use Rattle.std.proofs.Common.{ap, length, arith, rules}
use Rattle.terms.specs.Systems.{listed_rules}
use Rattle.resuming.proofs.Passing.{no_such_rule, no_such_place, begins_told}
use Rattle.resuming.proofs.search.Search.begins.Goals as goal
use Rattle.resuming.proofs.search.Search.begins.Goals.{then-rule-rules-via-then-rule-rules, then-rule-rules-via-else-rule-rules+then-place-codes}

pub returns-then-rule-rules : goal.returns-then-rule-rules
returns-then-rule-rules c =
    let s = c.args.self.now.subject in
    let held = ap (λ y. length (listed_rules y)) c.system.ensures in
    let rules = ap length c.rules-rules.ensures in
    let codes = ap length c.codes-codes.ensures in
    elim c.then-rule-rules.branch [
      | then-rule-rules-via-then-rule-rules w ↦ no_such_rule s c.args.rule c.args.place (let l = w.if-rule-rules in omega arith)
      | then-rule-rules-via-else-rule-rules+then-place-codes w ↦ no_such_place s c.args.rule c.args.place (let l = w.if-place-codes in omega arith)
    ]

pub returns-in-Some : goal.returns-in-Some
returns-in-Some c =
    let s = c.args.self.now.subject in
    begins_told s c.args.rule c.args.place c.index-rules-rule.result c.in-Some.first.now _ (search rules) (search rules) (search rules) (search rules)
