use Rattle.std.proofs.Common.{arith, rules, ap, length}
use Rattle.rewriting.specs.Subjects.{rules_in, term_in}
use Rattle.rewriting.proofs.Systems.{length_rules}
use Rattle.terms.specs.Systems.{signature_of, listed_rules}
use Rattle.resuming.proofs.Passing.{rule_further, no_rule}
use Rattle.resuming.proofs.search.Search.lowest_rule.Goals as goal

pub loop-rule-preserved : goal.loop-rule-preserved
loop-rule-preserved c =
    let s = c.args.self.now.subject in
    record { below = rule_further (rules_in s) (term_in s) c.args.place c.loop-rule.rule c.loop-rule.invariant.below (search rules) }

pub returns : goal.returns
returns c =
    let s = c.args.self.now.subject in
    let many = length_rules (signature_of s.system) (listed_rules s.system) in
    let listed = ap length c.rules-rule-end.ensures in
    let held = ap (λ y. length (listed_rules y)) c.system.ensures in
    no_rule (rules_in s) (term_in s) c.args.place c.loop-rule.rule (omega arith) c.loop-rule.invariant.below
