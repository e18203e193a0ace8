use Rattle.std.proofs.Common.{T, arith, rules, subst, ap, length}
use Rattle.terms.specs.Systems.{rules_of, signature_of, listed_rules}
use Rattle.rewriting.proofs.Stepwise.{numbered_below}
use Rattle.rewriting.proofs.Systems.{length_rules}
use Rattle.resuming.specs.Shapes.{shallow}
use Rattle.resuming.proofs.Symbols.{all_shallow}
use Rattle.resuming.proofs.Passing.{seen_more}
use Rattle.resuming.proofs.seeing.levels_of.Goals as goal

pub loop-rule-preserved : goal.loop-rule-preserved
loop-rule-preserved c =
    let some = c.loop-rule.invariant.some in
    let up = c.larger-most.ensures.first in
    let enough = c.larger-most.ensures.second in
    record {
      some = omega arith;
      seen = seen_more c.args.system.now c.loop-rule.rule-index c.loop-rule.most c.larger-most.result c.rule-item.result (search rules) (search rules) (search rules) up (search rules) c.loop-rule.invariant.seen;
    }

pub returns : goal.returns
returns c =
    let y = c.args.system.now in
    let many = length_rules (signature_of y) (listed_rules y) in
    let some = c.loop-rule.invariant.some in
    let listed = ap length c.rules-rule-items.ensures in
    subst (λ d. T (shallow d (rules_of y))) (omega arith)
    (all_shallow c.loop-rule.most (rules_of y) (λ n r k. c.loop-rule.invariant.seen n r (let l = numbered_below (rules_of y) n r k in omega arith) k))
