use Rattle.std.proofs.Common.{Some, None, rules}
use Rattle.rewriting.specs.Subjects.{rules_in, term_in}
use Rattle.resuming.proofs.Passing.{one_further, all_passed, first_at, is_first}
use Rattle.resuming.proofs.search.Search.first_redex.Goals as goal

pub loop-place-preserved : goal.loop-place-preserved
loop-place-preserved c =
    let s = c.args.self.now.subject in
    record { passed = one_further (rules_in s) (term_in s) c.loop-place.place c.loop-place.invariant.passed (search rules) }

pub returns-in-Some-clause-means : goal.returns-in-Some-clause-means
returns-in-Some-clause-means c = first_at c.args.self.now.subject c.loop-place.place c.in-Some.rule c.loop-place.invariant.passed (search rules)

pub returns-in-Some-clause-value : goal.returns-in-Some-clause-value
returns-in-Some-clause-value c =
    is_first c.args.self.now.subject (Some (c.loop-place.place, c.in-Some.rule)) (first_at c.args.self.now.subject c.loop-place.place c.in-Some.rule c.loop-place.invariant.passed (search rules))

pub returns-clause-means : goal.returns-clause-means
returns-clause-means c = all_passed c.args.self.now.subject c.loop-place.place (search rules) c.loop-place.invariant.passed

pub returns-clause-value : goal.returns-clause-value
returns-clause-value c = is_first c.args.self.now.subject None (all_passed c.args.self.now.subject c.loop-place.place (search rules) c.loop-place.invariant.passed)
