use Rattle.std.proofs.Common.{rules}
use Rattle.resuming.proofs.Passing.{after_refusal, after_step, still_seen}
use Rattle.resuming.proofs.search.Search.rewrite.Goals as goal

pub invariant_of-self : goal.invariant_of-self
invariant_of-self c =
    let s = c.args.self.now.subject in
    let u = c.rewrite.new.self in
    record {
      passed = after_refusal s u c.rewrite.ensures.same c.args.rule c.args.place c.args.self.now.from c.rewrite.result (search rules) c.rewrite.ensures.means.told c.args.self.now.passed;
      known = still_seen s u c.rewrite.ensures.same c.args.self.now.levels c.args.self.now.known;
    }

pub invariant_of-self-2 : goal.invariant_of-self-2
invariant_of-self-2 c =
    let s = c.args.self.now.subject in
    let u = c.rewrite.new.self in
    record {
      passed = after_step s u c.rewrite.ensures.same c.args.rule c.args.place c.resumed-from.result c.rewrite.result (search rules) c.rewrite.ensures.means.told c.resumed-from.ensures;
      known = still_seen s u c.rewrite.ensures.same c.args.self.now.levels c.args.self.now.known;
    }
