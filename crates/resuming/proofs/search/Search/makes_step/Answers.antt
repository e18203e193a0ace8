use Rattle.std.proofs.Common.{subst, rules}
use Rattle.rewriting.specs.Subjects.{rules_in, term_in}
use Rattle.resuming.specs.Laws.{MakesStep}
use Rattle.resuming.proofs.Passing.{makes_step}
use Rattle.resuming.proofs.search.Search.makes_step.Goals as goal

pub returns : goal.returns
returns c =
    let s = c.args.self.now.subject in
    subst (MakesStep (rules_in s) (term_in s) c.args.rule c.args.place) (search rules) (makes_step (rules_in s) (term_in s) c.args.rule c.args.place c.check_redex.result c.check_redex.ensures.means)
