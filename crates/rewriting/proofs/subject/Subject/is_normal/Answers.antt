use Rattle.rewriting.specs.Subjects.{rules_in, term_in}
use Rattle.rewriting.proofs.Subjects.{normal_law}
use Rattle.rewriting.proofs.subject.Subject.is_normal.Goals as goal

pub returns : goal.returns
returns c = normal_law (rules_in c.args.self.now) (term_in c.args.self.now) c.first_redex.result c.is_none.result c.first_redex.ensures.means c.is_none.ensures
