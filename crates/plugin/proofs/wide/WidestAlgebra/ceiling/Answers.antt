use Rattle.std.proofs.Common.{rules}
use Rattle.algebras.proofs.Telling.{ceiling_law}
use Rattle.plugin.specs.Wide.{wide_means, wide_lawful}
use Rattle.plugin.proofs.wide.WidestAlgebra.ceiling.Goals as goal

pub returns-clause-exactly : goal.returns-clause-exactly
returns-clause-exactly c = ceiling_law wide_means wide_lawful c.args.size _ (search rules)
