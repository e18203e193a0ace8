use Rattle.algebras.proofs.Telling.{compared_law}
use Rattle.plugin.specs.Lawful.{uncapped_lawful}
use Rattle.plugin.proofs.uncapped.UncappedAlgebra.compare.Goals as goal

pub returns-clause-exactly : goal.returns-clause-exactly
returns-clause-exactly g c = compared_law _ (uncapped_lawful _ (g.met.A.Algebra.lawful c.args.self.now.below)) c.args.signature.now _ _ _ c.compare.ensures.value
