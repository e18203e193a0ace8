use Rattle.std.proofs.Common.{◌≡◌, rules}
use Rattle.terms.specs.Models.{arities_of}
use Rattle.algebras.specs.Layers.{sum_means}
use Rattle.algebras.specs.Lawfuls.{sum_lawful}
use Rattle.algebras.specs.Replies.{measured}
use Rattle.algebras.proofs.Telling.{measured_law}
use Rattle.algebras.proofs.sum.SumAlgebra.measure.Goals as goal

pub returns-clause-exactly : goal.returns-clause-exactly
returns-clause-exactly g c =
    let s = c.args.self.now in
    let value : c.add_heights.result ≡ measured (sum_means (g.A.Algebra.means s.first) (g.B.Algebra.means s.second)) (arities_of c.args.signature.now) c.args.codes.now = search rules in
    measured_law _ (sum_lawful _ _ (g.met.A.Algebra.lawful s.first) (g.met.B.Algebra.lawful s.second)) c.args.signature.now _ _ value
