use Rattle.std.proofs.Common.{◌≡◌, rules}
use Rattle.algebras.specs.Layers.{sum_means}
use Rattle.algebras.specs.Lawfuls.{sum_lawful}
use Rattle.algebras.specs.Replies.{ceiling_reply}
use Rattle.algebras.proofs.Telling.{ceiling_law}
use Rattle.algebras.proofs.sum.SumAlgebra.ceiling.Goals as goal

pub returns-clause-exactly : goal.returns-clause-exactly
returns-clause-exactly g c =
    let s = c.args.self.now in
    let value : c.add_ceilings.result ≡ ceiling_reply (sum_means (g.A.Algebra.means s.first) (g.B.Algebra.means s.second)) c.args.size = search rules in
    ceiling_law _ (sum_lawful _ _ (g.met.A.Algebra.lawful s.first) (g.met.B.Algebra.lawful s.second)) _ _ value
