use Rattle.std.proofs.Common.{◌≡◌, rules}
use Rattle.terms.specs.Models.{arities_of}
use Rattle.algebras.specs.Layers.{sum_means}
use Rattle.algebras.specs.Lawfuls.{sum_lawful}
use Rattle.algebras.specs.Replies.{compared}
use Rattle.algebras.proofs.Sums.{compared-sum}
use Rattle.algebras.proofs.Telling.{compared_law}
use Rattle.algebras.proofs.sum.SumAlgebra.compare.Goals as goal

pub returns : goal.returns
returns g c =
    let A = g.A.Algebra.means c.args.self.now.first in
    let B = g.B.Algebra.means c.args.self.now.second in
    let a = g.met.A.Algebra.lawful c.args.self.now.first in
    let b = g.met.B.Algebra.lawful c.args.self.now.second in
    let s = c.args.signature.now in
    let sum = compared-sum A B a b s c.args.left.now c.args.right.now in
    let value : c.join_orders.result ≡ compared (sum_means A B) (arities_of s) c.args.left.now c.args.right.now = search rules in
    record { value = value; exactly = compared_law (sum_means A B) (sum_lawful A B a b) s _ _ _ value }
