use Rattle.std.proofs.Common.{rules}
use Rattle.terms.specs.Models.{arities_of}
use Rattle.pools.specs.Views.{state_of}
use Rattle.hosting.proofs.Refusing.{pool_refused}
use Rattle.hosting.proofs.host.Goals as goal

pub returns-in_err-grant-clause-means : goal.returns-in_err-grant-clause-means
returns-in_err-grant-clause-means g c =
    pool_refused (g.A.Algebra.means c.args.pile.now) (state_of c.args.pool.now) (state_of c.reserve.new.self) c.args.system c.args.codes.now c.in_ok-height.height c.in_err-grant.field-0.0 c.from_residual-in_err-grant.result
    (search rules) (arities_of c.signature.result.now) (search rules) (search rules) (search rules)
