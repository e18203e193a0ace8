use Rattle.std.proofs.Common.{◌≡◌, rules}
use Rattle.terms.specs.Models.{all_sides}
use Rattle.terms.specs.Systems.{signature_of, listed_rules}
use Rattle.algebras.specs.Reviews.{review_reply}
use Rattle.algebras.proofs.Passing.{review_law}
use Rattle.algebras.proofs.reviewing.review.Goals as goal

pub returns-clause-exactly : goal.returns-clause-exactly
returns-clause-exactly g c =
    let s = c.args.system.now in
    let value : c.review_rules.result ≡ review_reply (g.A.Algebra.means c.args.algebra.now) (signature_of s) (all_sides (listed_rules s)) = search rules in
    review_law _ (g.met.A.Algebra.lawful c.args.algebra.now) s _ value
