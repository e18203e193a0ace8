use Rattle.std.proofs.Common.{◌≡◌, drop}
use Rattle.terms.specs.Models.{arities_of, all_sides}
use Rattle.algebras.specs.Reviews.{rules_reply}
use Rattle.algebras.proofs.reviewing.review_rules.Given as goal

abbrev pub invariant-loop-number : goal.invariant-loop-number
invariant-loop-number g l =
    let A = g.A.Algebra.means l.algebra in
    let sig = arities_of l.signature in
    rules_reply A sig 0 (all_sides l.rules) ≡ rules_reply A sig l.number (all_sides (drop l.number l.rules))
