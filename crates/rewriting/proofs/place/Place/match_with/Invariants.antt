use Rattle.rewriting.specs.Bindings.{bound_to}
use Rattle.rewriting.specs.Places.{arities_at}
use Rattle.rewriting.proofs.Meets.{Going}
use Rattle.rewriting.proofs.place.Place.match_with.Given as goal

abbrev pub invariant-loop-code : goal.invariant-loop-code
invariant-loop-code l = Going (arities_at l.self) l.pattern l.self.codes.now l.self.at l.code-index l.rest (bound_to l.bindings)
