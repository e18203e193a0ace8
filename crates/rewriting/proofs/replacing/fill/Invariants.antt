use Rattle.std.proofs.Common.{◌≡◌, ◌++◌, drop}
use Rattle.bounded.specs.Items.{items}
use Rattle.rewriting.specs.Bindings.{bound_to}
use Rattle.rewriting.specs.Filling.{filled}
use Rattle.rewriting.proofs.replacing.fill.Given as goal

abbrev pub invariant-loop-code : goal.invariant-loop-code
invariant-loop-code l = items l.initial.out ++ filled (bound_to l.bindings) l.right ≡ items l.out ++ filled (bound_to l.bindings) (drop l.code-index l.right)
