use Rattle.std.proofs.Common.{length}
use Rattle.texts_limits.proofs.escapes.unescaped.Given as goal

abbrev pub decreases-loop-b : goal.decreases-loop-b
decreases-loop-b l = length l.rest
