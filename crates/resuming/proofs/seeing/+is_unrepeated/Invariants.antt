use Rattle.std.proofs.Common.{length}
use Rattle.resuming.proofs.seeing.+is_unrepeated.Given as goal

abbrev pub decreases-is_unrepeated : goal.decreases-is_unrepeated
decreases-is_unrepeated l = length l.codes.now
