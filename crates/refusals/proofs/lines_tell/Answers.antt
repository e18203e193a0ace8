use Rattle.refusals.proofs.Telling.{lines_tell}
use Rattle.refusals.proofs.lines_tell.Goals as goal

pub returns : goal.returns
returns c = lines_tell
