use Rattle.std.proofs.Common.{◌≡◌, length, take}
use Rattle.forms.specs.Columns.{column}
use Rattle.forms.proofs.readers.gather.Given as goal

abbrev pub invariant-loop-at : goal.invariant-loop-at
invariant-loop-at g l = (length l.column ≡ 4) × (take l.at l.column ≡ column l.fn.zero l.k (take l.at l.args))
