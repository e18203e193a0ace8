-- What the parts are called.
use Rattle.std.specs.Prelude.{ℕ, List, codes}
use Rattle.worked_parts.specs.declared.worked_part.WorkedPart.{WorkedPart}
use Rattle.worked_parts.specs.declared.worked_part.WorkedPart.TheVariants.{First, Second, Powers}

abbrev pub part_word : WorkedPart → List ℕ
part_word First = codes "part 0"
part_word Second = codes "part 1"
part_word Powers = codes "powers"
