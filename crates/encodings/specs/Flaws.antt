-- The numbers of flaws.
use Rattle.std.specs.Prelude.{ℕ}
use Rattle.encodings.specs.declared.flaw.RecordFlaw.{RecordFlaw}
use Rattle.encodings.specs.declared.flaw.RecordFlaw.TheVariants.{CutShort, WrongKind, WrongLength, OutOfRange, WrongSymbols, LeftOver}

-- each flaw's number
abbrev pub flaw_number : RecordFlaw → ℕ
flaw_number CutShort = 11
flaw_number WrongKind = 12
flaw_number WrongLength = 13
flaw_number OutOfRange = 14
flaw_number WrongSymbols = 15
flaw_number LeftOver = 16
