-- Parts as they are kept.
use Rattle.std.specs.Prelude.{ℕ, List, map, Some, None, Option}
use Rattle.terms.specs.Models.{arities_of}
use Rattle.piles.specs.declared.part.Part.{Part}
use Rattle.piles.specs.declared.part.Part.TheVariants.{Linear, Matrix, Missing}
use Rattle.encodings.specs.Numbers.{Numbers, Numbers.linear, Numbers.matrix}
use Rattle.certificates.specs.Tables.{linear_tables, symbol_tables}

-- a signature, and the numbers in tables
pub record Kept : Type 0 where
  pub arities : List ℕ
  pub numbers : Numbers

-- what a part keeps; a missing one keeps nothing
abbrev pub kept_part : Part → Option Kept
kept_part (Linear p) = Some record { arities = arities_of p.signature; numbers = linear p.symbols }
kept_part (Matrix p) = Some record { arities = arities_of p.signature; numbers = matrix p.dimension p.symbols }
kept_part (Missing e) = None

-- the numbers of a part, in tables
abbrev pub tables : Numbers → Numbers
tables (linear symbols) = linear (linear_tables symbols)
tables (matrix d symbols) = matrix d (symbol_tables symbols)

-- what is kept of numbers that were read
abbrev pub kept : List ℕ → Numbers → Option Kept
kept sig numbers = Some record { arities = sig; numbers = tables numbers }

-- what is kept of all parts
abbrev pub all_kept : List ℕ → List Numbers → List (Option Kept)
all_kept sig parts = map (kept sig) parts
