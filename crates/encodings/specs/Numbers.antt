-- The numbers that a part is written by, and when they are numbers for a signature.
use Rattle.std.specs.Prelude.{◌≡◌, ℕ, ◌≤◌, List, length, All, slice_index, slice_index_or, []}
use Rattle.std.specs.List.{AllZip}
use Rattle.parts.specs.declared.linear.LinearSymbol.{LinearSymbol}
use Rattle.parts.specs.declared.matrix.Matrix.{Matrix}
use Rattle.parts.specs.declared.matrix.MatrixSymbol.{MatrixSymbol}

-- of each symbol a constant and factors, or with a dimension a vector and matrices
pub data Numbers : Type 0 where
  linear : List LinearSymbol → Numbers
  matrix : ℕ → List MatrixSymbol → Numbers

-- what a byte holds
abbrev pub IsByte : ℕ → Type 0
IsByte n = n ≤ 255

-- a factor for each argument, none of them 0
abbrev pub IsLinearSymbol : ℕ → LinearSymbol → Type 0
IsLinearSymbol arity s = IsByte s.constant × (length s.factors ≡ arity) × All (λ f. (1 ≤ f) × IsByte f) s.factors

-- an entry for each dimension
abbrev pub IsVector : ℕ → List ℕ → Type 0
IsVector d v = (length v ≡ d) × All IsByte v

-- the first entry of the first row
abbrev pub top_left : Matrix → ℕ
top_left m = slice_index (slice_index_or m.rows 0 []) 0

-- as many rows as columns, and the top left entry is not 0
abbrev pub IsMatrix : ℕ → Matrix → Type 0
IsMatrix d m = (length m.rows ≡ d) × All (IsVector d) m.rows × (1 ≤ top_left m)

-- a matrix for each argument
abbrev pub IsMatrixSymbol : ℕ → ℕ → MatrixSymbol → Type 0
IsMatrixSymbol d arity s = IsVector d s.constant × (length s.matrices ≡ arity) × All (IsMatrix d) s.matrices

-- numbers for the symbols of a signature
abbrev pub Formed : List ℕ → Numbers → Type 0
Formed sig (linear symbols) = AllZip IsLinearSymbol sig symbols
Formed sig (matrix d symbols) = (1 ≤ d) × (d ≤ 4) × AllZip (IsMatrixSymbol d) sig symbols
