-- Numbers as they are kept: in tables of fixed size, in front of zeros.
use Rattle.std.specs.Prelude.{ℕ, List, ◌++◌, map, length, drop, replicate}
use Rattle.parts.specs.declared.linear.LinearSymbol.{LinearSymbol}
use Rattle.parts.specs.declared.matrix.Matrix.{Matrix}
use Rattle.parts.specs.declared.matrix.MatrixSymbol.{MatrixSymbol}

-- values in the first places of a table
abbrev pub placed : {X : Type 0} → List X → List X → List X
placed table xs = xs ++ drop (length xs) table

-- at most four numbers
abbrev pub in_four : List ℕ → List ℕ
in_four xs = placed (replicate 4 0) xs

-- a symbol of a linear part
abbrev pub linear_table : LinearSymbol → LinearSymbol
linear_table s = record { constant = s.constant; factors = in_four s.factors }

-- the rows of a matrix
abbrev pub rows_table : List (List ℕ) → List (List ℕ)
rows_table rows = placed (replicate 4 (replicate 4 0)) (map in_four rows)

-- a matrix
abbrev pub matrix_table : Matrix → Matrix
matrix_table m = record { rows = rows_table m.rows }

-- a matrix for each argument
abbrev pub matrices_table : List Matrix → List Matrix
matrices_table ms = placed (replicate 4 record { rows = replicate 4 (replicate 4 0) }) (map matrix_table ms)

-- a symbol of a matrix part
abbrev pub symbol_table : MatrixSymbol → MatrixSymbol
symbol_table s = record { constant = in_four s.constant; matrices = matrices_table s.matrices }

-- symbols of zeros
unfoldable pub no_linear : List LinearSymbol
no_linear = replicate 32 record { constant = 0; factors = replicate 4 0 }

-- the symbols of a linear part, and of a matrix part
abbrev pub linear_tables : List LinearSymbol → List LinearSymbol
linear_tables ss = placed no_linear (map linear_table ss)

unfoldable pub no_symbols : List MatrixSymbol
no_symbols = replicate 32 record { constant = replicate 4 0; matrices = replicate 4 record { rows = replicate 4 (replicate 4 0) } }

abbrev pub symbol_tables : List MatrixSymbol → List MatrixSymbol
symbol_tables ss = placed no_symbols (map symbol_table ss)
