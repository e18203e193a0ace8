-- Linear and matrix parts, from the numbers that they are given by.
use Rattle.std.specs.Prelude.{ℕ, Bool, List, [], length, nat_lt, slice_index, slice_index_or}
use Rattle.interpretations.specs.Numbers.{every}
use Rattle.interpretations.specs.Parts.{Part}
use Rattle.parts.specs.declared.linear.LinearSymbol.{LinearSymbol}
use Rattle.parts.specs.declared.matrix.MatrixSymbol.{MatrixSymbol}

-- a linear part has dimension 1: a constant for each symbol, and a factor for each argument
abbrev pub linear_symbol : List LinearSymbol → ℕ → LinearSymbol
linear_symbol symbols f = slice_index_or symbols f record { constant = 0; factors = [] }

abbrev pub linear_part : List ℕ → List LinearSymbol → Part
linear_part sig symbols = record {
  sig = sig;
  dim = 1;
  constant = λ f i. (linear_symbol symbols f).constant;
  entry = λ f k i j. slice_index (linear_symbol symbols f).factors k;
}

-- a matrix part: a constant vector for each symbol, and a matrix for each argument
abbrev pub matrix_symbol : List MatrixSymbol → ℕ → MatrixSymbol
matrix_symbol symbols f = slice_index_or symbols f record { constant = []; matrices = [] }

abbrev pub matrix_row : MatrixSymbol → ℕ → ℕ → List ℕ
matrix_row symbol k i = slice_index_or (slice_index_or symbol.matrices k record { rows = [] }).rows i []

abbrev pub matrix_part : List ℕ → ℕ → List MatrixSymbol → Part
matrix_part sig dimension symbols = record {
  sig = sig;
  dim = dimension;
  constant = λ f i. slice_index (matrix_symbol symbols f).constant i;
  entry = λ f k i j. slice_index (matrix_row (matrix_symbol symbols f) k i) j;
}

-- whether the top left entry of each matrix is positive
unfoldable pub positive : Part → Bool
positive P = every (length P.sig) (λ f. every (slice_index P.sig f) (λ k. nat_lt 0 (P.entry f k 0 0)))
