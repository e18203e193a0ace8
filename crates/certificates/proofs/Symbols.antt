-- The symbols of a part, as far as they are read.
use Rattle.std.proofs.Common.{◌≡◌, ℕ, List, length, replicate, refl}
use Rattle.parts.specs.declared.linear.LinearSymbol.{LinearSymbol}
use Rattle.parts.specs.declared.matrix.MatrixSymbol.{MatrixSymbol}
use Rattle.encodings.specs.Bodies.{Body, linear_symbol, matrix_symbol}
use Rattle.certificates.specs.Tables.{linear_table, symbol_table, no_linear, no_symbols}
use Rattle.certificates.proofs.Filling.{Filled, starts}

abbrev pub LinearSymbols : List ℕ → Body → Body → ℕ → List LinearSymbol → Type 0
LinearSymbols sig b = Filled linear_symbol linear_table sig no_linear b

pub linear_starts : (sig : List ℕ) (b : Body) → LinearSymbols sig b b 0 (replicate 32 record { constant = 0; factors = replicate 4 0 })
unfolding no_linear
linear_starts sig b = starts linear_symbol linear_table sig no_linear b

pub linear_long : length no_linear ≡ 32
unfolding no_linear
linear_long = refl

abbrev pub MatrixSymbols : ℕ → List ℕ → Body → Body → ℕ → List MatrixSymbol → Type 0
MatrixSymbols d sig b = Filled (matrix_symbol d) symbol_table sig no_symbols b

pub matrix_starts : (d : ℕ) (sig : List ℕ) (b : Body) → MatrixSymbols d sig b b 0 (replicate 32 record { constant = replicate 4 0; matrices = replicate 4 record { rows = replicate 4 (replicate 4 0) } })
unfolding no_symbols
matrix_starts d sig b = starts (matrix_symbol d) symbol_table sig no_symbols b

pub matrix_long : length no_symbols ≡ 32
unfolding no_symbols
matrix_long = refl
