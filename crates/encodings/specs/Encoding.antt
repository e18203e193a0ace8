-- How parts are written as a certificate.
use Rattle.std.specs.Prelude.{ℕ, ◌/◌, ◌%◌, List, [], ◌∷◌, ◌++◌, length, flat_map}
use Rattle.parts.specs.declared.linear.LinearSymbol.{LinearSymbol}
use Rattle.parts.specs.declared.matrix.Matrix.{Matrix}
use Rattle.parts.specs.declared.matrix.MatrixSymbol.{MatrixSymbol}
use Rattle.encodings.specs.Numbers.{Numbers, Numbers.linear, Numbers.matrix}

-- 16 bits, the low byte first
abbrev pub word : ℕ → List ℕ
word n = n % 256 ∷ (n / 256 ∷ [])

-- a record: its body's length, its kind, its body
abbrev pub record_bytes : ℕ → List ℕ → List ℕ
record_bytes kind body = word (length body) ++ (word kind ++ body)

-- a symbol's constant, then its factors
abbrev pub linear_bytes : LinearSymbol → List ℕ
linear_bytes s = s.constant ∷ s.factors

-- a matrix row by row
abbrev pub matrix_bytes : Matrix → List ℕ
matrix_bytes m = flat_map (λ row. row) m.rows

-- a symbol's vector, then its matrices
abbrev pub symbol_bytes : MatrixSymbol → List ℕ
symbol_bytes s = s.constant ++ flat_map matrix_bytes s.matrices

-- a part's values, behind its dimension if it has one
abbrev pub body_bytes : Numbers → List ℕ
body_bytes (linear symbols) = flat_map linear_bytes symbols
body_bytes (matrix d symbols) = d ∷ flat_map symbol_bytes symbols

-- the kinds of parts
abbrev pub kind_of : Numbers → ℕ
kind_of (linear symbols) = 16
kind_of (matrix d symbols) = 17

-- a part is one record
abbrev pub part_bytes : Numbers → List ℕ
part_bytes p = record_bytes (kind_of p) (body_bytes p)

-- how many parts there are, and how many symbols
abbrev pub header_bytes : List ℕ → List Numbers → List ℕ
header_bytes sig parts = record_bytes 1 (length parts ∷ (length sig ∷ []))

-- a header, then the parts
abbrev pub encoded : List ℕ → List Numbers → List ℕ
encoded sig parts = header_bytes sig parts ++ flat_map part_bytes parts
