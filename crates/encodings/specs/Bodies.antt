-- How a record's body is read, value by value.
use Rattle.std.specs.Prelude.{ℕ, zero, suc, ◌+◌, ◌*◌, ◌≤◌, All, cond, ◌&&◌, List, [], ◌∷◌, length, Ok, Err, Result, sum_by, ◌==◌, nat_le}
use Rattle.parts.specs.declared.linear.LinearSymbol.{LinearSymbol}
use Rattle.parts.specs.declared.matrix.Matrix.{Matrix}
use Rattle.parts.specs.declared.matrix.MatrixSymbol.{MatrixSymbol}
use Rattle.encodings.specs.declared.flaw.RecordFlaw.{RecordFlaw}
use Rattle.encodings.specs.declared.flaw.RecordFlaw.TheVariants.{WrongLength, OutOfRange, WrongSymbols}
use Rattle.encodings.specs.declared.fault.CertificateFault.{CertificateFault}
use Rattle.encodings.specs.Numbers.{Numbers, Numbers.linear, Numbers.matrix, IsByte}
use Rattle.encodings.specs.Frames.{Frame}

-- a body as far as it is read: where its record starts, the offset of the next byte, and the bytes that are left
pub record Body : Type 0 where
  pub start : ℕ
  pub at : ℕ
  pub left : List ℕ

-- the record starts before its body, and what is left are bytes
pub record Proper (b : Body) : Type 0 where
  pub behind : b.start ≤ b.at
  pub bytes : All IsByte b.left

-- a value and what is left behind it, or a fault
abbrev pub Reply : Type 0 → Type 0
Reply X = Result (X × Body) CertificateFault

-- what follows a value; a fault stays
abbrev pub then : {X Y : Type 0} → Result X CertificateFault → (X → Result Y CertificateFault) → Result Y CertificateFault
then (Ok x) f = f x
then (Err e) f = Err e

-- a fault at an offset
abbrev pub flawed : {X : Type 0} → RecordFlaw → ℕ → Result X CertificateFault
flawed flaw offset = Err record { flaw = flaw; offset = offset }

-- one byte; where there is none the body is too short
abbrev pub byte_of : ℕ → ℕ → List ℕ → Reply ℕ
byte_of start at [] = flawed WrongLength start
byte_of start at (b ∷ bs) = Ok (b, record { start = start; at = at + 1; left = bs })

-- the next byte of a body
abbrev pub byte : Body → Reply ℕ
byte b = byte_of b.start b.at b.left

-- a byte from a range
abbrev pub ranged : ℕ → ℕ → Body → Reply ℕ
ranged low high b = then (byte b) (λ r. cond (nat_le low r.0 && nat_le r.0 high) (Ok r) (flawed OutOfRange b.at))

-- a byte that is not 0
abbrev pub positive : Body → Reply ℕ
positive b = ranged 1 255 b

-- another value in the place of a value
abbrev pub mapped : {X Y : Type 0} → (X → Y) → Reply X → Reply Y
mapped f r = then r (λ x. Ok (f x.0, x.1))

-- a value and another behind it, put together
abbrev pub both : {X Y Z : Type 0} → (X → Y → Z) → Reply X → (Body → Reply Y) → Reply Z
both f r next = then r (λ x. mapped (f x.0) (next x.1))

-- one value for each item of a list
unfoldable pub each : {A X : Type 0} → (A → Body → Reply X) → List A → Body → Reply (List X)
each read [] b = Ok ([], b)
each read (item ∷ items) b = both (λ x xs. x ∷ xs) (read item b) (each read items)

-- as many values
unfoldable pub times : {X : Type 0} → (Body → Reply X) → ℕ → Body → Reply (List X)
times read zero b = Ok ([], b)
times read (suc n) b = both (λ x xs. x ∷ xs) (read b) (times read n)

-- a constant and a factor for each argument
abbrev pub linear_symbol : ℕ → Body → Reply LinearSymbol
linear_symbol arity b = both (λ c fs. record { constant = c; factors = fs }) (byte b) (times positive arity)

-- one row, or a vector
abbrev pub row : ℕ → Body → Reply (List ℕ)
row d b = times byte d b

-- a matrix row by row; that its top left entry is not 0 is judged first
abbrev pub square : ℕ → Body → Reply Matrix
square d b = then (positive b) (λ first. then (times (row d) d b) (λ rows. Ok (record { rows = rows.0 }, rows.1)))

-- a vector and a matrix for each argument
abbrev pub matrix_symbol : ℕ → ℕ → Body → Reply MatrixSymbol
matrix_symbol d arity b = both (λ c ms. record { constant = c; matrices = ms }) (row d b) (times (square d) arity)

-- how many bytes the values of all symbols take in a linear part
abbrev pub linear_size : List ℕ → ℕ
linear_size sig = sum_by (λ arity. 1 + arity) sig

-- the same of a matrix part, behind its dimension
abbrev pub matrix_size : ℕ → List ℕ → ℕ
matrix_size d sig = sum_by (λ arity. d + arity * (d * d)) sig

-- as many bytes have to be left
abbrev pub sized : ℕ → Body → Result Body CertificateFault
sized n b = cond (length b.left == n) (Ok b) (flawed WrongLength b.start)

-- a header's number of parts, behind which stands the signature's number of symbols
abbrev pub header_reply : List ℕ → Body → Result ℕ CertificateFault
header_reply sig body =
    then (sized 2 body) (λ b. then (ranged 1 4 b) (λ parts. then (byte parts.1) (λ symbols. cond (symbols.0 == length sig) (Ok parts.0) (flawed WrongSymbols parts.1.at))))

-- a linear part, whose length is judged first
abbrev pub linear_reply : List ℕ → Body → Result Numbers CertificateFault
linear_reply sig body = then (sized (linear_size sig) body) (λ b. then (each linear_symbol sig b) (λ symbols. Ok (linear symbols.0)))

-- a matrix part, whose dimension is judged before its full length
abbrev pub matrix_reply : List ℕ → Body → Result Numbers CertificateFault
matrix_reply sig body =
    then (ranged 1 4 body) (λ d. then (sized (matrix_size d.0 sig) d.1) (λ b. then (each (matrix_symbol d.0) sig b) (λ symbols. Ok (matrix d.0 symbols.0))))

-- the body of a record
abbrev pub frame_body : Frame → Body
frame_body f = record { start = f.at; at = f.at + 4; left = f.body }
