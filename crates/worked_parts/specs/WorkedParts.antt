-- The parts of the worked cases, by the numbers of add, z and s.
use Rattle.std.specs.Prelude.{ℕ, List, [], ◌∷◌}
use Rattle.std.proofs.Math.ListN.{replicate}
use Rattle.algebras.specs.Meanings.{Meaning}
use Rattle.interpretations.specs.Parts.{Part}
use Rattle.interpretations.specs.Orders.{part_means, linear_ceiling, no_ceiling}
use Rattle.parts.specs.declared.linear.LinearSymbol.{LinearSymbol}
use Rattle.parts.specs.declared.matrix.Matrix.{Matrix}
use Rattle.parts.specs.declared.matrix.MatrixSymbol.{MatrixSymbol}
use Rattle.parts.specs.Kinds.{linear_part, matrix_part}
use Rattle.worked.specs.Cases.{addition}
use Rattle.worked_parts.specs.declared.worked_part.WorkedPart.{WorkedPart}
use Rattle.worked_parts.specs.declared.worked_part.WorkedPart.TheVariants.{First, Second, Powers}

-- a symbol of a linear part: its constant, and the factors of its two arguments
abbrev pub number : ℕ → ℕ → ℕ → LinearSymbol
number c x y = record { constant = c; factors = x ∷ y ∷ 0 ∷ 0 ∷ [] }

-- the numbers of add, z and s; there are no other symbols
abbrev pub numbers : LinearSymbol → LinearSymbol → LinearSymbol → List LinearSymbol
numbers add z s = add ∷ z ∷ s ∷ replicate 29 (number 0 0 0)

abbrev pub zeros : List ℕ
zeros = 0 ∷ 0 ∷ 0 ∷ 0 ∷ []

-- a matrix of dimension 2, row by row
abbrev pub square : ℕ → ℕ → ℕ → ℕ → Matrix
square a b c d = record { rows = (a ∷ b ∷ 0 ∷ 0 ∷ []) ∷ (c ∷ d ∷ 0 ∷ 0 ∷ []) ∷ zeros ∷ zeros ∷ [] }

-- a symbol of a matrix part: its constant vector, and the matrices of its two arguments
abbrev pub vector : ℕ → ℕ → Matrix → Matrix → MatrixSymbol
vector a b x y = record { constant = a ∷ b ∷ 0 ∷ 0 ∷ []; matrices = x ∷ y ∷ square 0 0 0 0 ∷ square 0 0 0 0 ∷ [] }

abbrev pub vectors : MatrixSymbol → MatrixSymbol → MatrixSymbol → List MatrixSymbol
vectors add z s = add ∷ z ∷ s ∷ replicate 29 (vector 0 0 (square 0 0 0 0) (square 0 0 0 0))

-- parts as algebras
abbrev pub linear : Part → Meaning
linear P = part_means P (linear_ceiling P)

abbrev pub matrix : Part → Meaning
matrix P = part_means P no_ceiling

-- add is one more than its arguments together, z is 0, and s is its argument
abbrev pub first_numbers : List LinearSymbol
first_numbers = numbers (number 1 1 1) (number 0 0 0) (number 0 1 0)

-- s counts in the second entry; add takes both entries of its first argument into the first, and adds its second argument
abbrev pub second_numbers : List MatrixSymbol
second_numbers =
    vectors (vector 0 0 (square 1 1 0 1) (square 1 0 0 1)) (vector 0 0 (square 0 0 0 0) (square 0 0 0 0)) (vector 0 1 (square 1 0 0 1) (square 0 0 0 0))

-- z is 1, and s is 255 times its argument
abbrev pub power_numbers : List LinearSymbol
power_numbers = numbers (number 0 1 1) (number 1 0 0) (number 0 255 0)

abbrev pub meaning : WorkedPart → Meaning
meaning First = linear (linear_part addition first_numbers)
meaning Second = matrix (matrix_part addition 2 second_numbers)
meaning Powers = linear (linear_part addition power_numbers)
