-- What is made over addition is the part that it was made of.
use Rattle.std.specs.Prelude.{◌≡◌, ℕ, List, Some, Option}
use Rattle.std.proofs.Common.{ap, ◌∙◌, subst}
use Rattle.interpretations.specs.Parts.{Part}
use Rattle.parts.specs.declared.linear.LinearPart.{LinearPart}
use Rattle.parts.specs.declared.linear.LinearSymbol.{LinearSymbol}
use Rattle.parts.specs.declared.matrix.MatrixPart.{MatrixPart}
use Rattle.parts.specs.declared.matrix.MatrixSymbol.{MatrixSymbol}
use Rattle.parts.specs.Kinds.{linear_part, matrix_part}
use Rattle.parts.specs.Views.{linear_of, matrix_of}
use Rattle.parts.specs.Making.{Made}
use Rattle.worked.specs.Cases.{addition}
use Rattle.worked_parts.specs.WorkedParts.{linear, matrix}

made_is : {X : Type 0} (view : X → Part) (P : Part) (r : Option X) (p : X) → r ≡ Some p → Made view P r → view p ≡ P
made_is view P r p e m = (subst (λ o. Made view P o) e m).0

pub linear_made : {sig : List ℕ} (symbols : List LinearSymbol) {r : Option LinearPart} {p : LinearPart} → sig ≡ addition → r ≡ Some p → Made linear_of (linear_part sig symbols) r
    → linear (linear_of p) ≡ linear (linear_part addition symbols)
linear_made {sig} symbols {r} {p} a e m = ap linear (made_is linear_of (linear_part sig symbols) r p e m ∙ ap (λ s. linear_part s symbols) a)

pub matrix_made : {sig : List ℕ} (symbols : List MatrixSymbol) {r : Option MatrixPart} {p : MatrixPart} → sig ≡ addition → r ≡ Some p → Made matrix_of (matrix_part sig 2 symbols) r
    → matrix (matrix_of p) ≡ matrix (matrix_part addition 2 symbols)
matrix_made {sig} symbols {r} {p} a e m = ap matrix (made_is matrix_of (matrix_part sig 2 symbols) r p e m ∙ ap (λ s. matrix_part s 2 symbols) a)
