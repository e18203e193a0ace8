-- The worked cases on parts, as one list, and what the definitions say of each.
use Rattle.std.specs.Prelude.{ℕ, List, [], ◌∷◌, Some, Ok, Err, Result}
use Rattle.algebras.specs.declared.fault.AlgebraFault.{AlgebraFault}
use Rattle.algebras.specs.declared.fault.AlgebraFault.TheVariants.{HeightOutOfReach}
use Rattle.algebras.specs.declared.order.Order.{Order}
use Rattle.algebras.specs.declared.order.Order.TheVariants.{Strict, Weak}
use Rattle.algebras.specs.Replies.{measured, compared, ceiling_reply}
use Rattle.worked.specs.declared.list.Case.{Case}
use Rattle.worked.specs.Cases.{addition}
use Rattle.worked_parts.specs.declared.worked_part.WorkedPart.{WorkedPart}
use Rattle.worked_parts.specs.declared.worked_part.WorkedPart.TheVariants.{First, Second, Powers}
use Rattle.worked_parts.specs.declared.question.Answer.{Answer}
use Rattle.worked_parts.specs.declared.question.Answer.TheVariants as answer
use Rattle.worked_parts.specs.WorkedParts.{meaning}

pub data Question : Type 0 where
  order : WorkedPart → List ℕ → List ℕ → Question
  height : WorkedPart → List ℕ → Question
  ceiling : WorkedPart → ℕ → Question

-- what the definitions answer
abbrev pub answered : Question → Answer
answered (order which l r) = answer.Order (compared (meaning which) addition l r)
answered (height which cs) = answer.Height (measured (meaning which) addition cs)
answered (ceiling which n) = answer.Ceiling (ceiling_reply (meaning which) n)

-- the order of a rule's sides, and the height of a term, with what is expected
abbrev pub ordered : WorkedPart → List ℕ → List ℕ → Order → Case Question Answer
ordered which l r o = record { question = order which l r; expected = answer.Order (Ok o) }

abbrev pub high : WorkedPart → List ℕ → Result ℕ AlgebraFault → Case Question Answer
high which cs h = record { question = height which cs; expected = answer.Height h }

-- add(z, b) -> b and add(s(a), b) -> s(add(a, b)): the first part finds the first strict and the other weak, the second
-- the reverse; the heights of add(s(s(z)), s(z)); a ceiling; five and six s over z
abbrev pub worked : List (Case Question Answer)
worked =
    ordered First (0 ∷ 1 ∷ 32769 ∷ []) (32769 ∷ []) Strict
    ∷ ordered First (0 ∷ 2 ∷ 32768 ∷ 32769 ∷ []) (2 ∷ 0 ∷ 32768 ∷ 32769 ∷ []) Weak
    ∷ ordered Second (0 ∷ 1 ∷ 32769 ∷ []) (32769 ∷ []) Weak
    ∷ ordered Second (0 ∷ 2 ∷ 32768 ∷ 32769 ∷ []) (2 ∷ 0 ∷ 32768 ∷ 32769 ∷ []) Strict
    ∷ high First (0 ∷ 2 ∷ 2 ∷ 1 ∷ 2 ∷ 1 ∷ []) (Ok 1)
    ∷ high Second (0 ∷ 2 ∷ 2 ∷ 1 ∷ 2 ∷ 1 ∷ []) (Ok 2)
    ∷ record { question = ceiling First 6; expected = answer.Ceiling (Ok (Some 6)) }
    ∷ high Powers (2 ∷ 2 ∷ 2 ∷ 2 ∷ 2 ∷ 1 ∷ []) (Ok 1_078_203_909_375)
    ∷ high Powers (2 ∷ 2 ∷ 2 ∷ 2 ∷ 2 ∷ 2 ∷ 1 ∷ []) (Err HeightOutOfReach)
    ∷ []
