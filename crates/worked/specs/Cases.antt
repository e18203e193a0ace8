-- The worked cases, as one list, and what the definitions say of each.
use Rattle.std.specs.Prelude.{◌≡◌, ℕ, Bool, true, false, List, [], ◌∷◌, Ok, Err, Result}
use Rattle.rewriting.specs.declared.fault.RewriteFault.{RewriteFault}
use Rattle.terms.specs.Codes.{is_term}
use Rattle.rewriting.specs.Replies.{match_reply}
use Rattle.worked.specs.declared.list.Case.{Case}

pub data Question : Type 0 where
  term : List ℕ → Question
  match : List ℕ → List ℕ → Question

-- addition: add has two arguments, z none and s one
abbrev pub addition : List ℕ
addition = 2 ∷ 0 ∷ 1 ∷ []

abbrev pub taken : Result Bool RewriteFault → Bool
taken (Ok b) = b
taken (Err e) = false

-- what the definitions answer
abbrev pub answered : Question → Bool
answered (term cs) = is_term addition cs
answered (match pattern cs) = taken (match_reply addition pattern cs 0)

-- the definitions answer each case as expected, whatever the questions are of
abbrev pub AllHold : {Q A : Type 0} → (Q → A) → List (Case Q A) → Type 0
AllHold answer [] = Unit {0}
AllHold answer (c ∷ cs) = (answer c.question ≡ c.expected) × AllHold answer cs

-- add(s(z), z) is a term; add(s(z), z z and nothing are not; add(a, a) matches add(z, z), and not add(z, s(z))
abbrev pub worked : List (Case Question Bool)
worked =
    record { question = term (0 ∷ 2 ∷ 1 ∷ 1 ∷ []); expected = true }
    ∷ record { question = term (0 ∷ 2 ∷ 1 ∷ []); expected = false }
    ∷ record { question = term (1 ∷ 1 ∷ []); expected = false }
    ∷ record { question = term []; expected = false }
    ∷ record { question = match (0 ∷ 32768 ∷ 32768 ∷ []) (0 ∷ 1 ∷ 1 ∷ []); expected = true }
    ∷ record { question = match (0 ∷ 32768 ∷ 32768 ∷ []) (0 ∷ 1 ∷ 2 ∷ 1 ∷ []); expected = false }
    ∷ []
