-- The cases of the code, as the definitions have them.
use Rattle.std.specs.Prelude.{Bool, List, map}
use Rattle.worked.specs.declared.list.Case.{Case}
use Rattle.worked.specs.declared.question.Question as asked
use Rattle.worked.specs.declared.question.Question.TheVariants as question
use Rattle.worked.specs.Cases.{Question, Question.term, Question.match}

abbrev pub question_of : asked.Question → Question
question_of (question.IsTerm cs) = term cs.now
question_of (question.Matches pattern cs) = match pattern.now cs.now

-- a case with its question and its answer taken otherwise
abbrev pub case_by : {Q R A B : Type 0} → (Q → R) → (A → B) → Case Q A → Case R B
case_by question answer c = record { question = question c.question; expected = answer c.expected }

abbrev pub case_of : Case asked.Question Bool → Case Question Bool
case_of c = case_by question_of (λ a. a) c

-- cases with their questions as the definitions have them
abbrev pub cases_by : {Q R A : Type 0} → (Q → R) → List (Case Q A) → List (Case R A)
cases_by question cs = map (case_by question (λ a. a)) cs

abbrev pub cases_of : List (Case asked.Question Bool) → List (Case Question Bool)
cases_of cs = cases_by question_of cs
