-- The questions of the code, as the definitions have them.
use Rattle.std.specs.Prelude.{List}
use Rattle.worked.specs.declared.list.Case.{Case}
use Rattle.worked.specs.Views.{case_by, cases_by}
use Rattle.worked_parts.specs.declared.question.Answer.{Answer}
use Rattle.worked_parts.specs.declared.question.Question as asked
use Rattle.worked_parts.specs.declared.question.Question.TheVariants as question
use Rattle.worked_parts.specs.Cases.{Question, Question.order, Question.height, Question.ceiling}

abbrev pub question_of : asked.Question → Question
question_of (question.Order which l r) = order which l.now r.now
question_of (question.Height which cs) = height which cs.now
question_of (question.Ceiling which n) = ceiling which n

abbrev pub case_of : Case asked.Question Answer → Case Question Answer
case_of c = case_by question_of (λ a. a) c

abbrev pub cases_of : List (Case asked.Question Answer) → List (Case Question Answer)
cases_of cs = cases_by question_of cs
