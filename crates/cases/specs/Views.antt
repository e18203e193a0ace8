-- The questions of the code, as the definitions have them.
use Rattle.std.specs.Prelude.{List}
use Rattle.worked.specs.declared.list.Case.{Case}
use Rattle.worked.specs.Views as on_codes
use Rattle.worked_parts.specs.Views as on_parts
use Rattle.cases.specs.declared.question.Answer.{Answer}
use Rattle.cases.specs.declared.question.Question as code
use Rattle.cases.specs.declared.question.Question.TheVariants as question
use Rattle.cases.specs.Cases.{Question, Question.codes_asked, Question.parts_asked, Question.rule_text}

abbrev pub question_of : code.Question → Question
question_of (question.OnCodes q) = codes_asked (on_codes.question_of q)
question_of (question.OnParts q) = parts_asked (on_parts.question_of q)
question_of (question.RuleText text) = rule_text text.now

abbrev pub case_of : Case code.Question Answer → Case Question Answer
case_of c = on_codes.case_by question_of (λ a. a) c

abbrev pub cases_of : List (Case code.Question Answer) → List (Case Question Answer)
cases_of cs = on_codes.cases_by question_of cs
