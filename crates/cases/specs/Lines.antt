-- How questions and answers are printed.
use Rattle.std.specs.Prelude.{ℕ, List, true, false, ◌++◌, Ok, Err, codes}
use Rattle.refusals.specs.Lines.{line}
use Rattle.worked.specs.Lines as on_codes
use Rattle.worked_parts.specs.Lines as on_parts
use Rattle.cases.specs.declared.question.Answer.{Answer}
use Rattle.cases.specs.declared.question.Answer.TheVariants.{OnCodes, OnParts, RuleText}
use Rattle.cases.specs.Cases.{Question, Question.codes_asked, Question.parts_asked, Question.rule_text}

abbrev pub question_text : Question → List ℕ
question_text (codes_asked q) = on_codes.question_text q
question_text (parts_asked q) = on_parts.question_text q
question_text (rule_text bytes) = codes "rules " ++ bytes

abbrev pub answer_text : Answer → List ℕ
answer_text (OnCodes true) = codes "true"
answer_text (OnCodes false) = codes "false"
answer_text (OnParts a) = on_parts.answer_text a
answer_text (RuleText (Ok x)) = codes "accepted"
answer_text (RuleText (Err refusal)) = line refusal
