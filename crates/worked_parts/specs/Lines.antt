-- How questions and answers are printed.
use Rattle.std.specs.Prelude.{ℕ, List, ◌++◌, Some, None, Ok, Err, codes, decimal}
use Rattle.refusals.specs.Lines.{line}
use Rattle.terms.specs.Lines.{codes_text}
use Rattle.algebras.specs.Replies.{algebra_refusal}
use Rattle.algebras.specs.Words.{order_word}
use Rattle.worked_parts.specs.declared.question.Answer.{Answer}
use Rattle.worked_parts.specs.declared.question.Answer.TheVariants as answer
use Rattle.worked_parts.specs.Words.{part_word}
use Rattle.worked_parts.specs.Cases.{Question, Question.order, Question.height, Question.ceiling}

abbrev pub question_text : Question → List ℕ
question_text (order which l r) = part_word which ++ (codes " compare" ++ (codes_text l ++ (codes " ->" ++ codes_text r)))
question_text (height which cs) = part_word which ++ (codes " measure" ++ codes_text cs)
question_text (ceiling which n) = part_word which ++ (codes " ceiling " ++ decimal n)

abbrev pub answer_text : Answer → List ℕ
answer_text (answer.Order (Ok o)) = order_word o
answer_text (answer.Order (Err e)) = line (algebra_refusal e)
answer_text (answer.Height (Ok h)) = decimal h
answer_text (answer.Height (Err e)) = line (algebra_refusal e)
answer_text (answer.Ceiling (Ok (Some c))) = decimal c
answer_text (answer.Ceiling (Ok None)) = codes "none"
answer_text (answer.Ceiling (Err e)) = line (algebra_refusal e)
