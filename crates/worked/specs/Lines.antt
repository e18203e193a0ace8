-- How questions are printed.
use Rattle.std.specs.Prelude.{ℕ, Bool, true, false, List, ◌++◌, Some, Option, codes}
use Rattle.std.specs.Fmt.{◌++?◌}
use Rattle.terms.specs.Lines.{codes_text}
use Rattle.worked.specs.Cases.{Question, Question.term, Question.match}

abbrev pub question_text : Question → List ℕ
question_text (term cs) = codes "term" ++ codes_text cs
question_text (match pattern cs) = codes "match" ++ (codes_text pattern ++ (codes " with" ++ codes_text cs))

abbrev pub verdict : Bool → List ℕ
verdict true = codes "as expected"
verdict false = codes "WRONG"

-- a line on a case, of question and answer as they are printed
abbrev pub report_text : Option (List ℕ) → Option (List ℕ) → Bool → Option (List ℕ)
report_text question answer b = question ++? Some (codes ": ") ++? answer ++? Some (codes ", " ++ verdict b)
