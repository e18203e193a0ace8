-- The worked cases on codes, on parts and one on a text, as one list, and what the definitions say of each.
use Rattle.std.specs.Prelude.{ℕ, Bool, List, [], ◌∷◌, ◌++◌, map, Ok, Err, codes as bytes, Result}
use Rattle.refusals.specs.declared.Refusal.{Refusal}
use Rattle.refusals.specs.declared.Layer.TheVariants.{Rules}
use Rattle.worked.specs.declared.list.Case.{Case}
use Rattle.worked.specs.Cases as on_codes
use Rattle.worked.specs.Views.{case_by}
use Rattle.worked_parts.specs.Cases as on_parts
use Rattle.worked_parts.specs.declared.question.Answer as on_parts_answer
use Rattle.texts.specs.declared.fault.TextFault.{TextFault}
use Rattle.texts.specs.Faults.{text_refusal}
use Rattle.texts.specs.Systems.{Said, rules_reply}
use Rattle.cases.specs.declared.question.Answer.{Answer}
use Rattle.cases.specs.declared.question.Answer.TheVariants.{OnCodes, OnParts, RuleText}

-- a question on codes, on parts, or what a rule text comes to
pub data Question : Type 0 where
  codes_asked : on_codes.Question → Question
  parts_asked : on_parts.Question → Question
  rule_text : List ℕ → Question

-- whether a text is accepted, or its refusal
abbrev pub read_so : Result Said TextFault → Result (Unit {0}) Refusal
read_so (Ok s) = Ok tt
read_so (Err e) = Err (text_refusal e)

-- what the definitions answer
abbrev pub answered : Question → Answer
answered (codes_asked q) = OnCodes (on_codes.answered q)
answered (parts_asked q) = OnParts (on_parts.answered q)
answered (rule_text bytes) = RuleText (read_so (rules_reply bytes))

-- cases on codes and on parts among these
abbrev pub codes_case : Case on_codes.Question Bool → Case Question Answer
codes_case c = case_by codes_asked OnCodes c

abbrev pub parts_case : Case on_parts.Question on_parts_answer.Answer → Case Question Answer
parts_case c = case_by parts_asked OnParts c

-- and a rule whose left side is a variable is refused at its arrow
abbrev pub text_case : Case Question Answer
text_case = record { question = rule_text (bytes "(VAR a)(RULES a -> a)"); expected = RuleText (Err record { number = 5; layer = Rules; place = 16 }) }

abbrev pub worked : List (Case Question Answer)
worked = (map codes_case on_codes.worked ++ map parts_case on_parts.worked) ++ text_case ∷ []
