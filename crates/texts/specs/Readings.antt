-- What the readers answer.
use Rattle.std.specs.Prelude.{◌≡◌, ℕ, Ok, Err, Result}
use Rattle.vocabulary.specs.declared.flaw.Flaw.{Flaw}
use Rattle.reading.specs.Documents.{Document}
use Rattle.reading.specs.Outcomes.{Outcome, Outcome.accepted, Outcome.refused, run_on}
use Rattle.texts.specs.declared.fault.TextFault.{TextFault}
use Rattle.texts.specs.Documents.{moved}

-- an answer, with the document that is left
abbrev pub outcome_of : Result (Unit {0}) TextFault → Document → Outcome
outcome_of (Ok x) d = accepted d
outcome_of (Err e) d = refused e.flaw e.at

-- a flaw gets its place, whatever document is left
abbrev pub Places : Result (Unit {0}) Flaw → ℕ → Result (Unit {0}) TextFault → Type 0
Places r at placed = (d : Document) → outcome_of placed d ≡ run_on at accepted (moved r d)
