-- What a session asks about.
use Rattle.std.specs.Prelude.{ℕ, List, Some, None, Ok, Err, Option, Result}
use Rattle.refusals.specs.declared.Refusal.{Refusal}
use Rattle.bounded.specs.Items.{items}
use Rattle.terms.specs.Systems.{System, system_of}
use Rattle.vocabulary.specs.Naming.{Naming, naming_of}
use Rattle.texts.specs.Systems.{term_reply}
use Rattle.texts.specs.Faults.{text_refusal}
use Rattle.algebras.specs.Meanings.{Meaning}
use Rattle.sessions.specs.declared.fault.CommandFault.{CommandFault}
use Rattle.sessions.specs.declared.fault.CommandFault.TheVariants.{Refused}
use Rattle.sessions.specs.declared.setting.Setting as code

-- names, a system, a pile by what it means, and a start term's codes
pub record Setting : Type 0 where
  pub names : Naming
  pub system : System
  pub pile : Meaning
  pub start : List ℕ

abbrev pub setting_of : {A : Type 0} → (A → Meaning) → code.Setting A → Setting
setting_of means s = record { names = naming_of s.names; system = system_of s.system; pile = means s.pile; start = items s.start }

-- an answer of a layer below, with its fault as the refusal that it is
abbrev pub or_refused : {X E : Type 0} → (E → Refusal) → Result X E → Result X CommandFault
or_refused refusal (Ok x) = Ok x
or_refused refusal (Err e) = Err (Refused (refusal e))

-- the codes of the start term, or of a term that is written out
abbrev pub asked_term : Setting → Option (List ℕ) → Result (List ℕ) CommandFault
asked_term S None = Ok S.start
asked_term S (Some text) = or_refused text_refusal (term_reply S.names.vocabulary text)
