-- What the texts of a job say together.
use Rattle.std.specs.Prelude.{ℕ, List, [], Ok, Err, Option, Result, unwrap_or}
use Rattle.bounded.specs.Items.{items}
use Rattle.terms.specs.Systems.{System, system_of}
use Rattle.vocabulary.specs.Vocabularies.{Vocabulary, fixed_arities}
use Rattle.vocabulary.specs.Naming.{naming_of}
use Rattle.texts.specs.declared.fault.TextFault.{TextFault}
use Rattle.texts.specs.Systems.{Said, rules_reply, term_reply}
use Rattle.encodings.specs.declared.fault.CertificateFault.{CertificateFault}
use Rattle.encodings.specs.Numbers.{Numbers}
use Rattle.encodings.specs.Reading.{certificate_reply}
use Rattle.certificates.specs.Parts.{Kept, all_kept}
use Rattle.certificates.specs.Certificates.{parts_of}
use Rattle.certificates.specs.Meanings.{algebras_of, all_algebras}
use Rattle.algebras.specs.Meanings.{Meaning}
use Rattle.jobs.specs.declared.fault.OpenFault.{OpenFault}
use Rattle.jobs.specs.declared.fault.OpenFault.TheVariants as fault
use Rattle.jobs.specs.declared.inputs.Inputs.{Inputs}

-- names, a system over the signature that they make, the parts over it as they are kept and as what they mean, and the
-- codes of the start term
pub record Read : Type 0 where
  pub names : Vocabulary
  pub system : System
  pub parts : List (Option Kept)
  pub algebras : List Meaning
  pub codes : List ℕ

abbrev pub inputs_of : Inputs → Read
inputs_of i = record { names = (naming_of i.names).vocabulary; system = system_of i.system; parts = parts_of i.certificate; algebras = algebras_of i.certificate; codes = items i.term }

-- the signature that names make, whose arities are all fixed
abbrev pub signature_said : Vocabulary → List ℕ
signature_said v = unwrap_or (fixed_arities v.arities) []

abbrev pub by_start : Said → List Numbers → Result (List ℕ) TextFault → Result Read OpenFault
by_start s ns (Ok cs) =
    let sig = signature_said s.names in
    Ok record { names = s.names; system = record { arities = sig; rules = s.rules }; parts = all_kept sig ns; algebras = all_algebras sig ns; codes = cs }
by_start s ns (Err e) = Err (fault.Text e)

abbrev pub by_certificate : Said → List ℕ → Result (List Numbers) CertificateFault → Result Read OpenFault
by_certificate s start (Ok ns) = by_start s ns (term_reply s.names start)
by_certificate s start (Err e) = Err (fault.Certificate e)

abbrev pub by_rules : List ℕ → List ℕ → Result Said TextFault → Result Read OpenFault
by_rules certificate start (Ok s) = by_certificate s start (certificate_reply (signature_said s.names) certificate)
by_rules certificate start (Err e) = Err (fault.Text e)

-- the rule text first, then the certificate, then the start term
abbrev pub inputs_reply : List ℕ → List ℕ → List ℕ → Result Read OpenFault
inputs_reply rules certificate start = by_rules certificate start (rules_reply rules)
