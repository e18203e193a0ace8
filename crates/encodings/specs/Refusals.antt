-- The refusals of certificates.
use Rattle.refusals.specs.declared.Refusal.{Refusal}
use Rattle.refusals.specs.declared.Layer.TheVariants.{Certificate}
use Rattle.encodings.specs.declared.fault.CertificateFault.{CertificateFault}
use Rattle.encodings.specs.Flaws.{flaw_number}

-- the flaw's number, and a byte offset
abbrev pub certificate_refusal : CertificateFault → Refusal
certificate_refusal f = record { number = flaw_number f.flaw; layer = Certificate; place = f.offset }
