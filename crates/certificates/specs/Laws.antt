-- What it means that a certificate is read, and kept.
use Rattle.std.specs.Prelude.{◌≡◌, ℕ, ◌≤◌, List, length, Ok, Err, Option, Result}
use Rattle.encodings.specs.declared.fault.CertificateFault.{CertificateFault}
use Rattle.encodings.specs.Numbers.{Numbers}
use Rattle.encodings.specs.Encoding.{encoded}
use Rattle.encodings.specs.Laws.{Certified}
use Rattle.certificates.specs.Parts.{Kept, all_kept}

-- the bytes are how some parts are written, and those are kept; or the fault is in the bytes
abbrev pub ToldKept : List ℕ → List ℕ → Result (List (Option Kept)) CertificateFault → Type 0
ToldKept sig bytes (Ok kept) = (parts : List Numbers) × Certified sig parts × (bytes ≡ encoded sig parts) × (kept ≡ all_kept sig parts)
ToldKept sig bytes (Err e) = e.offset ≤ length bytes

-- and whatever parts the bytes are written for are kept
pub record ReadExactly (sig bytes : List ℕ) (reply : Result (List (Option Kept)) CertificateFault) : Type 0 where
  pub told : ToldKept sig bytes reply
  pub complete : (parts : List Numbers) → Certified sig parts → encoded sig parts ≡ bytes → reply ≡ Ok (all_kept sig parts)
