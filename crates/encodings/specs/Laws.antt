-- What it means that a certificate is read exactly.
use Rattle.std.specs.Prelude.{◌≡◌, ℕ, ◌≤◌, List, length, All, Ok, Err, Result}
use Rattle.encodings.specs.declared.fault.CertificateFault.{CertificateFault}
use Rattle.encodings.specs.Numbers.{Numbers, Formed, IsByte}
use Rattle.encodings.specs.Encoding.{encoded}
use Rattle.encodings.specs.Reading.{certificate_reply}

-- a certificate has 1 to 4 parts, each for the signature
pub record Certified (sig : List ℕ) (parts : List Numbers) : Type 0 where
  pub some : 1 ≤ length parts
  pub few : length parts ≤ 4
  pub formed : All (Formed sig) parts

-- what an answer says of the bytes: they are how these parts are written, or the fault is in them
abbrev pub Told : List ℕ → List ℕ → Result (List Numbers) CertificateFault → Type 0
Told sig bytes (Ok parts) = Certified sig parts × (bytes ≡ encoded sig parts)
Told sig bytes (Err e) = e.offset ≤ length bytes

-- and whatever parts the bytes are written for are the answer
pub record CertificateExactly (sig bytes : List ℕ) (reply : Result (List Numbers) CertificateFault) : Type 0 where
  pub told : Told sig bytes reply
  pub complete : (parts : List Numbers) → Certified sig parts → encoded sig parts ≡ bytes → reply ≡ Ok parts

-- bytes are read as parts exactly if they are how those are written
abbrev pub EveryCertificateExactly : Type 0
EveryCertificateExactly = (sig bytes : List ℕ) → All IsByte bytes → CertificateExactly sig bytes (certificate_reply sig bytes)
