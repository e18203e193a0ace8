-- What the texts of a job come to, reader by reader.
use Rattle.std.proofs.Common.{◌≡◌, ℕ, List, [], ◌∷◌, Some, Ok, Err, Option, Result, sym, refl, ap, ap₂, ◌∙◌}
use Rattle.std.specs.Prelude.{unwrap_or}
use Rattle.std.specs.Option.{option_map}
use Rattle.terms.specs.Replies.{viewed}
use Rattle.terms.specs.Models.{arities_of}
use Rattle.vocabulary.specs.declared.names.Names.{Names}
use Rattle.vocabulary.specs.Models.{vocabulary_of}
use Rattle.vocabulary.specs.Vocabularies.{fixed_arities}
use Rattle.vocabulary.proofs.Fixing.{somes, fixed_as}
use Rattle.texts.specs.declared.fault.TextFault.{TextFault}
use Rattle.texts.specs.Systems.{Said, rules_reply, term_reply}
use Rattle.encodings.specs.declared.fault.CertificateFault.{CertificateFault}
use Rattle.encodings.specs.Numbers.{Numbers}
use Rattle.encodings.specs.Reading.{certificate_reply}
use Rattle.certificates.specs.Parts.{Kept, all_kept}
use Rattle.certificates.specs.Meanings.{all_algebras}
use Rattle.algebras.specs.Meanings.{Meaning}
use Rattle.jobs.specs.declared.fault.OpenFault.{OpenFault}
use Rattle.jobs.specs.declared.fault.OpenFault.TheVariants as fault
use Rattle.jobs.specs.Reads.{Read, signature_said, by_start, by_certificate, by_rules, inputs_reply}

-- names make the signature that is kept with them
somes_fixed : (ns : List ℕ) → fixed_arities (somes ns) ≡ Some ns
somes_fixed [] = refl
somes_fixed (n ∷ ns) = ap (option_map (λ (ks : List ℕ). n ∷ ks)) (somes_fixed ns)

pub signature_is : (n : Names) → arities_of n.signature ≡ signature_said (vocabulary_of n.vocabulary)
signature_is n =
    let sig = arities_of n.signature in
    sym (ap (λ xs. unwrap_or (fixed_arities xs) []) (fixed_as (vocabulary_of n.vocabulary).arities sig n.fixed) ∙ ap (λ o. unwrap_or o []) (somes_fixed sig))

module _ (rules certificate start : List ℕ) (s : Said) (read : Ok s ≡ rules_reply rules) (sig : List ℕ) (same : sig ≡ signature_said s.names) where
  -- the certificate is read under the signature of the names
  by_rest : by_certificate s start (certificate_reply sig certificate) ≡ inputs_reply rules certificate start
  by_rest = ap (λ x. by_certificate s start (certificate_reply x certificate)) same ∙ ap (by_rules certificate start) read

  pub no_certificate : (e : CertificateFault) → Err e ≡ viewed (all_kept sig) (certificate_reply sig certificate) → Err (fault.Certificate e) ≡ inputs_reply rules certificate start
  no_certificate e h = go (certificate_reply sig certificate) h ∙ by_rest
    where
      go : (r : Result (List Numbers) CertificateFault) → Err e ≡ viewed (all_kept sig) r → Err (fault.Certificate e) ≡ by_certificate s start r
      go (Ok ns) h = cc
      go (Err f) h = ap (λ x. Err (fault.Certificate x)) (let k : e ≡ f = cc in k)

  module _ (ps : List (Option Kept)) (As : List Meaning) (parts : Ok ps ≡ viewed (all_kept sig) (certificate_reply sig certificate)) (means : Ok As ≡ viewed (all_algebras sig) (certificate_reply sig certificate)) where
    with_parts : (x : Result Read OpenFault) → ((ns : List Numbers) → ps ≡ all_kept sig ns → As ≡ all_algebras sig ns → x ≡ by_start s ns (term_reply s.names start)) → x ≡ inputs_reply rules certificate start
    with_parts x f = go (certificate_reply sig certificate) parts means ∙ by_rest
      where
        go : (r : Result (List Numbers) CertificateFault) → Ok ps ≡ viewed (all_kept sig) r → Ok As ≡ viewed (all_algebras sig) r → x ≡ by_certificate s start r
        go (Ok ns) h k = f ns (let e : ps ≡ all_kept sig ns = cc in e) (let e : As ≡ all_algebras sig ns = cc in e)
        go (Err e) h k = cc

    pub no_term : (e : TextFault) → Err e ≡ term_reply s.names start → Err (fault.Text e) ≡ inputs_reply rules certificate start
    no_term e h = with_parts (Err (fault.Text e)) (λ ns k l. ap (by_start s ns) h)

    pub all_read : (cs : List ℕ) → Ok cs ≡ term_reply s.names start
        → Ok record { names = s.names; system = record { arities = sig; rules = s.rules }; parts = ps; algebras = As; codes = cs } ≡ inputs_reply rules certificate start
    all_read cs h = with_parts _ (λ ns k l.
        ap₂ (λ p q. Ok record { names = s.names; system = record { arities = sig; rules = s.rules }; parts = p; algebras = q; codes = cs }) k l
        ∙ ap (λ x. Ok record { names = s.names; system = record { arities = x; rules = s.rules }; parts = all_kept x ns; algebras = all_algebras x ns; codes = cs }) same
        ∙ ap (by_start s ns) h)
