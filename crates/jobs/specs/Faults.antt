-- The refusals of openings.
use Rattle.refusals.specs.declared.Refusal.{Refusal}
use Rattle.refusals.specs.declared.Layer.TheVariants.{Job}
use Rattle.terms.specs.Replies.{malformed_refusal}
use Rattle.texts.specs.Faults.{text_refusal}
use Rattle.encodings.specs.Refusals.{certificate_refusal}
use Rattle.algebras.specs.Replies.{algebra_refusal}
use Rattle.algebras.specs.Reviews.{review_refusal}
use Rattle.jobs.specs.declared.fault.OpenFault.{OpenFault}
use Rattle.jobs.specs.declared.fault.OpenFault.TheVariants as fault

-- each fault's number, layer and place: those of the layer below, or 43
abbrev pub open_refusal : OpenFault → Refusal
open_refusal (fault.Text f) = text_refusal f
open_refusal (fault.Certificate f) = certificate_refusal f
open_refusal (fault.Malformed f) = malformed_refusal f
open_refusal (fault.Review f) = review_refusal f
open_refusal (fault.Algebra f) = algebra_refusal f
open_refusal fault.BelowHeight = record { number = 43; layer = Job; place = 0 }
