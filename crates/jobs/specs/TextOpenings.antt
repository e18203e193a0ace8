-- What an opening on texts answers.
use Rattle.std.specs.Prelude.{ℕ, List, Ok, Err, Result, slice_index_or}
use Rattle.terms.specs.Replies.{viewed}
use Rattle.vocabulary.specs.Vocabularies.{Vocabulary}
use Rattle.vocabulary.specs.Naming.{naming_of}
use Rattle.algebras.specs.Meanings.{Meaning}
use Rattle.algebras.specs.Layers.{empty_means, sum_means}
use Rattle.pools.specs.declared.grant.Grant.{Grant}
use Rattle.job_calls.specs.Calls.{State}
use Rattle.jobs.specs.declared.fault.OpenFault.{OpenFault}
use Rattle.jobs.specs.declared.inputs.Opened.{Opened}
use Rattle.jobs.specs.Fulls.{state_in}
use Rattle.jobs.specs.FullOpenings.{full_reply}
use Rattle.jobs.specs.Reads.{Read, inputs_reply}

-- the sum of two sums of four parts; missing ones are empty
abbrev pub nth_algebra : List Meaning → ℕ → Meaning
nth_algebra parts k = slice_index_or parts k empty_means

abbrev pub pile_algebra : List Meaning → Meaning
pile_algebra parts = sum_means (sum_means (nth_algebra parts 0) (nth_algebra parts 1)) (sum_means (nth_algebra parts 2) (nth_algebra parts 3))

-- names, and a job's state
abbrev pub opened_as : Opened → Vocabulary × State
opened_as o = ((naming_of o.names).vocabulary, state_in o.job)

abbrev pub with_names : Vocabulary → Result State OpenFault → Result (Vocabulary × State) OpenFault
with_names names r = viewed (λ s. (names, s)) r

abbrev pub open_on : Grant → Result Read OpenFault → Result (Vocabulary × State) OpenFault
open_on g (Ok r) = with_names r.names (full_reply (pile_algebra r.algebras) r.system r.codes g)
open_on g (Err e) = Err e

-- the texts first, then what an opening in full tests
abbrev pub open_reply : List ℕ → List ℕ → List ℕ → Grant → Result (Vocabulary × State) OpenFault
open_reply rules certificate start g = open_on g (inputs_reply rules certificate start)
