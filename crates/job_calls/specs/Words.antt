-- The refusals of the calls on a job, and how ends are printed.
use Rattle.std.specs.Prelude.{ℕ, List, codes}
use Rattle.refusals.specs.declared.Refusal.{Refusal}
use Rattle.refusals.specs.declared.Layer.TheVariants.{Job}
use Rattle.rewriting.specs.Replies.{fault_refusal}
use Rattle.job_calls.specs.declared.fault.JobFault.{JobFault}
use Rattle.job_calls.specs.declared.fault.JobFault.TheVariants.{OtherGrant, Rewrite, Spent, ShortMemory}
use Rattle.job_calls.specs.declared.answer.End.{End}
use Rattle.job_calls.specs.declared.answer.End.TheVariants as end

-- each fault's number, layer and place
abbrev pub job_refusal : JobFault → Refusal
job_refusal OtherGrant = record { number = 45; layer = Job; place = 0 }
job_refusal (Rewrite f) = fault_refusal f
job_refusal Spent = record { number = 44; layer = Job; place = 0 }
job_refusal ShortMemory = record { number = 23; layer = Job; place = 0 }

abbrev pub end_word : End → List ℕ
end_word end.Normal = codes "normal"
end_word end.More = codes "more"
end_word end.Spent = codes "44"
end_word end.TooLong = codes "42"
