-- What a job holds.
use Rattle.rewriting.specs.Subjects.{arities_in, rules_in, codes_in}
use Rattle.job_calls.specs.Calls.{State}
use Rattle.jobs.specs.declared.job.Job.{Job}

abbrev pub state_of : Job → State
state_of j = record {
  arities = arities_in j.search.subject;
  rules = rules_in j.search.subject;
  number = j.number;
  reserve = j.reserve;
  codes = codes_in j.search.subject;
  count = j.count;
}
