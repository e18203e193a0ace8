use Rattle.interpretations.proofs.Near.{given_is, readable_is, untested_fits}
use Rattle.interpretations.proofs.reach_goes_by_subterms.Goals as goal

pub returns : goal.returns
returns c = record { given = given_is; readable = readable_is; untested = untested_fits }
