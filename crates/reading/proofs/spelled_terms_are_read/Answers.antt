use Rattle.reading.proofs.Starting.{start_exactly}
use Rattle.reading.proofs.spelled_terms_are_read.Goals as goal

pub returns : goal.returns
returns c = start_exactly
