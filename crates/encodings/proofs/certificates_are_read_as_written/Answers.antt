use Rattle.encodings.proofs.Exactly.{certificate_exactly}
use Rattle.encodings.proofs.certificates_are_read_as_written.Goals as goal

pub returns : goal.returns
returns c = λ sig bytes h. certificate_exactly sig bytes h
