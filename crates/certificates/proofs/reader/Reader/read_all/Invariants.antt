use Rattle.std.proofs.Common.{◌≡◌}
use Rattle.certificates.specs.Readers.{progress_of, finished, records_left, frames_of, HasRoom}
use Rattle.certificates.proofs.reader.Reader.read_all.Given as goal

abbrev pub invariant-loop-self : goal.invariant-loop-self
invariant-loop-self l = record {
  same : finished (progress_of l.self) ≡ finished (progress_of l.initial.self);
  room : HasRoom l.self;
}

abbrev pub decreases-loop-self : goal.decreases-loop-self
decreases-loop-self l = records_left (frames_of l.self)
