use Rattle.reading.proofs.Standing.{refusal_stands}
use Rattle.reading.proofs.Texts.{text_exactly, term_text_exactly}
use Rattle.reading.proofs.texts_are_read_as_spelled.Goals as goal

pub returns : goal.returns
returns c = record { texts = text_exactly; terms = term_text_exactly; refusals = refusal_stands }
