use Rattle.printing.specs.Texts.{text}
use Rattle.printing.specs.Spellers.{words_left}
use Rattle.printing.proofs.Writing.{Written}
use Rattle.printing.proofs.print.write.Given as goal

abbrev pub invariant-loop-piece : goal.invariant-loop-piece
invariant-loop-piece l = Written (text (words_left l.fn.speller)) l.initial.out l.at l.out (text (words_left l.piece-iterator))
