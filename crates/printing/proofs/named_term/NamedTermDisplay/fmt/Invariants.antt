use Rattle.std.proofs.Common.{◌≡◌, ℕ, List, ◌++◌}
use Rattle.std.specs.Fmt.{HasWritten, IsPlainFormatter}
use Rattle.printing.specs.Texts.{text}
use Rattle.printing.specs.Spellers.{words_left}
use Rattle.printing.proofs.named_term.NamedTermDisplay.fmt.Given as goal

abbrev pub invariant-loop-piece : goal.invariant-loop-piece
invariant-loop-piece g l =
    (written : List ℕ)
    × (text (words_left l.initial.piece-iterator) ≡ written ++ text (words_left l.piece-iterator))
    × (IsPlainFormatter l.fn.f → HasWritten g.W.Write.write_str_gives l.fn.f written l.f)
