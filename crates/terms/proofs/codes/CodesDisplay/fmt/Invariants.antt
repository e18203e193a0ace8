use Rattle.std.proofs.Common.{take}
use Rattle.std.specs.Fmt.{HasWritten, IsPlainFormatter}
use Rattle.terms.specs.Lines.{codes_text}
use Rattle.terms.proofs.codes.CodesDisplay.fmt.Given as goal

abbrev pub invariant-loop-code : goal.invariant-loop-code
invariant-loop-code g l = IsPlainFormatter l.fn.f → HasWritten g.W.Write.write_str_gives l.fn.f (codes_text (take l.code-index l.self.0.now)) l.f
