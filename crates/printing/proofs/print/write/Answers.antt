use Rattle.std.proofs.Common.{◌++◌, sym, ap, ◌∙◌, arith}
use Rattle.printing.specs.Texts.{text}
use Rattle.printing.specs.Spellers.{words_left}
use Rattle.printing.proofs.Writing.{written_more}
use Rattle.printing.proofs.print.write.Goals as goal

pub loop-piece-preserved : goal.loop-piece-preserved
loop-piece-preserved c =
    let left = text (words_left c.next.new.self) in
    let fits = c.requires in
    let same = c.loop-piece.auto.out in
    written_more _ _ _ _ _ c.loop-piece.invariant (omega arith) c.bytes-bytes.result.now c.copy_from_slice.new.self left c.copy_from_slice.ensures.after (ap text c.in-Some.ensures.steps ∙ ap (λ l. l ++ left) (sym c.bytes-bytes.ensures))
