use Rattle.std.proofs.Common.{◌≡◌, ◌++◌, refl, sym, ap, ◌∙◌, arith}
use Rattle.std.proofs.lemmas.Grind.{common_steps, put_two}
use Rattle.std.proofs.lemmas.List.{append_assoc}
use Rattle.printing.specs.Pieces.{piece_word}
use Rattle.printing.specs.Texts.{word_bytes, text}
use Rattle.printing.specs.Spellers.{words_left}
use Rattle.printing.proofs.named_term.NamedTermDisplay.fmt.Goals as goal

pub loop-piece-preserved : goal.loop-piece-preserved
loop-piece-preserved g c =
    let before = c.loop-piece.invariant in
    let word = c.in_ok-map_err.field-0.now in
    let left = text (words_left c.next.new.self) in
    let same : word ≡ word_bytes (piece_word c.in-Some-piece.piece) = grind (arith, common_steps) in
    let step = ap text c.in-Some-piece.ensures.steps in (
      before.0 ++ word,
      before.1 ∙ ap (λ l. before.0 ++ l) (step ∙ ap (λ w. w ++ left) (sym same)) ∙ sym (append_assoc before.0 word left),
      λ plain. let first = before.2 plain in put_two g.W.Write.write_str_gives _ _ _ before.0 word _ first (c.in_ok-write_str.ensures.writes first.plain refl) refl,
    )
