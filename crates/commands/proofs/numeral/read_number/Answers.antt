use Rattle.std.proofs.Common.{◌∙◌, sym, arith}
use Rattle.commands.proofs.Numbers.{empty, broken, too_long, whole, over}
use Rattle.commands.proofs.numeral.read_number.Goals as goal

pub returns-then-is_empty : goal.returns-then-is_empty
returns-then-is_empty c = sym (empty 64 c.args.word.now (sym c.if-is_empty.ensures))

pub returns-then-not-is_ascii_digit : goal.returns-then-not-is_ascii_digit
returns-then-not-is_ascii_digit c = sym (broken 64 c.args.word.now c.loop-byte.byte-index c.loop-byte.invariant.1 c.loop-byte-test.true (sym c.if-not-is_ascii_digit.ensures.value))

pub returns-in_err-number : goal.returns-in_err-number
returns-in_err-number c =
    c.from_residual.ensures ∙ sym (too_long 64 c.args.word.now c.loop-byte.byte-index c.loop-byte.number c.loop-byte.invariant.0 c.loop-byte-test.true (over _ _ (sym c.in_err-number.ensures)))

pub returns : goal.returns
returns c =
    sym (whole 64 c.args.word.now c.loop-byte.byte-index c.loop-byte.number c.loop-byte.invariant.0 c.loop-byte.invariant.1 (omega arith) (sym c.if-is_empty.ensures) c.loop-byte.invariant.2)
