use Rattle.std.proofs.Common.{◌∙◌, sym, arith}
use Rattle.std.proofs.lemmas.Bool.Decides.{nat_tests}
use Rattle.commands.proofs.Numbers.{narrow, narrow_none}
use Rattle.commands.proofs.numeral.read_short_number.Goals as goal

pub returns-in_err-read_number : goal.returns-in_err-read_number
returns-in_err-read_number c = c.from_residual.ensures ∙ sym (narrow_none c.args.word.now (sym c.in_err-read_number.ensures))

pub returns : goal.returns
returns c =
    let e = narrow c.args.word.now c.in_ok-read_number.field-0 (sym c.in_ok-read_number.ensures) in
    grind (arith, nat_tests)
