use Rattle.std.proofs.Common.{◌≡◌, true, is_ok, None, rules, ap, ◌∙◌}
use Rattle.std.specs.Option.{option_map}
use Rattle.std.proofs.lemmas.Bool.{le-leb}
use Rattle.bounded.specs.Items.{items}
use Rattle.vocabulary.proofs.Fixing.{one_more, one_open, one_fits, all_closed}
use Rattle.vocabulary.proofs.names.calls.fixed.Goals as goal

pub returns-in_err-symbol : goal.returns-in_err-symbol
returns-in_err-symbol c =
    ap (option_map items) {y = None} (search rules)
    ∙ one_open c.args.symbols.now c.loop-symbol.symbol-index (items c.loop-symbol.numbers) c.loop-symbol.invariant c.symbol-item.result c.loop-symbol-test.true c.symbol-item.is (search rules)

pub unwrap-requires : goal.unwrap-requires
unwrap-requires c =
    let few = one_fits c.args.symbols.now c.loop-symbol.symbol-index (items c.loop-symbol.numbers) c.loop-symbol.invariant c.symbol-item.result c.loop-symbol-test.true c.symbol-item.is c.requires in
    let fits : is_ok c.push.result ≡ true = c.push.ensures.fits ∙ le-leb _ 32 few in
    search rules

pub loop-symbol-preserved : goal.loop-symbol-preserved
loop-symbol-preserved c =
    one_more c.args.symbols.now c.loop-symbol.symbol-index (items c.loop-symbol.numbers) c.loop-symbol.invariant c.symbol-item.result c.loop-symbol-test.true c.symbol-item.is (items c.push.new.self) c.in_ok-symbol.field-0 (search rules) (search rules)

pub returns : goal.returns
returns c = all_closed c.args.symbols.now c.loop-symbol.symbol-index (items c.loop-symbol.numbers) c.loop-symbol.invariant c.loop-symbol-test.false
