use Rattle.bounded.specs.Items.{items}
use Rattle.bounded.proofs.Lengths.{items_few}
use Rattle.rewriting.proofs.Replying.{refused_long, step_long, step_done}
use Rattle.rewriting.proofs.place.Place.step_into.Goals as goal

pub returns-in_err-replace : goal.returns-in_err-replace
returns-in_err-replace c =
    refused_long _ c.from_residual-in_err-replace.result c.from_residual-in_err-replace.ensures.1
    (step_long c.args.self.now _ _ c.requires c.in_ok-bindings.bindings _ c.in_ok-bindings.ensures.ok_part _ c.match_with.ensures.means c.left.ensures _ c.right.ensures c.in_err-replace.ensures)

pub returns : goal.returns
returns c =
    step_done c.args.self.now _ _ c.requires c.in_ok-bindings.bindings _ c.in_ok-bindings.ensures.ok_part _ c.match_with.ensures.means c.left.ensures _ c.right.ensures
    (items c.replace.new.out) c.in_ok-replace.ensures (items_few c.replace.new.out)
