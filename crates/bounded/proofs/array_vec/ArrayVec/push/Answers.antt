use Rattle.std.proofs.Common.{[], ◌∷◌, arith}
use Rattle.std.proofs.lemmas.List.{take_more_set}
use Rattle.bounded.specs.Items.{items}
use Rattle.bounded.proofs.Lengths.{has_room, lacks_room}
use Rattle.bounded.proofs.array_vec.ArrayVec.push.Goals as goal

pub returns-then-at-clause-fits : goal.returns-then-at-clause-fits
returns-then-at-clause-fits g c = lacks_room c.args.self.now (c.args.item ∷ []) (omega arith)

pub returns-clause-fits : goal.returns-clause-fits
returns-clause-fits g c = has_room c.args.self.now (c.args.item ∷ []) (omega arith)

pub returns-clause-items : goal.returns-clause-items
unfolding items
returns-clause-items g c = take_more_set c.args.self.now.slots c.args.self.now.len c.args.item (omega arith)
