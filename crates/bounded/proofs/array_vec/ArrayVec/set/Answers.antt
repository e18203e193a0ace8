use Rattle.bounded.specs.Items.{items}
use Rattle.bounded.proofs.Lengths.{take_of_set}
use Rattle.bounded.proofs.array_vec.ArrayVec.set.Goals as goal

pub returns-clause-items : goal.returns-clause-items
unfolding items
returns-clause-items g c = take_of_set c.args.self.now.len c.args.self.now.slots c.args.place c.args.item
