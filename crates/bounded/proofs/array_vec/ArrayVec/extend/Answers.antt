use Rattle.std.proofs.Common.{◌+◌, ◌-◌, ◌++◌, length, take, ap, ◌∙◌, sym, arith}
use Rattle.std.proofs.lemmas.Slice.{take-put_mid}
use Rattle.bounded.specs.Items.{items}
use Rattle.bounded.proofs.Lengths.{has_room, lacks_room}
use Rattle.bounded.proofs.array_vec.ArrayVec.extend.Goals as goal

pub returns-then-more-start-clause-fits : goal.returns-then-more-start-clause-fits
returns-then-more-start-clause-fits g c = lacks_room c.args.self.now c.args.more.now (omega arith)

pub returns-clause-fits : goal.returns-clause-fits
returns-clause-fits g c = has_room c.args.self.now c.args.more.now (omega arith)

pub returns-clause-items : goal.returns-clause-items
unfolding items
returns-clause-items g c =
    let v = c.args.self.now in
    let whole = v.whole in
    let within = v.within in
    let new = c.copy_from_slice.ensures.after in
    take-put_mid v.len (v.len + length c.args.more.now - v.len) v.slots c.copy_from_slice.new.self (v.len + length c.args.more.now) (ap (λ l. v.len + length l) (sym new)) (omega arith)
    ∙ ap (λ l. take v.len v.slots ++ l) new
