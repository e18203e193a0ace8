use Rattle.std.proofs.Common.{◌≡◌, take}
use Rattle.bounded.specs.Items.{items}
use Rattle.terms.specs.Models.{all_sides}
use Rattle.texts.specs.Parts.{rules_of}
use Rattle.texts.proofs.named_system.calls.system_from.Given as goal

abbrev pub invariant-loop-sides : goal.invariant-loop-sides
invariant-loop-sides l = all_sides (items l.rules) ≡ rules_of (take l.sides-index (items l.codes))
