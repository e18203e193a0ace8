-- Which parts are strict on a rule.
use Rattle.std.specs.Prelude.{ℕ, Bool, true, false, List, Ok, Err, Result}
use Rattle.terms.specs.Models.{Sides}
use Rattle.algebras.specs.declared.fault.AlgebraFault.{AlgebraFault}
use Rattle.algebras.specs.declared.order.Order.{Order}
use Rattle.algebras.specs.declared.order.Order.TheVariants.{Strict, Weak, Neither}
use Rattle.algebras.specs.Replies.{compared}
use Rattle.piles.specs.declared.part.Part.{Part}
use Rattle.piles.specs.Parts.{part_algebra}

abbrev pub strictly : Result Order AlgebraFault → Bool
strictly (Ok Strict) = true
strictly (Ok Weak) = false
strictly (Ok Neither) = false
strictly (Err e) = false

-- whether a part alone finds the rule of two sides strict
abbrev pub is_strict : Part → List ℕ → Sides → Bool
is_strict part sig sides = strictly (compared (part_algebra part) sig sides.left sides.right)
