-- How the answers of two algebras become that of their sum.
use Rattle.std.specs.Prelude.{ℕ, ◌+◌, cond, Some, None, Ok, Err, Option, Result, nat_le}
use Rattle.algebras.specs.declared.fault.AlgebraFault.{AlgebraFault}
use Rattle.algebras.specs.declared.fault.AlgebraFault.TheVariants as fault
use Rattle.algebras.specs.declared.order.Order.{Order}
use Rattle.algebras.specs.declared.order.Order.TheVariants.{Strict, Weak, Neither}
use Rattle.algebras.specs.Meanings.{reach}
use Rattle.algebras.specs.Replies.{ceiling_told}

-- a number, where it is within reach
abbrev pub reached : ℕ → Option ℕ
reached n = cond (nat_le n reach) (Some n) None

-- of two faults the one that comes first: a misfit comes before what is out of reach
abbrev pub first_fault : AlgebraFault → AlgebraFault → AlgebraFault
first_fault fault.HeightOutOfReach f = f
first_fault fault.RuleOutOfReach f = f
first_fault fault.CeilingOutOfReach f = f
first_fault fault.Unfit f = fault.Unfit
first_fault fault.SizeOutOfRange f = f

-- two answers as one
abbrev pub both_told : {X : Type 0} → Result X AlgebraFault → Result X AlgebraFault → Result (X × X) AlgebraFault
both_told (Ok x) (Ok y) = Ok (x, y)
both_told (Ok x) (Err f) = Err f
both_told (Err e) (Ok y) = Err e
both_told (Err e) (Err f) = Err (first_fault e f)

-- two heights added, where the sum is within reach
abbrev pub added_heights : Result (ℕ × ℕ) AlgebraFault → Result ℕ AlgebraFault
added_heights (Ok p) = cond (nat_le (p.0 + p.1) reach) (Ok (p.0 + p.1)) (Err fault.HeightOutOfReach)
added_heights (Err e) = Err e

-- strict if one is strict and the other at least weak
abbrev pub joined_order : Order → Order → Order
joined_order Strict Strict = Strict
joined_order Strict Weak = Strict
joined_order Strict Neither = Neither
joined_order Weak o = o
joined_order Neither o = Neither

abbrev pub joined_orders : Result (Order × Order) AlgebraFault → Result Order AlgebraFault
joined_orders (Ok p) = Ok (joined_order p.0 p.1)
joined_orders (Err e) = Err e

-- two ceilings added: none where one has none, else out of reach where one alone is
abbrev pub added_ceilings : Result (Option ℕ) AlgebraFault → Result (Option ℕ) AlgebraFault → Result (Option ℕ) AlgebraFault
added_ceilings (Ok None) b = Ok None
added_ceilings (Ok (Some c)) (Ok None) = Ok None
added_ceilings (Ok (Some c)) (Ok (Some d)) = ceiling_told (Some (c + d))
added_ceilings (Ok (Some c)) (Err f) = Err f
added_ceilings (Err e) (Ok None) = Ok None
added_ceilings (Err e) (Ok (Some d)) = Err e
added_ceilings (Err e) (Err f) = Err e
