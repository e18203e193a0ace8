-- How orders are printed.
use Rattle.std.specs.Prelude.{ℕ, List, codes}
use Rattle.algebras.specs.declared.order.Order.{Order}
use Rattle.algebras.specs.declared.order.Order.TheVariants.{Strict, Weak, Neither}

abbrev pub order_word : Order → List ℕ
order_word Strict = codes "strict"
order_word Weak = codes "weak"
order_word Neither = codes "neither"
