-- What the values of the code stand for: arities and sides, as lists of numbers.
use Rattle.std.specs.Prelude.{ℕ, Bool, List, map}
use Rattle.std.specs.List.{list_all}
use Rattle.bounded.specs.Items.{items}
use Rattle.terms.specs.declared.signature.Signature.{Signature}
use Rattle.terms.specs.declared.rule.Rule as kept
use Rattle.terms.specs.Shapes.{is_rule}

abbrev pub arities_of : Signature → List ℕ
arities_of s = items s.arities

-- the codes of a rule's sides
pub record Sides : Type 0 where
  pub left : List ℕ
  pub right : List ℕ

abbrev pub sides_of : kept.Rule → Sides
sides_of r = record { left = items r.left; right = items r.right }

abbrev pub all_sides : List kept.Rule → List Sides
all_sides rs = map sides_of rs

-- whether all are rules over a signature
abbrev pub all_rules : List ℕ → List Sides → Bool
all_rules sig ss = list_all (λ s. is_rule sig s.left s.right) ss
