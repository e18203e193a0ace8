-- A system's signature and rules, as the code holds them and as terms.
use Rattle.std.specs.Prelude.{ℕ, cond, ◌&&◌, List, [], ◌∷◌, length, Ok, Err, Result, nat_le}
use Rattle.bounded.specs.Items.{items}
use Rattle.terms.specs.declared.rule.Rule as kept
use Rattle.terms.specs.declared.system.System as held
use Rattle.terms.specs.declared.malformed.Malformed.{Malformed}
use Rattle.terms.specs.declared.malformed.Malformed.TheVariants as malformed
use Rattle.terms.specs.Limits.{most_rules}
use Rattle.terms.specs.Rules.{Rule}
use Rattle.terms.specs.Shapes.{rule_of}
use Rattle.terms.specs.Models.{arities_of, Sides, all_sides, all_rules}

abbrev pub signature_of : held.System → List ℕ
signature_of s = arities_of s.signature

abbrev pub listed_rules : held.System → List kept.Rule
listed_rules s = items s.rules

-- a system by its codes
pub record System : Type 0 where
  pub arities : List ℕ
  pub rules : List Sides

abbrev pub system_of : held.System → System
system_of s = record { arities = signature_of s; rules = all_sides (listed_rules s) }

-- the rules that sides stand for
abbrev pub rules_from : List ℕ → List Sides → List Rule
rules_from sig [] = []
rules_from sig (s ∷ ss) = rule_of sig s.left s.right ∷ rules_from sig ss

abbrev pub rules_of : held.System → List Rule
rules_of s = rules_from (signature_of s) (all_sides (listed_rules s))

abbrev pub system_reply : List ℕ → List Sides → Result System Malformed
system_reply sig rules = cond (nat_le (length rules) most_rules && all_rules sig rules) (Ok record { arities = sig; rules = rules }) (Err malformed.System)
