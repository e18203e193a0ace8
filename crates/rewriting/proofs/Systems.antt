-- What the invariants of systems and subjects give.
use Rattle.std.proofs.Common.{◌≡◌, ℕ, zero, suc, ◌+◌, ◌<◌, ◌≤◌, Bool, cond, T, List, [], ◌∷◌, length, get_or, Some, sym, refl, ap, ◌∙◌, subst, arith}
use Rattle.std.specs.List.{position, position_from}
use Rattle.std.proofs.lemmas.Iterator.Adapters.{position_from-zero}
use Rattle.terms.specs.declared.rule.Rule as kept
use Rattle.terms.specs.declared.system.System as held
use Rattle.terms.specs.Codes.{is_term}
use Rattle.terms.specs.Rules.{Rule, rules_over}
use Rattle.terms.specs.Shapes.{is_rule, rule_of}
use Rattle.terms.specs.Models.{sides_of, all_sides, all_rules}
use Rattle.terms.specs.Systems.{signature_of, listed_rules, rules_from, rules_of}
use Rattle.terms.proofs.Booleans.{fst_of, snd_of}
use Rattle.terms.proofs.Exactly.{rule-parts}
use Rattle.terms.proofs.Made.{rules_read}
use Rattle.terms.proofs.Scans.{few_symbols}
use Rattle.rewriting.specs.declared.place.Place.{Place}
use Rattle.rewriting.specs.Places.{arities_at}
use Rattle.rewriting.specs.Replies.{rule_at}

module _ (s : held.System) where
  pub few_in : length (signature_of s) ≤ 32
  few_in = few_symbols (signature_of s) s.signature.limited

  pub rules_fine : T (rules_over (signature_of s) (rules_of s))
  rules_fine = rules_read (signature_of s) few_in (all_sides (listed_rules s)) s.over

pub length_rules : (sig : List ℕ) (rs : List kept.Rule) → length (rules_from sig (all_sides rs)) ≡ length rs
length_rules sig [] = refl
length_rules sig (r ∷ rs) = let ih = length_rules sig rs in omega arith

pub rule-here : (sig : List ℕ) (rs : List kept.Rule) (i : ℕ) (x : kept.Rule) → i < length rs → x ≡ get_or rs i x → rule_at (rules_from sig (all_sides rs)) i ≡ rule_of sig (sides_of x).left (sides_of x).right
rule-here sig [] i x h e = let z : ⊥ = omega arith in absurd z
rule-here sig (y ∷ rs) zero x h e = ap (λ r. rule_of sig (sides_of r).left (sides_of r).right) (sym e)
rule-here sig (y ∷ rs) (suc i) x h e = rule-here sig rs i x (omega arith) e

pub is_rule-here : (sig : List ℕ) (rs : List kept.Rule) (i : ℕ) (x : kept.Rule) → T (all_rules sig (all_sides rs)) → i < length rs → x ≡ get_or rs i x → T (is_rule sig (sides_of x).left (sides_of x).right)
is_rule-here sig [] i x a h e = let z : ⊥ = omega arith in absurd z
is_rule-here sig (y ∷ rs) zero x a h e = subst (λ r. T (is_rule sig (sides_of r).left (sides_of r).right)) (sym e) (fst_of (is_rule sig (sides_of y).left (sides_of y).right) _ a)
is_rule-here sig (y ∷ rs) (suc i) x a h e = is_rule-here sig rs i x (snd_of (is_rule sig (sides_of y).left (sides_of y).right) _ a) (omega arith) e

pub left_term : (p : Place) (rs : List kept.Rule) (i : ℕ) (x : kept.Rule) → T (all_rules (arities_at p) (all_sides rs)) → i < length rs → x ≡ get_or rs i x → T (is_term (arities_at p) (sides_of x).left)
left_term p rs i x a h e =
    (rule-parts (arities_at p) (few_symbols (arities_at p) p.signature.now.limited) (sides_of x).left (sides_of x).right (is_rule-here (arities_at p) rs i x a h e)).left_term

-- rules as they are kept, and as terms
module _ (sig : List ℕ) (test : Rule → Bool) where
  kept_test : kept.Rule → Bool
  kept_test r = test (rule_of sig (sides_of r).left (sides_of r).right)

  rules_at : (n : ℕ) (rs : List kept.Rule) → position_from kept_test n rs ≡ position_from test n (rules_from sig (all_sides rs))
  unfolding kept_test
  rules_at n [] = refl
  rules_at n (r ∷ rs) = ap (λ o. cond (kept_test r) (Some n) o) (rules_at (n + 1) rs)

  pub position_of_kept : (rs : List kept.Rule) → position (λ r. test (rule_of sig (sides_of r).left (sides_of r).right)) rs ≡ position test (rules_from sig (all_sides rs))
  unfolding kept_test
  position_of_kept rs = position_from-zero kept_test rs ∙ rules_at 0 rs ∙ sym (position_from-zero test (rules_from sig (all_sides rs)))
