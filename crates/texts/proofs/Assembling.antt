-- A system put together from the sides of its rules.
use Rattle.std.proofs.Common.{◌≡◌, ℕ, zero, suc, ◌+◌, ◌<◌, true, T, List, [], ◌∷◌, ◌++◌, length, get_or, take, sym, ap, ◌∙◌, ap₂, arith}
use Rattle.std.proofs.lemmas.List.{take_more, map-append}
use Rattle.bounded.specs.Items.{items}
use Rattle.terms.specs.declared.rule.Rule.{Rule}
use Rattle.terms.specs.Shapes.{is_proper, is_rule}
use Rattle.terms.specs.Models.{sides_of, all_sides, all_rules}
use Rattle.terms.proofs.Booleans.{fst_of, snd_of, holds}
use Rattle.texts.specs.declared.parts.RuleCodes.{RuleCodes}
use Rattle.texts.specs.Parts.{rule_of, rules_of}

-- sides that are a rule over a signature are a rule
pub proper_at : (sig : List ℕ) (xs : List RuleCodes) (i : ℕ) (x : RuleCodes) → T (all_rules sig (rules_of xs)) → i < length xs → is_proper (items (get_or xs i x).left) (items (get_or xs i x).right) ≡ true
proper_at sig [] i x h l = let z : ⊥ = omega arith in absurd z
proper_at sig (y ∷ xs) zero x h l = holds _ (fst_of (is_proper (items y.left) (items y.right)) _ (fst_of (is_rule sig (items y.left) (items y.right)) _ h))
proper_at sig (y ∷ xs) (suc i) x h l = proper_at sig xs i x (snd_of (is_rule sig (items y.left) (items y.right)) _ h) (omega arith)

-- one more rule
pub rules_more : (xs : List RuleCodes) (i : ℕ) (x : RuleCodes) → x ≡ get_or xs i x → i < length xs → (rs : List Rule) → all_sides rs ≡ rules_of (take i xs) → (r : Rule) → sides_of r ≡ rule_of x → all_sides (rs ++ r ∷ []) ≡ rules_of (take (i + 1) xs)
rules_more xs i x is lt rs inv r e =
    map-append sides_of rs (r ∷ []) ∙ ap₂ (λ l s. l ++ s ∷ []) inv e ∙ sym (map-append rule_of (take i xs) (x ∷ [])) ∙ ap (λ y. rules_of (take i xs ++ y ∷ [])) is ∙ ap rules_of (sym (take_more xs i x lt))
