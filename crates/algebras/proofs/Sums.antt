-- What two algebras answer about a rule, and what their sum does.
use Rattle.std.proofs.Common.{◌≡◌, ℕ, Bool, cond, ◌&&◌, ◌||◌, T, List, Ok, Err, rules}
use Rattle.terms.specs.declared.signature.Signature.{Signature}
use Rattle.terms.specs.Shapes.{is_rule, rule_of}
use Rattle.terms.specs.Models.{arities_of}
use Rattle.terms.proofs.Exactly.{reading, rule_reading}
use Rattle.terms.proofs.Scans.{few_symbols}
use Rattle.algebras.specs.declared.fault.AlgebraFault.TheVariants as fault
use Rattle.algebras.specs.Meanings.{Meaning, Lawful}
use Rattle.algebras.specs.Layers.{sum_means}
use Rattle.algebras.specs.Replies.{order, compared}
use Rattle.algebras.specs.Sums.{both_told, joined_orders}

-- a strict rule is weak, so that the orders tell all that the tests do
joined : (fa fb ok ra rb sa sb wa wb : Bool) → (T fa → T ok → T sa → T wa) → (T fb → T ok → T sb → T wb)
    → joined_orders (both_told (cond (fa && ok) (cond ra (Ok (order sa wa)) (Err fault.RuleOutOfReach)) (Err fault.Unfit)) (cond (fb && ok) (cond rb (Ok (order sb wb)) (Err fault.RuleOutOfReach)) (Err fault.Unfit)))
    ≡ cond ((fa && fb) && ok) (cond (ra && rb) (Ok (order ((wa && wb) && (sa || sb)) (wa && wb))) (Err fault.RuleOutOfReach)) (Err fault.Unfit)
joined fa fb ok ra rb sa sb wa wb p q = search rules

weak_too : (A : Meaning) → Lawful A → (s : Signature) (l r : List ℕ) → T (A.fits (arities_of s)) → T (is_rule (arities_of s) l r)
    → T (A.strict (rule_of (arities_of s) l r)) → T (A.weak (rule_of (arities_of s) l r))
unfolding rule_reading reading
weak_too A law s l r fit ok strict =
    law.strict_weak (arities_of s) fit (rule_of (arities_of s) l r) (rule_reading (arities_of s) (few_symbols (arities_of s) s.limited) l r ok).over_signature strict

pub compared-sum : (A B : Meaning) → Lawful A → Lawful B → (s : Signature) (l r : List ℕ)
    → joined_orders (both_told (compared A (arities_of s) l r) (compared B (arities_of s) l r)) ≡ compared (sum_means A B) (arities_of s) l r
compared-sum A B lawA lawB s l r =
    let x = rule_of (arities_of s) l r in
    joined _ _ _ _ _ (A.strict x) (B.strict x) (A.weak x) (B.weak x) (weak_too A lawA s l r) (weak_too B lawB s l r)
