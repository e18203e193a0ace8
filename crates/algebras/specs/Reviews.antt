-- What a review of a system by an algebra answers, and what that means.
use Rattle.std.specs.Prelude.{◌≡◌, ℕ, ◌+◌, ◌<◌, Bool, false, cond, ◌&&◌, T, List, [], ◌∷◌, Ok, Err, Result}
use Rattle.refusals.specs.declared.Refusal.{Refusal}
use Rattle.refusals.specs.declared.Layer.TheVariants.{Review}
use Rattle.terms.specs.Terms.{Term, over}
use Rattle.terms.specs.Rules.{Rule, Numbered}
use Rattle.terms.specs.Models.{Sides}
use Rattle.algebras.specs.declared.fault.AlgebraFault.{AlgebraFault}
use Rattle.algebras.specs.declared.fault.AlgebraFault.TheVariants as fault
use Rattle.algebras.specs.declared.order.Order.{Order}
use Rattle.algebras.specs.declared.order.Order.TheVariants.{Strict, Weak, Neither}
use Rattle.algebras.specs.declared.reviewing.ReviewFault.{ReviewFault}
use Rattle.algebras.specs.declared.reviewing.ReviewFault.TheVariants as flaw
use Rattle.algebras.specs.Meanings.{Meaning}
use Rattle.algebras.specs.Replies.{compared}
use Rattle.algebras.specs.Bounds.{Bounded}

-- each fault's number, layer and place: the place is the rule's number
abbrev pub review_refusal : ReviewFault → Refusal
review_refusal flaw.Unfit = record { number = 36; layer = Review; place = 0 }
review_refusal (flaw.RuleOutOfReach n) = record { number = 32; layer = Review; place = n }
review_refusal (flaw.RuleNotWeak n) = record { number = 34; layer = Review; place = n }
review_refusal (flaw.RuleWeakOnly n) = record { number = 33; layer = Review; place = n }

-- what an order says of the rule of a number; a system's rules under a signature that fits are never a misfit
abbrev pub judged : ℕ → Result Order AlgebraFault → Result (Unit {0}) ReviewFault
judged n (Ok Strict) = Ok tt
judged n (Ok Weak) = Err (flaw.RuleWeakOnly n)
judged n (Ok Neither) = Err (flaw.RuleNotWeak n)
judged n (Err fault.HeightOutOfReach) = Err flaw.Unfit
judged n (Err fault.RuleOutOfReach) = Err (flaw.RuleOutOfReach n)
judged n (Err fault.CeilingOutOfReach) = Err flaw.Unfit
judged n (Err fault.Unfit) = Err flaw.Unfit
judged n (Err fault.SizeOutOfRange) = Err flaw.Unfit

-- the first answer that is a fault
abbrev pub and_then : Result (Unit {0}) ReviewFault → Result (Unit {0}) ReviewFault → Result (Unit {0}) ReviewFault
and_then (Ok x) later = later
and_then (Err e) later = Err e

-- rules in their order, numbered from n on
abbrev pub rules_reply : Meaning → List ℕ → ℕ → List Sides → Result (Unit {0}) ReviewFault
rules_reply A sig n [] = Ok tt
rules_reply A sig n (s ∷ ss) = and_then (judged n (compared A sig s.left s.right)) (rules_reply A sig (n + 1) ss)

abbrev pub review_reply : Meaning → List ℕ → List Sides → Result (Unit {0}) ReviewFault
review_reply A sig ss = cond (A.fits sig) (rules_reply A sig 0 ss) (Err flaw.Unfit)

-- a rule that passes
abbrev pub passes : Meaning → Rule → Bool
passes A x = A.readable x && A.strict x

-- the first rule that does not pass, and what its tests come to
pub record Stopped (A : Meaning) (sig : List ℕ) (rules : List Rule) (n : ℕ) (Why : Rule → Type 0) : Type 0 where
  pub fits : T (A.fits sig)
  pub rule : Rule
  pub listed : Numbered rules n rule
  pub first : (m : ℕ) (x : Rule) → m < n → Numbered rules m x → T (passes A x)
  pub why : Why rule

-- what a review that passes says
pub record Passed (A : Meaning) (sig : List ℕ) (rules : List Rule) : Type 0 where
  pub fits : T (A.fits sig)
  pub all : (n : ℕ) (x : Rule) → Numbered rules n x → T (passes A x)
  pub bounded : (t : Term) → T (over sig t) → Bounded sig rules A t

-- the cases exclude each other: each says exactly what was found
abbrev pub Reviewed : Meaning → List ℕ → List Rule → Result (Unit {0}) ReviewFault → Type 0
Reviewed A sig rules (Ok x) = Passed A sig rules
Reviewed A sig rules (Err flaw.Unfit) = A.fits sig ≡ false
Reviewed A sig rules (Err (flaw.RuleOutOfReach n)) = Stopped A sig rules n (λ x. A.readable x ≡ false)
Reviewed A sig rules (Err (flaw.RuleNotWeak n)) = Stopped A sig rules n (λ x. T (A.readable x) × (A.weak x ≡ false))
Reviewed A sig rules (Err (flaw.RuleWeakOnly n)) = Stopped A sig rules n (λ x. T (A.readable x) × T (A.weak x) × (A.strict x ≡ false))
