-- What the answers of an algebra mean, in terms of trees: each law says exactly when which answer comes.
use Rattle.std.specs.Prelude.{◌≡◌, ℕ, ◌<◌, ◌≤◌, Bool, true, false, T, List, Some, None, Ok, Err, Option, Result}
use Rattle.terms.specs.Limits.{most_term}
use Rattle.terms.specs.Terms.{Term, codes, size, over}
use Rattle.terms.specs.Rules.{Rule, rule_over}
use Rattle.terms.specs.Laws.{Reading, RuleReading, Short, coded_rule}
use Rattle.algebras.specs.declared.fault.AlgebraFault.{AlgebraFault}
use Rattle.algebras.specs.declared.fault.AlgebraFault.TheVariants as fault
use Rattle.algebras.specs.declared.order.Order.{Order}
use Rattle.algebras.specs.declared.order.Order.TheVariants.{Strict, Weak, Neither}
use Rattle.algebras.specs.Meanings.{Meaning, reach}
use Rattle.algebras.specs.Replies.{order_of}

-- codes of a term over a signature that fits, and whether its height is given
pub record Measurable (A : Meaning) (sig cs : List ℕ) (given : Bool) : Type 0 where
  pub fits : T (A.fits sig)
  pub read : Reading sig cs
  pub given_is : A.given read.term ≡ given

-- what an answer to `measure` says
abbrev pub HeightTold : Meaning → List ℕ → List ℕ → Result ℕ AlgebraFault → Type 0
HeightTold A sig cs (Ok h) = (m : Measurable A sig cs true) × (A.height m.read.term ≡ h) × (h ≤ reach)
HeightTold A sig cs (Err fault.HeightOutOfReach) = Measurable A sig cs false
HeightTold A sig cs (Err fault.RuleOutOfReach) = ⊥
HeightTold A sig cs (Err fault.CeilingOutOfReach) = ⊥
HeightTold A sig cs (Err fault.Unfit) = T (A.fits sig) → Reading sig cs → ⊥
HeightTold A sig cs (Err fault.SizeOutOfRange) = ⊥

-- a height is told exactly if the codes are those of a term over a signature that fits, and it is given
pub record MeasuredExactly (A : Meaning) (sig cs : List ℕ) (r : Result ℕ AlgebraFault) : Type 0 where
  pub told : HeightTold A sig cs r
  pub complete : T (A.fits sig) → (t : Term) → T (over sig t) → size t ≤ most_term → codes t ≡ cs → T (A.given t) → r ≡ Ok (A.height t)

-- sides of a rule over a signature that fits, and what its tests come to
pub record Comparable (A : Meaning) (sig l r : List ℕ) (strict weak : Bool) : Type 0 where
  pub fits : T (A.fits sig)
  pub read : RuleReading sig l r
  pub readable : T (A.readable read.rule)
  pub strict_is : A.strict read.rule ≡ strict
  pub weak_is : A.weak read.rule ≡ weak

-- what an answer to `compare` says
abbrev pub OrderTold : Meaning → List ℕ → List ℕ → List ℕ → Result Order AlgebraFault → Type 0
OrderTold A sig l r (Ok Strict) = Comparable A sig l r true true
OrderTold A sig l r (Ok Weak) = Comparable A sig l r false true
OrderTold A sig l r (Ok Neither) = Comparable A sig l r false false
OrderTold A sig l r (Err fault.HeightOutOfReach) = ⊥
OrderTold A sig l r (Err fault.RuleOutOfReach) = T (A.fits sig) × ((x : RuleReading sig l r) × (A.readable x.rule ≡ false))
OrderTold A sig l r (Err fault.CeilingOutOfReach) = ⊥
OrderTold A sig l r (Err fault.Unfit) = T (A.fits sig) → RuleReading sig l r → ⊥
OrderTold A sig l r (Err fault.SizeOutOfRange) = ⊥

-- an order is told exactly if the sides are those of a rule over a signature that fits, and it is readable
pub record ComparedExactly (A : Meaning) (sig l r : List ℕ) (answer : Result Order AlgebraFault) : Type 0 where
  pub told : OrderTold A sig l r answer
  pub complete : T (A.fits sig) → (x : Rule) → T (rule_over sig x) → Short x → coded_rule x ≡ record { left = l; right = r } → T (A.readable x)
      → answer ≡ Ok (order_of A x)

-- a size that a term within the limit may have
abbrev pub Sized : ℕ → Type 0
Sized n = (1 ≤ n) × (n ≤ most_term)

-- what an answer to `ceiling` says
abbrev pub CeilingTold : Meaning → ℕ → Result (Option ℕ) AlgebraFault → Type 0
CeilingTold A n (Ok None) = Sized n × (A.ceiling n ≡ None)
CeilingTold A n (Ok (Some c)) = Sized n × (A.ceiling n ≡ Some c) × (c ≤ reach)
CeilingTold A n (Err fault.HeightOutOfReach) = ⊥
CeilingTold A n (Err fault.RuleOutOfReach) = ⊥
CeilingTold A n (Err fault.CeilingOutOfReach) = (c : ℕ) × Sized n × (A.ceiling n ≡ Some c) × (reach < c)
CeilingTold A n (Err fault.Unfit) = ⊥
CeilingTold A n (Err fault.SizeOutOfRange) = Sized n → ⊥

-- a ceiling is told exactly if the size is in range and it is within reach; it bounds the heights of all terms of that size
pub record CeilingExactly (A : Meaning) (n : ℕ) (r : Result (Option ℕ) AlgebraFault) : Type 0 where
  pub told : CeilingTold A n r
  pub none : Sized n → A.ceiling n ≡ None → r ≡ Ok None
  pub complete : Sized n → (c : ℕ) → c ≤ reach → A.ceiling n ≡ Some c → r ≡ Ok (Some c)
  pub bounds : (c : ℕ) → r ≡ Ok (Some c) → (sig : List ℕ) → T (A.fits sig) → (t : Term) → T (over sig t) → size t ≡ n → A.height t ≤ c
