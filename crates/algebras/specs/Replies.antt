-- What an algebra answers, with the tests in the order in which they are made.
use Rattle.std.specs.Prelude.{ℕ, Bool, true, false, cond, ◌&&◌, List, Some, None, Ok, Err, Option, Result, nat_le}
use Rattle.refusals.specs.declared.Refusal.{Refusal}
use Rattle.refusals.specs.declared.Layer.TheVariants.{Review}
use Rattle.terms.specs.Limits.{most_term}
use Rattle.terms.specs.Rules.{Rule}
use Rattle.terms.specs.Codes.{is_term, term_of}
use Rattle.terms.specs.Shapes.{is_rule, rule_of}
use Rattle.algebras.specs.declared.fault.AlgebraFault.{AlgebraFault}
use Rattle.algebras.specs.declared.fault.AlgebraFault.TheVariants as fault
use Rattle.algebras.specs.declared.order.Order.{Order}
use Rattle.algebras.specs.declared.order.Order.TheVariants.{Strict, Weak, Neither}
use Rattle.algebras.specs.Meanings.{Meaning, reach}

-- each fault's number, layer and place
abbrev pub algebra_refusal : AlgebraFault → Refusal
algebra_refusal fault.HeightOutOfReach = record { number = 31; layer = Review; place = 0 }
algebra_refusal fault.RuleOutOfReach = record { number = 32; layer = Review; place = 0 }
algebra_refusal fault.CeilingOutOfReach = record { number = 35; layer = Review; place = 0 }
algebra_refusal fault.Unfit = record { number = 36; layer = Review; place = 0 }
algebra_refusal fault.SizeOutOfRange = record { number = 24; layer = Review; place = 0 }

-- the height of the term that codes stand for, where it is given
abbrev pub measured : Meaning → List ℕ → List ℕ → Result ℕ AlgebraFault
measured A sig cs =
    cond (A.fits sig && is_term sig cs) (cond (A.given (term_of sig cs)) (Ok (A.height (term_of sig cs))) (Err fault.HeightOutOfReach)) (Err fault.Unfit)

-- the order that a rule's two tests come to
abbrev pub order : Bool → Bool → Order
order true weak = Strict
order false true = Weak
order false false = Neither

-- the order of a rule
abbrev pub order_of : Meaning → Rule → Order
order_of A x = order (A.strict x) (A.weak x)

-- that of the rule which two sides stand for, where it is readable
abbrev pub compared : Meaning → List ℕ → List ℕ → List ℕ → Result Order AlgebraFault
compared A sig l r =
    cond (A.fits sig && is_rule sig l r) (cond (A.readable (rule_of sig l r)) (Ok (order_of A (rule_of sig l r))) (Err fault.RuleOutOfReach)) (Err fault.Unfit)

-- whether a term that is handed in may have this size
abbrev pub is_size : ℕ → Bool
is_size n = nat_le 1 n && nat_le n most_term

-- whether it may, as an answer
abbrev pub size_reply : ℕ → Result (Unit {0}) AlgebraFault
size_reply n = cond (is_size n) (Ok tt) (Err fault.SizeOutOfRange)

-- a ceiling, where it is within reach, or none
abbrev pub ceiling_told : Option ℕ → Result (Option ℕ) AlgebraFault
ceiling_told None = Ok None
ceiling_told (Some c) = cond (nat_le c reach) (Ok (Some c)) (Err fault.CeilingOutOfReach)

-- the ceiling at a size
abbrev pub ceiling_reply : Meaning → ℕ → Result (Option ℕ) AlgebraFault
ceiling_reply A n = cond (is_size n) (ceiling_told (A.ceiling n)) (Err fault.SizeOutOfRange)
