-- What the calls answer.
use Rattle.std.specs.Prelude.{ℕ, ◌+◌, cond, ◌&&◌, List, length, drop, Some, None, Ok, Err, Option, Result, nat_le, nat_lt}
use Rattle.refusals.specs.declared.Refusal.{Refusal}
use Rattle.refusals.specs.declared.Layer.TheVariants.{Review}
use Rattle.terms.specs.declared.malformed.Malformed.{Malformed}
use Rattle.terms.specs.declared.malformed.Malformed.TheVariants as malformed
use Rattle.terms.specs.Limits.{most_term}
use Rattle.terms.specs.Codes.{is_term, span}
use Rattle.terms.specs.Shapes.{is_signature, is_proper}
use Rattle.terms.specs.Models.{Sides}

-- an answer, with what its value stands for in the place of the value
abbrev pub viewed : {X Y E : Type 0} → (X → Y) → Result X E → Result Y E
viewed f (Ok x) = Ok (f x)
viewed f (Err e) = Err e

-- each fault's number, layer and place
abbrev pub malformed_refusal : Malformed → Refusal
malformed_refusal malformed.Signature = record { number = 36; layer = Review; place = 0 }
malformed_refusal malformed.Rule = record { number = 36; layer = Review; place = 0 }
malformed_refusal malformed.System = record { number = 36; layer = Review; place = 0 }
malformed_refusal malformed.Term = record { number = 36; layer = Review; place = 0 }

abbrev pub signature_reply : List ℕ → Result (List ℕ) Malformed
signature_reply arities = cond (is_signature arities) (Ok arities) (Err malformed.Signature)

abbrev pub rule_reply : List ℕ → List ℕ → Result Sides Malformed
rule_reply l r = cond (is_proper l r) (Ok record { left = l; right = r }) (Err malformed.Rule)

abbrev pub span_reply : List ℕ → List ℕ → ℕ → ℕ
span_reply sig cs at = cond (nat_le (length cs) most_term) (span sig 1 (drop at cs)) 0

abbrev pub end_reply : List ℕ → List ℕ → ℕ → Option ℕ
end_reply sig cs at = cond (is_term sig cs && nat_lt at (length cs)) (Some (at + span sig 1 (drop at cs))) None
