-- What is told of a part under a signature that is its own.
use Rattle.std.proofs.Common.{◌≡◌, ℕ, ◌≤◌, Bool, true, false, cond, ◌&&◌, eqb, leb, List, [], ◌∷◌, length, Some, None, Ok, Err, sym, refl, ap, ◌∙◌, ap₂, arith, leb→le}
use Rattle.std.specs.Cmp.Lexicographic.{pointwise}
use Rattle.std.specs.Option.{ok_or}
use Rattle.std.proofs.lemmas.Bool.{le-leb}
use Rattle.terms.specs.Rules.{Rule}
use Rattle.terms.specs.Codes.{is_term, term_of, counts}
use Rattle.terms.specs.Shapes.{is_rule, rule_of}
use Rattle.terms.proofs.Booleans.{fst_of, held}
use Rattle.algebras.specs.declared.fault.AlgebraFault.TheVariants as fault
use Rattle.algebras.specs.Meanings.{Meaning}
use Rattle.algebras.specs.Replies.{measured, compared}
use Rattle.interpretations.specs.Numbers.{same_list}
use Rattle.interpretations.specs.Parts.{Part, height}
use Rattle.interpretations.specs.Orders.{given, readable, part_means, no_ceiling}
use Rattle.interpretations.proofs.Tests.{same_list_eq}
use Rattle.forms.specs.Replies.{height_reply, compare_reply, rule_order}

-- the equality of slices
pub pointwise_same_list : (xs ys : List ℕ) → pointwise eqb xs ys ≡ same_list xs ys
pointwise_same_list [] [] = refl
pointwise_same_list [] (y ∷ ys) = refl
pointwise_same_list (x ∷ xs) [] = refl
pointwise_same_list (x ∷ xs) (y ∷ ys) = ap (λ b. eqb x y && b) (pointwise_same_list xs ys)

or_fault : {X E : Type 0} (b : Bool) (x : X) (e : E) → ok_or (cond b (Some x) None) e ≡ cond b (Ok x) (Err e)
or_fault true x e = refl
or_fault false x e = refl

module _ (P : Part) (sig : List ℕ) (fits : same_list sig P.sig ≡ true) (places : ℕ) where
  abbrev means : Meaning
  means = part_means P no_ceiling

  own : P.sig ≡ sig
  own = sym (same_list_eq sig P.sig (held _ fits))

  pub told_height : 1024 ≤ places → (cs : List ℕ) → is_term sig cs ≡ true → ok_or (height_reply P cs places) fault.HeightOutOfReach ≡ measured means sig cs
  told_height room cs term =
      let few = leb→le (length cs) 1024 (fst_of (leb (length cs) 1024) (counts sig 1 cs) (held _ term)) in
      ap (λ s. ok_or (cond ((is_term s cs && leb (length cs) places) && given P (term_of s cs)) (Some (height P (term_of s cs))) None) fault.HeightOutOfReach) own
      ∙ ap₂ (λ a b. ok_or (cond ((a && b) && given P (term_of sig cs)) (Some (height P (term_of sig cs))) None) fault.HeightOutOfReach) term (le-leb (length cs) places (omega arith))
      ∙ or_fault (given P (term_of sig cs)) (height P (term_of sig cs)) fault.HeightOutOfReach
      ∙ sym (ap₂ (λ a b. cond (a && b) (cond (given P (term_of sig cs)) (Ok (height P (term_of sig cs))) (Err fault.HeightOutOfReach)) (Err fault.Unfit)) fits term)

  pub told_rule : 32 ≤ places → (l r : List ℕ) → is_rule sig l r ≡ true → ok_or (compare_reply P l r places) fault.RuleOutOfReach ≡ compared means sig l r
  told_rule room l r rule =
      let x : Rule = rule_of sig l r in
      ap (λ s. ok_or (cond ((is_rule s l r && leb 32 places) && readable P (rule_of s l r)) (Some (rule_order P (rule_of s l r))) None) fault.RuleOutOfReach) own
      ∙ ap₂ (λ a b. ok_or (cond ((a && b) && readable P x) (Some (rule_order P x)) None) fault.RuleOutOfReach) rule (le-leb 32 places room)
      ∙ or_fault (readable P x) (rule_order P x) fault.RuleOutOfReach
      ∙ sym (ap₂ (λ a b. cond (a && b) (cond (readable P x) (Ok (rule_order P x)) (Err fault.RuleOutOfReach)) (Err fault.Unfit)) fits rule)
