-- What the calls answer is what the part says.
use Rattle.std.proofs.Common.{◌≡◌, ℕ, ◌≤◌, Bool, true, false, cond, ◌&&◌, T, ltb, List, length, Some, None, Option, sym, refl, ap, ◌∙◌, subst, ap₂, arith}
use Rattle.std.specs.Option.{option_map, option_and_then}
use Rattle.std.proofs.lemmas.Bool.{le-leb}
use Rattle.terms.specs.Rules.{Rule}
use Rattle.terms.specs.Codes.{is_term, term_of}
use Rattle.terms.specs.Shapes.{is_rule, rule_of}
use Rattle.terms.specs.Models.{arities_of}
use Rattle.terms.specs.declared.signature.Signature.{Signature}
use Rattle.terms.proofs.Booleans.{holds}
use Rattle.terms.proofs.Scans.{few_symbols}
use Rattle.terms.proofs.Exactly.{rule-parts, side_length}
use Rattle.algebras.specs.Replies.{order}
use Rattle.algebras.specs.declared.order.Order.{Order}
use Rattle.evaluation.specs.Subterms.{throughout}
use Rattle.evaluation.specs.Structures as structure
use Rattle.evaluation.specs.Structures.{near}
use Rattle.evaluation.specs.Replies.{ready, evaluated}
use Rattle.evaluation.proofs.Evaluated.{is_ready}
use Rattle.interpretations.specs.Parts.{Part}
use Rattle.interpretations.specs.Orders.{readable}
use Rattle.forms.specs.Columns.{Columns, forms, single}
use Rattle.forms.specs.Faithful.{Faithful, Limited}
use Rattle.forms.specs.Replies.{height_reply, compare_reply, rule_order, forms_order}
use Rattle.forms.proofs.Tied.{single-entry, single-given, flat_constant}
use Rattle.forms.proofs.Compared.{forms-readable, columns_weak}

-- what comes out of tests, of one value and of two
mapped : {X Y : Type 0} (f : X → Y) (a b : Bool) (x : X) → option_map f (cond a (cond b (Some x) None) None) ≡ cond (a && b) (Some (f x)) None
mapped f true true x = refl
mapped f true false x = refl
mapped f false b x = refl

paired : {X Y Z : Type 0} (f : X → Y → Z) (a b : Bool) (x : X) (y : Y)
    → option_and_then (λ u. option_map (f u) (cond b (Some y) None)) (cond a (Some x) None) ≡ cond (a && b) (Some (f x y)) None
paired f true true x y = refl
paired f true false x y = refl
paired f false b x y = refl

no_second : {X Z : Type 0} (o : Option X) → ◌≡◌ {A = Option Z} (option_and_then (λ u. None) o) None
no_second None = refl
no_second (Some u) = refl

module _ {C : Type 0} (m : Columns C) (entry : C → ℕ → ℕ) (P : Part) (faith : Faithful m entry P) (limited : Limited P) where
  pub told_height : (cs : List ℕ) (places : ℕ) → option_map (λ v. entry v 0) (evaluated (single m) P.sig cs places) ≡ height_reply P cs places
  told_height cs places =
      let t = term_of P.sig cs in
      mapped (λ v. entry v 0) (ready P.sig cs places) (throughout (near (single m)) t) (structure.value (single m) t)
      ∙ ap₂ (λ b n. cond (ready P.sig cs places && b) (Some n) None) (single-given m entry P faith t) (single-entry m entry P faith t 0 limited.some)

  module _ (s : Signature) (own : arities_of s ≡ P.sig) (l r : List ℕ) (places : ℕ) where
    few : length P.sig ≤ 32
    few = subst (λ sig. length sig ≤ 32) own (few_symbols (arities_of s) s.limited)

    abbrev rule : Rule
    rule = rule_of P.sig l r

    abbrev form : List ℕ → Option (List C)
    form cs = evaluated (forms m) P.sig cs places

    abbrev ordered : List C → List C → Order
    ordered = forms_order P entry m.zero

    module _ (ok : T (is_rule P.sig l r)) (room : 32 ≤ places) where
      form_of : (cs : List ℕ) → T (is_term P.sig cs) → length cs ≤ places
          → form cs ≡ cond (throughout (near (forms m)) (term_of P.sig cs)) (Some (structure.value (forms m) (term_of P.sig cs))) None
      form_of cs term fits =
          ap (λ b. cond b (cond (throughout (near (forms m)) (term_of P.sig cs)) (Some (structure.value (forms m) (term_of P.sig cs))) None) None)
          (is_ready (forms m) P.sig cs places term fits)

      ordered_as : ordered (structure.value (forms m) rule.left) (structure.value (forms m) rule.right) ≡ rule_order P rule
      ordered_as =
          ap₂ (λ u v. order (u && v) u) (columns_weak m entry P faith limited.narrow rule)
          (ap₂ ltb (flat_constant m entry P faith rule.right 0 limited.some) (flat_constant m entry P faith rule.left 0 limited.some))

      told_order : option_and_then (λ a. option_map (ordered a) (form r)) (form l) ≡ compare_reply P l r places
      told_order =
          let parts = rule-parts P.sig few l r ok in
          let short = side_length P.sig few l parts.left_side in
          let short' = side_length P.sig few r parts.right_side in
          let near_left = throughout (near (forms m)) rule.left in
          let near_right = throughout (near (forms m)) rule.right in
          ap₂ (λ u v. option_and_then (λ a. option_map (ordered a) v) u) (form_of l parts.left_term (omega arith)) (form_of r parts.right_term (omega arith))
          ∙ paired ordered near_left near_right (structure.value (forms m) rule.left) (structure.value (forms m) rule.right)
          ∙ ap₂ (λ b o. cond b (Some o) None) (ap₂ (λ a b. a && b) (forms-readable m entry P faith limited.narrow rule.left) (forms-readable m entry P faith limited.narrow rule.right)) ordered_as
          ∙ sym (ap₂ (λ a b. cond ((a && b) && readable P rule) (Some (rule_order P rule)) None) (holds _ ok) (le-leb 32 places room))

      pub no_left : None ≡ form l → None ≡ compare_reply P l r places
      no_left e = ap (option_and_then (λ a. option_map (ordered a) (form r))) e ∙ told_order

      pub no_right : None ≡ form r → None ≡ compare_reply P l r places
      no_right e = sym (no_second (form l)) ∙ ap (λ o. option_and_then (λ a. option_map (ordered a) o) (form l)) e ∙ told_order

      pub both_sides : (a b : List C) → Some a ≡ form l → Some b ≡ form r → Some (ordered a b) ≡ compare_reply P l r places
      both_sides a b e f = ap₂ (λ u v. option_and_then (λ a. option_map (ordered a) v) u) e f ∙ told_order
