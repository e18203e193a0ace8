-- What a part answers on codes: the height of a term, and how the sides of a rule compare.
use Rattle.std.specs.List.{list_all, zip}
use Rattle.std.specs.Prelude.{ℕ, cond, ◌&&◌, List, length, Some, None, Option, is_some, nat_le, nat_lt, slice_index_or}
use Rattle.terms.specs.Limits.{most_side}
use Rattle.terms.specs.Rules.{Rule}
use Rattle.terms.specs.Codes.{term_of}
use Rattle.terms.specs.Shapes.{is_rule, rule_of}
use Rattle.algebras.specs.declared.order.Order.{Order}
use Rattle.algebras.specs.Replies.{order}
use Rattle.evaluation.specs.Structures.{Structure}
use Rattle.evaluation.specs.Replies.{ready, evaluated, remembered}
use Rattle.interpretations.specs.Parts.{Part, height}
use Rattle.interpretations.specs.Orders.{given, readable, weak, strict}
use Rattle.forms.specs.Faithful.{covers}

-- the height, if the codes are a term, it is given, and each code has a place of memory
abbrev pub height_reply : Part → List ℕ → ℕ → Option ℕ
height_reply P cs places = cond (ready P.sig cs places && given P (term_of P.sig cs)) (Some (height P (term_of P.sig cs))) None

-- how a rule's sides compare
abbrev pub rule_order : Part → Rule → Order
rule_order P r = order (strict P r) (weak P r)

-- how the sides compare, if the codes are those of a readable rule, and a side's codes have their places of memory
abbrev pub compare_reply : Part → List ℕ → List ℕ → ℕ → Option Order
compare_reply P l r places =
    cond ((is_rule P.sig l r && nat_le most_side places) && readable P (rule_of P.sig l r)) (Some (rule_order P (rule_of P.sig l r))) None

-- memory after a rule's sides: after the left side's codes and, if that side has a value, after the right side's
abbrev pub remembered_both : {V : Type 0} → Structure V → List ℕ → List ℕ → List ℕ → List V → List V
remembered_both s sig l r m =
    let after = remembered s sig l m in
    cond (is_rule sig l r && nat_le most_side (length m)) (cond (is_some (evaluated s sig l (length m))) (remembered s sig r after) after) m

-- forms compared column by column, where e tells the entries
abbrev pub forms_order : {C : Type 0} → Part → (C → ℕ → ℕ) → C → List C → List C → Order
forms_order P e z l r =
    let weakly = list_all (λ columns. covers P (e columns.0) (e columns.1)) (zip l r) in
    order (weakly && nat_lt (e (slice_index_or r 0 z) 0) (e (slice_index_or l 0 z) 0)) weakly
