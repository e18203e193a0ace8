use Rattle.std.proofs.Common.{◌≡◌, ◌<◌, ◌∷◌, [], length, get_or, is_ok, sym, ap, ◌∙◌, ap₂, arith}
use Rattle.std.proofs.lemmas.Grind.{common_steps}
use Rattle.std.proofs.lemmas.List.{length-map}
use Rattle.bounded.specs.Items.{items, grown}
use Rattle.bounded.proofs.Lengths.{items_few}
use Rattle.terms.specs.Models.{sides_of, all_sides}
use Rattle.terms.specs.Replies.{viewed}
use Rattle.terms.proofs.Booleans.{told_ok}
use Rattle.texts.proofs.Assembling.{proper_at, rules_more}
use Rattle.texts.proofs.named_system.calls.system_from.Goals as goal

pub unwrap-rule-requires : goal.unwrap-rule-requires
unwrap-rule-requires c = grind (arith, common_steps, proper_at)

pub unwrap-requires : goal.unwrap-requires
unwrap-requires c = grind (arith, common_steps, items_few c.args.codes.now, length-map)

pub loop-sides-preserved : goal.loop-sides-preserved
loop-sides-preserved c =
    let xs = items c.args.codes.now in
    let x = c.sides-item.result in
    let rs = items c.loop-sides.rules in
    let rule = c.unwrap-rule.result in
    let same = c.as_slice-sides-items.ensures in
    let is : x ≡ get_or xs c.loop-sides.sides-index x = cc in
    let inside : c.loop-sides.sides-index < length xs = let l = ap length same in omega arith in
    let made = told_ok _ _ (sides_of rule) _ (ap (viewed sides_of) (sym c.unwrap-rule.ensures) ∙ c.new.ensures) in
    ap all_sides (c.push.ensures.items ∙ ap (λ r. grown (is_ok r) rs (rule ∷ [])) c.unwrap.ensures)
    ∙ rules_more xs c.loop-sides.sides-index x is inside rs c.loop-sides.invariant rule (made ∙ ap₂ (λ a b. record { left = a; right = b }) c.as_slice.ensures c.as_slice-in-loop-sides.ensures)

pub unwrap-requires-2 : goal.unwrap-requires-2
unwrap-requires-2 c = grind (arith, common_steps, items_few c.args.codes.now, length-map)
