use Rattle.std.proofs.Common.{◌≡◌, ◌<◌, T, length, refl, sym, ap, subst, ◌∙◌}
use Rattle.bounded.specs.Items.{items}
use Rattle.terms.specs.Models.{arities_of, sides_of}
use Rattle.terms.specs.Shapes.{is_rule, rule_of}
use Rattle.rewriting.specs.Places.{arities_at, spot_of}
use Rattle.rewriting.specs.Replies.{stepped, rewritten}
use Rattle.rewriting.specs.Subjects.{arities_in, rules_in, codes_in}
use Rattle.rewriting.proofs.Subjects.{none_fault, refused, made, no_rule, no_place, none_placed, applies, by_rule}
use Rattle.rewriting.proofs.subject.Subject.rewrite.Goals as goal
use Rattle.rewriting.proofs.subject.Subject.rewrite.Goals.{In_ok-place}

-- the place that was looked up
spot_is : (c : In_ok-place)
    → (c.args.place < length c.as_slice.result.now) × (spot_of c.in_ok-place.place ≡ record { arities = arities_of c.signature.result.now; codes = c.as_slice.result.now; at = c.args.place })
spot_is c = rw c.in_ok-place.ensures.ok_part at c.inside-place.ensures

-- the step by the rule that was looked up
step_is : (c : In_ok-place)
    → stepped (arities_at c.in_ok-place.place) c.in_ok-place.place.codes.now c.in_ok-place.place.at (rule_of (arities_at c.in_ok-place.place) (sides_of c.in_ok-rule.rule.now).left (sides_of c.in_ok-rule.rule.now).right)
    ≡ rewritten (arities_in c.args.self.now) (rules_in c.args.self.now) (codes_in c.args.self.now) c.args.rule c.args.place
step_is c =
    let spot = spot_is c in
    let sides = sides_of c.in_ok-rule.rule.now in
    ap (λ s. stepped s.arities s.codes s.at (rule_of s.arities sides.left sides.right)) spot.1
    ∙ by_rule c.args.self.now c.args.rule c.args.place c.rules.ensures (c.in_ok-rule.ensures.variant ∙ c.get.ensures.lookup.0) c.as_slice.ensures _ c.signature.ensures c.in_ok-rule.rule.now
    (rw c.in_ok-rule.ensures.ok_part at c.get.ensures.lookup.1) spot.0

pub returns-in_err-rule : goal.returns-in_err-rule
returns-in_err-rule c =
    let s = c.args.self.now in
    let none = c.in_err-rule.ensures in
    let e = no_rule s c.args.rule c.args.place c.rules.ensures (none.variant ∙ c.get.ensures.lookup.0) in
    let d = refused s c.args.rule c.args.place c.from_residual.result c.from_residual.ensures.1 (none_fault c.get.result _ _ none.value none.variant) e in
    record { value = d.value; after = d.after; same = refl; means = d.means }

pub returns-in_err-place : goal.returns-in_err-place
returns-in_err-place c =
    let s = c.args.self.now in
    let none = c.in_err-place.ensures in
    let past = none_placed _ _ _ c.inside-place.result c.inside-place.ensures none.variant in
    let e = no_place s c.args.rule c.args.place c.rules.ensures (c.in_ok-rule.ensures.variant ∙ c.get.ensures.lookup.0) c.as_slice.ensures past in
    let d = refused s c.args.rule c.args.place c.from_residual-in_err-place.result c.from_residual-in_err-place.ensures.1 (none_fault c.inside-place.result _ _ none.value none.variant) e in
    record { value = d.value; after = d.after; same = refl; means = d.means }

pub step_into-requires : goal.step_into-requires
step_into-requires c =
    let spot = spot_is (goal.at.step_into-requires c).In_ok-place in
    let sides = sides_of c.in_ok-rule.rule.now in
    subst (λ s. T (is_rule s.arities sides.left sides.right)) (sym spot.1)
    (applies c.args.self.now c.args.rule c.args.place c.rules.ensures (c.in_ok-rule.ensures.variant ∙ c.get.ensures.lookup.0) c.as_slice.ensures _ c.signature.ensures c.in_ok-rule.rule.now
    (rw c.in_ok-rule.ensures.ok_part at c.get.ensures.lookup.1))

pub returns-in_err-step_into : goal.returns-in_err-step_into
returns-in_err-step_into c =
    let e = c.in_err-step_into.ensures ∙ step_is (goal.at.returns-in_err-step_into c).In_ok-place in
    let d = refused c.args.self.now c.args.rule c.args.place c.from_residual-in_err-step_into.result c.from_residual-in_err-step_into.ensures.1 refl e in
    record { value = d.value; after = d.after; same = refl; means = d.means }

pub invariant_of-self-2 : goal.invariant_of-self-2
invariant_of-self-2 c =
    let e = c.in_ok-step_into.ensures ∙ step_is (goal.at.invariant_of-self-2 c).In_ok-place in
    record { over = (made c.args.self.now c.args.rule c.args.place (items c.step_into.new.out) e).term }

pub returns : goal.returns
returns c =
    let e = c.in_ok-step_into.ensures ∙ step_is (goal.at.returns c).In_ok-place in
    let d = made c.args.self.now c.args.rule c.args.place (items c.step_into.new.out) e in
    record { value = d.value; after = d.after; same = refl; means = d.means }
