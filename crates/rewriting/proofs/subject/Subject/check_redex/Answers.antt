use Rattle.std.proofs.Common.{◌≡◌, ◌<◌, T, length, sym, ap, subst, ◌∙◌, true, false, cond, Ok, Err, is_some, rules}
use Rattle.terms.specs.Models.{arities_of, sides_of}
use Rattle.terms.specs.Codes.{is_term, term_of}
use Rattle.terms.specs.Shapes.{is_rule, rule_of}
use Rattle.rewriting.specs.declared.fault.RewriteFault.TheVariants as fault
use Rattle.rewriting.specs.Matching.{matches}
use Rattle.rewriting.specs.Places.{arities_at, spot_of, subterm}
use Rattle.rewriting.specs.Replies.{stepped, redex_of, rewritten}
use Rattle.rewriting.specs.Subjects.{arities_in, rules_in, codes_in}
use Rattle.terms.proofs.Exactly.{rule-parts}
use Rattle.terms.proofs.Scans.{few_symbols}
use Rattle.rewriting.proofs.Subjects.{none_fault, unchecked, checked, no_rule, no_place, none_placed, applies, by_rule, redex_stepped}
use Rattle.rewriting.proofs.subject.Subject.check_redex.Goals as goal
use Rattle.rewriting.proofs.subject.Subject.check_redex.Goals.{After-left}

pub returns-in_err-rule : goal.returns-in_err-rule
returns-in_err-rule c =
    let s = c.args.self.now in
    let none = c.in_err-rule.ensures in
    let e = no_rule s c.args.rule c.args.place c.rules.ensures (none.variant ∙ c.get.ensures.lookup.0) in
    let d = unchecked s c.args.rule c.args.place c.from_residual.result c.from_residual.ensures.1 (none_fault c.get.result _ _ none.value none.variant) (ap redex_of e) in
    record { value = d.value; means = d.means }

pub returns-in_err-place : goal.returns-in_err-place
returns-in_err-place c =
    let s = c.args.self.now in
    let none = c.in_err-place.ensures in
    let past = none_placed _ _ _ c.inside-place.result c.inside-place.ensures none.variant in
    let e = no_place s c.args.rule c.args.place c.rules.ensures (c.in_ok-rule.ensures.variant ∙ c.get.ensures.lookup.0) c.codes.ensures past in
    let d = unchecked s c.args.rule c.args.place c.from_residual-in_err-place.result c.from_residual-in_err-place.ensures.1 (none_fault c.inside-place.result _ _ none.value none.variant) (ap redex_of e) in
    record { value = d.value; means = d.means }

-- the place that was looked up
spot_is : (c : After-left)
    → (c.args.place < length c.codes.result.now) × (spot_of c.in_ok-place.place ≡ record { arities = arities_of c.signature.result.now; codes = c.codes.result.now; at = c.args.place })
spot_is c = rw c.in_ok-place.ensures.ok_part at c.inside-place.ensures

-- the sides that were looked up are those of a rule there
rule_is : (c : After-left) → T (is_rule (arities_at c.in_ok-place.place) (sides_of c.in_ok-rule.rule.now).left (sides_of c.in_ok-rule.rule.now).right)
rule_is c =
    let sides = sides_of c.in_ok-rule.rule.now in
    subst (λ s. T (is_rule s.arities sides.left sides.right)) (sym (spot_is c).1)
    (applies c.args.self.now c.args.rule c.args.place c.rules.ensures (c.in_ok-rule.ensures.variant ∙ c.get.ensures.lookup.0) c.codes.ensures _ c.signature.ensures c.in_ok-rule.rule.now
    (rw c.in_ok-rule.ensures.ok_part at c.get.ensures.lookup.1))

-- the answer by the test of the match
told : (c : After-left) (b : _) → matches (term_of (arities_at c.in_ok-place.place) c.left.result.now) (subterm c.in_ok-place.place) ≡ b
    → cond b (Ok tt) (Err fault.NoMatch) ≡ redex_of (rewritten (arities_in c.args.self.now) (rules_in c.args.self.now) (codes_in c.args.self.now) c.args.rule c.args.place)
told c b e =
    let spot = spot_is c in
    let sides = sides_of c.in_ok-rule.rule.now in
    let p = c.in_ok-place.place in
    redex_stepped c.args.self.now c.args.rule p.at (arities_at p) p.codes.now (rule_of (arities_at p) sides.left sides.right) b (ap (λ l. matches (term_of (arities_at p) l) (subterm p)) (sym c.left.ensures) ∙ e)
    ∙ ap (λ s. redex_of (stepped s.arities s.codes s.at (rule_of s.arities sides.left sides.right))) spot.1
    ∙ ap redex_of (by_rule c.args.self.now c.args.rule c.args.place c.rules.ensures (c.in_ok-rule.ensures.variant ∙ c.get.ensures.lookup.0) c.codes.ensures _ c.signature.ensures c.in_ok-rule.rule.now
    (rw c.in_ok-rule.ensures.ok_part at c.get.ensures.lookup.1) spot.0)

pub match_with-requires : goal.match_with-requires
match_with-requires c =
    let p = c.in_ok-place.place in
    subst (λ l. T (is_term (arities_at p) l)) (sym c.left.ensures)
    (rule-parts (arities_at p) (few_symbols (arities_at p) p.signature.now.limited) (sides_of c.in_ok-rule.rule.now).left (sides_of c.in_ok-rule.rule.now).right (rule_is c)).left_term

pub returns-then-is_none : goal.returns-then-is_none
returns-then-is_none c =
    let no : is_some c.match_with.result ≡ false = search rules in
    let d = checked c.args.self.now c.args.rule c.args.place (Err fault.NoMatch) (told (goal.at.returns-then-is_none c).After-left false (sym c.match_with.ensures.value ∙ no)) in
    record { value = d.value; means = d.means }

pub returns : goal.returns
returns c =
    let yes : is_some c.match_with.result ≡ true = search rules in
    let d = checked c.args.self.now c.args.rule c.args.place (Ok tt) (told (goal.at.returns c).After-left true (sym c.match_with.ensures.value ∙ yes)) in
    record { value = d.value; means = d.means }
