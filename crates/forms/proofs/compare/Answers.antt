use Rattle.std.proofs.Common.{◌≡◌, T, Some, None, length, sym, ap, ◌∙◌, arith, rules}
use Rattle.terms.specs.Shapes.{is_rule}
use Rattle.evaluation.specs.Replies.{evaluated}
use Rattle.forms.specs.Columns.{forms}
use Rattle.forms.proofs.Told.{no_left, no_right, both_sides}
use Rattle.forms.proofs.compare.Goals as goal

pub returns-in_err-left_form-clause-value : goal.returns-in_err-left_form-clause-value
returns-in_err-left_form-clause-value g c =
    let p = c.args.part.now in
    let r = g.P.Reckoning in
    let ok : T (is_rule (r.meaning p).sig c.args.left.now c.args.right.now) = search rules in
    let none : c.from_residual.result ≡ None = cc in
    none
    ∙ no_left (r.columns p) r.entry (r.meaning p) (g.met.P.Reckoning.faithful p) (g.met.P.Reckoning.limited p) c.signature.result.now c.signature.ensures c.args.left.now c.args.right.now (length c.args.memory.now) ok (omega arith)
    (sym c.in_err-left_form.was ∙ c.evaluate.ensures.value)

pub returns-in_err-right_form-clause-value : goal.returns-in_err-right_form-clause-value
returns-in_err-right_form-clause-value g c =
    let p = c.args.part.now in
    let r = g.P.Reckoning in
    let ok : T (is_rule (r.meaning p).sig c.args.left.now c.args.right.now) = search rules in
    let none : c.from_residual-in_err-right_form.result ≡ None = cc in
    none
    ∙ no_right (r.columns p) r.entry (r.meaning p) (g.met.P.Reckoning.faithful p) (g.met.P.Reckoning.limited p) c.signature.result.now c.signature.ensures c.args.left.now c.args.right.now (length c.args.memory.now) ok (omega arith)
    (sym c.in_err-right_form.was ∙ c.evaluate-2.ensures.value ∙ ap (evaluated (forms (r.columns p)) (r.meaning p).sig c.args.right.now) c.evaluate.auto.memory)

pub returns-clause-value : goal.returns-clause-value
returns-clause-value g c =
    let p = c.args.part.now in
    let r = g.P.Reckoning in
    let ok : T (is_rule (r.meaning p).sig c.args.left.now c.args.right.now) = search rules in
    ap Some c.compare_forms.ensures
    ∙ both_sides (r.columns p) r.entry (r.meaning p) (g.met.P.Reckoning.faithful p) (g.met.P.Reckoning.limited p) c.signature.result.now c.signature.ensures c.args.left.now c.args.right.now (length c.args.memory.now) ok (omega arith)
    c.in_ok-left_form.left_form c.in_ok-right_form.right_form (sym c.in_ok-left_form.was ∙ c.evaluate.ensures.value)
    (sym c.in_ok-right_form.was ∙ c.evaluate-2.ensures.value ∙ ap (evaluated (forms (r.columns p)) (r.meaning p).sig c.args.right.now) c.evaluate.auto.memory)
