use Rattle.std.proofs.Common.{◌≡◌, Err, Option, ℕ, Result, sym, subst, rules}
use Rattle.rewriting.specs.declared.fault.RewriteFault.{RewriteFault}
use Rattle.rewriting.specs.Subjects.{rules_in, term_in}
use Rattle.rewriting.specs.Laws.{Rewrites}
use Rattle.trips.specs.Trips.{Advanced}
use Rattle.trips.proofs.Following.{refused}
use Rattle.trips.proofs.step_on.Goals as goal

pub returns-in_err-rewrite-clause-means : goal.returns-in_err-rewrite-clause-means
returns-in_err-rewrite-clause-means c =
    let rules_now = rules_in c.args.subject.now in
    let t = term_in c.args.subject.now in
    let u = term_in c.rewrite.new.self in
    let fault = c.in_err-rewrite.field-0.0 in
    let told = subst (λ r. Rewrites rules_now t c.in-Some.rule c.in-Some.place r u) c.in_err-rewrite.was c.rewrite.ensures.means in
    let e : c.from_residual.result ≡ Err fault = search rules in
    subst (λ (r : Result (Option (ℕ × ℕ)) RewriteFault). Advanced rules_now t r u) (sym e) (refused fault c.in-Some.ensures.means told)
