use Rattle.std.proofs.Common.{refl, arith}
use Rattle.std.proofs.lemmas.Slice.{between_to_end}
use Rattle.rewriting.proofs.Meets.{going_starts, going_done, going_some, going_symbol, going_apart, going_low, going_binds, going_clashes}
use Rattle.rewriting.proofs.Solutions.{told_some, told_none}
use Rattle.rewriting.proofs.place.Place.match_with.Goals as goal
use Rattle.rewriting.proofs.place.Place.match_with.Goals.{in-Symbol+in_ok-first-in-Symbol+else-first-code, in-Variable+in_ok-bind-in-Variable}

pub loop-code-init : goal.loop-code-init
loop-code-init c = going_starts c.args.self.now c.args.pattern.now c.requires (between_to_end c.args.self.now.codes.now c.args.self.now.at _ (omega arith)) c.new-bindings.ensures

pub returns-in_err-first-in-Symbol : goal.returns-in_err-first-in-Symbol
returns-in_err-first-in-Symbol c = let some = going_some c.loop-code.invariant c.loop-code-test.true in absurd (omega (arith, c.in_err-first-in-Symbol.ensures.cases))

pub returns-then-first-code : goal.returns-then-first-code
returns-then-first-code c =
    let n = going_apart c.loop-code.invariant c.loop-code-test.true _ _ _ c.in-Symbol.ensures c.in_ok-first-in-Symbol.ensures.cases.0 c.if-first-code.true in
    let t = told_none c.args.self.now c.args.pattern.now refl n in
    record { value = t.value; means = t.means }

pub bind-requires : goal.bind-requires
bind-requires c = going_low c.loop-code.invariant c.loop-code-test.true _ c.in-Variable.ensures

pub returns-in_err-bind-in-Variable : goal.returns-in_err-bind-in-Variable
returns-in_err-bind-in-Variable c =
    let n = going_clashes c.loop-code.invariant c.loop-code-test.true _ c.span.ensures.value _ c.in-Variable.ensures c.split_at.ensures.front c.in_err-bind-in-Variable.ensures in
    let t = told_none c.args.self.now c.args.pattern.now c.from_residual-in_err-bind-in-Variable.ensures n in
    record { value = t.value; means = t.means }

pub loop-code-preserved : goal.loop-code-preserved
loop-code-preserved c =
    let g = c.loop-code.invariant in
    let t = c.loop-code-test.true in
    elim c.match-from.branch [
      | in-Symbol+in_ok-first-in-Symbol+else-first-code w ↦ rw (w.rest-is, w.bindings-is) (going_symbol g t _ _ _ w.in-Symbol.ensures w.in_ok-first-in-Symbol.ensures.cases.0 w.if-first-code.false)
      | in-Variable+in_ok-bind-in-Variable w ↦ rw (w.rest-is, w.bindings-is) (going_binds g t _ w.span.ensures.value _ w.in-Variable.ensures w.split_at.ensures.front w.split_at.ensures.back w.in_ok-bind-in-Variable.ensures)
    ]

pub returns : goal.returns
returns c =
    let t = told_some c.args.self.now c.args.pattern.now c.loop-code.bindings (going_done c.loop-code.invariant c.loop-code-test.false) in
    record { value = t.value; means = t.means }
