use Rattle.std.proofs.Common.{◌≡◌, ℕ, ◌+◌, ◌-◌, ◌≤◌, false, ◌&&◌, List, ◌∷◌, length, get_or, drop, sym, ap, ◌∙◌, arith}
use Rattle.std.proofs.lemmas.List.{at_drop_more, at_drop_all}
use Rattle.std.proofs.lemmas.Bool.{le-leb, lt-leb}
use Rattle.terms.specs.Codes.{known, arity, counts, is_term}
use Rattle.terms.specs.Models.{arities_of}
use Rattle.terms.proofs.Exactly.{term_law}
use Rattle.terms.proofs.Counting.{of_some, of_none, counts_nil, counts_next, counts_unknown}
use Rattle.terms.proofs.signature.Signature.is_term.Goals as goal

short : (sig cs : List ℕ) → length cs ≤ 1024 → is_term sig cs ≡ counts sig 1 cs
short sig cs h = ap (λ b. b && counts sig 1 cs) (le-leb (length cs) 1024 h)

pub returns-then-codes-gt-MOST_TERM-clause-means : goal.returns-then-codes-gt-MOST_TERM-clause-means
returns-then-codes-gt-MOST_TERM-clause-means c =
    let sig = arities_of c.args.self.now in
    let cs = c.args.codes.now in
    let v : false ≡ is_term sig cs = sym (ap (λ b. b && counts sig 1 cs) (lt-leb (length cs) 1024 c.if-codes-gt-MOST_TERM.true)) in
    term_law c.args.self.now cs false v

pub returns-then-awaited-eq0 : goal.returns-then-awaited-eq0
returns-then-awaited-eq0 c =
    let sig = arities_of c.args.self.now in
    let cs = c.args.codes.now in
    let n = c.loop-code.awaited in
    let i = c.loop-code.code-index in
    let v : false ≡ is_term sig cs =
    sym (short sig cs c.if-codes-gt-MOST_TERM.false ∙ c.loop-code.invariant.1 ∙ at_drop_more (counts sig n) cs i 0 c.loop-code-test.true
    ∙ ap (λ m. counts sig m (get_or cs i 0 ∷ drop (i + 1) cs)) c.if-awaited-eq0.true) in
    record { value = v; means = term_law c.args.self.now cs false v }

pub returns-in_default : goal.returns-in_default
returns-in_default c =
    let sig = arities_of c.args.self.now in
    let cs = c.args.codes.now in
    let n = c.loop-code.awaited in
    let i = c.loop-code.code-index in
    let code = get_or cs i 0 in
    let unknown : known sig code ≡ false = of_none (known sig code) (arity sig code) (sym c.in_default.is ∙ c.arguments.ensures.value) in
    let v : false ≡ is_term sig cs =
    sym (short sig cs c.if-codes-gt-MOST_TERM.false ∙ c.loop-code.invariant.1 ∙ at_drop_more (counts sig n) cs i 0 c.loop-code-test.true
    ∙ counts_unknown sig n code (drop (i + 1) cs) unknown) in
    record { value = v; means = term_law c.args.self.now cs false v }

pub loop-code-preserved : goal.loop-code-preserved
loop-code-preserved c =
    let sig = arities_of c.args.self.now in
    let cs = c.args.codes.now in
    let n = c.loop-code.awaited in
    let i = c.loop-code.code-index in
    let code = get_or cs i 0 in
    let is = of_some (known sig code) (arity sig code) c.in-Some.count (sym c.in-Some.is ∙ c.arguments.ensures.value) in
    let e = is.1 in
    let small = c.in-Some.ensures.small in (
      omega arith,
      c.loop-code.invariant.1 ∙ at_drop_more (counts sig n) cs i 0 c.loop-code-test.true
          ∙ counts_next sig n code (drop (i + 1) cs) (n - 1 + c.in-Some.count) c.if-awaited-eq0.false is.0 (omega arith),
    )

pub returns : goal.returns
returns c =
    let sig = arities_of c.args.self.now in
    let cs = c.args.codes.now in
    let n = c.loop-code.awaited in
    let v =
    sym (short sig cs c.if-codes-gt-MOST_TERM.false ∙ c.loop-code.invariant.1 ∙ at_drop_all (counts sig n) cs c.loop-code.code-index c.loop-code-test.false ∙ counts_nil sig n) in
    record { value = v; means = term_law c.args.self.now cs _ v }
