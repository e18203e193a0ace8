use Rattle.std.proofs.Common.{◌≡◌, Err, length, get_or, sym, ap, arith, rules}
use Rattle.terms.specs.Models.{arities_of}
use Rattle.encodings.specs.Bodies.{matrix_symbol}
use Rattle.certificates.specs.Bodies.{body_of}
use Rattle.certificates.specs.Tables.{symbol_table, no_symbols}
use Rattle.certificates.proofs.Filling.{goes_on, fails_with, ends_with, failed}
use Rattle.certificates.proofs.Symbols.{matrix_starts, matrix_long}
use Rattle.parts.specs.MakingLemmas.{few}
use Rattle.certificates.proofs.body.Body.matrix_symbols.Goals as goal

pub loop-symbol-init : goal.loop-symbol-init
loop-symbol-init c = matrix_starts c.args.dimension (arities_of c.args.signature.now) (body_of c.args.self.now)

pub loop-symbol-preserved : goal.loop-symbol-preserved
loop-symbol-preserved c =
    let e = c.arities-arity-items.ensures in
    let l = ap length e in
    let s = few c.args.signature.now in
    let m = matrix_long in
    goes_on (matrix_symbol c.args.dimension) symbol_table (arities_of c.args.signature.now) no_symbols (body_of c.args.self.now) 0 _ _ c.loop-symbol.invariant (omega arith) (omega arith) (ap (λ xs. get_or xs c.loop-symbol.symbol 0) (sym e)) c.in_ok-symbols.ensures

pub returns-in_err-symbols : goal.returns-in_err-symbols
returns-in_err-symbols c =
    let e = c.in_err-symbols.field-0.0 in
    let same : c.from_residual.result ≡ Err e = search rules in
    let a = c.arities-arity-items.ensures in
    let l = ap length a in
    failed _ _ e _ same (fails_with (matrix_symbol c.args.dimension) symbol_table (arities_of c.args.signature.now) no_symbols (body_of c.args.self.now) 0 _ e c.loop-symbol.invariant (omega arith) (ap (λ xs. get_or xs c.loop-symbol.symbol 0) (sym a)) c.in_err-symbols.ensures _)

pub returns : goal.returns
returns c =
    let l = ap length c.arities-arity-items.ensures in
    ends_with (matrix_symbol c.args.dimension) symbol_table (arities_of c.args.signature.now) no_symbols (body_of c.args.self.now) c.loop-symbol.invariant (omega arith)
