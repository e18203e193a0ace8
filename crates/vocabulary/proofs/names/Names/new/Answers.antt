use Rattle.std.proofs.Common.{◌≡◌, T, length, Some, sym, ap, ◌∙◌, subst, arith, rules}
use Rattle.bounded.specs.Items.{items}
use Rattle.terms.specs.Models.{arities_of}
use Rattle.terms.specs.Shapes.{is_signature}
use Rattle.vocabulary.specs.Vocabularies.{fixed_arities}
use Rattle.vocabulary.specs.declared.symbol.Symbol.{Symbol}
use Rattle.std.proofs.lemmas.List.{length-map}
use Rattle.vocabulary.specs.Models.{vocabulary_of}
use Rattle.vocabulary.proofs.Calls.{few_symbols}
use Rattle.vocabulary.proofs.Fixing.{told_fixed, fixed_signature, accepted}
use Rattle.vocabulary.proofs.names.Names.new.Goals as goal

pub fixed-requires : goal.fixed-requires
fixed-requires c =
    let v = c.args.vocabulary in
    let few = few_symbols v in
    let even = v.consistent.even in
    let same = ap length c.symbols.ensures.arities in
    omega (arith, length-map c.symbols.result.now (λ (s : Symbol). s.arity))

pub unwrap-signature-requires : goal.unwrap-signature-requires
unwrap-signature-requires c =
    let v = c.args.vocabulary in
    let told : fixed_arities (vocabulary_of v).arities ≡ Some (items c.in_ok-numbers.numbers) = search rules in
    let few = few_symbols v in
    let even = v.consistent.even in
    let sig = subst (λ l. T (is_signature l)) (sym c.as_slice.ensures) (fixed_signature (vocabulary_of v).arities _ (omega arith) v.consistent.small told) in
    accepted arities_of c.new.result (is_signature c.as_slice.result.now) _ _ c.new.ensures.value sig

pub invariant_of-result : goal.invariant_of-result
invariant_of-result c =
    let v = c.args.vocabulary in
    let told : fixed_arities (vocabulary_of v).arities ≡ Some (items c.in_ok-numbers.numbers) = search rules in
    let is : arities_of c.unwrap-signature.result ≡ items c.in_ok-numbers.numbers = search rules in
    record { fixed = told_fixed (vocabulary_of v).arities (arities_of c.unwrap-signature.result) (told ∙ ap Some (sym is)) }
