use Rattle.std.proofs.Common.{◌≡◌, ◌≤◌, length, T, Err, rules, sym, ap, subst, arith}
use Rattle.std.proofs.lemmas.Bool.{le-leb}
use Rattle.bounded.specs.Items.{items}
use Rattle.bounded.proofs.Lengths.{items_few}
use Rattle.terms.specs.declared.malformed.Malformed.TheVariants as malformed
use Rattle.terms.specs.Replies.{signature_reply}
use Rattle.terms.specs.Shapes.{is_signature}
use Rattle.terms.proofs.Booleans.{both, held}
use Rattle.terms.proofs.Made.{signature_law}
use Rattle.terms.proofs.signature.Signature.new.Goals as goal

pub returns-then-not-all_small-clause-means : goal.returns-then-not-all_small-clause-means
returns-then-not-all_small-clause-means c =
    let v : Err malformed.Signature ≡ signature_reply c.args.arities.now = search rules in
    signature_law c.args.arities.now (Err malformed.Signature) v

pub invariant_of-result : goal.invariant_of-result
invariant_of-result c =
    let e : items c.in_ok-kept.kept ≡ c.args.arities.now = search rules in
    let few = items_few c.in_ok-kept.kept in
    let n : length c.args.arities.now ≤ 32 = let l = ap length e in omega arith in
    record { limited = subst (λ l. T (is_signature l)) (sym e) (both _ _ (held _ (le-leb _ 32 n)) (held _ (sym c.if-not-all_small.ensures))) }
