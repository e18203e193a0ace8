use Rattle.std.proofs.Common.{◌≡◌, ◌≤◌, length, List, Ok, Err, Result, ap, rules, arith}
use Rattle.std.proofs.lemmas.Grind.{common_steps}
use Rattle.bounded.specs.Items.{items}
use Rattle.bounded.proofs.Lengths.{items_few}
use Rattle.terms.specs.declared.signature.Signature.{Signature}
use Rattle.terms.specs.declared.malformed.Malformed.{Malformed}
use Rattle.terms.specs.declared.malformed.Malformed.TheVariants as malformed
use Rattle.terms.specs.Models.{arities_of, Sides, all_sides}
use Rattle.terms.specs.Replies.{viewed}
use Rattle.terms.specs.Systems.{System, system_of, system_reply}
use Rattle.terms.specs.Laws.{SystemExactly}
use Rattle.terms.proofs.Listed.{not_rules, made}
use Rattle.terms.proofs.Made.{system_law}
use Rattle.terms.proofs.Scans.{few_symbols}
use Rattle.terms.proofs.system.System.new.Goals as goal

law : (s : Signature) (ss : List Sides) (r : Result System Malformed) → r ≡ system_reply (arities_of s) ss → SystemExactly (arities_of s) ss r
law s ss r e = system_law (arities_of s) (few_symbols (arities_of s) s.limited) ss r e

pub returns-in_err-kept-clause-means : goal.returns-in_err-kept-clause-means
returns-in_err-kept-clause-means c =
    let v : viewed system_of c.from_residual.result ≡ system_reply (arities_of c.args.signature) (all_sides c.args.rules.now) = grind (arith, common_steps) in
    law c.args.signature _ _ v

pub returns-then-not-are_rules : goal.returns-then-not-are_rules
returns-then-not-are_rules c =
    let same : items c.in_ok-kept.kept ≡ c.args.rules.now = search rules in
    let few : length c.args.rules.now ≤ 32 = let n = items_few c.in_ok-kept.kept in let l = ap length same in omega arith in
    let v = not_rules (arities_of c.args.signature) c.args.rules.now few c.if-not-are_rules.ensures in
    record { value = v; means = law c.args.signature _ (Err malformed.System) v }

pub returns : goal.returns
returns c =
    let same : items c.in_ok-kept.kept ≡ c.args.rules.now = search rules in
    let few : length c.args.rules.now ≤ 32 = let n = items_few c.in_ok-kept.kept in let l = ap length same in omega arith in
    let v = made (arities_of c.args.signature) c.args.rules.now (items c.in_ok-kept.kept) few same c.if-not-are_rules.ensures in
    record { value = v; means = law c.args.signature _ (Ok (record { arities = arities_of c.args.signature; rules = all_sides (items c.in_ok-kept.kept) })) v }
