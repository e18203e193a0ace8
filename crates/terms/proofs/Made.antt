-- The laws of the checked constructors, from what they answer.
use Rattle.std.proofs.Common.{◌≡◌, ℕ, ◌≤◌, Bool, true, false, cond, ◌&&◌, T, leb, List, [], ◌∷◌, length, is_ok, Ok, Err, Result, sym, refl, ap, ◌∙◌, subst, ap₂, arith, leb→le}
use Rattle.std.proofs.lemmas.Bool.{le-leb}
use Rattle.terms.specs.declared.malformed.Malformed.{Malformed}
use Rattle.terms.specs.declared.malformed.Malformed.TheVariants as malformed
use Rattle.terms.specs.Rules.{Rule, rule_over, rules_over}
use Rattle.terms.specs.Shapes.{is_signature, is_rule}
use Rattle.terms.specs.Models.{Sides, all_rules}
use Rattle.terms.specs.Systems.{System, rules_from, system_reply}
use Rattle.terms.specs.Replies.{signature_reply}
use Rattle.terms.specs.Laws.{SignatureExactly, AllShort, coded_rules, SystemExactly}
use Rattle.terms.proofs.Booleans.{both, fst_of, snd_of, held as told, clash, never}
use Rattle.terms.proofs.Exactly.{signature_exactly, reading, rule_reading, is_rule_of}

pub signature_law : (arities : List ℕ) (r : Result (List ℕ) Malformed) → r ≡ signature_reply arities → SignatureExactly arities (is_ok r)
signature_law arities r e = go (is_signature arities) refl r e
  where
    go : (b : Bool) → is_signature arities ≡ b → (r : Result (List ℕ) Malformed) → r ≡ cond b (Ok arities) (Err malformed.Signature) → SignatureExactly arities (is_ok r)
    go true p (Ok s) q = subst (SignatureExactly arities) p (signature_exactly arities)
    go false p (Ok s) q = clash (cc)
    go true p (Err m) q = clash (cc)
    go false p (Err m) q = subst (SignatureExactly arities) p (signature_exactly arities)

module _ (sig : List ℕ) (few : length sig ≤ 32) where
  pub rules_read : (ss : List Sides) → T (all_rules sig ss) → T (rules_over sig (rules_from sig ss))
  unfolding rule_reading reading
  rules_read [] h = tt
  rules_read (s ∷ ss) h =
      both _ _ (rule_reading sig few s.left s.right (fst_of (is_rule sig s.left s.right) _ h)).over_signature (rules_read ss (snd_of (is_rule sig s.left s.right) _ h))

  rules_coded : (ss : List Sides) → T (all_rules sig ss) → coded_rules (rules_from sig ss) ≡ ss
  unfolding rule_reading reading
  rules_coded [] h = refl
  rules_coded (s ∷ ss) h =
      ap₂ (λ a b. a ∷ b) (rule_reading sig few s.left s.right (fst_of (is_rule sig s.left s.right) _ h)).coded (rules_coded ss (snd_of (is_rule sig s.left s.right) _ h))

  rules_given : (xs : List Rule) → T (rules_over sig xs) → AllShort xs → T (all_rules sig (coded_rules xs))
  rules_given [] h s = tt
  rules_given (x ∷ xs) h s = both _ _ (is_rule_of sig few x (fst_of (rule_over sig x) _ h) s.0) (rules_given xs (snd_of (rule_over sig x) _ h) s.1)

  length_from : (ss : List Sides) → length (rules_from sig ss) ≡ length ss
  length_from [] = refl
  length_from (s ∷ ss) = let ih = length_from ss in omega arith

  length_coded : (xs : List Rule) → length (coded_rules xs) ≡ length xs
  length_coded [] = refl
  length_coded (x ∷ xs) = let ih = length_coded xs in omega arith

  pub system_law : (ss : List Sides) (r : Result System Malformed) → r ≡ system_reply sig ss → SystemExactly sig ss r
  system_law ss r e = go (leb (length ss) 32 && all_rules sig ss) refl r e
    where
      go : (b : Bool) → (leb (length ss) 32 && all_rules sig ss) ≡ b → (r : Result System Malformed) → r ≡ cond b (Ok record { arities = sig; rules = ss }) (Err malformed.System) → SystemExactly sig ss r
      go true p (Ok s) q =
          let same : s ≡ record { arities = sig; rules = ss } = cc in
          let from : rules_from s.arities s.rules ≡ rules_from sig ss = ap (λ x. rules_from x.arities x.rules) same in
          let fits = leb→le (length ss) 32 (fst_of (leb (length ss) 32) _ (told _ p)) in
          let all = snd_of (leb (length ss) 32) _ (told _ p) in
          record {
            signature = ap (λ x. x.arities) same;
            over_signature = subst (λ x. T (rules_over sig x)) (sym from) (rules_read ss all);
            coded = ap coded_rules from ∙ rules_coded ss all;
            few = (let a = ap length from in let b = length_from ss in omega arith);
          }
      go false p (Ok s) q = clash (cc)
      go true p (Err m) q = clash (cc)
      go false p (Err m) q = λ xs h s c n.
          let all : T (all_rules sig ss) = subst (λ x. T (all_rules sig x)) c (rules_given xs h s) in
          let fits : length ss ≤ 32 = let a = length_coded xs in let b = ap length c in omega arith in
          never _ (both _ _ (told _ (le-leb (length ss) 32 fits)) all) p
