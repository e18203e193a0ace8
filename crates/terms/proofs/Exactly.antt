-- The laws of the tests: what is accepted is just what there is as trees.
use Rattle.std.proofs.Common.{◌≡◌, ℕ, suc, ◌+◌, ◌<◌, ◌≤◌, Bool, true, false, cond, ◌&&◌, T, ltb, leb, List, [], ◌∷◌, ◌++◌, length, get_or, take, drop, Some, None, Option, sym, refl, ap, ◌∙◌, subst, ap₂, arith, ltb→lt, leb→le}
use Rattle.std.proofs.lemmas.Bool.{le-leb, lt-ltb, ltb-false}
use Rattle.terms.specs.Terms.{Term, codes, size, over}
use Rattle.terms.specs.Rules.{Rule, rule_over, headed, bound}
use Rattle.terms.specs.Codes.{counts, is_term, term_of, sub_at, span}
use Rattle.terms.specs.Shapes.{all_within, is_signature, is_side, is_proper, is_rule, starts_with_symbol, covers}
use Rattle.terms.specs.declared.signature.Signature.{Signature}
use Rattle.terms.specs.Models.{arities_of}
use Rattle.terms.specs.Replies.{end_reply}
use Rattle.terms.specs.Laws.{SignatureExactly, Reading, TermExactly, Short, RuleReading, RuleExactly, Located, EndsExactly}
use Rattle.terms.proofs.Booleans.{both, fst_of, snd_of, held, holds}
use Rattle.terms.proofs.Readings.{counted_over, counted_codes, term_counts}
use Rattle.terms.proofs.Places.{length_codes, located}
use Rattle.terms.proofs.Scans.{few_symbols, few_arguments}
use Rattle.terms.proofs.Spans.{span-at}
use Rattle.terms.proofs.Subterms.{same_codes}
use Rattle.terms.proofs.Unique.{one_occurrence}
use Rattle.terms.proofs.Views.{counted, short, size_positive}
use Rattle.terms.proofs.RuleCodes.{bound_codes, headed_codes, within_codes}
use Rattle.terms.proofs.Splices.{part_is, replaced}

all_small : (n : ℕ) (xs : List ℕ) → ((f : ℕ) → get_or xs f 0 ≤ n) → T (all_within n xs)
all_small n [] h = tt
all_small n (x ∷ xs) h = both _ _ (held _ (le-leb x n (h 0))) (all_small n xs (λ f. h (suc f)))

pub signature_exactly : (arities : List ℕ) → SignatureExactly arities (is_signature arities)
signature_exactly arities = record {
  few = λ e. few_symbols arities (held _ e);
  small = λ e f. few_arguments arities (held _ e) f;
  complete = λ n s. holds _ (both _ _ (held _ (le-leb (length arities) 32 n)) (all_small 4 arities s));
}

module _ (sig : List ℕ) (few : length sig ≤ 32) where
  pub few' : length sig ≤ 32768
  few' = omega arith

  unfoldable pub reading : (cs : List ℕ) → T (is_term sig cs) → Reading sig cs
  reading cs ok =
      let t = term_of sig cs in
      let o = counted_over sig cs (counted sig cs ok) in
      let e = counted_codes sig cs (counted sig cs ok) in
      record {
        term = t;
        over_signature = o;
        coded = e;
        short = (let a = length_codes t in let b = ap length e in let c = short sig cs ok in omega arith);
        only = λ u h k. same_codes sig few' u t h o (k ∙ sym e);
      }

  pub is_term_of : (t : Term) (cs : List ℕ) → T (over sig t) → size t ≤ 1024 → codes t ≡ cs → T (is_term sig cs)
  is_term_of t cs h s e =
      let l : length cs ≤ 1024 = let a = length_codes t in let b = ap length e in omega arith in
      both _ _ (held _ (le-leb (length cs) 1024 l)) (subst (λ x. T (counts sig 1 x)) e (held _ (term_counts sig few' t h)))

  pub term_exactly : (cs : List ℕ) → TermExactly sig cs (is_term sig cs)
  term_exactly cs = record {
    accepted = λ e. reading cs (held _ e);
    complete = λ t h s e. holds _ (is_term_of t cs h s e);
  }

  pub side_length : (cs : List ℕ) → T (is_side cs) → length cs ≤ 32
  side_length cs h = leb→le (length cs) 32 (snd_of (ltb 0 (length cs)) _ (fst_of (ltb 0 (length cs) && leb (length cs) 32) _ h))

  pub record RuleParts (l r : List ℕ) : Type 0 where
    pub left_side : T (is_side l)
    pub right_side : T (is_side r)
    pub starts : T (starts_with_symbol l)
    pub covered : T (covers l r)
    pub left_term : T (is_term sig l)
    pub right_term : T (is_term sig r)

  pub rule-parts : (l r : List ℕ) → T (is_rule sig l r) → RuleParts l r
  rule-parts l r h =
      let p = fst_of (is_proper l r) _ h in
      let t = snd_of (is_proper l r) _ h in
      let ss = fst_of (is_side l && is_side r) _ p in
      let q = snd_of (is_side l && is_side r) _ p in
      record {
        left_side = fst_of (is_side l) _ ss;
        right_side = snd_of (is_side l) _ ss;
        starts = fst_of (starts_with_symbol l) _ q;
        covered = snd_of (starts_with_symbol l) _ q;
        left_term = fst_of (is_term sig l) _ t;
        right_term = snd_of (is_term sig l) _ t;
      }

  unfoldable pub rule_reading : (l r : List ℕ) → T (is_rule sig l r) → RuleReading sig l r
  rule_reading l r h =
      let p = rule-parts l r h in
      let a = reading l p.left_term in
      let b = reading r p.right_term in
      let hd : T (headed a.term) = subst (λ x. T x) (sym (headed_codes sig few' a.term a.over_signature ∙ ap starts_with_symbol a.coded)) p.starts in
      let bd : T (bound a.term b.term) =
      subst (λ x. T x) (sym (bound_codes sig few' b.term a.term a.over_signature b.over_signature ∙ ap₂ covers a.coded b.coded)) p.covered in
      record {
        rule = record { left = a.term; right = b.term };
        over_signature = both _ _ (both _ _ a.over_signature b.over_signature) (both _ _ hd bd);
        coded = ap₂ (λ x y. record { left = x; right = y }) a.coded b.coded;
        short = record {
          left = (let x = length_codes a.term in let y = ap length a.coded in let z = side_length l p.left_side in omega arith);
          right = (let x = length_codes b.term in let y = ap length b.coded in let z = side_length r p.right_side in omega arith);
        };
      }

  pub rule_bound : (l r : List ℕ) → T (is_rule sig l r) → T (bound (term_of sig l) (term_of sig r))
  unfolding rule_reading reading
  rule_bound l r h = snd_of (headed (term_of sig l)) _ (snd_of (over sig (term_of sig l) && over sig (term_of sig r)) (headed (term_of sig l) && bound (term_of sig l) (term_of sig r)) (rule_reading l r h).over_signature)

  side_of : (t : Term) → T (over sig t) → size t ≤ 32 → T (is_side (codes t))
  side_of t h s =
      let a = length_codes t in
      let b = size_positive t in
      both _ _ (both _ _ (held _ (lt-ltb 0 (length (codes t)) (omega arith))) (held _ (le-leb (length (codes t)) 32 (omega arith)))) (within_codes sig few' t h)

  pub is_rule_of : (x : Rule) → T (rule_over sig x) → Short x → T (is_rule sig (codes x.left) (codes x.right))
  is_rule_of x h s =
      let terms = fst_of (over sig x.left && over sig x.right) (headed x.left && bound x.left x.right) h in
      let rest = snd_of (over sig x.left && over sig x.right) (headed x.left && bound x.left x.right) h in
      let ol = fst_of (over sig x.left) _ terms in
      let o-r = snd_of (over sig x.left) _ terms in
      let hd = subst (λ b. T b) (headed_codes sig few' x.left ol) (fst_of (headed x.left) _ rest) in
      let bd = subst (λ b. T b) (bound_codes sig few' x.right x.left ol o-r) (snd_of (headed x.left) _ rest) in
      let sl = s.left in
      let sr = s.right in
      both _ _ (both _ _ (both _ _ (side_of x.left ol sl) (side_of x.right o-r sr)) (both _ _ hd bd))
      (both _ _ (is_term_of x.left (codes x.left) ol (omega arith) refl) (is_term_of x.right (codes x.right) o-r (omega arith) refl))

  pub rule_exactly : (l r : List ℕ) → RuleExactly sig l r (is_rule sig l r)
  rule_exactly l r = record {
    accepted = λ e. rule_reading l r (held _ e);
    complete = λ x h s e. holds _ (subst (λ y. T (is_rule sig y.left y.right)) e (is_rule_of x h s));
  }

  module _ (cs : List ℕ) (at : ℕ) where
    located_at : (x : Reading sig cs) → T (is_term sig cs) → at < length cs → Located x.term cs at (at + span sig 1 (drop at cs))
    located_at x ok h =
        let t = x.term in
        let n : length cs ≡ size t = sym (ap length x.coded) ∙ length_codes t in
        let here = located t at (omega arith) in
        let same : t ≡ term_of sig cs = sym (x.only (term_of sig cs) (counted_over sig cs (counted sig cs ok)) (counted_codes sig cs (counted sig cs ok))) in
        let w = here.whole ∙ same in
        let part = part_is sig few cs ok at here.context here.part w here.placed in
        let e : at + span sig 1 (drop at cs) ≡ at + size here.part = ap (λ k. at + k) (span-at sig cs ok at h ∙ ap size (sym part)) in
        let f : at + size (sub_at sig cs at) ≡ at + span sig 1 (drop at cs) = ap (λ k. at + k) (sym (span-at sig cs ok at h)) in
        record {
          here = here;
          one_context = λ o. (one_occurrence t at o here).contexts;
          one_part = λ o. (one_occurrence t at o here).parts;
          ends = e;
          spliced = λ u. replaced sig few cs ok at here.context here.part w here.placed u ∙ ap (λ k. take at cs ++ (codes u ++ drop k cs)) f;
        }

    ends_none : (is_term sig cs && ltb at (length cs)) ≡ false → (x : Reading sig cs) → size x.term ≤ at
    ends_none e x =
        let ok = is_term_of x.term cs x.over_signature x.short x.coded in
        let past : ltb at (length cs) ≡ false = sym (ap (λ b. b && ltb at (length cs)) (holds _ ok)) ∙ e in
        let a = ltb-false at (length cs) past in
        let b = ap length x.coded in
        let c = length_codes x.term in
        omega arith

    pub ends_exactly : EndsExactly sig cs at (end_reply sig cs at)
    ends_exactly = go (is_term sig cs && ltb at (length cs)) refl
      where
        go : (b : Bool) → (is_term sig cs && ltb at (length cs)) ≡ b → EndsExactly sig cs at (cond b (Some (at + span sig 1 (drop at cs))) None)
        go true e =
            let ok = fst_of (is_term sig cs) _ (held _ e) in
            let h = ltb→lt at (length cs) (snd_of (is_term sig cs) _ (held _ e)) in
            let x = reading cs ok in
            (x, located_at x ok h)
        go false e = ends_none e

-- the same under the signatures of the code
module _ (s : Signature) where
  few_in : length (arities_of s) ≤ 32
  few_in = few_symbols (arities_of s) s.limited

  pub term_law : (cs : List ℕ) (r : Bool) → r ≡ is_term (arities_of s) cs → TermExactly (arities_of s) cs r
  term_law cs r e = subst (TermExactly (arities_of s) cs) (sym e) (term_exactly (arities_of s) few_in cs)

  pub rule_law : (l x : List ℕ) (r : Bool) → r ≡ is_rule (arities_of s) l x → RuleExactly (arities_of s) l x r
  rule_law l x r e = subst (RuleExactly (arities_of s) l x) (sym e) (rule_exactly (arities_of s) few_in l x)

  pub end_law : (cs : List ℕ) (at : ℕ) (r : Option ℕ) → r ≡ end_reply (arities_of s) cs at → EndsExactly (arities_of s) cs at r
  end_law cs at r e = subst (EndsExactly (arities_of s) cs at) (sym e) (ends_exactly (arities_of s) few_in cs at)
