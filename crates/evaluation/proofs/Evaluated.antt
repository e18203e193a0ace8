-- What the evaluator answers about a term, and what that means.
use Rattle.std.proofs.Common.{◌≡◌, ℕ, ◌≤◌, Bool, true, false, cond, T, leb, List, length, Some, None, Option, sym, refl, ap, ◌∙◌, subst, inl, inr, leb→le}
use Rattle.std.proofs.Math.Bool.{and-true}
use Rattle.std.proofs.lemmas.Bool.{le-leb, leb-false, and_cases}
use Rattle.terms.specs.declared.signature.Signature.{Signature}
use Rattle.terms.specs.Terms.{Terms.none, Terms.more}
use Rattle.terms.specs.Codes.{is_term, stack, term_of}
use Rattle.terms.specs.Laws.{Reading}
use Rattle.terms.specs.Models.{arities_of}
use Rattle.terms.proofs.Booleans.{both, fst_of, snd_of, held, holds}
use Rattle.terms.proofs.Readings.{reads}
use Rattle.terms.proofs.Subterms.{lone_of}
use Rattle.terms.proofs.Views.{counted}
use Rattle.terms.proofs.Scans.{few_symbols}
use Rattle.terms.proofs.Exactly.{reading, is_term_of}
use Rattle.evaluation.specs.Subterms.{throughout, throughout_all, OfSubterm}
use Rattle.evaluation.specs.Structures.{Structure, value, near}
use Rattle.evaluation.specs.Replies.{bounded, ready, evaluated}
use Rattle.evaluation.specs.Laws.{Valued, Evaluates}
use Rattle.evaluation.proofs.Throughout.{throughout_exact, throughout_fails}

module _ {V : Type 0} (s : Structure V) (sig cs : List ℕ) where
  -- the codes of a term leave one term
  pub one_left : T (is_term sig cs) → stack sig cs ≡ more (term_of sig cs) none
  one_left ok = lone_of (stack sig cs) (reads sig cs 1 (counted sig cs ok)).many

  pub one-near : T (is_term sig cs) → throughout_all (near s) (stack sig cs) ≡ throughout (near s) (term_of sig cs)
  one-near ok = ap (throughout_all (near s)) (one_left ok) ∙ and-true (throughout (near s) (term_of sig cs))

  module _ (places : ℕ) where
    pub is_ready : T (is_term sig cs) → length cs ≤ places → ready sig cs places ≡ true
    is_ready ok room = holds _ (both _ _ ok (held _ (le-leb (length cs) places room)))

    pub evaluated_lost : T (is_term sig cs) → length cs ≤ places → throughout_all (near s) (stack sig cs) ≡ false → evaluated s sig cs places ≡ None
    evaluated_lost ok room e =
        ap (λ b. cond b (bounded s (term_of sig cs)) None) (is_ready ok room)
        ∙ ap (λ b. cond b (Some (value s (term_of sig cs))) None) (sym (one-near ok) ∙ e)

    module _ (few : length sig ≤ 32) where
      valued : (ok : T (is_term sig cs)) → throughout (near s) (term_of sig cs) ≡ true → Valued s sig cs (value s (term_of sig cs))
      unfolding reading
      valued ok e = record {
        reading = reading sig few cs ok;
        same = refl;
        near = λ c u w. holds _ ((throughout_exact (near s) (term_of sig cs)).0 (held _ e) c u w);
      }

      unvalued : throughout (near s) (term_of sig cs) ≡ false → T (is_term sig cs) → (x : Reading sig cs) → OfSubterm (λ u. s.within (value s u) ≡ false) x.term
      unfolding reading
      unvalued e ok x =
          let y = reading sig few cs ok in
          let same : term_of sig cs ≡ x.term = x.only y.term y.over_signature y.coded in
          throughout_fails (near s) x.term (ap (throughout (near s)) (sym same) ∙ e)

      pub evaluates : Evaluates s sig cs places (evaluated s sig cs places)
      evaluates = go (ready sig cs places) (throughout (near s) (term_of sig cs)) refl refl
        where
          go : (a b : Bool) → ready sig cs places ≡ a → throughout (near s) (term_of sig cs) ≡ b
              → Evaluates s sig cs places (cond a (cond b (Some (value s (term_of sig cs))) None) None)
          go true true e f =
              (leb→le (length cs) places (snd_of (is_term sig cs) _ (held _ e)), valued (fst_of (is_term sig cs) _ (held _ e)) f)
          go true false e f = inr (unvalued f (fst_of (is_term sig cs) _ (held _ e)))
          go false b e f = elim (and_cases (is_term sig cs) (leb (length cs) places) e) [
            | inl a ↦ inr (λ x. absurd (subst (λ b. T b) a (is_term_of sig few x.term cs x.over_signature x.short x.coded)))
            | inr a ↦ inl (leb-false (length cs) places a)
          ]

-- the same of what a call answers
pub evaluates_law : {V : Type 0} (s : Structure V) (sig cs : List ℕ) (places : ℕ) (own : Signature) (r : Option V) → arities_of own ≡ sig → r ≡ evaluated s sig cs places → Evaluates s sig cs places r
evaluates_law s sig cs places own r same e =
    subst (Evaluates s sig cs places) (sym e) (evaluates s sig cs places (subst (λ l. length l ≤ 32) same (few_symbols (arities_of own) own.limited)))
