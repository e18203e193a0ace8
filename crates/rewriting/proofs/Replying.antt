-- What a step by a rule at a place answers.
use Rattle.std.proofs.Common.{◌≡◌, ℕ, ◌<◌, ◌≤◌, Bool, true, false, cond, T, leb, List, length, Some, Ok, Err, Option, Result, sym, ap, ◌∙◌, subst₂, ap₂, arith}
use Rattle.std.specs.Result.{IsErrAnd}
use Rattle.std.proofs.lemmas.Bool.{le-leb, lt-leb}
use Rattle.rewriting.specs.declared.bindings.Bindings.{Bindings}
use Rattle.rewriting.specs.declared.fault.RewriteFault.{RewriteFault}
use Rattle.rewriting.specs.declared.fault.RewriteFault.TheVariants as fault
use Rattle.rewriting.specs.declared.place.Place.{Place}
use Rattle.terms.specs.Codes.{term_of}
use Rattle.terms.specs.Replies.{viewed}
use Rattle.terms.specs.Shapes.{is_rule, rule_of}
use Rattle.terms.proofs.Booleans.{holds}
use Rattle.terms.proofs.Exactly.{rule-parts, rule_bound}
use Rattle.terms.proofs.Readings.{counted_over, counted_codes}
use Rattle.terms.proofs.Scans.{few_symbols}
use Rattle.terms.proofs.Views.{counted}
use Rattle.rewriting.specs.Matching.{matches}
use Rattle.rewriting.specs.Bindings.{bound_to, Solved, Answered}
use Rattle.rewriting.specs.Filling.{filled, replaced, next_codes}
use Rattle.rewriting.specs.Places.{arities_at, subterm}
use Rattle.rewriting.specs.Replies.{stepped}
use Rattle.rewriting.proofs.Solutions.{filled_is, solved_matches}

stepped_to : List ℕ → Result (List ℕ) RewriteFault
stepped_to x = Ok x

-- the exit of a `?` at what does not fit
pub refused_long : {x : Result (List ℕ) RewriteFault} (view : Unit {0} → List ℕ) (r : Result (Unit {0}) RewriteFault) → IsErrAnd r (λ e. e ≡ fault.TooLong) → Err fault.TooLong ≡ x → viewed view r ≡ x
refused_long view (Ok v) h e = absurd h
refused_long view (Err f) h e = cc

few_at : (p : Place) → length (arities_at p) ≤ 32
few_at p = few_symbols (arities_at p) p.signature.now.limited

module _ (p : Place) (left right : List ℕ) (rule : T (is_rule (arities_at p) left right)) where
  step_reply : (a b : Bool) → matches (term_of (arities_at p) left) (subterm p) ≡ a → leb (length (next_codes (arities_at p) p.codes.now p.at (rule_of (arities_at p) left right))) 1024 ≡ b
      → stepped (arities_at p) p.codes.now p.at (rule_of (arities_at p) left right) ≡ cond a (cond b (Ok (next_codes (arities_at p) p.codes.now p.at (rule_of (arities_at p) left right))) (Err fault.TooLong)) (Err fault.NoMatch)
  step_reply a b e f =
      let n = next_codes (arities_at p) p.codes.now p.at (rule_of (arities_at p) left right) in
      ap₂ (λ x y. cond {A = Result (List ℕ) RewriteFault} x (cond y (Ok n) (Err fault.TooLong)) (Err fault.NoMatch)) e f

  module _ (b : Bindings) (r : Option Bindings) (is : r ≡ Some b) (pattern : List ℕ) (a : Answered r (arities_at p) pattern p.codes.now p.at) (same_left : pattern ≡ left) (side : List ℕ) (same : side ≡ right) where
    solved : Solved (arities_at p) left p.codes.now p.at (bound_to b)
    solved = subst₂ (λ x l. Answered x (arities_at p) l p.codes.now p.at) is same_left a

    matched : matches (term_of (arities_at p) left) (subterm p) ≡ true
    matched = holds _ (solved_matches (arities_at p) (few_at p) left p.codes.now p.term p.at (bound_to b) solved)

    whole : replaced (arities_at p) p.codes.now p.at (filled (bound_to b) side) ≡ next_codes (arities_at p) p.codes.now p.at (rule_of (arities_at p) left right)
    whole =
        let sig = arities_at p in
        let t = (rule-parts sig (few_at p) left right rule).right_term in
        ap (λ l. replaced sig p.codes.now p.at l)
        (ap (filled (bound_to b)) (same ∙ sym (counted_codes sig right (counted sig right t)))
        ∙ filled_is sig (few_at p) left p.codes.now p.term p.at (bound_to b) solved (term_of sig right) (counted_over sig right (counted sig right t)) (rule_bound sig (few_at p) left right rule))

    pub step_long : 1024 < length (replaced (arities_at p) p.codes.now p.at (filled (bound_to b) side)) → Err fault.TooLong ≡ stepped (arities_at p) p.codes.now p.at (rule_of (arities_at p) left right)
    step_long long = let w = ap length whole in sym (step_reply true false matched (lt-leb _ 1024 (omega arith)))

    pub step_done : (after : List ℕ) → after ≡ replaced (arities_at p) p.codes.now p.at (filled (bound_to b) side) → length after ≤ 1024 → Ok after ≡ stepped (arities_at p) p.codes.now p.at (rule_of (arities_at p) left right)
    unfolding stepped_to
    step_done after e fits =
        let w : after ≡ next_codes (arities_at p) p.codes.now p.at (rule_of (arities_at p) left right) = e ∙ whole in
        let k = ap length w in
        ap stepped_to w ∙ sym (step_reply true true matched (le-leb _ 1024 (omega arith)))
