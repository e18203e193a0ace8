-- How deep left sides see, told by their codes.
use Rattle.std.proofs.Common.{◌≡◌, ℕ, zero, suc, ◌+◌, ◌≤◌, Bool, true, false, ◌&&◌, cond, T, ltb, eqb, List, [], ◌∷◌, ◌++◌, length, sym, refl, ap, ◌∙◌, subst, arith, lt-ltb, ltb-true, slice_index}
use Rattle.std.proofs.lemmas.Bool.{cond-true, le-leb}
use Rattle.std.proofs.lemmas.List.Elements.{filter-append}
use Rattle.std.proofs.lemmas.List.{length-append}
use Rattle.terms.specs.Codes.{is_term, term_of}
use Rattle.terms.specs.Terms.{Term, Terms, Term.var, Term.app, Terms.none, Terms.more, codes, codes_all, count, over, over_all}
use Rattle.terms.specs.Rules.{Rule, Numbered}
use Rattle.terms.proofs.Booleans.{both, fst_of, snd_of, holds}
use Rattle.terms.proofs.Readings.{counted_over, counted_codes}
use Rattle.terms.proofs.Views.{counted}
use Rattle.resuming.specs.Shapes.{larger, levels, levels_all, unrepeated, shallow, symbols}
use Rattle.resuming.proofs.Resuming.{Shallow}

symbols_append : (xs ys : List ℕ) → symbols (xs ++ ys) ≡ symbols xs + symbols ys
symbols_append xs ys = ap length (filter-append (λ c. ltb c 32768) xs ys) ∙ length-append _ _

larger_of : (a b n : ℕ) → a ≤ n → b ≤ n → larger a b ≤ n
larger_of a b n h k = go (ltb a b)
  where
    go : (t : Bool) → cond t b a ≤ n
    go true = k
    go false = h

module _ (sig : List ℕ) (few : length sig ≤ 32) where
  mutual
    levels_few : (t : Term) → T (over sig t) → levels t ≤ symbols (codes t)
    levels_few (var v) o = omega arith
    levels_few (app f ts) o =
        let symbol = fst_of (ltb f (length sig) && eqb (count ts) (slice_index sig f)) _ o in
        let small = ltb-true f (length sig) (holds _ (fst_of (ltb f (length sig)) _ symbol)) in
        let is : symbols (f ∷ codes_all ts) ≡ suc (symbols (codes_all ts)) = ap length (cond-true _ _ _ (lt-ltb f 32768 (omega arith))) in
        let ih = levels_few_all ts (snd_of (ltb f (length sig) && eqb (count ts) (slice_index sig f)) _ o) in
        omega arith

    levels_few_all : (ts : Terms) → T (over_all sig ts) → levels_all ts ≤ symbols (codes_all ts)
    levels_few_all none o = omega arith
    levels_few_all (more t ts) o =
        let a = levels_few t (fst_of (over sig t) _ o) in
        let b = levels_few_all ts (snd_of (over sig t) _ o) in
        let e = symbols_append (codes t) (codes_all ts) in
        larger_of (levels t) (levels_all ts) _ (omega arith) (omega arith)

  -- a left side by its codes
  pub shallow_left : (left : List ℕ) (d : ℕ) → T (is_term sig left) → T (unrepeated left) → symbols left ≤ d → (levels (term_of sig left) ≤ d) × T (unrepeated (codes (term_of sig left)))
  shallow_left left d ok u s =
      let o = counted_over sig left (counted sig left ok) in
      let e = counted_codes sig left (counted sig left ok) in
      let l = levels_few (term_of sig left) o in
      let k = ap symbols e in
      (omega arith, subst (λ cs. T (unrepeated cs)) (sym e) u)

-- all of them
pub all_shallow : (d : ℕ) (rules : List Rule) → ((n : ℕ) (r : Rule) → Numbered rules n r → Shallow d r) → T (shallow d rules)
all_shallow d [] h = tt
all_shallow d (r ∷ rs) h =
    let s = h zero r refl in
    both _ _ (both _ _ (subst (λ b. T b) (sym (le-leb _ _ s.low)) tt) s.plain) (all_shallow d rs (λ n x k. h (suc n) x k))
