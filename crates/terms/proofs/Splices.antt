-- A subterm in its context is a part of the codes, and another term put there is spliced in.
use Rattle.std.proofs.Common.{◌≡◌, ℕ, ◌+◌, ◌≤◌, T, List, ◌++◌, length, take, drop, sym, ap, ◌∙◌, subst, ap₂, arith}
use Rattle.std.proofs.lemmas.List.{drop_at, take_at, drop-drop}
use Rattle.terms.specs.Terms.{Term, codes, size, over}
use Rattle.terms.specs.Contexts.{Context, plug, place, before_hole, after_hole}
use Rattle.terms.specs.Codes.{is_term, stack, top, term_of, sub_at}
use Rattle.terms.proofs.Overs.{over_hole}
use Rattle.terms.proofs.Readings.{stack_term, counted_over, counted_codes}
use Rattle.terms.proofs.Places.{codes_plug, length_codes, length_before}
use Rattle.terms.proofs.Views.{counted}

module _ (sig : List ℕ) (few : length sig ≤ 32) (cs : List ℕ) (ok : T (is_term sig cs)) (p : ℕ) (c : Context) (x : Term) (w : plug c x ≡ term_of sig cs) (e : place c ≡ p) where
  few' : length sig ≤ 32768
  few' = omega arith

  pub over_plugged : T (over sig (plug c x))
  over_plugged = subst (λ y. T (over sig y)) (sym w) (counted_over sig cs (counted sig cs ok))

  pub over_part : T (over sig x)
  over_part = over_hole sig c x over_plugged

  cut : cs ≡ before_hole c ++ (codes x ++ after_hole c)
  cut = sym (counted_codes sig cs (counted sig cs ok)) ∙ ap codes (sym w) ∙ codes_plug c x

  from_p : drop p cs ≡ codes x ++ after_hole c
  from_p = ap (λ l. drop p l) cut ∙ drop_at (before_hole c) (codes x ++ after_hole c) p (length_before c ∙ e)

  pub part_is : x ≡ sub_at sig cs p
  part_is = sym (ap (λ l. top (stack sig l)) from_p ∙ ap top (stack_term sig few' x (after_hole c) over_part))

  pub replaced : (y : Term) → codes (plug c y) ≡ take p cs ++ (codes y ++ drop (p + size (sub_at sig cs p)) cs)
  replaced y =
      let front : before_hole c ≡ take p cs = sym (ap (λ l. take p l) cut ∙ take_at (before_hole c) (codes x ++ after_hole c) p (length_before c ∙ e)) in
      let n = size (sub_at sig cs p) in
      let back : after_hole c ≡ drop (p + n) cs =
      sym (sym (drop-drop n p cs) ∙ ap (λ l. drop n l) from_p ∙ drop_at (codes x) (after_hole c) n (length_codes x ∙ ap size part_is)) in
      codes_plug c y ∙ ap₂ (λ a b. a ++ (codes y ++ b)) front back
