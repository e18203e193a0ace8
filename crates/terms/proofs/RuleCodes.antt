-- A rule, by the codes of its sides.
use Rattle.std.proofs.Common.{◌≡◌, ℕ, ◌+◌, ◌<◌, ◌≤◌, true, false, ◌&&◌, ◌||◌, T, eqb, ltb, List, ◌++◌, length, get_or, sym, refl, ap, ◌∙◌, subst, ap₂, inl, inr, arith, ltb→lt}
use Rattle.std.specs.Prelude.{◌==◌, nat_lt, nat_le}
use Rattle.std.proofs.lemmas.List.Folds.{list_any-append, list_all-append}
use mathlib.Core.Bool.{or-false, and-true}
use Rattle.std.proofs.lemmas.Bool.{lt-ltb, le-ltb, le-leb, eq-eqb, ne_eqb, cases_eq}
use Rattle.terms.specs.Terms.{Term, Terms, Term.var, Term.app, Terms.none, Terms.more, count, codes, codes_all, over, over_all}
use Rattle.terms.specs.Rules.{occurs, occurs_some, bound, bound_all, headed}
use Rattle.terms.specs.Shapes.{all_within, has, covers, starts_with_symbol}
use Rattle.terms.proofs.Booleans.{both, fst_of, snd_of, held}

has-append : (c : ℕ) (xs ys : List ℕ) → has (xs ++ ys) c ≡ (has xs c || has ys c)
has-append c xs ys = list_any-append (λ d. d == c) xs ys

pub covers-append : (ls xs ys : List ℕ) → covers ls (xs ++ ys) ≡ (covers ls xs && covers ls ys)
covers-append ls xs ys = list_all-append (λ c. nat_lt c 32768 || has ls c) xs ys

within_append : (n : ℕ) (xs ys : List ℕ) → all_within n (xs ++ ys) ≡ (all_within n xs && all_within n ys)
within_append n xs ys = list_all-append (λ x. nat_le x n) xs ys

shifted : (v w : ℕ) → eqb v w ≡ eqb (32768 + w) (32768 + v)
shifted v w = elim (cases_eq v w) [
  | inl e ↦ eq-eqb v w e ∙ sym (eq-eqb (32768 + w) (32768 + v) (ap (λ x. 32768 + x) (sym e)))
  | inr n ↦ ne_eqb v w n ∙ sym (ne_eqb (32768 + w) (32768 + v) (λ e. n (omega arith)))
]

module _ (sig : List ℕ) (few : length sig ≤ 32768) where
  symbol : (f : ℕ) (ts : Terms) → T (over sig (app f ts)) → f < 32768
  symbol f ts h =
      let head = ltb f (length sig) && eqb (count ts) (get_or sig f 0) in
      let lt = ltb→lt f (length sig) (fst_of (ltb f (length sig)) _ (fst_of head (over_all sig ts) h)) in
      omega arith

  args : (f : ℕ) (ts : Terms) → T (over sig (app f ts)) → T (over_all sig ts)
  args f ts h = snd_of (ltb f (length sig) && eqb (count ts) (get_or sig f 0)) (over_all sig ts) h

  mutual
    occurs_codes : (t : Term) (v : ℕ) → T (over sig t) → occurs v t ≡ has (codes t) (32768 + v)
    occurs_codes (var w) v h = shifted v w ∙ sym (or-false (eqb (32768 + w) (32768 + v)))
    occurs_codes (app f ts) v h =
        let lt = symbol f ts h in
        let apart : eqb f (32768 + v) ≡ false = ne_eqb f (32768 + v) (λ e. omega arith) in
        occurs_codes_all ts v (args f ts h) ∙ ap (λ b. b || has (codes_all ts) (32768 + v)) (sym apart)

    occurs_codes_all : (ts : Terms) (v : ℕ) → T (over_all sig ts) → occurs_some v ts ≡ has (codes_all ts) (32768 + v)
    occurs_codes_all none v h = refl
    occurs_codes_all (more t ts) v h =
        ap₂ (λ a b. a || b) (occurs_codes t v (fst_of (over sig t) _ h)) (occurs_codes_all ts v (snd_of (over sig t) _ h))
        ∙ sym (has-append (32768 + v) (codes t) (codes_all ts))

  mutual
    pub bound_codes : (t l : Term) → T (over sig l) → T (over sig t) → bound l t ≡ covers (codes l) (codes t)
    bound_codes (var v) l k h =
        let ge : ltb (32768 + v) 32768 ≡ false = le-ltb (32768 + v) 32768 (omega arith) in
        occurs_codes l v k ∙ ap (λ b. b || has (codes l) (32768 + v)) (sym ge) ∙ sym (and-true (ltb (32768 + v) 32768 || has (codes l) (32768 + v)))
    bound_codes (app f ts) l k h =
        let lt : ltb f 32768 ≡ true = lt-ltb f 32768 (symbol f ts h) in
        bound_codes_all ts l k (args f ts h) ∙ ap (λ b. (b || has (codes l) f) && covers (codes l) (codes_all ts)) (sym lt)

    bound_codes_all : (ts : Terms) (l : Term) → T (over sig l) → T (over_all sig ts) → bound_all l ts ≡ covers (codes l) (codes_all ts)
    bound_codes_all none l k h = refl
    bound_codes_all (more t ts) l k h =
        ap₂ (λ a b. a && b) (bound_codes t l k (fst_of (over sig t) _ h)) (bound_codes_all ts l k (snd_of (over sig t) _ h))
        ∙ sym (covers-append (codes l) (codes t) (codes_all ts))

  pub headed_codes : (t : Term) → T (over sig t) → headed t ≡ starts_with_symbol (codes t)
  headed_codes (var v) h = sym (le-ltb (32768 + v) 32768 (omega arith))
  headed_codes (app f ts) h = sym (lt-ltb f 32768 (symbol f ts h))

  -- the codes of a term over a signature are not past the last variable
  mutual
    pub within_codes : (t : Term) → T (over sig t) → T (all_within 32775 (codes t))
    within_codes (var v) h = let low = ltb→lt v 8 h in both _ _ (held _ (le-leb (32768 + v) 32775 (omega arith))) tt
    within_codes (app f ts) h = let lt = symbol f ts h in both _ _ (held _ (le-leb f 32775 (omega arith))) (within_codes_all ts (args f ts h))

    within_codes_all : (ts : Terms) → T (over_all sig ts) → T (all_within 32775 (codes_all ts))
    within_codes_all none h = tt
    within_codes_all (more t ts) h =
        subst (λ b. T b) (sym (within_append 32775 (codes t) (codes_all ts)))
        (both _ _ (within_codes t (fst_of (over sig t) _ h)) (within_codes_all ts (snd_of (over sig t) _ h)))
