-- A subterm, its codes and what follows it.
use Rattle.std.proofs.Common.{◌≡◌, ℕ, ◌+◌, ◌-◌, ◌<◌, ◌≤◌, T, List, [], ◌++◌, length, take, drop, sym, refl, ap, ◌∙◌, subst, ap₂, append-nil, arith}
use Rattle.std.specs.List.{between}
use Rattle.std.proofs.lemmas.List.{drop_at, take_at, drop-drop}
use Rattle.terms.specs.Terms.{Term, Terms, Terms.none, Terms.more, count, codes, codes_all, size, over, over_all}
use Rattle.terms.specs.Contexts.{joined}
use Rattle.terms.specs.Codes.{is_term, stack, top, term_of, rest_at, sub_at}
use Rattle.terms.proofs.Booleans.{fst_of, snd_of}
use Rattle.terms.proofs.Readings.{stack_terms, term_of_codes}
use Rattle.terms.proofs.Places.{length_codes}
use Rattle.terms.proofs.Views.{some_at, reads_at}

pub tail : Terms → Terms
tail none = none
tail (more t ts) = ts

pub joined_none : (ts : Terms) → joined ts none ≡ ts
joined_none none = refl
joined_none (more t ts) = ap (more t) (joined_none ts)

pub first_of : (ts : Terms) → 0 < count ts → (rest : Terms) × (ts ≡ more (top ts) rest)
first_of none h = let z : ⊥ = omega arith in absurd z
first_of (more t ts) h = (ts, refl)

pub lone_of : (ts : Terms) → count ts ≡ 1 → ts ≡ more (top ts) none
lone_of none h = let z : ⊥ = omega arith in absurd z
lone_of (more t none) h = refl
lone_of (more t (more u us)) h = let z : ⊥ = omega arith in absurd z

pub same_codes : (sig : List ℕ) → length sig ≤ 32768 → (t u : Term) → T (over sig t) → T (over sig u) → codes t ≡ codes u → t ≡ u
same_codes sig few t u h k e = sym (term_of_codes sig few t h) ∙ ap (term_of sig) e ∙ term_of_codes sig few u k

pub record Part (sig cs : List ℕ) (i : ℕ) : Type 0 where
  pub fine : T (over sig (sub_at sig cs i))
  pub here : rest_at sig cs i ≡ more (sub_at sig cs i) (rest_at sig cs (i + size (sub_at sig cs i)))
  pub split : drop i cs ≡ codes (sub_at sig cs i) ++ drop (i + size (sub_at sig cs i)) cs
  pub cut : between i (i + size (sub_at sig cs i)) cs ≡ codes (sub_at sig cs i)

pub part_at : (sig : List ℕ) → length sig ≤ 32768 → (cs : List ℕ) → T (is_term sig cs) → (i : ℕ) → i < length cs → Part sig cs i
part_at sig few cs ok i h =
    let f = first_of (rest_at sig cs i) (some_at sig cs ok i h) in
    let r = reads_at sig cs ok i in
    let t = sub_at sig cs i in
    let rest = f.0 in
    let n = i + size t in
    let good : T (over_all sig (more t rest)) = subst (λ ts. T (over_all sig ts)) f.1 r.1.good in
    let whole : drop i cs ≡ codes t ++ codes_all rest = sym r.1.same ∙ ap codes_all f.1 in
    let after : drop n cs ≡ codes_all rest =
    sym (drop-drop (size t) i cs) ∙ ap (λ l. drop (size t) l) whole ∙ drop_at (codes t) (codes_all rest) (size t) (length_codes t) in
    let back : rest_at sig cs n ≡ rest =
    ap (stack sig) (after ∙ sym (append-nil (codes_all rest))) ∙ stack_terms sig few rest [] (snd_of (over sig t) _ good) ∙ joined_none rest in
    let e : (i + size t) - i ≡ size t = omega arith in
    record {
      fine = fst_of (over sig t) _ good;
      here = f.1 ∙ ap (more t) (sym back);
      split = whole ∙ ap (λ l. codes t ++ l) (sym after);
      cut = ap₂ (λ k l. take k l) e whole ∙ take_at (codes t) (codes_all rest) (size t) (length_codes t);
    }
