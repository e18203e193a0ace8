-- Places and contexts: each code of a term begins one subterm, and a context is a cut of the codes.
use Rattle.std.proofs.Common.{◌≡◌, ℕ, zero, suc, ◌+◌, ◌-◌, ◌<◌, ◌≤◌, T, List, ◌∷◌, ◌++◌, length, drop, sym, refl, ap, ◌∙◌, subst, ap₂, inl, inr, append_assoc, append-nil, arith, length-append}
use Rattle.std.proofs.lemmas.Bool.{cases_lt}
use Rattle.std.proofs.lemmas.List.{drop_at}
use Rattle.terms.specs.Terms.{Term, Terms, Term.var, Term.app, Terms.none, Terms.more, codes, codes_all, size, size_all, over}
use Rattle.terms.specs.Contexts.{Context, Context.hole, Context.inside, plug, joined, place, before_hole, after_hole, Occurrence}
use Rattle.terms.specs.Codes.{stack, top}
use Rattle.terms.proofs.Readings.{stack_term}
use Rattle.terms.proofs.Overs.{over_hole}

pub codes_joined : (ts us : Terms) → codes_all (joined ts us) ≡ codes_all ts ++ codes_all us
codes_joined none us = refl
codes_joined (more t ts) us = ap (λ l. codes t ++ l) (codes_joined ts us) ∙ sym (append_assoc (codes t) (codes_all ts) (codes_all us))

pub codes_plug : (c : Context) (t : Term) → codes (plug c t) ≡ before_hole c ++ (codes t ++ after_hole c)
codes_plug hole t = sym (append-nil (codes t))
codes_plug (inside f before c after) t =
    let ih = codes_plug c t in
    ap (λ l. f ∷ l) (codes_joined before (more (plug c t) after) ∙ ap (λ l. codes_all before ++ (l ++ codes_all after)) ih ∙ simp append_assoc)

mutual
  pub length_codes : (t : Term) → length (codes t) ≡ size t
  length_codes (var v) = refl
  length_codes (app f ts) = let e = length_codes_all ts in omega arith

  pub length_codes_all : (ts : Terms) → length (codes_all ts) ≡ size_all ts
  length_codes_all none = refl
  length_codes_all (more t ts) = length-append (codes t) (codes_all ts) ∙ ap₂ (λ a b. a + b) (length_codes t) (length_codes_all ts)

pub length_before : (c : Context) → length (before_hole c) ≡ place c
length_before hole = refl
length_before (inside f before c after) =
    let a = length-append (codes_all before) (before_hole c) in
    let b = length_codes_all before in
    let e = length_before c in
    omega arith

-- what stands at a place of a row of terms
pub record Among (ts : Terms) (i : ℕ) : Type 0 where
  pub before : Terms
  pub context : Context
  pub part : Term
  pub after : Terms
  pub whole : joined before (more (plug context part) after) ≡ ts
  pub placed : size_all before + place context ≡ i

located_app : (f : ℕ) (ts : Terms) (i : ℕ) → i < 1 + size_all ts → ((j : ℕ) → j < size_all ts → Among ts j) → Occurrence (app f ts) i
located_app f ts zero h rec = record { context = hole; part = app f ts; whole = refl; placed = refl }
located_app f ts (suc j) h rec =
    let m = rec j (omega arith) in
    let p = m.placed in
    record {
      context = inside f m.before m.context m.after;
      part = m.part;
      whole = ap (app f) m.whole;
      placed = omega arith;
    }

located_more : (t : Term) (ts : Terms) (i : ℕ) → i < size t + size_all ts → (i < size t → Occurrence t i) → ((j : ℕ) → j < size_all ts → Among ts j) → Among (more t ts) i
located_more t ts i h here later =
    elim (cases_lt i (size t)) [
      | inl k ↦ (let a = here k in let p = a.placed in
          record { before = none; context = a.context; part = a.part; after = ts; whole = ap (λ x. more x ts) a.whole; placed = omega arith })
      | inr k ↦ (let m = later (i - size t) (omega arith) in let p = m.placed in
          record { before = more t m.before; context = m.context; part = m.part; after = m.after; whole = ap (more t) m.whole; placed = omega arith })
    ]

mutual
  pub located : (t : Term) (i : ℕ) → i < size t → Occurrence t i
  located (var v) i h = record { context = hole; part = var v; whole = refl; placed = omega arith }
  located (app f ts) i h = located_app f ts i h (λ j k. located_all ts j k)

  located_all : (ts : Terms) (i : ℕ) → i < size_all ts → Among ts i
  located_all none i h = let z : ⊥ = omega arith in absurd z
  located_all (more t ts) i h = located_more t ts i h (λ k. located t i k) (λ j k. located_all ts j k)

-- and it is one term alone
pub same_part : (sig : List ℕ) → length sig ≤ 32768 → (t : Term) → T (over sig t) → (i : ℕ) (a b : Occurrence t i) → a.part ≡ b.part
same_part sig few t h i a b = sym (there a) ∙ there b
  where
    there : (x : Occurrence t i) → top (stack sig (drop i (codes t))) ≡ x.part
    there x =
        let cut : codes t ≡ before_hole x.context ++ (codes x.part ++ after_hole x.context) = ap codes (sym x.whole) ∙ codes_plug x.context x.part in
        let o : T (over sig x.part) = over_hole sig x.context x.part (subst (λ y. T (over sig y)) (sym x.whole) h) in
        ap (λ l. top (stack sig (drop i l))) cut
        ∙ ap (λ l. top (stack sig l)) (drop_at (before_hole x.context) (codes x.part ++ after_hole x.context) i (length_before x.context ∙ x.placed))
        ∙ ap top (stack_term sig few x.part (after_hole x.context) o)
