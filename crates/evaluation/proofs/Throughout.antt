-- A test passes throughout a term exactly if it passes at every subterm.
use Rattle.std.proofs.Common.{◌≡◌, ℕ, zero, suc, Bool, false, ◌&&◌, T, ◌↔◌, sym, refl, ap, ◌∙◌, subst, ap₂, inl, inr}
use Rattle.std.proofs.Math.Bool.{and_assoc}
use Rattle.std.proofs.lemmas.Bool.{and_cases, true≢false}
use Rattle.terms.specs.Terms.{Term, Terms, Term.var, Term.app, Terms.none, Terms.more}
use Rattle.terms.specs.Contexts.{Context, Context.hole, Context.inside, plug, joined}
use Rattle.terms.specs.Codes.{front, back}
use Rattle.terms.proofs.Booleans.{both, fst_of, snd_of}
use Rattle.evaluation.specs.Subterms.{throughout, throughout_all, OfSubterms, OfSubterm}

joined_on : (before : Terms) (t : Term) (ts : Terms) → joined (joined before (more t none)) ts ≡ joined before (more t ts)
joined_on none t ts = refl
joined_on (more x before) t ts = ap (more x) (joined_on before t ts)

module _ (p : Term → Bool) where
  pub throughout_top : (t : Term) → T (throughout p t) → T (p t)
  throughout_top (var v) h = h
  throughout_top (app f ts) h = snd_of (throughout_all p ts) _ h

  throughout_mid : (before : Terms) (t : Term) (after : Terms) → T (throughout_all p (joined before (more t after))) → T (throughout p t)
  throughout_mid none t after h = fst_of (throughout p t) _ h
  throughout_mid (more x before) t after h = throughout_mid before t after (snd_of (throughout p x) _ h)

  throughout_at : (c : Context) (u : Term) → T (throughout p (plug c u)) → T (throughout p u)
  throughout_at hole u h = h
  throughout_at (inside f before c after) u h =
      throughout_at c u (throughout_mid before (plug c u) after (fst_of (throughout_all p (joined before (more (plug c u) after))) _ h))

  mutual
    throughout_from : (t : Term) → OfSubterms (λ u. T (p u)) t → T (throughout p t)
    throughout_from (var v) h = h hole (var v) refl
    throughout_from (app f ts) h = both (throughout_all p ts) _ (throughout_froms f none ts h) (h hole (app f ts) refl)

    throughout_froms : (f : ℕ) (before : Terms) (ts : Terms) → OfSubterms (λ u. T (p u)) (app f (joined before ts)) → T (throughout_all p ts)
    throughout_froms f before none h = tt
    throughout_froms f before (more t ts) h =
        both (throughout p t) _ (throughout_from t (λ c u e. h (inside f before c ts) u (ap (λ x. app f (joined before (more x ts))) e)))
        (throughout_froms f (joined before (more t none)) ts (λ c u e. h c u (e ∙ ap (app f) (joined_on before t ts))))

  pub throughout_exact : (t : Term) → T (throughout p t) ↔ OfSubterms (λ u. T (p u)) t
  throughout_exact t = (λ h c u e. throughout_top u (throughout_at c u (subst (λ x. T (throughout p x)) (sym e) h)), throughout_from t)

  -- where a test does not pass throughout, it fails at some subterm
  lifted : (f : ℕ) (before : Terms) (t : Term) (ts : Terms) → OfSubterm (λ u. p u ≡ false) t → OfSubterm (λ u. p u ≡ false) (app f (joined before (more t ts)))
  lifted f before t ts o = record {
    context = inside f before o.context ts;
    part = o.part;
    whole = ap (λ x. app f (joined before (more x ts))) o.whole;
    fact = o.fact;
  }

  mutual
    pub throughout_fails : (t : Term) → throughout p t ≡ false → OfSubterm (λ u. p u ≡ false) t
    throughout_fails (var v) e = record { context = hole; part = var v; whole = refl; fact = e }
    throughout_fails (app f ts) e = elim (and_cases (throughout_all p ts) (p (app f ts)) e) [
      | inl a ↦ throughout_all_fails f none ts a
      | inr b ↦ record { context = hole; part = app f ts; whole = refl; fact = b }
    ]

    throughout_all_fails : (f : ℕ) (before ts : Terms) → throughout_all p ts ≡ false → OfSubterm (λ u. p u ≡ false) (app f (joined before ts))
    throughout_all_fails f before none e = record { context = hole; part = app f (joined before none); whole = refl; fact = absurd (true≢false e) }
    throughout_all_fails f before (more t ts) e = elim (and_cases (throughout p t) (throughout_all p ts) e) [
      | inl a ↦ lifted f before t ts (throughout_fails t a)
      | inr b ↦ subst (OfSubterm (λ u. p u ≡ false)) (ap (app f) (joined_on before t ts)) (throughout_all_fails f (joined before (more t none)) ts b)
    ]

  -- a row in two
  pub throughout_split : (n : ℕ) (ts : Terms) → throughout_all p ts ≡ (throughout_all p (front n ts) && throughout_all p (back n ts))
  throughout_split zero ts = refl
  throughout_split (suc n) none = refl
  throughout_split (suc n) (more t ts) = ap (λ b. throughout p t && b) (throughout_split n ts) ∙ sym (and_assoc (throughout p t) _ _)

-- two tests that agree, throughout
module _ (p q : Term → Bool) (same : (t : Term) → p t ≡ q t) where
  mutual
    pub throughout_same : (t : Term) → throughout p t ≡ throughout q t
    throughout_same (var v) = same (var v)
    throughout_same (app f ts) = ap₂ (λ x y. x && y) (throughout_all_same ts) (same (app f ts))

    throughout_all_same : (ts : Terms) → throughout_all p ts ≡ throughout_all q ts
    throughout_all_same none = refl
    throughout_all_same (more t ts) = ap₂ (λ x y. x && y) (throughout_same t) (throughout_all_same ts)
