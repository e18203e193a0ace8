-- Given and readable, exactly, and how far an untested entry can go.
use Rattle.std.proofs.Common.{ℕ, suc, ◌*◌, ◌^◌, ◌<◌, ◌≤◌, Bool, T, leb, ◌↔◌, mul-le-mul_right, mul-le-mul, arith, le→leb, leb→le}
use Rattle.terms.specs.Terms.{Term, Terms, Term.app, Terms.none, Terms.more, count}
use Rattle.terms.specs.Rules.{Rule}
use Rattle.terms.proofs.Booleans.{both, fst_of, snd_of}
use Rattle.algebras.specs.Meanings.{reach}
use Rattle.evaluation.specs.Subterms.{throughout, OfSubterms}
use Rattle.evaluation.proofs.Throughout.{throughout_exact}
use Rattle.interpretations.specs.Parts.{Part, Assignment, value, products, zeros, constant_of, matrix_of}
use Rattle.interpretations.specs.Orders.{each_constant, each_entry, value_near, form_near, given, readable}
use Rattle.interpretations.specs.Laws.{ValueNear, FormNear, Small, ArgumentsNear}
use Rattle.interpretations.proofs.Totals.{total_most}
use Rattle.interpretations.proofs.Tests.{every-at, every_from, entry_at, entry_from}

-- a test that decides a fact decides it of every subterm
by_subterms : (p : Term → Bool) (Fact : Term → Type 0) → ((t : Term) → T (p t) ↔ Fact t) → (t : Term) → T (throughout p t) ↔ OfSubterms Fact t
by_subterms p Fact decides t =
    (λ h c u e. (decides u).0 ((throughout_exact p t).0 h c u e), λ h. (throughout_exact p t).1 (λ c u e. (decides u).1 (h c u e)))

module _ (P : Part) where
  value_is : (t : Term) → T (value_near P t) ↔ ValueNear P t
  value_is t = (
    λ h i k. leb→le _ _ (every-at P.dim (λ i. leb (value P zeros t i) reach) h i k),
    λ h. every_from P.dim (λ i. leb (value P zeros t i) reach) (λ i k. le→leb _ _ (h i k)),
  )

  form_is : (t : Term) → T (form_near P t) ↔ FormNear P t
  form_is t =
      let constants = λ (i : ℕ). leb (constant_of P t i) reach in
      let matrices = λ (v i j : ℕ). leb (matrix_of P t v i j) reach in (
        λ h. record {
          constants = λ i k. leb→le _ _ (every-at P.dim constants (fst_of (each_constant P constants) (each_entry P matrices) h) i k);
          matrices = λ v i j a b c. leb→le _ _ (entry_at P matrices (snd_of (each_constant P constants) (each_entry P matrices) h) v i j a b c);
        },
        λ h. both (each_constant P constants) (each_entry P matrices) (every_from P.dim constants (λ i k. le→leb _ _ (h.constants i k)))
            (entry_from P matrices (λ v i j a b c. le→leb _ _ (h.matrices v i j a b c))),
      )

  pub given_is : (t : Term) → T (given P t) ↔ OfSubterms (ValueNear P) t
  given_is = by_subterms (value_near P) (ValueNear P) value_is

  forms_are : (t : Term) → T (throughout (form_near P) t) ↔ OfSubterms (FormNear P) t
  forms_are = by_subterms (form_near P) (FormNear P) form_is

  pub readable_is : (r : Rule) → T (readable P r) ↔ (OfSubterms (FormNear P) r.left × OfSubterms (FormNear P) r.right)
  readable_is r =
      let left = throughout (form_near P) r.left in (
        λ h. ((forms_are r.left).0 (fst_of left _ h), (forms_are r.right).0 (snd_of left _ h)),
        λ h. both left _ ((forms_are r.left).1 h.0) ((forms_are r.right).1 h.1),
      )

module _ (P : Part) (small : Small P) (α : Assignment) where
  products_most : (f k : ℕ) (ts : Terms) (i : ℕ) → ArgumentsNear P α ts → products P α f k ts i ≤ count ts * (4 * (255 * reach))
  products_most f k none i h = omega arith
  products_most f k (more t ts) i h =
      let a = total_most P.dim (255 * reach) (λ j. P.entry f k i j * value P α t j) (λ j l. mul-le-mul (small.entries f k i j) (h.0 j l)) in
      let d = mul-le-mul_right (255 * reach) small.dims in
      let b = products_most f (suc k) ts i h.1 in
      omega arith

  pub untested_fits : (f : ℕ) (ts : Terms) (i : ℕ) → count ts ≤ 4 → ArgumentsNear P α ts → value P α (app f ts) i < 2 ^ 52
  untested_fits f ts i few h =
      let a = products_most f 0 ts i h in
      let b = mul-le-mul_right (4 * (255 * reach)) few in
      let c = small.constants f i in
      omega arith
