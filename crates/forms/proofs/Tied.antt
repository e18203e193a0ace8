-- What the evaluator makes of columns is what the part says.
use Rattle.std.proofs.Common.{◌≡◌, ℕ, zero, suc, ◌+◌, ◌*◌, ◌/◌, ◌%◌, ◌<◌, ◌≤◌, Bool, true, false, cond, eqb, leb, ◌∷◌, map, get_or, sym, refl, ap, ◌∙◌, subst, ap₂, inl, inr, mul-zero, arith}
use Rattle.std.proofs.lemmas.List.FromFn.{get_or-map-range_with_len}
use Rattle.std.proofs.lemmas.Bool.{eq-eqb, ne_eqb, and_left, and_right, and_from, cases_eq}
use Rattle.terms.specs.Terms.{Term, Terms, Term.var, Term.app, Terms.none, Terms.more}
use Rattle.algebras.specs.Meanings.{reach}
use Rattle.evaluation.specs.Subterms.{throughout}
use Rattle.evaluation.specs.Structures as structure
use Rattle.evaluation.specs.Structures.{Structure, near}
use Rattle.evaluation.proofs.Throughout.{throughout_same}
use Rattle.interpretations.specs.Parts.{Part, Assignment, value, products, zeros, unit, bare, constant_of, matrix_of}
use Rattle.interpretations.specs.Orders.{value_near, given}
use Rattle.interpretations.proofs.Totals.{total_same, total_zero}
use Rattle.interpretations.proofs.Tests.{every_same}
use Rattle.interpretations.proofs.Forms.{unit-column}
use Rattle.forms.specs.Columns.{Columns, forms, single, column, spread}
use Rattle.forms.specs.Faithful.{Faithful, weighed}

-- a part with its constants, or without
abbrev pub kept : Bool → Part → Part
kept b P = record { sig = P.sig; dim = P.dim; constant = λ f i. cond b (P.constant f i) 0; entry = P.entry }

-- single columns, of given variables
abbrev pub one : {C : Type 0} → Columns C → Bool → (ℕ → C) → Structure C
one m b a = record { assigned = a; result = m.combined b; within = m.within }

module _ {C : Type 0} (m : Columns C) (entry : C → ℕ → ℕ) (P : Part) (faith : Faithful m entry P) where
  module _ (b : Bool) (a : ℕ → C) (α : Assignment) (atoms : (v i : ℕ) → i < P.dim → entry (a v) i ≡ α v i) where
    mutual
      column-entry : (t : Term) (i : ℕ) → i < P.dim → entry (structure.value (one m b a) t) i ≡ value (kept b P) α t i
      column-entry (var v) i h = atoms v i h
      column-entry (app f ts) i h =
          faith.combines b f (structure.values (one m b a) ts) i h ∙ ap (λ x. cond b (P.constant f i) 0 + x) (columns_entry f 0 ts i h)

      columns_entry : (f k : ℕ) (ts : Terms) (i : ℕ) → i < P.dim → weighed P f k (map entry (structure.values (one m b a) ts)) i ≡ products (kept b P) α f k ts i
      columns_entry f k none i h = refl
      columns_entry f k (more t ts) i h =
          ap₂ (λ x y. x + y) (total_same P.dim _ _ (λ j l. ap (λ x. P.entry f k i j * x) (column-entry t j l))) (columns_entry f (suc k) ts i h)

  -- heights
  pub single-entry : (t : Term) (i : ℕ) → i < P.dim → entry (structure.value (single m) t) i ≡ value P zeros t i
  single-entry t i h = column-entry true (λ v. m.zero) zeros (λ v i l. faith.zeros i) t i h

  pub single-given : (t : Term) → throughout (near (single m)) t ≡ given P t
  single-given = throughout_same (near (single m)) (value_near P)
      (λ t. faith.tests (structure.value (single m) t) ∙ every_same P.dim _ _ (λ i l. ap (λ x. leb x reach) (single-entry t i l)))

  -- column k of a form
  abbrev pub at_column : ℕ → Structure C
  at_column k = one m (eqb k 0) (λ v. m.unit v k)

  getD_spread : (f : ℕ → C) (k : ℕ) (d : C) → k < 33 → get_or (spread f) k d ≡ f k
  unfolding spread
  getD_spread f k d h = get_or-map-range_with_len f 0 33 k k d h (omega arith)

  mutual
    form_column : (t : Term) (k : ℕ) → k < 33 → get_or (structure.value (forms m) t) k m.zero ≡ structure.value (at_column k) t
    form_column (var v) k h = getD_spread (m.unit v) k m.zero h
    form_column (app f ts) k h =
        getD_spread (λ k. m.combined (eqb k 0) f (column m.zero k (structure.values (forms m) ts))) k m.zero h
        ∙ ap (m.combined (eqb k 0) f) (form_columns ts k h)

    form_columns : (ts : Terms) (k : ℕ) → k < 33 → column m.zero k (structure.values (forms m) ts) ≡ structure.values (at_column k) ts
    form_columns none k h = refl
    form_columns (more t ts) k h = ap₂ ◌∷◌ (form_column t k h) (form_columns ts k h)

  -- entry i of column k
  abbrev pub flat : Term → ℕ → ℕ → ℕ
  flat t k i = entry (get_or (structure.value (forms m) t) k m.zero) i

  pub flat_constant : (t : Term) (i : ℕ) → i < P.dim → flat t 0 i ≡ constant_of P t i
  flat_constant t i h =
      ap (λ c. entry c i) (form_column t 0 (omega arith))
      ∙ ap (λ b. entry (structure.value (one m b (λ v. m.unit v 0)) t) i) (eq-eqb 0 0 refl)
      ∙ column-entry true (λ v. m.unit v 0) zeros (λ v j l. faith.units v 0 j l ∙ ap (λ b. cond b 1 0) (ne_eqb 0 (4 * v + 1 + j) (λ e. omega arith))) t i h

  module _ (narrow : P.dim ≤ 4) where
    unit-flat : (v j w i : ℕ) → j < 4 → i < P.dim → cond (eqb (4 * v + 1 + j) (4 * w + 1 + i)) 1 0 ≡ unit v j w i
    unit-flat v j w i h l =
        ap (λ b. cond b 1 0) (elim (cases_eq v w) [
          | inl p ↦ elim (cases_eq j i) [
            | inl q ↦ (eq-eqb (4 * v + 1 + j) (4 * w + 1 + i) (omega arith) ∙ sym (and_from (eqb v w) (eqb j i) (eq-eqb v w p) (eq-eqb j i q)))
            | inr q ↦ (ne_eqb (4 * v + 1 + j) (4 * w + 1 + i) (λ e. q (omega arith)) ∙ sym (and_right (eqb v w) (eqb j i) (ne_eqb j i q)))
          ]
          | inr p ↦ (ne_eqb (4 * v + 1 + j) (4 * w + 1 + i) (λ e. p (omega arith)) ∙ sym (and_left (eqb v w) (eqb j i) (ne_eqb v w p)))
        ])

    pub flat_matrix : (t : Term) (v j i : ℕ) → v < 8 → j < 4 → i < P.dim → flat t (4 * v + 1 + j) i ≡ matrix_of P t v i j
    flat_matrix t v j i k l h =
        let n = 4 * v + 1 + j in
        ap (λ c. entry c i) (form_column t n (omega arith))
        ∙ ap (λ b. entry (structure.value (one m b (λ w. m.unit w n)) t) i) (ne_eqb n 0 (λ e. omega arith))
        ∙ column-entry false (λ w. m.unit w n) (unit v j) (λ w i o. faith.units w n i o ∙ unit-flat v j w i l o) t i h

-- a column beyond the dimension is zero
module _ (P : Part) (v j : ℕ) (far : P.dim ≤ j) where
  mutual
    pub beyond : (t : Term) (i : ℕ) → i < P.dim → matrix_of P t v i j ≡ 0
    beyond (var w) i h = unit-column v j w i (λ e. omega arith)
    beyond (app f ts) i h = let e = beyonds f 0 ts i h in omega arith

    beyonds : (f k : ℕ) (ts : Terms) (i : ℕ) → i < P.dim → products (bare P) (unit v j) f k ts i ≡ 0
    beyonds f k none i h = refl
    beyonds f k (more t ts) i h =
        let a = total_same P.dim (λ n. P.entry f k i n * matrix_of P t v n j) (λ n. 0) (λ n l. ap (λ x. P.entry f k i n * x) (beyond t n l) ∙ mul-zero (P.entry f k i n)) in
        let z = total_zero P.dim in
        let b = beyonds f (suc k) ts i h in
        omega arith

-- columns by their variable and coordinate
pub by_column : (R : ℕ → Type 0) → R 0 → ((v j : ℕ) → v < 8 → j < 4 → R (4 * v + 1 + j)) → (k : ℕ) → k < 33 → R k
by_column R first rest zero h = first
by_column R first rest (suc k) h =
    let e : 4 * (k / 4) + 1 + k % 4 ≡ suc k = omega arith in
    subst R e (rest (k / 4) (k % 4) (omega arith) (omega arith))
