-- Forms by columns are within reach, and cover one another, as the part says.
use Rattle.std.proofs.Common.{◌≡◌, ℕ, ◌+◌, ◌*◌, ◌<◌, ◌≤◌, Bool, ◌&&◌, T, eqb, leb, List, length, get_or, sym, ap, ◌∙◌, subst, ap₂, inl, inr, arith, le→leb}
use Rattle.std.specs.List.{list_all, zip}
use Rattle.std.proofs.lemmas.List.FromFn.{length-map-range_with_len}
use Rattle.std.proofs.lemmas.Bool.{cases_lt}
use Rattle.terms.specs.Terms.{Term, Term.var, Term.app}
use Rattle.terms.specs.Rules.{Rule}
use Rattle.terms.proofs.Booleans.{both, fst_of, snd_of}
use Rattle.algebras.specs.Meanings.{reach}
use Rattle.evaluation.specs.Subterms.{throughout}
use Rattle.evaluation.specs.Structures as structure
use Rattle.evaluation.specs.Structures.{near}
use Rattle.evaluation.proofs.Throughout.{throughout_same}
use Rattle.interpretations.specs.Numbers.{every}
use Rattle.interpretations.specs.Parts.{Part, constant_of, matrix_of}
use Rattle.interpretations.specs.Orders.{each_constant, each_entry, form_near, weak}
use Rattle.interpretations.proofs.Tests.{every-at, every_from, entry_at, entry_from, same_test, every_same, list_all-every, list_all-zip}
use Rattle.forms.specs.Columns.{Columns, forms, column, spread}
use Rattle.forms.specs.Faithful.{Faithful, vector_near, covers}
use Rattle.forms.proofs.Tied.{flat, flat_constant, flat_matrix, beyond, by_column}

-- a test of every entry of 33 columns is one of the constants and of the matrices, if it passes beyond the dimension
module _ (P : Part) (narrow : P.dim ≤ 4) (q : ℕ → ℕ → Bool) (c : ℕ → Bool) (e : ℕ → ℕ → ℕ → Bool)
    (constants : (i : ℕ) → i < P.dim → q 0 i ≡ c i)
    (matrices : (v j i : ℕ) → v < 8 → j < 4 → i < P.dim → q (4 * v + 1 + j) i ≡ e v i j)
    (beyond-passes : (v j i : ℕ) → v < 8 → P.dim ≤ j → i < P.dim → T (e v i j)) where
  abbrev test : ℕ → Bool
  test k = every P.dim (λ i. q k i)

  to : T (every 33 test) → T (each_constant P c && each_entry P e)
  to h =
      both (each_constant P c) (each_entry P e)
      (every_from P.dim c (λ i l. subst (λ b. T b) (constants i l) (every-at P.dim (λ i. q 0 i) (every-at 33 test h 0 (omega arith)) i l)))
      (entry_from P e (λ v i j a l b.
      let small : j < 4 = omega arith in
      subst (λ b. T b) (matrices v j i a small l) (every-at P.dim (λ i. q (4 * v + 1 + j) i) (every-at 33 test h (4 * v + 1 + j) (omega arith)) i l)))

  from : T (each_constant P c && each_entry P e) → T (every 33 test)
  from h =
      every_from 33 test (by_column (λ k. T (test k))
      (every_from P.dim (λ i. q 0 i) (λ i l. subst (λ b. T b) (sym (constants i l)) (every-at P.dim c (fst_of (each_constant P c) (each_entry P e) h) i l)))
      (λ v j a b. every_from P.dim (λ i. q (4 * v + 1 + j) i) (λ i l. subst (λ b. T b) (sym (matrices v j i a b l))
      (elim (cases_lt j P.dim) [
        | inl lt ↦ entry_at P e (snd_of (each_constant P c) (each_entry P e) h) v i j a l lt
        | inr ge ↦ beyond-passes v j i a ge l
      ]))))

  pub columns_are : every 33 test ≡ (each_constant P c && each_entry P e)
  columns_are = same_test (every 33 test) (each_constant P c && each_entry P e) to from

module _ {C : Type 0} (m : Columns C) (entry : C → ℕ → ℕ) (P : Part) (faith : Faithful m entry P) (narrow : P.dim ≤ 4) where
  abbrev fl : Term → ℕ → ℕ → ℕ
  fl t k i = flat m entry P faith t k i

  form_length : (t : Term) → length (structure.value (forms m) t) ≡ 33
  unfolding spread
  form_length (var v) = length-map-range_with_len (m.unit v) 0 33
  form_length (app f ts) = length-map-range_with_len (λ k. m.combined (eqb k 0) f (column m.zero k (structure.values (forms m) ts))) 0 33

  columns_near : (t : Term) → every 33 (λ k. vector_near P (fl t k)) ≡ form_near P t
  columns_near t =
      columns_are P narrow (λ k i. leb (fl t k i) reach) (λ i. leb (constant_of P t i) reach) (λ v i j. leb (matrix_of P t v i j) reach)
      (λ i l. ap (λ x. leb x reach) (flat_constant m entry P faith t i l))
      (λ v j i a b l. ap (λ x. leb x reach) (flat_matrix m entry P faith narrow t v j i a b l))
      (λ v j i a ge l. let z = beyond P v j ge t i l in le→leb (matrix_of P t v i j) reach (omega arith))

  pub forms-readable : (t : Term) → throughout (near (forms m)) t ≡ throughout (form_near P) t
  forms-readable = throughout_same (near (forms m)) (form_near P)
      (λ t. list_all-every m.within m.zero (structure.value (forms m) t)
      ∙ ap (λ n. every n (λ k. m.within (get_or (structure.value (forms m) t) k m.zero))) (form_length t)
      ∙ every_same 33 (λ k. m.within (get_or (structure.value (forms m) t) k m.zero)) (λ k. vector_near P (fl t k)) (λ k l. faith.tests (get_or (structure.value (forms m) t) k m.zero))
      ∙ columns_near t)

  abbrev columns : List C → List C → Bool
  columns l r = list_all (λ c. covers P (entry c.0) (entry c.1)) (zip l r)

  -- column against column
  pub columns_weak : (r : Rule) → columns (structure.value (forms m) r.left) (structure.value (forms m) r.right) ≡ weak P r
  columns_weak r =
      let l = structure.value (forms m) r.left in
      list_all-zip (λ c. covers P (entry c.0) (entry c.1)) m.zero m.zero l (structure.value (forms m) r.right) (omega (arith, form_length r.left, form_length r.right))
      ∙ ap (λ n. every n (λ k. covers P (fl r.left k) (fl r.right k))) (form_length r.left)
      ∙ columns_are P narrow (λ k i. leb (fl r.right k i) (fl r.left k i)) (λ i. leb (constant_of P r.right i) (constant_of P r.left i)) (λ v i j. leb (matrix_of P r.right v i j) (matrix_of P r.left v i j))
      (λ i l. ap₂ leb (flat_constant m entry P faith r.right i l) (flat_constant m entry P faith r.left i l))
      (λ v j i a b l. ap₂ leb (flat_matrix m entry P faith narrow r.right v j i a b l) (flat_matrix m entry P faith narrow r.left v j i a b l))
      (λ v j i a ge l. let z = beyond P v j ge r.right i l in le→leb (matrix_of P r.right v i j) (matrix_of P r.left v i j) (omega arith))
