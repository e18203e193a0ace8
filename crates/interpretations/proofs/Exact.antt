-- Comparing forms by entries is comparing values under every assignment.
use Rattle.std.proofs.Common.{◌≡◌, ℕ, suc, ◌+◌, ◌*◌, ◌<◌, ◌≤◌, Bool, ◌&&◌, T, ltb, leb, ◌↔◌, List, sym, refl, ap, ◌∙◌, inl, inr, mul-le-mul_right, suc-mul, mul-zero, mul-one, arith, le→leb, ltb→lt, lt→ltb, leb→le}
use Rattle.std.proofs.lemmas.Bool.{cases_lt}
use Rattle.terms.specs.Limits.{variables}
use Rattle.terms.specs.Terms.{Term, over}
use Rattle.terms.specs.Rules.{Rule, rule_over, headed, bound}
use Rattle.terms.proofs.Booleans.{both, fst_of, snd_of}
use Rattle.interpretations.specs.Parts.{Part, Assignment, value, zeros, unit, constant_of, matrix_of, row_applied}
use Rattle.interpretations.specs.Orders.{each_constant, each_entry, weak, strict}
use Rattle.interpretations.specs.Laws.{NoneGreater, FirstLess}
use Rattle.interpretations.proofs.Tests.{every-at, every_from, entry_at, entry_from}
use Rattle.interpretations.proofs.Forms.{applied_mono, applied_alone, unit_same, unit_row, unit-column, form_over}

-- the sides of a rule over a signature are terms over it
sides_over : (s : List ℕ) (r : Rule) → T (rule_over s r) → T (over s r.left && over s r.right)
sides_over s r h = fst_of (over s r.left && over s r.right) (headed r.left && bound r.left r.right) h

-- a large multiple tells the factors apart
outweighs : (a b c e : ℕ) → a + c * suc b ≤ b + e * suc b → c ≤ e
outweighs a b c e h = elim (cases_lt e c) [
  | inl lt ↦ (let m : suc e * suc b ≤ c * suc b = mul-le-mul_right (suc b) lt in let s = suc-mul e (suc b) in absurd (omega arith))
  | inr ge ↦ ge
]

module _ (P : Part) (n : ℕ) (wide : n ≡ variables) where
  -- the value where one entry of one variable is m
  value_at-unit : (t : Term) (v j m i : ℕ) → T (over P.sig t) → v < n → j < P.dim → i < P.dim
      → value P (λ w l. m * unit v j w l) t i ≡ constant_of P t i + matrix_of P t v i j * m
  value_at-unit t v j m i h k l o =
      let α : ℕ → ℕ → ℕ = λ w l. m * unit v j w l in
      let c : ℕ → ℕ → ℕ = λ w l. matrix_of P t w i l in
      let f = form_over P n (omega arith) α t i h o in
      let a =
      applied_alone n P.dim v j c α k l
      (λ w l d. ap (λ x. c w l * (m * x)) (unit_row v j w l (λ q. d (sym q))) ∙ ap (λ x. c w l * x) (mul-zero m) ∙ mul-zero (c w l))
      (λ w l d. ap (λ x. c w l * (m * x)) (unit-column v j w l (λ q. d (sym q))) ∙ ap (λ x. c w l * x) (mul-zero m) ∙ mul-zero (c w l)) in
      let u : c v j * α v j ≡ c v j * m = ap (λ x. c v j * (m * x)) (unit_same v j) ∙ ap (λ x. c v j * x) (mul-one m) in
      f ∙ ap (λ x. constant_of P t i + x) (a ∙ u)

  module _ (r : Rule) (ok : T (rule_over P.sig r)) where
    l : T (over P.sig r.left)
    l = fst_of (over P.sig r.left) _ (sides_over P.sig r ok)

    rt : T (over P.sig r.right)
    rt = snd_of (over P.sig r.left) _ (sides_over P.sig r ok)

    -- the two tests of a weak rule
    abbrev constants : ℕ → Bool
    constants i = leb (constant_of P r.right i) (constant_of P r.left i)

    abbrev matrices : ℕ → ℕ → ℕ → Bool
    matrices v i j = leb (matrix_of P r.right v i j) (matrix_of P r.left v i j)

    constants-weak : T (weak P r) → (i : ℕ) → i < P.dim → constant_of P r.right i ≤ constant_of P r.left i
    constants-weak w i k = leb→le _ _ (every-at P.dim constants (fst_of (each_constant P constants) (each_entry P matrices) w) i k)

    matrices-weak : T (weak P r) → (v i j : ℕ) → v < variables → i < P.dim → j < P.dim → matrix_of P r.right v i j ≤ matrix_of P r.left v i j
    matrices-weak w v i j a b c = leb→le _ _ (entry_at P matrices (snd_of (each_constant P constants) (each_entry P matrices) w) v i j a b c)

    share : T (weak P r) → (α : Assignment) (i : ℕ) → i < P.dim
        → row_applied n P.dim (λ v j. matrix_of P r.right v i j) α ≤ row_applied n P.dim (λ v j. matrix_of P r.left v i j) α
    share w α i k = applied_mono n P.dim _ _ α (λ v j a b. matrices-weak w v i j (omega arith) k b)

    weak_values : T (weak P r) → NoneGreater P r
    weak_values w α i k =
        let a = form_over P n (omega arith) α r.left i l k in
        let b = form_over P n (omega arith) α r.right i rt k in
        let s = share w α i k in
        let c = constants-weak w i k in
        omega arith

    strict_values : 0 < P.dim → T (strict P r) → FirstLess P r
    strict_values k s α =
        let w = fst_of (weak P r) (ltb (constant_of P r.right 0) (constant_of P r.left 0)) s in
        let c = ltb→lt (constant_of P r.right 0) (constant_of P r.left 0) (snd_of (weak P r) _ s) in
        let a = form_over P n (omega arith) α r.left 0 l k in
        let b = form_over P n (omega arith) α r.right 0 rt k in
        let s = share w α 0 k in
        omega arith

    -- an entry is told by an assignment where it outweighs the constant
    matrices_told : NoneGreater P r → (v i j : ℕ) → v < variables → i < P.dim → j < P.dim → matrix_of P r.right v i j ≤ matrix_of P r.left v i j
    matrices_told h v i j a k b =
        let m = suc (constant_of P r.left i) in
        let x = value_at-unit r.left v j m i l (omega arith) b k in
        let y = value_at-unit r.right v j m i rt (omega arith) b k in
        let le = h (λ w l. m * unit v j w l) i k in
        outweighs (constant_of P r.right i) (constant_of P r.left i) (matrix_of P r.right v i j) (matrix_of P r.left v i j) (omega arith)

    values_weak : NoneGreater P r → T (weak P r)
    values_weak h =
        both (each_constant P constants) (each_entry P matrices) (every_from P.dim constants (λ i k. le→leb _ _ (h zeros i k)))
        (entry_from P matrices (λ v i j a k b. le→leb _ _ (matrices_told h v i j a k b)))

    weak_by : T (weak P r) ↔ NoneGreater P r
    weak_by = (weak_values, values_weak)

    strict_by : 0 < P.dim → T (strict P r) ↔ (NoneGreater P r × FirstLess P r)
    strict_by some = (
      λ s. (weak_values (fst_of (weak P r) _ s), strict_values some s),
      λ h. both (weak P r) _ (values_weak h.0) (lt→ltb _ _ (h.1 zeros)),
    )

pub weak_exactly : (P : Part) (r : Rule) → T (rule_over P.sig r) → T (weak P r) ↔ NoneGreater P r
weak_exactly P r ok = weak_by P variables refl r ok

pub strict_exactly : (P : Part) → 0 < P.dim → (r : Rule) → T (rule_over P.sig r) → T (strict P r) ↔ (NoneGreater P r × FirstLess P r)
strict_exactly P some r ok = strict_by P variables refl r ok some
