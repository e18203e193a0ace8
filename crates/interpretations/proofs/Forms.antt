-- A value is the form's constant and the form's matrices applied to the assignment.
use Rattle.std.proofs.Common.{◌≡◌, ℕ, zero, suc, ◌+◌, ◌*◌, ◌<◌, ◌≤◌, cond, ◌&&◌, T, eqb, ltb, length, get_or, refl, ap, ◌∙◌, mul-le-mul_right, mul_assoc, add-mul, one-mul, zero-mul, mul-add, arith, ltb→lt}
use Rattle.std.proofs.lemmas.Bool.{eq-eqb, ne_eqb, and_left, and_right, and_from}
use Rattle.terms.specs.Limits.{variables}
use Rattle.terms.specs.Terms.{Term, Terms, Term.var, Term.app, Terms.none, Terms.more, count, over, over_all}
use Rattle.terms.proofs.Booleans.{fst_of, snd_of}
use Rattle.interpretations.specs.Numbers.{total}
use Rattle.interpretations.specs.Parts.{Part, Assignment, value, products, zeros, unit, bare, constant_of, matrix_of, row_applied}
use Rattle.interpretations.proofs.Totals.{total_zero, total_add, total_scale, total_same, total_alone, total_mono}

-- sums of rows
applied_zero : (n d : ℕ) (α : Assignment) → row_applied n d (λ v j. 0) α ≡ 0
applied_zero n d α = total_same n _ (λ v. 0) (λ v h. total_same d _ (λ j. 0) (λ j k. zero-mul (α v j)) ∙ total_zero d) ∙ total_zero n

applied_add : (n d : ℕ) (c e : ℕ → ℕ → ℕ) (α : Assignment) → row_applied n d (λ v j. c v j + e v j) α ≡ row_applied n d c α + row_applied n d e α
applied_add n d c e α =
    total_same n _ _ (λ v h. total_same d _ _ (λ j k. add-mul (c v j) (e v j) (α v j)) ∙ total_add d (λ j. c v j * α v j) (λ j. e v j * α v j))
    ∙ total_add n (λ v. total d (λ j. c v j * α v j)) (λ v. total d (λ j. e v j * α v j))

applied_scale : (n d w : ℕ) (c : ℕ → ℕ → ℕ) (α : Assignment) → row_applied n d (λ v j. w * c v j) α ≡ w * row_applied n d c α
applied_scale n d w c α =
    total_same n _ _ (λ v h. total_same d _ _ (λ j k. mul_assoc w (c v j) (α v j)) ∙ total_scale d w (λ j. c v j * α v j))
    ∙ total_scale n w (λ v. total d (λ j. c v j * α v j))

pub applied_mono : (n d : ℕ) (c e : ℕ → ℕ → ℕ) (α : Assignment) → ((v j : ℕ) → v < n → j < d → c v j ≤ e v j) → row_applied n d c α ≤ row_applied n d e α
applied_mono n d c e α h = total_mono n _ _ (λ v k. total_mono d _ _ (λ j l. mul-le-mul_right (α v j) (h v j k l)))

-- one entry
pub unit_same : (v j : ℕ) → unit v j v j ≡ 1
unit_same v j = ap (λ b. cond b 1 0) (and_from (eqb v v) (eqb j j) (eq-eqb v v refl) (eq-eqb j j refl))

pub unit_row : (v j w i : ℕ) → (v ≡ w → ⊥) → unit v j w i ≡ 0
unit_row v j w i d = ap (λ b. cond b 1 0) (and_left (eqb v w) (eqb j i) (ne_eqb v w d))

pub unit-column : (v j w i : ℕ) → (j ≡ i → ⊥) → unit v j w i ≡ 0
unit-column v j w i d = ap (λ b. cond b 1 0) (and_right (eqb v w) (eqb j i) (ne_eqb j i d))

pub applied_alone : (n d w i : ℕ) (c : ℕ → ℕ → ℕ) (α : Assignment) → w < n → i < d
    → ((v j : ℕ) → (v ≡ w → ⊥) → c v j * α v j ≡ 0) → ((v j : ℕ) → (j ≡ i → ⊥) → c v j * α v j ≡ 0) → row_applied n d c α ≡ c w i * α w i
applied_alone n d w i c α h k rows columns =
    total_alone n w (λ v. total d (λ j. c v j * α v j)) h (λ v l x. total_same d _ (λ j. 0) (λ j m. rows v j x) ∙ total_zero d)
    ∙ total_alone d i (λ j. c w j * α w j) k (λ j m x. columns w j x)

module _ (P : Part) (n : ℕ) (wide : variables ≤ n) (α : Assignment) where
  -- a number is another and a row applied to the assignment
  abbrev pub Split : ℕ → ℕ → (ℕ → ℕ → ℕ) → Type 0
  Split a b c = a ≡ b + row_applied n P.dim c α

  split_same : (a : ℕ) → Split a a (λ v j. 0)
  split_same a = let e = applied_zero n P.dim α in omega arith

  split_add : (a b x y : ℕ) (c e : ℕ → ℕ → ℕ) → Split a b c → Split x y e → Split (a + x) (b + y) (λ v j. c v j + e v j)
  split_add a b x y c e p q = let s = applied_add n P.dim c e α in omega arith

  split_scale : (w a b : ℕ) (c : ℕ → ℕ → ℕ) → Split a b c → Split (w * a) (w * b) (λ v j. w * c v j)
  split_scale w a b c p =
      let s = applied_scale n P.dim w c α in let m = mul-add w b (row_applied n P.dim c α) in let q = ap (λ x. w * x) p in omega arith

  split_total : (m : ℕ) (w a b : ℕ → ℕ) (c : ℕ → ℕ → ℕ → ℕ) → ((j : ℕ) → j < m → Split (a j) (b j) (c j))
      → Split (total m (λ j. w j * a j)) (total m (λ j. w j * b j)) (λ v i. total m (λ j. w j * c j v i))
  split_total zero w a b c h = split_same 0
  split_total (suc m) w a b c h =
      split_add _ _ _ _ _ _ (split_scale (w 0) (a 0) (b 0) (c 0) (h 0 (omega arith)))
      (split_total m (λ j. w (suc j)) (λ j. a (suc j)) (λ j. b (suc j)) (λ j. c (suc j)) (λ j k. h (suc j) (omega arith)))

  mutual
    split : (t : Term) (i : ℕ) → T (over P.sig t) → i < P.dim → Split (value P α t i) (constant_of P t i) (λ v j. matrix_of P t v i j)
    split (var w) i h k =
        let low = ltb→lt w variables h in
        let inside : w < n = omega arith in
        let e =
        applied_alone n P.dim w i (λ v j. unit v j w i) α inside k
        (λ v j d. ap (λ x. x * α v j) (unit_row v j w i d) ∙ zero-mul (α v j)) (λ v j d. ap (λ x. x * α v j) (unit-column v j w i d) ∙ zero-mul (α v j)) in
        let o : unit w i w i * α w i ≡ α w i = ap (λ x. x * α w i) (unit_same w i) ∙ one-mul (α w i) in
        omega arith
    split (app f ts) i h k =
        split_add _ _ _ _ _ _ (split_same (P.constant f i)) (splits f 0 ts i (snd_of (ltb f (length P.sig) && eqb (count ts) (get_or P.sig f 0)) _ h) k)

    splits : (f k : ℕ) (ts : Terms) (i : ℕ) → T (over_all P.sig ts) → i < P.dim
        → Split (products P α f k ts i) (products P zeros f k ts i) (λ v j. products (bare P) (unit v j) f k ts i)
    splits f k none i h l = split_same 0
    splits f k (more t ts) i h l =
        split_add _ _ _ _ _ _
        (split_total P.dim (λ j. P.entry f k i j) (λ j. value P α t j) (λ j. value P zeros t j) (λ j v m. matrix_of P t v j m) (λ j m. split t j (fst_of (over P.sig t) _ h) m))
        (splits f (suc k) ts i (snd_of (over P.sig t) _ h) l)

-- over the variables that there are, or more
pub form_over : (P : Part) (n : ℕ) → variables ≤ n → (α : Assignment) (t : Term) (i : ℕ) → T (over P.sig t) → i < P.dim
    → value P α t i ≡ constant_of P t i + row_applied n P.dim (λ v j. matrix_of P t v i j) α
form_over P n wide α t i h k = split P n wide α t i h k

pub form_applied : (P : Part) (α : Assignment) (t : Term) (i : ℕ) → T (over P.sig t) → i < P.dim
    → value P α t i ≡ constant_of P t i + row_applied variables P.dim (λ v j. matrix_of P t v i j) α
form_applied P α t i h k = form_over P variables (omega arith) α t i h k
