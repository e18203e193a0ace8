-- Sums over the first numbers.
use Rattle.std.proofs.Common.{◌≡◌, ℕ, zero, suc, ◌+◌, ◌*◌, ◌<◌, ◌≤◌, sym, refl, ap, ◌∙◌, ap₂, suc-mul, mul-zero, mul-add, add-one, arith}
use Rattle.interpretations.specs.Numbers.{total}

pub total_zero : (n : ℕ) → total n (λ v. 0) ≡ 0
total_zero zero = refl
total_zero (suc n) = let e = total_zero n in omega arith

pub total_add : (n : ℕ) (f g : ℕ → ℕ) → total n (λ v. f v + g v) ≡ total n f + total n g
total_add zero f g = refl
total_add (suc n) f g = let e = total_add n (λ v. f (suc v)) (λ v. g (suc v)) in omega arith

pub total_scale : (n k : ℕ) (f : ℕ → ℕ) → total n (λ v. k * f v) ≡ k * total n f
total_scale zero k f = sym (mul-zero k)
total_scale (suc n) k f = ap (λ x. k * f 0 + x) (total_scale n k (λ v. f (suc v))) ∙ sym (mul-add k (f 0) (total n (λ v. f (suc v))))

pub total_mono : (n : ℕ) (f g : ℕ → ℕ) → ((v : ℕ) → v < n → f v ≤ g v) → total n f ≤ total n g
total_mono zero f g h = omega arith
total_mono (suc n) f g h = let e = total_mono n (λ v. f (suc v)) (λ v. g (suc v)) (λ v k. h (suc v) (omega arith)) in let x = h 0 (omega arith) in omega arith

pub total_same : (n : ℕ) (f g : ℕ → ℕ) → ((v : ℕ) → v < n → f v ≡ g v) → total n f ≡ total n g
total_same zero f g h = refl
total_same (suc n) f g h = ap₂ (λ x y. x + y) (h 0 (omega arith)) (total_same n (λ v. f (suc v)) (λ v. g (suc v)) (λ v k. h (suc v) (omega arith)))

-- only one summand counts
pub total_alone : (n w : ℕ) (f : ℕ → ℕ) → w < n → ((v : ℕ) → v < n → (v ≡ w → ⊥) → f v ≡ 0) → total n f ≡ f w
total_alone zero w f h k = let z : ⊥ = omega arith in absurd z
total_alone (suc n) zero f h k =
    let e = total_same n (λ v. f (suc v)) (λ v. 0) (λ v l. k (suc v) (omega arith) (λ q. omega arith)) in
    let z = total_zero n in
    omega arith
total_alone (suc n) (suc w) f h k =
    let e = total_alone n w (λ v. f (suc v)) (omega arith) (λ v l d. k (suc v) (omega arith) (λ q. d (omega arith))) in
    let z = k 0 (omega arith) (λ q. omega arith) in
    omega arith

-- a margin at the first summand is one of the sum
pub total_lift : (n k : ℕ) (f g : ℕ → ℕ) → 0 < n → ((j : ℕ) → j < n → f j ≤ g j) → k + f 0 ≤ g 0 → k + total n f ≤ total n g
total_lift zero k f g some h first = let z : ⊥ = omega arith in absurd z
total_lift (suc n) k f g some h first = let m = total_mono n (λ j. f (suc j)) (λ j. g (suc j)) (λ j l. h (suc j) (omega arith)) in omega arith

-- summands of at most m
pub total_most : (n m : ℕ) (f : ℕ → ℕ) → ((j : ℕ) → j < n → f j ≤ m) → total n f ≤ n * m
total_most zero m f h = omega arith
total_most (suc n) m f h = let e = total_most n m (λ j. f (suc j)) (λ j k. h (suc j) (omega arith)) in let x = h 0 (omega arith) in let s = suc-mul n m in omega arith

-- one summand more, at the end
pub total_more : (n : ℕ) (f : ℕ → ℕ) → total (n + 1) f ≡ total n f + f n
total_more n f = ap (λ k. total k f) (add-one n) ∙ go n f
  where
    go : (n : ℕ) (f : ℕ → ℕ) → total (suc n) f ≡ total n f + f n
    go zero f = omega arith
    go (suc n) f = let e = go n (λ j. f (suc j)) in omega arith
