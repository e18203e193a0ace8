-- Tests at each number and of each element, and lists that are the same.
use Rattle.std.proofs.Common.{◌≡◌, ℕ, zero, suc, ◌<◌, ◌≤◌, max, min, Bool, true, false, ◌&&◌, T, eqb, List, [], ◌∷◌, length, map, get_or, take, fold, unwrap_or, refl, ap, ◌∙◌, subst, ap₂, arith, eqb→eq}
use Rattle.std.specs.List.{list_all, reduce, zip}
use Rattle.std.proofs.lemmas.List.{length-take, get_or-take}
use Rattle.terms.specs.Limits.{variables}
use Rattle.terms.proofs.Booleans.{both, fst_of, snd_of}
use Rattle.interpretations.specs.Numbers.{every, largest, same_list}
use Rattle.interpretations.specs.Parts.{Part}
use Rattle.interpretations.specs.Orders.{each_entry}

pub every-at : (n : ℕ) (p : ℕ → Bool) → T (every n p) → (k : ℕ) → k < n → T (p k)
every-at zero p h k l = let z : ⊥ = omega arith in absurd z
every-at (suc n) p h zero l = fst_of (p 0) _ h
every-at (suc n) p h (suc k) l = every-at n (λ j. p (suc j)) (snd_of (p 0) _ h) k (omega arith)

pub every_from : (n : ℕ) (p : ℕ → Bool) → ((k : ℕ) → k < n → T (p k)) → T (every n p)
every_from zero p h = tt
every_from (suc n) p h = both (p 0) _ (h 0 (omega arith)) (every_from n (λ j. p (suc j)) (λ k l. h (suc k) (omega arith)))

-- a test of every entry of a form
module _ (P : Part) (p : ℕ → ℕ → ℕ → Bool) where
  pub entry_at : T (each_entry P p) → (v i j : ℕ) → v < variables → i < P.dim → j < P.dim → T (p v i j)
  entry_at h v i j a b c =
      every-at P.dim (λ j. p v i j) (every-at variables (λ v. every P.dim (λ j. p v i j)) (every-at P.dim (λ i. every variables (λ v. every P.dim (λ j. p v i j))) h i b) v a) j c

  pub entry_from : ((v i j : ℕ) → v < variables → i < P.dim → j < P.dim → T (p v i j)) → T (each_entry P p)
  entry_from h = every_from P.dim (λ i. every variables (λ v. every P.dim (λ j. p v i j))) (λ i b. every_from variables (λ v. every P.dim (λ j. p v i j)) (λ v a. every_from P.dim (λ j. p v i j) (λ j c. h v i j a b c)))

pub largest-at : (n : ℕ) (f : ℕ → ℕ) (k : ℕ) → k < n → f k ≤ largest n f
largest-at zero f k h = let z : ⊥ = omega arith in absurd z
largest-at (suc n) f zero h = omega arith
largest-at (suc n) f (suc k) h = let e = largest-at n (λ j. f (suc j)) k (omega arith) in omega arith

pub same_list_eq : (xs ys : List ℕ) → T (same_list xs ys) → xs ≡ ys
same_list_eq [] [] h = refl
same_list_eq [] (y ∷ ys) h = absurd h
same_list_eq (x ∷ xs) [] h = absurd h
same_list_eq (x ∷ xs) (y ∷ ys) h = ap₂ ◌∷◌ (eqb→eq x y (fst_of (eqb x y) _ h)) (same_list_eq xs ys (snd_of (eqb x y) _ h))

-- two tests that say the same
pub same_test : (a b : Bool) → (T a → T b) → (T b → T a) → a ≡ b
same_test true true f g = refl
same_test true false f g = absurd (f tt)
same_test false true f g = absurd (g tt)
same_test false false f g = refl

pub every_same : (n : ℕ) (p q : ℕ → Bool) → ((k : ℕ) → k < n → p k ≡ q k) → every n p ≡ every n q
every_same zero p q h = refl
every_same (suc n) p q h = ap₂ (λ x y. x && y) (h 0 (omega arith)) (every_same n (λ j. p (suc j)) (λ j. q (suc j)) (λ k l. h (suc k) (omega arith)))

-- what a loop over the numbers tells
pub every_fails : (n : ℕ) (p : ℕ → Bool) (k : ℕ) → k < n → p k ≡ false → false ≡ every n p
every_fails n p k l e = same_test false (every n p) (λ x. absurd x) (λ h. subst T e (every-at n p h k l))

pub every_holds : (n : ℕ) (p : ℕ → Bool) → ((k : ℕ) → k < n → T (p k)) → true ≡ every n p
every_holds n p h = same_test true (every n p) (λ x. every_from n p h) (λ x. tt)

-- a test of each element of a list, of its first elements, and of each pair of two, by their places
module _ {X : Type 0} (p : X → Bool) (d : X) where
  pub list_all-every : (xs : List X) → list_all p xs ≡ every (length xs) (λ k. p (get_or xs k d))
  list_all-every [] = refl
  list_all-every (x ∷ xs) = ap (λ b. p x && b) (list_all-every xs)

  pub list_all-take : (n : ℕ) (xs : List X) → list_all p (take n xs) ≡ every (min n (length xs)) (λ k. p (get_or xs k d))
  list_all-take n xs =
      list_all-every (take n xs)
      ∙ every_same (length (take n xs)) (λ k. p (get_or (take n xs) k d)) (λ k. p (get_or xs k d)) (λ k l. ap p (get_or-take n xs k d (omega (arith, length-take n xs))))
      ∙ ap (λ m. every m (λ k. p (get_or xs k d))) (length-take n xs)

pub list_all-zip : {X Y : Type 0} (p : X × Y → Bool) (d : X) (e : Y) (xs : List X) (ys : List Y) → length xs ≤ length ys
    → list_all p (zip xs ys) ≡ every (length xs) (λ k. p (get_or xs k d, get_or ys k e))
list_all-zip p d e [] ys h = refl
list_all-zip p d e (x ∷ xs) [] h = absurd (omega arith)
list_all-zip p d e (x ∷ xs) (y ∷ ys) h = ap (λ b. p (x, y) && b) (list_all-zip p d e xs ys (omega arith))

-- the largest of a list's first elements, by their places
module _ {X : Type 0} (f : X → ℕ) (d : X) where
  largest-fold : (a n : ℕ) (xs : List X) → n ≤ length xs → fold max a (map f (take n xs)) ≡ max a (largest n (λ k. f (get_or xs k d)))
  largest-fold a zero xs h = omega arith
  largest-fold a (suc n) [] h = absurd (omega arith)
  largest-fold a (suc n) (x ∷ xs) h = let e = largest-fold (max a (f x)) n xs (omega arith) in omega arith

  pub largest-reduce : (n : ℕ) (xs : List X) → n ≤ length xs → unwrap_or (reduce max (map f (take n xs))) 0 ≡ largest n (λ k. f (get_or xs k d))
  largest-reduce zero xs h = refl
  largest-reduce (suc n) [] h = absurd (omega arith)
  largest-reduce (suc n) (x ∷ xs) h = largest-fold (f x) n xs (omega arith)
