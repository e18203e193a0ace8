-- A bounded vector has as many items as its length says, and no more than its bound.
use Rattle.std.proofs.Common.{◌≡◌, ℕ, zero, suc, ◌+◌, ◌<◌, ◌≤◌, true, false, List, [], ◌∷◌, length, take, set, sym, refl, ap, arith}
use Rattle.std.proofs.lemmas.List.{length-take-le}
use Rattle.std.proofs.lemmas.Bool.{le-leb, lt-leb}
use Rattle.bounded.specs.declared.array_vec.ArrayVec.{ArrayVec}
use Rattle.bounded.specs.Items.{items, room}

module _ {T : Type 0} {n : ℕ} (v : ArrayVec T n) where
  pub items-length : length (items v) ≡ v.len
  unfolding items
  items-length = length-take-le v.len v.slots (let a = v.whole in let b = v.within in omega arith)

  pub items_few : length (items v) ≤ n
  items_few = let a = items-length in let b = v.within in omega arith

  pub has_room : (more : List T) → v.len + length more ≤ n → true ≡ room n (items v) more
  has_room more h = sym (le-leb _ _ (let a = items-length in omega arith))

  pub lacks_room : (more : List T) → n < v.len + length more → false ≡ room n (items v) more
  lacks_room more h = sym (lt-leb _ _ (let a = items-length in omega arith))

-- an item replaced among the first n
pub take_of_set : {T : Type 0} (n : ℕ) (xs : List T) (i : ℕ) (y : T) → take n (set xs i y) ≡ set (take n xs) i y
take_of_set zero xs i y = refl
take_of_set (suc n) [] i y = refl
take_of_set (suc n) (x ∷ xs) zero y = refl
take_of_set (suc n) (x ∷ xs) (suc i) y = ap (λ l. x ∷ l) (take_of_set n xs i y)
