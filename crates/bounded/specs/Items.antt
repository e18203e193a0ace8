-- A bounded vector as a list, and what it is after items are added.
use Rattle.std.specs.Prelude.{◌≡◌, ℕ, ◌+◌, Bool, cond, List, [], ◌∷◌, ◌++◌, length, take, Some, None, Option, nat_le}
use Rattle.bounded.specs.declared.array_vec.ArrayVec.{ArrayVec}

-- the items, in order
unfoldable pub items : {T : Type 0} {n : ℕ} → ArrayVec T n → List T
items v = take v.len v.slots

-- whether there is room for more items
abbrev pub room : {T : Type 0} → ℕ → List T → List T → Bool
room n xs more = nat_le (length xs + length more) n

-- the items afterwards: all the new ones behind the old, or just the old
abbrev pub grown : {T : Type 0} → Bool → List T → List T → List T
grown fits xs more = cond fits (xs ++ more) xs

-- what is taken off the end, and what is left
abbrev pub Popped : {T : Type 0} → List T → Option T → List T → Type 0
Popped xs None left = (xs ≡ []) × (left ≡ [])
Popped xs (Some x) left = xs ≡ left ++ x ∷ []
