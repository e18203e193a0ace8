-- The grant of a number, by its place among those that are out.
use Rattle.std.proofs.Common.{◌≡◌, ℕ, suc, ◌+◌, ◌<◌, Bool, true, false, not, List, [], ◌∷◌, ◌++◌, take, drop, get_or, length, Some, None, sym, refl, ap, ◌∙◌, arith, ap₂, inl, inr}
use Rattle.std.specs.List.{All, AllPairs, find, filter, position, position_or_len, remove, slice_get}
use Rattle.std.proofs.lemmas.Bool.{cases_lt, cond-true, cond-false, lt-ltb, le-ltb, eqb-true, ne_eqb, eq-eqb, not_from_true, not_from_false}
use Rattle.std.proofs.lemmas.List.{get_or-take, get_or-drop, length-take-le, length-drop}
use Rattle.std.proofs.lemmas.List.Elements.{All-head, All-tail, filter-append}
use Rattle.std.proofs.lemmas.List.Folds.{find_at}
use Rattle.std.proofs.lemmas.List.Quantifiers.{position-Some}
use Rattle.std.proofs.lemmas.Option.{slice_get_past, slice_get-get_or}
use Rattle.std.proofs.Math.Seq.{split_at}
use Rattle.pools.specs.declared.grant.Grant.{Grant}
use Rattle.pools.specs.Grants.{has_number, others}

-- what is read past the end
pub blank : Grant
blank = record { number = 0; amount = 0 }

-- a test that every item passes keeps all
pub keeps : {X : Type 0} (p : X → Bool) (xs : List X) → All (λ x. p x ≡ true) xs → filter p xs ≡ xs
keeps p [] h = refl
keeps p (x ∷ xs) h = cond-true _ _ _ (All-head (λ x. p x ≡ true) x xs h) ∙ ap (λ l. x ∷ l) (keeps p xs (All-tail (λ x. p x ≡ true) x xs h))

-- what is found is what stands at its position
module _ {X : Type 0} (p : X → Bool) (xs : List X) where
  pub none_found : None ≡ position p xs → find p xs ≡ None
  none_found e =
      let by = cases_lt (position_or_len p xs) (length xs) in
      elim by [
        | inl lt ↦ absurd (let f : None ≡ Some (position_or_len p xs) = e ∙ cond-true _ _ _ (lt-ltb _ _ lt) in cc)
        | inr le ↦ find_at p xs ∙ slice_get_past xs _ le
      ]

  found_at : (at : ℕ) → Some at ≡ position p xs → at ≡ position_or_len p xs
  found_at at e =
      let by = cases_lt (position_or_len p xs) (length xs) in
      elim by [
        | inl lt ↦ (let f : Some at ≡ Some (position_or_len p xs) = e ∙ cond-true _ _ _ (lt-ltb _ _ lt) in cc)
        | inr le ↦ absurd (let f : Some at ≡ None = e ∙ cond-false _ _ _ (le-ltb _ _ le) in cc)
      ]

  pub found : (at : ℕ) (d : X) → Some at ≡ position p xs → find p xs ≡ Some (get_or xs at d)
  found at d e =
      let place = found_at at e in
      let within = (position-Some p xs at d (sym e)).0 in
      find_at p xs ∙ ap (slice_get xs) (sym place) ∙ slice_get-get_or xs at d within

-- grants in the order of their numbers, and the place of one number
module _ (gs : List Grant) (pairs : AllPairs (λ g h. g.number < h.number) gs) (n at : ℕ) (e : Some at ≡ position (has_number n) gs) where
  pub within : at < length gs
  within = (position-Some (has_number n) gs at blank (sym e)).0

  pub of_number : (d : Grant) → (get_or gs at d).number ≡ n
  of_number d = eqb-true _ _ (position-Some (has_number n) gs at d (sym e)).1

  lower : All (λ g. not (has_number n g) ≡ true) (take at gs)
  lower k z h =
      let w = within in
      let long = length-take-le at gs (omega arith) in
      let short : k < at = omega arith in
      let it = of_number z in
      let apart : (get_or (take at gs) k z).number < (get_or gs at z).number = rw (get_or-take at gs k z short) (pairs k at z short w) in
      not_from_false _ (ne_eqb _ _ (λ q. omega arith))

  higher : All (λ g. not (has_number n g) ≡ true) (drop (suc at) gs)
  higher k z h =
      let w = within in
      let long = length-drop (suc at) gs in
      let it = of_number z in
      let apart : (get_or gs at z).number < (get_or (drop (suc at) gs) k z).number = rw (get_or-drop (suc at) gs k z) (pairs at (suc at + k) z (omega arith) (omega arith)) in
      not_from_false _ (ne_eqb _ _ (λ q. omega arith))

  -- where one stood, those of other numbers are left
  pub removed : remove gs at ≡ others n gs
  removed =
      let p : Grant → Bool = λ g. not (has_number n g) in
      let here : p (get_or gs at blank) ≡ false = not_from_true _ (eq-eqb _ _ (of_number blank)) in
      let rest : filter p (get_or gs at blank ∷ drop (suc at) gs) ≡ drop (suc at) gs = cond-false _ _ _ here ∙ keeps p _ higher in
      sym (ap (filter p) (split_at gs at blank within) ∙ filter-append p (take at gs) _ ∙ ap₂ (λ (a b : List Grant). a ++ b) (keeps p _ lower) rest)
