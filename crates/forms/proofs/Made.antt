-- Forms whose columns were made one by one, each tested.
use Rattle.std.proofs.Common.{◌≡◌, ℕ, ◌<◌, Bool, true, false, cond, List, [], ◌∷◌, length, get_or, Some, None, sym, refl, ap, ◌∙◌, inl, inr, arith}
use Rattle.std.specs.List.{list_all}
use Rattle.std.proofs.lemmas.List.{get_or_past}
use Rattle.std.proofs.lemmas.List.FromFn.{fill_by_all, get_or-map-range_with_len, length-map-range_with_len}
use Rattle.std.proofs.lemmas.List.Folds.{list_all_at}
use Rattle.std.proofs.lemmas.List.Sums.{AllPass-from_list_all, list_all-from_AllPass}
use Rattle.std.proofs.lemmas.Bool.{cases_lt, cond-true, cond-false}
use Rattle.evaluation.specs.Structures.{tested, Every}
use Rattle.forms.specs.Columns.{column, spread}

pub tested_none : {C : Type 0} (p : C → Bool) (v : C) → None ≡ tested p v → p v ≡ false
tested_none p v e = go (p v) e
  where
    go : (b : Bool) → None ≡ cond b (Some v) None → b ≡ false
    go true e = cc
    go false e = refl

module _ {C : Type 0} (p : C → Bool) where
  -- a column of forms within reach
  pub column_within : (z : C) (k : ℕ) (forms : List (List C)) → p z ≡ true → Every (list_all p) forms → Every p (column z k forms)
  column_within z k [] good h = tt
  column_within z k (form ∷ forms) good (h, hs) =
      let at : p (get_or form k z) ≡ true = elim (cases_lt k (length form)) [
        | inl lt ↦ AllPass-from_list_all p form h k z lt
        | inr ge ↦ ap p (get_or_past form k z ge) ∙ good
      ] in (at, column_within z k forms good hs)

  at-spread : (f : ℕ → C) (k : ℕ) (d : C) → k < 33 → get_or (spread f) k d ≡ f k
  unfolding spread
  at-spread f k d h = get_or-map-range_with_len f 0 33 k k d h (omega arith)

  length_spread : (f : ℕ → C) → length (spread f) ≡ 33
  unfolding spread
  length_spread f = length-map-range_with_len f 0 33

  pub spread_within : (f : ℕ → C) → ((k : ℕ) → k < 33 → p (f k) ≡ true) → list_all p (spread f) ≡ true
  spread_within f h =
      list_all-from_AllPass p (spread f) (λ k d l. let m : k < 33 = omega (arith, length_spread f) in ap p (at-spread f k d m) ∙ h k m)

  pub made : (f : ℕ → C) (xs : List C) (d : C) → length xs ≡ 33 → ((k : ℕ) (d : C) → k < 33 → get_or xs k d ≡ f k) → ((k : ℕ) → k < 33 → p (f k) ≡ true)
      → Some xs ≡ tested (list_all p) (spread f)
  unfolding spread
  made f xs d long at good =
      let same : xs ≡ spread f = fill_by_all f xs 33 d long (λ k h. at k d h) in
      ap Some same ∙ sym (cond-true (list_all p (spread f)) (Some (spread f)) None (spread_within f good))

  pub refused : (f : ℕ → C) (k : ℕ) → k < 33 → p (f k) ≡ false → None ≡ tested (list_all p) (spread f)
  refused f k h over =
      sym (cond-false (list_all p (spread f)) (Some (spread f)) None (list_all_at p (spread f) k (f k) (omega (arith, length_spread f)) (ap p (at-spread f k (f k) h) ∙ over)))
