-- Vectors and numbers are made as a part says, entry by entry.
use Rattle.std.specs.Prelude.{◌≡◌, ℕ, zero, suc, ◌+◌, ◌-◌, ◌*◌, ◌<◌, ◌≤◌, Bool, true, false, cond, ◌&&◌, T, leb, List, [], ◌∷◌, ◌++◌, map, length, get_or, drop, Some, None, ◌==◌, nat_le, nat_lt, slice_index, refl}
use Rattle.std.proofs.Common.{length-append, length-drop, sym, ap, ◌∙◌, subst, inl, inr, arith, le→leb}
use Rattle.std.specs.List.{range_with_len}
use Rattle.std.proofs.lemmas.List.FromFn.{get_or-map-range_with_len, fill_by_all}
use Rattle.std.proofs.lemmas.List.{get_or_append_left, get_or-append_right, get_or-drop}
use Rattle.std.proofs.lemmas.Bool.{cond-true, cond-false, lt-ltb, le-ltb, lt-leb, le-leb, cases_lt}
use Rattle.terms.proofs.Booleans.{both, fst_of}
use Rattle.algebras.specs.Meanings.{reach}
use Rattle.evaluation.specs.Structures.{tested}
use Rattle.interpretations.specs.Parts.{Part}
use Rattle.interpretations.proofs.Tests.{same_test, every_fails, every_holds}
use Rattle.forms.specs.Faithful.{Faithful, combined_entry, vector_near}
use Rattle.parts.specs.declared.linear.LinearSymbol.{LinearSymbol}
use Rattle.parts.specs.Kinds.{linear_part}
use Rattle.parts.specs.Vectors.{vector, number, vector_columns, number_columns}

zero_entry : (i : ℕ) → ◌≡◌ {A = ℕ} (slice_index (0 ∷ (0 ∷ (0 ∷ (0 ∷ [])))) i) 0
zero_entry zero = refl
zero_entry (suc zero) = refl
zero_entry (suc (suc zero)) = refl
zero_entry (suc (suc (suc zero))) = refl
zero_entry (suc (suc (suc (suc i)))) = refl

pub vector_faithful : (P : Part) → P.dim ≤ 4 → Faithful (vector_columns P) vector P
vector_faithful P narrow = record {
  zeros = zero_entry;
  units = λ v k i h. get_or-map-range_with_len (λ i. cond (k == 4 * v + 1 + i) 1 0) 0 4 i i 0 (omega arith) (omega arith);
  combines = λ b f vs i h.
      get_or-map-range_with_len (λ i. cond (nat_lt i P.dim) (combined_entry P b f (map vector vs) i) 0) 0 4 i i 0 (omega arith) (omega arith)
      ∙ cond-true (nat_lt i P.dim) (combined_entry P b f (map vector vs) i) 0 (lt-ltb i P.dim h);
  tests = λ c. refl;
}

pub number_faithful : (sig : List ℕ) (symbols : List LinearSymbol) → Faithful (number_columns (linear_part sig symbols)) number (linear_part sig symbols)
number_faithful sig symbols = record {
  zeros = λ i. refl;
  units = λ v k i h. (let e : 4 * v + 1 ≡ 4 * v + 1 + i = omega arith in ap (λ n. cond (k == n) 1 0) e);
  combines = λ b f vs i h. ap (λ j. combined_entry (linear_part sig symbols) b f (map number vs) j) (let e : 0 ≡ i = omega arith in e);
  tests = λ c. same_test (nat_le c reach) (nat_le c reach && true) (λ h. both (nat_le c reach) true h tt) (λ h. fst_of (nat_le c reach) true h);
}

-- a vector whose first entries were made one by one, each tested, in front of zeros
pub made_vector : (P : Part) (f : ℕ → ℕ) (xs : List ℕ) → P.dim ≤ 4 → length xs ≡ P.dim → ((k : ℕ) → k < P.dim → slice_index xs k ≡ f k) → ((k : ℕ) → k < P.dim → slice_index xs k ≤ reach)
    → Some (xs ++ drop P.dim (vector_columns P).zero) ≡ tested (vector_columns P).within (map (λ i. cond (nat_lt i P.dim) (f i) 0) (range_with_len 0 4))
made_vector P f xs narrow long at small =
    let zeros = (vector_columns P).zero in
    let whole = xs ++ drop P.dim zeros in
    let same : whole ≡ map (λ i. cond (nat_lt i P.dim) (f i) 0) (range_with_len 0 4) =
    fill_by_all (λ i. cond (nat_lt i P.dim) (f i) 0) whole 4 0 (omega (arith, length-append xs (drop P.dim zeros), length-drop P.dim zeros)) (λ k h. elim (cases_lt k P.dim) [
      | inl lt ↦ (get_or_append_left xs (drop P.dim zeros) 0 k (omega arith) ∙ at k lt ∙ sym (cond-true (nat_lt k P.dim) (f k) 0 (lt-ltb k P.dim lt)))
      | inr ge ↦ (get_or-append_right xs (drop P.dim zeros) P.dim k 0 long ge ∙ get_or-drop P.dim zeros (k - P.dim) 0 ∙ zero_entry (P.dim + (k - P.dim)) ∙ sym (cond-false (nat_lt k P.dim) (f k) 0 (le-ltb k P.dim ge)))
    ]) in
    let good : vector_near P (vector whole) ≡ true =
    sym (every_holds P.dim (λ i. leb (slice_index whole i) reach) (λ k h. le→leb (slice_index whole k) reach (rw (get_or_append_left xs (drop P.dim zeros) 0 k (omega arith)) (small k h)))) in
    sym (ap (tested (vector_columns P).within) (sym same) ∙ cond-true (vector_near P (vector whole)) (Some whole) None good)

pub refused_vector : (P : Part) (f : ℕ → ℕ) (k : ℕ) → P.dim ≤ 4 → k < P.dim → reach < f k → None ≡ tested (vector_columns P).within (map (λ i. cond (nat_lt i P.dim) (f i) 0) (range_with_len 0 4))
refused_vector P f k narrow h far =
    let xs = map (λ i. cond (nat_lt i P.dim) (f i) 0) (range_with_len 0 4) in
    let is : get_or xs k 0 ≡ f k =
    get_or-map-range_with_len (λ i. cond (nat_lt i P.dim) (f i) 0) 0 4 k k 0 (omega arith) (omega arith) ∙ cond-true (nat_lt k P.dim) (f k) 0 (lt-ltb k P.dim h) in
    let bad : vector_near P (vector xs) ≡ false = sym (every_fails P.dim (λ i. leb (slice_index xs i) reach) k h (ap (λ n. leb n reach) is ∙ lt-leb (f k) reach far)) in
    sym (cond-false (vector_near P (vector xs)) (Some xs) None bad)

unit-near : (b : Bool) → T (nat_le (cond b 1 0) reach)
unit-near true = tt
unit-near false = tt

pub zero_within : (P : Part) → (vector_columns P).within (vector_columns P).zero ≡ true
zero_within P = sym (every_holds P.dim (λ i. leb (slice_index (0 ∷ (0 ∷ (0 ∷ (0 ∷ [])))) i) reach) (λ k h. subst (λ n. T (nat_le n reach)) (sym (zero_entry k)) tt))

pub unit_within : (P : Part) → P.dim ≤ 4 → (v k : ℕ) → (vector_columns P).within ((vector_columns P).unit v k) ≡ true
unit_within P narrow v k =
    sym (every_holds P.dim (λ i. leb (slice_index ((vector_columns P).unit v k) i) reach)
    (λ i h. subst (λ n. T (nat_le n reach)) (sym ((vector_faithful P narrow).units v k i h)) (unit-near (k == 4 * v + 1 + i))))

pub number-unit_within : (v k : ℕ) → nat_le (cond (k == 4 * v + 1) 1 0) reach ≡ true
number-unit_within v k = go (k == 4 * v + 1)
  where
    go : (b : Bool) → nat_le (cond b 1 0) reach ≡ true
    go true = refl
    go false = refl

pub number_made : (v w : ℕ) → v ≡ w → v ≤ reach → Some v ≡ tested (λ n. leb n reach) w
number_made v w e h = subst (λ x. Some v ≡ cond (nat_le x reach) (Some x) None) e (sym (cond-true (nat_le v reach) (Some v) None (le-leb v reach h)))

pub number_refused : (w : ℕ) → reach < w → None ≡ tested (λ n. leb n reach) w
number_refused w h = sym (cond-false (nat_le w reach) (Some w) None (lt-leb w reach h))
