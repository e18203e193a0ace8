-- Sums and vectors that are made entry by entry: one entry more, and what is made at the end.
use Rattle.std.specs.Prelude.{◌≡◌, ℕ, ◌+◌, ◌*◌, ◌<◌, ◌≤◌, true, cond, leb, ◌≢◌, List, map, length, drop, Some, None, nat_lt, slice_index, slice_index_or, slice_set}
use Rattle.std.proofs.Common.{sym, ap, ◌∙◌, inl, inr, add-one, arith, leb→le, le→leb, get_or-set_same, get_or-set_other, below_more}
use Rattle.std.specs.List.{range_with_len, AllByRecursion}
use Rattle.std.proofs.ByRecursion.{All-weaker}
use Rattle.std.proofs.lemmas.List.FromFn.{fill_by_all}
use Rattle.std.proofs.lemmas.List.{drop_more, drop_all}
use Rattle.std.proofs.lemmas.Bool.{cond-true, cond-false, lt-ltb, le-ltb, cases_lt}
use Rattle.terms.proofs.Booleans.{held}
use Rattle.algebras.specs.Meanings.{reach}
use Rattle.evaluation.specs.Structures.{tested, Every}
use Rattle.interpretations.specs.Numbers.{total}
use Rattle.interpretations.specs.Parts.{Part}
use Rattle.interpretations.proofs.Tests.{every-at, every_holds}
use Rattle.forms.specs.Faithful.{weighed, vector_near}
use Rattle.parts.specs.Vectors.{vector, vector_columns}

-- one argument more
pub weighed_more : {C : Type 0} (P : Part) (e : C → ℕ → ℕ) (f i : ℕ) (vs : List C) (n : ℕ) (d : C) → n < length vs
    → weighed P f n (map e (drop n vs)) i ≡ total P.dim (λ j. P.entry f n i j * e (slice_index_or vs n d) j) + weighed P f (n + 1) (map e (drop (n + 1) vs)) i
weighed_more P e f i vs n d h =
    ap (λ l. weighed P f n (map e l) i) (drop_more vs n d h)
    ∙ ap (λ k. total P.dim (λ j. P.entry f n i j * e (slice_index_or vs n d) j) + weighed P f k (map e (drop (n + 1) vs)) i) (sym (add-one n))

pub weighed-done : {C : Type 0} (P : Part) (e : C → ℕ → ℕ) (f i : ℕ) (vs : List C) (n : ℕ) → length vs ≤ n → weighed P f n (map e (drop n vs)) i ≡ 0
weighed-done P e f i vs n h = ap (λ l. weighed P f n (map e l) i) (drop_all n vs h)

-- a vector whose first entries are within reach
abbrev pub VectorNear : ℕ → List ℕ → Type 0
VectorNear n v = (j : ℕ) → j < n → slice_index v j ≤ reach

pub vectors_near : (P : Part) (vs : List (List ℕ)) → Every (vector_columns P).within vs → AllByRecursion (VectorNear P.dim) vs
vectors_near P vs h =
    All-weaker (λ v. vector_near P (vector v) ≡ true) (VectorNear P.dim)
    (λ v e j l. leb→le (slice_index v j) reach (every-at P.dim (λ i. leb (slice_index v i) reach) (held _ e) j l)) vs h

-- a vector of four entries, of which the first were made one by one, each tested, and the others are zero
pub made_vector : (P : Part) (f : ℕ → ℕ) (xs : List ℕ) → P.dim ≤ 4 → length xs ≡ 4 → ((k : ℕ) → k < P.dim → slice_index xs k ≡ f k) → ((k : ℕ) → k < P.dim → slice_index xs k ≤ reach)
    → ((k : ℕ) → P.dim ≤ k → slice_index xs k ≡ 0) → Some xs ≡ tested (vector_columns P).within (map (λ i. cond (nat_lt i P.dim) (f i) 0) (range_with_len 0 4))
made_vector P f xs narrow long at small rest =
    let same : xs ≡ map (λ i. cond (nat_lt i P.dim) (f i) 0) (range_with_len 0 4) =
    fill_by_all (λ i. cond (nat_lt i P.dim) (f i) 0) xs 4 0 long (λ k h. elim (cases_lt k P.dim) [
      | inl lt ↦ (at k lt ∙ sym (cond-true (nat_lt k P.dim) (f k) 0 (lt-ltb k P.dim lt)))
      | inr ge ↦ (rest k ge ∙ sym (cond-false (nat_lt k P.dim) (f k) 0 (le-ltb k P.dim ge)))
    ]) in
    let good : vector_near P (vector xs) ≡ true = sym (every_holds P.dim (λ i. leb (slice_index xs i) reach) (λ k h. le→leb (slice_index xs k) reach (small k h))) in
    sym (ap (tested (vector_columns P).within) (sym same) ∙ cond-true (vector_near P (vector xs)) (Some xs) None good)

-- one entry more
pub each_more : (Q : ℕ → ℕ → Type 0) (xs : List ℕ) (i x : ℕ) → i < length xs → ((k : ℕ) → k < i → Q k (slice_index xs k)) → Q i x → (k : ℕ) → k < i + 1 → Q k (slice_index (slice_set xs i x) k)
each_more Q xs i x within below here =
    below_more (λ k. Q k (slice_index (slice_set xs i x) k)) i (λ k h. let ne : k ≢ i = omega arith in rw get_or-set_other (below k h)) (rw get_or-set_same here)

pub rest_more : (xs : List ℕ) (i x : ℕ) → ((k : ℕ) → i ≤ k → slice_index xs k ≡ 0) → (k : ℕ) → i + 1 ≤ k → slice_index (slice_set xs i x) k ≡ 0
rest_more xs i x h k l = let ne : k ≢ i = omega arith in rw get_or-set_other (h k (omega arith))
