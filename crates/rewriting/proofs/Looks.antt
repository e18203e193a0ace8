-- The search finds the first redex, or there is none.
use Rattle.std.proofs.Common.{◌≡◌, ℕ, zero, suc, ◌+◌, ◌<◌, ◌≤◌, Bool, false, not, T, List, [], ◌∷◌, length, Some, None, Option, MatchOption, IsTrue, sym, refl, ap, ◌∙◌, subst, arith}
use denote.Param.Members.{Mut, Called}
use Rattle.std.proofs.iter.Yields.{nat_range_steps}
use Rattle.std.specs.Option.{option_map, IfSome, IsSomeAnd}
use Rattle.std.specs.Iterator.Runs.{SomeRun, AllItemsGive, IsFirstToGive}
use Rattle.std.specs.List.{position}
use Rattle.std.proofs.iter.runs.Sources.{range_runs}
use Rattle.std.proofs.lemmas.Bool.Decides.{nat_tests}
use Rattle.std.proofs.lemmas.List.Quantifiers.{position-Some}
use Rattle.std.proofs.lemmas.List.Sums.{prefix_len_passes}
use Rattle.terms.specs.Terms.{Term}
use Rattle.terms.specs.Rules.{Rule, Numbered, rules_over}
use Rattle.terms.specs.Steps.{Step, First, FirstRedex}
use Rattle.terms.specs.Codes.{is_term, term_of, sub_at}
use Rattle.terms.proofs.Booleans.{held, never}
use Rattle.rewriting.specs.Matching.{matches}
use Rattle.rewriting.specs.Filling.{next_codes}
use Rattle.rewriting.specs.Replies.{rule_at}
use Rattle.rewriting.specs.Searching.{lowest_rule, found, first_from, first_redex}
use Rattle.rewriting.proofs.Stepwise.{listed_at, numbered_below, rule_listed, step_sound, step-matches, step_inside, size_of}

none_passes : (test : Rule → Bool) (rules : List Rule) → position test rules ≡ None → (n : ℕ) → n < length rules → test (rule_at rules n) ≡ false
none_passes test rules e n h = let p = prefix_len_passes (λ x. not (test x)) rules n (rule_at [] 0) in grind (arith, nat_tests, p)

module _ (sig : List ℕ) (rules : List Rule) where
  -- what a search over all places comes to
  abbrev pub Sought : List ℕ → Option (ℕ × ℕ) → Type 0
  Sought cs None = (q : ℕ) → q < length cs → lowest_rule rules (sub_at sig cs q) ≡ None
  Sought cs (Some m) = (m.0 < length cs) × (lowest_rule rules (sub_at sig cs m.0) ≡ Some m.1) × ((q : ℕ) → q < m.0 → lowest_rule rules (sub_at sig cs q) ≡ None)

  none_from : (i : ℕ) (cs : List ℕ) → ((q : ℕ) → q < length cs → lowest_rule rules (sub_at sig cs q) ≡ None) → None ≡ first_from sig rules i cs
  none_from i [] h = refl
  none_from i (c ∷ cs) h = none_from (i + 1) cs (λ q l. h (suc q) (omega arith)) ∙ sym (ap (λ o. found i o (first_from sig rules (i + 1) cs)) (h 0 (omega arith)))

  some_from : (i q n k : ℕ) (cs : List ℕ) → k ≡ i + q → q < length cs → lowest_rule rules (sub_at sig cs q) ≡ Some n → ((j : ℕ) → j < q → lowest_rule rules (sub_at sig cs j) ≡ None) → Some (k, n) ≡ first_from sig rules i cs
  some_from i q n k [] e h here below = absurd (omega arith)
  some_from i zero n k (c ∷ cs) e h here below =
      let p : k ≡ i = omega arith in
      ap (λ j. Some (j, n)) p ∙ sym (ap (λ o. found i o (first_from sig rules (i + 1) cs)) here)
  some_from i (suc q) n k (c ∷ cs) e h here below =
      some_from (i + 1) q n k cs (omega arith) (omega arith) here (λ j l. below (suc j) (omega arith))
      ∙ sym (ap (λ o. found i o (first_from sig rules (i + 1) cs)) (below 0 (omega arith)))

  pub sought_value : (cs : List ℕ) (o : Option (ℕ × ℕ)) → Sought cs o → o ≡ first_redex sig rules cs
  sought_value cs None s = none_from 0 cs s
  sought_value cs (Some m) s = some_from 0 m.0 m.1 m.0 cs (omega arith) s.0 s.1 s.2

  -- what the search from a place on comes to
  SoughtFrom : ℕ → List ℕ → Option (ℕ × ℕ) → Type 0
  SoughtFrom i cs None = (q : ℕ) → q < length cs → lowest_rule rules (sub_at sig cs q) ≡ None
  SoughtFrom i cs (Some m) =
      (q : ℕ) × (m.0 ≡ i + q) × (q < length cs) × (lowest_rule rules (sub_at sig cs q) ≡ Some m.1) × ((j : ℕ) → j < q → lowest_rule rules (sub_at sig cs j) ≡ None)

  further : (i c : ℕ) (cs : List ℕ) (o : Option (ℕ × ℕ)) → lowest_rule rules (sub_at sig (c ∷ cs) 0) ≡ None → SoughtFrom (i + 1) cs o → SoughtFrom i (c ∷ cs) o
  unfolding SoughtFrom
  further i c cs None e h = go
    where
      go : (q : ℕ) → q < length (c ∷ cs) → lowest_rule rules (sub_at sig (c ∷ cs) q) ≡ None
      go zero l = e
      go (suc q) l = h q (omega arith)
  further i c cs (Some m) e h = (suc h.0, (let k = h.1 in omega arith), (let l = h.2 in omega arith), h.3, go)
    where
      go : (j : ℕ) → j < suc h.0 → lowest_rule rules (sub_at sig (c ∷ cs) j) ≡ None
      go zero l = e
      go (suc j) l = h.4 j (omega arith)

  found_from : (i c : ℕ) (cs : List ℕ) (o : Option ℕ) → lowest_rule rules (sub_at sig (c ∷ cs) 0) ≡ o → SoughtFrom (i + 1) cs (first_from sig rules (i + 1) cs)
      → SoughtFrom i (c ∷ cs) (found i o (first_from sig rules (i + 1) cs))
  unfolding SoughtFrom
  found_from i c cs None e h = further i c cs (first_from sig rules (i + 1) cs) e h
  found_from i c cs (Some n) e h = (0, omega arith, omega arith, e, λ j l. absurd (omega arith))

  sought_from : (i : ℕ) (cs : List ℕ) → SoughtFrom i cs (first_from sig rules i cs)
  unfolding SoughtFrom
  sought_from i [] = λ q l. absurd (omega arith)
  sought_from i (c ∷ cs) = found_from i c cs (lowest_rule rules (sub_at sig (c ∷ cs) 0)) refl (sought_from (i + 1) cs)

  from_start : (cs : List ℕ) (o : Option (ℕ × ℕ)) → SoughtFrom 0 cs o → Sought cs o
  unfolding SoughtFrom
  from_start cs None h = h
  from_start cs (Some m) h =
      let e : h.0 ≡ m.0 = (let k = h.1 in omega arith) in
      subst (λ p. (p < length cs) × (lowest_rule rules (sub_at sig cs p) ≡ Some m.1) × ((q : ℕ) → q < p → lowest_rule rules (sub_at sig cs q) ≡ None)) e (h.2, h.3, h.4)

  pub sought_first : (cs : List ℕ) → Sought cs (first_redex sig rules cs)
  sought_first cs = from_start cs (first_redex sig rules cs) (sought_from 0 cs)

module _ (sig : List ℕ) (few : length sig ≤ 32) (rules : List Rule) (fine : T (rules_over sig rules)) (cs : List ℕ) (ok : T (is_term sig cs)) where
  -- no match at a place, no step there
  stuck : (p n : ℕ) (u : Term) → ((r : Rule) → Numbered rules n r → matches r.left (sub_at sig cs p) ≡ false) → Step rules n p (term_of sig cs) u → ⊥
  stuck p n u none' s =
      let h : p < length cs = let a = step_inside rules n p (term_of sig cs) u s in let b = size_of sig few cs ok p in omega arith in
      never _ (step-matches sig few cs ok p rules fine h n s.rule s.listed u s) (none' s.rule s.listed)

  none_at : (p n : ℕ) (u : Term) → lowest_rule rules (sub_at sig cs p) ≡ None → Step rules n p (term_of sig cs) u → ⊥
  none_at p n u e =
      let test : Rule → Bool = λ r. matches r.left (sub_at sig cs p) in
      stuck p n u (λ r l. ap test (rule_listed rules n r l) ∙ none_passes test rules e n (numbered_below rules n r l))

  first : (p k : ℕ) → p < length cs → lowest_rule rules (sub_at sig cs p) ≡ Some k → ((q : ℕ) → q < p → lowest_rule rules (sub_at sig cs q) ≡ None) → First rules (term_of sig cs) p k
  first p k h here below =
      let test : Rule → Bool = λ r. matches r.left (sub_at sig cs p) in
      let a = position-Some test rules k (rule_at [] 0) here in
      let listed = listed_at rules k a.0 in
      record {
        next = term_of sig (next_codes sig cs p (rule_at rules k));
        step = step_sound sig few cs ok p rules fine h k (rule_at rules k) listed (held _ a.1);
        no_place_below = λ q n u lt s. none_at q n u (below q lt) s;
        no_rule_below = λ n u lt s. stuck p n u (λ r m. ap test (rule_listed rules n r m) ∙ a.2 n lt) s;
      }

  pub sought_means : (o : Option (ℕ × ℕ)) → Sought sig rules cs o → FirstRedex rules (term_of sig cs) o
  sought_means None h = λ n p u s.
      none_at p n u (h p (let a = step_inside rules n p (term_of sig cs) u s in let b = size_of sig few cs ok p in omega arith)) s
  sought_means (Some m) h = first m.0 m.1 h.0 h.1 h.2

  -- so the definition finds the first redex
  pub first_means : FirstRedex rules (term_of sig cs) (first_redex sig rules cs)
  first_means = sought_means (first_redex sig rules cs) (sought_first sig rules cs)

-- the search as calls at each place, which stop at the first answer
at_item : (P : ℕ → Type 0) (o : Option ℕ) (k : ℕ) → option_map (λ y. y) o ≡ Some k → IfSome o P → P k
at_item P None k e h = cc
at_item P (Some x) k e h = let same : x ≡ k = cc in subst P same h

at_found : (P : ℕ → Type 0) (o : Option ℕ) (k : ℕ) → option_map (λ y. y) o ≡ Some k → IsSomeAnd o P → P k
at_found P None k e h = absurd h
at_found P (Some x) k e h = let same : x ≡ k = cc in subst P same h

placed : ℕ → Option ℕ → Option (ℕ × ℕ)
placed k o = option_map (λ n. (k, n)) o

no_redex : (k : ℕ) (o : Option ℕ) → None ≡ placed k o → o ≡ None
unfolding placed
no_redex k None e = refl
no_redex k (Some n) e = cc

redex : (k : ℕ) (o : Option ℕ) (m : ℕ × ℕ) → Some m ≡ placed k o → (m.0 ≡ k) × (o ≡ Some m.1)
unfolding placed
redex k None m e = cc
redex k (Some n) m e = let same : ◌≡◌ {A = ℕ × ℕ} m (k, n) = cc in (ap (λ p. p.0) same, sym (ap (λ p. Some p.1) same))

module _ {F : Type 0} (g : Mut F (ℕ × Unit {0}) (Option (ℕ × ℕ))) (f : F) (sig : List ℕ) (rules : List Rule) (cs : List ℕ) where
  abbrev At : ℕ → Option ℕ
  At k = lowest_rule rules (sub_at sig cs k)

  module _ (called : (k : ℕ) (o : Option (ℕ × ℕ)) (q : F) → Called g f (k, tt) o q → (q ≡ f) × (o ≡ option_map {U = ℕ × ℕ} (λ n. (k, n)) (At k))) where
    misses : (k : ℕ) → Called g f (k, tt) None f → At k ≡ None
    unfolding placed
    misses k c = no_redex k (At k) (called k None f c).1

    pub sought : (n : ℕ) → n ≡ length cs → (r : Option (ℕ × ℕ)) → SomeRun nat_range_steps (record { start = 0; end = n }) (λ p. MatchOption r (IsTrue p.whole × AllItemsGive p g f None) (λ y. (i : ℕ) × (i < p.len) × (p.len ≡ i + 1) × IsFirstToGive p g f (Some y) None i))
        → Sought sig rules cs r
    unfolding placed
    sought n to None run = λ k h.
        let p = run.0 in
        let items = range_runs p p.seen in
        let from = ap (λ s. s.start) run.1 in
        let end = ap (λ s. s.end) run.1 in
        let e : p.from.start + k ≡ k = omega arith in
        misses k (at_item (λ x. Called g f (x, tt) None f) (p.at k) k (items.3 k (omega (arith, items.1 run.2.0)) ∙ ap Some e) (run.2.1 (λ a o q c. (called a.0 o q c).0) k))
    sought n to (Some m) run =
        let p = run.0 in
        let items = range_runs p p.seen in
        let from = ap (λ s. s.start) run.1 in
        let end = ap (λ s. s.end) run.1 in
        let i = run.2.0 in
        let within = run.2.1 in
        let first = run.2.3 (λ a o q c. (called a.0 o q c).0) in
        let at : (k : ℕ) → k < p.len → option_map (λ y. y) (p.at k) ≡ Some k = λ k h. (let e : p.from.start + k ≡ k = omega arith in items.3 k h ∙ ap Some e) in
        let hit = redex i (At i) m (called i (Some m) f (at_found (λ x. Called g f (x, tt) (Some m) f) (p.at i) i (at i within) first.0)).1 in (
          let a = items.0 in let b = hit.0 in omega arith,
          ap At hit.0 ∙ hit.1,
          λ q h. (let b = hit.0 in misses q (at_found (λ x. Called g f (x, tt) None f) (p.at q) q (at q (omega arith)) (first.1 q (omega arith)))),
        )
