-- What a search passes by has no redex.
use Rattle.std.specs.Result.{is_ok}
use Rattle.std.proofs.Common.{◌≡◌, ℕ, ◌+◌, ◌<◌, ◌≤◌, ◌&&◌, Bool, true, false, T, List, ◌++◌, length, take, get_or, Some, None, Ok, Err, Option, Result, sym, ap, ◌∙◌, subst, arith, ◌⊎◌, inl, inr}
use Rattle.std.proofs.lemmas.Bool.{cases_lt}
use Rattle.std.proofs.Math.Seq.{take-append_seam}
use Rattle.terms.specs.declared.system.System as held
use Rattle.terms.specs.declared.rule.Rule as code
use Rattle.terms.specs.Terms.{Term, Term.var, Term.app, codes, over, size, under}
use Rattle.terms.specs.Contexts.{plug, before_hole, after_hole, Occurrence}
use Rattle.terms.specs.Rules.{Rule, Numbered, headed, bound}
use Rattle.terms.specs.Steps.{Step, First, FirstRedex, Normal}
use Rattle.terms.specs.Models.{sides_of}
use Rattle.terms.specs.Systems.{signature_of, listed_rules, rules_of}
use Rattle.std.proofs.lemmas.List.{get_or-append-add}
use Rattle.std.proofs.Math.ListN.{get_or-append}
use Rattle.terms.proofs.Places.{codes_plug, length_before, length_codes, located}
use Rattle.terms.proofs.Readings.{counted_codes}
use Rattle.terms.specs.Codes.{is_term, term_of}
use Rattle.terms.specs.Shapes.{is_proper}
use Rattle.std.proofs.Common.{refl, eqb, slice_get}
use Rattle.std.proofs.lemmas.Bool.{eqb-false}
use Rattle.std.proofs.lemmas.Option.{get_or_from_slice_get, slice_get-get_or}
use Rattle.terms.proofs.Overs.{rule-numbered}
use Rattle.terms.proofs.Booleans.{fst_of, snd_of, clash}
use Rattle.terms.proofs.Splices.{over_plugged}
use Rattle.terms.proofs.Views.{counted, size_positive}
use Rattle.rewriting.specs.declared.fault.RewriteFault.{RewriteFault}
use Rattle.rewriting.specs.declared.fault.RewriteFault.TheVariants as fault
use Rattle.rewriting.specs.declared.subject.Subject.{Subject}
use Rattle.rewriting.specs.Laws.{RedexTold, Told}
use Rattle.rewriting.specs.Searching.{first_redex}
use Rattle.rewriting.specs.Subjects.{arities_in, rules_in, codes_in, term_in}
use Rattle.rewriting.proofs.Looks.{first_means}
use Rattle.rewriting.proofs.Stepwise.{numbered_below, rule_listed, step_inside, size_of}
use Rattle.rewriting.proofs.Systems.{few_in, rules_fine, rule-here, is_rule-here, length_rules}
use Rattle.job_calls.proofs.Only.{first_unique}
use Rattle.resuming.specs.Shapes.{levels, shallow, seen, symbols, unrepeated}
use Rattle.resuming.specs.Climbing.{above, back_up}
use Rattle.resuming.specs.Laws.{NoneNew, NoneBelow, NoneBelowAfter, LowestAt, MakesStep, Begins}
use Rattle.resuming.proofs.Climbs.{backs_up}
use Rattle.resuming.proofs.Resuming.{Shallow, none_new}
use Rattle.resuming.proofs.Symbols.{shallow_left}

-- no step where a redex was looked for in vain
pub no_redex : (rules : List Rule) (t : Term) (n at : ℕ) (e : RewriteFault) → RedexTold rules t n at (Err e) → (u : Term) → Step rules n at t u → ⊥
no_redex rules t n at fault.Malformed h u s = h
no_redex rules t n at fault.NoRule h u s = let l = numbered_below rules n s.rule s.listed in let z : ⊥ = omega arith in z
no_redex rules t n at fault.NoPlace h u s = let l = step_inside rules n at t u s in let z : ⊥ = omega arith in z
no_redex rules t n at fault.NoMatch h u s = h u s
no_redex rules t n at fault.TooLong h u s = h

-- what is refused leaves the term
pub refused_same : (rules : List Rule) (t u : Term) (n at : ℕ) (e : RewriteFault) → Told rules t n at (Err e) u → u ≡ t
refused_same rules t u n at fault.Malformed h = absurd h
refused_same rules t u n at fault.NoRule h = h.0
refused_same rules t u n at fault.NoPlace h = h.0
refused_same rules t u n at fault.NoMatch h = h.0
refused_same rules t u n at fault.TooLong h = h.0

-- one place further
pub one_further : (rules : List Rule) (t : Term) (p : ℕ) → NoneBelow rules t p → LowestAt rules t p None → NoneBelow rules t (p + 1)
one_further rules t p below none m i w l s = by (cases_lt i p)
  where
    by : (i < p) ⊎ (p ≤ i) → ⊥
    by (inl h) = below m i w h s
    by (inr h) = let e : i ≡ p = omega arith in none m w (subst (λ j. Step rules m j t w) e s)

-- and one rule
pub rule_further : (rules : List Rule) (t : Term) (p k : ℕ) → ((n : ℕ) (u : Term) → n < k → Step rules n p t u → ⊥) → ((u : Term) → Step rules k p t u → ⊥) → (n : ℕ) (u : Term) → n < k + 1 → Step rules n p t u → ⊥
rule_further rules t p k below none n u l s = by (cases_lt n k)
  where
    by : (n < k) ⊎ (k ≤ n) → ⊥
    by (inl h) = below n u h s
    by (inr h) = let e : n ≡ k = omega arith in none u (subst (λ j. Step rules j p t u) e s)

pub no_rule : (rules : List Rule) (t : Term) (p k : ℕ) → length rules ≤ k → ((n : ℕ) (u : Term) → n < k → Step rules n p t u → ⊥) → (n : ℕ) (u : Term) → Step rules n p t u → ⊥
no_rule rules t p k enough below n u s = let l = numbered_below rules n s.rule s.listed in below n u (omega arith) s

-- read off the codes that stand before a place
module _ (sig : List ℕ) (few : length sig ≤ 32) (cs : List ℕ) (ok : T (is_term sig cs)) where
  pub climbs_enough : (d p : ℕ) (rules : List Rule) → T (shallow (d + 1) rules) → p < length cs → NoneNew rules (term_of sig cs) p (back_up sig d (take p cs))
  climbs_enough d p rules fine inside =
      let t = term_of sig cs in
      let here : Occurrence t p = located t p (let z = size_of sig few cs ok 0 in omega arith) in
      let C = here.context in
      let o : T (over sig (plug C here.part)) = over_plugged sig few cs ok p C here.part here.whole here.placed in
      let whole : cs ≡ before_hole C ++ (codes here.part ++ after_hole C) = sym (counted_codes sig cs (counted sig cs ok)) ∙ ap codes (sym here.whole) ∙ codes_plug C here.part in
      let long : p ≡ length (before_hole C) = sym here.placed ∙ sym (length_before C) in
      let front : take p cs ≡ before_hole C = ap (take p) whole ∙ ap (λ n. take n (before_hole C ++ (codes here.part ++ after_hole C))) long ∙ take-append_seam (before_hole C) _ in
      let found : back_up sig d (take p cs) ≡ above d C = ap (back_up sig d) front ∙ backs_up sig few d C here.part o in
      subst (NoneNew rules t p) (sym found) (none_new rules (d + 1) d fine (omega arith) C here.part t p here.whole here.placed)

module _ (s : Subject) where
  abbrev rules : List Rule
  rules = rules_in s

  abbrev t : Term
  t = term_in s

  sized : size t ≡ length (codes_in s)
  sized = size_of (arities_in s) (few_in s.system) (codes_in s) s.over 0

  -- past the end nothing is left to search
  pub all_passed : (p : ℕ) → length (codes_in s) ≤ p → NoneBelow rules t p → Normal rules t
  all_passed p enough below n at u h = let l = step_inside rules n at t u h in let z = sized in below n at u (omega arith) h

  pub first_at : (p k : ℕ) → NoneBelow rules t p → LowestAt rules t p (Some k) → First rules t p k
  first_at p k below low = record { next = low.next; step = low.step; no_place_below = λ q n u l h. below n q u l h; no_rule_below = low.no_rule_below }

  -- the first redex is what the definition finds
  pub is_first : (o : Option (ℕ × ℕ)) → FirstRedex rules t o → o ≡ first_redex (arities_in s) rules (codes_in s)
  is_first o h = first_unique rules t o _ h (first_means (arities_in s) (few_in s.system) rules (rules_fine s.system) (codes_in s) s.over)

  -- behind a step the search goes on where it climbed to
  pub resumes : (d : ℕ) → T (shallow (d + 1) rules) → (p from k q r : ℕ) → NoneBelow rules t from → (p < length (codes_in s) → k ≡ p) → q ≡ back_up (arities_in s) d (take k (codes_in s)) → r ≤ from → r ≤ q → NoneBelowAfter rules t p r
  resumes d fine p from k q r below short at r-from r-q n u a m i w l b =
      let inside : p < length (codes_in s) = let h = step_inside rules n p t u a in let z = sized in omega arith in
      let found : q ≡ back_up (arities_in s) d (take p (codes_in s)) = at ∙ ap (λ j. back_up (arities_in s) d (take j (codes_in s))) (short inside) in
      let old = climbs_enough (arities_in s) (few_in s.system) (codes_in s) s.over d p rules fine inside n u a m i w (omega arith) b in
      below m i old.0 (omega arith) old.1

-- a left side more is looked at
module _ (y : held.System) where
  pub seen_more : (i most more : ℕ) (x : code.Rule) → i < length (listed_rules y) → x ≡ get_or (listed_rules y) i x → T (unrepeated (sides_of x).left) → most ≤ more → symbols (sides_of x).left ≤ more
      → ((n : ℕ) (r : Rule) → n < i → Numbered (rules_of y) n r → Shallow most r) → (n : ℕ) (r : Rule) → n < i + 1 → Numbered (rules_of y) n r → Shallow more r
  seen_more i most more x within is plain up enough before n r l k = by (cases_lt n i)
    where
      by : (n < i) ⊎ (i ≤ n) → Shallow more r
      by (inl h) = let s = before n r h k in let a = s.low in record { low = omega arith; plain = s.plain }
      by (inr h) =
          let e : n ≡ i = omega arith in
          let sig = signature_of y in
          let side : T (is_term sig (sides_of x).left) =
          fst_of (is_term sig (sides_of x).left) _ (snd_of (is_proper (sides_of x).left (sides_of x).right) _ (is_rule-here sig (listed_rules y) i x y.over within is)) in
          let same : r ≡ _ = rule_listed (rules_of y) i r (subst (λ j. Numbered (rules_of y) j r) e k) ∙ rule-here sig (listed_rules y) i x within is in
          let known = shallow_left sig (few_in y) (sides_of x).left more side plain enough in
          subst (Shallow more) (sym same) record { low = known.0; plain = known.1 }

pub not_ok : (rules : List Rule) (t : Term) (n at : ℕ) (r : Result (Unit {0}) RewriteFault) → is_ok r ≡ false → RedexTold rules t n at r → (u : Term) → Step rules n at t u → ⊥
not_ok rules t n at (Ok x) e h = absurd (clash (cc))
not_ok rules t n at (Err f) e h = no_redex rules t n at f h

pub is_true : (b : Bool) → b ≡ true → T b
is_true b e = subst T (sym e) tt

-- the invariants of a search, after a step and after a refusal
module _ (s u : Subject) (same : u.system ≡ s.system) where
  pub still_seen : (levels : Option ℕ) → T (seen levels (rules_in s)) → T (seen levels (rules_in u))
  still_seen levels h = subst (λ y. T (seen levels (rules_of y))) (sym same) h

  pub after_refusal : (n at from : ℕ) (r : Result (Unit {0}) RewriteFault) → is_ok r ≡ false → Told (rules_in s) (term_in s) n at r (term_in u) → NoneBelow (rules_in s) (term_in s) from → NoneBelow (rules_in u) (term_in u) from
  after_refusal n at from (Ok x) e told below = absurd (clash (cc))
  after_refusal n at from (Err f) e told below =
      let t : term_in u ≡ term_in s = refused_same (rules_in s) (term_in s) (term_in u) n at f told in
      subst (λ y. NoneBelow (rules_of y) (term_in u) from) (sym same) (subst (λ x. NoneBelow (rules_in s) x from) (sym t) below)

  pub after_step : (n at from : ℕ) (r : Result (Unit {0}) RewriteFault) → r ≡ Ok tt → Told (rules_in s) (term_in s) n at r (term_in u) → NoneBelowAfter (rules_in s) (term_in s) at from → NoneBelow (rules_in u) (term_in u) from
  after_step n at from r is told after =
      subst (λ y. NoneBelow (rules_of y) (term_in u) from) (sym same) (after n (term_in u) (subst (λ x. Told (rules_in s) (term_in s) n at x (term_in u)) is told))

-- a look for a redex tells whether there is a step
pub makes_step : (rules : List Rule) (t : Term) (n at : ℕ) (r : Result (Unit {0}) RewriteFault) → RedexTold rules t n at r → MakesStep rules t n at (is_ok r)
makes_step rules t n at (Ok x) h = h
makes_step rules t n at (Err f) h = no_redex rules t n at f h

-- a left side begins as the subterm that it matches
begun : (σ : ℕ → Term) (l : Term) → T (headed l) → get_or (codes (under σ l)) 0 0 ≡ get_or (codes l) 0 0
begun σ (var v) h = absurd h
begun σ (app f ts) h = refl

module _ (s : Subject) where
  pub heads_meet : (n p : ℕ) (x : code.Rule) (u : Term) → n < length (listed_rules s.system) → x ≡ get_or (listed_rules s.system) n x → Step (rules_in s) n p (term_in s) u → get_or (codes_in s) p 0 ≡ get_or (sides_of x).left 0 0
  heads_meet n p x u within is a =
      let sig = arities_in s in
      let cs = codes_in s in
      let same : a.rule ≡ _ = rule_listed (rules_in s) n a.rule a.listed ∙ rule-here sig (listed_rules s.system) n x within is in
      let side : T (is_term sig (sides_of x).left) = fst_of (is_term sig (sides_of x).left) _ (snd_of (is_proper (sides_of x).left (sides_of x).right) _ (is_rule-here sig (listed_rules s.system) n x s.system.over within is)) in
      let left : codes a.rule.left ≡ (sides_of x).left = ap (λ r. codes r.left) same ∙ counted_codes sig (sides_of x).left (counted sig (sides_of x).left side) in
      let part = codes (under a.σ a.rule.left) in
      let whole : cs ≡ before_hole a.context ++ (part ++ after_hole a.context) = sym (counted_codes sig cs (counted sig cs s.over)) ∙ ap codes a.from ∙ codes_plug a.context (under a.σ a.rule.left) in
      let long : p ≡ length (before_hole a.context) + 0 = sym a.placed ∙ sym (length_before a.context) ∙ omega arith in
      let some : 0 < length part = let l = length_codes (under a.σ a.rule.left) in let k = size_positive (under a.σ a.rule.left) in omega arith in
      let fine = rule-numbered sig (rules_in s) n a.rule (rules_fine s.system) a.listed in
      let head : T (headed a.rule.left) = fst_of (headed a.rule.left) _ (snd_of (over sig a.rule.left && over sig a.rule.right) (headed a.rule.left && bound a.rule.left a.rule.right) fine) in
      ap (λ l. get_or l p 0) whole ∙ ap (λ k. get_or (before_hole a.context ++ (part ++ after_hole a.context)) k 0) long ∙ get_or-append-add (before_hole a.context) (part ++ after_hole a.context) 0 0
      ∙ get_or-append part (after_hole a.context) 0 0 some ∙ begun a.σ a.rule.left head ∙ ap (λ l. get_or l 0 0) left

  pub no_such_rule : (n p : ℕ) → length (listed_rules s.system) ≤ n → (u : Term) → Step (rules_in s) n p (term_in s) u → ⊥
  no_such_rule n p h u a =
      let l = numbered_below (rules_in s) n a.rule a.listed in
      let m = length_rules (arities_in s) (listed_rules s.system) in
      let z : ⊥ = omega arith in z

  pub no_such_place : (n p : ℕ) → length (codes_in s) ≤ p → (u : Term) → Step (rules_in s) n p (term_in s) u → ⊥
  no_such_place n p h u a =
      let l = step_inside (rules_in s) n p (term_in s) u a in
      let m = size_of (arities_in s) (few_in s.system) (codes_in s) s.over 0 in
      let z : ⊥ = omega arith in z

  -- what the first codes tell
  pub begins_told : (n p : ℕ) (x : code.Rule) (a b : ℕ) → n < length (listed_rules s.system) → x ≡ get_or (listed_rules s.system) n x → slice_get (sides_of x).left 0 ≡ Some a → b ≡ get_or (codes_in s) p 0 → Begins (rules_in s) (term_in s) n p (eqb a b)
  begins_told n p x a b within is first here = go (eqb a b) refl
    where
      go : (t : Bool) → eqb a b ≡ t → Begins (rules_in s) (term_in s) n p t
      go true e = tt
      go false e = λ u h.
          eqb-false a b e (sym (get_or_from_slice_get (sides_of x).left 0 a 0 first) ∙ sym (heads_meet n p x u within is h) ∙ sym here)

  pub never_empty : (n p : ℕ) (x : code.Rule) → n < length (listed_rules s.system) → x ≡ get_or (listed_rules s.system) n x → slice_get (sides_of x).left 0 ≡ None → (u : Term) → Step (rules_in s) n p (term_in s) u → ⊥
  never_empty n p x within is none u a =
      let sig = arities_in s in
      let side : T (is_term sig (sides_of x).left) = fst_of (is_term sig (sides_of x).left) _ (snd_of (is_proper (sides_of x).left (sides_of x).right) _ (is_rule-here sig (listed_rules s.system) n x s.system.over within is)) in
      let l = size_of sig (few_in s.system) (sides_of x).left side 0 in
      let k = size_positive (term_of sig (sides_of x).left) in
      let some : Some (get_or (sides_of x).left 0 0) ≡ None = sym (slice_get-get_or (sides_of x).left 0 0 (omega arith)) ∙ none in
      cc
