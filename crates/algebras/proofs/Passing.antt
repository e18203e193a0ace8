-- A review by induction over the rules, and what it means.
use Rattle.std.proofs.Common.{◌≡◌, ℕ, zero, suc, ◌+◌, ◌<◌, Bool, true, false, cond, T, List, [], ◌∷◌, Ok, Err, Result, sym, refl, subst, arith}
use Rattle.terms.specs.declared.system.System.{System}
use Rattle.terms.specs.Rules.{Rule, rules_over, Numbered}
use Rattle.terms.specs.Shapes.{is_rule, rule_of}
use Rattle.terms.specs.Models.{Sides, all_sides, all_rules}
use Rattle.terms.specs.Systems.{signature_of, listed_rules, rules_from, rules_of}
use Rattle.terms.proofs.Booleans.{both, fst_of, snd_of, held, cond_on}
use Rattle.terms.proofs.Made.{rules_read}
use Rattle.terms.proofs.Scans.{few_symbols}
use Rattle.algebras.specs.declared.fault.AlgebraFault.TheVariants as fault
use Rattle.algebras.specs.declared.reviewing.ReviewFault.{ReviewFault}
use Rattle.algebras.specs.declared.reviewing.ReviewFault.TheVariants as flaw
use Rattle.algebras.specs.Meanings.{Meaning, Lawful}
use Rattle.algebras.specs.Replies.{order, order_of, compared}
use Rattle.algebras.specs.Bounds.{all_rules_are}
use Rattle.algebras.specs.Reviews.{judged, and_then, rules_reply, review_reply, passes, Stopped, Reviewed}
use Rattle.algebras.proofs.Bounds.{bound}

-- why the rule that a fault names does not pass
abbrev WhyFar : Meaning → Rule → Type 0
WhyFar A x = A.readable x ≡ false

abbrev WhyRaising : Meaning → Rule → Type 0
WhyRaising A x = T (A.readable x) × (A.weak x ≡ false)

abbrev WhyWeak : Meaning → Rule → Type 0
WhyWeak A x = T (A.readable x) × T (A.weak x) × (A.strict x ≡ false)

module _ (A : Meaning) (sig : List ℕ) (fit : T (A.fits sig)) where
  abbrev AllPass : List Rule → Type 0
  AllPass rules = (m : ℕ) (x : Rule) → Numbered rules m x → T (passes A x)

  -- the rule of the number n is the m-th of these, which are numbered from k on
  abbrev Halted : ℕ → List Rule → ℕ → (Rule → Type 0) → Type 0
  Halted k rules n Why = (m : ℕ) × (n ≡ k + m) × Stopped A sig rules m Why

  abbrev Found : ℕ → List Rule → Result (Unit {0}) ReviewFault → Type 0
  Found k rules (Ok x) = AllPass rules
  Found k rules (Err flaw.Unfit) = ⊥
  Found k rules (Err (flaw.RuleOutOfReach n)) = Halted k rules n (WhyFar A)
  Found k rules (Err (flaw.RuleNotWeak n)) = Halted k rules n (WhyRaising A)
  Found k rules (Err (flaw.RuleWeakOnly n)) = Halted k rules n (WhyWeak A)

  module _ (x : Rule) (rest : List Rule) where
    -- the first rule does not pass
    here : (k : ℕ) (Why : Rule → Type 0) → Why x → Halted k (x ∷ rest) k Why
    here k Why w = (0, omega arith, record { fits = fit; rule = x; listed = refl; first = λ m y h l. absurd (let z : ⊥ = omega arith in z); why = w })

    module _ (pass : T (passes A x)) where
      up_to : (n : ℕ) → ((m : ℕ) (y : Rule) → m < n → Numbered rest m y → T (passes A y)) → (m : ℕ) (y : Rule) → m < suc n → Numbered (x ∷ rest) m y → T (passes A y)
      up_to n before zero y h l = subst (λ z. T (passes A z)) l pass
      up_to n before (suc m) y h l = before m y (omega arith) l

      all_too : AllPass rest → AllPass (x ∷ rest)
      all_too all zero y l = subst (λ z. T (passes A z)) l pass
      all_too all (suc m) y l = all m y l

      -- it passes, and one behind it does not
      behind : (k n : ℕ) (Why : Rule → Type 0) → Halted (k + 1) rest n Why → Halted k (x ∷ rest) n Why
      behind k n Why (m, e, s) =
          (suc m, omega arith, record { fits = fit; rule = s.rule; listed = s.listed; first = up_to m s.first; why = s.why })

      passed_on : (k : ℕ) (later : Result (Unit {0}) ReviewFault) → Found (k + 1) rest later → Found k (x ∷ rest) later
      passed_on k (Ok u) f = all_too f
      passed_on k (Err flaw.Unfit) f = f
      passed_on k (Err (flaw.RuleOutOfReach n)) f = behind k n (WhyFar A) f
      passed_on k (Err (flaw.RuleNotWeak n)) f = behind k n (WhyRaising A) f
      passed_on k (Err (flaw.RuleWeakOnly n)) f = behind k n (WhyWeak A) f

    -- by what the rule's tests come to
    next : (readable strict weak : Bool) → A.readable x ≡ readable → A.strict x ≡ strict → A.weak x ≡ weak
        → (k : ℕ) (later : Result (Unit {0}) ReviewFault) → Found (k + 1) rest later
        → Found k (x ∷ rest) (and_then (judged k (cond readable (Ok (order strict weak)) (Err fault.RuleOutOfReach))) later)
    next false strict weak r s w k later f = here k (WhyFar A) r
    next true true weak r s w k later f = passed_on (both _ _ (held _ r) (held _ s)) k later f
    next true false true r s w k later f = here k (WhyWeak A) (held _ r, held _ w, s)
    next true false false r s w k later f = here k (WhyRaising A) (held _ r, w)

  -- by induction over the rules
  found : (k : ℕ) (ss : List Sides) → T (all_rules sig ss) → Found k (rules_from sig ss) (rules_reply A sig k ss)
  found k [] h = λ m x l. absurd l
  found k (s ∷ ss) h =
      let x = rule_of sig s.left s.right in
      let good = fst_of (is_rule sig s.left s.right) _ h in
      let later = rules_reply A sig (k + 1) ss in
      let told : compared A sig s.left s.right ≡ cond (A.readable x) (Ok (order_of A x)) (Err fault.RuleOutOfReach) = cond_on _ _ _ (both _ _ fit good) in
      subst (λ o. Found k (x ∷ rules_from sig ss) (and_then (judged k o) later)) (sym told)
      (next x (rules_from sig ss) (A.readable x) (A.strict x) (A.weak x) refl refl refl k later (found (k + 1) ss (snd_of (is_rule sig s.left s.right) _ h)))

  all_strict : (rules : List Rule) → AllPass rules → T (all_rules_are A.strict rules)
  all_strict [] h = tt
  all_strict (x ∷ xs) h = both _ _ (snd_of (A.readable x) _ (h 0 x refl)) (all_strict xs (λ m y l. h (suc m) y l))

  -- numbered from 0 on
  stopped : (rules : List Rule) (n : ℕ) (Why : Rule → Type 0) → Halted 0 rules n Why → Stopped A sig rules n Why
  stopped rules n Why (m, e, s) = let same : m ≡ n = omega arith in subst (λ k. Stopped A sig rules k Why) same s

  reviewed : Lawful A → (rules : List Rule) → T (rules_over sig rules) → (r : Result (Unit {0}) ReviewFault) → Found 0 rules r → Reviewed A sig rules r
  reviewed law rules ok (Ok u) f = record { fits = fit; all = f; bounded = bound sig rules A law fit ok (all_strict rules f) }
  reviewed law rules ok (Err flaw.Unfit) f = absurd f
  reviewed law rules ok (Err (flaw.RuleOutOfReach n)) f = stopped rules n (WhyFar A) f
  reviewed law rules ok (Err (flaw.RuleNotWeak n)) f = stopped rules n (WhyRaising A) f
  reviewed law rules ok (Err (flaw.RuleWeakOnly n)) f = stopped rules n (WhyWeak A) f

pub review_law : (A : Meaning) → Lawful A → (s : System) (r : Result (Unit {0}) ReviewFault) → r ≡ review_reply A (signature_of s) (all_sides (listed_rules s)) → Reviewed A (signature_of s) (rules_of s) r
review_law A law s r e = subst (Reviewed A sig (rules_of s)) (sym e) (go (A.fits sig) refl)
  where
    sig : List ℕ
    sig = signature_of s

    go : (b : Bool) → A.fits (signature_of s) ≡ b → Reviewed A (signature_of s) (rules_of s) (cond b (rules_reply A (signature_of s) 0 (all_sides (listed_rules s))) (Err flaw.Unfit))
    go false p = p
    go true p =
        let fine = rules_read (signature_of s) (few_symbols (signature_of s) s.signature.limited) (all_sides (listed_rules s)) s.over in
        let fit = held (A.fits (signature_of s)) p in
        reviewed A (signature_of s) fit law (rules_of s) fine (rules_reply A (signature_of s) 0 (all_sides (listed_rules s))) (found A (signature_of s) fit 0 (all_sides (listed_rules s)) s.over)
