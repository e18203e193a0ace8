-- What an opening in full means, case by case, and that the reserve then lasts.
use Rattle.std.proofs.Common.{◌≡◌, ℕ, ◌≤◌, Bool, true, false, cond, ltb, List, length, Ok, Err, Result, sym, refl, subst, arith, ltb-true, ltb-false}
use Rattle.terms.specs.declared.malformed.Malformed.TheVariants as malformed
use Rattle.terms.specs.declared.system.System as held
use Rattle.terms.specs.Codes.{is_term, term_of}
use Rattle.terms.specs.Steps.{Derivation}
use Rattle.terms.specs.Models.{all_sides}
use Rattle.terms.specs.Systems.{signature_of, listed_rules, rules_of, system_of}
use Rattle.terms.specs.Laws.{Reading}
use Rattle.terms.proofs.Booleans.{held, never}
use Rattle.terms.proofs.Exactly.{reading, is_term_of}
use Rattle.terms.proofs.Readings.{counted_codes, counted_over}
use Rattle.terms.proofs.Views.{counted}
use Rattle.rewriting.proofs.Systems.{few_in}
use Rattle.algebras.specs.declared.fault.AlgebraFault.{AlgebraFault}
use Rattle.algebras.specs.declared.fault.AlgebraFault.TheVariants as algebra
use Rattle.algebras.specs.declared.reviewing.ReviewFault.{ReviewFault}
use Rattle.algebras.specs.Meanings.{Meaning, Lawful}
use Rattle.algebras.specs.Replies.{measured}
use Rattle.algebras.specs.Laws.{HeightTold}
use Rattle.algebras.specs.Reviews.{review_reply, Reviewed, Passed}
use Rattle.algebras.proofs.Passing.{review_law}
use Rattle.algebras.proofs.Telling.{measured_law}
use Rattle.pools.specs.declared.grant.Grant.{Grant}
use Rattle.job_calls.specs.Calls.{State}
use Rattle.job_calls.specs.Runs.{Lasts}
use Rattle.jobs.specs.declared.fault.OpenFault.{OpenFault}
use Rattle.jobs.specs.declared.fault.OpenFault.TheVariants as fault
use Rattle.jobs.specs.Openings.{fresh}
use Rattle.jobs.specs.FullOpenings.{by_height, by_review, full_reply, Covered, OpenTold}
use Rattle.terms.specs.Replies.{viewed}

module _ (A : Meaning) (lawful : Lawful A) (system : held.System) (cs : List ℕ) (g : Grant) where
  sig : List ℕ
  sig = signature_of system

  few : length (signature_of system) ≤ 32
  few = few_in system

  abbrev Said : Result State OpenFault → Type 0
  Said r = OpenTold A (signature_of system) (rules_of system) cs g.amount r

  told_height : Reading (signature_of system) cs → Passed A (signature_of system) (rules_of system) → (r : Result ℕ AlgebraFault) → HeightTold A (signature_of system) cs r → Said (by_height (system_of system) cs g r)
  told_height read passed (Ok h) m = go (ltb g.amount h) refl
    where
      go : (b : Bool) → ltb g.amount h ≡ b → Said (cond b (Err fault.BelowHeight) (Ok (fresh (system_of system) cs g)))
      go true e = (record { read = m.0.read; passed = passed }, (let l = ltb-true g.amount h e in let k = m.1 in omega arith))
      go false e = record {
        read = m.0.read;
        passed = passed;
        given = held _ m.0.given_is;
        covered = (let l = ltb-false g.amount h e in let k = m.1 in omega arith);
        bounded = passed.bounded m.0.read.term m.0.read.over_signature;
      }
  told_height read passed (Err algebra.HeightOutOfReach) m = (record { read = m.read; passed = passed }, m.given_is)
  told_height read passed (Err algebra.RuleOutOfReach) m = absurd m
  told_height read passed (Err algebra.CeilingOutOfReach) m = absurd m
  told_height read passed (Err algebra.Unfit) m = absurd (m passed.fits read)
  told_height read passed (Err algebra.SizeOutOfRange) m = absurd m

  told_review : Reading (signature_of system) cs → (r : Result (Unit {0}) ReviewFault) → Reviewed A (signature_of system) (rules_of system) r → Said (by_review A (system_of system) cs g r)
  told_review read (Ok x) p = told_height read p (measured A (signature_of system) cs) (measured_law A lawful system.signature cs (measured A (signature_of system) cs) refl).told
  told_review read (Err e) p = (read, p)

  pub open_means : Said (full_reply A (system_of system) cs g)
  open_means = go (is_term (signature_of system) cs) refl
    where
      go : (b : Bool) → is_term (signature_of system) cs ≡ b
          → Said (cond b (by_review A (system_of system) cs g (review_reply A (signature_of system) (all_sides (listed_rules system)))) (Err (fault.Malformed malformed.Term)))
      go true e =
          told_review (reading (signature_of system) few cs (held _ e)) (review_reply A (signature_of system) (all_sides (listed_rules system)))
          (review_law A lawful system (review_reply A (signature_of system) (all_sides (listed_rules system))) refl)
      go false e = λ r. never _ (is_term_of (signature_of system) few r.term cs r.over_signature r.short r.coded) e

  -- so it says of every answer that is viewed as the definition's
  said_by : {X : Type 0} (f : X → State) (r : Result X OpenFault) → Said (viewed f r) → OpenTold A (signature_of system) (rules_of system) cs g.amount r
  said_by f (Ok x) h = h
  said_by f (Err (fault.Text e)) h = h
  said_by f (Err (fault.Certificate e)) h = h
  said_by f (Err (fault.Malformed e)) h = h
  said_by f (Err (fault.Review e)) h = h
  said_by f (Err (fault.Algebra e)) h = h
  said_by f (Err fault.BelowHeight) h = h

  pub open_told : {X : Type 0} (f : X → State) (r : Result X OpenFault) → viewed f r ≡ full_reply A (system_of system) cs g → OpenTold A (signature_of system) (rules_of system) cs g.amount r
  open_told f r e = said_by f r (subst Said (sym e) open_means)

  -- a fresh job's reserve lasts, where it covers the height
  pub fresh_lasts : Ok (fresh (system_of system) cs g) ≡ full_reply A (system_of system) cs g → Lasts (fresh (system_of system) cs g)
  fresh_lasts e ns u d =
      let c : Covered A (signature_of system) (rules_of system) cs g.amount = subst Said (sym e) open_means in
      let same : term_of (signature_of system) cs ≡ c.read.term = by_reading c.read in
      let l = c.bounded.lengths ns u (subst (λ t. Derivation (rules_of system) t ns u) same d) in
      let h = c.covered in
      omega arith
    where
      by_reading : (r : Reading (signature_of system) cs) → term_of (signature_of system) cs ≡ r.term
      by_reading r =
          let ok = is_term_of (signature_of system) few r.term cs r.over_signature r.short r.coded in
          r.only (term_of (signature_of system) cs) (counted_over (signature_of system) cs (counted (signature_of system) cs ok)) (counted_codes (signature_of system) cs (counted (signature_of system) cs ok))

-- an opening gives a fresh job
module _ (A : Meaning) (system : held.System) (cs : List ℕ) (g : Grant) (s : State) where
  by_height_fresh : (r : Result ℕ AlgebraFault) → Ok s ≡ by_height (system_of system) cs g r → s ≡ fresh (system_of system) cs g
  by_height_fresh (Ok h) e = go (ltb g.amount h) e
    where
      go : (b : Bool) → ◌≡◌ {A = Result State OpenFault} (Ok s) (cond b (Err fault.BelowHeight) (Ok (fresh (system_of system) cs g))) → s ≡ fresh (system_of system) cs g
      go true e = cc
      go false e = cc
  by_height_fresh (Err f) e = cc

  by_review_fresh : (r : Result (Unit {0}) ReviewFault) → Ok s ≡ by_review A (system_of system) cs g r → s ≡ fresh (system_of system) cs g
  by_review_fresh (Ok x) e = by_height_fresh (measured A (signature_of system) cs) e
  by_review_fresh (Err f) e = cc

  pub is_fresh : Ok s ≡ full_reply A (system_of system) cs g → s ≡ fresh (system_of system) cs g
  is_fresh e = go (is_term (signature_of system) cs) e
    where
      go : (b : Bool) → Ok s ≡ cond b (by_review A (system_of system) cs g (review_reply A (signature_of system) (all_sides (listed_rules system)))) (Err (fault.Malformed malformed.Term)) → s ≡ fresh (system_of system) cs g
      go true e = by_review_fresh (review_reply A (signature_of system) (all_sides (listed_rules system))) e
      go false e = cc
