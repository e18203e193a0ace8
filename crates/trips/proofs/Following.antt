-- A trip so far with what its visitor was shown, and one step further.
use Rattle.std.proofs.Common.{◌≡◌, ℕ, ◌+◌, ◌≤◌, Ok, Err, Some, Result, List, [], ◌∷◌, ◌++◌, length, map, sym, refl, ap, ◌∙◌, subst, arith, le_antisymm, length-append}
use Rattle.std.specs.Prelude.{⊤}
use Rattle.std.proofs.lemmas.Fn.{FoldsTo-push}
use Rattle.std.proofs.lemmas.List.{length-map}
use Rattle.terms.specs.Terms.{Term}
use Rattle.terms.specs.Rules.{Rule}
use Rattle.terms.specs.Steps.{Derivation, Derivation.done, Derivation.then, First}
use Rattle.terms.specs.Systems.{rules_of}
use Rattle.rewriting.specs.declared.fault.RewriteFault.{RewriteFault}
use Rattle.rewriting.specs.declared.fault.RewriteFault.TheVariants as fault
use Rattle.rewriting.specs.Laws.{Rewrites}
use Rattle.rewriting.proofs.Stepwise.{numbered_below, step_inside}
use Rattle.rewriting.specs.declared.subject.Subject.{Subject}
use Rattle.rewriting.specs.Subjects.{rules_in, term_in}
use Rattle.trips.specs.declared.End.{End}
use Rattle.trips.specs.Trips.{Advanced, most_steps, Ended, Reached, Followed}
use Rattle.trips.specs.Visits.{Leads, Shown, Visited}

-- a rewrite at the first redex can only fail for the next term's length
pub refused : {rules : List Rule} {t u : Term} {at n : ℕ} (e : RewriteFault) → First rules t at n → Rewrites rules t n at (Err e) u → Advanced rules t (Err e) u
refused fault.Malformed first r = absurd r.told
refused {rules} fault.NoRule first r =
    let low = numbered_below rules _ first.step.rule first.step.listed in
    let high = r.told.1 in
    absurd (omega arith)
refused {rules} {t} fault.NoPlace first r =
    let low = step_inside rules _ _ t first.next first.step in
    let high = r.told.1 in
    absurd (omega arith)
refused fault.NoMatch first r = absurd (r.told.1 first.next first.step)
refused {rules} {t} {u} {at} {n} fault.TooLong first r = (refl, r.told.0, (at, n, r.told.1.0, first, r.told.1.1, r.told.1.2))

abbrev numbers_of : List (ℕ × ℕ) → List ℕ
numbers_of = map (λ redex. redex.1)

-- steps at redexes are a derivation by their rules
derived : {rules : List Rule} {t u : Term} (redexes : List (ℕ × ℕ)) → Leads rules t redexes u → Derivation rules t (numbers_of redexes) u
derived {rules} {t} [] same = subst (λ y. Derivation rules t [] y) same done
derived (redex ∷ rest) l = then l.1.1 (derived rest l.2)

pub reached : {rules : List Rule} {t u : Term} (redexes : List (ℕ × ℕ)) → Leads rules t redexes u → Reached rules t u
reached redexes l = record { numbers = numbers_of redexes; derivation = derived redexes l }

module _ {V E : Type 0} (call : V → ℕ → ℕ → Result ⊤ E → V → Type 0) where
  pub record Following (s now : Subject) (v w : V) (steps : ℕ) : Type 0 where
    pub system : now.system ≡ s.system
    pub redexes : List (ℕ × ℕ)
    pub leads : Leads (rules_in s) (term_in s) redexes (term_in now)
    pub shown : Shown call v redexes w
    pub counted : length redexes ≡ steps

  pub all_made : {s now : Subject} {v w : V} {steps : ℕ} → Following s now v w steps → most_steps ≤ steps → steps ≤ most_steps → Following s now v w most_steps
  all_made {s} {now} {v} {w} f low high = subst (Following s now v w) (le_antisymm high low) f

  pub starts : (s : Subject) (v : V) → Following s s v v 0
  starts s v = record { system = refl; redexes = []; leads = refl; shown = refl; counted = refl }

module _ {V E : Type 0} {call : V → ℕ → ℕ → Result ⊤ E → V → Type 0} {s now : Subject} {v w : V} {steps : ℕ} (f : Following call s now v w steps) (after : Subject) (same : after.system ≡ now.system) where
  same_rules : rules_in now ≡ rules_in s
  same_rules = ap rules_of f.system

  pub leads_on : {at n : ℕ} → Advanced (rules_in now) (term_in now) (Ok (Some (at, n))) (term_in after) → Leads (rules_in s) (term_in s) (f.redexes ++ (at, n) ∷ []) (term_in after)
  leads_on {at} {n} a =
      let step = subst (λ rs. Advanced rs (term_in now) (Ok (Some (at, n))) (term_in after)) same_rules a in
      FoldsTo-push (λ t redex u. Advanced (rules_in s) t (Ok (Some redex)) u) _ f.redexes _ (at, n) _ f.leads step

  pub goes_on : {at n : ℕ} (x : V) → Advanced (rules_in now) (term_in now) (Ok (Some (at, n))) (term_in after) → call w at n (Ok tt) x → Following call s after v x (steps + 1)
  goes_on {at} {n} x a told =
      let l = length-append f.redexes ((at, n) ∷ []) in
      let c = f.counted in
      record {
        system = same ∙ f.system;
        redexes = f.redexes ++ (at, n) ∷ [];
        leads = leads_on a;
        shown = FoldsTo-push (λ v redex w. call v redex.0 redex.1 (Ok tt) w) v f.redexes w (at, n) x f.shown told;
        counted = omega arith;
      }

  -- the visitor answers a fault at the step
  pub stops : {at n : ℕ} (x : V) (e : E) → Advanced (rules_in now) (term_in now) (Ok (Some (at, n))) (term_in after) → call w at n (Err e) x → Visited call (rules_in s) (term_in s) v (Err e) (term_in after)
  stops {at} {n} x e a told = (f.redexes, at, n, w, x, leads_on a, f.shown, told)

  pub ends : (e : End) → Ended (rules_in now) (term_in now) steps e → term_in after ≡ term_in now → Followed (rules_in s) (term_in s) (record { end = e; steps = steps }) (term_in after)
  ends e x u =
      record {
        numbers = numbers_of f.redexes;
        derivation = subst (λ y. Derivation (rules_in s) (term_in s) (numbers_of f.redexes) y) (sym u) (derived f.redexes f.leads);
        counted = length-map f.redexes _ ∙ f.counted;
        ended = subst (λ y. Ended (rules_in s) y steps e) (sym u) (subst (λ rs. Ended rs (term_in now) steps e) same_rules x);
      }

  pub shows : (e : End) → term_in after ≡ term_in now → Visited call (rules_in s) (term_in s) v (Ok record { end = e; steps = steps }) (term_in after)
  shows e u = (f.redexes, w, subst (λ y. Leads (rules_in s) (term_in s) f.redexes y) (sym u) f.leads, f.shown, f.counted)
