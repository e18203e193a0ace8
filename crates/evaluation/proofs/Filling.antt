-- Codes are read from the last to the first: what waits, and what the memory holds, before a code and after it.
use Rattle.std.proofs.Common.{◌≡◌, ℕ, ◌+◌, ◌<◌, ◌≤◌, Bool, true, false, cond, T, List, [], ◌∷◌, ◌++◌, length, drop, None, sym, refl, ap, ◌∙◌, subst, ap₂, append_assoc, append-nil, arith}
use Rattle.std.proofs.lemmas.List.{length_push, drop_at}
use Rattle.terms.specs.Codes.{arity, known, counts, is_term, stack}
use Rattle.terms.proofs.Booleans.{held as made}
use Rattle.terms.proofs.Readings.{reads}
use Rattle.terms.proofs.Views.{counted, counts-parts, drops}
use Rattle.evaluation.specs.declared.stack.Stack.{Stack}
use Rattle.evaluation.specs.Held.{held, room}
use Rattle.evaluation.specs.Subterms.{throughout_all}
use Rattle.evaluation.specs.Structures.{Structure, values, near, Every, applied, stepped}
use Rattle.evaluation.specs.Replies.{stored, evaluated, filled}
use Rattle.evaluation.proofs.Waiting.{length_values, every-near, values_next, near_next, near_lost}
use Rattle.evaluation.proofs.Evaluated.{evaluated_lost}

-- with the codes before still to be read, the values of the terms behind wait, and the memory is filled by them
pub record Behind {V : Type 0} (s : Structure V) (sig cs before : List ℕ) (first : List V) (w : Stack V) : Type 0 where
  pub behind : List ℕ
  pub whole : before ++ behind ≡ cs
  pub near : T (throughout_all (near s) (stack sig behind))
  pub waits : held w ≡ values s (stack sig behind)
  pub memory : w.slots.now ≡ filled s sig behind first
  pub free : length before ≤ room w

-- what a step asks
pub record Asked {V : Type 0} (s : Structure V) (sig : List ℕ) (c : ℕ) (w : Stack V) : Type 0 where
  pub known : T (known sig c)
  pub enough : arity sig c ≤ length (held w)
  pub tested : Every s.within (held w)
  pub some : 0 < room w

module _ {V : Type 0} (s : Structure V) (sig : List ℕ) where
  -- where a value is out of the bound, codes before it change nothing
  lost_before : (before cs : List ℕ) → throughout_all (near s) (stack sig cs) ≡ false → throughout_all (near s) (stack sig (before ++ cs)) ≡ false
  lost_before [] cs e = e
  lost_before (c ∷ before) cs e = near_lost s sig c (before ++ cs) (lost_before before cs e)

  filled_lost : (before cs : List ℕ) (m : List V) → throughout_all (near s) (stack sig cs) ≡ false → filled s sig (before ++ cs) m ≡ filled s sig cs m
  filled_lost [] cs m e = refl
  filled_lost (c ∷ before) cs m e =
      ap (λ b. cond b (stored (filled s sig (before ++ cs) m) (values s (stack sig (c ∷ before ++ cs)))) (filled s sig (before ++ cs) m)) (near_lost s sig c (before ++ cs) (lost_before before cs e))
      ∙ filled_lost before cs m e

module _ {V : Type 0} {s : Structure V} {sig cs : List ℕ} {first : List V} where
  pub none_read : (before : List ℕ) (w : Stack V) → before ≡ cs → held w ≡ [] → w.slots.now ≡ first → length cs ≤ room w → Behind s sig cs before first w
  none_read before w whole none same free =
      record { behind = []; whole = append-nil before ∙ whole; near = tt; waits = none; memory = same; free = (let e = ap length whole in omega arith) }

  module _ (ok : T (is_term sig cs)) {before : List ℕ} {w : Stack V} (r : Behind s sig cs before first w) (front : List ℕ) (c : ℕ) (last : before ≡ front ++ c ∷ []) where
    whole : front ++ (c ∷ r.behind) ≡ cs
    whole = sym (append_assoc front (c ∷ []) r.behind) ∙ ap (λ l. l ++ r.behind) (sym last) ∙ r.whole

    some_room : length front + 1 ≤ room w
    some_room = let n = length_push front c in let e = ap length last in let f = r.free in omega arith

    pub asked : Asked s sig c w
    asked =
        let d = drops sig cs 1 (length front) (counted sig cs ok) in
        let here : drop (length front) cs ≡ c ∷ r.behind = ap (drop (length front)) (sym whole) ∙ drop_at front (c ∷ r.behind) (length front) refl in
        let p = counts-parts sig d.0 c r.behind (subst (λ l. T (counts sig d.0 l)) here d.1) in
        let n = (reads sig r.behind (p.1.0 + arity sig c) p.1.1).many in
        let long = ap length r.waits ∙ length_values s (stack sig r.behind) in
        let free = some_room in
        record {
          known = p.0;
          enough = omega arith;
          tested = subst (λ l. Every s.within l) (sym r.waits) (every-near s (stack sig r.behind) r.near);
          some = omega arith;
        }

    -- the step was taken, or refused, as b says
    module _ {b : Bool} (v : Stack V) (done : b ≡ s.within (applied s sig c (held w))) (after : held v ≡ cond b (stepped s sig c (held w)) (held w))
        (memory : v.slots.now ≡ cond b (stored w.slots.now (stepped s sig c (held w))) w.slots.now) where
      near_now : throughout_all (near s) (stack sig (c ∷ r.behind)) ≡ b
      near_now = near_next s sig c r.behind r.near ∙ ap (λ l. s.within (applied s sig c l)) (sym r.waits) ∙ sym done

      filled_now : v.slots.now ≡ filled s sig (c ∷ r.behind) first
      filled_now =
          memory ∙ ap₂ (λ l f. cond b (stored f (stepped s sig c l)) f) r.waits r.memory
          ∙ ap₂ (λ x vs. cond x (stored (filled s sig r.behind first) vs) (filled s sig r.behind first)) (sym near_now) (sym (values_next s sig c r.behind))

      pub one_read : room w ≤ room v + 1 → b ≡ true → Behind s sig cs front first v
      one_read one t = record {
        behind = c ∷ r.behind;
        whole = whole;
        near = made _ (near_now ∙ t);
        waits = after ∙ ap (λ x. cond x (stepped s sig c (held w)) (held w)) t ∙ ap (stepped s sig c) r.waits ∙ sym (values_next s sig c r.behind);
        memory = filled_now;
        free = (let free = some_room in omega arith);
      }

      pub lost : b ≡ false → (places : ℕ) → length cs ≤ places → (None ≡ evaluated s sig cs places) × (v.slots.now ≡ filled s sig cs first)
      lost f places fits =
          let far : throughout_all (near s) (stack sig (c ∷ r.behind)) ≡ false = near_now ∙ f in (
            sym (evaluated_lost s sig cs places ok fits (subst (λ l. throughout_all (near s) (stack sig l) ≡ false) whole (lost_before s sig front (c ∷ r.behind) far))),
            filled_now ∙ sym (filled_lost s sig front (c ∷ r.behind) first far) ∙ ap (λ l. filled s sig l first) whole,
          )
