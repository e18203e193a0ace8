-- The law over runs, by what each call does.
use Rattle.std.proofs.Common.{◌≡◌, ℕ, zero, suc, ◌+◌, ◌<◌, ◌≤◌, Bool, true, false, cond, not, ◌||◌, List, [], ◌∷◌, ◌++◌, length, take, Some, sym, refl, ap, ◌∙◌, ap₂, arith}
use Rattle.std.specs.List.{All, Contains, filter, filter_map, cons_option, list_any, slice_get, zip}
use Rattle.std.specs.List.Sorted.{IsStrictlyIncreasing}
use Rattle.std.proofs.lemmas.Bool.{ne_eqb, not_from_false}
use Rattle.std.proofs.lemmas.List.{append_assoc, append-nil}
use Rattle.std.proofs.lemmas.List.Elements.{All-nil, All-cons, All-weaker, filter-append}
use Rattle.pools.specs.declared.grant.Grant.{Grant}
use Rattle.pools.specs.declared.ledger.PoolCall.{PoolCall}
use Rattle.pools.specs.declared.ledger.PoolCall.TheVariants.{Settle}
use Rattle.pools.specs.declared.ledger.PoolReply.{PoolReply}
use Rattle.pools.specs.Grants.{total, has_number, others}
use Rattle.pools.specs.Runs.{Ledger, performing, replies, after}
use Rattle.pools.specs.RunLaws.{Turn, grant_given, number_settled, is_settled, unsettled, numbers, Lawful}
use Rattle.pools.proofs.Places.{keeps}
use Rattle.pools.proofs.Effects as effects
use Rattle.pools.proofs.Settlings.{InOrder}
use Rattle.pools.proofs.Effects.{Effect, stays_in_order, effect, settled, same_size}

-- the calls of a run with their answers
abbrev turns : Ledger → List PoolCall → List Turn
turns l calls = zip calls (replies l calls)

length-replies : (l : Ledger) (calls : List PoolCall) → length (replies l calls) ≡ length calls
length-replies l [] = refl
length-replies l (c ∷ cs) = ap suc (length-replies (performing l c).1 cs)

take-turns : (k : ℕ) (l : Ledger) (calls : List PoolCall) → take k (turns l calls) ≡ turns l (take k calls)
take-turns zero l calls = refl
take-turns (suc k) l [] = refl
take-turns (suc k) l (c ∷ cs) = ap (λ ts. (c, (performing l c).0) ∷ ts) (take-turns k (performing l c).1 cs)

in_order_after : (l : Ledger) → InOrder l → (calls : List PoolCall) → InOrder (after l calls)
in_order_after l o [] = o
in_order_after l o (c ∷ cs) = in_order_after (performing l c).1 (stays_in_order l o c) cs

size_after : (l : Ledger) → InOrder l → (calls : List PoolCall) → (after l calls).pool.size ≡ l.pool.size
size_after l o [] = refl
size_after l o (c ∷ cs) = size_after (performing l c).1 (stays_in_order l o c) cs ∙ same_size l o c

-- the answer to a call is the one that it gets after the calls before it
reply_at : (l : Ledger) (calls : List PoolCall) (k : ℕ) (c : PoolCall) → slice_get calls k ≡ Some c → slice_get (replies l calls) k ≡ Some (performing (after l (take k calls)) c).0
reply_at l [] k c e = cc
reply_at l (x ∷ cs) zero c e = let same : x ≡ c = cc in ap (λ y. Some (performing l y).0) same
reply_at l (x ∷ cs) (suc k) c e = reply_at (performing l x).1 cs k c e

abbrev Above : ℕ → Grant → Type 0
Above n g = n < g.number

above_weaker : (n m : ℕ) → n ≤ m → (gs : List Grant) → All (Above m) gs → All (Above n) gs
above_weaker n m le gs = All-weaker (Above m) (Above n) (λ g h. omega arith) gs

increasing_cons : (a b : ℕ) (xs : List ℕ) → a < b → IsStrictlyIncreasing (b ∷ xs) → IsStrictlyIncreasing (a ∷ b ∷ xs)
increasing_cons a b xs lt h zero short = lt
increasing_cons a b xs lt h (suc k) short = let e : suc k + 1 ≡ suc (k + 1) = omega arith in rw e (h k (omega arith))

module _ {l m : Ledger} {c : PoolCall} {r : PoolReply} where
  higher_by : Effect l c r m → (gs : List Grant) → All (Above m.pool.last) gs → All (Above l.pool.last) (cons_option (grant_given (c, r)) gs)
  higher_by (effects.gives g e _ _ new last) gs h = rw e (All-cons (Above l.pool.last) g gs new (above_weaker _ _ (omega arith) gs h))
  higher_by (effects.returns n e _ _ _ last) gs h = rw e (above_weaker _ _ (omega arith) gs h)
  higher_by (effects.keeps e _ _ last) gs h = rw e (above_weaker _ _ (omega arith) gs h)

  increasing_by : Effect l c r m → (gs : List Grant) → IsStrictlyIncreasing (m.pool.last ∷ numbers gs) → IsStrictlyIncreasing (l.pool.last ∷ numbers (cons_option (grant_given (c, r)) gs))
  increasing_by (effects.gives g e _ _ new last) gs h = rw e (increasing_cons _ _ _ new (rw last at h))
  increasing_by (effects.returns n e _ _ _ last) gs h = rw e (rw last at h)
  increasing_by (effects.keeps e _ _ last) gs h = rw e (rw last at h)

higher : (l : Ledger) → InOrder l → (calls : List PoolCall) → All (Above l.pool.last) (filter_map grant_given (turns l calls))
higher l o [] = All-nil (Above l.pool.last)
higher l o (c ∷ cs) = higher_by (effect l o c) _ (higher (performing l c).1 (stays_in_order l o c) cs)

increasing : (l : Ledger) → InOrder l → (calls : List PoolCall) → IsStrictlyIncreasing (l.pool.last ∷ numbers (filter_map grant_given (turns l calls)))
increasing l o [] = λ k short. absurd (omega arith)
increasing l o (c ∷ cs) = increasing_by (effect l o c) _ (increasing (performing l c).1 (stays_in_order l o c) cs)

-- to leave out what passes one of two tests is to leave out what passes the one, then what passes the other
either : {X : Type 0} (p q : X → Bool) (xs : List X) → filter (λ x. not (p x || q x)) xs ≡ filter (λ x. not (q x)) (filter (λ x. not (p x)) xs)
either p q [] = refl
either p q (x ∷ xs) = by (p x) refl (either p q xs)
  where
    by : (b : Bool) → p x ≡ b → filter (λ x. not (p x || q x)) xs ≡ filter (λ x. not (q x)) (filter (λ x. not (p x)) xs)
        → filter (λ x. not (p x || q x)) (x ∷ xs) ≡ filter (λ x. not (q x)) (filter (λ x. not (p x)) (x ∷ xs))
    by true e same = rw e same
    by false e same = rw e (ap (λ l. cond (not (q x)) (x ∷ l) l) same)

-- grants without those of some numbers
abbrev left : List ℕ → List Grant → List Grant
left ns gs = filter (λ g. not (list_any (λ n. has_number n g) ns)) gs

-- no later grant has a number that is settled now
others_of_later : (n m : ℕ) → n ≤ m → (gs : List Grant) → All (Above m) gs → others n gs ≡ gs
others_of_later n m le gs h = keeps _ gs (λ k d short. let above = h k d short in not_from_false _ (ne_eqb _ _ (λ e. omega arith)))

module _ {l m : Ledger} {c : PoolCall} {r : PoolReply} where
  unsettled_by : Effect l c r m → (ts : List Turn) → All (Above m.pool.last) (filter_map grant_given ts) → unsettled m.out ts ≡ unsettled l.out ((c, r) ∷ ts)
  unsettled_by (effects.gives g e f out new last) ts h =
      let gs = filter_map grant_given ts in
      let ns = filter_map number_settled ts in
      let given : m.out ++ gs ≡ l.out ++ cons_option (grant_given (c, r)) gs = ap (λ l. l ++ gs) out ∙ append_assoc l.out (g ∷ []) gs ∙ sym (ap (λ o. l.out ++ cons_option o gs) e) in
      ap₂ left (sym (ap (λ o. cons_option o ns) f)) given
  unsettled_by (effects.returns n e f out low last) ts h =
      let gs = filter_map grant_given ts in
      let ns = filter_map number_settled ts in
      let later = others_of_later n m.pool.last (omega arith) gs h in
      let apart : others n (l.out ++ gs) ≡ m.out ++ gs = filter-append (λ g. not (has_number n g)) l.out gs ∙ ap₂ (λ (a b : List Grant). a ++ b) (sym out) later in
      ap (left ns) (sym apart) ∙ sym (either (has_number n) (λ g. list_any (λ n. has_number n g) ns) (l.out ++ gs))
      ∙ ap₂ left (sym (ap (λ o. cons_option o ns) f)) (sym (ap (λ o. l.out ++ cons_option o gs) e))
  unsettled_by (effects.keeps e f out last) ts h =
      let gs = filter_map grant_given ts in
      let ns = filter_map number_settled ts in
      ap₂ left (sym (ap (λ o. cons_option o ns) f)) (ap (λ l. l ++ gs) out ∙ sym (ap (λ o. l.out ++ cons_option o gs) e))

out_is : (l : Ledger) → InOrder l → (calls : List PoolCall) → (after l calls).out ≡ unsettled l.out (turns l calls)
out_is l o [] = sym (keeps (λ g. not (is_settled [] g)) (l.out ++ []) (λ k d h. refl) ∙ append-nil l.out)
out_is l o (c ∷ cs) =
    let m = (performing l c).1 in
    let p = stays_in_order l o c in
    out_is m p cs ∙ unsettled_by (effect l o c) (turns m cs) (higher m p cs)

balanced : (l : Ledger) → InOrder l → (calls : List PoolCall) → (after l calls).pool.free + total (unsettled l.out (turns l calls)) ≡ (after l calls).pool.size
balanced l o calls = let balance = (in_order_after l o calls).balanced in let out = out_is l o calls in rw (← out) (omega arith)

pub lawful : (l : Ledger) → InOrder l → (calls : List PoolCall) → Lawful l calls (replies l calls) (after l calls)
lawful l o calls =
    record {
      answered = length-replies l calls;
      balanced = balanced l o calls;
      throughout = λ k. rw (take-turns k l calls) (balanced l o (take k calls) ∙ size_after l o (take k calls));
      settled = λ k n e there.
          let out = out_is l o (take k calls) in
          let before = after l (take k calls) in
          let held : Contains (numbers before.out) n = rw (out, ← take-turns k l calls) there in
          reply_at l calls k (Settle n) e ∙ ap Some (settled before (in_order_after l o (take k calls)) n held);
      increasing = increasing l o calls;
      size = size_after l o calls;
    }
