-- A table filled with values that a body is read for, one after another.
use Rattle.std.proofs.Common.{◌≡◌, ℕ, zero, suc, ◌+◌, ◌≤◌, ◌<◌, List, [], ◌∷◌, ◌++◌, length, map, take, drop, get_or, set, replicate, Ok, Err, Result, sym, refl, ap, ap₂, ◌∙◌, arith, take-append-drop, length-append, append_assoc, append-nil, map-id, drop-cons, drop_of_length-le, length-take-le, take-suc, add-one}
use Rattle.std.proofs.lemmas.List.{length-map, set_at, map-append, take_all, length-replicate}
use Rattle.encodings.specs.declared.fault.CertificateFault.{CertificateFault}
use Rattle.encodings.specs.Bodies.{Body, Reply, mapped, both, each, times}
use Rattle.certificates.specs.Bodies.{taken}
use Rattle.certificates.specs.Tables.{placed}

-- what is read in parts, one behind the other
module _ {A X : Type 0} (read : A → Body → Reply X) where
  in_front : (r : Reply (List X)) → r ≡ mapped (λ v. [] ++ v) r
  in_front (Ok v) = refl
  in_front (Err e) = refl

  behind_one : (x : X) (r : Reply (List X)) (q : Body → Reply (List X)) → mapped (λ xs. x ∷ xs) (both (λ u v. u ++ v) r q) ≡ both (λ u v. u ++ v) (mapped (λ xs. x ∷ xs) r) q
  behind_one x (Err e) q = refl
  behind_one x (Ok u) q = go (q u.1)
    where
      go : (s : Reply (List X)) → mapped (λ xs. x ∷ xs) (mapped (λ v. u.0 ++ v) s) ≡ mapped (λ v. (x ∷ u.0) ++ v) s
      go (Ok v) = refl
      go (Err e) = refl

  by_first : (xs ys : List A) → ((b : Body) → each read (xs ++ ys) b ≡ both (λ u v. u ++ v) (each read xs b) (each read ys)) → (r : Reply X)
      → both (λ x xs. x ∷ xs) r (each read (xs ++ ys)) ≡ both (λ u v. u ++ v) (both (λ x xs. x ∷ xs) r (each read xs)) (each read ys)
  by_first xs ys h (Err e) = refl
  by_first xs ys h (Ok y) = ap (mapped (λ xs. y.0 ∷ xs)) (h y.1) ∙ behind_one y.0 (each read xs y.1) (each read ys)

  pub each-append : (xs ys : List A) (b : Body) → each read (xs ++ ys) b ≡ both (λ u v. u ++ v) (each read xs b) (each read ys)
  unfolding each
  each-append [] ys b = in_front (each read ys b)
  each-append (x ∷ xs) ys b = by_first xs ys (each-append xs ys) (read x b)

  one : (a : A) (b : Body) (r : Reply X) → read a b ≡ r → each read (a ∷ []) b ≡ mapped (λ x. x ∷ []) r
  unfolding each
  one a b r e = ap (λ r. both (λ x xs. x ∷ xs) r (each read [])) e ∙ single r
    where
      single : (r : Reply X) → both (λ x xs. x ∷ xs) r (λ b. Ok ([], b)) ≡ mapped (λ x. x ∷ []) r
      single (Ok x) = refl
      single (Err e) = refl

  -- one more, or a fault there
  pub one_more : (xs : List A) (a : A) (b c : Body) (done : List X) (r : Reply X) → each read xs b ≡ Ok (done, c) → read a c ≡ r → each read (xs ++ a ∷ []) b ≡ mapped (λ x. done ++ x ∷ []) r
  one_more xs a b c done r e f = each-append xs (a ∷ []) b ∙ ap (λ q. both (λ u v. u ++ v) q (each read (a ∷ []))) e ∙ ap (mapped (λ v. done ++ v)) (one a c r f) ∙ go r
    where
      go : (r : Reply X) → mapped (λ v. done ++ v) (mapped (λ x. x ∷ []) r) ≡ mapped (λ x. done ++ x ∷ []) r
      go (Ok x) = refl
      go (Err e) = refl

  pub stays : (xs ys : List A) (b : Body) (e : CertificateFault) → each read xs b ≡ Err e → each read (xs ++ ys) b ≡ Err e
  stays xs ys b e f = each-append xs ys b ∙ ap (λ q. both (λ u v. u ++ v) q (each read ys)) f

-- a value that was read and kept
pub record Kept {X Y : Type 0} (keep : X → Y) (r : Reply X) (y : Y) (d : Body) : Type 0 where
  pub value : X
  pub was : r ≡ Ok (value, d)
  pub is : y ≡ keep value

with_body : {X : Type 0} (x : X) {c d : Body} → c ≡ d → ◌≡◌ {A = Reply X} (Ok (x, c)) (Ok (x, d))
with_body x e = ap (λ d. Ok (x, d)) e

pub kept_from : {X Y : Type 0} (keep : X → Y) (r : Reply X) (y : Y) (d : Body) → Ok (y, d) ≡ mapped keep r → Kept keep r y d
kept_from {X} {Y} keep (Ok x) y d e =
    let p : ◌≡◌ {A = Y × Body} (y, d) (keep x.0, x.1) = cc in
    record { value = x.0; was = with_body x.0 (sym (ap (λ q. q.1) p)); is = ap (λ q. q.0) p }
kept_from keep (Err f) y d e = absurd cc

fault_from : {X Y : Type 0} (keep : X → Y) (r : Reply X) (e : CertificateFault) → Err e ≡ mapped keep r → r ≡ Err e
fault_from keep (Ok x) e h = absurd cc
fault_from keep (Err f) e h = let p : f ≡ e = cc in ap (λ f. Err f) p

abbrev units : ℕ → List (Unit {0})
units n = replicate n tt

units_long : (n : ℕ) → length (units n) ≡ n
units_long n = length-replicate n tt

-- as many values are one for each of as many items
pub times_is : {X : Type 0} (read : Body → Reply X) (n : ℕ) (b : Body) → times read n b ≡ each (λ (u : Unit {0}). read) (units n) b
unfolding each times
times_is read zero b = refl
times_is {X} read (suc n) b = by_first (read b) (times_is read n)
  where
    by_first : (r : Reply X) → ((b : Body) → times read n b ≡ each (λ (u : Unit {0}). read) (units n) b) → both (λ x xs. x ∷ xs) r (times read n) ≡ both (λ x xs. x ∷ xs) r (each (λ (u : Unit {0}). read) (units n))
    by_first (Ok x) h = ap (mapped (λ xs. x.0 ∷ xs)) (h x.1)
    by_first (Err e) h = refl

-- the first k values are read and stand in a table
module _ {A X Y : Type 0} (read : A → Body → Reply X) (keep : X → Y) (items : List A) (start : List Y) (b : Body) where
  pub record Filled (c : Body) (k : ℕ) (slots : List Y) : Type 0 where
    pub done : List X
    pub so_far : each read (take k items) b ≡ Ok (done, c)
    pub long : length done ≡ k
    pub slots_are : slots ≡ map keep done ++ drop k start

  pub starts : Filled b 0 start
  unfolding each
  starts = record { done = []; so_far = refl; long = refl; slots_are = refl }

  pub goes_on : {c d : Body} {k : ℕ} {slots : List Y} (none a : A) (y : Y) → Filled c k slots → k < length items → k < length start → get_or items k none ≡ a → Ok (y, d) ≡ mapped keep (read a c) → Filled d (k + 1) (set slots k y)
  goes_on {c} {d} {k} {slots} none a y f h i e r =
      let x = kept_from keep (read a c) y d r in
      let l = length-append f.done (x.value ∷ []) in
      let m = length-map f.done keep in
      let p = f.long in
      let q : length (map keep f.done) ≡ k = omega arith in
      record {
        done = f.done ++ x.value ∷ [];
        so_far = ap (λ xs. each read xs b) (ap (λ n. take n items) (add-one k) ∙ take-suc items k none h ∙ ap (λ a. take k items ++ a ∷ []) e) ∙ one_more read (take k items) a b c f.done (Ok (x.value, d)) f.so_far x.was;
        long = omega arith;
        slots_are = ap (λ s. set s k y) (f.slots_are ∙ ap (λ l. map keep f.done ++ l) (drop-cons start k y i))
            ∙ set_at (map keep f.done) _ (drop (suc k) start) y k q
            ∙ ap₂ (λ y n. map keep f.done ++ y ∷ drop n start) x.is (sym (add-one k))
            ∙ sym (append_assoc (map keep f.done) (keep x.value ∷ []) (drop (k + 1) start))
            ∙ ap (λ l. l ++ drop (k + 1) start) (sym (map-append keep f.done (x.value ∷ [])));
      }

  pub fails : {c : Body} {k : ℕ} {slots : List Y} (none a : A) (e : CertificateFault) → Filled c k slots → k < length items → get_or items k none ≡ a → Err e ≡ mapped keep (read a c) → each read items b ≡ Err e
  fails {c} {k} {slots} none a e f h i r =
      let cut : take k items ++ a ∷ drop (suc k) items ≡ items = ap (λ x. take k items ++ x ∷ drop (suc k) items) (sym i) ∙ ap (λ l. take k items ++ l) (sym (drop-cons items k none h)) ∙ take-append-drop k items in
      let first = one_more read (take k items) a b c f.done (Err e) f.so_far (fault_from keep (read a c) e r) in
      ap (λ xs. each read xs b) (sym cut ∙ sym (append_assoc (take k items) (a ∷ []) (drop (suc k) items))) ∙ stays read (take k items ++ a ∷ []) (drop (suc k) items) b e first

  pub ends : {c : Body} {k : ℕ} {slots : List Y} (f : Filled c k slots) → k ≡ length items → each read items b ≡ Ok (f.done, c)
  ends {c} {k} f e = ap (λ xs. each read xs b) (sym (take_all k items (omega arith))) ∙ f.so_far

  -- a table that is whole
  pub fails_with : {c : Body} {k : ℕ} {slots : List Y} (none a : A) (e : CertificateFault) → Filled c k slots → k < length items → get_or items k none ≡ a → Err e ≡ mapped keep (read a c) → {Z : Type 0} (as_kept : List X → Z)
      → Err e ≡ mapped as_kept (each read items b)
  fails_with none a e f h i r as_kept = ap (mapped as_kept) (sym (fails none a e f h i r))

  pub ends_with : {c : Body} {k : ℕ} {slots : List Y} → Filled c k slots → k ≡ length items → Ok (slots, c) ≡ mapped (λ xs. placed start (map keep xs)) (each read items b)
  ends_with {c} {k} {slots} f e =
      let l = length-map f.done keep in
      let m = f.long in
      let same : k ≡ length (map keep f.done) = omega arith in
      ap (λ s. given s c) (f.slots_are ∙ ap (λ k. map keep f.done ++ drop k start) same) ∙ ap (mapped (λ xs. placed start (map keep xs))) (sym (ends f e))
    where
      given : List Y → Body → Reply (List Y)
      given s c = Ok (s, c)

-- a table of four, of which n places are filled
module _ {X Y : Type 0} (read : Body → Reply X) (keep : X → Y) (n : ℕ) (table : List Y) (b : Body) where
  abbrev pub Partly : Body → ℕ → List Y → Type 0
  Partly = Filled (λ (u : Unit {0}). read) keep (units n) (take n table) b

  pub partly_starts : Partly b 0 (take n table)
  partly_starts = starts (λ (u : Unit {0}). read) keep (units n) (take n table) b

  pub partly_goes_on : {c d : Body} {k : ℕ} {slots : List Y} (y : Y) → Partly c k slots → n ≤ length table → k < length (take n table) → Ok (y, d) ≡ mapped keep (read c) → Partly d (k + 1) (set slots k y)
  partly_goes_on {k = k} y f w h r =
      let l = units_long n in
      let m = length-take-le n table w in
      goes_on (λ (u : Unit {0}). read) keep (units n) (take n table) b tt tt y f (omega arith) (omega arith) refl r

  pub partly_fails : {c : Body} {k : ℕ} {slots : List Y} (e : CertificateFault) → Partly c k slots → n ≤ length table → k < length (take n table) → Err e ≡ mapped keep (read c) → {Z : Type 0} (as_kept : List X → Z) → Err e ≡ mapped as_kept (times read n b)
  partly_fails {k = k} e f w h r as_kept =
      let l = units_long n in
      let m = length-take-le n table w in
      ap (mapped as_kept) (sym (fails (λ (u : Unit {0}). read) keep (units n) (take n table) b tt tt e f (omega arith) refl r) ∙ sym (times_is read n b))

  abbrev behind_of : List Y → Body → Reply (List Y)
  behind_of ys c = Ok (ys, c)

  pub partly_ends : {c : Body} {k : ℕ} {slots : List Y} → Partly c k slots → n ≤ length table → k ≡ length (take n table) → (as_kept : List X → List Y) → ((xs : List X) → placed table (map keep xs) ≡ as_kept xs) → Ok (slots ++ drop n table, c) ≡ mapped as_kept (times read n b)
  partly_ends {c} {k} {slots} f w e as_kept is =
      let l = units_long n in
      let m = length-take-le n table w in
      let o = length-map f.done keep in
      let p = f.long in
      let none : drop k (take n table) ≡ [] = drop_of_length-le (take n table) (omega arith) in
      let same : length (map keep f.done) ≡ n = omega arith in
      ap (λ l. behind_of (l ++ drop n table) c) (f.slots_are ∙ ap (λ l. map keep f.done ++ l) none ∙ append-nil (map keep f.done))
      ∙ ap (λ i. behind_of (map keep f.done ++ drop i table) c) (sym same)
      ∙ ap (λ l. behind_of l c) (is f.done)
      ∙ ap (mapped as_kept) (sym (ends (λ (u : Unit {0}). read) keep (units n) (take n table) b f (omega arith)) ∙ sym (times_is read n b))

-- values that are kept as they are
pub plain : {X : Type 0} (r : Reply X) → r ≡ mapped (λ x. x) r
plain (Ok x) = refl
plain (Err e) = refl

pub plainly : {X : Type 0} (table xs : List X) → placed table (map (λ x. x) xs) ≡ placed table xs
plainly table xs = ap (placed table) (map-id xs)

-- two values, one behind the other
pub both_err : {X Y Z : Type 0} (f : X → Y → Z) (e : CertificateFault) (r : Reply X) (q : Body → Reply Y) → Err e ≡ r → Err e ≡ both f r q
both_err f e r q h = ap (λ r. both f r q) h

pub both_ok : {X Y Z : Type 0} (f : X → Y → Z) (x : X) (c : Body) (r : Reply X) (q : Body → Reply Y) (s : Reply Y) → Ok (x, c) ≡ r → s ≡ q c → mapped (f x) s ≡ both f r q
both_ok f x c r q s h k = ap (mapped (f x)) k ∙ ap (λ r. both f r q) h

-- a fault that is passed on
pub failed : {X : Type 0} (r : Result X CertificateFault) (b : Body) (e : CertificateFault) (s : Reply X) → r ≡ Err e → Err e ≡ s → taken r b ≡ s
failed r b e s h k = ap (λ r. taken r b) h ∙ k
