-- Readings of a body that fit how values are written: what is read is what was written, and what is written is read.
use Rattle.std.proofs.Common.{◌≡◌, ℕ, zero, suc, ◌+◌, ◌≤◌, Bool, true, false, cond, ◌&&◌, List, [], ◌∷◌, ◌++◌, length, flat_map, All, Ok, Err, sym, refl, ap, ◌∙◌, subst, arith, length-append, append_assoc, leb}
use Rattle.std.specs.List.{AllZip}
use Rattle.std.proofs.lemmas.List.Elements.{All-nil, All-cons}
use Rattle.std.proofs.lemmas.Bool.{cond-true, and_parts, and_from, leb-true, le-leb}
use Rattle.encodings.specs.declared.flaw.RecordFlaw.TheVariants.{OutOfRange}
use Rattle.encodings.specs.Numbers.{IsByte}
use Rattle.encodings.specs.Bodies.{Body, Proper, Reply, then, flawed, both, byte_of, byte, ranged, each, times}

abbrev pub body : ℕ → ℕ → List ℕ → Body
body s at l = record { start = s; at = at; left = l }

pub All-head : {X : Type 0} (P : X → Type 0) (x : X) (xs : List X) → All P (x ∷ xs) → P x
All-head P x xs h = h 0 x (omega arith)

pub All-tail : {X : Type 0} (P : X → Type 0) (x : X) (xs : List X) → All P (x ∷ xs) → All P xs
All-tail P x xs h k d l = h (suc k) d (omega arith)

pub All-first : {X : Type 0} (P : X → Type 0) (xs ys : List X) → All P (xs ++ ys) → All P xs
All-first P [] ys h = All-nil P
All-first P (x ∷ xs) ys h = All-cons P x xs (All-head P x (xs ++ ys) h) (All-first P xs ys (All-tail P x (xs ++ ys) h))

pub All-second : {X : Type 0} (P : X → Type 0) (xs ys : List X) → All P (xs ++ ys) → All P ys
All-second P [] ys h = h
All-second P (x ∷ xs) ys h = All-second P xs ys (All-tail P x (xs ++ ys) h)

-- what is left behind a value
pub record Taken {X : Type 0} (write : X → List ℕ) (P : X → Type 0) (b : Body) (x : X) (c : Body) : Type 0 where
  pub formed : P x
  pub bytes : b.left ≡ write x ++ c.left
  pub start : c.start ≡ b.start
  pub at : c.at ≡ b.at + length (write x)

abbrev pub Fits : {X : Type 0} → (X → List ℕ) → (X → Type 0) → Body → Reply X → Type 0
Fits write P b (Ok r) = Taken write P b r.0 r.1
Fits write P b (Err e) = e.offset ≤ b.at + length b.left

pub record Exact {X : Type 0} (read : Body → Reply X) (write : X → List ℕ) (P : X → Type 0) : Type 0 where
  pub fits : (b : Body) → Proper b → Fits write P b (read b)
  pub whole : (x : X) → P x → (s at : ℕ) (rest : List ℕ) → read (body s at (write x ++ rest)) ≡ Ok (x, body s (at + length (write x)) rest)

pub proper_behind : {X : Type 0} {write : X → List ℕ} {P : X → Type 0} {b : Body} {x : X} {c : Body} → Proper b → Taken write P b x c → Proper c
proper_behind {write = write} {b = b} {x = x} {c = c} p t =
    let s = t.start in
    let a = t.at in
    let h = p.behind in
    record { behind = omega arith; bytes = All-second IsByte (write x) c.left (subst (All IsByte) t.bytes p.bytes) }

-- one byte
byte_fits : (s at : ℕ) (l : List ℕ) → Proper (body s at l) → Fits (λ v. v ∷ []) IsByte (body s at l) (byte_of s at l)
byte_fits s at [] p = let h = p.behind in omega arith
byte_fits s at (v ∷ l) p = record { formed = All-head IsByte v l p.bytes; bytes = refl; start = refl; at = refl }

pub byte_exact : Exact byte (λ v. v ∷ []) IsByte
byte_exact = record { fits = λ b p. byte_fits b.start b.at b.left p; whole = λ x h s at rest. refl }

-- a byte from a range
abbrev pub Within : ℕ → ℕ → ℕ → Type 0
Within low high v = (low ≤ v) × (v ≤ high)

module _ (low high : ℕ) where
  judged : (at : ℕ) (r : ℕ × Body) (b : Body) (t : Bool) → (leb low r.0 && leb r.0 high) ≡ t → b.at ≡ at → Taken (λ v. v ∷ []) IsByte b r.0 r.1
      → Fits (λ v. v ∷ []) (Within low high) b (cond t (Ok r) (flawed OutOfRange at))
  judged at r b true e a t =
      let p = and_parts (leb low r.0) (leb r.0 high) e in
      record { formed = (leb-true low r.0 p.0, leb-true r.0 high p.1); bytes = t.bytes; start = t.start; at = t.at }
  judged at r b false e a t = omega arith

  by_reply : (b : Body) (r : Reply ℕ) → Fits (λ v. v ∷ []) IsByte b r → Fits (λ v. v ∷ []) (Within low high) b (then r (λ r. cond (leb low r.0 && leb r.0 high) (Ok r) (flawed OutOfRange b.at)))
  by_reply b (Ok r) f = judged b.at r b (leb low r.0 && leb r.0 high) refl refl f
  by_reply b (Err e) f = f

  pub ranged_exact : Exact (ranged low high) (λ v. v ∷ []) (Within low high)
  ranged_exact = record {
    fits = λ b p. by_reply b (byte b) (byte_exact.fits b p);
    whole = λ x h s at rest. cond-true (leb low x && leb x high) _ _ (and_from (leb low x) (leb x high) (le-leb low x h.0) (le-leb x high h.1));
  }

-- two values, one behind the other
module _ {X Y Z : Type 0} {r : Body → Reply X} {q : Body → Reply Y} {v : X → List ℕ} {w : Y → List ℕ} {P : X → Type 0} {Q : Y → Type 0} (f : Exact r v P) (g : Exact q w Q)
    (pair : X → Y → Z) (write : Z → List ℕ) (R : Z → Type 0) (forms : (x : X) (y : Y) → P x → Q y → R (pair x y)) (writes : (x : X) (y : Y) → write (pair x y) ≡ v x ++ w y) where
  second : (b : Body) (x : X) (c : Body) → Taken v P b x c → (a : Reply Y) → Fits w Q c a → Fits write R b (then a (λ y. Ok (pair x y.0, y.1)))
  second b x c t (Ok y) u =
      let e = writes x y.0 in
      let l = length-append (v x) (w y.0) in
      let m = ap length e in
      let n = t.at in
      let o = u.at in
      record {
        formed = forms x y.0 t.formed u.formed;
        bytes = t.bytes ∙ ap (λ l. v x ++ l) u.bytes ∙ sym (append_assoc (v x) (w y.0) y.1.left) ∙ ap (λ l. l ++ y.1.left) (sym e);
        start = u.start ∙ t.start;
        at = omega arith;
      }
  second b x c t (Err e) u =
      let l = length-append (v x) c.left in
      let m = ap length t.bytes in
      let n = t.at in
      omega arith

  -- a first value in front of a reply
  abbrev put : X → Reply Y → Reply Z
  put x a = then a (λ y. Ok (pair x y.0, y.1))

  first : (b : Body) → Proper b → (a : Reply X) → Fits v P b a → Fits write R b (both pair a q)
  first b p (Ok x) t = second b x.0 x.1 t (q x.1) (g.fits x.1 (proper_behind p t))
  first b p (Err e) t = t

  pub both_fit : (b : Body) → Proper b → Fits write R b (both pair (r b) q)
  both_fit b p = first b p (r b) (f.fits b p)

  pub both_whole : (x : X) (y : Y) → P x → Q y → (s at : ℕ) (rest : List ℕ)
      → both pair (r (body s at (write (pair x y) ++ rest))) q ≡ Ok (pair x y, body s (at + length (write (pair x y))) rest)
  both_whole x y h k s at rest =
      let l = length-append (v x) (w y) in
      let m = ap length (writes x y) in
      let spot : at + length (v x) + length (w y) ≡ at + length (write (pair x y)) = omega arith in
      ap (λ l. both pair (r (body s at l)) q) (ap (λ l. l ++ rest) (writes x y) ∙ append_assoc (v x) (w y) rest)
      ∙ ap (λ a. both pair a q) (f.whole x h s at (w y ++ rest))
      ∙ ap (put x) (g.whole y k s (at + length (v x)) rest)
      ∙ ap (λ n. put x (Ok (y, body s n rest))) spot

-- one value in front of many
module _ {X : Type 0} {r : Body → Reply X} {q : Body → Reply (List X)} {write : X → List ℕ} {P : X → Type 0} {Q : List X → Type 0} (f : Exact r write P) (g : Exact q (flat_map write) Q)
    (R : List X → Type 0) (forms : (x : X) (xs : List X) → P x → Q xs → R (x ∷ xs)) (none : R [] → ⊥) (parts : (x : X) (xs : List X) → R (x ∷ xs) → P x × Q xs) where
  cons_whole : (xs : List X) → R xs → (s at : ℕ) (rest : List ℕ)
      → both (λ x xs. x ∷ xs) (r (body s at (flat_map write xs ++ rest))) q ≡ Ok (xs, body s (at + length (flat_map write xs)) rest)
  cons_whole [] h s at rest = absurd (none h)
  cons_whole (x ∷ xs) h s at rest = both_whole f g (λ x xs. x ∷ xs) (flat_map write) R forms (λ x xs. refl) x xs (parts x xs h).0 (parts x xs h).1 s at rest

  pub cons_exact : Exact (λ b. both (λ x xs. x ∷ xs) (r b) q) (flat_map write) R
  cons_exact = record { fits = both_fit f g (λ x xs. x ∷ xs) (flat_map write) R forms (λ x xs. refl); whole = cons_whole }

-- no value
module _ {X : Type 0} (write : X → List ℕ) (R : List X → Type 0) (forms : R []) (none : (x : X) (xs : List X) → R (x ∷ xs) → ⊥) where
  abbrev none_of : Body → Reply (List X)
  none_of b = Ok ([], b)

  nil_whole : (xs : List X) → R xs → (s at : ℕ) (rest : List ℕ) → none_of (body s at (flat_map write xs ++ rest)) ≡ Ok (xs, body s (at + length (flat_map write xs)) rest)
  nil_whole [] h s at rest = let e : at ≡ at + 0 = omega arith in ap (λ n. none_of (body s n rest)) e
  nil_whole (x ∷ xs) h s at rest = absurd (none x xs h)

  pub nil_exact : Exact none_of (flat_map write) R
  nil_exact = record { fits = λ b p. record { formed = forms; bytes = refl; start = refl; at = omega arith }; whole = nil_whole }

-- one value for each item of a list
module _ {A X : Type 0} {read : A → Body → Reply X} {write : X → List ℕ} {P : A → X → Type 0} (f : (a : A) → Exact (read a) write (P a)) where
  pub each_exact : (items : List A) → Exact (each read items) (flat_map write) (AllZip P items)
  unfolding each
  each_exact [] = nil_exact write (AllZip P []) tt (λ x xs h. h)
  each_exact (a ∷ items) = cons_exact (f a) (each_exact items) (AllZip P (a ∷ items)) (λ x xs h k. (h, k)) (λ h. h) (λ x xs h. (h.0, h.1))

-- as many values
abbrev pub Many : {X : Type 0} → (X → Type 0) → ℕ → List X → Type 0
Many P n xs = (length xs ≡ n) × All P xs

no_more : {X : Type 0} (P : X → Type 0) (x : X) (xs : List X) → Many P 0 (x ∷ xs) → ⊥
no_more P x xs h = let e = h.0 in omega arith

one_more : {X : Type 0} (P : X → Type 0) (n : ℕ) → Many P (suc n) [] → ⊥
one_more P n h = let e = h.0 in omega arith

one_fewer : {X : Type 0} (P : X → Type 0) (n : ℕ) (x : X) (xs : List X) → Many P (suc n) (x ∷ xs) → P x × Many P n xs
one_fewer P n x xs h =
    let e = h.0 in
    let long : length xs ≡ n = omega arith in
    (All-head P x xs h.1, (long, All-tail P x xs h.1))

module _ {X : Type 0} {read : Body → Reply X} {write : X → List ℕ} {P : X → Type 0} (f : Exact read write P) where
  pub times_exact : (n : ℕ) → Exact (times read n) (flat_map write) (Many P n)
  unfolding times
  times_exact zero = nil_exact write (Many P 0) (refl, All-nil P) (no_more P)
  times_exact (suc n) = cons_exact f (times_exact n) (Many P (suc n)) (λ x xs h k. (ap suc k.0, All-cons P x xs h k.1)) (one_more P n) (one_fewer P n)
