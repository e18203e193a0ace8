-- Bytes are cut into records as records are written.
use Rattle.std.proofs.Common.{◌≡◌, ℕ, suc, ◌+◌, ◌*◌, ◌/◌, ◌%◌, ◌≤◌, ◌⊎◌, Bool, true, false, List, [], ◌∷◌, ◌++◌, length, take, drop, All, inl, inr, sym, refl, ap, ap₂, ◌∙◌, arith, leb, take_at, take-append-drop, length-append, length-take-le}
use Rattle.std.proofs.lemmas.Bool.{cond-true, cond-false, and_parts, and_from, leb-true, le-leb}
use Rattle.encodings.specs.Numbers.{IsByte}
use Rattle.encodings.specs.Encoding.{word, record_bytes}
use Rattle.encodings.specs.Frames.{Frames.cut, Frames.framed, word_at, body_length, is_whole, frames}
use Rattle.encodings.proofs.Exact.{All-head, All-tail}

-- bytes of a record before them are passed
pub passed : (at : ℕ) (xs bs : List ℕ) → frames (length xs) at (xs ++ bs) ≡ frames 0 (at + length xs) bs
unfolding frames
passed at [] bs = let e : at ≡ at + 0 = omega arith in ap (λ n. frames 0 n bs) e
passed at (x ∷ xs) bs = let e : at + 1 + length xs ≡ at + length (x ∷ xs) = omega arith in passed (at + 1) xs bs ∙ ap (λ n. frames 0 n bs) e

-- a record that is written is the first that is cut off
pub frame_read : (at kind : ℕ) (b rest : List ℕ) → frames 0 at (record_bytes kind b ++ rest) ≡ framed record { at = at; kind = kind; body = b } (frames 0 (at + length (record_bytes kind b)) rest)
unfolding frames
frame_read at kind b rest =
    let n = length b in
    let tail = n / 256 ∷ (kind % 256 ∷ (kind / 256 ∷ (b ++ rest))) in
    let bytes = n % 256 ∷ tail in
    let long : body_length bytes ≡ n = omega arith in
    let sort : word_at bytes 2 ≡ kind = omega arith in
    let l = length-append b rest in
    let whole : is_whole bytes ≡ true = and_from (leb 4 (length bytes)) (leb (4 + body_length bytes) (length bytes)) (le-leb 4 (length bytes) (omega arith)) (le-leb (4 + body_length bytes) (length bytes) (omega arith)) in
    let inside : take (body_length bytes) (b ++ rest) ≡ b = ap (λ k. take k (b ++ rest)) long ∙ take_at b rest n refl in
    let three : 3 + body_length bytes ≡ suc (suc (suc n)) = omega arith in
    let spot : at + 1 + 1 + 1 + 1 + n ≡ at + length (record_bytes kind b) = omega arith in
    cond-true (is_whole bytes) _ _ whole
    ∙ ap₂ framed (ap₂ (λ k c. record { at = at; kind = k; body = c }) sort inside) (ap (λ k. frames k (at + 1) tail) three ∙ passed (at + 1 + 1 + 1 + 1) b rest ∙ ap (λ n. frames 0 n rest) spot)

-- bytes are none, or cut short, or begin with a record
pub record First (bytes : List ℕ) : Type 0 where
  pub kind : ℕ
  pub body : List ℕ
  pub rest : List ℕ
  pub whole : bytes ≡ record_bytes kind body ++ rest

abbrev pub Cutting : ℕ → List ℕ → Type 0
Cutting at bytes = (bytes ≡ []) ⊎ ((frames 0 at bytes ≡ cut at) ⊎ First bytes)

written : (a b c d : ℕ) (l : List ℕ) → a ≤ 255 → b ≤ 255 → c ≤ 255 → d ≤ 255 → a + 256 * b ≤ length l → First (a ∷ (b ∷ (c ∷ (d ∷ l))))
written a b c d l ha hb hc hd h =
    let n = a + 256 * b in
    let k = c + 256 * d in
    let e : length (take n l) ≡ n = length-take-le n l h in
    let ea : a ≡ length (take n l) % 256 = omega arith in
    let eb : b ≡ length (take n l) / 256 = omega arith in
    let ec : c ≡ k % 256 = omega arith in
    let ed : d ≡ k / 256 = omega arith in
    record {
      kind = k;
      body = take n l;
      rest = drop n l;
      whole = ap₂ (λ x y. x ∷ (y ∷ (c ∷ (d ∷ l)))) ea eb ∙ ap₂ (λ x y. length (take n l) % 256 ∷ (length (take n l) / 256 ∷ (x ∷ (y ∷ l)))) ec ed ∙ ap (λ m. word (length (take n l)) ++ (word k ++ m)) (sym (take-append-drop n l));
    }

by_length : (at a b c d : ℕ) (l : List ℕ) → a ≤ 255 → b ≤ 255 → c ≤ 255 → d ≤ 255 → (t : Bool) → is_whole (a ∷ (b ∷ (c ∷ (d ∷ l)))) ≡ t → Cutting at (a ∷ (b ∷ (c ∷ (d ∷ l))))
unfolding frames
by_length at a b c d l ha hb hc hd true e =
    let bytes = a ∷ (b ∷ (c ∷ (d ∷ l))) in
    let p = leb-true (4 + body_length bytes) (length bytes) (and_parts (leb 4 (length bytes)) (leb (4 + body_length bytes) (length bytes)) e).1 in
    inr (inr (written a b c d l ha hb hc hd (omega arith)))
by_length at a b c d l ha hb hc hd false e = inr (inl (cond-false (is_whole (a ∷ (b ∷ (c ∷ (d ∷ l))))) _ _ e))

pub cutting : (at : ℕ) (bytes : List ℕ) → All IsByte bytes → Cutting at bytes
unfolding frames
cutting at [] h = inl refl
cutting at (a ∷ []) h = inr (inl refl)
cutting at (a ∷ (b ∷ [])) h = inr (inl refl)
cutting at (a ∷ (b ∷ (c ∷ []))) h = inr (inl refl)
cutting at (a ∷ (b ∷ (c ∷ (d ∷ l)))) h =
    let h1 = All-tail IsByte a (b ∷ (c ∷ (d ∷ l))) h in
    let h2 = All-tail IsByte b (c ∷ (d ∷ l)) h1 in
    let h3 = All-tail IsByte c (d ∷ l) h2 in
    by_length at a b c d l (All-head IsByte a (b ∷ (c ∷ (d ∷ l))) h) (All-head IsByte b (c ∷ (d ∷ l)) h1) (All-head IsByte c (d ∷ l) h2) (All-head IsByte d l h3) (is_whole (a ∷ (b ∷ (c ∷ (d ∷ l))))) refl
