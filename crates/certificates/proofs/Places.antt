-- Records in their places.
use Rattle.std.proofs.Common.{◌≡◌, ℕ, suc, ◌+◌, ◌-◌, ◌*◌, ◌<◌, ◌≤◌, Bool, true, false, ◌&&◌, List, [], ◌∷◌, length, take, drop, get_or, All, Ok, Result, sym, refl, ap, ap₂, ◌∙◌, arith, leb, drop-drop, get_or-drop, take-append-drop, length-drop, length-take-le}
use Rattle.std.proofs.lemmas.List.{drop-take}
use Rattle.std.proofs.lemmas.List.Elements.{All-take, All-drop}
use Rattle.std.proofs.lemmas.Bool.{cond-true, cond-false, and_from, le-leb, lt-leb}
use Rattle.encodings.specs.declared.flaw.RecordFlaw.TheVariants.{CutShort}
use Rattle.encodings.specs.declared.fault.CertificateFault.{CertificateFault}
use Rattle.encodings.specs.Numbers.{IsByte}
use Rattle.encodings.specs.Frames.{Frame, Frames, Frames.framed, word_at, body_length, is_whole, first_frame, frames}
use Rattle.encodings.specs.Bodies.{flawed}
use Rattle.encodings.proofs.Cutting.{passed}
use Rattle.certificates.specs.Readers.{first}

-- fewer than four bytes
short_head : (at : ℕ) (l : List ℕ) → length l < 4 → flawed CutShort at ≡ first (frames 0 at l)
unfolding frames
short_head at [] h = refl
short_head at (a ∷ []) h = refl
short_head at (a ∷ (b ∷ [])) h = refl
short_head at (a ∷ (b ∷ (c ∷ []))) h = refl
short_head at (a ∷ (b ∷ (c ∷ (d ∷ l)))) h = absurd (omega arith)

-- a body that is cut short
short_body : (at : ℕ) (l : List ℕ) → 4 ≤ length l → length l < 4 + body_length l → flawed CutShort at ≡ first (frames 0 at l)
unfolding frames
short_body at [] h k = refl
short_body at (a ∷ l) h k = sym (ap first (cond-false (is_whole (a ∷ l)) _ _ (no_body (leb 4 (length (a ∷ l))))))
  where
    no_body : (t : Bool) → (t && leb (4 + body_length (a ∷ l)) (length (a ∷ l))) ≡ false
    no_body true = lt-leb (4 + body_length (a ∷ l)) (length (a ∷ l)) k
    no_body false = refl

-- a whole record, and what stands behind it
whole_frame : (at : ℕ) (l : List ℕ) (n : ℕ) → n ≡ body_length l → 4 + n ≤ length l → frames 0 at l ≡ framed (first_frame at l) (frames 0 (at + 4 + n) (drop (4 + n) l))
unfolding frames
whole_frame at [] n e h = absurd (omega arith)
whole_frame at (a ∷ l) n e h =
    let fits : is_whole (a ∷ l) ≡ true = and_from (leb 4 (length (a ∷ l))) (leb (4 + body_length (a ∷ l)) (length (a ∷ l))) (le-leb 4 (length (a ∷ l)) (omega arith)) (le-leb (4 + body_length (a ∷ l)) (length (a ∷ l)) (omega arith)) in
    let long : length (take (3 + n) l) ≡ 3 + n = length-take-le (3 + n) l (omega arith) in
    let same : 3 + body_length (a ∷ l) ≡ length (take (3 + n) l) = omega arith in
    let spot : at + 1 + length (take (3 + n) l) ≡ at + 4 + n = omega arith in
    let four : suc (3 + n) ≡ 4 + n = omega arith in
    cond-true (is_whole (a ∷ l)) _ _ fits
    ∙ ap (framed (first_frame at (a ∷ l)))
    (ap₂ (λ k l. frames k (at + 1) l) same (sym (take-append-drop (3 + n) l)) ∙ passed (at + 1) (take (3 + n) l) (drop (3 + n) l) ∙ ap₂ (λ i l. frames 0 i l) spot (ap (λ k. drop k (a ∷ l)) four))

module _ (bytes : List ℕ) (at : ℕ) (inside : at ≤ length bytes) where
  word_here : (i j : ℕ) → at + i ≡ j → word_at (drop at bytes) i ≡ word_at bytes j
  word_here i j e =
      let f : at + (i + 1) ≡ j + 1 = omega arith in
      ap₂ (λ x y. x + 256 * y) (get_or-drop at bytes i 0 ∙ ap (λ k. get_or bytes k 0) e) (get_or-drop at bytes (i + 1) 0 ∙ ap (λ k. get_or bytes k 0) f)

  pub cut_head : length bytes - at < 4 → flawed CutShort at ≡ first (frames 0 at (drop at bytes))
  cut_head h = let l = length-drop at bytes in short_head at (drop at bytes) (omega arith)

  pub cut_body : (n : ℕ) → n ≡ word_at bytes at → 4 ≤ length bytes - at → length bytes - at - 4 < n → flawed CutShort at ≡ first (frames 0 at (drop at bytes))
  cut_body n e h k =
      let l = length-drop at bytes in
      let w = word_here 0 at (omega arith) in
      short_body at (drop at bytes) (omega arith) (omega arith)

  pub whole_record : (n kind : ℕ) → n ≡ word_at bytes at → kind ≡ word_at bytes (at + 2) → 4 ≤ length bytes - at → n ≤ length bytes - at - 4
      → Ok (record { at = at; kind = kind; body = drop (at + 4) (take (at + 4 + n) bytes) }, frames 0 (at + 4 + n) (drop (at + 4 + n) bytes)) ≡ first (frames 0 at (drop at bytes))
  whole_record n kind e f h k =
      let l = length-drop at bytes in
      let w = word_here 0 at (omega arith) in
      let v = word_here 2 (at + 2) (omega arith) in
      let spot : at + 4 + n ≡ at + (4 + n) = omega arith in
      let body : drop (at + 4) (take (at + 4 + n) bytes) ≡ take (body_length (drop at bytes)) (drop 4 (drop at bytes)) = drop-take (at + 4) n bytes ∙ ap₂ (λ k l. take k l) (e ∙ sym w) (sym (drop-drop 4 at bytes)) in
      let rest : drop (at + 4 + n) bytes ≡ drop (4 + n) (drop at bytes) = ap (λ k. drop k bytes) spot ∙ sym (drop-drop (4 + n) at bytes) in
      found kind (word_at (drop at bytes) 2) _ _ _ _ (f ∙ sym v) body rest
      ∙ ap first (sym (whole_frame at (drop at bytes) n (e ∙ sym w) (omega arith)))
    where
      found : (k m : ℕ) (xs ys us vs : List ℕ) → k ≡ m → xs ≡ ys → us ≡ vs
          → ◌≡◌ {A = Result (Frame × Frames) CertificateFault} (Ok (record { at = at; kind = k; body = xs }, frames 0 (at + 4 + n) us)) (Ok (record { at = at; kind = m; body = ys }, frames 0 (at + 4 + n) vs))
      found k m xs ys us vs p q r = cc

  pub body_bytes : (n : ℕ) → All IsByte bytes → All IsByte (drop (at + 4) (take (at + 4 + n) bytes))
  body_bytes n h = All-drop IsByte (at + 4) (take (at + 4 + n) bytes) (All-take IsByte (at + 4 + n) bytes h)
