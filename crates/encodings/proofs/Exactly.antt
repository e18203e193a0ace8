-- A certificate is read as parts exactly if it is how they are written.
use Rattle.std.proofs.Common.{◌≡◌, ℕ, zero, suc, ◌+◌, ◌≤◌, Bool, true, false, cond, List, [], ◌∷◌, ◌++◌, length, flat_map, All, Ok, Err, Result, inl, inr, sym, refl, ap, ◌∙◌, subst, arith, eqb, eqb-true, length-append}
use Rattle.std.proofs.lemmas.List.Elements.{All-nil, All-cons}
use Rattle.encodings.specs.declared.flaw.RecordFlaw.TheVariants.{WrongKind}
use Rattle.encodings.specs.declared.fault.CertificateFault.{CertificateFault}
use Rattle.encodings.specs.Numbers.{Numbers, Numbers.linear, Numbers.matrix, IsByte, Formed}
use Rattle.encodings.specs.Encoding.{record_bytes, body_bytes, kind_of, part_bytes, encoded}
use Rattle.encodings.specs.Frames.{Frames, Frames.framed, frames}
use Rattle.encodings.specs.Bodies.{Proper, then, flawed, header_reply, linear_reply, matrix_reply}
use Rattle.encodings.specs.Reading.{Awaited.header, Awaited.part, Awaited.end, Move, awaiting, part_move, read, certificate_reply}
use Rattle.encodings.specs.Laws.{Certified, Told, CertificateExactly}
use Rattle.encodings.proofs.Exact.{body, Within, All-head, All-tail, All-first, All-second}
use Rattle.encodings.proofs.Bodies.{Ends}
use Rattle.encodings.proofs.Records.{Of, header_fits, header_whole, linear_fits, linear_whole, matrix_fits, matrix_whole}
use Rattle.encodings.proofs.Cutting.{frame_read, cutting}

module _ (sig : List ℕ) where
  -- so many parts, to the end of the bytes
  abbrev Parts : ℕ → ℕ → List ℕ → Result (List Numbers) CertificateFault → Type 0
  Parts n at bytes (Ok ps) = (length ps ≡ n) × All (Formed sig) ps × (bytes ≡ flat_map part_bytes ps)
  Parts n at bytes (Err e) = e.offset ≤ at + length bytes

  -- a move, and what is read behind it
  abbrev onward : Frames → Result Move CertificateFault → Result (List Numbers) CertificateFault
  onward fs a = then a (λ m. then (read sig m.next fs) (λ ps. Ok (m.parts ++ ps)))

  abbrev kept : ℕ → Result Numbers CertificateFault → Result Move CertificateFault
  kept n a = then a (λ p. Ok record { parts = p ∷ []; next = awaiting n })

  added : (n at kind : ℕ) (b rest : List ℕ) (p : Numbers) → Of sig kind p → b ≡ body_bytes p → (r : Result (List Numbers) CertificateFault) → Parts n (at + length (record_bytes kind b)) rest r
      → Parts (suc n) at (record_bytes kind b ++ rest) (then r (λ ps. Ok (p ∷ ps)))
  added n at kind b rest p o e (Ok ps) h =
      let same : record_bytes kind b ≡ part_bytes p = ap (record_bytes kind) e ∙ ap (λ k. record_bytes k (body_bytes p)) (sym o.1) in
      (ap suc h.0, All-cons (Formed sig) p ps o.0 h.1, ap (λ l. l ++ rest) same ∙ ap (λ l. part_bytes p ++ l) h.2)
  added n at kind b rest p o e (Err f) h = let l = length-append (record_bytes kind b) rest in omega arith

  one_part : (n at kind : ℕ) (b rest : List ℕ) (a : Result Numbers CertificateFault) → Ends body_bytes (Of sig kind) (body at (at + 4) b) a
      → Parts n (at + length (record_bytes kind b)) rest (read sig (awaiting n) (frames 0 (at + length (record_bytes kind b)) rest))
      → Parts (suc n) at (record_bytes kind b ++ rest) (onward (frames 0 (at + length (record_bytes kind b)) rest) (kept n a))
  one_part n at kind b rest (Ok p) o h = added n at kind b rest p o.0 o.1 (read sig (awaiting n) (frames 0 (at + length (record_bytes kind b)) rest)) h
  one_part n at kind b rest (Err e) o h = let l = length-append (record_bytes kind b) rest in omega arith

  proper : (at kind : ℕ) (b rest : List ℕ) → All IsByte (record_bytes kind b ++ rest) → Proper (body at (at + 4) b)
  proper at kind b rest h =
      record { behind = omega arith; bytes = λ k d l. inside k d l }
    where
      inside : All IsByte b
      inside = All-first IsByte b rest (λ k d l. h (suc (suc (suc (suc k)))) d (omega arith))

  by_kind : (n at kind : ℕ) (b rest : List ℕ) → Proper (body at (at + 4) b)
      → Parts n (at + length (record_bytes kind b)) rest (read sig (awaiting n) (frames 0 (at + length (record_bytes kind b)) rest))
      → (t u : Bool) → eqb kind 16 ≡ t → eqb kind 17 ≡ u
      → Parts (suc n) at (record_bytes kind b ++ rest)
      (onward (frames 0 (at + length (record_bytes kind b)) rest) (cond t (kept n (linear_reply sig (body at (at + 4) b))) (cond u (kept n (matrix_reply sig (body at (at + 4) b))) (flawed WrongKind at))))
  by_kind n at kind b rest p h true u e f =
      one_part n at kind b rest (linear_reply sig (body at (at + 4) b)) (subst (λ k. Ends body_bytes (Of sig k) (body at (at + 4) b) (linear_reply sig (body at (at + 4) b))) (sym (eqb-true kind 16 e)) (linear_fits sig (body at (at + 4) b) p)) h
  by_kind n at kind b rest p h false true e f =
      one_part n at kind b rest (matrix_reply sig (body at (at + 4) b)) (subst (λ k. Ends body_bytes (Of sig k) (body at (at + 4) b) (matrix_reply sig (body at (at + 4) b))) (sym (eqb-true kind 17 f)) (matrix_fits sig (body at (at + 4) b) p)) h
  by_kind n at kind b rest p h false false e f = omega arith

  told_parts : (n at : ℕ) (bytes : List ℕ) → All IsByte bytes → Parts n at bytes (read sig (awaiting n) (frames 0 at bytes))
  unfolding frames read
  told_parts zero at bytes h = elim (cutting at bytes h) [
    | inl e ↦ subst (λ l. Parts 0 at l (read sig end (frames 0 at l))) (sym e) (refl, All-nil (Formed sig), refl)
    | inr o ↦ elim o [
      | inl e ↦ subst (λ fs. Parts 0 at bytes (read sig end fs)) (sym e) (omega arith)
      | inr f ↦ subst (λ l. Parts 0 at l (read sig end (frames 0 at l))) (sym f.whole) (subst (λ fs. Parts 0 at (record_bytes f.kind f.body ++ f.rest) (read sig end fs)) (sym (frame_read at f.kind f.body f.rest)) (omega arith))
    ]
  ]
  told_parts (suc n) at bytes h = elim (cutting at bytes h) [
    | inl e ↦ subst (λ l. Parts (suc n) at l (read sig (part n) (frames 0 at l))) (sym e) (omega arith)
    | inr o ↦ elim o [
      | inl e ↦ subst (λ fs. Parts (suc n) at bytes (read sig (part n) fs)) (sym e) (omega arith)
      | inr f ↦
          let g = subst (All IsByte) f.whole h in
          let again = told_parts n (at + length (record_bytes f.kind f.body)) f.rest (All-second IsByte (record_bytes f.kind f.body) f.rest g) in
          subst (λ l. Parts (suc n) at l (read sig (part n) (frames 0 at l))) (sym f.whole)
          (subst (λ fs. Parts (suc n) at (record_bytes f.kind f.body ++ f.rest) (read sig (part n) fs)) (sym (frame_read at f.kind f.body f.rest))
          (by_kind n at f.kind f.body f.rest (proper at f.kind f.body f.rest g) again (eqb f.kind 16) (eqb f.kind 17) refl refl))
    ]
  ]

  -- the header in front
  at_front : (kind : ℕ) (b rest : List ℕ) → frames 0 0 (record_bytes kind b ++ rest) ≡ framed record { at = 0; kind = kind; body = b } (frames 0 (length (record_bytes kind b)) rest)
  at_front kind b rest =
      let e : 0 + length (record_bytes kind b) ≡ length (record_bytes kind b) = omega arith in
      frame_read 0 kind b rest ∙ ap (λ n. framed record { at = 0; kind = kind; body = b } (frames 0 n rest)) e

  headed : (b rest : List ℕ) (n : ℕ) → Within 1 4 n → b ≡ n ∷ (length sig ∷ []) → (r : Result (List Numbers) CertificateFault) → Parts n (length (record_bytes 1 b)) rest r → Told sig (record_bytes 1 b ++ rest) (then r (λ ps. Ok ps))
  headed b rest n w e (Ok ps) h =
      let k = h.0 in
      let same : b ≡ length ps ∷ (length sig ∷ []) = e ∙ ap (λ n. n ∷ (length sig ∷ [])) (sym k) in
      (record { some = omega arith; few = omega arith; formed = h.1 }, ap (λ l. record_bytes 1 l ++ rest) same ∙ ap (λ l. record_bytes 1 (length ps ∷ (length sig ∷ [])) ++ l) h.2)
  headed b rest n w e (Err f) h = let l = length-append (record_bytes 1 b) rest in omega arith

  by_header : (b rest : List ℕ) → All IsByte rest → (a : Result ℕ CertificateFault) → Ends (λ n. n ∷ (length sig ∷ [])) (Within 1 4) (body 0 4 b) a
      → Told sig (record_bytes 1 b ++ rest) (onward (frames 0 (length (record_bytes 1 b)) rest) (then a (λ n. Ok record { parts = []; next = awaiting n })))
  by_header b rest h (Ok n) o = headed b rest n o.0 o.1 (read sig (awaiting n) (frames 0 (length (record_bytes 1 b)) rest)) (told_parts n (length (record_bytes 1 b)) rest h)
  by_header b rest h (Err e) o = let l = length-append (record_bytes 1 b) rest in omega arith

  first_kind : (kind : ℕ) (b rest : List ℕ) → Proper (body 0 4 b) → All IsByte rest → (t : Bool) → eqb kind 1 ≡ t
      → Told sig (record_bytes kind b ++ rest) (onward (frames 0 (length (record_bytes kind b)) rest) (cond t (then (header_reply sig (body 0 4 b)) (λ n. Ok record { parts = []; next = awaiting n })) (flawed WrongKind 0)))
  first_kind kind b rest p h true e =
      subst (λ k. Told sig (record_bytes k b ++ rest) (onward (frames 0 (length (record_bytes kind b)) rest) (then (header_reply sig (body 0 4 b)) (λ n. Ok record { parts = []; next = awaiting n })))) (sym (eqb-true kind 1 e))
      (by_header b rest h (header_reply sig (body 0 4 b)) (header_fits sig (body 0 4 b) p))
  first_kind kind b rest p h false e = omega arith

  told : (bytes : List ℕ) → All IsByte bytes → Told sig bytes (certificate_reply sig bytes)
  unfolding frames read
  told bytes h = elim (cutting 0 bytes h) [
    | inl e ↦ subst (λ l. Told sig l (read sig header (frames 0 0 l))) (sym e) (omega arith)
    | inr o ↦ elim o [
      | inl e ↦ subst (λ fs. Told sig bytes (read sig header fs)) (sym e) (omega arith)
      | inr f ↦
          let g = subst (All IsByte) f.whole h in
          subst (λ l. Told sig l (read sig header (frames 0 0 l))) (sym f.whole)
          (subst (λ fs. Told sig (record_bytes f.kind f.body ++ f.rest) (read sig header fs)) (sym (at_front f.kind f.body f.rest))
          (first_kind f.kind f.body f.rest (proper 0 f.kind f.body f.rest g) (All-second IsByte (record_bytes f.kind f.body) f.rest g) (eqb f.kind 1) refl))
    ]
  ]

  -- and written parts are read
  part_read : (n at : ℕ) (p : Numbers) → Formed sig p → part_move sig n record { at = at; kind = kind_of p; body = body_bytes p } ≡ Ok record { parts = p ∷ []; next = awaiting n }
  part_read n at (linear symbols) h = ap (kept n) (linear_whole sig symbols h at (at + 4))
  part_read n at (matrix d symbols) h = ap (kept n) (matrix_whole sig d symbols h at (at + 4))

  parts_read : (ps : List Numbers) → All (Formed sig) ps → (at : ℕ) → read sig (awaiting (length ps)) (frames 0 at (flat_map part_bytes ps)) ≡ Ok ps
  unfolding frames read
  parts_read [] h at = refl
  parts_read (p ∷ ps) h at =
      let behind = frames 0 (at + length (part_bytes p)) (flat_map part_bytes ps) in
      ap (read sig (part (length ps))) (frame_read at (kind_of p) (body_bytes p) (flat_map part_bytes ps))
      ∙ ap (onward behind) (part_read (length ps) at p (All-head (Formed sig) p ps h))
      ∙ ap (λ r. then r (λ qs. Ok (p ∷ qs))) (parts_read ps (All-tail (Formed sig) p ps h) (at + length (part_bytes p)))

  complete : (ps : List Numbers) → Certified sig ps → certificate_reply sig (encoded sig ps) ≡ Ok ps
  unfolding frames read
  complete ps h =
      let bytes = record_bytes 1 (length ps ∷ (length sig ∷ [])) in
      ap (read sig header) (at_front 1 (length ps ∷ (length sig ∷ [])) (flat_map part_bytes ps))
      ∙ ap (λ a. onward (frames 0 (length bytes) (flat_map part_bytes ps)) (then a (λ n. Ok record { parts = []; next = awaiting n }))) (header_whole sig (length ps) (h.some, h.few) 0 4)
      ∙ ap (λ r. then r (λ qs. Ok qs)) (parts_read ps h.formed (length bytes))

  pub certificate_exactly : (bytes : List ℕ) → All IsByte bytes → CertificateExactly sig bytes (certificate_reply sig bytes)
  certificate_exactly bytes h = record { told = told bytes h; complete = λ ps c e. ap (certificate_reply sig) (sym e) ∙ complete ps c }
