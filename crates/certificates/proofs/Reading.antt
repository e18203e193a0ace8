-- A certificate is read record by record, to its end.
use Rattle.std.proofs.Common.{◌≡◌, ℕ, zero, suc, ◌<◌, ◌≤◌, Bool, true, false, cond, List, [], ◌∷◌, ◌++◌, length, drop, All, Ok, Err, Option, Result, sym, refl, ap, ◌∙◌, subst, arith, append_assoc, append-nil, drop_of_length-le, drop-cons, get_or}
use Rattle.std.proofs.lemmas.List.{map-append}
use Rattle.terms.specs.Replies.{viewed}
use Rattle.encodings.specs.declared.flaw.RecordFlaw.TheVariants.{LeftOver}
use Rattle.encodings.specs.declared.fault.CertificateFault.{CertificateFault}
use Rattle.encodings.specs.Numbers.{Numbers, IsByte}
use Rattle.encodings.specs.Frames.{Frame, Frames, Frames.ended, Frames.cut, Frames.framed, frames, is_whole}
use Rattle.encodings.specs.Bodies.{then, flawed}
use Rattle.encodings.specs.Reading.{Awaited, Awaited.header, Awaited.part, Awaited.end, Move, move, read, certificate_reply}
use Rattle.encodings.specs.Laws.{Told}
use Rattle.encodings.proofs.Exactly.{certificate_exactly}
use Rattle.certificates.specs.Parts.{Kept, kept, all_kept}
use Rattle.certificates.specs.Readers.{is_open, first, Progress, advanced, finished, records_left}
use Rattle.certificates.specs.Laws.{ToldKept, ReadExactly}

-- numbers that are bytes one by one
pub all_bytes : (xs : List ℕ) → ((i : ℕ) → get_or xs i 0 ≤ 255) → All IsByte xs
all_bytes [] h k d l = absurd (omega arith)
all_bytes (x ∷ xs) h zero d l = h 0
all_bytes (x ∷ xs) h (suc k) d l = all_bytes xs (λ i. h (suc i)) k d (omega arith)

-- behind the last part
pub nothing_left : (sig : List ℕ) (at : ℕ) (bytes : List ℕ) → length bytes ≤ at → Ok [] ≡ read sig end (frames 0 at (drop at bytes))
unfolding frames read
nothing_left sig at bytes h = ap (λ l. read sig end (frames 0 at l)) (sym (drop_of_length-le bytes h))

left_over : (sig : List ℕ) (at : ℕ) (f : Frame) (fs : Frames) (t : Bool) → f.at ≡ at → flawed LeftOver at ≡ read sig end (cond t (framed f fs) (cut at))
unfolding read
left_over sig at f fs true e = ap (flawed LeftOver) (sym e)
left_over sig at f fs false e = refl

pub something_left : (sig : List ℕ) (at : ℕ) (bytes : List ℕ) → at < length bytes → flawed LeftOver at ≡ read sig end (frames 0 at (drop at bytes))
unfolding frames
something_left sig at bytes h = left_over sig at _ _ (is_whole (get_or bytes at 0 ∷ drop (suc at) bytes)) refl ∙ ap (λ l. read sig end (frames 0 at l)) (sym (drop-cons bytes at 0 h))

pub closed_is : (a : Awaited) → is_open a ≡ false → a ≡ end
closed_is header e = absurd cc
closed_is (part n) e = absurd cc
closed_is end e = refl

-- the parts that records give, by the first of them
abbrev by_first : List ℕ → Awaited → Frames → Result (List Numbers) CertificateFault
by_first sig a fs = then (first fs) (λ f. then (move sig a f.0) (λ m. then (read sig m.next f.1) (λ ps. Ok (m.parts ++ ps))))

read_first : (sig : List ℕ) (a : Awaited) (fs : Frames) → is_open a ≡ true → read sig a fs ≡ by_first sig a fs
unfolding read
read_first sig header (ended at) o = refl
read_first sig header (cut at) o = refl
read_first sig header (framed f fs) o = refl
read_first sig (part n) (ended at) o = refl
read_first sig (part n) (cut at) o = refl
read_first sig (part n) (framed f fs) o = refl
read_first sig end fs o = absurd cc

module _ (sig : List ℕ) (parts : List (Option Kept)) (a : Awaited) where
  abbrev put : List Numbers → List (Option Kept)
  put ps = parts ++ all_kept sig ps

  abbrev next : Move → Frames → Progress
  next m fs = record { arities = sig; parts = parts ++ all_kept sig m.parts; awaited = m.next; left = fs }

  abbrev ahead : Result (Frame × Frames) CertificateFault → Result Progress CertificateFault
  ahead r = then r (λ f. then (move sig a f.0) (λ m. Ok (next m f.1)))

  abbrev all_ahead : Result (Frame × Frames) CertificateFault → Result (List Numbers) CertificateFault
  all_ahead r = then r (λ f. then (move sig a f.0) (λ m. then (read sig m.next f.1) (λ ps. Ok (m.parts ++ ps))))

  regrouped : (m : Move) (r : Result (List Numbers) CertificateFault) → viewed put (then r (λ ps. Ok (m.parts ++ ps))) ≡ viewed (λ ps. (parts ++ all_kept sig m.parts) ++ all_kept sig ps) r
  regrouped m (Ok ps) = ap Ok (ap (λ l. parts ++ l) (map-append (kept sig) m.parts ps) ∙ sym (append_assoc parts (all_kept sig m.parts) (all_kept sig ps)))
  regrouped m (Err e) = refl

  by_move : (fs : Frames) (r : Result Move CertificateFault) (q : Progress) → Ok q ≡ then r (λ m. Ok (next m fs)) → viewed put (then r (λ m. then (read sig m.next fs) (λ ps. Ok (m.parts ++ ps)))) ≡ finished q
  by_move fs (Ok m) q e = let same : q ≡ next m fs = cc in regrouped m (read sig m.next fs) ∙ ap finished (sym same)
  by_move fs (Err f) q e = absurd cc

  by_frame : (r : Result (Frame × Frames) CertificateFault) (q : Progress) → Ok q ≡ ahead r → viewed put (all_ahead r) ≡ finished q
  by_frame (Ok f) q e = by_move f.1 (move sig a f.0) q e
  by_frame (Err f) q e = absurd cc

  move_fails : (fs : Frames) (r : Result Move CertificateFault) (e : CertificateFault) → Err e ≡ then r (λ m. Ok (next m fs)) → Err e ≡ viewed put (then r (λ m. then (read sig m.next fs) (λ ps. Ok (m.parts ++ ps))))
  move_fails fs (Ok m) e h = absurd cc
  move_fails fs (Err f) e h = let same : e ≡ f = cc in ap Err same

  frame_fails : (r : Result (Frame × Frames) CertificateFault) (e : CertificateFault) → Err e ≡ ahead r → Err e ≡ viewed put (all_ahead r)
  frame_fails (Ok f) e h = move_fails f.1 (move sig a f.0) e h
  frame_fails (Err f) e h = let same : e ≡ f = cc in ap Err same

  move_left : (fs : Frames) (r : Result Move CertificateFault) (q : Progress) → Ok q ≡ then r (λ m. Ok (next m fs)) → q.left ≡ fs
  move_left fs (Ok m) q e = let same : q ≡ next m fs = cc in ap (λ p. p.left) same
  move_left fs (Err f) q e = absurd cc

  fewer_left : (fs : Frames) (q : Progress) → Ok q ≡ ahead (first fs) → records_left q.left < records_left fs
  fewer_left (ended at) q e = absurd cc
  fewer_left (cut at) q e = absurd cc
  fewer_left (framed f fs) q e = let same = ap records_left (move_left fs (move sig a f) q e) in omega arith

-- one record further is one record read
pub goes_on : (p q : Progress) → is_open p.awaited ≡ true → Ok q ≡ advanced p → finished p ≡ finished q
goes_on p q o e = ap (viewed (put p.arities p.parts p.awaited)) (read_first p.arities p.awaited p.left o) ∙ by_frame p.arities p.parts p.awaited (first p.left) q e

pub stops : (p : Progress) (e : CertificateFault) → is_open p.awaited ≡ true → Err e ≡ advanced p → Err e ≡ finished p
stops p e o h = frame_fails p.arities p.parts p.awaited (first p.left) e h ∙ ap (viewed (put p.arities p.parts p.awaited)) (sym (read_first p.arities p.awaited p.left o))

pub fewer : (p q : Progress) → Ok q ≡ advanced p → records_left q.left < records_left p.left
fewer p q e = fewer_left p.arities p.parts p.awaited p.left q e

-- and at the end
pub at_end : (p : Progress) → is_open p.awaited ≡ false → Ok [] ≡ read p.arities end p.left → Ok p.parts ≡ finished p
at_end p o e =
    ap Ok (sym (append-nil p.parts))
    ∙ ap (viewed (put p.arities p.parts p.awaited)) (e ∙ ap (λ a. read p.arities a p.left) (sym (closed_is p.awaited o)))

pub at_end_fails : (p : Progress) (f : CertificateFault) → is_open p.awaited ≡ false → Err f ≡ read p.arities end p.left → Err f ≡ finished p
at_end_fails p f o e = ap (viewed (put p.arities p.parts p.awaited)) (e ∙ ap (λ a. read p.arities a p.left) (sym (closed_is p.awaited o)))

-- what is read exactly is kept exactly
module _ (sig bytes : List ℕ) where
  told_kept : (r : Result (List Numbers) CertificateFault) → Told sig bytes r → ToldKept sig bytes (viewed (all_kept sig) r)
  told_kept (Ok parts) h = (parts, h.0, h.1, refl)
  told_kept (Err e) h = h

  pub kept_exactly : All IsByte bytes → (r : Result (List (Option Kept)) CertificateFault) → r ≡ viewed (all_kept sig) (certificate_reply sig bytes) → ReadExactly sig bytes r
  kept_exactly small r e =
      let h = certificate_exactly sig bytes small in
      subst (ReadExactly sig bytes) (sym e) record { told = told_kept (certificate_reply sig bytes) h.told; complete = λ parts c f. ap (viewed (all_kept sig)) (h.complete parts c f) }
