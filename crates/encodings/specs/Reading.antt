-- How a certificate is read, record by record.
use Rattle.std.specs.Prelude.{ℕ, zero, suc, cond, List, [], ◌∷◌, ◌++◌, Ok, Result, ◌==◌}
use Rattle.encodings.specs.declared.flaw.RecordFlaw.TheVariants.{CutShort, WrongKind, LeftOver}
use Rattle.encodings.specs.declared.fault.CertificateFault.{CertificateFault}
use Rattle.encodings.specs.Numbers.{Numbers}
use Rattle.encodings.specs.Frames.{Frame, Frames, Frames.ended, Frames.cut, Frames.framed, frames}
use Rattle.encodings.specs.Bodies.{then, flawed, header_reply, linear_reply, matrix_reply, frame_body}

-- what is awaited: the header, a part and as many more behind it, or the end
pub data Awaited : Type 0 where
  header : Awaited
  part : ℕ → Awaited
  end : Awaited

-- what one record gives: the parts it adds, and what is awaited behind it
pub record Move : Type 0 where
  pub parts : List Numbers
  pub next : Awaited

-- so many parts are to come
abbrev pub awaiting : ℕ → Awaited
awaiting zero = end
awaiting (suc n) = part n

-- a record where the header is awaited
abbrev pub header_move : List ℕ → Frame → Result Move CertificateFault
header_move sig f = cond (f.kind == 1) (then (header_reply sig (frame_body f)) (λ n. Ok record { parts = []; next = awaiting n })) (flawed WrongKind f.at)

-- a record where a part is awaited, with n more behind it
abbrev pub part_move : List ℕ → ℕ → Frame → Result Move CertificateFault
part_move sig n f =
    cond (f.kind == 16) (then (linear_reply sig (frame_body f)) (λ p. Ok record { parts = p ∷ []; next = awaiting n }))
    (cond (f.kind == 17) (then (matrix_reply sig (frame_body f)) (λ p. Ok record { parts = p ∷ []; next = awaiting n }))
    (flawed WrongKind f.at))

-- one record, by what is awaited and its kind
abbrev pub move : List ℕ → Awaited → Frame → Result Move CertificateFault
move sig header f = header_move sig f
move sig (part n) f = part_move sig n f
move sig end f = flawed LeftOver f.at

-- the parts that records give, up to the end
unfoldable pub read : List ℕ → Awaited → Frames → Result (List Numbers) CertificateFault
read sig end (ended at) = Ok []
read sig end (cut at) = flawed LeftOver at
read sig header (ended at) = flawed CutShort at
read sig header (cut at) = flawed CutShort at
read sig (part n) (ended at) = flawed CutShort at
read sig (part n) (cut at) = flawed CutShort at
read sig a (framed f rest) = then (move sig a f) (λ m. then (read sig m.next rest) (λ parts. Ok (m.parts ++ parts)))

-- the parts that bytes give, or the first fault
abbrev pub certificate_reply : List ℕ → List ℕ → Result (List Numbers) CertificateFault
certificate_reply sig bytes = read sig header (frames 0 0 bytes)
