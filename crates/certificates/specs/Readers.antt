-- What a reader stands for, and what its calls answer.
use Rattle.std.specs.Prelude.{◌≡◌, ℕ, suc, ◌+◌, ◌≤◌, Bool, true, false, List, [], ◌++◌, map, length, drop, Ok, Err, Option, Result, ⊤, option_to_list}
use Rattle.bounded.specs.Items.{items}
use Rattle.terms.specs.Models.{arities_of}
use Rattle.terms.specs.Replies.{viewed}
use Rattle.encodings.specs.declared.flaw.RecordFlaw.TheVariants.{CutShort}
use Rattle.encodings.specs.declared.fault.CertificateFault.{CertificateFault}
use Rattle.encodings.specs.Frames.{Frame, Frames, Frames.ended, Frames.cut, Frames.framed, frames}
use Rattle.encodings.specs.Bodies.{then, flawed}
use Rattle.encodings.specs.Reading.{Awaited, Awaited.header, Awaited.part, Awaited.end, Move, move, read}
use Rattle.certificates.specs.declared.reader.Awaits.{Awaits}
use Rattle.certificates.specs.declared.reader.Awaits.TheVariants as awaits
use Rattle.certificates.specs.declared.reader.Reader.{Reader}
use Rattle.certificates.specs.declared.reader.calls.Record as code
use Rattle.certificates.specs.declared.reader.calls.Move as code_move
use Rattle.certificates.specs.Bodies.{body_of}
use Rattle.certificates.specs.Parts.{Kept, kept_part, kept, all_kept}

-- what is awaited
abbrev pub awaited_of : Awaits → Awaited
awaited_of awaits.Header = header
awaited_of (awaits.Part n) = part n
awaited_of awaits.End = end

-- whether it is a record
abbrev pub is_open : Awaited → Bool
is_open header = true
is_open (part n) = true
is_open end = false

-- the records from where a reader stands
abbrev pub frames_of : Reader → Frames
frames_of r = frames 0 r.at (drop r.at r.bytes.now)

-- a record in its place
abbrev pub frame_of : code.Record → Frame
frame_of r = record { at = r.body.start; kind = r.kind; body = (body_of r.body).left }

-- that record, and those behind it
abbrev pub recorded : List ℕ → Result code.Record CertificateFault → Result (Frame × Frames) CertificateFault
recorded bytes (Ok r) = Ok (frame_of r, frames 0 r.end (drop r.end bytes))
recorded bytes (Err e) = Err e

-- the first record, and those behind it
abbrev pub first : Frames → Result (Frame × Frames) CertificateFault
first (ended at) = flawed CutShort at
first (cut at) = flawed CutShort at
first (framed f rest) = Ok (f, rest)

-- what a record gives, as it is kept
pub record KeptMove : Type 0 where
  pub parts : List (Option Kept)
  pub next : Awaited

-- the same of the code's answer
abbrev pub move_of : code_move.Move → KeptMove
move_of f = record { parts = map kept_part (option_to_list f.part); next = awaited_of f.next }

-- the same of a record's meaning
abbrev pub kept_move : List ℕ → Move → KeptMove
kept_move sig m = record { parts = map (kept sig) m.parts; next = m.next }

-- a certificate as far as it is read
pub record Progress : Type 0 where
  pub arities : List ℕ
  pub parts : List (Option Kept)
  pub awaited : Awaited
  pub left : Frames

-- where a reader stands
abbrev pub progress_of : Reader → Progress
progress_of r = record { arities = arities_of r.signature; parts = map kept_part (items r.parts); awaited = awaited_of r.awaits; left = frames_of r }

-- before the first byte
abbrev pub fresh : List ℕ → List ℕ → Progress
fresh sig bytes = record { arities = sig; parts = []; awaited = header; left = frames 0 0 bytes }

-- one record further
abbrev pub advanced : Progress → Result Progress CertificateFault
advanced p =
    then (first p.left) (λ f. then (move p.arities p.awaited f.0) (λ m. Ok record { arities = p.arities; parts = p.parts ++ map (kept p.arities) m.parts; awaited = m.next; left = f.1 }))

-- a step's answer, with where the reader then stands
abbrev pub stepped : Result ⊤ CertificateFault → Progress → Result Progress CertificateFault
stepped (Ok u) p = Ok p
stepped (Err e) p = Err e

-- there is room for what is awaited
abbrev pub Roomy : Awaited → ℕ → Type 0
Roomy header n = n ≡ 0
Roomy (part k) n = n + 1 + k ≤ 4
Roomy end n = n ≤ 4

-- a reader has room for what it awaits
abbrev pub HasRoom : Reader → Type 0
HasRoom r = Roomy (awaited_of r.awaits) (length (items r.parts))

-- what the parts will be when all is read
abbrev pub finished : Progress → Result (List (Option Kept)) CertificateFault
finished p = viewed (λ parts. p.parts ++ all_kept p.arities parts) (read p.arities p.awaited p.left)

-- how many records are left
abbrev pub records_left : Frames → ℕ
records_left (ended at) = 0
records_left (cut at) = 0
records_left (framed f rest) = suc (records_left rest)
