-- Bytes cut into records, whatever the records say.
use Rattle.std.specs.Prelude.{ℕ, zero, suc, ◌+◌, ◌*◌, Bool, cond, ◌&&◌, List, [], ◌∷◌, length, take, drop, nat_le, slice_index}

-- a record: the offset of its first byte, its kind and its body
pub record Frame : Type 0 where
  pub at : ℕ
  pub kind : ℕ
  pub body : List ℕ

-- records, up to the end or up to one that is cut short, with the offset of that
pub data Frames : Type 0 where
  ended : ℕ → Frames
  cut : ℕ → Frames
  framed : Frame → Frames → Frames

-- 16 bits, the low byte first
abbrev pub word_at : List ℕ → ℕ → ℕ
word_at bytes i = slice_index bytes i + 256 * slice_index bytes (i + 1)

-- how long the body is of the record that these bytes begin with
abbrev pub body_length : List ℕ → ℕ
body_length bytes = word_at bytes 0

-- whether all of that record is there
abbrev pub is_whole : List ℕ → Bool
is_whole bytes = nat_le 4 (length bytes) && nat_le (4 + body_length bytes) (length bytes)

-- that record
abbrev pub first_frame : ℕ → List ℕ → Frame
first_frame at bytes = record { at = at; kind = word_at bytes 2; body = take (body_length bytes) (drop 4 bytes) }

-- the records of the bytes from `at` on, of which the first k belong to a record before them
unfoldable pub frames : ℕ → ℕ → List ℕ → Frames
frames k at [] = ended at
frames (suc k) at (b ∷ bs) = frames k (at + 1) bs
frames zero at (b ∷ bs) = cond (is_whole (b ∷ bs)) (framed (first_frame at (b ∷ bs)) (frames (3 + body_length (b ∷ bs)) (at + 1) bs)) (cut at)
