-- Bytes that are written one word behind the other.
use Rattle.std.proofs.Common.{◌≡◌, ℕ, ◌+◌, ◌-◌, ◌≤◌, List, ◌++◌, length, take, drop, sym, ap, ◌∙◌, append_assoc, arith}
use Rattle.std.proofs.lemmas.List.{length-append, drop-drop}
use Rattle.std.proofs.lemmas.Slice.{take-put_mid, drop-put_mid}
use borrow.Rule.Slice.PartMut.{put_mid}

-- what memory holds while the text is written: what is written, then what was there
pub record Written (all was : List ℕ) (at : ℕ) (now rest : List ℕ) : Type 0 where
  pub text_is : take at now ++ rest ≡ all
  pub room : at + length rest ≡ length all
  pub untouched : drop at now ≡ drop at was

-- one word more
pub written_more : (all was now rest : List ℕ) (at : ℕ) → Written all was at now rest → length all ≤ length now → (bytes put left : List ℕ) → put ≡ bytes → rest ≡ bytes ++ left
    → Written all was (at + length bytes) (put_mid at (at + length bytes - at) now put) left
written_more all was now rest at w fits bytes put left same first =
    let n = at + length bytes in
    let room = w.room in
    let more = ap length first ∙ length-append bytes left in
    let size = ap length same in
    let front = take-put_mid at (n - at) now put n (omega arith) (omega arith) in
    let back = drop-put_mid at (n - at) now put n (omega arith) (omega arith) (omega arith) in
    record {
      text_is = ap (λ l. l ++ left) (front ∙ ap (λ l. take at now ++ l) same) ∙ append_assoc (take at now) bytes left ∙ ap (λ l. take at now ++ l) (sym first) ∙ w.text_is;
      room = omega arith;
      untouched = back ∙ sym (drop-drop (length bytes) at now) ∙ ap (drop (length bytes)) w.untouched ∙ drop-drop (length bytes) at was;
    }
