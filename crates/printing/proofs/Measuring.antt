-- The text to come is measured word by word.
use Rattle.std.proofs.Common.{◌≡◌, ℕ, ◌+◌, ◌-◌, ◌≤◌, nat_le, List, [], ◌∷◌, length, is_some, Some, None, Option, le→leb, sym, ap, ◌∙◌, subst, arith}
use Rattle.std.proofs.lemmas.Bool.{lt-leb}
use Rattle.std.proofs.lemmas.List.{length-append}
use Rattle.std.specs.Option.{SomeIff}
use Rattle.std.specs.Iterator.{Yields, YieldsFirstBy, TryFoldTurn, TryFoldsItems}
use Rattle.std.specs.List.{FoldsTo}
use Rattle.std.specs.Fn.{Called}
use Rattle.std.specs.ControlFlow.{continue_value}
use Rattle.std.specs.declared.ops.ControlFlow.{ControlFlow}
use denote.Param.Members.{Mut}
use Rattle.terms.proofs.Booleans.{holds}
use Rattle.printing.specs.declared.piece.Piece.{Piece}
use Rattle.printing.specs.declared.speller.Speller.{Speller}
use Rattle.printing.specs.Pieces.{piece_word}
use Rattle.printing.specs.Texts.{word_bytes, text}
use Rattle.printing.specs.Spellers.{words_left}

abbrev size : Piece → ℕ
size x = length (word_bytes (piece_word x))

abbrev to_come : Speller → ℕ
to_come s = length (text (words_left s))

one_more : (s t : Speller) (x : Piece) → words_left s ≡ piece_word x ∷ words_left t → to_come s ≡ size x + to_come t
one_more s t x e = ap (λ ws. length (text ws)) e ∙ length-append (word_bytes (piece_word x)) (text (words_left t))

-- calls that take each word's bytes off what is left
module _ {F : Type 0} (E : Type 0) (g : Mut F (ℕ × (Piece × Unit {0})) (Option ℕ)) (takes : (f q : F) (left : ℕ) (x : Piece) (v : Option ℕ) → Called g f (left, (x, tt)) v q → SomeIff v (size x ≤ left) (left - size x)) where
  abbrev goes_on : Option ℕ → ControlFlow E ℕ → Type 0
  goes_on v r = v ≡ continue_value r

  spent : (xs : List Piece) (s t : Speller) (f q : F) (room left : ℕ) → Yields (YieldsFirstBy piece_word words_left) s xs t → FoldsTo (TryFoldTurn g goes_on) (f, room) xs (q, left) → to_come s + left ≡ to_come t + room
  spent [] s t f q room left y k =
      let same = ap to_come y in
      let none = ap (λ (p : F × ℕ). p.1) k in
      omega arith
  spent (x ∷ xs) s t f q room left (j, e, y) (p, (v, call, on), k) =
      let took = subst (λ o. SomeIff o (size x ≤ room) (room - size x)) on (takes f p.0 room x v call) in
      let rest = spent xs j t p.0 q p.1 left y k in
      let first = one_more s j x e in
      omega arith

  -- whether all of them fit
  pub measured : (s u : Speller) (f : F) (room : ℕ) (r : Option ℕ) → TryFoldsItems (YieldsFirstBy piece_word words_left) g goes_on (λ e r. r ≡ None) s f room r u → is_some r ≡ nat_le (to_come s) room
  measured s u f room r (xs, None, q, left, (t, y, e), k, on) =
      let rest = spent xs s t f q room left y k in
      let none = ap (λ ws. length (text ws)) e.0 in
      ap is_some on ∙ sym (holds _ (le→leb (to_come s) room (omega arith)))
  measured s u f room r (xs, Some x, q, left, (t, y, e), k, (v, h, b, call, off, is)) =
      let rest = spent xs s t f q room left y k in
      let first = one_more t u x e in
      let short = subst (λ o. SomeIff o (size x ≤ left) (left - size x)) off (takes q h left x v call) in
      let long : size x ≤ left → ⊥ = short in
      ap is_some is ∙ sym (lt-leb (to_come s) room (omega arith))
