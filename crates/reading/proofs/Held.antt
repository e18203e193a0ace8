-- What holds of a text goes on to hold.
use Rattle.std.proofs.Common.{◌≡◌, ℕ, ◌≤◌, Bool, true, false, cond, leb, List, length, is_some, Some, None, Option, refl, sym, ◌∙◌, subst, arith}
use Rattle.std.specs.Str.{bytes_eq}
use Rattle.std.proofs.lemmas.Bool.{leb-false}
use Rattle.tokens.specs.Tokens.{Word, Word.lpar, Word.rpar, Word.comma, Word.arrow, Word.named, Word.long, Word.illegal}
use Rattle.terms.specs.Shapes.{starts_with_symbol}
use Rattle.terms.specs.Models.{Sides}
use Rattle.vocabulary.specs.declared.flaw.Flaw.{Flaw}
use Rattle.vocabulary.specs.declared.flaw.Flaw.TheVariants.{Misplaced, TooMany, LeftVariable, DeclaredTwice}
use Rattle.vocabulary.specs.Vocabularies.{Vocabulary, code_of, with_variable}
use Rattle.reading.specs.declared.state.Block.{Block}
use Rattle.reading.specs.declared.state.Block.TheVariants.{Variables, Rules}
use Rattle.reading.specs.Sides.{Role, Role.left, Role.right, Role.start, limit, State, Reply, Reply.go, Reply.stop, is_open, step, fresh, is_whole}
use Rattle.reading.specs.Fits.{Fit}
use Rattle.reading.specs.Documents.{Phase, Phase.bracket, Phase.keyword, Phase.variable, Phase.rule, Phase.arrow_behind, Phase.inside, Phase.closed, Phase.ended, Document, Move.to, Move.flawed, document, word_for, behind_keyword, behind, turned, continued, term_move, move_by, move}
use Rattle.reading.specs.Holding.{Room, Held, Holds}
use Rattle.reading.specs.Models.{side_step}
use Rattle.reading.proofs.Sounds.{back}
use Rattle.reading.proofs.Closing.{known_step}

unmoved : (d d1 : Document) → Holds d → to d ≡ to d1 → Holds d1
unmoved d d1 h e = let is : d ≡ d1 = cc in subst Holds is h

held_keyword : (v : Vocabulary) (rs : List Sides) (k : Block) → Held v rs (behind_keyword k)
held_keyword v rs Variables = tt
held_keyword v rs Rules = tt

-- nothing is read of a term yet
pub fresh-held : (v : Vocabulary) (rs : List Sides) (p : Role) → length v.arities ≡ length v.symbols → Room rs p → Held v rs (inside p fresh)
fresh-held v rs p e r = (record { even = e; known = tt }, omega arith, r)

held-behind : (p : Role) (v : Vocabulary) (rs : List Sides) (cs : List ℕ) → length v.arities ≡ length v.symbols → length cs ≤ limit p → Room rs p → Holds (behind p v rs cs)
held-behind left v rs cs e l r = record { even = e; held = (l, r) }
held-behind (right ls) v rs cs e l r = record { even = e; held = tt }
held-behind start v rs cs e l r = record { even = e; held = tt }

module _ (rs : List Sides) (p : Role) (d1 : Document) (room : Room rs p) where
  held-turned : (v : Vocabulary) (s : State) → Fit v s.uses → length s.codes ≤ limit p → to (turned p v rs s) ≡ to d1 → Holds d1
  held-turned v s f l e = by (is_whole s) e
    where
      by : (b : Bool) → to (cond b (behind p v rs s.codes) (document v rs (inside p s))) ≡ to d1 → Holds d1
      by true k = unmoved (behind p v rs s.codes) d1 (held-behind p v rs s.codes f.even l room) k
      by false k = unmoved (document v rs (inside p s)) d1 (record { even = f.even; held = (f, l, room) }) k

  held_term : (v : Vocabulary) (s : State) (w : Word) (b : Bool) → Fit v s.uses → length s.codes ≤ limit p → term_move v rs p s w b ≡ to d1 → Holds d1
  held_term v s w b f l e = by (step p v s w b) refl e
    where
      by : (r : Reply) → step p v s w b ≡ r → continued p rs r ≡ to d1 → Holds d1
      by (go v1 s1) q k = let x = back p v v1 s s1 w b l f q in held-turned v1 s1 x.fit x.short k
      by (stop g) q k = cc

module _ (v : Vocabulary) (rs : List Sides) (even : length v.arities ≡ length v.symbols) (d1 : Document) where
  abbrev Keeps : Phase → Word → Bool → Type 0
  Keeps p w b = move_by v rs p w b ≡ to d1 → Holds d1

  plain : (p : Phase) → Held v rs p → to (document v rs p) ≡ to d1 → Holds d1
  plain p h e = unmoved (document v rs p) d1 (record { even = even; held = h }) e

  -- a move that is made only if a test comes out
  tested : (t : Bool) (d : Document) (f : Flaw) → (t ≡ true → Holds d) → cond t (to d) (flawed f) ≡ to d1 → Holds d1
  tested true d f h e = unmoved d d1 (h refl) e
  tested false d f h e = cc

  held_variable : (n : List ℕ) → Keeps variable (named n) true
  held_variable n e = by (leb 8 (length v.variables)) (is_some (code_of v n)) e
    where
      by : (a b : Bool) → cond a (flawed TooMany) (cond b (flawed DeclaredTwice) (to (document (with_variable v n) rs variable))) ≡ to d1 → Holds d1
      by true b k = cc
      by false true k = cc
      by false false k = unmoved (document (with_variable v n) rs variable) d1 (record { even = even; held = tt }) k

  held-rule : (n : List ℕ) (b : Bool) → Keeps rule (named n) b
  held-rule n b e = by (leb 32 (length rs)) refl e
    where
      by : (t : Bool) → leb 32 (length rs) ≡ t → cond t (flawed TooMany) (term_move v rs left fresh (named n) b) ≡ to d1 → Holds d1
      by true q k = cc
      by false q k = held_term rs left d1 (leb-false 32 (length rs) q) v fresh (named n) b (record { even = even; known = tt }) (omega arith) k

  keeps : (p : Phase) → Held v rs p → (w : Word) (b : Bool) → Keeps p w b
  keeps (bracket k) h w b e = tested (is_open w) (document v rs (keyword k)) Misplaced (λ t. record { even = even; held = tt }) e
  keeps (keyword k) h lpar b e = cc
  keeps (keyword k) h rpar b e = cc
  keeps (keyword k) h comma b e = cc
  keeps (keyword k) h arrow b e = cc
  keeps (keyword k) h (named n) b e = tested (bytes_eq n (word_for k)) (document v rs (behind_keyword k)) Misplaced (λ t. record { even = even; held = held_keyword v rs k }) e
  keeps (keyword k) h long b e = cc
  keeps (keyword k) h illegal b e = cc
  keeps variable h lpar b e = cc
  keeps variable h rpar b e = plain (bracket Rules) tt e
  keeps variable h comma b e = cc
  keeps variable h arrow b e = cc
  keeps variable h (named n) b e = held_variable n e
  keeps variable h long b e = cc
  keeps variable h illegal b e = cc
  keeps rule h lpar b e = cc
  keeps rule h rpar b e = plain closed tt e
  keeps rule h comma b e = cc
  keeps rule h arrow b e = cc
  keeps rule h (named n) b e = held-rule n b e
  keeps rule h long b e = cc
  keeps rule h illegal b e = cc
  keeps (arrow_behind l) h lpar b e = cc
  keeps (arrow_behind l) h rpar b e = cc
  keeps (arrow_behind l) h comma b e = cc
  keeps (arrow_behind l) h arrow b e = tested (starts_with_symbol l) (document v rs (inside (right l) fresh)) LeftVariable (λ t. record { even = even; held = fresh-held v rs (right l) even h.1 }) e
  keeps (arrow_behind l) h (named n) b e = cc
  keeps (arrow_behind l) h long b e = cc
  keeps (arrow_behind l) h illegal b e = cc
  keeps (inside p s) h w b e = held_term rs p d1 h.2 v s w b h.0 h.1 e
  keeps closed h w b e = cc
  keeps (ended cs) h w b e = cc

pub held_on : (d d1 : Document) (w : Word) (b : Bool) → Holds d → move d w b ≡ to d1 → Holds d1
held_on d d1 w b h e = keeps d.names d.rules h.even d1 d.phase h.held w b e

-- in the midst of a term too, also where a token makes it whole
pub held_inside : (rs : List Sides) (p : Role) (v : Vocabulary) (s : State) (o : Option Word) (b : Bool) → Held v rs (inside p s) → (v1 : Vocabulary) (s1 : State) → go v1 s1 ≡ side_step p v s o b → Held v1 rs (inside p s1)
held_inside rs p v s None b h v1 s1 e = cc
held_inside rs p v s (Some w) b h v1 s1 e =
    let x = back p v v1 s s1 w b h.1 h.0 (sym (e ∙ known_step p v s (Some w) b h.0.known)) in
    (x.fit, x.short, h.2)
