-- Refusals: where they are placed, and that what follows the first byte of a later token does not change them.
use Rattle.std.proofs.Common.{◌≡◌, ℕ, zero, suc, ◌+◌, ◌<◌, ◌≤◌, Bool, true, false, cond, not, ◌&&◌, eqb, leb, ◌⊎◌, List, [], ◌∷◌, ◌++◌, length, get_or, take, sym, refl, ap, ◌∙◌, subst, inl, inr, arith, length-append}
use lib.Seq.{take-append-le}
use Rattle.std.proofs.lemmas.Bool.{eqb-true}
use Rattle.tokens.specs.Bytes.{blank, letter, run as stretch}
use Rattle.tokens.specs.Tokens.{Word.arrow, Word.named, Word.long, Tok, name_or_long, is_arrow, mark, token, extra, lex, tokens}
use Rattle.vocabulary.specs.declared.flaw.Flaw.{Flaw}
use Rattle.vocabulary.specs.declared.flaw.Flaw.TheVariants.{Misplaced}
use Rattle.reading.specs.Sides.{is_open}
use Rattle.reading.specs.Documents.{Document, Move, Move.to, Move.flawed, move, may_end}
use Rattle.reading.specs.Outcomes.{Outcome.accepted, Outcome.refused, bare_tokens, run_on, run, outcome}
use Rattle.reading.specs.Exactly.{Begins, RefusalStands}

begins_later : (t : Tok) {ts : List Tok} {n : ℕ} → Begins ts n → Begins (t ∷ ts) n
begins_later t b = record { before = t ∷ b.before; here = b.here; after = b.after; among = ap (λ l. t ∷ l) b.among; placed = b.placed }

-- a token that begins behind the first one is among the others
begins_behind : (t : Tok) (ts : List Tok) (n : ℕ) → t.at < n → Begins (t ∷ ts) n → Begins ts n
begins_behind t ts n h b = by b.before b.among
  where
    by : (xs : List Tok) → t ∷ ts ≡ xs ++ b.here ∷ b.after → Begins ts n
    by [] e =
        let is : t ≡ b.here = cc in
        let z : ⊥ = let a = ap (λ (x : Tok). x.at) is in let q = b.placed in omega arith in
        absurd z
    by (x ∷ xs) e = record { before = xs; here = b.here; after = b.after; among = (cc); placed = b.placed }

-- a refusal is at a token, or at the end
run_placed : (end : ℕ) (d : Document) (ts : List Tok) (f : Flaw) (at : ℕ) → run end d ts ≡ refused f at → Begins ts at ⊎ (at ≡ end)
run_placed end d [] f at h = by (may_end d.phase) h
  where
    by : (b : Bool) → cond b (accepted d) (refused Misplaced end) ≡ refused f at → Begins [] at ⊎ (at ≡ end)
    by true k = cc
    by false k = inr (cc)
run_placed end d (t ∷ ts) f at h = by (λ d1. run_placed end d1 ts f at) (move d t.word (bare_tokens ts)) h
  where
    by : ((d1 : Document) → run end d1 ts ≡ refused f at → Begins ts at ⊎ (at ≡ end)) → (m : Move) → run_on t.at (λ d1. run end d1 ts) m ≡ refused f at → Begins (t ∷ ts) at ⊎ (at ≡ end)
    by ih (to d1) k = elim (ih d1 k) [ inl b ↦ inl (begins_later t b) | inr e ↦ inr e ]
    by ih (flawed g) k = inl (record { before = []; here = t; after = ts; among = refl; placed = (cc) })

-- all tokens begin at an offset or behind it
abbrev From : ℕ → List Tok → Type 0
From n [] = Unit {0}
From n (t ∷ ts) = (n ≤ t.at) × From n ts

lex_from : (n at k : ℕ) (bs : List ℕ) → n ≤ at + k → From n (lex at k bs)
lex_from n at zero [] h = tt
lex_from n at (suc k) [] h = tt
lex_from n at (suc k) (b ∷ bs) h = lex_from n (suc at) k bs (omega arith)
lex_from n at zero (b ∷ bs) h = by (lex_from n (suc at) 0 bs (omega arith)) (lex_from n (suc at) (extra b bs) bs (omega arith)) (blank b)
  where
    by : From n (lex (suc at) 0 bs) → From n (lex (suc at) (extra b bs) bs) → (t : Bool) → From n (cond t (lex (suc at) 0 bs) (record { at = at; word = token b bs } ∷ lex (suc at) (extra b bs) bs))
    by x y true = x
    by x y false = (omega arith, y)

from_at : (n : ℕ) (xs : List Tok) (t : Tok) (ys : List Tok) → From n (xs ++ t ∷ ys) → n ≤ t.at
from_at n [] t ys h = h.0
from_at n (x ∷ xs) t ys h = from_at n xs t ys h.1

from_begins : (n m : ℕ) (ts : List Tok) → From n ts → Begins ts m → n ≤ m
from_begins n m ts h b = let a = from_at n b.before b.here b.after (subst (From n) b.among h) in let e = b.placed in omega arith

-- two texts have the same tokens before an offset, and there both go on with a bracket or both without one
data Alike (n : ℕ) : List Tok → List Tok → Type 0 where
  apart : {ts us : List Tok} → bare_tokens ts ≡ bare_tokens us → From n ts → Alike n ts us
  same : (t : Tok) {ts us : List Tok} → Alike n ts us → Alike n (t ∷ ts) (t ∷ us)

alike_bare : {n : ℕ} {ts us : List Tok} → Alike n ts us → bare_tokens ts ≡ bare_tokens us
alike_bare (apart e h) = e
alike_bare (same t a) = refl

-- a refusal before that offset is the same for both
alike_run : {n : ℕ} {ts us : List Tok} (end end2 : ℕ) (f : Flaw) (at : ℕ) → n ≤ end → at < n → Alike n ts us → (d : Document) → run end d ts ≡ refused f at → run end2 d us ≡ refused f at
alike_run {n} {ts} {us} end end2 f at l h (apart e from) d r =
    let z : ⊥ = elim (run_placed end d ts f at r) [ inl b ↦ (let a = from_begins n at ts from b in omega arith) | inr q ↦ omega arith ] in
    absurd z
alike_run {n} end end2 f at l h (same t {ts} {us} a) d r =
    ap (λ b. run_on t.at (λ d1. run end2 d1 us) (move d t.word b)) (sym (alike_bare a)) ∙ by (alike_run end end2 f at l h a) (move d t.word (bare_tokens ts)) r
  where
    by : ((d1 : Document) → run end d1 ts ≡ refused f at → run end2 d1 us ≡ refused f at) → (m : Move) → run_on t.at (λ d1. run end d1 ts) m ≡ refused f at → run_on t.at (λ d1. run end2 d1 us) m ≡ refused f at
    by ih (to d1) k = ih d1 k
    by ih (flawed g) k = k

-- whether a token is a bracket is told by its first byte
abbrev opens : ℕ → Bool
opens b = cond (letter b) false (is_open (mark b))

open_told : (b : ℕ) (bs : List ℕ) → is_open (token b bs) ≡ opens b
open_told b bs = by (letter b) (eqb b 45) (eqb (get_or bs 0 0) 62) (leb (length (b ∷ take (stretch letter bs) bs)) 16) refl
  where
    by : (l h g n : Bool) → eqb b 45 ≡ h → is_open (cond l (cond n (named (b ∷ take (stretch letter bs) bs)) long) (cond (h && g) arrow (mark b))) ≡ cond l false (is_open (mark b))
    by true h g true e = refl
    by true h g false e = refl
    by false false g n e = refl
    by false true false n e = refl
    by false true true n e = sym (ap (λ x. is_open (mark x)) (eqb-true b 45 e))

module _ (b : ℕ) (r s : List ℕ) where
  first_same : (a : List ℕ) → get_or (a ++ b ∷ r) 0 0 ≡ get_or (a ++ b ∷ s) 0 0
  first_same [] = refl
  first_same (c ∷ a) = refl

  -- a stretch of letters that ends before b does not see past it
  stretch_same : (a : List ℕ) → stretch letter (a ++ b ∷ r) ≤ length a → stretch letter (a ++ b ∷ r) ≡ stretch letter (a ++ b ∷ s)
  stretch_same [] h = by (letter b) h
    where
      by : (l : Bool) → cond l (suc (stretch letter r)) 0 ≤ 0 → cond l (suc (stretch letter r)) 0 ≡ cond l (suc (stretch letter s)) 0
      by true k = let z : ⊥ = omega arith in absurd z
      by false k = refl
  stretch_same (c ∷ a) h = by (stretch_same a) (letter c) h
    where
      by : (stretch letter (a ++ b ∷ r) ≤ length a → stretch letter (a ++ b ∷ r) ≡ stretch letter (a ++ b ∷ s)) → (l : Bool) → cond l (suc (stretch letter (a ++ b ∷ r))) 0 ≤ suc (length a)
          → cond l (suc (stretch letter (a ++ b ∷ r))) 0 ≡ cond l (suc (stretch letter (a ++ b ∷ s))) 0
      by ih true k = ap suc (ih (omega arith))
      by ih false k = refl

  -- nor does a token
  token_same : (c : ℕ) (a : List ℕ) → extra c (a ++ b ∷ r) ≤ length a → (token c (a ++ b ∷ r) ≡ token c (a ++ b ∷ s)) × (extra c (a ++ b ∷ r) ≡ extra c (a ++ b ∷ s))
  token_same c a h = by (letter c) h
    where
      by : (l : Bool) → cond l (stretch letter (a ++ b ∷ r)) (cond (is_arrow c (a ++ b ∷ r)) 1 0) ≤ length a
          → (cond l (name_or_long (c ∷ take (stretch letter (a ++ b ∷ r)) (a ++ b ∷ r))) (cond (is_arrow c (a ++ b ∷ r)) arrow (mark c)) ≡ cond l (name_or_long (c ∷ take (stretch letter (a ++ b ∷ s)) (a ++ b ∷ s))) (cond (is_arrow c (a ++ b ∷ s)) arrow (mark c)))
          × (cond l (stretch letter (a ++ b ∷ r)) (cond (is_arrow c (a ++ b ∷ r)) 1 0) ≡ cond l (stretch letter (a ++ b ∷ s)) (cond (is_arrow c (a ++ b ∷ s)) 1 0))
      by true k =
          let e = stretch_same a k in
          let n = stretch letter (a ++ b ∷ r) in
          let t : take n (a ++ b ∷ r) ≡ take n (a ++ b ∷ s) = take-append-le n a (b ∷ r) k ∙ sym (take-append-le n a (b ∷ s) k) in
          (ap (λ l. name_or_long (c ∷ l)) (t ∙ ap (λ m. take m (a ++ b ∷ s)) e), e)
      by false k =
          (ap (λ x. cond (eqb c 45 && eqb x 62) arrow (mark c)) (first_same a), ap (λ x. cond (eqb c 45 && eqb x 62) 1 0) (first_same a))

  -- the tokens before b are the same, whatever stands behind b
  lex_alike : (a : List ℕ) (at k n : ℕ) → n ≡ at + length a → Begins (lex at k (a ++ b ∷ r)) n → Alike n (lex at k (a ++ b ∷ r)) (lex at k (a ++ b ∷ s))
  lex_alike [] at (suc k) n e g =
      let z : ⊥ = let l = from_begins (at + suc k) n (lex at (suc k) (b ∷ r)) (lex_from (at + suc k) at (suc k) (b ∷ r) (omega arith)) g in omega arith in
      absurd z
  lex_alike [] at zero n e g = apart (by (blank b) g) (lex_from n at 0 (b ∷ r) (omega arith))
    where
      by : (t : Bool) → Begins (cond t (lex (suc at) 0 r) (record { at = at; word = token b r } ∷ lex (suc at) (extra b r) r)) n
          → bare_tokens (cond t (lex (suc at) 0 r) (record { at = at; word = token b r } ∷ lex (suc at) (extra b r) r)) ≡ bare_tokens (cond t (lex (suc at) 0 s) (record { at = at; word = token b s } ∷ lex (suc at) (extra b s) s))
      by true q = let z : ⊥ = let l = from_begins (suc at) n (lex (suc at) 0 r) (lex_from (suc at) (suc at) 0 r (omega arith)) q in omega arith in absurd z
      by false q = ap not (open_told b r ∙ sym (open_told b s))
  lex_alike (c ∷ a) at (suc k) n e g = lex_alike a (suc at) k n (omega arith) g
  lex_alike (c ∷ a) at zero n e g = by (λ k. lex_alike a (suc at) k n (omega arith)) (blank c) g
    where
      bs : List ℕ
      bs = a ++ b ∷ r

      cs : List ℕ
      cs = a ++ b ∷ s

      by : ((k : ℕ) → Begins (lex (suc at) k bs) n → Alike n (lex (suc at) k bs) (lex (suc at) k cs)) → (t : Bool)
          → Begins (cond t (lex (suc at) 0 bs) (record { at = at; word = token c bs } ∷ lex (suc at) (extra c bs) bs)) n
          → Alike n (cond t (lex (suc at) 0 bs) (record { at = at; word = token c bs } ∷ lex (suc at) (extra c bs) bs)) (cond t (lex (suc at) 0 cs) (record { at = at; word = token c cs } ∷ lex (suc at) (extra c cs) cs))
      by ih true q = ih 0 q
      by ih false q =
          let tok : Tok = record { at = at; word = token c bs } in
          let later = begins_behind tok (lex (suc at) (extra c bs) bs) n (omega arith) q in
          let l = from_begins (suc at + extra c bs) n (lex (suc at) (extra c bs) bs) (lex_from (suc at + extra c bs) (suc at) (extra c bs) bs (omega arith)) later in
          let (t, k) = token_same c a (omega arith) in
          subst (λ w. Alike n (tok ∷ lex (suc at) (extra c bs) bs) (record { at = at; word = w } ∷ lex (suc at) (extra c cs) cs)) t
          (subst (λ m. Alike n (tok ∷ lex (suc at) (extra c bs) bs) (tok ∷ lex (suc at) m cs)) k (same tok (ih (extra c bs) later)))

pub refusal_stands : (d : Document) (bytes : List ℕ) (f : Flaw) (at : ℕ) → outcome d bytes ≡ refused f at → RefusalStands d bytes f at
refusal_stands d bytes f at h = record {
  placed = run_placed (length bytes) d (tokens bytes) f at h;
  certain = λ before b after other e begins lt.
      let n = length before in
      let alike = lex_alike b after other before 0 0 n (omega arith) (subst (λ l. Begins (tokens l) n) e begins) in
      let l = ap length e in
      let m = length-append before (b ∷ after) in
      alike_run (length bytes) (length (before ++ b ∷ other)) f at (omega arith) lt alike d (subst (λ l. run (length bytes) d (tokens l) ≡ refused f at) e h);
}
