-- A use of a symbol that there is, with at most 4 arguments, is complete as the definition of reading has it.
use Rattle.std.proofs.Common.{◌≡◌, ℕ, ◌<◌, ◌≤◌, Bool, true, false, cond, eqb, leb, List, [], ◌∷◌, length, Some, None, Ok, Err, Option, Result, refl, ap, ◌∙◌, ap₂}
use Rattle.std.proofs.lemmas.Bool.{cond-true, lt-ltb, le-leb}
use Rattle.tokens.specs.Tokens.{Word}
use Rattle.vocabulary.specs.declared.flaw.Flaw.{Flaw}
use Rattle.vocabulary.specs.declared.flaw.Flaw.TheVariants.{Arguments}
use Rattle.vocabulary.specs.Vocabularies.{Vocabulary, arity_of, with_arity}
use Rattle.vocabulary.specs.Replies as replies
use Rattle.vocabulary.specs.Replies.{settle_by, settle_reply, settled_by}
use Rattle.reading.specs.declared.state.Use.{Use}
use Rattle.reading.specs.declared.state.Await.{Await}
use Rattle.reading.specs.declared.state.Await.TheVariants.{After}
use Rattle.reading.specs.Fits.{Known}
use Rattle.reading.specs.Sides.{Role, State, Reply.go, Reply.stop, settled, at_close, step_by, step_with}
use Rattle.reading.specs.Models.{reply_of, close_use, side_step, token_step}

closes_by : (v : Vocabulary) (f k : ℕ) (s : State) → k ≤ 4 → (o : Option ℕ) → reply_of (settle_by k o) (settled_by v f k o) s ≡ settled v f k o (λ w. go w s)
closes_by v f k s few None = by (leb k 4) (le-leb k 4 few)
  where
    by : (t : Bool) → t ≡ true → reply_of (cond t (Ok tt) (Err Arguments)) (cond t (with_arity v f k) v) s ≡ go (with_arity v f k) s
    by t e = ap (λ t. reply_of (cond t (Ok tt) (Err Arguments)) (cond t (with_arity v f k) v) s) e
closes_by v f k s few (Some a) = by (eqb k a)
  where
    by : (t : Bool) → reply_of (cond t (Ok tt) (Err Arguments)) v s ≡ cond t (go v s) (stop Arguments)
    by true = refl
    by false = refl

-- the arity that is fixed, or has to be met
pub settles : (v : Vocabulary) (f k : ℕ) (s : State) → f < length v.symbols → k ≤ 4 → (r : Result (Unit {0}) Flaw) → r ≡ settle_reply v f k → (w : Vocabulary) → w ≡ replies.settled v f k
    → reply_of r w s ≡ settled v f k (arity_of v f) (λ w. go w s)
settles v f k s lt few r e w h =
    let there = lt-ltb f _ lt in
    ap₂ (λ x y. reply_of x y s) (e ∙ cond-true _ _ _ there) (h ∙ cond-true _ _ _ there) ∙ closes_by v f k s few (arity_of v f)

close_known : (v : Vocabulary) (cs : List ℕ) (us : List Use) → Known (length v.symbols) us → close_use v cs us ≡ at_close v cs us
close_known v cs [] k = refl
close_known v cs (u ∷ us) k = settles v u.symbol u.begun (record { codes = cs; uses = us; awaits = After }) k.0 k.1 _ refl _ refl

-- a step is the general one at its own closing
pub steps_with : (p : Role) (v : Vocabulary) (s : State) (b : Bool) (w : Word) (a : Await) → step_with (at_close v s.codes s.uses) p v s b w a ≡ step_by p v s b w a
steps_with p v s b w a = refl

-- so a token does to a side what the definition of reading says
pub known_step : (p : Role) (v : Vocabulary) (s : State) (o : Option Word) (b : Bool) → Known (length v.symbols) s.uses → side_step p v s o b ≡ token_step p v s o b
known_step p v s None b k = refl
known_step p v s (Some w) b k = ap (λ c. step_with c p v s b w s.awaits) (close_known v s.codes s.uses k) ∙ steps_with p v s b w s.awaits
