-- What is known of a state: its term's codes, its first redex and its next codes; and of the plain jobs that agree with it.
use Rattle.std.proofs.Common.{◌≡◌, ℕ, ◌<◌, ◌≤◌, T, List, [], ◌∷◌, length, arith, leb→le}
use Rattle.terms.specs.Limits.{most_term}
use Rattle.terms.specs.Terms.{Term, codes, size}
use Rattle.terms.specs.Codes.{is_term, term_of, counts}
use Rattle.terms.specs.Steps.{Step, Derivation.done, Derivation.then, FirstRedex}
use Rattle.terms.proofs.Booleans.{fst_of}
use Rattle.terms.proofs.Readings.{counted_codes}
use Rattle.terms.proofs.Views.{counted}
use Rattle.rewriting.specs.Replies.{answer, codes_after}
use Rattle.rewriting.specs.Laws.{Rewrites}
use Rattle.rewriting.proofs.Looks.{first_means}
use Rattle.rewriting.proofs.Stepwise.{size_of}
use Rattle.rewriting.proofs.Telling.{rewrite_law, rewrite_term}
use Rattle.job_calls.specs.Calls.{State, moved, following, first}
use Rattle.job_calls.specs.Runs.{Sound, Lasts, term_in}

module _ (s : State) (sound : Sound s) where
  pub whole : codes (term_in s) ≡ s.codes
  whole = counted_codes s.arities s.codes (counted s.arities s.codes sound.term)

  pub sized : size (term_in s) ≡ length s.codes
  sized = size_of s.arities sound.few s.codes sound.term 0

  pub short : length s.codes ≤ most_term
  short = leb→le (length s.codes) 1024 (fst_of _ (counts s.arities 1 s.codes) sound.term)

  pub first_is : FirstRedex s.rules (term_in s) (first s)
  first_is = first_means s.arities sound.few s.rules sound.rules_fine s.codes sound.term

  pub rewrites : (n at : ℕ) → Rewrites s.rules (term_in s) n at (answer (following s n at)) (term_of s.arities (codes_after s.codes (following s n at)))
  rewrites n at = rewrite_law s.arities sound.few s.codes at s.rules sound.rules_fine sound.term n

  pub next_term : (n at : ℕ) → T (is_term s.arities (codes_after s.codes (following s n at)))
  next_term n at = rewrite_term s.arities sound.few s.codes at s.rules sound.rules_fine sound.term n

-- a step more is within the reserve
pub room_left : (s : State) → Lasts s → (n at : ℕ) (u : Term) → Step s.rules n at (term_in s) u → s.count < s.reserve
room_left s lasts n at u x = let h = lasts (n ∷ []) u (then x done) in omega arith

-- the next state
module _ (s : State) (sound : Sound s) (lasts : Lasts s) (cs : List ℕ) (n at : ℕ) (step : Step s.rules n at (term_in s) (term_of s.arities cs)) where
  pub sound_moved : T (is_term s.arities cs) → Sound (moved s cs)
  sound_moved ok = record { few = sound.few; rules_fine = sound.rules_fine; term = ok; within = (let h = room_left s lasts n at _ step in omega arith) }

  pub lasts_moved : Lasts (moved s cs)
  lasts_moved ns u d = let h = lasts (n ∷ ns) u (then step d) in omega arith
