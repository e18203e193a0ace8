-- What a line says, in a planner's words.
use Rattle.std.specs.Prelude.{◌≡◌, ◌≢◌, ◌<◌, ◌↔◌, ℕ, List, [], ◌∷◌, length, Some, None, Option, codes}
use Rattle.std.specs.List.{All, join_with_byte}
use Rattle.commands.specs.declared.command.Opening.TheVariants.{Full, Short}
use Rattle.commands.specs.Words.{Word}
use Rattle.commands.specs.Numerals.{Numeral}
use Rattle.commands.specs.Requests.{Request, Request.measure, Request.compare, Request.ceiling, Request.pool, Request.reserve, Request.settle, Request.free, Request.opening, Request.step, Request.sweep, Request.look, Request.copy, Request.term, Request.help}

-- a word is not empty, and has no blank in it
abbrev pub IsWord : List ℕ → Type 0
IsWord w = (0 < length w) × All (λ b. b ≢ 32) w

-- a line is some words, with one blank between each two
pub record Written (line : List ℕ) (ws : List Word) : Type 0 where
  pub words : All IsWord ws
  pub joined : line ≡ join_with_byte 32 ws

-- how each request is spelled; t is any word
pub data Spells : Request → List Word → Type 0 where
  measure_start : Spells (measure None) (codes "measure" ∷ [])
  measure_term : {t : Word} → Spells (measure (Some t)) (codes "measure" ∷ t ∷ [])
  compare_at : {w : Word} {i : ℕ} → Numeral 64 w i → Spells (compare i) (codes "compare" ∷ w ∷ [])
  ceiling_of : {w : Word} {n : ℕ} → Numeral 64 w n → Spells (ceiling n) (codes "ceiling" ∷ w ∷ [])
  pool_of : {w v : Word} {size first : ℕ} → Numeral 64 w size → Numeral 32 v first
      → Spells (pool size first) (codes "pool" ∷ w ∷ v ∷ [])
  reserve_of : {w : Word} {amount : ℕ} → Numeral 64 w amount → Spells (reserve amount) (codes "reserve" ∷ w ∷ [])
  settle_of : {w : Word} {number : ℕ} → Numeral 32 w number → Spells (settle number) (codes "settle" ∷ w ∷ [])
  free_all : Spells free (codes "free" ∷ [])
  open_full : {w : Word} {number : ℕ} → Numeral 32 w number
      → Spells (opening Full number None) (codes "open" ∷ codes "full" ∷ w ∷ [])
  open_full_term : {w t : Word} {number : ℕ} → Numeral 32 w number
      → Spells (opening Full number (Some t)) (codes "open" ∷ codes "full" ∷ w ∷ t ∷ [])
  open_short : {w : Word} {number : ℕ} → Numeral 32 w number
      → Spells (opening Short number None) (codes "open" ∷ codes "short" ∷ w ∷ [])
  open_short_term : {w t : Word} {number : ℕ} → Numeral 32 w number
      → Spells (opening Short number (Some t)) (codes "open" ∷ codes "short" ∷ w ∷ t ∷ [])
  step_at : {w v u : Word} {number rule place : ℕ} → Numeral 32 w number → Numeral 64 v rule → Numeral 64 u place
      → Spells (step number rule place) (codes "step" ∷ w ∷ v ∷ u ∷ [])
  sweep_for : {w v : Word} {number n : ℕ} → Numeral 32 w number → Numeral 64 v n
      → Spells (sweep number n) (codes "sweep" ∷ w ∷ v ∷ [])
  look_on : Spells look (codes "look" ∷ [])
  copy_to : {w : Word} {n : ℕ} → Numeral 64 w n → Spells (copy n) (codes "copy" ∷ w ∷ [])
  term_now : Spells term (codes "term" ∷ [])
  help_us : Spells help (codes "help" ∷ [])

-- a line says a request, if its words spell it
abbrev pub Says : List ℕ → Request → Type 0
Says line r = (ws : List Word) × Written line ws × Spells r ws

-- exactly what a line says is read, so that it says one request at most; and nothing is read exactly if it says none
pub record CommandExactly (line : List ℕ) (read : Option Request) : Type 0 where
  pub said : (r : Request) → (read ≡ Some r) ↔ Says line r
  pub unsaid : (read ≡ None) ↔ ((r : Request) → ¬ Says line r)
