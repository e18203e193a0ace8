-- Which bytes separate tokens, and which make names.
use Rattle.std.specs.Prelude.{ℕ, suc, Bool, cond, ◌&&◌, ◌||◌, List, [], ◌∷◌, length, ◌==◌, nat_le, nat_lt}
use Rattle.std.specs.Char.{is_ascii_alphanumeric}
use Rattle.std.specs.List.{list_all}

-- space, tab, CR and LF
abbrev pub blank : ℕ → Bool
blank b = b == 32 || (b == 9 || (b == 13 || b == 10))

-- letters, digits, underscore and apostrophe
abbrev pub letter : ℕ → Bool
letter b = is_ascii_alphanumeric b || (b == 95 || b == 39)

abbrev pub all_letters : List ℕ → Bool
all_letters = list_all letter

-- a name has 1 to 16 letters
abbrev pub is_name : List ℕ → Bool
is_name bs = nat_lt 0 (length bs) && (all_letters bs && nat_le (length bs) 16)

-- how many bytes at the front pass a test
abbrev pub run : (ℕ → Bool) → List ℕ → ℕ
run p [] = 0
run p (b ∷ bs) = cond (p b) (suc (run p bs)) 0
