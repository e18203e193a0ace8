-- Words with their flags: whether no bracket follows.
use Rattle.std.specs.Prelude.{Bool, true, not, List, [], ◌∷◌, ◌++◌}
use Rattle.tokens.specs.Tokens.{Word}
use Rattle.reading.specs.Sides.{is_open, Flagged}

abbrev pub bare_words : List Word → Bool
bare_words [] = true
bare_words (w ∷ ws) = not (is_open w)

-- words before others
abbrev pub flagged : List Word → List Word → List Flagged
flagged [] after = []
flagged (w ∷ ws) after = record { word = w; bare = bare_words (ws ++ after) } ∷ flagged ws after
