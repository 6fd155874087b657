-- How far a pattern is matched without a choice: up to its next `*`, or to its end.
use Rattle.std.specs.Prelude.{ℕ, List, [], ◌∷◌, Bool, false, ◌==◌, Option, None, Some, if◌then◌else◌}
use Rattle.net_class.specs.Wild.{Sign, any, one, letter, sign_of, next_character, is_same, matches, stands}

-- what is left of the text behind what one sign stands for; a `*` leaves it open
abbrev pub behind : Bool → Sign → List ℕ → Option (List ℕ)
behind fold any text = None
behind fold one [] = None
behind fold one (b ∷ text) = Some (next_character text)
behind fold (letter a) [] = None
behind fold (letter a) (b ∷ text) = if is_same fold a b then Some text else None

-- what is left of a pattern and of a text
pub record Rests : Type 0 where
  pub pattern : List ℕ
  pub text : List ℕ

abbrev pub and_then : Option (List ℕ) → (List ℕ → Option Rests) → Option Rests
and_then None go_on = None
and_then (Some text) go_on = go_on text

unfoldable pub run_of : Bool → List ℕ → List ℕ → Option Rests
run_of fold [] text = Some (record { pattern = []; text = text })
run_of fold (c ∷ pattern) text =
    if c == 42 then Some (record { pattern = c ∷ pattern; text = text }) else and_then (behind fold (sign_of c) text) (run_of fold pattern)

-- whether the rests match, where there are any
abbrev pub rests_match : Bool → Option Rests → Bool
rests_match fold None = false
rests_match fold (Some r) = matches fold r.pattern r.text

-- whether the pattern stands for some end of the text
abbrev pub matches_an_end : Bool → List ℕ → List ℕ → Bool
matches_an_end fold pattern text = stands fold any (matches fold pattern) text
