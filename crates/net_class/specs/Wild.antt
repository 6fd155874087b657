-- Patterns of names. `*` stands for any characters, also for none; `?` for one character; any other byte for itself, or, where
-- case is folded, for its letter of ASCII in either case. Texts are in UTF-8, and a character is a byte with all bytes that
-- continue it (RFC 3629). A `*` stands here for any bytes: what matches so matches with whole characters too, since a pattern
-- goes on behind a `*` with a character, or with a `?`, which takes what is left of one.
use Rattle.std.specs.Prelude.{◌≡◌, ℕ, List, [], ◌∷◌, ◌++◌, Bool, true, false, ◌&&◌, ◌||◌, ◌==◌, nat_le, nat_lt, IsTrue, if◌then◌else◌}
use Rattle.std.specs.Char.{eq_ignore_ascii_case}

pub data Sign : Type 0 where
  any : Sign
  one : Sign
  letter : ℕ → Sign

-- `*` is 42, `?` is 63
abbrev pub sign_of : ℕ → Sign
sign_of byte = if byte == 42 then any else (if byte == 63 then one else letter byte)

-- a byte that is not the first of its character
abbrev pub continues : ℕ → Bool
continues byte = nat_le 128 byte && nat_lt byte 192

-- what stands behind the bytes that continue a character
abbrev pub next_character : List ℕ → List ℕ
next_character [] = []
next_character (b ∷ text) = if continues b then next_character text else (b ∷ text)

abbrev pub is_same : Bool → ℕ → ℕ → Bool
is_same fold a b = if fold then eq_ignore_ascii_case a b else (a == b)

-- ---- as a relation

-- the sign stands for a prefix of the text, and P holds of what is left
abbrev pub MatchesSign : Bool → Sign → (List ℕ → Type 0) → List ℕ → Type 0
MatchesSign fold any P text = (prefix rest : List ℕ) × (text ≡ prefix ++ rest) × P rest
MatchesSign fold one P [] = ⊥
MatchesSign fold one P (b ∷ text) = P (next_character text)
MatchesSign fold (letter a) P [] = ⊥
MatchesSign fold (letter a) P (b ∷ text) = IsTrue (is_same fold a b) × P text

-- the pattern stands for the whole text
abbrev pub Matches : Bool → List ℕ → List ℕ → Type 0
Matches fold [] text = text ≡ []
Matches fold (c ∷ pattern) text = MatchesSign fold (sign_of c) (Matches fold pattern) text

-- ---- as a test, for definitions that compute

abbrev pub stands : Bool → Sign → (List ℕ → Bool) → List ℕ → Bool
stands fold any test [] = test []
stands fold any test (b ∷ text) = test (b ∷ text) || stands fold any test text
stands fold one test [] = false
stands fold one test (b ∷ text) = test (next_character text)
stands fold (letter a) test [] = false
stands fold (letter a) test (b ∷ text) = is_same fold a b && test text

abbrev pub is_empty : List ℕ → Bool
is_empty [] = true
is_empty (b ∷ text) = false

unfoldable pub matches : Bool → List ℕ → List ℕ → Bool
matches fold [] text = is_empty text
matches fold (c ∷ pattern) text = stands fold (sign_of c) (matches fold pattern) text
