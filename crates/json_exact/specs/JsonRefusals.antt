-- Where a text is refused. This is told by what texts there are, and by no way to read them: a text is
-- refused at the first byte with which no text goes on, or at its end where it ends too early.
use Rattle.std.specs.Prelude.{◌≡◌, ℕ, suc, ◌+◌, ◌-◌, ◌<◌, ◌≤◌, ◌⊎◌, List, [], ◌∷◌, ◌++◌, length, take, drop, slice_index, true, false, IsTrue}
use Rattle.json_exact.specs.Json.{Json}
use Rattle.json_exact.specs.Characters.{is_d, is_hex, is_high_digit, is_low_digit}
use Rattle.json_exact.specs.JsonText.{SpelledWithin}
use Rattle.json_exact.specs.declared.error.JsonError.{JsonError}
use Rattle.json_exact.specs.declared.error.JsonError.TheVariants.{Bad, TooDeep, OutOfMemory}

-- how deep brackets may nest
abbrev pub depth_limit : ℕ
depth_limit = 64

-- some text that begins so spells a value
abbrev pub CanGoOn : ℕ → List ℕ → Type 0
CanGoOn levels bytes = (rest : List ℕ) × (v : Json) × SpelledWithin levels (bytes ++ rest) v

-- The text can go on up to k, and with its byte at k it cannot, however deep the brackets. At its end, it is no value.
pub record Stops (text : List ℕ) (k : ℕ) : Type 0 where
  pub in_text : k ≤ length text
  pub before : CanGoOn depth_limit (take k text)
  pub byte : k < length text → (more : ℕ) → CanGoOn (depth_limit + more) (take (suc k) text) → ⊥
  pub whole : k ≡ length text → (more : ℕ) (v : Json) → SpelledWithin (depth_limit + more) text v → ⊥

-- The escape of a low surrogate, or that of a high one and then something more.
abbrev pub IsSurrogate : List ℕ → Type 0
IsSurrogate bytes =
    (d c : ℕ) × (more : List ℕ) × (bytes ≡ 92 ∷ 117 ∷ d ∷ c ∷ more) × IsTrue (is_d d)
    × (IsTrue (is_low_digit c) ⊎ (IsTrue (is_high_digit c) × (2 < length more)))

-- A letter (here x) could stand in place of the byte at s and not later up to k, so a character begins at s,
-- and the text stops at k inside it; and that character is the escape of a surrogate that would stay alone.
pub record IsAlone (text : List ℕ) (s : ℕ) (k : ℕ) : Type 0 where
  pub order : s ≤ k
  pub stops_inside : k < length text
  pub letter : CanGoOn depth_limit (take s text ++ 120 ∷ [])
  pub no_letter : (j : ℕ) → s < j → j ≤ k → CanGoOn depth_limit (take j text ++ 120 ∷ []) → ⊥
  pub surrogate : IsSurrogate (take (suc k - s) (drop s text))

-- the hexadecimal digits of the escape at s end there; four of them belong to it
pub record EndsDigits (text : List ℕ) (s : ℕ) (end : ℕ) : Type 0 where
  pub forward : s + 2 ≤ end
  pub few : end ≤ s + 6
  pub in_text : end ≤ length text
  pub digits : (i : ℕ) → s + 2 ≤ i → i < end → is_hex (slice_index text i) ≡ true
  pub next : end < s + 6 → end < length text → is_hex (slice_index text end) ≡ false

-- A surrogate counts at its backslash. An escape with fewer than four digits is no surrogate yet, and counts where
-- its digits end.
abbrev pub CountsAt : List ℕ → ℕ → ℕ → Type 0
CountsAt text s at = (end : ℕ) × EndsDigits text s end × (((end ≡ s + 6) × (at ≡ s)) ⊎ ((end < s + 6) × (at ≡ end)))

-- where the text stops, or where the surrogate counts that would stay alone there
abbrev pub IsBad : List ℕ → ℕ → Type 0
IsBad text at =
    (k : ℕ) × Stops text k
    × (((s : ℕ) × IsAlone text s k × CountsAt text s at) ⊎ (((s : ℕ) → IsAlone text s k → ⊥) × (at ≡ k)))

-- The bracket at this place is the first that opens a level too many: up to it the text can go on within
-- the levels, with it only to one level more.
pub record IsTooDeep (text : List ℕ) (at : ℕ) : Type 0 where
  pub in_text : at < length text
  pub bracket : (slice_index text at ≡ 91) ⊎ (slice_index text at ≡ 123)
  pub before : CanGoOn depth_limit (take at text)
  pub too_deep : CanGoOn depth_limit (take (suc at) text) → ⊥
  pub deeper : CanGoOn (suc depth_limit) (take (suc at) text)

-- the text is refused so; running out of memory says nothing of it
abbrev pub IsRefused : List ℕ → JsonError → Type 0
IsRefused text (Bad at) = IsBad text at
IsRefused text (TooDeep at) = IsTooDeep text at
IsRefused text OutOfMemory = Unit {0}
