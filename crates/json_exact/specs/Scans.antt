-- What the readers of blanks, words, numbers and strings say of the bytes that they pass.
-- This is what the reader keeps, and no caller needs it.
use Rattle.std.specs.Prelude.{◌≡◌, ◌≢◌, ℕ, suc, ◌+◌, ◌-◌, ◌<◌, ◌≤◌, ◌⊎◌, List, [], ◌∷◌, length, take, slice_range, slice_index, Bool, true, false, cond, ◌||◌, ◌==◌}
use Rattle.json_exact.specs.Characters.{Way, refused, whole, one, tail, steps, within, is_hex, is_d, is_low_digit, AreCharacters}
use Rattle.json_exact.specs.JsonNumbers.{is_digit, is_mark}
use Rattle.json_exact.specs.JsonText.{is_blank, AreBlanks}
use Rattle.json_exact.specs.JsonRefusals.{IsSurrogate, CountsAt}
use Rattle.json_exact.specs.declared.scan.Last.{Last}
use Rattle.json_exact.specs.declared.scan.Last.TheVariants.{Nothing, Minus, Zero, Whole, Point, Fraction, Mark, Sign, Exponent, Misplaced}
use Rattle.json_exact.specs.declared.strings.Class.{Class}
use Rattle.json_exact.specs.declared.strings.Class.TheVariants.{Range, Byte, Hex, D, Low}

-- the blanks from `at` end before `end`
pub record PassesBlanks (text : List ℕ) (at : ℕ) (end : ℕ) : Type 0 where
  pub forward : at ≤ end
  pub in_text : end ≤ length text
  pub blanks : AreBlanks (slice_range text at end)
  pub next : end < length text → is_blank (slice_index text end) ≡ false

-- the word stands from `at` to `end`
pub record PassesWord (text : List ℕ) (at : ℕ) (bytes : List ℕ) (end : ℕ) : Type 0 where
  pub end_at : end ≡ at + length bytes
  pub in_text : end ≤ length text
  pub word : slice_range text at end ≡ bytes

-- the text has the word up to k and no longer
pub record StopsWord (text : List ℕ) (at : ℕ) (word : List ℕ) (k : ℕ) : Type 0 where
  pub forward : at ≤ k
  pub in_text : k ≤ length text
  pub shorter : k < at + length word
  pub before : slice_range text at k ≡ take (k - at) word
  pub byte : k < length text → slice_index text k ≢ slice_index word (k - at)

-- ---- numbers, by what was written last

abbrev pub is_sign : ℕ → Bool
is_sign b = (b == 43) || (b == 45)

abbrev pub is_in_number : ℕ → Bool
is_in_number b = is_digit b || (is_sign b || ((b == 46) || is_mark b))

abbrev pub then : Last → ℕ → Last
then Nothing b = cond (b == 45) Minus (cond (b == 48) Zero (cond (is_digit b) Whole Misplaced))
then Minus b = cond (b == 48) Zero (cond (is_digit b) Whole Misplaced)
then Zero b = cond (b == 46) Point (cond (is_mark b) Mark Misplaced)
then Whole b = cond (is_digit b) Whole (cond (b == 46) Point (cond (is_mark b) Mark Misplaced))
then Point b = cond (is_digit b) Fraction Misplaced
then Fraction b = cond (is_digit b) Fraction (cond (is_mark b) Mark Misplaced)
then Mark b = cond (is_digit b) Exponent (cond (is_sign b) Sign Misplaced)
then Sign b = cond (is_digit b) Exponent Misplaced
then Exponent b = cond (is_digit b) Exponent Misplaced
then Misplaced b = Misplaced

abbrev pub written : Last → List ℕ → Last
written last [] = last
written last (b ∷ bs) = written (then last b) bs

abbrev pub may_end : Last → Bool
may_end Nothing = false
may_end Minus = false
may_end Zero = true
may_end Whole = true
may_end Point = false
may_end Fraction = true
may_end Mark = false
may_end Sign = false
may_end Exponent = true
may_end Misplaced = false

pub record PassesNumber (text : List ℕ) (at : ℕ) (end : ℕ) : Type 0 where
  pub forward : at ≤ end
  pub in_text : end ≤ length text
  pub number : may_end (written Nothing (slice_range text at end)) ≡ true
  pub next : end < length text → is_in_number (slice_index text end) ≡ false

-- Up to k a number may be written, and not with the byte at k. What is whole before k goes on with a byte of a number.
pub record StopsNumber (text : List ℕ) (at : ℕ) (k : ℕ) : Type 0 where
  pub forward : at ≤ k
  pub in_text : k ≤ length text
  pub before : written Nothing (slice_range text at k) ≢ Misplaced
  pub byte : k < length text → then (written Nothing (slice_range text at k)) (slice_index text k) ≡ Misplaced
  pub whole : may_end (written Nothing (slice_range text at k)) ≡ true → (k < length text) × (is_in_number (slice_index text k) ≡ true)

-- ---- characters

abbrev pub accepts : Class → ℕ → Bool
accepts (Range low high) b = within low high b
accepts (Byte c) b = b == c
accepts Hex b = is_hex b
accepts D b = is_d b
accepts Low b = is_low_digit b

abbrev pub way_of : List Class → Way
way_of [] = whole
way_of (c ∷ cs) = one (accepts c) (way_of cs)

-- the last ways of `character`
abbrev pub four_bytes : ℕ → Way
four_bytes b =
    cond (b == 240) (one (within 144 191) (tail (tail whole)))
    (cond (within 241 243 b) (tail (tail (tail whole)))
    (cond (b == 244) (one (within 128 143) (tail (tail whole))) refused))

-- from `at` to `end` a character is written to its end in this way
pub record PassesWay (way : Way) (text : List ℕ) (at : ℕ) (end : ℕ) : Type 0 where
  pub forward : at ≤ end
  pub in_text : end ≤ length text
  pub written : steps way (slice_range text at end) ≡ whole

-- from `at` to k a character is begun in this way, and not with the byte at k
pub record StopsWay (way : Way) (text : List ℕ) (at : ℕ) (k : ℕ) : Type 0 where
  pub forward : at ≤ k
  pub in_text : k ≤ length text
  pub inside : (j : ℕ) → at ≤ j → j ≤ k → steps way (slice_range text at j) ≢ whole
  pub before : steps way (slice_range text at k) ≢ refused
  pub byte : k < length text → steps way (slice_range text at (suc k)) ≡ refused

-- a surrogate's escape stands at `at`, and the text stops inside the character that it begins
pub record IsHalf (text : List ℕ) (at : ℕ) (k : ℕ) : Type 0 where
  pub stops_inside : k < length text
  pub surrogate : IsSurrogate (slice_range text at (suc k))

-- from `at` to `end` whole characters stand
pub record PassesCharacter (text : List ℕ) (at : ℕ) (end : ℕ) : Type 0 where
  pub forward : at < end
  pub in_text : end ≤ length text
  pub characters : AreCharacters (slice_range text at end)

-- the character at `at` may go on up to k, and not with the byte at k
pub record StopsCharacter (text : List ℕ) (at : ℕ) (k : ℕ) : Type 0 where
  pub forward : at ≤ k
  pub in_text : k ≤ length text
  pub inside : (j : ℕ) → at < j → j ≤ k → steps whole (slice_range text at j) ≢ whole
  pub before : steps whole (slice_range text at k) ≢ refused
  pub byte : k < length text → steps whole (slice_range text at (suc k)) ≡ refused

-- From `at`, just behind the opening quote, characters stand up to a closing quote before `end`.
pub record EndsString (text : List ℕ) (at : ℕ) (end : ℕ) : Type 0 where
  pub forward : at < end
  pub in_text : end ≤ length text
  pub characters : AreCharacters (slice_range text at (end - 1))
  pub quote : slice_index text (end - 1) ≡ 34

-- The characters from `at` stop at k: up to k they may go on, and with the byte at k they may not.
-- The last of them is whole before i, which is k itself or stands inside a character.
pub record StopsString (text : List ℕ) (at : ℕ) (i : ℕ) (k : ℕ) : Type 0 where
  pub forward : at ≤ i
  pub order : i ≤ k
  pub in_text : k ≤ length text
  pub characters : AreCharacters (slice_range text at i)
  pub inside : (j : ℕ) → i < j → j ≤ k → steps whole (slice_range text at j) ≢ whole
  pub before : steps whole (slice_range text at k) ≢ refused
  pub quote : k < length text → i ≡ k → slice_index text k ≢ 34
  pub byte : k < length text → steps whole (slice_range text at (suc k)) ≡ refused

-- what is counted where the text stops at k inside the character at i
abbrev pub CountsCharacter : List ℕ → ℕ → ℕ → ℕ → Type 0
CountsCharacter text i k counted = (IsHalf text i k × CountsAt text i counted) ⊎ ((IsHalf text i k → ⊥) × (counted ≡ k))

-- what is counted where a string stops
abbrev pub CountsString : List ℕ → ℕ → ℕ → Type 0
CountsString text at counted = (i k : ℕ) × StopsString text at i k × CountsCharacter text i k counted
