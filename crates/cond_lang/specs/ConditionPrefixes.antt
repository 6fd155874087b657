-- Where the prefix of a text stops being the prefix of a condition. Types and levels are taken as they come here: a text that is
-- refused for one of these alone goes on. A length and a text between quotes are asked apart, as they are refused whole.
use Rattle.std.specs.Prelude.{◌≡◌, ◌⊎◌, ℕ, ◌+◌, true, false, ◌||◌, int_lt, List, [], ◌∷◌, ◌++◌, length, pos, ℤ, Result, Ok, Err}
use Rattle.std.specs.Str.{is_utf8}
use Rattle.std.specs.Str.Lossy.{utf8_valid_len}
use Rattle.plain_types.specs.Lengths.{greatest}
use Rattle.exact_dec.specs.declared.DecError.{DecError}
use Rattle.exact_dec.specs.Computed.{with_unit_answer}
use Rattle.cond_lang.specs.declared.error.CondError.{CondError}
use Rattle.cond_lang.specs.declared.error.CondError.TheVariants.{Bad, UnknownName, TypeClash, TooDeep, OutOfMemory}
use Rattle.cond_lang.specs.Found.{Found, read, fault}
use Rattle.cond_lang.specs.Signs.{prefix_text}
use Rattle.cond_lang.specs.UnitNumbers.{spelled, measure}
use Rattle.cond_lang.specs.Trees.{CondTree}
use Rattle.cond_lang.specs.Conditions.{reading}

-- ---- prefixes of conditions

abbrev pub IsTakenAsItComes : CondError → Type 0
IsTakenAsItComes (Bad at) = ⊥
IsTakenAsItComes (UnknownName at) = ⊥
IsTakenAsItComes (TypeClash at) = Unit {0}
IsTakenAsItComes (TooDeep at) = Unit {0}
IsTakenAsItComes OutOfMemory = ⊥

-- a condition, or refused for its types or levels alone
abbrev pub Passes : Found CondTree → Type 0
Passes (read t rest) = Unit {0}
Passes (fault e) = IsTakenAsItComes e

-- some text that begins so passes
abbrev pub GoesOn : List ℕ → Type 0
GoesOn prefix = (more : List ℕ) × Passes (reading (prefix ++ more))

-- The first k bytes go on, and with one byte more none does: each text that begins so is Bad at that byte. Where no byte follows, the
-- text ends too early.
abbrev pub IsFirstFault : List ℕ → ℕ → Type 0
IsFirstFault text k =
    (prefix rest : List ℕ) × (text ≡ prefix ++ rest) × (length prefix ≡ k) × GoesOn prefix
    × ((c : ℕ) (cs : List ℕ) → rest ≡ c ∷ cs → (more : List ℕ) → reading (prefix ++ (c ∷ more)) ≡ fault (Bad k))

-- ---- prefixes of lengths

-- some length begins so, whatever its value
abbrev pub LengthGoesOn : List ℕ → Type 0
LengthGoesOn prefix = (more : List ℕ) × (spelled (length (prefix ++ more)) (prefix ++ more) ≡ read tt [])

-- the first j bytes are a prefix of a length, and with one byte more they are a prefix of none
abbrev pub IsFirstOfLength : List ℕ → ℕ → Type 0
IsFirstOfLength text j =
    (prefix rest : List ℕ) × (text ≡ prefix ++ rest) × (length prefix ≡ j) × LengthGoesOn prefix
    × ((c : ℕ) (cs : List ℕ) → rest ≡ c ∷ cs → (more : List ℕ) → measure (length (prefix ++ (c ∷ more))) (prefix ++ (c ∷ more)) ≡ fault (Bad j))

abbrev pub IsOutOfRange : Result ℤ DecError → Type 0
IsOutOfRange (Ok nm) = (int_lt nm (pos 0) || int_lt greatest nm) ≡ true
IsOutOfRange (Err e) = Unit {0}

-- a whole length, whose value is no number from 0 to 500 mm
abbrev pub IsRefusedLength : List ℕ → Type 0
IsRefusedLength text = (whole rest : List ℕ) × (text ≡ whole ++ rest) × (spelled (length whole) whole ≡ read tt []) × IsOutOfRange (with_unit_answer whole)

-- Behind a prefix that goes on stands a length: it is refused where it begins, or stops being one at k.
abbrev pub IsInLength : List ℕ → ℕ → Type 0
IsInLength text k =
    (prefix rest : List ℕ) × (text ≡ prefix ++ rest) × GoesOn prefix
    × (((k ≡ length prefix) × IsRefusedLength rest) ⊎ ((j : ℕ) × (k ≡ length prefix + j) × IsFirstOfLength rest j))

-- ---- texts between quotes

-- behind a prefix that goes on and ends with a quote (39) stand signs, up to the next quote, that are no UTF-8 from k on
abbrev pub IsInQuotes : List ℕ → ℕ → Type 0
IsInQuotes text k =
    (prefix rest : List ℕ) × (text ≡ prefix ++ rest) × GoesOn prefix × (is_utf8 (prefix_text rest) ≡ false) × (k ≡ length prefix + utf8_valid_len (prefix_text rest))

-- ---- all

abbrev pub StandsFirst : List ℕ → ℕ → Type 0
StandsFirst text k = IsFirstFault text k ⊎ (IsInLength text k ⊎ IsInQuotes text k)
