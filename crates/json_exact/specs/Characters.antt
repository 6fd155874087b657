-- How the characters of a string are written (RFC 8259, section 7, over the UTF-8 of RFC 3629, section 4).
-- A surrogate stands only in a pair, since alone it is no character.
use Rattle.std.specs.Prelude.{◌≡◌, ℕ, ◌+◌, ◌-◌, ◌*◌, List, [], ◌∷◌, ◌++◌, Bool, cond, ◌&&◌, ◌||◌, ◌==◌, nat_le, nat_lt}
use Rattle.std.specs.Char.{encode_utf8}

abbrev pub within : ℕ → ℕ → ℕ → Bool
within low high b = nat_le low b && nat_le b high

-- `0` to `9`, `A` to `F` and `a` to `f`
abbrev pub is_hex : ℕ → Bool
is_hex b = within 48 57 b || (within 65 70 b || within 97 102 b)

-- the second digit of a surrogate's number is `8` to `B` for a high one, `C` to `F` for a low one; the first is `D`
abbrev pub is_d : ℕ → Bool
is_d b = (b == 68) || (b == 100)

abbrev pub is_high_digit : ℕ → Bool
is_high_digit b = within 56 57 b || (within 65 66 b || within 97 98 b)

abbrev pub is_low_digit : ℕ → Bool
is_low_digit b = within 67 70 b || within 99 102 b

-- what stands for itself: neither a control, nor `"`, nor `\`
abbrev pub is_plain : ℕ → Bool
is_plain b = within 32 33 b || (within 35 91 b || within 93 127 b)

-- the letter of an escape with two bytes: `"`, `\`, `/`, `b`, `f`, `n`, `r`, `t`
abbrev pub is_short : ℕ → Bool
is_short b = (b == 34) || ((b == 92) || ((b == 47) || ((b == 98) || ((b == 102) || ((b == 110) || ((b == 114) || (b == 116)))))))

-- how a character may be written on: not at all, since it is whole, or by the next byte
pub data Way : Type 0 where
  refused : Way
  whole : Way
  next : (ℕ → Way) → Way

abbrev pub one : (ℕ → Bool) → Way → Way
one test way = next (λ b. cond (test b) way refused)

abbrev pub tail : Way → Way
tail way = one (within 128 191) way

abbrev pub two_digits : Way → Way
two_digits way = one is_hex (one is_hex way)

-- the low surrogate's escape that follows a high one's
abbrev pub low_half : Way
low_half = one (λ b. b == 92) (one (λ b. b == 117) (one is_d (one is_low_digit (two_digits whole))))

-- after `\uD`
abbrev pub surrogate : Way
surrogate = next (λ b. cond (within 48 55 b) (two_digits whole) (cond (is_high_digit b) (two_digits low_half) refused))

-- after `\u`
abbrev pub digits : Way
digits = next (λ b. cond (is_d b) surrogate (cond (is_hex b) (one is_hex (two_digits whole)) refused))

-- after `\`
abbrev pub escape : Way
escape = next (λ b. cond (is_short b) whole (cond (b == 117) digits refused))

-- after the first byte of a character
abbrev pub character : ℕ → Way
character b =
    cond (is_plain b) whole (cond (b == 92) escape
    (cond (within 194 223 b) (tail whole)
    (cond (b == 224) (one (within 160 191) (tail whole))
    (cond (within 225 236 b || within 238 239 b) (tail (tail whole))
    (cond (b == 237) (one (within 128 159) (tail whole))
    (cond (b == 240) (one (within 144 191) (tail (tail whole)))
    (cond (within 241 243 b) (tail (tail (tail whole)))
    (cond (b == 244) (one (within 128 143) (tail (tail whole))) refused))))))))

-- one byte more, between characters or inside one
abbrev pub step : Way → ℕ → Way
step refused b = refused
step whole b = character b
step (next f) b = f b

abbrev pub steps : Way → List ℕ → Way
steps way [] = way
steps way (b ∷ bs) = steps (step way b) bs

-- the bytes are whole characters, one after another
abbrev pub AreCharacters : List ℕ → Type 0
AreCharacters bytes = steps whole bytes ≡ whole

-- ---- what the bytes between the quotes stand for

abbrev pub hex_value : ℕ → ℕ
hex_value b = cond (nat_lt b 65) (b - 48) (cond (nat_lt b 97) (b - 55) (b - 87))

abbrev pub code_unit : ℕ → ℕ → ℕ → ℕ → ℕ
code_unit a b c d = hex_value a * 4096 + (hex_value b * 256 + (hex_value c * 16 + hex_value d))

abbrev pub is_high_surrogate : ℕ → Bool
is_high_surrogate u = within 0xd800 0xdbff u

abbrev pub surrogate_pair : ℕ → ℕ → ℕ
surrogate_pair high low = 0x10000 + ((high - 0xd800) * 1024 + (low - 0xdc00))

-- `\b`, `\f`, `\n`, `\r` and `\t` are controls, the others stand for themselves
abbrev pub short_value : ℕ → ℕ
short_value b = cond (b == 98) 8 (cond (b == 102) 12 (cond (b == 110) 10 (cond (b == 114) 13 (cond (b == 116) 9 b))))

pub data Behind : Type 0 where
  between : Behind
  backslash : Behind
  backslash_u : Behind
  high_half : ℕ → Behind

-- the characters in UTF-8, by what stands before the bytes; nothing is said of bytes that are no characters
unfoldable pub decoded_behind : Behind → List ℕ → List ℕ
decoded_behind between [] = []
decoded_behind between (b ∷ bs) = cond (b == 92) (decoded_behind backslash bs) (b ∷ decoded_behind between bs)
decoded_behind backslash [] = []
decoded_behind backslash (b ∷ bs) = cond (b == 117) (decoded_behind backslash_u bs) (short_value b ∷ decoded_behind between bs)
decoded_behind backslash_u [] = []
decoded_behind backslash_u (a ∷ []) = []
decoded_behind backslash_u (a ∷ b ∷ []) = []
decoded_behind backslash_u (a ∷ b ∷ c ∷ []) = []
decoded_behind backslash_u (a ∷ b ∷ c ∷ d ∷ bs) =
    cond (is_high_surrogate (code_unit a b c d)) (decoded_behind (high_half (code_unit a b c d)) bs) (encode_utf8 (code_unit a b c d) ++ decoded_behind between bs)
decoded_behind (high_half h) [] = []
decoded_behind (high_half h) (s ∷ []) = []
decoded_behind (high_half h) (s ∷ u ∷ []) = []
decoded_behind (high_half h) (s ∷ u ∷ a ∷ []) = []
decoded_behind (high_half h) (s ∷ u ∷ a ∷ b ∷ []) = []
decoded_behind (high_half h) (s ∷ u ∷ a ∷ b ∷ c ∷ []) = []
decoded_behind (high_half h) (s ∷ u ∷ a ∷ b ∷ c ∷ d ∷ bs) = encode_utf8 (surrogate_pair h (code_unit a b c d)) ++ decoded_behind between bs

abbrev pub decoded : List ℕ → List ℕ
decoded bytes = decoded_behind between bytes
