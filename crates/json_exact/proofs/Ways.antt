-- Each begun character has an end, and a letter that is no hexadecimal digit stands in none but alone.
use Rattle.std.proofs.Common.{◌≡◌, ◌≢◌, ℕ, List, [], ◌∷◌, Bool, true, false, cond, refl, ◌||◌}
use Rattle.std.specs.Prelude.{◌==◌}
use Rattle.json_exact.specs.Characters.{Way, refused, whole, next, one, tail, two_digits, low_half, surrogate, digits, escape, character, step, steps, within, is_plain, is_d, is_hex, is_high_digit, is_low_digit, is_short}

abbrev pub Tidy : Way → Type 0
Tidy refused = Unit {0}
Tidy whole = Unit {0}
Tidy (next f) = ((q : List ℕ) × (steps (next f) q ≡ whole)) × (f 120 ≡ refused) × ((b : ℕ) → Tidy (f b))

either : (b : Bool) (v w : Way) → Tidy v → Tidy w → Tidy (cond b v w)
either true v w h k = h
either false v w h k = k

tidy_whole : Tidy whole
tidy_whole = tt

tidy_tail : Tidy (tail whole)
tidy_tail = ((128 ∷ [], refl), refl, λ b. either (within 128 191 b) whole refused tt tt)

tidy_tails : Tidy (tail (tail whole))
tidy_tails = ((128 ∷ 128 ∷ [], refl), refl, λ b. either (within 128 191 b) (tail whole) refused tidy_tail tt)

tidy_tails3 : Tidy (tail (tail (tail whole)))
tidy_tails3 = ((128 ∷ 128 ∷ 128 ∷ [], refl), refl, λ b. either (within 128 191 b) (tail (tail whole)) refused tidy_tails tt)

tidy_digit : Tidy (one is_hex whole)
tidy_digit = ((48 ∷ [], refl), refl, λ b. either (is_hex b) whole refused tt tt)

tidy_two : Tidy (two_digits whole)
tidy_two = ((48 ∷ 48 ∷ [], refl), refl, λ b. either (is_hex b) (one is_hex whole) refused tidy_digit tt)

tidy_three : Tidy (one is_hex (two_digits whole))
tidy_three = ((48 ∷ 48 ∷ 48 ∷ [], refl), refl, λ b. either (is_hex b) (two_digits whole) refused tidy_two tt)

abbrev low3 : Way
low3 = one is_low_digit (two_digits whole)

tidy_low3 : Tidy low3
tidy_low3 = ((67 ∷ 48 ∷ 48 ∷ [], refl), refl, λ b. either (is_low_digit b) (two_digits whole) refused tidy_two tt)

tidy_low2 : Tidy (one is_d low3)
tidy_low2 = ((68 ∷ 67 ∷ 48 ∷ 48 ∷ [], refl), refl, λ b. either (is_d b) low3 refused tidy_low3 tt)

tidy_low1 : Tidy (one (λ b. b == 117) (one is_d low3))
tidy_low1 = ((117 ∷ 68 ∷ 67 ∷ 48 ∷ 48 ∷ [], refl), refl, λ b. either (b == 117) (one is_d low3) refused tidy_low2 tt)

tidy_low : Tidy low_half
tidy_low = ((92 ∷ 117 ∷ 68 ∷ 67 ∷ 48 ∷ 48 ∷ [], refl), refl, λ b. either (b == 92) (one (λ c. c == 117) (one is_d low3)) refused tidy_low1 tt)

tidy_high1 : Tidy (one is_hex low_half)
tidy_high1 = ((48 ∷ 92 ∷ 117 ∷ 68 ∷ 67 ∷ 48 ∷ 48 ∷ [], refl), refl, λ b. either (is_hex b) low_half refused tidy_low tt)

tidy_high : Tidy (two_digits low_half)
tidy_high = ((48 ∷ 48 ∷ 92 ∷ 117 ∷ 68 ∷ 67 ∷ 48 ∷ 48 ∷ [], refl), refl, λ b. either (is_hex b) (one is_hex low_half) refused tidy_high1 tt)

tidy_surrogate : Tidy surrogate
tidy_surrogate = (
  (48 ∷ 48 ∷ 48 ∷ [], refl),
  refl,
  λ b. either (within 48 55 b) (two_digits whole) (cond (is_high_digit b) (two_digits low_half) refused) tidy_two
      (either (is_high_digit b) (two_digits low_half) refused tidy_high tt),
)

tidy_digits : Tidy digits
tidy_digits = (
  (48 ∷ 48 ∷ 48 ∷ 48 ∷ [], refl),
  refl,
  λ b. either (is_d b) surrogate (cond (is_hex b) (one is_hex (two_digits whole)) refused) tidy_surrogate
      (either (is_hex b) (one is_hex (two_digits whole)) refused tidy_three tt),
)

tidy_escape : Tidy escape
tidy_escape = ((110 ∷ [], refl), refl, λ b. either (is_short b) whole (cond (b == 117) digits refused) tt (either (b == 117) digits refused tidy_digits tt))

tidy_224 : Tidy (one (within 160 191) (tail whole))
tidy_224 = ((160 ∷ 128 ∷ [], refl), refl, λ b. either (within 160 191 b) (tail whole) refused tidy_tail tt)

tidy_237 : Tidy (one (within 128 159) (tail whole))
tidy_237 = ((128 ∷ 128 ∷ [], refl), refl, λ b. either (within 128 159 b) (tail whole) refused tidy_tail tt)

tidy_240 : Tidy (one (within 144 191) (tail (tail whole)))
tidy_240 = ((144 ∷ 128 ∷ 128 ∷ [], refl), refl, λ b. either (within 144 191 b) (tail (tail whole)) refused tidy_tails tt)

tidy_244 : Tidy (one (within 128 143) (tail (tail whole)))
tidy_244 = ((128 ∷ 128 ∷ 128 ∷ [], refl), refl, λ b. either (within 128 143 b) (tail (tail whole)) refused tidy_tails tt)

pub tidy_character : (b : ℕ) → Tidy (character b)
tidy_character b =
    either (is_plain b) _ _ tt (either (b == 92) _ _ tidy_escape (either (within 194 223 b) _ _ tidy_tail (either (b == 224) _ _ tidy_224
    (either (within 225 236 b || within 238 239 b) _ _ tidy_tails (either (b == 237) _ _ tidy_237 (either (b == 240) _ _ tidy_240
    (either (within 241 243 b) _ _ tidy_tails3 (either (b == 244) _ refused tidy_244 tt))))))))

tidy_step : (w : Way) (b : ℕ) → Tidy w → Tidy (step w b)
tidy_step refused b h = tt
tidy_step whole b h = tidy_character b
tidy_step (next f) b h = h.2 b

pub tidy_steps : (w : Way) (p : List ℕ) → Tidy w → Tidy (steps w p)
tidy_steps w [] h = h
tidy_steps w (b ∷ p) h = tidy_steps (step w b) p (tidy_step w b h)

-- what is not refused can be ended
pub has_end : (w : Way) → Tidy w → w ≢ refused → (q : List ℕ) × (steps w q ≡ whole)
has_end refused h n = absurd (n refl)
has_end whole h n = ([], refl)
has_end (next f) h n = h.0

-- inside a character no letter x stands
pub no_letter_inside : (w : Way) → Tidy w → w ≢ whole → step w 120 ≡ refused
no_letter_inside refused h n = refl
no_letter_inside whole h n = absurd (n refl)
no_letter_inside (next f) h n = h.1
