-- Numbers of the usual spelling.
use Rattle.std.proofs.Common.{◌≡◌, ℕ, suc, ◌+◌, ◌-◌, ◌*◌, ◌^◌, ◌<◌, ◌≤◌, ◌||◌, Bool, true, false, List, [], ◌∷◌, ◌++◌, length, get_or, drop, ap, add-one, drop-cons, ◌∙◌, refl, arith, cond, nat_lt, Some, None}
use Rattle.std.proofs.Math.Nat.{pow-suc}
use Rattle.std.proofs.lemmas.Bool.{lt-ltb}
use Rattle.std.proofs.lemmas.Bool.Decides.{nat_tests}
use Rattle.std.proofs.lemmas.List.{length-append}
use Rattle.std.specs.Char.{is_ascii_digit}
use Rattle.exact_dec.specs.Decimal.{Spelling, number}
use Rattle.exact_dec.specs.Computed.{has_minus, after_sign, prefix_digits, after_digits, point_digits, after_point, power_of, with_power, parts_of}
use Rattle.exact_dec.specs.Spelled.{IsShortDecimal, top, bottom}
use Rattle.exact_dec.proofs.Digits.{number-append}

-- a digit in front of the digits that are left
pub prefix_step : (text : List ℕ) (i : ℕ) → i < length text → is_ascii_digit (get_or text i 0) ≡ true → prefix_digits (drop i text) ≡ get_or text i 0 ∷ prefix_digits (drop (i + 1) text)
prefix_step text i inside digit =
    ap prefix_digits (drop-cons text i 0 inside)
    ∙ (ap (λ b. cond b (get_or text i 0 ∷ prefix_digits (drop (suc i) text)) []) digit ∙ rw add-one refl)

pub after_step : (text : List ℕ) (i : ℕ) → i < length text → is_ascii_digit (get_or text i 0) ≡ true → after_digits (drop i text) ≡ after_digits (drop (i + 1) text)
after_step text i inside digit =
    ap after_digits (drop-cons text i 0 inside)
    ∙ (ap (λ b. cond b (after_digits (drop (suc i) text)) (get_or text i 0 ∷ drop (suc i) text)) digit ∙ rw add-one refl)

-- one more digit of the number
pub number_step : (n t c : ℕ) (ds rest : List ℕ) → ds ≡ c ∷ rest → t ≡ n * 10 ^ length ds + number ds → t ≡ (10 * n + (c - 48)) * 10 ^ length rest + number rest
number_step n t c ds rest e h =
    let tens : n * 10 ^ length (c ∷ rest) ≡ n * (10 ^ length rest * 10) = ap (λ x. n * x) (pow-suc 10 (length rest)) in
    let is : t ≡ n * 10 ^ length (c ∷ rest) + number (c ∷ rest) = rw e at h in
    omega (arith, is, tens)

pub small_step : (n c count : ℕ) → c ≤ 57 → n < 10 ^ count → 10 * n + (c - 48) < 10 ^ (count + 1)
small_step n c count digit small =
    let tens : 10 ^ (count + 1) ≡ 10 ^ count * 10 = rw add-one (pow-suc 10 count) in
    omega (arith, tens, digit, small)

abbrev pub usual : Bool → List ℕ → List ℕ → Spelling
usual negative whole fraction = record { negative = negative; whole = whole; fraction = fraction; lowers = false; exponent = [] }

-- digits on one side of the point at least, and nothing behind them
pub usual_parts : (text : List ℕ) → let rest = after_digits (after_sign text) in after_point rest ≡ [] → 0 < length (prefix_digits (after_sign text)) + length (point_digits rest)
    → parts_of text ≡ Some (usual (has_minus text) (prefix_digits (after_sign text)) (point_digits rest))
unfolding parts_of
usual_parts text end some =
    let body = after_sign text in
    let rest = after_digits body in
    let whole = prefix_digits body in
    let fraction = point_digits rest in
    let any : nat_lt 0 (length (whole ++ fraction)) ≡ true = lt-ltb 0 (length (whole ++ fraction)) (omega (arith, length-append whole fraction, some)) in
    ap (λ l. with_power (has_minus text) whole fraction (power_of l)) end
    ∙ ap (λ b. cond b (Some (usual (has_minus text) whole fraction)) None) any

usual_whole : (negative : Bool) (whole fraction : List ℕ) (unit : ℕ) → unit * 10 ^ length fraction ≡ 1000000
    → 1000000 * top (usual negative whole fraction) ≡ (number whole * 1000000 + number fraction * unit) * bottom (usual negative whole fraction)
usual_whole negative whole fraction unit place =
    let power : 10 ^ (length fraction + 0) ≡ 10 ^ length fraction = ap (λ k. 10 ^ k) (omega arith) in
    let behind : number fraction * (unit * 10 ^ length fraction) ≡ number fraction * 1000000 = ap (λ x. number fraction * x) place in
    rw (power, number-append whole fraction) (omega (arith, behind))

is_short : (n : ℕ) → n ≤ 64 → (nat_lt 64 n || nat_lt 3 0) ≡ false
is_short n h = grind (arith, nat_tests)

-- the number of a text of the usual spelling
pub usual_is : (text : List ℕ) (n m count places unit : ℕ) → let body = after_sign text in let rest = after_digits body in
    length text ≤ 64 → after_point rest ≡ [] → n ≡ number (prefix_digits body) → count ≡ length (prefix_digits body) → m ≡ number (point_digits rest)
    → places ≡ length (point_digits rest) → 0 < count + places → unit * 10 ^ places ≡ 1000000 → IsShortDecimal text (has_minus text) (n * 1000000 + m * unit)
usual_is text n m count places unit fits end n_is count_is m_is places_is some place =
    let body = after_sign text in
    let rest = after_digits body in
    record {
      parts = usual (has_minus text) (prefix_digits body) (point_digits rest);
      spelt = usual_parts text end (rw (count_is, places_is) at some);
      sign = refl;
      limits = is_short (length text) fits;
      whole = rw (n_is, m_is) (usual_whole (has_minus text) (prefix_digits body) (point_digits rest) unit (rw places_is at place));
    }
