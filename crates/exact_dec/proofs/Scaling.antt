-- What moving the point leaves of the number.
use Rattle.std.proofs.Common.{◌≡◌, ℕ, zero, suc, ◌+◌, ◌-◌, ◌*◌, ◌^◌, ◌<◌, ◌≤◌, min, Bool, true, List, [], ◌∷◌, ◌++◌, length, take, drop, sym, ap, ◌∙◌, refl, arith, pow-add, inl, inr, length-take, take-append-drop, length-drop, length-append, append_assoc, ◌⊎◌}
use Rattle.std.proofs.Math.Nat.{mul-le-mul_right, le-mul_of_pos_right}
use Rattle.std.proofs.lemmas.Bool.{and_parts, cases_lt}
use Rattle.std.proofs.Math.ListN.{drop_of_length-le}
use Rattle.std.specs.Cmp.Derive.{both_true}
use Rattle.std.specs.Char.{is_ascii_digit}
use Rattle.std.specs.Str.{all_ascii_digits}
use Rattle.exact_dec.specs.Decimal.{number}
use Rattle.exact_dec.specs.Spelled.{IsQuotient}
use Rattle.exact_dec.proofs.Digits.{number-append, pow10_pos, quotient_by, quotient_times}

pub nothing_left : IsQuotient 0 (10 ^ 0) 0 true
nothing_left = record { left = 0; divided = refl; small = omega arith; is_exact = refl }

-- a whole number more
pub quotient_plus : (x n d q : ℕ) (e : Bool) → IsQuotient n d q e → IsQuotient (x * d + n) d (x + q) e
quotient_plus x n d q e h = record { left = h.left; divided = omega (arith, h.divided); small = h.small; is_exact = h.is_exact }

-- zeros stand behind the digits only where no digit is left to stand there
pub edge : (x k : ℕ) → (k ≡ 0) ⊎ (x ≡ 0) → x * 10 ^ k ≡ x
edge x k (inl h) = rw h (omega arith)
edge x k (inr h) = rw h (omega arith)

pub up_above : (w a b : List ℕ) (z by : ℕ) → by ≡ length a + z → 100000000 < number (w ++ a) * 10 ^ z → 100000000 * 10 ^ length (a ++ b) < number (w ++ (a ++ b)) * 10 ^ by
up_above w a b z by is h =
    let x = number (w ++ a) in
    let whole : number (w ++ (a ++ b)) ≡ x * 10 ^ length b + number b = ap number (sym (append_assoc w a b)) ∙ number-append (w ++ a) b in
    let top : number (w ++ (a ++ b)) * 10 ^ by ≡ (x * 10 ^ length b + number b) * (10 ^ length a * 10 ^ z) =
    ap (λ n. n * 10 ^ by) whole ∙ ap (λ n. (x * 10 ^ length b + number b) * n) (ap (λ n. 10 ^ n) is ∙ pow-add 10 (length a) z) in
    let low : 10 ^ length (a ++ b) ≡ 10 ^ length a * 10 ^ length b = ap (λ n. 10 ^ n) (length-append a b) ∙ pow-add 10 (length a) (length b) in
    let great : 100000001 * (10 ^ length a * 10 ^ length b) ≤ (x * 10 ^ z) * (10 ^ length a * 10 ^ length b) = mul-le-mul_right (10 ^ length a * 10 ^ length b) h in
    let some : 0 < 10 ^ length (a ++ b) = pow10_pos (length (a ++ b)) in
    omega (arith, top, low, great, some)

pub up_quotient : (w a b : List ℕ) (z by unit r : ℕ) (e : Bool) → by ≡ length a + z → (z ≡ 0) ⊎ (number b ≡ 0) → IsQuotient (unit * number b * 10 ^ 0 + 0) (10 ^ (length b + 0)) r e → IsQuotient (unit * (number (w ++ (a ++ b)) * 10 ^ by)) (10 ^ length (a ++ b)) ((number (w ++ a) * 10 ^ z) * unit + r) e
up_quotient w a b z by unit r e is last h =
    let x = number (w ++ a) in
    let whole : number (w ++ (a ++ b)) ≡ x * 10 ^ length b + number b = ap number (sym (append_assoc w a b)) ∙ number-append (w ++ a) b in
    let top : unit * (number (w ++ (a ++ b)) * 10 ^ by) ≡ unit * ((x * 10 ^ length b + number b) * (10 ^ length a * 10 ^ z)) =
    ap (λ n. unit * n) (ap (λ n. n * 10 ^ by) whole ∙ ap (λ n. (x * 10 ^ length b + number b) * n) (ap (λ n. 10 ^ n) is ∙ pow-add 10 (length a) z)) in
    let low : 10 ^ length (a ++ b) ≡ 10 ^ length a * 10 ^ length b = ap (λ n. 10 ^ n) (length-append a b) ∙ pow-add 10 (length a) (length b) in
    let none : unit * (number b * 10 ^ z) * 10 ^ length a ≡ unit * number b * 10 ^ length a = ap (λ n. unit * n * 10 ^ length a) (edge (number b) z last) in
    let same : 10 ^ (length b + 0) ≡ 10 ^ length b = ap (λ n. 10 ^ n) (omega arith) in
    let inside : (x * 10 ^ z) * unit * 10 ^ (length b + 0) * 10 ^ length a ≡ (x * 10 ^ z) * unit * 10 ^ length b * 10 ^ length a = ap (λ n. (x * 10 ^ z) * unit * n * 10 ^ length a) same in
    let more = quotient_plus ((x * 10 ^ z) * unit) _ _ r e h in
    quotient_by _ _ _ _ _ e (omega (arith, top, none, inside)) (omega (arith, low, ap (λ n. n * 10 ^ length a) same)) (quotient_times _ _ (10 ^ length a) _ e (pow10_pos (length a)) more)

pub down_above : (a b f : List ℕ) (y by : ℕ) → by ≡ length b + y → (y ≡ 0) ⊎ (number a ≡ 0) → 100000000 < number a → 100000000 * 10 ^ (length f + by) < number ((a ++ b) ++ f)
down_above a b f y by is first h =
    let whole : number ((a ++ b) ++ f) ≡ (number a * 10 ^ length b + number b) * 10 ^ length f + number f = number-append (a ++ b) f ∙ ap (λ n. n * 10 ^ length f + number f) (number-append a b) in
    let low : 10 ^ (length f + by) ≡ 10 ^ length f * (10 ^ length b * 10 ^ y) = pow-add 10 (length f) by ∙ ap (λ n. 10 ^ length f * n) (ap (λ n. 10 ^ n) is ∙ pow-add 10 (length b) y) in
    let great : 100000001 * 10 ^ (length f + by) ≤ number a * 10 ^ (length f + by) = mul-le-mul_right (10 ^ (length f + by)) h in
    let spread : number a * 10 ^ (length f + by) ≡ number a * (10 ^ length f * (10 ^ length b * 10 ^ y)) = ap (λ n. number a * n) low in
    let none : number a * 10 ^ y * 10 ^ length f * 10 ^ length b ≡ number a * 10 ^ length f * 10 ^ length b = ap (λ n. n * 10 ^ length f * 10 ^ length b) (edge (number a) y first) in
    let some : 0 < 10 ^ (length f + by) = pow10_pos (length f + by) in
    omega (arith, whole, great, spread, none, some)

pub down_quotient : (a b f : List ℕ) (y by unit r : ℕ) (e : Bool) → by ≡ length b + y → (y ≡ 0) ⊎ (number a ≡ 0) → IsQuotient (unit * number b * 10 ^ (length f + 0) + (unit * number f * 10 ^ 0 + 0)) (10 ^ (y + (length b + (length f + 0)))) r e → IsQuotient (unit * number ((a ++ b) ++ f)) (10 ^ (length f + by)) (number a * unit + r) e
down_quotient a b f y by unit r e is first h =
    let whole : unit * number ((a ++ b) ++ f) ≡ unit * ((number a * 10 ^ length b + number b) * 10 ^ length f + number f) = ap (λ n. unit * n) (number-append (a ++ b) f ∙ ap (λ n. n * 10 ^ length f + number f) (number-append a b)) in
    let low : 10 ^ (y + (length b + (length f + 0))) ≡ 10 ^ (length f + by) = ap (λ n. 10 ^ n) (omega (arith, is)) in
    let parted : 10 ^ (length f + by) ≡ 10 ^ length f * (10 ^ length b * 10 ^ y) = pow-add 10 (length f) by ∙ ap (λ n. 10 ^ length f * n) (ap (λ n. 10 ^ n) is ∙ pow-add 10 (length b) y) in
    let lead : number a * unit * 10 ^ (y + (length b + (length f + 0))) ≡ number a * unit * (10 ^ length f * (10 ^ length b * 10 ^ y)) = ap (λ n. number a * unit * n) (low ∙ parted) in
    let none : number a * 10 ^ y * unit * 10 ^ length f * 10 ^ length b ≡ number a * unit * 10 ^ length f * 10 ^ length b = ap (λ n. n * unit * 10 ^ length f * 10 ^ length b) (edge (number a) y first) in
    let same : unit * number b * 10 ^ (length f + 0) ≡ unit * number b * 10 ^ length f = ap (λ n. unit * number b * 10 ^ n) (omega arith) in
    quotient_by _ _ _ _ _ e (omega (arith, whole, lead, none, same)) low (quotient_plus (number a * unit) _ _ r e h)

-- ---- a prefix and a back of digits

pub digits-take : (n : ℕ) (ds : List ℕ) → all_ascii_digits ds ≡ true → all_ascii_digits (take n ds) ≡ true
digits-take zero ds h = refl
digits-take (suc n) [] h = refl
digits-take (suc n) (c ∷ cs) h =
    let parts = and_parts (is_ascii_digit c) (all_ascii_digits cs) h in
    both_true parts.0 (digits-take n cs parts.1)

pub digits-drop : (n : ℕ) (ds : List ℕ) → all_ascii_digits ds ≡ true → all_ascii_digits (drop n ds) ≡ true
digits-drop zero ds h = h
digits-drop (suc n) [] h = refl
digits-drop (suc n) (c ∷ cs) h = digits-drop n cs (and_parts (is_ascii_digit c) (all_ascii_digits cs) h).1

-- ---- two runs of digits as one

pub joined_is : (n m : ℕ) (prefix back : List ℕ) → n ≡ 0 * 10 ^ length prefix + number prefix → m ≡ n * 10 ^ length back + number back → m ≡ number (prefix ++ back)
joined_is n m prefix back first second = omega (arith, second, ap (λ x. x * 10 ^ length back) first, number-append prefix back)

pub joined_above : (most m z : ℕ) → most < m → most < m * 10 ^ z
joined_above most m z h = omega (arith, le-mul_of_pos_right m (pow10_pos z))

pub prefix_above : (most : ℕ) (prefix back : List ℕ) (z : ℕ) → most < 0 * 10 ^ length prefix + number prefix → most < number (prefix ++ back) * 10 ^ z
prefix_above most prefix back z h = joined_above most (number (prefix ++ back)) z (omega (arith, le-mul_of_pos_right (number prefix) (pow10_pos (length back)), number-append prefix back))

-- ---- where the digits were parted

pub prefix_parted : (m by : ℕ) (f a b : List ℕ) → m ≡ min by (length f) → a ≡ take m f → b ≡ drop m f → (a ++ b ≡ f) × (by ≡ length a + (by - m)) × ((by - m ≡ 0) ⊎ (number b ≡ 0))
prefix_parted m by f a b least prefix back =
    let is_prefix : length a ≡ min m (length f) = ap length prefix ∙ length-take m f in (
      ap (λ x. x ++ b) prefix ∙ ap (λ x. take m f ++ x) back ∙ take-append-drop m f,
      omega (arith, least, is_prefix),
      elim (cases_lt by (length f)) [ inl h ↦ inl (omega (arith, least)) | inr h ↦ inr (ap number (back ∙ drop_of_length-le f (omega (arith, least)))) ],
    )

pub back_parted : (m by : ℕ) (w a b : List ℕ) → m ≡ min by (length w) → a ≡ take (length w - m) w → b ≡ drop (length w - m) w → (a ++ b ≡ w) × (by ≡ length b + (by - m)) × ((by - m ≡ 0) ⊎ (number a ≡ 0))
back_parted m by w a b least prefix back =
    let is_back : length b ≡ length w - (length w - m) = ap length back ∙ length-drop (length w - m) w in (
      ap (λ x. x ++ b) prefix ∙ ap (λ x. take (length w - m) w ++ x) back ∙ take-append-drop (length w - m) w,
      omega (arith, least, is_back),
      elim (cases_lt by (length w)) [ inl h ↦ inl (omega (arith, least)) | inr h ↦ inr (let none : length w - m ≡ 0 = omega (arith, least) in ap number (prefix ∙ ap (λ n. take n w) none)) ],
    )
