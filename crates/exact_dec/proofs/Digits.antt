-- Numbers by their digits, and the steps of a long division.
use Rattle.std.proofs.Common.{◌≡◌, ◌≢◌, ℕ, suc, ◌+◌, ◌-◌, ◌*◌, ◌^◌, ◌<◌, ◌≤◌, ◌/◌, ◌%◌, Bool, true, false, zero, List, [], ◌∷◌, ◌++◌, length, get_or, drop, sym, ap, add-one, drop-cons, ◌∙◌, subst, refl, arith, ◌&&◌, ◌==◌, pow-add}
use Rattle.std.proofs.Math.Nat.{add_assoc, add-mul, mul_assoc, mul_comm, pow-suc, mul-le-mul_right, one-le-pow, pow-le-pow_right, mul-le-mul_left, le-mul_of_pos_right, div-add-mod'}
use Rattle.std.proofs.lemmas.List.{length-append}
use Rattle.std.proofs.lemmas.List.Recursion.{and_at}
use Rattle.std.proofs.lemmas.Bool.{ne_eqb, and_parts}
use Rattle.std.proofs.lemmas.Bool.Decides.{nat_tests}
use Rattle.std.specs.Char.{is_ascii_digit}
use Rattle.std.specs.Str.{all_ascii_digits}
use Rattle.exact_dec.specs.Decimal.{number}
use Rattle.exact_dec.specs.Spelled.{IsQuotient}

pub number-append : (xs ys : List ℕ) → number (xs ++ ys) ≡ number xs * 10 ^ length ys + number ys
number-append [] ys = omega arith
number-append (c ∷ cs) ys =
    let ih = number-append cs ys in
    let l : length (cs ++ ys) ≡ length cs + length ys = length-append cs ys in
    let e : 10 ^ length (cs ++ ys) ≡ 10 ^ length cs * 10 ^ length ys = ap (λ n. 10 ^ n) l ∙ pow-add 10 (length cs) (length ys) in
    rw (e, ih) (sym (rw (add-mul, mul_assoc, add_assoc) refl))

-- a byte among digits is a digit
pub digit_at : (ds : List ℕ) (i : ℕ) → all_ascii_digits ds ≡ true → i < length ds → (48 ≤ get_or ds i 0) × (get_or ds i 0 ≤ 57)
digit_at ds i all inside =
    let one : is_ascii_digit (get_or ds i 0) ≡ true = and_at all_ascii_digits is_ascii_digit refl (λ _ _. refl) ds i 0 inside all in
    grind arith

pub pow10_pos : (k : ℕ) → 0 < 10 ^ k
pow10_pos k = one-le-pow k 10 (omega arith)

pub and_right : (b : Bool) → (b && true) ≡ b
and_right true = refl
and_right false = refl

pub and_left : (b : Bool) → (b && false) ≡ false
and_left true = refl
and_left false = refl

same_zero : (a b : ℕ) → (a ≡ 0 → b ≡ 0) → (b ≡ 0 → a ≡ 0) → (a == 0) ≡ (b == 0)
same_zero a b f g = grind (arith, nat_tests)

both_zero : (z d left : ℕ) → left < d → ((left == 0) && (z == 0)) ≡ ((z * d + left) == 0)
both_zero zero d left h = and_right (left == 0) ∙ ap (λ x. x == 0) (omega arith)
both_zero (suc z) d left h =
    let more : 1 * d ≤ suc z * d = mul-le-mul_right d (omega arith) in
    let not_none : (suc z == 0) ≡ false = ne_eqb (suc z) 0 (λ e. omega (arith, e)) in
    rw not_none (and_left (left == 0) ∙ sym (ne_eqb (suc z * d + left) 0 (λ e. omega (arith, e))))

-- one more digit of the numerator, in front: m is the unit times the digit
pub quotient_step : (m n d q : ℕ) (e f : Bool) → IsQuotient n d q e → f ≡ (e && (((m + q) % 10) == 0)) → IsQuotient (m * d + n) (10 * d) ((m + q) / 10) f
quotient_step m n d q e f h is =
    let y = (m + q) / 10 in
    let z = (m + q) % 10 in
    let parts : y * 10 + z ≡ m + q = div-add-mod' (m + q) 10 in
    let spread : (y * 10 + z) * d ≡ (m + q) * d = ap (λ x. x * d) parts in
    let z_small : z ≤ 9 = omega arith in
    let zd : z * d ≤ 9 * d = mul-le-mul_right d z_small in
    record {
      left = z * d + h.left;
      divided = omega (arith, spread, h.divided);
      small = omega (arith, zd, h.small);
      is_exact = is ∙ (ap (λ x. x && (z == 0)) h.is_exact ∙ both_zero z d h.left h.small);
    }

pub and_true : (e f : Bool) → e ≡ true → f ≡ (e && f)
and_true e f h = rw h

pub and_false : (e f : Bool) → e ≡ false → e ≡ (e && f)
and_false e f h = rw h

pub quotient_by : (n m d c q : ℕ) (e : Bool) → n ≡ m → d ≡ c → IsQuotient n d q e → IsQuotient m c q e
quotient_by n m d c q e s t h = subst (λ x. IsQuotient m x q e) t (subst (λ x. IsQuotient x d q e) s h)

-- the same fraction with both parts so many times as great
pub quotient_times : (n d c q : ℕ) (e : Bool) → 0 < c → IsQuotient n d q e → IsQuotient (n * c) (d * c) q e
quotient_times n d c q e pos h = record {
  left = h.left * c;
  divided = omega (arith, ap (λ x. x * c) h.divided);
  small = omega (arith, mul-le-mul_right c h.small, pos);
  is_exact = h.is_exact ∙ same_zero h.left (h.left * c) (λ z. ap (λ x. x * c) z ∙ omega arith) (λ z. omega (arith, le-mul_of_pos_right h.left pos, z));
}

-- ---- the loops

number-drop : (ds : List ℕ) (i : ℕ) → i < length ds → number (drop i ds) ≡ (get_or ds i 0 - 48) * 10 ^ length (drop (i + 1) ds) + number (drop (i + 1) ds)
number-drop ds i inside = ap number (drop-cons ds i 0 inside) ∙ rw add-one

length-drop_more : (ds : List ℕ) (i : ℕ) → i < length ds → length (drop i ds) ≡ suc (length (drop (i + 1) ds))
length-drop_more ds i inside = ap length (drop-cons ds i 0 inside) ∙ rw add-one

pub push_more : (n t : ℕ) (ds : List ℕ) (i : ℕ) → i < length ds → n * 10 ^ length (drop i ds) + number (drop i ds) ≡ t → (10 * n + (get_or ds i 0 - 48)) * 10 ^ length (drop (i + 1) ds) + number (drop (i + 1) ds) ≡ t
push_more n t ds i inside h =
    let k = length (drop (i + 1) ds) in
    let tens : 10 ^ length (drop i ds) ≡ 10 ^ k * 10 = ap (λ x. 10 ^ x) (length-drop_more ds i inside) ∙ pow-suc 10 k in
    let scaled : n * 10 ^ length (drop i ds) ≡ n * (10 ^ k * 10) = ap (λ x. n * x) tens in
    omega (arith, scaled, number-drop ds i inside, h)

pub above_push : (n k x t : ℕ) → n * 10 ^ k + x ≡ t → n ≤ t
above_push n k x t h = omega (arith, le-mul_of_pos_right n (pow10_pos k), h)

-- the same under zeros
pub above_zeros : (n before i count : ℕ) → i ≤ count → n ≡ before * 10 ^ i → n ≤ before * 10 ^ count
above_zeros n before i count small is =
    omega (arith, mul-le-mul_left before (pow-le-pow_right {n = 10} (omega arith) small), is)

pub pow10_suc : (k : ℕ) → 10 ^ (k + 1) ≡ 10 * 10 ^ k
pow10_suc k = rw (add-one, pow-suc) (mul_comm (10 ^ k) 10)

-- the digit at i joins the digits behind it
pub behind_more : (unit n s i q : ℕ) (e : Bool) (ds : List ℕ) → i < length ds → IsQuotient (unit * (get_or ds i 0 - 48) * 10 ^ (length (drop (i + 1) ds) + s) + (unit * number (drop (i + 1) ds) * 10 ^ s + n)) (10 * 10 ^ (length (drop (i + 1) ds) + s)) q e → IsQuotient (unit * number (drop i ds) * 10 ^ s + n) (10 ^ (length (drop i ds) + s)) q e
behind_more unit n s i q e ds inside h =
    let k = length (drop (i + 1) ds) in
    let digit = get_or ds i 0 - 48 in
    let rest = number (drop (i + 1) ds) in
    let whole : unit * number (drop i ds) * 10 ^ s ≡ unit * (digit * 10 ^ k + rest) * 10 ^ s = ap (λ x. unit * x * 10 ^ s) (number-drop ds i inside) in
    let powers : unit * digit * 10 ^ (k + s) ≡ unit * digit * (10 ^ k * 10 ^ s) = ap (λ x. unit * digit * x) (pow-add 10 k s) in
    let length_is : length (drop i ds) + s ≡ (k + s) + 1 = omega (arith, length-drop_more ds i inside) in
    quotient_by _ _ _ _ q e (omega (arith, whole, powers)) (sym (ap (λ x. 10 ^ x) length_is ∙ pow10_suc (k + s))) h

pub behind_at : (unit n s i j digit q : ℕ) (e : Bool) (ds : List ℕ) → i < length ds → j ≡ i + 1 → digit ≡ get_or ds i 0 - 48 → IsQuotient (unit * digit * 10 ^ (length (drop j ds) + s) + (unit * number (drop j ds) * 10 ^ s + n)) (10 * 10 ^ (length (drop j ds) + s)) q e → IsQuotient (unit * number (drop i ds) * 10 ^ s + n) (10 ^ (length (drop i ds) + s)) q e
behind_at unit n s i j digit q e ds inside next is h =
    let P : ℕ → ℕ → Type 0 = λ x y. IsQuotient (unit * y * 10 ^ (length (drop x ds) + s) + (unit * number (drop x ds) * 10 ^ s + n)) (10 * 10 ^ (length (drop x ds) + s)) q e in
    behind_more unit n s i q e ds inside (subst (P (i + 1)) is (subst (λ x. P x digit) next h))

pub behind_zero : (unit n s i q : ℕ) (e : Bool) → IsQuotient (unit * 0 * 10 ^ (i + s) + n) (10 * 10 ^ (i + s)) q e → IsQuotient n (10 ^ ((i + 1) + s)) q e
behind_zero unit n s i q e h =
    let more : (i + 1) + s ≡ (i + s) + 1 = omega arith in
    quotient_by _ _ _ _ q e (omega arith) (sym (ap (λ x. 10 ^ x) more ∙ pow10_suc (i + s))) h

-- a number of so many digits
pub number-lt : (ds : List ℕ) → all_ascii_digits ds ≡ true → number ds < 10 ^ length ds
number-lt [] h = omega arith
number-lt (c ∷ cs) h =
    let parts = and_parts (is_ascii_digit c) (all_ascii_digits cs) h in
    let rest : number cs < 10 ^ length cs = number-lt cs parts.1 in
    let small = digit_at (c ∷ cs) 0 h (omega arith) in
    let digit : c - 48 ≤ 9 = omega (arith, small.1) in
    omega (arith, mul-le-mul_right (10 ^ length cs) digit, pow-suc 10 (length cs), rest)

pub number_short : (ds : List ℕ) (k : ℕ) → all_ascii_digits ds ≡ true → length ds ≤ k → number ds < 10 ^ k
number_short ds k h short = omega (arith, number-lt ds h, pow-le-pow_right {n = 10} (omega arith) short)

-- a digit other than zero adds something
pub not_zero : (ds : List ℕ) (i : ℕ) → all_ascii_digits ds ≡ true → i < length ds → get_or ds i 0 ≢ 48 → 0 < number (drop i ds)
not_zero ds i all inside other =
    let k = length (drop (i + 1) ds) in
    let digit = digit_at ds i all inside in
    let one : 1 ≤ get_or ds i 0 - 48 = omega (arith, digit.0) in
    omega (arith, number-drop ds i inside, mul-le-mul_right (10 ^ k) one, pow10_pos k)
