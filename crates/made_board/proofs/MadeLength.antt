-- How long the generated board's text is at most.
use Rattle.std.proofs.Common.{ℕ, suc, zero, ◌+◌, ◌*◌, ◌/◌, ◌%◌, ◌≤◌, ◌<◌, List, ◌++◌, length, length-append, arith}
use Rattle.std.specs.Prelude.{Bool, true, false, cond, ◌==◌, ℤ, pos, negsuc, ◌-ℤ◌, unsigned_abs, codes, decimal}
use lib.Signed.{mag}
use Rattle.std.specs.Fmt.{signed_decimal}
use Rattle.std.specs.List.{flat_map, range_with_len}
use Rattle.std.proofs.lemmas.Fmt.{length-decimal-le, length_signed_le}
use Rattle.std.proofs.lemmas.Int.{ints}
use Rattle.exact_dec.specs.MillimetreText.{minus_sign, mm_text}
use Rattle.made_board.specs.MadeBoard.{length_of, end_of, net_of, site_text, end_text, net_and_stamp, via_line, segment_line, two_lines, net_line, net_lines, item_lines, made_text}

both : (a b : List ℕ) (m n : ℕ) → length a ≤ m → length b ≤ n → length (a ++ b) ≤ m + n
both a b m n p q = omega (arith, length-append a b)

all : (f : ℕ → List ℕ) (most a n : ℕ) → ((j : ℕ) → j < a + n → length (f j) ≤ most) → length (flat_map f (range_with_len a n)) ≤ n * most
all f most a zero h = omega arith
all f most a (suc n) h =
    let here = h a (omega arith) in
    let rest = all f most (a + 1) n (λ j small. h j (omega arith)) in
    omega (arith, both _ _ _ _ here rest)

decimal_short : (n : ℕ) → n < 100000 → length (decimal n) ≤ 5
decimal_short n h = length-decimal-le 5 n (omega arith) h (omega arith)

mag_within : (z : ℤ) → mag z ≤ unsigned_abs z
mag_within (pos n) = omega arith
mag_within (negsuc n) = omega arith

signed_short : (a : ℕ) → a < 900 → length (signed_decimal (pos a -ℤ pos 450)) ≤ 4
signed_short a h =
    let z = pos a -ℤ pos 450 in
    let small : unsigned_abs z < 600 = omega (arith, ints) in
    let le = mag_within z in length_signed_le 3 z (omega arith) (omega arith)

minus_short : (z : ℤ) → length (minus_sign z) ≤ 1
minus_short (pos n) = omega arith
minus_short (negsuc n) = omega arith

mm_short : (z : ℤ) → unsigned_abs z ≤ 1000000000 → length (mm_text z) ≤ 13
unfolding mm_text
mm_short z h =
    both _ _ 1 12 (minus_short z) (both _ _ 5 7 (decimal_short (unsigned_abs z / 1000000) (omega arith)) (omega arith))

site_short : (k : ℕ) → k < 90000 → length (site_text k) ≤ 9
unfolding site_text
site_short k h =
    both _ _ 5 4 (both _ _ 4 1 (signed_short (3 * (k % 300)) (omega arith)) (omega arith)) (signed_short (3 * (k / 300)) (omega arith))

longer : (is_long : Bool) → cond is_long 2300000 1200000 ≤ 2300000
longer true = omega arith
longer false = omega arith

end_short : (k : ℕ) → k < 90000 → length (end_text k) ≤ 18
unfolding end_text
end_short k h =
    let far : length_of k ≤ 2300000 = longer (k % 7 == 3) in
    both _ _ 14 4 (both _ _ 13 1 (mm_short (end_of k) (omega (arith, ints))) (omega arith)) (signed_short (3 * (k / 300)) (omega arith))

net_and_stamp_short : (letter : List ℕ) (k : ℕ) → length letter ≤ 1 → k < 90000 → length (net_and_stamp letter k) ≤ 30
unfolding net_and_stamp
net_and_stamp_short letter k one h =
    let net = decimal_short (net_of k) (omega arith) in
    let stamp = decimal_short k (omega arith) in
    simp length-append (omega arith)

via_short : (k : ℕ) → k < 90000 → length (via_line k) ≤ 99
unfolding via_line
via_short k h =
    let site = site_short k h in
    let behind = net_and_stamp_short (codes "v") k (omega arith) h in
    simp length-append (omega arith)

segment_short : (k : ℕ) → k < 90000 → length (segment_line k) ≤ 113
unfolding segment_line
segment_short k h =
    let site = site_short k h in
    let end = end_short k h in
    let behind = net_and_stamp_short (codes "s") k (omega arith) h in
    simp length-append (omega arith)

net_short : (m : ℕ) → m < 100000 → length (net_line m) ≤ 21
unfolding net_line
net_short m h =
    let digits = decimal_short m h in
    simp length-append (omega arith)

net_lines_short : (n : ℕ) → n < 90000 → length (net_lines n) ≤ n * 21
unfolding net_lines
net_lines_short n h = all net_line 21 1 n (λ j small. net_short j (omega arith))

item_lines_short : (n : ℕ) → n ≤ 90000 → length (item_lines 0 n) ≤ n * 212
unfolding item_lines
item_lines_short n h =
    all two_lines 212 0 n
    (λ j small. both _ _ _ _ (via_short j (omega arith)) (segment_short j (omega arith)))

pub made_text_short : (n : ℕ) → n ≤ 90000 → length (made_text n) ≤ 33554432
unfolding made_text
made_text_short n h =
    let nets = net_lines_short 1000 (omega arith) in
    let items = item_lines_short n h in
    simp length-append (omega arith)
