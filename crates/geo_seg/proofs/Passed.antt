-- What the code's numbers are: a number that was passed as bits, sums, differences and products of such, and what the tests
-- and results of each function say.
use Rattle.std.proofs.Common.{◌≡◌, ℕ, zero, suc, ◌*ℤ◌, ◌+ℤ◌, ◌-ℤ◌, neg_ℤ, ◌≤◌, ◌*◌, ◌≤ℤ◌, ◌<ℤ◌, unsigned_abs, ℤ, pos, Bool, true, false, IsTrue, ◌↔◌, FitsSigned, of_z, arith, refl, sym, ap, subst, ◌∙◌}
use Rattle.std.proofs.lemmas.Int.{ints, to_z-of_z, unsigned_abs-mul}
use Rattle.std.specs.Int.Signed.{le_z}
use Rattle.std.proofs.Math.Nat.{mul-le-mul_left}
use mir.Syntax.{w128, w64}
use Rattle.int_algebra.proofs.Order.{le_trans}
use Rattle.int_algebra.proofs.Scalars.{passed_wide, passed_is, wide_is}
pub use Rattle.int_algebra.proofs.Scalars.{passed}
use Rattle.geo_seg.specs.declared.points.Point.{Point}
use Rattle.geo_seg.specs.declared.points.Seg.{Seg}
use Rattle.geo_seg.specs.declared.boxes.Bounds.{Bounds}
use Rattle.geo_seg.specs.Boxes.{FitsWithin}
use Rattle.geo_seg.specs.Points.{IsAt, IsOn}
use Rattle.geo_seg.specs.Nearer.{square, AreApart, AreWithin}
use Rattle.geo_seg.specs.Gap.{IsLeastGap, dot_of, cross_of, squared_length, turn, turn_a, turn_b, IsFramed}
use Rattle.geo_seg.proofs.LeastGaps.{gap_at_start, gap_at_end, gap_between}
use Rattle.geo_seg.proofs.PointReach.{within_by_gap, gap_of_within, apart_by_gap, gap_of_apart}

pub d_kept : (d : ℤ) → pos 0 ≤ℤ d → d ≤ℤ pos 2000000000 → passed d ≡ d
d_kept d h k = omega (arith, ints)

-- ---- sums, differences and products
small_is : (z : ℤ) → unsigned_abs z ≤ 2000000000 → passed z ≡ z
small_is z h = omega (arith, ints)

product_value : (a b : ℤ) → unsigned_abs a ≤ 2000000000 → unsigned_abs b ≤ 2000000000 → passed a *ℤ passed b ≡ a *ℤ b
product_value a b h k = ap (λ z. z *ℤ passed b) (small_is a h) ∙ ap (λ z. a *ℤ z) (small_is b k)

product_bound : (a b : ℤ) → unsigned_abs a ≤ 2000000000 → unsigned_abs b ≤ 2000000000 → unsigned_abs (a *ℤ b) ≤ 4000000000000000000
product_bound a b h k = subst (λ n. n ≤ 4000000000000000000) (sym (unsigned_abs-mul a b)) (at_most (unsigned_abs a) (unsigned_abs b) h k)
  where
    at_most : (m n : ℕ) → m ≤ 2000000000 → n ≤ 2000000000 → m * n ≤ 4000000000000000000
    at_most m n h k = omega (arith, h, mul-le-mul_left m k)

pub product_is : (a b : ℤ) → unsigned_abs a ≤ 2000000000 → unsigned_abs b ≤ 2000000000 → passed (passed a *ℤ passed b) ≡ a *ℤ b
product_is a b h k = ap passed (product_value a b h k) ∙ passed_is (a *ℤ b) (wider (unsigned_abs (a *ℤ b)) (product_bound a b h k))
  where
    wider : (n : ℕ) → n ≤ 4000000000000000000 → n ≤ 8000000000000000000
    wider n h = omega arith

pub product_in_range : (a b : ℤ) → unsigned_abs a ≤ 2000000000 → unsigned_abs b ≤ 2000000000 → unsigned_abs (passed (passed a *ℤ passed b)) ≤ 4000000000000000000
product_in_range a b h k = subst (λ z. unsigned_abs z ≤ 4000000000000000000) (sym (product_is a b h k)) (product_bound a b h k)

pub passed_product : (p a b : ℤ) → unsigned_abs a ≤ 2000000000 → unsigned_abs b ≤ 2000000000 → p ≡ passed a *ℤ passed b → p ≡ a *ℤ b
passed_product p a b h k e = e ∙ product_value a b h k

pub difference_is : (p q : ℤ) → unsigned_abs p ≤ 4000000000000000000 → unsigned_abs q ≤ 4000000000000000000 → passed (passed p -ℤ passed q) ≡ p -ℤ q
difference_is p q h k = omega (arith, ints)

pub sum_is : (p q : ℤ) → unsigned_abs p ≤ 4000000000000000000 → unsigned_abs q ≤ 4000000000000000000 → passed (passed p +ℤ passed q) ≡ p +ℤ q
sum_is p q h k = omega (arith, ints)

pub difference_range : (p q : ℤ) → unsigned_abs p ≤ 4000000000000000000 → unsigned_abs q ≤ 4000000000000000000 → unsigned_abs (p -ℤ q) ≤ 8000000000000000000
difference_range p q h k = omega (arith, ints)

pub both_differ : (p q p' q' : ℤ) → p ≡ p' → q ≡ q' → p -ℤ q ≡ p' -ℤ q'
both_differ p q p' q' e f = ap (λ z. z -ℤ q) e ∙ ap (λ z. p' -ℤ z) f

pub both_add : (p q p' q' : ℤ) → p ≡ p' → q ≡ q' → p +ℤ q ≡ p' +ℤ q'
both_add p q p' q' e f = ap (λ z. z +ℤ q) e ∙ ap (λ z. p' +ℤ z) f

-- ---- what each function's tests and results say
pub dot_seen : (ux uy wx wy r ux' uy' wx' wy' : ℤ) → ux ≡ ux' → uy ≡ uy' → wx ≡ wx' → wy ≡ wy' → r ≡ ux *ℤ wx +ℤ uy *ℤ wy → r ≡ ux' *ℤ wx' +ℤ uy' *ℤ wy'
dot_seen ux uy wx wy r ux' uy' wx' wy' a b c d e = cc

pub cross_seen : (ux uy wx wy r ux' uy' wx' wy' : ℤ) → ux ≡ ux' → uy ≡ uy' → wx ≡ wx' → wy ≡ wy' → r ≡ ux *ℤ wy -ℤ uy *ℤ wx → r ≡ ux' *ℤ wy' -ℤ uy' *ℤ wx'
cross_seen ux uy wx wy r ux' uy' wx' wy' a b c d e = cc

le_zero_tested : (a : ℤ) → unsigned_abs a ≤ 8000000000000000000 → le_z (passed a) (pos 0) ≡ true → a ≤ℤ pos 0
le_zero_tested a h t = omega (arith, ints)

lt_zero_tested : (a : ℤ) → unsigned_abs a ≤ 8000000000000000000 → le_z (passed a) (pos 0) ≡ false → pos 0 <ℤ a
lt_zero_tested a h t = omega (arith, ints)

le_tested : (a b : ℤ) → unsigned_abs a ≤ 8000000000000000000 → unsigned_abs b ≤ 8000000000000000000 → le_z (passed a) (passed b) ≡ true → a ≤ℤ b
le_tested a b h k t = omega (arith, ints)

lt_tested : (a b : ℤ) → unsigned_abs a ≤ 8000000000000000000 → unsigned_abs b ≤ 8000000000000000000 → le_z (passed a) (passed b) ≡ false → b <ℤ a
lt_tested a b h k t = omega (arith, ints)

IsLeastGap_along : (p : Point) (s : Seg) (t t' u u' : ℤ) → t' ≡ t → u' ≡ u → IsLeastGap p s t u → IsLeastGap p s t' u'
IsLeastGap_along p s t t' u u' e f h = subst (λ (z : ℤ). IsLeastGap p s t' z) (sym f) (subst (λ (z : ℤ). IsLeastGap p s z u) (sym e) h)

pub start_case : (p : Point) (s : Seg) (along top : ℤ) → along ≡ dot_of p s → top ≡ squared_length s.a p → unsigned_abs along ≤ 8000000000000000000 → unsigned_abs top ≤ 8000000000000000000 → le_z (passed along) (pos 0) ≡ true → IsLeastGap p s (passed_wide (passed top)) (pos 1)
start_case p s along top e f h k t =
    IsLeastGap_along p s (squared_length s.a p) (passed_wide (passed top)) (pos 1) (pos 1) (wide_is top k ∙ f) refl
    (gap_at_start p s (subst (λ (z : ℤ). z ≤ℤ pos 0) e (le_zero_tested along h t)))

pub end_case : (p : Point) (s : Seg) (along length top : ℤ) → along ≡ dot_of p s → length ≡ squared_length s.a s.b → top ≡ squared_length s.b p → unsigned_abs along ≤ 8000000000000000000 → unsigned_abs length ≤ 8000000000000000000 → unsigned_abs top ≤ 8000000000000000000 → le_z (passed length) (passed along) ≡ true → IsLeastGap p s (passed_wide (passed top)) (pos 1)
end_case p s along length top e g f h l k t =
    IsLeastGap_along p s (squared_length s.b p) (passed_wide (passed top)) (pos 1) (pos 1) (wide_is top k ∙ f) refl
    (gap_at_end p s (subst (λ (z : ℤ). squared_length s.a s.b ≤ℤ z) e (subst (λ (z : ℤ). z ≤ℤ along) g (le_tested length along l h t))))

pub between_case : (p : Point) (s : Seg) (along length across top : ℤ) → along ≡ dot_of p s → length ≡ squared_length s.a s.b → across ≡ cross_of p s → unsigned_abs along ≤ 8000000000000000000 → unsigned_abs length ≤ 8000000000000000000 → unsigned_abs across ≤ 8000000000000000000 → FitsSigned w128 top → top ≡ passed across *ℤ passed across → le_z (passed along) (pos 0) ≡ false → le_z (passed length) (passed along) ≡ false → IsLeastGap p s (passed_wide top) (passed length)
between_case p s along length across top e g f h l k fits v t u =
    IsLeastGap_along p s (square (cross_of p s)) (passed_wide top) (squared_length s.a s.b) (passed length)
    (to_z-of_z w128 top fits ∙ v ∙ ap (λ z. square z) (passed_is across k ∙ f)) (passed_is length l ∙ g)
    (gap_between p s (subst (λ (z : ℤ). pos 0 <ℤ z) e (lt_zero_tested along h t))
    (subst (λ (z : ℤ). dot_of p s <ℤ z) g (subst (λ (z : ℤ). z <ℤ length) e (lt_tested length along l h u))))

pub limit_is : (d under p r : ℤ) → pos 0 ≤ℤ d → d ≤ℤ pos 2000000000 → unsigned_abs under ≤ 8000000000000000000 → unsigned_abs p ≤ 4000000000000000000 → p ≡ passed d *ℤ passed d → FitsSigned w128 r → r ≡ passed p *ℤ passed under → passed_wide r ≡ square d *ℤ under
limit_is d under p r h k l m e fits f =
    to_z-of_z w128 r fits ∙ f ∙ ap (λ z. z *ℤ passed under) (passed_is p (omega arith) ∙ e ∙ ap (λ z. square z) (d_kept d h k)) ∙ ap (λ z. square d *ℤ z) (passed_is under l)

-- the two answers of `crosses`
passed_neg : (z : ℤ) → unsigned_abs z ≤ 8000000000000000000 → passed (pos 0 -ℤ passed z) ≡ neg_ℤ z
passed_neg z h = omega (arith, ints)

IsFramed_along : (t i j t' i' j' : ℤ) → t ≡ t' → i ≡ i' → j ≡ j' → IsFramed t i j → IsFramed t' i' j'
IsFramed_along t i j t' i' j' e f g h = subst (λ (z : ℤ). IsFramed z i' j') e (subst (λ (z : ℤ). IsFramed t z j') f (subst (λ (z : ℤ). IsFramed t i z) g h))

pub framed_ahead : (a b : Seg) (t i j : ℤ) → t ≡ turn a b → i ≡ turn_a a b → j ≡ turn_b a b → unsigned_abs t ≤ 8000000000000000000 → unsigned_abs i ≤ 8000000000000000000 → unsigned_abs j ≤ 8000000000000000000 → IsFramed (passed t) (passed i) (passed j) ↔ IsFramed (turn a b) (turn_a a b) (turn_b a b)
framed_ahead a b t i j e f g h k l =
    let e' = passed_is t h ∙ e in let f' = passed_is i k ∙ f in let g' = passed_is j l ∙ g in
    (IsFramed_along (passed t) (passed i) (passed j) (turn a b) (turn_a a b) (turn_b a b) e' f' g', IsFramed_along (turn a b) (turn_a a b) (turn_b a b) (passed t) (passed i) (passed j) (sym e') (sym f') (sym g'))

abbrev pub negated : ℤ → ℤ
negated z = passed (pos 0 -ℤ passed z)

pub framed_behind : (a b : Seg) (t i j : ℤ) → t ≡ turn a b → i ≡ turn_a a b → j ≡ turn_b a b → unsigned_abs t ≤ 8000000000000000000 → unsigned_abs i ≤ 8000000000000000000 → unsigned_abs j ≤ 8000000000000000000 → IsFramed (negated t) (negated i) (negated j) ↔ IsFramed (neg_ℤ (turn a b)) (neg_ℤ (turn_a a b)) (neg_ℤ (turn_b a b))
framed_behind a b t i j e f g h k l =
    let e' = passed_neg t h ∙ ap neg_ℤ e in let f' = passed_neg i k ∙ ap neg_ℤ f in let g' = passed_neg j l ∙ ap neg_ℤ g in
    (IsFramed_along (negated t) (negated i) (negated j) (neg_ℤ (turn a b)) (neg_ℤ (turn_a a b)) (neg_ℤ (turn_b a b)) e' f' g', IsFramed_along (neg_ℤ (turn a b)) (neg_ℤ (turn_a a b)) (neg_ℤ (turn_b a b)) (negated t) (negated i) (negated j) (sym e') (sym f') (sym g'))

le_out : (a b : ℤ) → le_z a b ≡ true → a ≤ℤ b
le_out a b h = omega (arith, ints)

le_in : (a b : ℤ) → a ≤ℤ b → le_z a b ≡ true
le_in a b h = let e : true ≡ le_z a b = omega (arith, ints) in sym e

limit_seen : (d under lim : ℤ) → pos 0 ≤ℤ d → d ≤ℤ pos 2000000000 → unsigned_abs under ≤ 8000000000000000000 → lim ≡ square (passed d) *ℤ passed under → lim ≡ square d *ℤ under
limit_seen d under lim h k l e = e ∙ ap (λ z. square z *ℤ passed under) (d_kept d h k) ∙ ap (λ z. square d *ℤ z) (passed_is under l)

pub within_is : (p : Point) (s : Seg) (d top under lim : ℤ) → IsLeastGap p s top under → FitsSigned w128 top → FitsSigned w128 lim → pos 0 ≤ℤ d → d ≤ℤ pos 2000000000 → unsigned_abs under ≤ 8000000000000000000 → lim ≡ square (passed d) *ℤ passed under → IsTrue (le_z (passed_wide top) (passed_wide lim)) ↔ AreWithin (IsAt p) (IsOn s) d
within_is p s d top under lim g ft fl h k l e =
    let t = to_z-of_z w128 top ft in
    let m = to_z-of_z w128 lim fl ∙ limit_seen d under lim h k l e in (
      λ y. within_by_gap p s d top under g (subst (λ z. top ≤ℤ z) m (subst (λ z. z ≤ℤ passed_wide lim) t (le_out (passed_wide top) (passed_wide lim) y))),
      λ y. le_in (passed_wide top) (passed_wide lim) (subst (λ z. z ≤ℤ passed_wide lim) (sym t) (subst (λ z. top ≤ℤ z) (sym m) (gap_of_within p s d top under g y))),
    )

pub apart_is : (p : Point) (s : Seg) (d top under lim : ℤ) → IsLeastGap p s top under → FitsSigned w128 top → FitsSigned w128 lim → pos 0 ≤ℤ d → d ≤ℤ pos 2000000000 → unsigned_abs under ≤ 8000000000000000000 → lim ≡ square (passed d) *ℤ passed under → IsTrue (le_z (passed_wide lim) (passed_wide top)) ↔ AreApart (IsAt p) (IsOn s) d
apart_is p s d top under lim g ft fl h k l e =
    let t = to_z-of_z w128 top ft in
    let m = to_z-of_z w128 lim fl ∙ limit_seen d under lim h k l e in (
      λ y. apart_by_gap p s d top under g (subst (λ z. z ≤ℤ top) m (subst (λ z. passed_wide lim ≤ℤ z) t (le_out (passed_wide lim) (passed_wide top) y))),
      λ y. le_in (passed_wide lim) (passed_wide top) (subst (λ z. passed_wide lim ≤ℤ z) (sym t) (subst (λ z. z ≤ℤ top) (sym m) (gap_of_apart p s d top under g y))),
    )

pub d_zero : (d : ℤ) → pos 0 ≤ℤ d → d ≤ℤ pos 2000000000 → of_z w64 d ≡ 0 → d ≡ pos 0
d_zero d h k e = omega (arith, ints)

pub d_positive : (d : ℤ) → pos 0 ≤ℤ d → d ≤ℤ pos 2000000000 → ¬ (of_z w64 d ≡ 0) → pos 0 <ℤ d
d_positive d h k n = omega (arith, ints)

-- a call's answer at the d that it was passed
pub at_d : (P : ℤ → Type 0) (d : ℤ) (b : Bool) → pos 0 ≤ℤ d → d ≤ℤ pos 2000000000 → (IsTrue b ↔ P (passed d)) → (IsTrue b ↔ P d)
at_d P d b h k e = subst (λ (z : ℤ). IsTrue b ↔ P z) (d_kept d h k) e

-- and one further
pub at_more : (P : ℤ → Type 0) (d : ℤ) (b : Bool) → pos 0 ≤ℤ d → d ≤ℤ pos 2000000000 → (IsTrue b ↔ P (passed (passed d +ℤ pos 1))) → (IsTrue b ↔ P (d +ℤ pos 1))
at_more P d b h k e = subst (λ (z : ℤ). IsTrue b ↔ P z) (more d h k) e
  where
    more : (d : ℤ) → pos 0 ≤ℤ d → d ≤ℤ pos 2000000000 → passed (passed d +ℤ pos 1) ≡ d +ℤ pos 1
    more d h k = omega (arith, ints)

-- ---- boxes
side_in_range : (n : ℕ) (z : ℤ) → neg_ℤ (pos n) ≤ℤ z → z ≤ℤ pos n → unsigned_abs z ≤ n
side_in_range zero z h k = omega (arith, ints)
side_in_range (suc n) z h k = omega (arith, ints)

pub left_in_range : (n : ℕ) (b : Bounds) → FitsWithin (pos n) b → unsigned_abs b.left ≤ n
left_in_range n b f = side_in_range n b.left f.left (le_trans b.left b.right (pos n) f.wide f.right)

pub right_in_range : (n : ℕ) (b : Bounds) → FitsWithin (pos n) b → unsigned_abs b.right ≤ n
right_in_range n b f = side_in_range n b.right (le_trans (neg_ℤ (pos n)) b.left b.right f.left f.wide) f.right

pub top_in_range : (n : ℕ) (b : Bounds) → FitsWithin (pos n) b → unsigned_abs b.top ≤ n
top_in_range n b f = side_in_range n b.top f.top (le_trans b.top b.bottom (pos n) f.high f.bottom)

pub bottom_in_range : (n : ℕ) (b : Bounds) → FitsWithin (pos n) b → unsigned_abs b.bottom ≤ n
bottom_in_range n b f = side_in_range n b.bottom (le_trans (neg_ℤ (pos n)) b.top b.bottom f.top f.high) f.bottom

pub before_is : (high low d : ℤ) (t : Bool) → unsigned_abs high ≤ 1500000000 → unsigned_abs low ≤ 1500000000 → pos 0 ≤ℤ d → d ≤ℤ pos 2000000001 → (IsTrue t ↔ (passed high +ℤ passed d) ≤ℤ passed low) → (IsTrue t ↔ (high +ℤ d) ≤ℤ low)
before_is high low d t h k l m e = subst (λ (z : ℤ). IsTrue t ↔ z ≤ℤ low) (sum high d h l m) (subst (λ (z : ℤ). IsTrue t ↔ (passed high +ℤ passed d) ≤ℤ z) (one low k) e)
  where
    one : (z : ℤ) → unsigned_abs z ≤ 1500000000 → passed z ≡ z
    one z h = omega (arith, ints)

    sum : (z d : ℤ) → unsigned_abs z ≤ 1500000000 → pos 0 ≤ℤ d → d ≤ℤ pos 2000000001 → passed z +ℤ passed d ≡ z +ℤ d
    sum z d h k l = omega (arith, ints)

-- the same as `at_d`, as far as boxes are asked
pub at_reach : (P : ℤ → Type 0) (d : ℤ) (b : Bool) → pos 0 ≤ℤ d → d ≤ℤ pos 2000000001 → (IsTrue b ↔ P (passed d)) → (IsTrue b ↔ P d)
at_reach P d b h k e = subst (λ (z : ℤ). IsTrue b ↔ P z) (reach d h k) e
  where
    reach : (d : ℤ) → pos 0 ≤ℤ d → d ≤ℤ pos 2000000001 → passed d ≡ d
    reach d h k = omega (arith, ints)

-- a side moved out
pub less_is : (u r : ℤ) → unsigned_abs u ≤ 1000000000 → pos 0 ≤ℤ r → r ≤ℤ pos 500000000 → passed (passed u -ℤ passed r) ≡ u -ℤ r
less_is u r h k l = omega (arith, ints)

pub more_is : (u r : ℤ) → unsigned_abs u ≤ 1000000000 → pos 0 ≤ℤ r → r ≤ℤ pos 500000000 → passed (passed u +ℤ passed r) ≡ u +ℤ r
more_is u r h k l = omega (arith, ints)
