-- Lengths that a single item has.
use Rattle.std.proofs.Common.{◌≡◌, sym, ap, ℤ, pos, negsuc, neg_ℤ, ◌-ℤ◌, ◌≤ℤ◌, Bool, Option, Some, FitsSigned, subst, arith, rules}
use Rattle.std.proofs.lemmas.Int.{ints}
use mir.Syntax.{w64}
use Rattle.plain_types.specs.Lengths.{IsLength, IsLengthIfSome}
use Rattle.one_item.specs.declared.item.Hole.{Hole}
use Rattle.one_item.specs.declared.item.What.{What}
use Rattle.one_item.specs.declared.item.What.TheVariants.{Via}
use Rattle.int_algebra.proofs.Scalars.{passed}
use Rattle.kind_subjects.specs.LimitedLengths.{IsNearZero, ring_of}

pub passed_within : (n : ℤ) → IsLength n → IsNearZero (passed n)
passed_within n h =
    let a = h.from in
    let b = h.to in record { from = omega (arith, ints); to = omega (arith, ints) }

passed_difference : (size drill : ℤ) → pos 0 ≤ℤ size → size ≤ℤ pos 500000000 → pos 0 ≤ℤ drill → drill ≤ℤ pos 500000000 → passed (passed size -ℤ passed drill) ≡ size -ℤ drill
passed_difference size drill a b c d = omega (arith, ints)

small_fits : (z : ℤ) → neg_ℤ (pos 500000000) ≤ℤ z → z ≤ℤ pos 500000000 → FitsSigned w64 z
small_fits (pos n) h k = record { sfits = omega (arith, ints) }
small_fits (negsuc n) h k = record { sfits = omega (arith, ints) }

pub difference_fits : (size drill : ℤ) → IsLength size → IsLength drill → FitsSigned w64 (passed size -ℤ passed drill)
difference_fits size drill h k =
    let a = h.from in
    let b = h.to in
    let c = k.from in
    let d = k.to in small_fits (passed size -ℤ passed drill) (omega (arith, ints)) (omega (arith, ints))

pub difference_within : (size drill : ℤ) → IsLength size → IsLength drill → IsNearZero (passed (passed size -ℤ passed drill))
difference_within size drill h k =
    let a = h.from in
    let b = h.to in
    let c = k.from in
    let d = k.to in record { from = omega (arith, ints); to = omega (arith, ints) }

pub ring_is : (what : What) (hole : Option Hole) (size drill : ℤ) (micro blind : Bool) (h : Hole) → IsLength size → IsLength drill → what ≡ Via size drill micro blind → hole ≡ Some h
    → Some (passed (passed size -ℤ passed drill)) ≡ ring_of what hole
ring_is what hole size drill micro blind h k l e f = rw (e, f) (ap Some (passed_difference size drill k.from k.to l.from l.to))

pub passed_is_length : (n : ℤ) → IsLength n → IsLength (passed n)
passed_is_length n h =
    let a = h.from in
    let b = h.to in record { from = omega (arith, ints); to = omega (arith, ints) }

pub passed_gap_within : (v gap : ℤ) → IsLength v → pos 0 ≤ℤ gap → gap ≤ℤ v → IsNearZero (passed gap)
passed_gap_within v gap h k l =
    let a = h.to in record { from = omega (arith, ints); to = omega (arith, ints) }

pub length_if : (n : Option ℤ) (nm : ℤ) → n ≡ Some nm → IsLengthIfSome n → IsLength nm
length_if n nm e h = there nm (subst IsLengthIfSome e h)
  where
    there : (nm : ℤ) → IsLengthIfSome (Some nm) → IsLength nm
    there nm k = search (rules, k)

pub within_passed : (n : ℤ) → IsNearZero n → passed n ≡ n
within_passed n h =
    let a = h.from in
    let b = h.to in omega (arith, ints)

pub passed_is_within : (n : ℤ) → IsNearZero n → IsNearZero (passed n)
passed_is_within n h = subst IsNearZero (sym (within_passed n h)) h
