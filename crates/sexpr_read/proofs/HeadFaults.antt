-- The faults of what stands outside the one list of a text.
use Rattle.std.proofs.Common.{◌≡◌, ℕ, ◌<◌, Bool, true, false, Some, refl}
use Rattle.sexpr_read.specs.declared.bytes.ByteClass.{ByteClass}
use Rattle.sexpr_read.specs.declared.bytes.ByteClass.TheVariants.{Space, Open, Close, Quote, Backslash, Plain}
use Rattle.sexpr_read.specs.declared.place.TextError.TheVariants.{CloseWithoutOpen, ExtraText}
use Rattle.sexpr_read.specs.TreeRefusals.{outside, whole_fault, is_blank_before, outer_fault}
use Rattle.sexpr_read.specs.ReaderProgress.{Stands}
use Rattle.sexpr_read.proofs.Faults.{whole_by_place}

-- a bracket that closes no list
pub close_outside : (one : Bool) (sign : ℕ → ByteClass) (n p : ℕ) → Stands one sign p (outside 0) → p < n → sign p ≡ Close
    → whole_fault one sign n ≡ Some (CloseWithoutOpen p)
close_outside one sign n p here low e = whole_by_place one sign n p (outside 0) Close (CloseWithoutOpen p) here low e refl

extra_sign : (c : ByteClass) (blank : Bool) (p : ℕ) → (c ≡ Space → ⊥) → (c ≡ Close → ⊥) → (c ≡ Open → blank ≡ false)
    → outer_fault true blank p c ≡ Some (ExtraText p)
extra_sign Space blank p s c o = absurd (s refl)
extra_sign Close blank p s c o = absurd (c refl)
extra_sign Open blank p s c o = rw (o refl) refl
extra_sign Quote blank p s c o = refl
extra_sign Backslash blank p s c o = refl
extra_sign Plain blank p s c o = refl

-- anything but space, and but the bracket of the first list
pub extra_outside : (sign : ℕ → ByteClass) (n p : ℕ) → Stands true sign p (outside 0) → p < n → (sign p ≡ Space → ⊥) → (sign p ≡ Close → ⊥)
    → (sign p ≡ Open → is_blank_before sign p ≡ false) → whole_fault true sign n ≡ Some (ExtraText p)
extra_outside sign n p here low s c o =
    whole_by_place true sign n p (outside 0) (sign p) (ExtraText p) here low refl (extra_sign (sign p) (is_blank_before sign p) p s c o)
