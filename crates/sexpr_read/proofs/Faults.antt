-- The first fault of a text is its refusal.
use Rattle.std.proofs.Common.{◌≡◌, inl, inr, ℕ, suc, ◌≤◌, ◌<◌, Bool, true, false, ◌&&◌, Option, Some, refl, arith}
use Rattle.sexpr_read.specs.declared.bytes.ByteClass.{ByteClass}
use Rattle.sexpr_read.specs.declared.bytes.ByteClass.TheVariants.{Open}
use Rattle.sexpr_read.specs.declared.place.TextError.{TextError}
use Rattle.sexpr_read.specs.declared.place.TextError.TheVariants.{EndInside}
use Rattle.sexpr_read.specs.Spelling.{IsSpaceBetween}
use Rattle.sexpr_read.specs.TreeRefusals.{Where, outside, in_string, after_backslash, where_at, first_fault, fault_in, end_fault_in, whole_fault, is_blank_before}
use Rattle.sexpr_read.specs.ReaderProgress.{Stands, IsUnclosed}
use Rattle.sexpr_read.proofs.Ranges.{range_ind}
use Rattle.sexpr_read.proofs.Machine.{over_content, over_backslash}

fault_stays : (one : Bool) (sign : ℕ → ByteClass) (e : TextError) (a b : ℕ) → a ≤ b → first_fault one sign a ≡ Some e → first_fault one sign b ≡ Some e
unfolding first_fault
fault_stays one sign e a b h here =
    range_ind (λ i. first_fault one sign i ≡ Some e) a b h here (λ i low high at. rw at refl)

first_by_place : (one : Bool) (sign : ℕ → ByteClass) (p : ℕ) (w : Where) (c : ByteClass) (e : TextError) → Stands one sign p w → sign p ≡ c
    → fault_in one (is_blank_before sign p) p c w ≡ Some e → first_fault one sign (suc p) ≡ Some e
unfolding first_fault
first_by_place one sign p w c e here is fault = rw (here.clean, here.where_is, is) fault

-- what stands at a place is the first fault
pub whole_by_place : (one : Bool) (sign : ℕ → ByteClass) (n p : ℕ) (w : Where) (c : ByteClass) (e : TextError) → Stands one sign p w → p < n → sign p ≡ c
    → fault_in one (is_blank_before sign p) p c w ≡ Some e → whole_fault one sign n ≡ Some e
whole_by_place one sign n p w c e here low is fault =
    rw (fault_stays one sign e (suc p) n low (first_by_place one sign p w c e here is fault)) refl

-- the end of the text is its only fault
pub whole_by_end : (one : Bool) (sign : ℕ → ByteClass) (n : ℕ) (w : Where) (r : Option TextError) → Stands one sign n w
    → end_fault_in one (is_blank_before sign n) n w ≡ r → whole_fault one sign n ≡ r
whole_by_end one sign n w r here fault = rw (here.clean, here.where_is) fault

-- the text ends in a string
pub whole_by_string : (one : Bool) (sign : ℕ → ByteClass) (n p d : ℕ) → Stands one sign p (in_string d) → IsUnclosed sign p n
    → whole_fault one sign n ≡ Some (EndInside n)
whole_by_string one sign n p d here (inl content) =
    whole_by_end one sign n (in_string d) (Some (EndInside n)) (over_content one sign d content here) refl
whole_by_string one sign n p d here (inr (last, ends, content, slash)) =
    let at : Stands one sign n (after_backslash d) = rw ends (over_backslash one sign last d slash (over_content one sign d content here)) in
    whole_by_end one sign n (after_backslash d) (Some (EndInside n)) at refl

-- the text ends in a list
pub whole_by_list : (one : Bool) (sign : ℕ → ByteClass) (n d : ℕ) → Stands one sign n (outside (suc d)) → whole_fault one sign n ≡ Some (EndInside n)
whole_by_list one sign n d here = whole_by_end one sign n (outside (suc d)) (Some (EndInside n)) here refl

pub stands_first : (one : Bool) (sign : ℕ → ByteClass) → Stands one sign 0 (outside 0)
unfolding where_at first_fault
stands_first one sign = record { where_is = refl; clean = refl }

pub blank_gap : (sign : ℕ → ByteClass) (p : ℕ) → IsSpaceBetween sign 0 p → is_blank_before sign p ≡ true
unfolding is_blank_before
blank_gap sign p gap =
    range_ind (λ i. is_blank_before sign i ≡ true) 0 p (omega arith) refl (λ i low high at. rw (gap.blank i low high, at) refl)

and_false : (b : Bool) → (b && false) ≡ false
and_false true = refl
and_false false = refl

pub still_not_blank : (sign : ℕ → ByteClass) (p q : ℕ) → is_blank_before sign p ≡ false → p ≤ q → is_blank_before sign q ≡ false
unfolding is_blank_before
still_not_blank sign p q e h =
    range_ind (λ i. is_blank_before sign i ≡ false) p q h e (λ i low high at. rw at (and_false _))

-- a sign before a place that is no space
pub not_blank : (sign : ℕ → ByteClass) (p q : ℕ) → sign p ≡ Open → p < q → is_blank_before sign q ≡ false
unfolding is_blank_before
not_blank sign p q e h = still_not_blank sign (suc p) q (rw e refl) h
