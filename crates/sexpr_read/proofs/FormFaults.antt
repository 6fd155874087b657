-- Among forms no text is too many, and an empty text is no fault.
use Rattle.std.proofs.Common.{◌≡◌, ◌⊎◌, inl, inr, ℕ, zero, suc, Bool, true, false, ◌==◌, List, length, Option, Some, None, sym, subst}
use Rattle.std.specs.Prelude.{Result, Ok, Err, IfErr, if◌then◌else◌}
use Rattle.sexpr_read.specs.declared.bytes.ByteClass.{ByteClass}
use Rattle.sexpr_read.specs.declared.bytes.ByteClass.TheVariants.{Space, Open, Close, Quote, Backslash, Plain}
use Rattle.sexpr_read.specs.declared.place.TextError.{TextError}
use Rattle.sexpr_read.specs.declared.place.TextError.TheVariants.{OutOfMemory, TooDeep}
use Rattle.sexpr_read.specs.Comments.{shown}
use Rattle.sexpr_read.specs.TreeRefusals.{Where, outside, in_string, after_backslash, where_at, first_fault, fault_in, fault_at, end_fault, end_fault_in, whole_fault, or_else, is_blank_before, IsOfForms}

-- so it is of what comes, if anything does
abbrev AreOfForms : Option TextError → Type 0
AreOfForms None = Unit {0}
AreOfForms (Some e) = IsOfForms e

deep_fault : (b : Bool) (p : ℕ) → AreOfForms (if b then Some (TooDeep p) else None)
deep_fault true p = tt
deep_fault false p = tt

place_fault : (blank : Bool) (p : ℕ) (c : ByteClass) (w : Where) → AreOfForms (fault_in false blank p c w)
place_fault blank p Space (outside zero) = tt
place_fault blank p Open (outside zero) = tt
place_fault blank p Close (outside zero) = tt
place_fault blank p Quote (outside zero) = tt
place_fault blank p Backslash (outside zero) = tt
place_fault blank p Plain (outside zero) = tt
place_fault blank p Space (outside (suc d)) = tt
place_fault blank p Open (outside (suc d)) = deep_fault (suc d == 64) p
place_fault blank p Close (outside (suc d)) = tt
place_fault blank p Quote (outside (suc d)) = tt
place_fault blank p Backslash (outside (suc d)) = tt
place_fault blank p Plain (outside (suc d)) = tt
place_fault blank p c (in_string d) = tt
place_fault blank p c (after_backslash d) = tt

last_fault : (blank : Bool) (p : ℕ) (w : Where) → AreOfForms (end_fault_in false blank p w)
last_fault blank p (outside zero) = tt
last_fault blank p (outside (suc d)) = tt
last_fault blank p (in_string d) = tt
last_fault blank p (after_backslash d) = tt

either_fault : (a b : Option TextError) → AreOfForms a → AreOfForms b → AreOfForms (or_else a b)
either_fault None b h k = k
either_fault (Some e) b h k = h

first_of_forms : (sign : ℕ → ByteClass) (n : ℕ) → AreOfForms (first_fault false sign n)
unfolding first_fault
first_of_forms sign zero = tt
first_of_forms sign (suc n) =
    either_fault (first_fault false sign n) (fault_at false sign n) (first_of_forms sign n)
    (place_fault (is_blank_before sign n) n (sign n) (where_at sign n))

whole_of_forms : (sign : ℕ → ByteClass) (n : ℕ) → AreOfForms (whole_fault false sign n)
whole_of_forms sign n =
    either_fault (first_fault false sign n) (end_fault false sign n) (first_of_forms sign n) (last_fault (is_blank_before sign n) n (where_at sign n))

of_forms : (sign : ℕ → ByteClass) (n : ℕ) (e : TextError) → whole_fault false sign n ≡ Some e → IsOfForms e
of_forms sign n e h = subst AreOfForms h (whole_of_forms sign n)

pub refused_forms : {D : Type 0} (text : List ℕ) (r : Result D TextError)
    → IfErr r (λ e. (e ≡ OutOfMemory) ⊎ (whole_fault false (shown text) (length text) ≡ Some e)) → IfErr r IsOfForms
refused_forms text (Ok doc) h = tt
refused_forms text (Err e) (inl memory) = subst IsOfForms (sym memory) tt
refused_forms text (Err e) (inr fault) = of_forms (shown text) (length text) e fault
