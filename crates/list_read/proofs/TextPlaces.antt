-- The fault of a text stands in it.
use Rattle.std.proofs.Common.{◌≡◌, ◌==◌, ℕ, zero, suc, Bool, true, false, List, length, subst, arith}
use Rattle.std.specs.Prelude.{Option, None, Some, if◌then◌else◌}
use Rattle.std.specs.Str.{is_utf8}
use Rattle.std.proofs.lemmas.Str.{utf8_valid_len_le}
use Rattle.sexpr_read.specs.declared.bytes.ByteClass.{ByteClass}
use Rattle.sexpr_read.specs.declared.bytes.ByteClass.TheVariants.{Space, Open, Close, Quote, Backslash, Plain}
use Rattle.sexpr_read.specs.declared.place.TextError.{TextError}
use Rattle.sexpr_read.specs.declared.place.TextError.TheVariants.{TooDeep}
use Rattle.sexpr_read.specs.Comments.{shown}
use Rattle.sexpr_read.specs.TreeRefusals.{Where, outside, in_string, after_backslash, where_at, is_blank_before, outer_fault, inner_fault, fault_in, fault_at, end_fault_in, end_fault, or_else, first_fault, refusal_of_all}
use Rattle.plain_types.specs.Limits.{IsInText, IsReadable}
use Rattle.list_read.specs.RefusalPlaces.{IsNearText}

abbrev pub NearIfSome : Option TextError → Type 0
NearIfSome None = Unit {0}
NearIfSome (Some e) = IsNearText e

near_if : (b : Bool) (x y : Option TextError) → NearIfSome x → NearIfSome y → NearIfSome (if b then x else y)
near_if true x y h k = h
near_if false x y h k = k

near_else : (x y : Option TextError) → NearIfSome x → NearIfSome y → NearIfSome (or_else x y)
near_else None y h k = k
near_else (Some e) y h k = h

near_outer : (blank : Bool) (p : ℕ) (c : ByteClass) → IsInText p → NearIfSome (outer_fault false blank p c)
near_outer blank p Close h = h
near_outer blank p Space h = tt
near_outer blank p Open h = tt
near_outer blank p Quote h = tt
near_outer blank p Backslash h = tt
near_outer blank p Plain h = tt

near_inner : (depth p : ℕ) (c : ByteClass) → IsInText p → NearIfSome (inner_fault depth p c)
near_inner depth p Open h = near_if (depth == 64) (Some (TooDeep p)) None h tt
near_inner depth p Close h = tt
near_inner depth p Space h = tt
near_inner depth p Quote h = tt
near_inner depth p Backslash h = tt
near_inner depth p Plain h = tt

near_in : (blank : Bool) (p : ℕ) (c : ByteClass) (w : Where) → IsInText p → NearIfSome (fault_in false blank p c w)
near_in blank p c (outside zero) h = near_outer blank p c h
near_in blank p c (outside (suc depth)) h = near_inner (suc depth) p c h
near_in blank p c (in_string depth) h = tt
near_in blank p c (after_backslash depth) h = tt

near_first : (sign : ℕ → ByteClass) (n : ℕ) → IsInText n → NearIfSome (first_fault false sign n)
unfolding first_fault
near_first sign zero h = tt
near_first sign (suc p) h =
    near_else (first_fault false sign p) (fault_at false sign p) (near_first sign p (omega (arith, h))) (near_in (is_blank_before sign p) p (sign p) (where_at sign p) (omega (arith, h)))

near_end : (blank : Bool) (n : ℕ) (w : Where) → IsInText n → NearIfSome (end_fault_in false blank n w)
near_end blank n (outside zero) h = tt
near_end blank n (outside (suc depth)) h = h
near_end blank n (in_string depth) h = h
near_end blank n (after_backslash depth) h = h

near_refusal : (text : List ℕ) → IsReadable text → NearIfSome (refusal_of_all text)
unfolding refusal_of_all
near_refusal text h =
    near_if (is_utf8 text) _ _
    (near_else (first_fault false (shown text) (length text)) (end_fault false (shown text) (length text)) (near_first (shown text) (length text) h) (near_end (is_blank_before (shown text) (length text)) (length text) (where_at (shown text) (length text)) h))
    (let k = utf8_valid_len_le text in omega (arith, k, h))

pub near_text : (text : List ℕ) (e : TextError) → refusal_of_all text ≡ Some e → IsReadable text → IsNearText e
near_text text e is h = subst NearIfSome is (near_refusal text h)
