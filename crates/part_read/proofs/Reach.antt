-- What is read of a text is at most 10^12 nanometres from 0.
use Rattle.std.proofs.Common.{◌≡◌, ◌∙◌, refl, ap, sym, subst, ℕ, ℤ, pos, ◌≤◌, unsigned_abs, ◌≤ℤ◌, List, Option, None, Some, Result, Ok, Err, Bool, true, false, cond, ◌||◌, ltb, arith}
use Rattle.std.specs.Prelude.{int_le}
use Rattle.std.proofs.lemmas.Int.{ints}
use Rattle.int_algebra.proofs.Tested.{le_by_test}
use Rattle.board_errors.specs.declared.errors.BoardError.TheVariants.{BadNumber as BadNumberAt}
use Rattle.std.proofs.lemmas.Bool.{ltb-false}
use Rattle.exact_dec.specs.declared.DecError.{DecError}
use Rattle.exact_dec.specs.declared.DecError.TheVariants.{TooWide}
use Rattle.exact_dec.specs.DecimalAnswers.{is_long, is_far, no_more}
use Rattle.exact_dec.specs.Decimal.{Spelling, Fraction, cut, times, value}
use Rattle.exact_dec.specs.Computed.{mm_cut_answer, answer_of, parts_of}
use Rattle.board_errors.specs.declared.errors.BoardError.{BoardError}
use Rattle.sexpr_read.specs.Tree.{Tree, content}
use Rattle.list_read.specs.FirstRefusals.{◌>>=◌, needed}
use Rattle.list_read.specs.ListHeads.{place}
use Rattle.part_read.specs.ElementResults.{atom_of}
use Rattle.part_read.specs.BoardNumbers.{read_as, length_in, size_in, size_at, raw_point_at}
use Rattle.part_read.specs.declared.numbers.RawPoint.{RawPoint}
use Rattle.part_read.specs.Placements.{IsReadRawPoint}

by_tests : (long far beyond : Bool) (n m : ℤ) → cond {A = Result ℤ DecError} (long || (far || beyond)) (Err TooWide) (Ok n) ≡ Ok m → far ≡ ltb 1000000000000 (unsigned_abs n) → unsigned_abs m ≤ 1000000000000
by_tests true far beyond n m h e = absurd cc
by_tests false true beyond n m h e = absurd cc
by_tests false false true n m h e = absurd cc
by_tests false false false n m h e =
    let same : n ≡ m = cc in
    let k = ltb-false 1000000000000 (unsigned_abs n) (sym e) in
    let s : unsigned_abs n ≡ unsigned_abs m = ap unsigned_abs same in
    omega (arith, k, s)

by_parts : (text : List ℕ) (unit : ℤ) (rounded : Fraction → ℤ) (beyond : Fraction → Bool) (p : Option Spelling) (m : ℤ) → answer_of text unit rounded beyond p ≡ Ok m → unsigned_abs m ≤ 1000000000000
by_parts text unit rounded beyond None m h = absurd cc
by_parts text unit rounded beyond (Some p) m h = by_tests (is_long text p) (is_far (rounded (times unit (value p)))) (beyond (value p)) (rounded (times unit (value p))) m h refl

cut_within : (text : List ℕ) (m : ℤ) → mm_cut_answer text ≡ Ok m → unsigned_abs m ≤ 1000000000000
unfolding mm_cut_answer
cut_within text m h = by_parts text (pos 1000000) cut no_more (parts_of text) m h

by_read : (e : BoardError) (text : List ℕ) (r : Result ℤ DecError) (m : ℤ) → mm_cut_answer text ≡ r → read_as e r ≡ Ok m → unsigned_abs m ≤ 1000000000000
by_read e text (Ok n) m k h = let same : n ≡ m = cc in cut_within text m (k ∙ ap (λ (z : ℤ). Ok z) same)
by_read e text (Err d) m k h = absurd cc

by_content : (e : BoardError) (c : Option (List ℕ)) (m : ℤ) → (needed e c >>= λ text. read_as e (mm_cut_answer text)) ≡ Ok m → unsigned_abs m ≤ 1000000000000
by_content e None m h = absurd cc
by_content e (Some text) m h = by_read e text (mm_cut_answer text) m refl h

pub length_within : (atom : Tree) (m : ℤ) → length_in atom ≡ Ok m → unsigned_abs m ≤ 1000000000000
unfolding length_in
length_within atom m h = by_content _ (content atom) m h

-- what a chain gives, its parts gave
pub both_ok : {A B : Type 0} (r : Result A BoardError) (f : A → Result B BoardError) (y : B) → (r >>= f) ≡ Ok y → (x : A) × ((r ≡ Ok x) × (f x ≡ Ok y))
both_ok (Ok x) f y h = (x, (refl, h))
both_ok (Err e) f y h = absurd cc

pub raw_point_within : (list : Tree) (s : RawPoint) → raw_point_at list ≡ Ok s → IsReadRawPoint s
unfolding raw_point_at
raw_point_within list s h =
    let a = both_ok (atom_of 1 list) _ s h in
    let b = both_ok (length_in a.0) _ s a.1.1 in
    let c = both_ok (atom_of 2 list) _ s b.1.1 in
    let d = both_ok (length_in c.0) _ s c.1.1 in
    let same : record { x = b.0; y = d.0 } ≡ s = by_ok d.1.1 in
    let wide : IsReadRawPoint (record { x = b.0; y = d.0 }) = record { x = length_within a.0 b.0 b.1.0; y = length_within c.0 d.0 d.1.0 } in
    subst (λ (t : RawPoint). IsReadRawPoint t) same wide
  where
    by_ok : {t u : RawPoint} → (let r : Result RawPoint BoardError = Ok t in r) ≡ Ok u → t ≡ u
    by_ok e = cc

by_sign : (e : BoardError) (m n : ℤ) (b : Bool) → int_le (pos 0) m ≡ b → cond {A = Result ℤ BoardError} b (Ok m) (Err e) ≡ Ok n → unsigned_abs m ≤ 1000000000000 → (pos 0 ≤ℤ n) × (n ≤ℤ pos 1000000000000)
by_sign e m n true k h w =
    let same : m ≡ n = cc in
    let low : pos 0 ≤ℤ m = le_by_test (pos 0) m k in
    let high : m ≤ℤ pos 1000000000000 = omega (arith, ints, low, w) in
    (subst (λ (z : ℤ). pos 0 ≤ℤ z) same low, subst (λ (z : ℤ). z ≤ℤ pos 1000000000000) same high)
by_sign e m n false k h w = absurd cc

-- a size is from 0 on
pub size_in_range : (atom : Tree) (n : ℤ) → size_in atom ≡ Ok n → (pos 0 ≤ℤ n) × (n ≤ℤ pos 1000000000000)
unfolding size_in
size_in_range atom n h =
    let a = both_ok (length_in atom) _ n h in
    by_sign (BadNumberAt (place atom)) a.0 n (int_le (pos 0) a.0) refl a.1.1 (length_within atom a.0 a.1.0)

pub size_within : (list : Tree) (n : ℤ) → size_at list ≡ Ok n → (pos 0 ≤ℤ n) × (n ≤ℤ pos 1000000000000)
unfolding size_at
size_within list n h = let a = both_ok (atom_of 1 list) _ n h in size_in_range a.0 n a.1.1
