-- The ratio of a size that was read is at most 10^12 nanometres from 0.
use Rattle.std.proofs.Common.{◌≡◌, ◌∙◌, refl, ap, sym, ℕ, ℤ, ◌≤◌, unsigned_abs, List, Option, None, Some, Result, Ok, Err, Bool, true, false, cond, ◌||◌, ltb, arith}
use Rattle.std.proofs.lemmas.Bool.{ltb-false}
use Rattle.exact_dec.specs.declared.DecError.{DecError}
use Rattle.exact_dec.specs.declared.DecError.TheVariants.{TooWide}
use Rattle.exact_dec.specs.DecimalAnswers.{is_long, is_far, is_no_half}
use Rattle.exact_dec.specs.Decimal.{Spelling, times, value}
use Rattle.exact_dec.specs.Computed.{near, ratio_near_answer, answer_of, parts_of}
use Rattle.board_errors.specs.declared.errors.BoardError.{BoardError}
use Rattle.sexpr_read.specs.Tree.{Tree, content}
use Rattle.list_read.specs.FirstRefusals.{◌>>=◌, needed}
use Rattle.part_read.specs.BoardNumbers.{read_as}
use Rattle.pad_read.specs.PadShapes.{share_of}

by_tests : (long far beyond : Bool) (n m : ℤ) → cond {A = Result ℤ DecError} (long || (far || beyond)) (Err TooWide) (Ok n) ≡ Ok m → far ≡ ltb 1000000000000 (unsigned_abs n) → unsigned_abs m ≤ 1000000000000
by_tests true far beyond n m h e = absurd cc
by_tests false true beyond n m h e = absurd cc
by_tests false false true n m h e = absurd cc
by_tests false false false n m h e =
    let same : n ≡ m = cc in
    let k = ltb-false 1000000000000 (unsigned_abs n) (sym e) in
    let s : unsigned_abs n ≡ unsigned_abs m = ap unsigned_abs same in
    omega (arith, k, s)

by_parts : (text : List ℕ) (size : ℤ) (p : Option Spelling) (m : ℤ) → answer_of text size near is_no_half p ≡ Ok m → unsigned_abs m ≤ 1000000000000
by_parts text size None m h = absurd cc
by_parts text size (Some p) m h = by_tests (is_long text p) (is_far (near (times size (value p)))) (is_no_half (value p)) (near (times size (value p))) m h refl

near_within : (text : List ℕ) (size m : ℤ) → ratio_near_answer text size ≡ Ok m → unsigned_abs m ≤ 1000000000000
unfolding ratio_near_answer
near_within text size m h = by_parts text size (parts_of text) m h

by_read : (e : BoardError) (text : List ℕ) (size : ℤ) (r : Result ℤ DecError) (m : ℤ) → ratio_near_answer text size ≡ r → read_as e r ≡ Ok m → unsigned_abs m ≤ 1000000000000
by_read e text size (Ok n) m k h = let same : n ≡ m = cc in near_within text size m (k ∙ ap (λ (z : ℤ). Ok z) same)
by_read e text size (Err d) m k h = absurd cc

by_content : (e : BoardError) (size : ℤ) (c : Option (List ℕ)) (m : ℤ) → (needed e c >>= λ text. read_as e (ratio_near_answer text size)) ≡ Ok m → unsigned_abs m ≤ 1000000000000
by_content e size None m h = absurd cc
by_content e size (Some text) m h = by_read e text size (ratio_near_answer text size) m refl h

pub share_within : (size : ℤ) (atom : Tree) (m : ℤ) → share_of size atom ≡ Ok m → unsigned_abs m ≤ 1000000000000
unfolding share_of
share_within size atom m h = by_content _ _ (content atom) m h
