-- Where the prefixes of a text end, and that no fault comes on the way over a gap, a word, a string or a list.
use Rattle.std.proofs.Common.{◌≡◌, ℕ, zero, suc, ◌<◌, Bool, true, false, ◌==◌, None, refl, arith}
use Rattle.sexpr_read.specs.declared.bytes.ByteClass.{ByteClass}
use Rattle.sexpr_read.specs.declared.bytes.ByteClass.TheVariants.{Space, Open, Close, Quote, Backslash, Plain}
use Rattle.sexpr_read.specs.ByteClasses.{is_word, is_itself}
use Rattle.sexpr_read.specs.Spelling.{IsSpaceBetween, IsWord, IsContent, empty, itself, escape, IsString}
use Rattle.sexpr_read.specs.TreeRefusals.{Where, outside, in_string, after_backslash, beyond, where_at, first_fault, fault_in, is_blank_before}
use Rattle.sexpr_read.specs.ReaderProgress.{Stands}
use Rattle.sexpr_read.proofs.Ranges.{range_ind}

-- words and strings may stand at this depth
abbrev pub IsInner : Bool → ℕ → Type 0
IsInner one zero = one ≡ false
IsInner one (suc depth) = Unit {0}

pub stands_next : (one : Bool) (sign : ℕ → ByteClass) (p : ℕ) (w : Where) (c : ByteClass) → Stands one sign p w → sign p ≡ c
    → fault_in one (is_blank_before sign p) p c w ≡ None → Stands one sign (suc p) (beyond c w)
unfolding where_at first_fault
stands_next one sign p w c here e none = record {
  where_is = rw (here.where_is, e) refl;
  clean = rw (here.clean, here.where_is, e) none;
}

pub over_space : (one : Bool) (sign : ℕ → ByteClass) (p d : ℕ) → Stands one sign p (outside d) → sign p ≡ Space → Stands one sign (suc p) (outside d)
over_space one sign p zero here e = stands_next one sign p (outside zero) Space here e refl
over_space one sign p (suc d) here e = stands_next one sign p (outside (suc d)) Space here e refl

pub over_gap : (one : Bool) (sign : ℕ → ByteClass) (a b d : ℕ) → IsSpaceBetween sign a b → Stands one sign a (outside d) → Stands one sign b (outside d)
over_gap one sign a b d gap here =
    range_ind (λ i. Stands one sign i (outside d)) a b gap.ordered here (λ i low high at. over_space one sign i d at (gap.blank i low high))

-- a byte of a word changes nothing
word_byte : (one : Bool) (sign : ℕ → ByteClass) (p d : ℕ) (c : ByteClass) → IsInner one d → is_word c ≡ true → sign p ≡ c
    → Stands one sign p (outside d) → Stands one sign (suc p) (outside d)
word_byte one sign p zero Plain inner w e here = stands_next one sign p (outside zero) Plain here e (rw inner refl)
word_byte one sign p (suc d) Plain inner w e here = stands_next one sign p (outside (suc d)) Plain here e refl
word_byte one sign p zero Backslash inner w e here = stands_next one sign p (outside zero) Backslash here e (rw inner refl)
word_byte one sign p (suc d) Backslash inner w e here = stands_next one sign p (outside (suc d)) Backslash here e refl
word_byte one sign p d Space inner w e here = cc
word_byte one sign p d Open inner w e here = cc
word_byte one sign p d Close inner w e here = cc
word_byte one sign p d Quote inner w e here = cc

pub over_word : (one : Bool) (sign : ℕ → ByteClass) (a b d : ℕ) → IsInner one d → IsWord sign a b → Stands one sign a (outside d) → Stands one sign b (outside d)
over_word one sign a b d inner word here =
    range_ind (λ i. Stands one sign i (outside d)) a b (omega arith) here
    (λ i low high at. word_byte one sign i d (sign i) inner (word.each i low high) refl at)

-- a byte that stands for itself in a string changes nothing
itself_byte : (one : Bool) (sign : ℕ → ByteClass) (p d : ℕ) (c : ByteClass) → is_itself c ≡ true → sign p ≡ c
    → Stands one sign p (in_string d) → Stands one sign (suc p) (in_string d)
itself_byte one sign p d Plain w e here = stands_next one sign p (in_string d) Plain here e refl
itself_byte one sign p d Space w e here = stands_next one sign p (in_string d) Space here e refl
itself_byte one sign p d Open w e here = stands_next one sign p (in_string d) Open here e refl
itself_byte one sign p d Close w e here = stands_next one sign p (in_string d) Close here e refl
itself_byte one sign p d Quote w e here = cc
itself_byte one sign p d Backslash w e here = cc

-- a backslash in a string
pub over_backslash : (one : Bool) (sign : ℕ → ByteClass) (p d : ℕ) → sign p ≡ Backslash
    → Stands one sign p (in_string d) → Stands one sign (suc p) (after_backslash d)
over_backslash one sign p d e here = stands_next one sign p (in_string d) Backslash here e refl

escaped_byte : (one : Bool) (sign : ℕ → ByteClass) (p d : ℕ) (c : ByteClass) → sign p ≡ c
    → Stands one sign p (after_backslash d) → Stands one sign (suc p) (in_string d)
escaped_byte one sign p d Plain e here = stands_next one sign p (after_backslash d) Plain here e refl
escaped_byte one sign p d Space e here = stands_next one sign p (after_backslash d) Space here e refl
escaped_byte one sign p d Open e here = stands_next one sign p (after_backslash d) Open here e refl
escaped_byte one sign p d Close e here = stands_next one sign p (after_backslash d) Close here e refl
escaped_byte one sign p d Quote e here = stands_next one sign p (after_backslash d) Quote here e refl
escaped_byte one sign p d Backslash e here = stands_next one sign p (after_backslash d) Backslash here e refl

pub over_content : (one : Bool) (sign : ℕ → ByteClass) (d : ℕ) {a b : ℕ} → IsContent sign a b → Stands one sign a (in_string d) → Stands one sign b (in_string d)
over_content one sign d empty here = here
over_content one sign d (itself {from} {to} e more) here = over_content one sign d more (itself_byte one sign from d (sign from) e refl here)
over_content one sign d (escape {from} {to} e more) here =
    over_content one sign d more (escaped_byte one sign (suc from) d (sign (suc from)) refl (over_backslash one sign from d e here))

pub over_quote : (one : Bool) (sign : ℕ → ByteClass) (p d : ℕ) → IsInner one d → sign p ≡ Quote
    → Stands one sign p (outside d) → Stands one sign (suc p) (in_string d)
over_quote one sign p zero inner e here = stands_next one sign p (outside zero) Quote here e (rw inner refl)
over_quote one sign p (suc d) inner e here = stands_next one sign p (outside (suc d)) Quote here e refl

pub over_end_quote : (one : Bool) (sign : ℕ → ByteClass) (p d : ℕ) → sign p ≡ Quote
    → Stands one sign p (in_string d) → Stands one sign (suc p) (outside d)
over_end_quote one sign p d e here = stands_next one sign p (in_string d) Quote here e refl

pub over_string : (one : Bool) (sign : ℕ → ByteClass) (a b d : ℕ) → IsInner one d → IsString sign a b → Stands one sign a (outside d) → Stands one sign b (outside d)
over_string one sign a b d inner s here =
    rw s.ends (over_end_quote one sign s.close d s.closes (over_content one sign d s.inside (over_quote one sign a d inner s.opens here)))

-- a bracket that opens a list, in a list or where forms stand, below the last level
pub over_open : (one : Bool) (sign : ℕ → ByteClass) (p d : ℕ) → IsInner one d → d < 64 → sign p ≡ Open
    → Stands one sign p (outside d) → Stands one sign (suc p) (outside (suc d))
over_open one sign p zero inner low e here = stands_next one sign p (outside zero) Open here e (rw inner refl)
over_open one sign p (suc d) inner low e here = stands_next one sign p (outside (suc d)) Open here e (not_last d p low)
  where
    not_last : (d p : ℕ) → suc d < 64 → fault_in one (is_blank_before sign p) p Open (outside (suc d)) ≡ None
    not_last d p low = let no : (suc d == 64) ≡ false = grind arith in rw no refl

-- the bracket of the one list of a text
pub over_first : (sign : ℕ → ByteClass) (p : ℕ) → is_blank_before sign p ≡ true → sign p ≡ Open
    → Stands true sign p (outside 0) → Stands true sign (suc p) (outside 1)
over_first sign p blank e here = stands_next true sign p (outside zero) Open here e (rw blank refl)

pub over_close : (one : Bool) (sign : ℕ → ByteClass) (p d : ℕ) → sign p ≡ Close
    → Stands one sign p (outside (suc d)) → Stands one sign (suc p) (outside d)
over_close one sign p d e here = stands_next one sign p (outside (suc d)) Close here e refl
