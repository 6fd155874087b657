-- In a text that is UTF-8 each atom stands for UTF-8.
use Rattle.std.proofs.Common.{◌≡◌, inl, inr, ℕ, zero, suc, ◌+◌, ◌-◌, ◌≤◌, ◌<◌, Bool, true, false, ◌==◌, List, [], ◌∷◌, length, take, drop, IsUtf8, refl, sym, ◌∙◌, ap, subst, arith}
use Rattle.std.specs.Prelude.{slice_range, if◌then◌else◌}
use Rattle.std.proofs.Math.Nat.{eq-or-lt_of_le}
use Rattle.std.specs.Str.{IsCharBoundary}
use Rattle.std.proofs.lemmas.Bool.{cases_lt}
use Rattle.std.proofs.lemmas.Bool.Decides.{nat_tests}
use Rattle.std.proofs.lemmas.List.{get_or_default}
use Rattle.std.proofs.lemmas.Str.{IsUtf8-between, IsCharBoundary-end, IsCharBoundary-before_ascii, IsCharBoundary-after_ascii}
use Rattle.sexpr_read.specs.declared.arena.Cell.{Cell}
use Rattle.sexpr_read.specs.declared.bytes.ByteClass.{ByteClass}
use Rattle.sexpr_read.specs.declared.bytes.ByteClass.TheVariants.{Space, Open, Close, Quote, Backslash, Plain}
use Rattle.sexpr_read.specs.ByteClasses.{class_of, sign_of, is_word}
use Rattle.sexpr_read.specs.Comments.{Line, fresh, begun, quoting, escaping, comment, line_beyond, line_at, is_passed, shown, signs}
use Rattle.sexpr_read.specs.Tree.{Forest, none, atom, list, Tree, trees, unescaped}
use Rattle.sexpr_read.specs.AtomTexts.{AreTexts, HasTexts}
use Rattle.sexpr_read.specs.Spelling.{IsSpaceBetween, IsWord, IsString, SpellsForest}
use Rattle.sexpr_read.specs.ForestCells.{kind_at, forest_of, tree_at}
use Rattle.sexpr_read.proofs.Escapes.{IsUtf8-unescaped}
use Rattle.sexpr_read.proofs.Lines.{byte, sign_shown, sign_is, line_next, shown_plain, shown_passed, comment_next, comment_shown}
use Rattle.sexpr_read.proofs.Unique.{forest_ordered, atom_head, string_ordered}
use Rattle.sexpr_read.proofs.Splits.{Splits}

-- Where the reader stands a character begins: brackets, quotes and space are ASCII.

pub high_plain : (b : ℕ) → 128 ≤ b → class_of b ≡ Plain
unfolding class_of
high_plain b h =
    let s : (b == 0x20) ≡ false = grind (arith, nat_tests, h) in
    let t : (b == 0x09) ≡ false = grind (arith, nat_tests, h) in
    let f : (b == 0x0A) ≡ false = grind (arith, nat_tests, h) in
    let r : (b == 0x0D) ≡ false = grind (arith, nat_tests, h) in
    let o : (b == 0x28) ≡ false = grind (arith, nat_tests, h) in
    let c : (b == 0x29) ≡ false = grind (arith, nat_tests, h) in
    let q : (b == 0x22) ≡ false = grind (arith, nat_tests, h) in
    let k : (b == 0x5C) ≡ false = grind (arith, nat_tests, h) in
    rw (s, t, f, r, o, c, q, k) refl

high_sign : (text : List ℕ) (p : ℕ) → 128 ≤ byte text p → sign_of text p ≡ Plain
high_sign text p h = sign_is text p (byte text p) refl ∙ high_plain (byte text p) h

low_by : (text : List ℕ) (p : ℕ) → (sign_of text p ≡ Plain → ⊥) → byte text p < 128
low_by text p h = elim (cases_lt (byte text p) 128) [ inl low ↦ low | inr high ↦ absurd (h (high_sign text p high)) ]

cut_at : (text : List ℕ) (p : ℕ) → p < length text → byte text p < 128 → IsCharBoundary text p
cut_at text p within low = IsCharBoundary-before_ascii text p within (subst (λ b. b < 128) (get_or_default text p 0x20 0 within) low)

cut_behind : (text : List ℕ) (p : ℕ) → IsUtf8 text → p < length text → byte text p < 128 → IsCharBoundary text (suc p)
cut_behind text p u within low =
    let next : p + 1 ≡ suc p = omega arith in
    subst (IsCharBoundary text) next (IsCharBoundary-after_ascii text p u within (subst (λ b. b < 128) (get_or_default text p 0x20 0 within) low))

-- beside a byte of no ASCII that counts as space there is space
record HidesWhole (text : List ℕ) (sign : ℕ → ByteClass) : Type 0 where
  after : (p : ℕ) → 128 ≤ byte text p → sign p ≡ Space → sign (suc p) ≡ Space
  before : (p : ℕ) → 128 ≤ byte text (suc p) → sign (suc p) ≡ Space → sign p ≡ Space

no_high_space : (text : List ℕ) (p : ℕ) → 128 ≤ byte text p → sign_of text p ≡ Space → ⊥
no_high_space text p h e = let same : Plain ≡ Space = sym (high_sign text p h) ∙ e in cc

passed_high : (b : ℕ) (l : Line) → 128 ≤ b → is_passed b l ≡ true → l ≡ comment
passed_high b fresh h e = let no : (b == 0x23) ≡ false = grind (arith, nat_tests, h) in cc
passed_high b begun h e = cc
passed_high b quoting h e = cc
passed_high b escaping h e = cc
passed_high b comment h e = refl

in_comment : (text : List ℕ) (p : ℕ) → 128 ≤ byte text p → shown text p ≡ Space → line_at text p ≡ comment
in_comment text p h e = by_test (is_passed (byte text p) (line_at text p)) refl
  where
    by_test : (t : Bool) → is_passed (byte text p) (line_at text p) ≡ t → line_at text p ≡ comment
    by_test true k = passed_high (byte text p) (line_at text p) h k
    by_test false k = absurd (no_high_space text p h (sym (shown_plain text p k) ∙ e))

comment_after : (text : List ℕ) (p : ℕ) → 128 ≤ byte text p → shown text p ≡ Space → shown text (suc p) ≡ Space
comment_after text p h e = comment_shown text (suc p) (comment_next text p (in_comment text p h e) (λ b. omega arith))

fresh_or_begun : (x : Bool) → (if x then fresh else begun) ≡ comment → ⊥
fresh_or_begun true e = cc
fresh_or_begun false e = cc

begun_or_fresh : (x : Bool) → (if x then begun else fresh) ≡ comment → ⊥
begun_or_fresh true e = cc
begun_or_fresh false e = cc

mark_from : (x : Bool) → (if x then comment else begun) ≡ comment → x ≡ true
mark_from true e = refl
mark_from false e = cc

-- only a comment and its mark have a comment behind them
passed_before : (b : ℕ) (c : ByteClass) (l : Line) → line_beyond b c l ≡ comment → is_passed b l ≡ true
passed_before b Space fresh e = absurd (begun_or_fresh (b == 0x0D) e)
passed_before b Plain fresh e = mark_from (b == 0x23) e
passed_before b Quote fresh e = cc
passed_before b Open fresh e = cc
passed_before b Close fresh e = cc
passed_before b Backslash fresh e = cc
passed_before b Space begun e = absurd (fresh_or_begun (b == 0x0A) e)
passed_before b Quote begun e = cc
passed_before b Plain begun e = cc
passed_before b Open begun e = cc
passed_before b Close begun e = cc
passed_before b Backslash begun e = cc
passed_before b Quote quoting e = cc
passed_before b Backslash quoting e = cc
passed_before b Space quoting e = cc
passed_before b Plain quoting e = cc
passed_before b Open quoting e = cc
passed_before b Close quoting e = cc
passed_before b _ escaping e = cc
passed_before b _ comment e = refl

comment_before : (text : List ℕ) (p : ℕ) → 128 ≤ byte text (suc p) → shown text (suc p) ≡ Space → shown text p ≡ Space
comment_before text p h e =
    shown_passed text p (passed_before (byte text p) (sign_of text p) (line_at text p) (sym (line_next text p) ∙ in_comment text (suc p) h e))

hides : (one : Bool) (text : List ℕ) → HidesWhole text (signs one text)
hides true text = record { after = λ p h e. absurd (no_high_space text p h e); before = λ p h e. absurd (no_high_space text (suc p) h e) }
hides false text = record { after = comment_after text; before = comment_before text }

open_is_plain : (c : ByteClass) → c ≡ Open → c ≡ Plain → ⊥
open_is_plain c e h = cc

-- what stands behind a bracket may be cut off
pub cut_behind_open : (text : List ℕ) (p : ℕ) → IsUtf8 text → p < length text → sign_of text p ≡ Open → IsCharBoundary text (suc p)
cut_behind_open text p u low e = cut_behind text p u low (low_by text p (open_is_plain (sign_of text p) e))

-- `sign` is what stands in the text, but where it has space
module _ (text : List ℕ) (u : IsUtf8 text) (sign : ℕ → ByteClass) (same : (p : ℕ) → (sign p ≡ Space → ⊥) → sign_of text p ≡ sign p) (whole : HidesWhole text sign) where
  sign_low : (p : ℕ) (c : ByteClass) → sign p ≡ c → (c ≡ Space → ⊥) → (c ≡ Plain → ⊥) → byte text p < 128
  sign_low p c e space plain = low_by text p (λ h. plain (sym e ∙ sym (same p (λ s. space (sym e ∙ s))) ∙ h))

  open_low : (p : ℕ) → sign p ≡ Open → byte text p < 128
  open_low p e = sign_low p Open e (λ h. cc) (λ h. cc)

  close_low : (p : ℕ) → sign p ≡ Close → byte text p < 128
  close_low p e = sign_low p Close e (λ h. cc) (λ h. cc)

  quote_low : (p : ℕ) → sign p ≡ Quote → byte text p < 128
  quote_low p e = sign_low p Quote e (λ h. cc) (λ h. cc)

  behind_space : (a b : ℕ) → IsSpaceBetween sign a b → a < b → b ≤ length text → (sign b ≡ Space → ⊥) → IsCharBoundary text b
  behind_space a zero g fore low head = absurd (omega arith)
  behind_space a (suc q) g fore low head =
      let space : sign q ≡ Space = g.blank q (omega arith) (omega arith) in
      elim (cases_lt (byte text q) 128) [
        | inl ascii ↦ cut_behind text q u (omega arith) ascii
        | inr high ↦ absurd (head (whole.after q high space))
      ]

  cut_over_gap : (a b : ℕ) → IsCharBoundary text a → IsSpaceBetween sign a b → b ≤ length text → (sign b ≡ Space → ⊥) → IsCharBoundary text b
  cut_over_gap a b cut g low head = elim (eq-or-lt_of_le g.ordered) [
    | inl e ↦ subst (IsCharBoundary text) e cut
    | inr fore ↦ behind_space a b g fore low head
  ]

  -- no byte of a character stands behind a word
  word_stops : (q : ℕ) (c : ByteClass) → sign (suc q) ≡ c → is_word c ≡ false → is_word (sign q) ≡ true → 128 ≤ byte text (suc q) → ⊥
  word_stops q Space e last word high =
      let space : is_word Space ≡ true = rw (whole.before q high e) at word in cc
  word_stops q Open e last word high = let low = open_low (suc q) e in omega arith
  word_stops q Close e last word high = let low = close_low (suc q) e in omega arith
  word_stops q Quote e last word high = let low = quote_low (suc q) e in omega arith
  word_stops q Backslash e last word high = cc
  word_stops q Plain e last word high = cc

  cut_behind_word : (a b : ℕ) → IsWord sign a b → b ≤ length text → IsCharBoundary text b
  cut_behind_word a zero w low = absurd (omega (arith, w.ordered))
  cut_behind_word a (suc q) w low = elim (eq-or-lt_of_le low) [
    | inl e ↦ subst (IsCharBoundary text) (sym e) (IsCharBoundary-end text)
    | inr within ↦ elim (cases_lt (byte text (suc q)) 128) [
      | inl ascii ↦ cut_at text (suc q) within ascii
      | inr high ↦ absurd (word_stops q (sign (suc q)) refl w.longest (w.each q (omega (arith, w.ordered)) (omega arith)) high)
    ]
  ]

  word_text : (a b : ℕ) → IsWord sign a b → IsCharBoundary text a → b ≤ length text → IsUtf8 (slice_range text a b)
  word_text a b w cut low = IsUtf8-between text a b u (omega (arith, w.ordered)) cut (cut_behind_word a b w low)

  string_text : (a b : ℕ) → IsString sign a b → b ≤ length text → IsUtf8 (slice_range text (a + 1) (b - 1))
  string_text a b s low =
      let wide = string_ordered sign text a b s in
      let first : a + 1 ≡ suc a = omega arith in
      let last : b - 1 ≡ s.close = omega (arith, s.ends) in
      rw (first, last) (IsUtf8-between text (suc a) s.close u (omega arith)
      (cut_behind text a u (omega arith) (quote_low a s.opens)) (cut_at text s.close (omega arith) (quote_low s.close s.closes)))

  cut_behind_string : (a b : ℕ) → IsString sign a b → b ≤ length text → IsCharBoundary text b
  cut_behind_string a b s low =
      subst (IsCharBoundary text) (sym s.ends) (cut_behind text s.close u (omega (arith, s.ends)) (quote_low s.close s.closes))

  texts : (f : Forest) (a b : ℕ) → IsCharBoundary text a → b ≤ length text → SpellsForest sign text a b f → AreTexts f
  texts none a b cut low h = tt
  texts (atom s false x others) a b cut low h =
      let last : s.end ≤ b = forest_ordered sign text others s.end b h.2 in
      let within : s.at < s.end = h.1.0.ordered in
      let begins = cut_over_gap a s.at cut h.0 (omega arith) (atom_head sign text s false x h.1).no_space in (
        subst IsUtf8 (sym h.1.1) (word_text s.at s.end h.1.0 begins (omega arith)),
        texts others s.end b (cut_behind_word s.at s.end h.1.0 (omega arith)) low h.2,
      )
  texts (atom s true x others) a b cut low h =
      let last : s.end ≤ b = forest_ordered sign text others s.end b h.2 in (
        subst (λ y. IsUtf8 (unescaped y)) (sym h.1.1) (IsUtf8-unescaped _ (string_text s.at s.end h.1.0 (omega arith))),
        texts others s.end b (cut_behind_string s.at s.end h.1.0 (omega arith)) low h.2,
      )
  texts (list s inside others) a b cut low h =
      let last : s.end ≤ b = forest_ordered sign text others s.end b h.3 in
      let inner : suc s.at ≤ h.2.0 = forest_ordered sign text inside (suc s.at) h.2.0 h.2.2 in
      let ends : s.end ≡ suc h.2.0 = h.2.1 in (
        texts inside (suc s.at) h.2.0 (cut_behind text s.at u (omega arith) (open_low s.at h.1)) (omega arith) h.2.2,
        texts others s.end b (subst (IsCharBoundary text) (sym ends) (cut_behind text h.2.0 u (omega arith) (close_low h.2.0 h.2.3))) low h.3,
      )

-- each atom that a text of UTF-8 spells stands for UTF-8
pub are_texts-spelled : (one : Bool) (text : List ℕ) → IsUtf8 text → (f : Forest) (a b : ℕ) → IsCharBoundary text a → b ≤ length text
    → SpellsForest (signs one text) text a b f → AreTexts f
are_texts-spelled one text u f a b cut low h = texts text u (signs one text) (sign_shown one text) (hides one text) f a b cut low h

-- each of these trees has texts
abbrev EachHasTexts : List Tree → Type 0
EachHasTexts [] = Unit {0}
EachHasTexts (t ∷ ts) = HasTexts t × EachHasTexts ts

to_each : (f : Forest) → AreTexts f → EachHasTexts (trees f)
to_each none h = tt
to_each (atom s q c others) h = (h.0, to_each others h.1)
to_each (list s inside others) h = (h.0, to_each others h.1)

from_each : (f : Forest) → EachHasTexts (trees f) → AreTexts f
from_each none h = tt
from_each (atom s q c others) h = (h.0, from_each others h.1)
from_each (list s inside others) h = (h.0, from_each others h.1)

-- so do a first tree and the others
pub texts_of_split : (text : List ℕ) (all : List Cell) (c : Cell) (cells : List Cell) → all ≡ c ∷ cells → Splits text c cells → AreTexts (forest_of text all)
    → HasTexts (tree_at text (kind_at text c.at) (record { at = c.at; end = c.end }) (take c.inside cells)) × AreTexts (forest_of text (drop c.inside cells))
texts_of_split text all c cells e s h =
    let each = subst EachHasTexts (ap (λ x. trees (forest_of text x)) e ∙ s.given) (to_each (forest_of text all) h) in
    (each.0, from_each (forest_of text (drop c.inside cells)) each.1)
