-- Lemmas on the parts of a text: what stands past its end, and content that grows at its end.
use Rattle.std.proofs.Common.{◌≡◌, ℕ, zero, suc, ◌+◌, ◌<◌, ◌≤◌, ◌∙◌, true, false, List, length, refl, sym, ap, subst, arith, inl, inr}
use Rattle.std.proofs.Math.ListN.{get_or-eq_default}
use Rattle.std.proofs.Math.Nat.{eq-or-lt_of_le}
use Rattle.sexpr_read.specs.declared.bytes.ByteClass.{ByteClass}
use Rattle.sexpr_read.specs.declared.bytes.ByteClass.TheVariants.{Space, Open, Close, Quote, Backslash, Plain}
use Rattle.sexpr_read.specs.ByteClasses.{class_of, sign_of, is_word, is_itself}
use Rattle.sexpr_read.specs.Spelling.{IsSpaceBetween, IsContent, empty, itself, escape}

pub past_end : (text : List ℕ) (p : ℕ) → length text ≤ p → sign_of text p ≡ Space
unfolding sign_of class_of
past_end text p h = ap class_of (get_or-eq_default text 32 h) ∙ refl

-- a word ends where the text does
pub no_word_at_end : (text : List ℕ) (p : ℕ) → length text ≤ p → is_word (sign_of text p) ≡ false
no_word_at_end text p h = rw (past_end text p h) refl

pub no_word : (c : ByteClass) → (c ≡ Backslash → ⊥) → (c ≡ Plain → ⊥) → is_word c ≡ false
no_word Space a b = refl
no_word Open a b = refl
no_word Close a b = refl
no_word Quote a b = refl
no_word Backslash a b = absurd (a refl)
no_word Plain a b = absurd (b refl)

pub is_itself_else : (c : ByteClass) → (c ≡ Quote → ⊥) → (c ≡ Backslash → ⊥) → is_itself c ≡ true
is_itself_else Space a b = refl
is_itself_else Open a b = refl
is_itself_else Close a b = refl
is_itself_else Plain a b = refl
is_itself_else Quote a b = absurd (a refl)
is_itself_else Backslash a b = absurd (b refl)

pub and_itself : (sign : ℕ → ByteClass) {a b : ℕ} → IsContent sign a b → is_itself (sign b) ≡ true → IsContent sign a (suc b)
and_itself sign empty e = itself e empty
and_itself sign (itself f more) e = itself f (and_itself sign more e)
and_itself sign (escape f more) e = escape f (and_itself sign more e)

pub and_escape : (sign : ℕ → ByteClass) {a b : ℕ} → IsContent sign a b → sign b ≡ Backslash → IsContent sign a (suc (suc b))
and_escape sign empty e = escape e empty
and_escape sign (itself f more) e = itself f (and_escape sign more e)
and_escape sign (escape f more) e = escape f (and_escape sign more e)

-- bytes that stand for themselves are content
pub all_itself : (sign : ℕ → ByteClass) (n a b : ℕ) → b ≡ a + n → ((i : ℕ) → a ≤ i → i < b → is_itself (sign i) ≡ true) → IsContent sign a b
all_itself sign zero a b e each = subst (IsContent sign a) (sym (omega (arith, e))) empty
all_itself sign (suc n) a b e each =
    itself (each a (omega arith) (omega (arith, e))) (all_itself sign n (suc a) b (omega (arith, e)) (λ i from to. each i (omega arith) to))

-- space before a gap is part of it
pub gap_with : (sign : ℕ → ByteClass) (a b : ℕ) → sign a ≡ Space → IsSpaceBetween sign (a + 1) b → IsSpaceBetween sign a b
gap_with sign a b space gap = record {
  ordered = omega (arith, gap.ordered);
  blank = λ i from to. elim (eq-or-lt_of_le from) [ inl same ↦ subst (λ j. sign j ≡ Space) same space | inr more ↦ gap.blank i (omega arith) to ];
}
