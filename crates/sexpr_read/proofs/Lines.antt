-- Comments, and where the prefixes of a text end in their lines.
use Rattle.std.proofs.Common.{◌≡◌, ◌⊎◌, inl, inr, ℕ, suc, ◌≤◌, ◌<◌, Bool, true, false, ◌==◌, List, length, refl, sym, ◌∙◌, ap, arith}
use Rattle.std.proofs.Math.Nat.{eq-or-lt_of_le}
use Rattle.std.proofs.lemmas.Bool.Decides.{nat_tests}
use Rattle.std.specs.Prelude.{slice_index_or, if◌then◌else◌}
use Rattle.sexpr_read.specs.declared.bytes.ByteClass.{ByteClass}
use Rattle.sexpr_read.specs.declared.bytes.ByteClass.TheVariants.{Space, Open, Close, Quote, Backslash, Plain}
use Rattle.sexpr_read.specs.ByteClasses.{class_of, sign_of, is_word, is_itself}
use Rattle.sexpr_read.specs.Comments.{fresh, begun, quoting, escaping, comment, line_beyond, line_at, is_passed, shown, signs}
use Rattle.sexpr_read.specs.Spelling.{IsWord, IsContent, empty, itself, escape, IsString}
use Rattle.sexpr_read.specs.ReaderProgress.{line_of, IsUnclosed, IsInLine, IsPlain, IsSettled}
use Rattle.sexpr_read.proofs.Ranges.{range_ind}

-- the byte at a place
abbrev pub byte : List ℕ → ℕ → ℕ
byte text p = slice_index_or text p 0x20

pub line_next : (text : List ℕ) (p : ℕ) → line_at text (suc p) ≡ line_beyond (byte text p) (sign_of text p) (line_at text p)
unfolding line_at
line_next text p = refl

pub line_first : (text : List ℕ) → line_at text 0 ≡ fresh
unfolding line_at
line_first text = refl

pub sign_is : (text : List ℕ) (p b : ℕ) → byte text p ≡ b → sign_of text p ≡ class_of b
unfolding sign_of
sign_is text p b e = ap class_of e

pub shown_passed : (text : List ℕ) (p : ℕ) → is_passed (byte text p) (line_at text p) ≡ true → shown text p ≡ Space
unfolding shown
shown_passed text p e = rw e refl

pub shown_plain : (text : List ℕ) (p : ℕ) → is_passed (byte text p) (line_at text p) ≡ false → shown text p ≡ sign_of text p
unfolding shown
shown_plain text p e = rw e refl

shown_by : (text : List ℕ) (p : ℕ) (b : Bool) → is_passed (byte text p) (line_at text p) ≡ b → (sign_of text p ≡ Space) → shown text p ≡ Space
shown_by text p true e s = shown_passed text p e
shown_by text p false e s = shown_plain text p e ∙ s

-- space is shown as space, in a comment or not
pub shown_space : (text : List ℕ) (p : ℕ) → sign_of text p ≡ Space → shown text p ≡ Space
shown_space text p s = shown_by text p (is_passed (byte text p) (line_at text p)) refl s

sign_by : (text : List ℕ) (p : ℕ) (b : Bool) → is_passed (byte text p) (line_at text p) ≡ b → (shown text p ≡ Space → ⊥) → sign_of text p ≡ shown text p
sign_by text p true e s = absurd (s (shown_passed text p e))
sign_by text p false e s = sym (shown_plain text p e)

-- what is not shown as space stands in the text
pub sign_shown : (one : Bool) (text : List ℕ) (p : ℕ) → (signs one text p ≡ Space → ⊥) → sign_of text p ≡ signs one text p
sign_shown true text p s = refl
sign_shown false text p s = sign_by text p (is_passed (byte text p) (line_at text p)) refl s

-- at a place where no comment begins the text is shown as it stands
pub settled_sign : (one : Bool) (text : List ℕ) (p : ℕ) → IsSettled one text p → p < length text → signs one text p ≡ sign_of text p
settled_sign true text p h low = refl
settled_sign false text p h low = shown_plain text p (h refl low).stays

-- behind a sign of the line the text is shown as it stands
pub begun_sign : (text : List ℕ) (p : ℕ) → line_at text p ≡ begun → shown text p ≡ sign_of text p
begun_sign text p e = shown_plain text p (rw e refl)

pub quoting_sign : (text : List ℕ) (p : ℕ) → line_at text p ≡ quoting → shown text p ≡ sign_of text p
quoting_sign text p e = shown_plain text p (rw e refl)

pub escaping_sign : (text : List ℕ) (p : ℕ) → line_at text p ≡ escaping → shown text p ≡ sign_of text p
escaping_sign text p e = shown_plain text p (rw e refl)

-- comes to stand behind a sign
bracket_after : (text : List ℕ) (p : ℕ) (c : ByteClass) → (c ≡ Open) ⊎ (c ≡ Close) → sign_of text p ≡ c → IsPlain text p → line_at text (suc p) ≡ begun
bracket_after text p c (inl o) e h = elim h.line [
  | inl l ↦ rw (line_next text p, l, e, o) refl
  | inr l ↦ rw (line_next text p, l.0, e, o) refl
]
bracket_after text p c (inr o) e h = elim h.line [
  | inl l ↦ rw (line_next text p, l, e, o) refl
  | inr l ↦ rw (line_next text p, l.0, e, o) refl
]

pub after_open : (text : List ℕ) (p : ℕ) → sign_of text p ≡ Open → IsPlain text p → line_at text (suc p) ≡ begun
after_open text p e h = bracket_after text p Open (inl refl) e h

pub after_close : (text : List ℕ) (p : ℕ) → sign_of text p ≡ Close → IsPlain text p → line_at text (suc p) ≡ begun
after_close text p e h = bracket_after text p Close (inr refl) e h

pub after_quote : (text : List ℕ) (p : ℕ) → sign_of text p ≡ Quote → IsPlain text p → line_at text (suc p) ≡ quoting
after_quote text p e h = elim h.line [
  | inl l ↦ rw (line_next text p, l, e) refl
  | inr l ↦ rw (line_next text p, l.0, e) refl
]

word_begun : (text : List ℕ) (p : ℕ) (c : ByteClass) → is_word c ≡ true → sign_of text p ≡ c → line_at text p ≡ begun → line_at text (suc p) ≡ begun
word_begun text p Plain w e l = rw (line_next text p, l, e) refl
word_begun text p Backslash w e l = rw (line_next text p, l, e) refl
word_begun text p Space w e l = cc
word_begun text p Open w e l = cc
word_begun text p Close w e l = cc
word_begun text p Quote w e l = cc

word_fresh : (text : List ℕ) (p : ℕ) (c : ByteClass) → is_word c ≡ true → sign_of text p ≡ c → line_at text p ≡ fresh
    → is_passed (byte text p) (line_at text p) ≡ false → line_at text (suc p) ≡ begun
word_fresh text p Plain w e l stays = let differs : (byte text p == 0x23) ≡ false = rw l at stays in rw (line_next text p, l, e, differs) refl
word_fresh text p Backslash w e l stays = rw (line_next text p, l, e) refl
word_fresh text p Space w e l stays = cc
word_fresh text p Open w e l stays = cc
word_fresh text p Close w e l stays = cc
word_fresh text p Quote w e l stays = cc

word_after : (text : List ℕ) (p : ℕ) → is_word (sign_of text p) ≡ true → IsPlain text p → line_at text (suc p) ≡ begun
word_after text p w h = elim h.line [
  | inl l ↦ word_begun text p (sign_of text p) w refl l
  | inr l ↦ word_fresh text p (sign_of text p) w refl l.0 h.stays
]

-- each place in a word but its first stands behind a sign
within_word : (text : List ℕ) (a b : ℕ) → IsWord (sign_of text) a b → IsPlain text a → (i : ℕ) → a < i → i ≤ b → line_at text i ≡ begun
within_word text a b w h i low high =
    range_ind (λ k. line_at text k ≡ begun) (suc a) i low (word_after text a (w.each a (omega arith) w.ordered) h)
    (λ k above below l. word_begun text k (sign_of text k) (w.each k (omega arith) (omega arith)) refl l)

word_shown : (text : List ℕ) (a b : ℕ) → IsWord (sign_of text) a b → IsPlain text a → (i : ℕ) → a ≤ i → i ≤ b → shown text i ≡ sign_of text i
word_shown text a b w h i low high = elim (eq-or-lt_of_le low) [
  | inl e ↦ rw (← e) (shown_plain text a h.stays)
  | inr lt ↦ begun_sign text i (within_word text a b w h i lt high)
]

pub word_lifted : (one : Bool) (text : List ℕ) (a b : ℕ) → IsWord (sign_of text) a b → a < length text → IsSettled one text a → IsWord (signs one text) a b
word_lifted true text a b w low h = w
word_lifted false text a b w low h =
    let p = h refl low in
    record {
      ordered = w.ordered;
      each = λ i above below. rw (word_shown text a b w p i above (omega arith)) (w.each i above below);
      longest = rw (word_shown text a b w p b (omega (arith, w.ordered)) (omega arith)) w.longest;
    }

pub word_line : (one : Bool) (text : List ℕ) (a b : ℕ) → IsWord (sign_of text) a b → a < length text → IsSettled one text a
    → one ≡ false → line_at text b ≡ begun
word_line one text a b w low h e = within_word text a b w (h e low) b w.ordered (omega arith)

itself_quoting : (text : List ℕ) (p : ℕ) (c : ByteClass) → is_itself c ≡ true → sign_of text p ≡ c → line_at text p ≡ quoting → line_at text (suc p) ≡ quoting
itself_quoting text p Plain w e l = rw (line_next text p, l, e) refl
itself_quoting text p Space w e l = rw (line_next text p, l, e) refl
itself_quoting text p Open w e l = rw (line_next text p, l, e) refl
itself_quoting text p Close w e l = rw (line_next text p, l, e) refl
itself_quoting text p Quote w e l = cc
itself_quoting text p Backslash w e l = cc

escape_quoting : (text : List ℕ) (p : ℕ) → line_at text p ≡ escaping → line_at text (suc p) ≡ quoting
escape_quoting text p l = rw (line_next text p, l) refl

-- content is shown as it stands, and what follows it is still in the string
content_shown : (text : List ℕ) {a b : ℕ} → IsContent (sign_of text) a b → line_at text a ≡ quoting → IsContent (shown text) a b × (line_at text b ≡ quoting)
content_shown text empty l = (empty, l)
content_shown text (itself {from = p} e more) l =
    let rest = content_shown text more (itself_quoting text p (sign_of text p) e refl l) in
    (itself (rw (quoting_sign text p l) e) rest.0, rest.1)
content_shown text (escape {from = p} e more) l =
    let slash : line_at text (suc p) ≡ escaping = rw (line_next text p, l, e) refl in
    let rest = content_shown text more (escape_quoting text (suc p) slash) in
    (escape (quoting_sign text p l ∙ e) rest.0, rest.1)

pub string_lifted : (one : Bool) (text : List ℕ) (a b : ℕ) → IsString (sign_of text) a b → a < length text → IsSettled one text a → IsString (signs one text) a b
string_lifted true text a b s low h = s
string_lifted false text a b s low h =
    let p = h refl low in
    let inner = content_shown text s.inside (after_quote text a s.opens p) in
    record {
      opens = shown_plain text a p.stays ∙ s.opens;
      close = s.close;
      ends = s.ends;
      inside = inner.0;
      closes = quoting_sign text s.close inner.1 ∙ s.closes;
    }

pub string_line : (one : Bool) (text : List ℕ) (a b : ℕ) → IsString (sign_of text) a b → a < length text → IsSettled one text a
    → one ≡ false → line_at text b ≡ begun
string_line one text a b s low h e =
    let inner = content_shown text s.inside (after_quote text a s.opens (h e low)) in
    rw (s.ends, line_next text s.close, inner.1, s.closes) refl

-- so is content that nothing closes
pub unclosed_lifted : (one : Bool) (text : List ℕ) (p n : ℕ) → sign_of text p ≡ Quote → p < length text → IsSettled one text p
    → IsUnclosed (sign_of text) (suc p) n → IsUnclosed (signs one text) (suc p) n
unclosed_lifted true text p n e low h u = u
unclosed_lifted false text p n e low h (inl content) = inl (content_shown text content (after_quote text p e (h refl low))).0
unclosed_lifted false text p n e low h (inr (last, ends, content, slash)) =
    let inner = content_shown text content (after_quote text p e (h refl low)) in
    inr (last, ends, inner.0, quoting_sign text last inner.1 ∙ slash)

-- behind a sign no comment begins
pub begun_settled : (one : Bool) (text : List ℕ) (p : ℕ) → (one ≡ false → line_at text p ≡ begun) → IsSettled one text p
begun_settled one text p h = λ e low. record { line = inl (h e); stays = rw (h e) refl }

-- space stands behind a sign, where all space has been passed over
pub space_begun : (one : Bool) (text : List ℕ) (p : ℕ) → IsSettled one text p → sign_of text p ≡ Space → IsInLine one text p false
space_begun one text p h s = λ e low. elim (h e low).line [ inl l ↦ l | inr l ↦ absurd (l.1 s) ]

-- a byte of a comment but its line feed
comment_goes_on : (b : ℕ) (c : ByteClass) → (b == 0x0A) ≡ false → line_beyond b c comment ≡ comment
comment_goes_on b Space e = rw e refl
comment_goes_on b Open e = refl
comment_goes_on b Close e = refl
comment_goes_on b Quote e = refl
comment_goes_on b Backslash e = refl
comment_goes_on b Plain e = refl

pub comment_next : (text : List ℕ) (p : ℕ) → line_at text p ≡ comment → (byte text p ≡ 0x0A → ⊥) → line_at text (suc p) ≡ comment
comment_next text p l other =
    let e : (byte text p == 0x0A) ≡ false = grind (arith, nat_tests, other) in
    rw (line_next text p, l) (comment_goes_on (byte text p) (sign_of text p) e)

pub comment_feed : (text : List ℕ) (p : ℕ) → line_at text p ≡ comment → byte text p ≡ 0x0A → line_at text (suc p) ≡ fresh
unfolding class_of
comment_feed text p l b = rw (line_next text p, l, sign_is text p 0x0A b, b) refl

pub comment_first : (text : List ℕ) (p : ℕ) → line_at text p ≡ fresh → byte text p ≡ 0x23 → line_at text (suc p) ≡ comment
unfolding class_of
comment_first text p l b = rw (line_next text p, l, sign_is text p 0x23 b, b) refl

pub comment_shown : (text : List ℕ) (p : ℕ) → line_at text p ≡ comment → shown text p ≡ Space
comment_shown text p l = shown_passed text p (rw l refl)

pub mark_shown : (text : List ℕ) (p : ℕ) → line_at text p ≡ fresh → byte text p ≡ 0x23 → shown text p ≡ Space
mark_shown text p l b = shown_passed text p (rw (l, b) refl)

pub feed_after : (text : List ℕ) (p : ℕ) (blank : Bool) → line_at text p ≡ line_of blank → byte text p ≡ 0x0A → line_at text (suc p) ≡ fresh
unfolding class_of
feed_after text p true l b = rw (line_next text p, l, sign_is text p 0x0A b, b) refl
feed_after text p false l b = rw (line_next text p, l, sign_is text p 0x0A b, b) refl

pub feed_shown : (text : List ℕ) (p : ℕ) → byte text p ≡ 0x0A → shown text p ≡ Space
unfolding class_of
feed_shown text p b = shown_space text p (sign_is text p 0x0A b)

pub space_after : (text : List ℕ) (p : ℕ) (blank : Bool) → line_at text p ≡ line_of blank → (byte text p ≡ 0x20) ⊎ (byte text p ≡ 0x09)
    → line_at text (suc p) ≡ line_of blank
unfolding class_of
space_after text p true l (inl b) = rw (line_next text p, l, sign_is text p 0x20 b, b) refl
space_after text p false l (inl b) = rw (line_next text p, l, sign_is text p 0x20 b, b) refl
space_after text p true l (inr b) = rw (line_next text p, l, sign_is text p 0x09 b, b) refl
space_after text p false l (inr b) = rw (line_next text p, l, sign_is text p 0x09 b, b) refl

pub blank_shown : (text : List ℕ) (p : ℕ) → (byte text p ≡ 0x20) ⊎ (byte text p ≡ 0x09) → shown text p ≡ Space
unfolding class_of
blank_shown text p (inl b) = shown_space text p (sign_is text p 0x20 b)
blank_shown text p (inr b) = shown_space text p (sign_is text p 0x09 b)

pub return_after : (text : List ℕ) (p : ℕ) (blank : Bool) → line_at text p ≡ line_of blank → byte text p ≡ 0x0D → line_at text (suc p) ≡ begun
unfolding class_of
return_after text p true l b = rw (line_next text p, l, sign_is text p 0x0D b, b) refl
return_after text p false l b = rw (line_next text p, l, sign_is text p 0x0D b, b) refl

pub return_shown : (text : List ℕ) (p : ℕ) → byte text p ≡ 0x0D → shown text p ≡ Space
unfolding class_of
return_shown text p b = shown_space text p (sign_is text p 0x0D b)

no_space_left : (p q r s : Bool)
    → (if p then Open else (if q then Close else (if r then Quote else (if s then Backslash else Plain)))) ≡ Space → ⊥
no_space_left true q r s e = cc
no_space_left false true r s e = cc
no_space_left false false true s e = cc
no_space_left false false false true e = cc
no_space_left false false false false e = cc

-- only the four bytes of space are space
pub no_space : (text : List ℕ) (p : ℕ) → (byte text p ≡ 0x20 → ⊥) → (byte text p ≡ 0x09 → ⊥) → (byte text p ≡ 0x0A → ⊥) → (byte text p ≡ 0x0D → ⊥)
    → sign_of text p ≡ Space → ⊥
unfolding sign_of class_of
no_space text p s t f r e =
    let b : ℕ = byte text p in
    let s1 : (b == 0x20) ≡ false = grind (arith, nat_tests, s) in
    let t1 : (b == 0x09) ≡ false = grind (arith, nat_tests, t) in
    let f1 : (b == 0x0A) ≡ false = grind (arith, nat_tests, f) in
    let r1 : (b == 0x0D) ≡ false = grind (arith, nat_tests, r) in
    no_space_left (b == 0x28) (b == 0x29) (b == 0x22) (b == 0x5C) (rw (s1, t1, f1, r1) at e)

-- no comment begins where another byte stands, or behind another sign of the line
pub plain_from : (text : List ℕ) (p : ℕ) (blank : Bool) → line_at text p ≡ line_of blank → (sign_of text p ≡ Space → ⊥)
    → (byte text p ≡ 0x23 → ⊥) ⊎ (blank ≡ false) → IsPlain text p
plain_from text p false l s other = record { line = inl l; stays = rw l refl }
plain_from text p true l s (inl other) =
    let e : (byte text p == 0x23) ≡ false = grind (arith, nat_tests, other) in
    record { line = inr (l, s); stays = rw (l, e) refl }
plain_from text p true l s (inr e) = cc
