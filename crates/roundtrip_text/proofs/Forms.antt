-- The atoms of a text of forms, in which comments count, are atoms that any text may have.
use Rattle.std.proofs.Common.{◌≡◌, ◌⊎◌, inl, inr, ◌∙◌, refl, sym, ap, subst, ℕ, zero, suc, ◌+◌, ◌-◌, ◌<◌, ◌≤◌, arith, Bool, true, false, ◌==◌, List, length, get_or, IsUtf8}
use Rattle.std.specs.Prelude.{slice_range, if◌then◌else◌}
use Rattle.std.proofs.lemmas.Bool.{eqb-true}
use Rattle.std.proofs.lemmas.List.{get_or_default}
use Rattle.std.proofs.lemmas.Str.{IsUtf8-between, IsCharBoundary-start, IsCharBoundary-before_ascii, IsCharBoundary-after_ascii}
use Rattle.sexpr_read.specs.declared.place.Span.{Span}
use Rattle.sexpr_read.specs.declared.bytes.ByteClass.{ByteClass}
use Rattle.sexpr_read.specs.declared.bytes.ByteClass.TheVariants.{Space, Open, Close, Quote, Backslash, Plain}
use Rattle.sexpr_read.specs.ByteClasses.{sign_of, is_word, is_itself}
use Rattle.sexpr_read.specs.Comments.{Line, fresh, begun, quoting, escaping, comment, line_beyond, line_at, is_passed, shown}
use Rattle.sexpr_read.specs.Tree.{Forest, none, atom, list, branch}
use Rattle.sexpr_read.specs.AtomTexts.{AreTexts}
use Rattle.sexpr_read.specs.ReaderProgress.{IsPlain}
use Rattle.sexpr_read.specs.Spelling.{IsSpaceBetween, IsWord, IsContent, empty, itself, escape, IsString, SpellsForest, SpellsAll}
use Rattle.sexpr_read.proofs.Lines.{byte, line_next, line_first, sign_is, sign_shown, shown_passed, shown_plain, begun_sign, quoting_sign, after_open, after_close, after_quote}
use Rattle.sexpr_read.proofs.Texts.{are_texts-spelled}
use Rattle.sexpr_read.proofs.Unique.{string_ordered, forest_ordered}
use Rattle.roundtrip_text.specs.RewrittenText.{AreAtoms}
use Rattle.roundtrip_text.specs.Utf8.{AreUtf8}
use Rattle.roundtrip_text.proofs.Cutting.{atom_content, quote_byte, byte_at}

-- outside strings
pub data IsOutside : Line → Type 0 where
  at_fresh : IsOutside fresh
  at_begun : IsOutside begun
  at_comment : IsOutside comment

fresh_or : (x : Bool) → IsOutside (if x then fresh else begun)
fresh_or true = at_fresh
fresh_or false = at_begun

begun_or : (x : Bool) → IsOutside (if x then begun else fresh)
begun_or true = at_begun
begun_or false = at_fresh

comment_or : (x : Bool) → IsOutside (if x then comment else begun)
comment_or true = at_comment
comment_or false = at_begun

fresh_comment : (x : Bool) → IsOutside (if x then fresh else comment)
fresh_comment true = at_fresh
fresh_comment false = at_comment

comment_next : (b : ℕ) (c : ByteClass) → IsOutside (line_beyond b c comment)
comment_next b Space = fresh_comment (b == 0x0A)
comment_next b Plain = at_comment
comment_next b Quote = at_comment
comment_next b Open = at_comment
comment_next b Close = at_comment
comment_next b Backslash = at_comment

begun_next : (b : ℕ) (c : ByteClass) → (c ≡ Quote → ⊥) → IsOutside (line_beyond b c begun)
begun_next b Space h = fresh_or (b == 0x0A)
begun_next b Plain h = at_begun
begun_next b Quote h = absurd (h refl)
begun_next b Open h = at_begun
begun_next b Close h = at_begun
begun_next b Backslash h = at_begun

fresh_next : (b : ℕ) (c : ByteClass) → (c ≡ Quote → ⊥) → IsOutside (line_beyond b c fresh)
fresh_next b Space h = begun_or (b == 0x0D)
fresh_next b Plain h = comment_or (b == 0x23)
fresh_next b Quote h = absurd (h refl)
fresh_next b Open h = at_begun
fresh_next b Close h = at_begun
fresh_next b Backslash h = at_begun

module _ (text : List ℕ) where
  -- what is shown as space is no quote, but in a comment
  no_quote : (p : ℕ) → shown text p ≡ Space → (line_at text p ≡ comment → ⊥) → (l : Line) → line_at text p ≡ l → IsOutside l → sign_of text p ≡ Quote → ⊥
  no_quote p s out l e h q = by_test (is_passed (byte text p) (line_at text p)) refl
    where
      mark : byte text p ≡ 0x23 → ⊥
      mark m = let b : byte text p ≡ 34 = quote_byte (byte text p) (sym (sign_is text p (byte text p) refl) ∙ q) in absurd (omega arith)

      passed_mark : (k : Line) → line_at text p ≡ k → is_passed (byte text p) k ≡ true → ⊥
      passed_mark fresh f t = mark (eqb-true (byte text p) 0x23 t)
      passed_mark begun f t = cc
      passed_mark quoting f t = cc
      passed_mark escaping f t = cc
      passed_mark comment f t = out f

      by_test : (t : Bool) → is_passed (byte text p) (line_at text p) ≡ t → ⊥
      by_test true t = passed_mark (line_at text p) refl t
      by_test false t = let k : Space ≡ Quote = sym s ∙ (shown_plain text p t ∙ q) in cc

  next_by : (p : ℕ) → shown text p ≡ Space → (l : Line) → line_at text p ≡ l → IsOutside l → IsOutside (line_beyond (byte text p) (sign_of text p) l)
  next_by p s _ e at_fresh = fresh_next (byte text p) (sign_of text p) (no_quote p s (λ c. let k : fresh ≡ comment = sym e ∙ c in cc) fresh e at_fresh)
  next_by p s _ e at_begun = begun_next (byte text p) (sign_of text p) (no_quote p s (λ c. let k : begun ≡ comment = sym e ∙ c in cc) begun e at_begun)
  next_by p s _ e at_comment = comment_next (byte text p) (sign_of text p)

  step : (p : ℕ) → shown text p ≡ Space → IsOutside (line_at text p) → IsOutside (line_at text (suc p))
  step p s h = subst IsOutside (sym (line_next text p)) (next_by p s (line_at text p) refl h)

  over_gap : (n a b : ℕ) → a + n ≡ b → IsSpaceBetween (shown text) a b → IsOutside (line_at text a) → IsOutside (line_at text b)
  over_gap zero a b e g h = subst (λ k. IsOutside (line_at text k)) (let z : a ≡ b = omega arith in z) h
  over_gap (suc n) a b e g h =
      over_gap n (suc a) b (omega arith) (record { ordered = omega arith; blank = λ i low high. g.blank i (omega arith) high }) (step a (g.blank a (omega arith) (omega arith)) h)

  gap_over : (a b : ℕ) → IsSpaceBetween (shown text) a b → IsOutside (line_at text a) → IsOutside (line_at text b)
  gap_over a b g h = let o : a ≤ b = g.ordered in over_gap (b - a) a b (omega arith) g h

  -- where something is shown, no comment begins
  plain_line : (p : ℕ) → (shown text p ≡ Space → ⊥) → (l : Line) → line_at text p ≡ l → IsOutside l → (l ≡ begun) ⊎ (l ≡ fresh)
  plain_line p s _ e at_fresh = inr refl
  plain_line p s _ e at_begun = inl refl
  plain_line p s _ e at_comment = absurd (s (shown_passed text p (rw e refl)))

  stays_by : (p : ℕ) → (shown text p ≡ Space → ⊥) → (t : Bool) → is_passed (byte text p) (line_at text p) ≡ t → t ≡ false
  stays_by p s true e = absurd (s (shown_passed text p e))
  stays_by p s false e = refl

  is_plain : (p : ℕ) → (shown text p ≡ Space → ⊥) → IsOutside (line_at text p) → IsPlain text p
  is_plain p s h = record {
    line = elim (plain_line p s (line_at text p) refl h) [
      | inl b ↦ inl b
      | inr f ↦ inr (f, λ k. s (sym (sign_shown false text p s) ∙ k))
    ];
    stays = stays_by p s (is_passed (byte text p) (line_at text p)) refl;
  }

  -- words
  word_no_space : (c : ByteClass) → is_word c ≡ true → c ≡ Space → ⊥
  word_no_space c w e = let k : is_word Space ≡ true = rw e at w in cc

  begun_word : (b : ℕ) (c : ByteClass) → is_word c ≡ true → line_beyond b c begun ≡ begun
  begun_word b Plain w = refl
  begun_word b Backslash w = refl
  begun_word b Space w = cc
  begun_word b Open w = cc
  begun_word b Close w = cc
  begun_word b Quote w = cc

  fresh_word : (b : ℕ) (c : ByteClass) → is_word c ≡ true → (b == 0x23) ≡ false → line_beyond b c fresh ≡ begun
  fresh_word b Plain w e = rw e refl
  fresh_word b Backslash w e = refl
  fresh_word b Space w e = cc
  fresh_word b Open w e = cc
  fresh_word b Close w e = cc
  fresh_word b Quote w e = cc

  after_first : (p : ℕ) → is_word (sign_of text p) ≡ true → IsPlain text p → line_at text (suc p) ≡ begun
  after_first p w h = elim h.line [
    | inl l ↦ rw (line_next text p, l) (begun_word (byte text p) (sign_of text p) w)
    | inr l ↦ (let e : (byte text p == 0x23) ≡ false = rw l.0 at h.stays in rw (line_next text p, l.0) (fresh_word (byte text p) (sign_of text p) w e))
  ]

  within : (n a b : ℕ) → a + n ≡ b → ((i : ℕ) → a ≤ i → i < b → is_word (sign_of text i) ≡ true) → line_at text a ≡ begun → line_at text b ≡ begun
  within zero a b e each l = subst (λ k. line_at text k ≡ begun) (let z : a ≡ b = omega arith in z) l
  within (suc n) a b e each l =
      within n (suc a) b (omega arith) (λ i low high. each i (omega arith) high) (rw (line_next text a, l) (begun_word (byte text a) (sign_of text a) (each a (omega arith) (omega arith))))

  word_there : (a b : ℕ) → IsWord (shown text) a b → IsOutside (line_at text a) → IsWord (sign_of text) a b × (line_at text b ≡ begun)
  word_there a b w h =
      let o : a < b = w.ordered in
      let each : (i : ℕ) → a ≤ i → i < b → is_word (sign_of text i) ≡ true =
      λ i low high. (let k = w.each i low high in ap is_word (sign_shown false text i (word_no_space (shown text i) k)) ∙ k) in
      let first = is_plain a (word_no_space (shown text a) (w.each a (omega arith) o)) h in
      let last : line_at text b ≡ begun = within (b - suc a) (suc a) b (omega arith) (λ i low high. each i (omega arith) high) (after_first a (each a (omega arith) o) first) in
      (record { ordered = o; each = each; longest = ap is_word (sym (begun_sign text b last)) ∙ w.longest }, last)

  -- strings
  itself_quoting : (b : ℕ) (c : ByteClass) → is_itself c ≡ true → line_beyond b c quoting ≡ quoting
  itself_quoting b Plain w = refl
  itself_quoting b Space w = refl
  itself_quoting b Open w = refl
  itself_quoting b Close w = refl
  itself_quoting b Quote w = cc
  itself_quoting b Backslash w = cc

  content_there : {a b : ℕ} → IsContent (shown text) a b → line_at text a ≡ quoting → IsContent (sign_of text) a b × (line_at text b ≡ quoting)
  content_there empty l = (empty, l)
  content_there (itself {from = p} e more) l =
      let is : is_itself (sign_of text p) ≡ true = ap is_itself (sym (quoting_sign text p l)) ∙ e in
      let rest = content_there more (rw (line_next text p, l) (itself_quoting (byte text p) (sign_of text p) is)) in
      (itself is rest.0, rest.1)
  content_there (escape {from = p} e more) l =
      let is : sign_of text p ≡ Backslash = sym (quoting_sign text p l) ∙ e in
      let slash : line_at text (suc p) ≡ escaping = rw (line_next text p, l, is) refl in
      let rest = content_there more (rw (line_next text (suc p), slash) refl) in
      (escape is rest.0, rest.1)

  string_there : (a b : ℕ) → IsString (shown text) a b → IsOutside (line_at text a) → IsString (sign_of text) a b × (line_at text b ≡ begun)
  string_there a b s h =
      let shows : shown text a ≡ Space → ⊥ = λ k. (let e : Quote ≡ Space = sym s.opens ∙ k in cc) in
      let opens : sign_of text a ≡ Quote = sign_shown false text a shows ∙ s.opens in
      let inner = content_there s.inside (after_quote text a opens (is_plain a shows h)) in
      let closes : sign_of text s.close ≡ Quote = sym (quoting_sign text s.close inner.1) ∙ s.closes in
      (record { opens = opens; close = s.close; ends = s.ends; inside = inner.0; closes = closes }, rw (s.ends, line_next text s.close, inner.1, closes) refl)

  bracket_there : (p : ℕ) (c : ByteClass) → shown text p ≡ c → (c ≡ Space → ⊥) → IsOutside (line_at text p) → (sign_of text p ≡ c) × IsPlain text p
  bracket_there p c e s h = let k = λ (z : shown text p ≡ Space). s (sym e ∙ z) in (sign_shown false text p k ∙ e, is_plain p k h)

  outside_begun : (p : ℕ) → line_at text p ≡ begun → IsOutside (line_at text p)
  outside_begun p e = subst IsOutside (sym e) at_begun

  -- ---- each atom is one of any text

  string_utf8 : (a b : ℕ) → IsUtf8 text → b ≤ length text → IsString (sign_of text) a b → IsUtf8 (slice_range text (a + 1) (b - 1))
  string_utf8 a b u low s =
      let wide = string_ordered (sign_of text) text a b s in
      let first : a + 1 ≡ suc a = omega arith in
      let last : b - 1 ≡ s.close = omega (arith, s.ends) in
      let o : get_or text a 0 < 128 = subst (λ x. x < 128) (sym (get_or_default text a 0 32 (omega arith) ∙ byte_at text a Quote 34 s.opens quote_byte)) (omega arith) in
      let c : get_or text s.close 0 < 128 = subst (λ x. x < 128) (sym (get_or_default text s.close 0 32 (omega (arith, s.ends)) ∙ byte_at text s.close Quote 34 s.closes quote_byte)) (omega arith) in
      rw last (IsUtf8-between text (a + 1) s.close u (omega (arith, s.ends)) (IsCharBoundary-after_ascii text a u (omega arith) o) (IsCharBoundary-before_ascii text s.close (omega (arith, s.ends)) c))

  pub forms_between : (f : Forest) (a b : ℕ) → IsUtf8 text → b ≤ length text → SpellsForest (shown text) text a b f → AreTexts f → IsOutside (line_at text a) → AreAtoms f × AreUtf8 f × IsOutside (line_at text b)
  forms_between none a b u low h t out = (tt, tt, gap_over a b h out)
  forms_between (atom s false x others) a b u low h t out =
      let o : s.end ≤ b = forest_ordered (shown text) text others s.end b h.2 in
      let w = word_there s.at s.end h.1.0 (gap_over a s.at h.0 out) in
      let rest = forms_between others s.end b u low h.2 t.1 (outside_begun s.end w.1) in
      ((atom_content text s false x (omega arith) (w.0, h.1.1), rest.0), (t.0, rest.1), rest.2)
  forms_between (atom s true x others) a b u low h t out =
      let o : s.end ≤ b = forest_ordered (shown text) text others s.end b h.2 in
      let w = string_there s.at s.end h.1.0 (gap_over a s.at h.0 out) in
      let rest = forms_between others s.end b u low h.2 t.1 (outside_begun s.end w.1) in
      ((atom_content text s true x (omega arith) (w.0, h.1.1), rest.0), (subst IsUtf8 (sym h.1.1) (string_utf8 s.at s.end u (omega arith) w.0), rest.1), rest.2)
  forms_between (list s inside others) a b u low h t out =
      let o : s.end ≤ b = forest_ordered (shown text) text others s.end b h.3 in
      let e : s.end ≡ suc h.2.0 = h.2.1 in
      let opening = bracket_there s.at Open h.1 (λ k. cc) (gap_over a s.at h.0 out) in
      let inner = forms_between inside (suc s.at) h.2.0 u (omega arith) h.2.2 t.0 (outside_begun (suc s.at) (after_open text s.at opening.0 opening.1)) in
      let closing = bracket_there h.2.0 Close h.2.3 (λ k. cc) inner.2 in
      let behind : IsOutside (line_at text s.end) = subst (λ k. IsOutside (line_at text k)) (sym e) (outside_begun (suc h.2.0) (after_close text h.2.0 closing.0 closing.1)) in
      let rest = forms_between others s.end b u low h.3 t.1 behind in
      ((inner.0, rest.0), (inner.1, rest.1), rest.2)

pub forms_atoms : (text : List ℕ) (s : Span) (f : Forest) → SpellsAll text (branch s f) → AreAtoms f × AreUtf8 f
unfolding SpellsAll
forms_atoms text s f h =
    let t = are_texts-spelled false text h.0 f 0 (length text) (IsCharBoundary-start text h.0) (omega arith) h.2 in
    let k = forms_between text f 0 (length text) h.0 (omega arith) h.2 t (subst IsOutside (sym (line_first text)) at_fresh) in
    (k.0, k.1)
