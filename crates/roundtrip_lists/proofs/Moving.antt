-- What is moved is equal up to translation, and may be written.
use Rattle.std.proofs.Common.{◌≡◌, ◌∙◌, refl, sym, ap, subst, ℕ, ◌≤◌, ℤ, ◌+ℤ◌, unsigned_abs, Bool, true, false, List, Option, None, Some, Result, Ok, Err, inl, inr}
use Rattle.std.proofs.lemmas.Bool.{ltb-false}
use Rattle.exact_dec.specs.declared.DecError.{DecError}
use Rattle.exact_dec.specs.Computed.{mm_cut_answer}
use Rattle.exact_dec.specs.DecimalAnswers.{is_far}
use Rattle.exact_dec.specs.MillimetreText.{mm_text}
use Rattle.exact_dec.proofs.ReadBack.{read_back}
use Rattle.sexpr_read.specs.declared.place.Span.{Span}
use Rattle.sexpr_read.specs.Tree.{Forest, none, atom, list, leaf, value}
use Rattle.roundtrip_text.specs.Pieces.{SameTrees}
use Rattle.roundtrip_text.specs.RewrittenText.{IsRespelled, AreAtoms}
use Rattle.roundtrip_text.specs.Utf8.{AreUtf8}
use Rattle.roundtrip_lists.specs.Translated.{Shift, is_place_head, moved_by, both, moved_numbers, if_place, place_moved, IsPlaceMoved, TranslatedInside, Translated}
use Rattle.roundtrip_lists.specs.Moving.{put_second, put_first, put_numbers, put_if, moved}
use Rattle.roundtrip_lists.proofs.Numerals.{number_content, number_utf8}

-- ---- numbers that are moved

pub record IsMovedNumber (by : ℤ) (x : List ℕ) (n : ℤ) : Type 0 where
  pub at : ℤ
  pub read : mm_cut_answer x ≡ Ok at
  pub is : n ≡ at +ℤ by
  pub near : unsigned_abs n ≤ 1000000000000

not_far : (m : ℤ) → is_far m ≡ false → unsigned_abs m ≤ 1000000000000
not_far m h = ltb-false 1000000000000 (unsigned_abs m) h

by_far : (by m n : ℤ) (b : Bool) → is_far (m +ℤ by) ≡ b → moved_by by (Ok m) ≡ Some n → (n ≡ m +ℤ by) × (unsigned_abs n ≤ 1000000000000)
by_far by m n true e h = absurd (let k : moved_by by (Ok m) ≡ None = rw e refl in cc)
by_far by m n false e h =
    let k : moved_by by (Ok m) ≡ Some (m +ℤ by) = rw e refl in
    let same : n ≡ m +ℤ by = cc in
    (same, subst (λ (z : ℤ). unsigned_abs z ≤ 1000000000000) (sym same) (not_far (m +ℤ by) e))

moved_number : (by : ℤ) (x : List ℕ) (n : ℤ) (r : Result ℤ DecError) → mm_cut_answer x ≡ r → moved_by by r ≡ Some n → IsMovedNumber by x n
moved_number by x n (Ok m) e h = let k = by_far by m n (is_far (m +ℤ by)) refl h in record { at = m; read = e; is = k.0; near = k.1 }
moved_number by x n (Err g) e h = absurd cc

both_some : (a b : Option ℤ) (n : ℤ × ℤ) → both a b ≡ Some n → (a ≡ Some n.0) × (b ≡ Some n.1)
both_some None b n h = absurd cc
both_some (Some x) None n h = absurd cc
both_some (Some x) (Some y) n h =
    let pair = some_same (x, y) n h in
    (ap (λ (p : ℤ × ℤ). let o : Option ℤ = Some p.0 in o) pair, ap (λ (p : ℤ × ℤ). let o : Option ℤ = Some p.1 in o) pair)
  where
    some_same : (a b : ℤ × ℤ) → (let o : Option (ℤ × ℤ) = Some a in o) ≡ Some b → a ≡ b
    some_same a b h = cc

if_some : (b : Bool) (o : Option (ℤ × ℤ)) (n : ℤ × ℤ) → if_place b o ≡ Some n → (b ≡ true) × (o ≡ Some n)
if_some true o n h = (refl, h)
if_some false o n h = absurd cc

no_numbers : (b : Bool) (n : ℤ × ℤ) → if_place b None ≡ Some n → ⊥
no_numbers b n h = let k = (if_some b None n h).1 in cc

-- ---- places that are moved are equal up to translation

-- a place with its numbers rewritten
numbers_put : (d : Shift) (s t u : Span) (q r p : Bool) (c x y : List ℕ) (others rest : Forest) (n : ℤ × ℤ) → place_moved d (atom s q c (atom t r x (atom u p y others))) ≡ Some n
    → IsPlaceMoved d (atom s q c (atom t r x (atom u p y others))) (atom s q c (atom t r (mm_text n.0) (atom u p (mm_text n.1) rest)))
numbers_put d s t u q r p c x y others rest n h =
    let k = if_some (is_place_head (value (leaf s q c))) (moved_numbers d x y) n h in
    let e = both_some (moved_by d.dx (mm_cut_answer x)) (moved_by d.dy (mm_cut_answer y)) n k.1 in
    let a = moved_number d.dx x n.0 (mm_cut_answer x) refl e.0 in
    let b = moved_number d.dy y n.1 (mm_cut_answer y) refl e.1 in
    record {
      spans = (s, t, u);
      other_spans = (s, t, u);
      quotes = (q, r, p);
      other_quotes = (r, p);
      head = c;
      x = x;
      y = y;
      new_x = mm_text n.0;
      new_y = mm_text n.1;
      rest = others;
      other_rest = rest;
      was = refl;
      is = refl;
      is_place = k.0;
      at_x = a.at;
      at_y = b.at;
      read_x = a.read;
      read_y = b.read;
      moved_x = read_back n.0 a.near ∙ ap (λ (z : ℤ). Ok z) a.is;
      moved_y = read_back n.1 b.near ∙ ap (λ (z : ℤ). Ok z) b.is;
    }

place_translated : (d : Shift) (i : Forest) (n : ℤ × ℤ) → place_moved d i ≡ Some n → IsPlaceMoved d i (put_numbers n (moved d i))
place_translated d none n h = absurd cc
place_translated d (list s inside others) n h = absurd cc
place_translated d (atom s q c none) n h = absurd (no_numbers (is_place_head (value (leaf s q c))) n h)
place_translated d (atom s q c (list t inside others)) n h = absurd (no_numbers (is_place_head (value (leaf s q c))) n h)
place_translated d (atom s q c (atom t r x none)) n h = absurd (no_numbers (is_place_head (value (leaf s q c))) n h)
place_translated d (atom s q c (atom t r x (list u inside others))) n h = absurd (no_numbers (is_place_head (value (leaf s q c))) n h)
place_translated d (atom s q c (atom t r x (atom u p y others))) n h = numbers_put d s t u q r p c x y others (moved d others) n h

-- only the numbers are rewritten
pub place_put : (d : Shift) (i : Forest) (n : ℤ × ℤ) → place_moved d i ≡ Some n → IsPlaceMoved d i (put_numbers n i)
place_put d none n h = absurd cc
place_put d (list s inside others) n h = absurd cc
place_put d (atom s q c none) n h = absurd (no_numbers (is_place_head (value (leaf s q c))) n h)
place_put d (atom s q c (list t inside others)) n h = absurd (no_numbers (is_place_head (value (leaf s q c))) n h)
place_put d (atom s q c (atom t r x none)) n h = absurd (no_numbers (is_place_head (value (leaf s q c))) n h)
place_put d (atom s q c (atom t r x (list u inside others))) n h = absurd (no_numbers (is_place_head (value (leaf s q c))) n h)
place_put d (atom s q c (atom t r x (atom u p y others))) n h = numbers_put d s t u q r p c x y others others n h

inside_translated : (d : Shift) (i : Forest) (o : Option (ℤ × ℤ)) → place_moved d i ≡ o → Translated (Some d) i (moved d i) → TranslatedInside (Some d) i (put_if o (moved d i)) (Translated (Some d) i (put_if o (moved d i)))
inside_translated d i None e h = inl (h, e)
inside_translated d i (Some n) e h = inr (place_translated d i n e)

pub moved_translated : (d : Shift) (f : Forest) → Translated (Some d) f (moved d f)
moved_translated d none = tt
moved_translated d (atom s q c others) = (refl, refl, moved_translated d others)
moved_translated d (list s inside others) = (inside_translated d inside (place_moved d inside) refl (moved_translated d inside), moved_translated d others)

-- ---- and may be written

pub put_respelled : (n : ℤ × ℤ) (i g : Forest) → unsigned_abs n.0 ≤ 1000000000000 → unsigned_abs n.1 ≤ 1000000000000 → IsRespelled i g → IsRespelled i (put_numbers n g)
put_respelled n i none a b h = h
put_respelled n none (atom s q c rest) a b h = absurd h
put_respelled n (list s inside others) (atom t r e rest) a b h = absurd h
put_respelled n (atom s q c others) (atom t r e rest) a b h = (h.0, h.1, h.2, first others rest h.3)
  where
    second : (i g : Forest) → IsRespelled i g → IsRespelled i (put_second n g)
    second i none h = h
    second none (atom s q c rest) h = absurd h
    second (list s inside others) (atom t r e rest) h = absurd h
    second (atom s q c others) (atom t r e rest) h = (h.0, h.1, number_content r n.1 b, h.3)
    second i (list s inside rest) h = h

    first : (i g : Forest) → IsRespelled i g → IsRespelled i (put_first n g)
    first i none h = h
    first none (atom s q c rest) h = absurd h
    first (list s inside others) (atom t r e rest) h = absurd h
    first (atom s q c others) (atom t r e rest) h = (h.0, h.1, number_content r n.0 a, second others rest h.3)
    first i (list s inside rest) h = h
put_respelled n i (list s inside rest) a b h = h

pub numbers_near : (d : Shift) (i : Forest) (n : ℤ × ℤ) → place_moved d i ≡ Some n → (unsigned_abs n.0 ≤ 1000000000000) × (unsigned_abs n.1 ≤ 1000000000000)
numbers_near d none n h = absurd cc
numbers_near d (list s inside others) n h = absurd cc
numbers_near d (atom s q c none) n h = absurd (no_numbers (is_place_head (value (leaf s q c))) n h)
numbers_near d (atom s q c (list t inside others)) n h = absurd (no_numbers (is_place_head (value (leaf s q c))) n h)
numbers_near d (atom s q c (atom t r x none)) n h = absurd (no_numbers (is_place_head (value (leaf s q c))) n h)
numbers_near d (atom s q c (atom t r x (list u inside others))) n h = absurd (no_numbers (is_place_head (value (leaf s q c))) n h)
numbers_near d (atom s q c (atom t r x (atom u p y others))) n h =
    let k = if_some (is_place_head (value (leaf s q c))) (moved_numbers d x y) n h in
    let e = both_some (moved_by d.dx (mm_cut_answer x)) (moved_by d.dy (mm_cut_answer y)) n k.1 in
    ((moved_number d.dx x n.0 (mm_cut_answer x) refl e.0).near, (moved_number d.dy y n.1 (mm_cut_answer y) refl e.1).near)

inside_respelled : (d : Shift) (i : Forest) (o : Option (ℤ × ℤ)) → place_moved d i ≡ o → IsRespelled i (moved d i) → IsRespelled i (put_if o (moved d i))
inside_respelled d i None e h = h
inside_respelled d i (Some n) e h = let k = numbers_near d i n e in put_respelled n i (moved d i) k.0 k.1 h

pub moved_respelled : (d : Shift) (f : Forest) → AreAtoms f → IsRespelled f (moved d f)
moved_respelled d none h = tt
moved_respelled d (atom s q c others) h = (refl, refl, h.0, moved_respelled d others h.1)
moved_respelled d (list s inside others) h = (refl, inside_respelled d inside (place_moved d inside) refl (moved_respelled d inside h.0), moved_respelled d others h.1)

pub put_utf8 : (n : ℤ × ℤ) (g : Forest) → unsigned_abs n.0 ≤ 1000000000000 → unsigned_abs n.1 ≤ 1000000000000 → AreUtf8 g → AreUtf8 (put_numbers n g)
put_utf8 n none a b h = h
put_utf8 n (list s inside rest) a b h = h
put_utf8 n (atom t r e rest) a b h = (h.0, first rest h.1)
  where
    second : (g : Forest) → AreUtf8 g → AreUtf8 (put_second n g)
    second none h = h
    second (atom t r e rest) h = (number_utf8 n.1 b, h.1)
    second (list s inside rest) h = h

    first : (g : Forest) → AreUtf8 g → AreUtf8 (put_first n g)
    first none h = h
    first (atom t r e rest) h = (number_utf8 n.0 a, second rest h.1)
    first (list s inside rest) h = h

inside_utf8 : (d : Shift) (i : Forest) (o : Option (ℤ × ℤ)) → place_moved d i ≡ o → AreUtf8 (moved d i) → AreUtf8 (put_if o (moved d i))
inside_utf8 d i None e h = h
inside_utf8 d i (Some n) e h = let k = numbers_near d i n e in put_utf8 n (moved d i) k.0 k.1 h

pub moved_utf8 : (d : Shift) (f : Forest) → AreUtf8 f → AreUtf8 (moved d f)
moved_utf8 d none h = tt
moved_utf8 d (atom s q c others) h = (h.0, moved_utf8 d others h.1)
moved_utf8 d (list s inside others) h = (inside_utf8 d inside (place_moved d inside) refl (moved_utf8 d inside h.0), moved_utf8 d others h.1)

-- ---- and what is the same but for spans is equal up to translation too

pub moved_same : (d : Shift) (i g h : Forest) → IsPlaceMoved d i g → SameTrees g h → IsPlaceMoved d i h
moved_same d i g h p same = by_shape h (subst (λ (x : Forest). SameTrees x h) p.is same)
  where
    by_shape : (h : Forest) → SameTrees (atom p.other_spans.0 p.quotes.0 p.head (atom p.other_spans.1 p.other_quotes.0 p.new_x (atom p.other_spans.2 p.other_quotes.1 p.new_y p.other_rest))) h → IsPlaceMoved d i h
    by_shape none k = absurd k
    by_shape (list s inside others) k = absurd k
    by_shape (atom s q c none) k = absurd k.2
    by_shape (atom s q c (list t inside others)) k = absurd k.2
    by_shape (atom s q c (atom t r x none)) k = absurd k.2.2
    by_shape (atom s q c (atom t r x (list u inside others))) k = absurd k.2.2
    by_shape (atom s q c (atom t r x (atom u v y others))) k = record {
      spans = p.spans;
      other_spans = (s, t, u);
      quotes = p.quotes;
      other_quotes = (r, v);
      head = p.head;
      x = p.x;
      y = p.y;
      new_x = p.new_x;
      new_y = p.new_y;
      rest = p.rest;
      other_rest = others;
      was = p.was;
      is =
          ap (λ (b : Bool). atom s b c (atom t r x (atom u v y others))) (sym k.0)
          ∙ ap (λ (z : List ℕ). atom s p.quotes.0 z (atom t r x (atom u v y others))) (sym k.1)
          ∙ ap (λ (z : List ℕ). atom s p.quotes.0 p.head (atom t r z (atom u v y others))) (sym k.2.1)
          ∙ ap (λ (z : List ℕ). atom s p.quotes.0 p.head (atom t r p.new_x (atom u v z others))) (sym k.2.2.1);
      is_place = p.is_place;
      at_x = p.at_x;
      at_y = p.at_y;
      read_x = p.read_x;
      read_y = p.read_y;
      moved_x = p.moved_x;
      moved_y = p.moved_y;
    }

pub translated_same : (d : Option Shift) (f g h : Forest) → Translated d f g → SameTrees g h → Translated d f h
translated_same d none none none k same = tt
translated_same d none none (atom t r c rest) k same = absurd same
translated_same d none none (list t within rest) k same = absurd same
translated_same d none (atom t r c rest) h k same = absurd k
translated_same d none (list t within rest) h k same = absurd k
translated_same d (atom s q c others) none h k same = absurd k
translated_same d (atom s q c others) (list t within rest) h k same = absurd k
translated_same d (atom s q c others) (atom t r e rest) none k same = absurd same
translated_same d (atom s q c others) (atom t r e rest) (list u more last) k same = absurd same
translated_same d (atom s q c others) (atom t r e rest) (atom u p x last) k same = (k.0 ∙ same.0, k.1 ∙ same.1, translated_same d others rest last k.2 same.2)
translated_same d (list s inside others) none h k same = absurd k
translated_same d (list s inside others) (atom t r e rest) h k same = absurd k
translated_same d (list s inside others) (list t within rest) none k same = absurd same
translated_same d (list s inside others) (list t within rest) (atom u p x last) k same = absurd same
translated_same None (list s inside others) (list t within rest) (list u more last) k same = (translated_same None inside within more k.0 same.0, translated_same None others rest last k.1 same.1)
translated_same (Some d) (list s inside others) (list t within rest) (list u more last) (inl kept, k) same = (inl (translated_same (Some d) inside within more kept.0 same.0, kept.1), translated_same (Some d) others rest last k same.1)
translated_same (Some d) (list s inside others) (list t within rest) (list u more last) (inr new, k) same = (inr (moved_same d inside within more new same.0), translated_same (Some d) others rest last k same.1)

pub translated_itself : (f : Forest) → Translated None f f
translated_itself none = tt
translated_itself (atom s q c others) = (refl, refl, translated_itself others)
translated_itself (list s inside others) = (translated_itself inside, translated_itself others)
