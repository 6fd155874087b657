-- What is UTF-8 spells atoms of UTF-8, and is spelled by them.
use Rattle.std.proofs.Common.{◌≡◌, ◌∙◌, refl, sym, ap, subst, ℕ, zero, suc, ◌+◌, ◌<◌, arith, Bool, true, false, List, [], ◌∷◌, ◌++◌, length, get_or, take, drop, append_assoc, length-append, append-nil, IsUtf8, inl, inr}
use Rattle.std.proofs.Math.Seq.{drop-append_seam, take-append_seam}
use Rattle.std.proofs.lemmas.Bool.{cases_lt}
use Rattle.std.proofs.lemmas.Str.{IsUtf8-append, IsUtf8-nil, IsUtf8-from_ascii, IsUtf8-take, IsUtf8-drop, IsCharBoundary-before_ascii, IsCharBoundary-after_ascii}
use Rattle.sexpr_read.specs.declared.bytes.ByteClass.TheVariants.{Space, Plain}
use Rattle.sexpr_read.specs.ByteClasses.{class_of, is_word}
use Rattle.sexpr_read.specs.Tree.{Forest, none, atom, list}
use Rattle.sexpr_read.proofs.Texts.{high_plain}
use Rattle.roundtrip_text.specs.Pieces.{IsBlank, written, MayFollow, WritesForest}
use Rattle.roundtrip_text.specs.Utf8.{AreUtf8}

pub low_utf8 : (b : ℕ) → b < 128 → IsUtf8 (b ∷ [])
low_utf8 b h = IsUtf8-from_ascii (b ∷ []) each
  where
    each : (i : ℕ) → get_or (b ∷ []) i 0 < 128
    each zero = h
    each (suc i) = omega arith

seam : (xs ys : List ℕ) (b d : ℕ) → get_or (xs ++ (b ∷ ys)) (length xs) d ≡ b
seam [] ys b d = refl
seam (x ∷ xs) ys b d = seam xs ys b d

-- a byte of ASCII parts two texts
halves : (xs ys : List ℕ) (b : ℕ) → b < 128 → IsUtf8 (xs ++ (b ∷ ys)) → IsUtf8 xs × IsUtf8 ys
halves xs ys b low u =
    let whole : List ℕ = xs ++ (b ∷ ys) in
    let n : ℕ = length xs in
    let inside : n < length whole = omega (arith, length-append xs (b ∷ ys)) in
    let is : get_or whole n 0 < 128 = subst (λ x. x < 128) (sym (seam xs ys b 0)) low in
    let before = IsCharBoundary-before_ascii whole n inside is in
    let after = IsCharBoundary-after_ascii whole n u inside is in
    let prefix : take n whole ≡ xs = take-append_seam xs (b ∷ ys) in
    let size : length (xs ++ b ∷ []) ≡ n + 1 = length-append xs (b ∷ []) in
    let back : drop (n + 1) whole ≡ ys =
    ap (λ k. drop k whole) (sym size) ∙ ap (drop (length (xs ++ b ∷ []))) (sym (append_assoc xs (b ∷ []) ys)) ∙ drop-append_seam (xs ++ b ∷ []) ys in
    (subst IsUtf8 prefix (IsUtf8-take whole n u before), subst IsUtf8 back (IsUtf8-drop whole (n + 1) u after))

low_by : (b : ℕ) → (class_of b ≡ Plain → ⊥) → b < 128
low_by b h = elim (cases_lt b 128) [ inl low ↦ low | inr high ↦ absurd (h (high_plain b high)) ]

space_low : (b : ℕ) → class_of b ≡ Space → b < 128
space_low b e = low_by b (λ h. let k : Space ≡ Plain = sym e ∙ h in cc)

apart_low : (b : ℕ) → is_word (class_of b) ≡ false → b < 128
apart_low b e = low_by b (λ h. let k : is_word Plain ≡ false = rw h at e in cc)

-- ---- apart

without_gap : (gap xs : List ℕ) → IsBlank gap → IsUtf8 (gap ++ xs) → IsUtf8 xs
without_gap [] xs h u = u
without_gap (b ∷ gap) xs h u = without_gap gap xs h.1 (halves [] (gap ++ xs) b (space_low b h.0) u).1

content_apart : (q : Bool) (c rest : List ℕ) → MayFollow q rest → IsUtf8 (written q c ++ rest) → IsUtf8 c × IsUtf8 rest
content_apart true c rest h u =
    let inner = (halves [] ((c ++ 34 ∷ []) ++ rest) 34 (omega arith) u).1 in
    halves c rest 34 (omega arith) (subst IsUtf8 (append_assoc c (34 ∷ []) rest) inner)
content_apart false c [] h u = (subst IsUtf8 (append-nil c) u, IsUtf8-nil)
content_apart false c (b ∷ rest) h u =
    let k = halves c rest b (apart_low b h) u in (k.0, IsUtf8-append (b ∷ []) rest (low_utf8 b (apart_low b h)) k.1)

pub utf8_apart : (bytes : List ℕ) (f : Forest) → WritesForest bytes f → IsUtf8 bytes → AreUtf8 f
utf8_apart bytes none h u = tt
utf8_apart bytes (atom s q c others) (gap, rest, joined, blank, is, follow, h) u =
    let k = content_apart q c rest follow (without_gap gap (written q c ++ rest) blank (subst IsUtf8 joined u)) in
    (k.0, utf8_apart rest others h k.1)
utf8_apart bytes (list s inside others) (gap, within, rest, joined, blank, h, k) u =
    let inner = (halves [] (within ++ (41 ∷ rest)) 40 (omega arith) (without_gap gap (40 ∷ (within ++ (41 ∷ rest))) blank (subst IsUtf8 joined u))).1 in
    let both = halves within rest 41 (omega arith) inner in
    (utf8_apart within inside h both.0, utf8_apart rest others k both.1)

-- ---- joined

pub blank_utf8 : (gap : List ℕ) → IsBlank gap → IsUtf8 gap
blank_utf8 [] h = IsUtf8-nil
blank_utf8 (b ∷ gap) h = IsUtf8-append (b ∷ []) gap (low_utf8 b (space_low b h.0)) (blank_utf8 gap h.1)

pub written_utf8 : (q : Bool) (c : List ℕ) → IsUtf8 c → IsUtf8 (written q c)
written_utf8 false c u = u
written_utf8 true c u = IsUtf8-append (34 ∷ []) (c ++ 34 ∷ []) (low_utf8 34 (omega arith)) (IsUtf8-append c (34 ∷ []) u (low_utf8 34 (omega arith)))

pub utf8_joined : (bytes : List ℕ) (f : Forest) → WritesForest bytes f → AreUtf8 f → IsUtf8 bytes
utf8_joined bytes none h u = blank_utf8 bytes h
utf8_joined bytes (atom s q c others) (gap, rest, joined, blank, is, follow, h) u =
    subst IsUtf8 (sym joined) (IsUtf8-append gap (written q c ++ rest) (blank_utf8 gap blank) (IsUtf8-append (written q c) rest (written_utf8 q c u.0) (utf8_joined rest others h u.1)))
utf8_joined bytes (list s inside others) (gap, within, rest, joined, blank, h, k) u =
    let inner = IsUtf8-append within (41 ∷ rest) (utf8_joined within inside h u.0) (IsUtf8-append (41 ∷ []) rest (low_utf8 41 (omega arith)) (utf8_joined rest others k u.1)) in
    subst IsUtf8 (sym joined) (IsUtf8-append gap (40 ∷ (within ++ (41 ∷ rest))) (blank_utf8 gap blank) (IsUtf8-append (40 ∷ []) (within ++ (41 ∷ rest)) (low_utf8 40 (omega arith)) inner))
