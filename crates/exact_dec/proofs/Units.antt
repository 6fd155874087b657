-- A text with a unit, by its last byte.
use Rattle.std.proofs.Common.{◌≡◌, ◌≢◌, ℕ, ◌-◌, ◌*◌, ◌^◌, ◌<◌, ◌≤◌, Bool, true, false, ◌&&◌, List, [], ◌∷◌, ◌++◌, length, take, drop, ℤ, pos, neg_ℤ, unsigned_abs, Option, Some, None, Result, cond, nat_lt, sym, ap, ◌∙◌, subst, refl, arith, ◌==◌, append-nil, length-append, take-append-drop, ◌↔◌, inl, inr, ◌⊎◌}
use Rattle.std.specs.Prelude.{codes}
use Rattle.std.proofs.Math.Nat.{le-mul_of_pos_right}
use Rattle.std.proofs.Math.Seq.{drop-append_seam, take-append_seam}
use Rattle.std.proofs.lemmas.Slice.Eq.{bytes_eq-Decides}
use Rattle.std.proofs.lemmas.Bool.{and_parts, lt-ltb, ne_eqb, eq-eqb}
use Rattle.std.specs.Cmp.Derive.{both_true}
use Rattle.std.proofs.lemmas.Bool.Decides.{nat_tests}
use Rattle.exact_dec.specs.declared.DecError.{DecError}
use Rattle.exact_dec.specs.Decimal.{Spelling, Spells, IsDigits, IsMantissa, no_point, point_last, point_inside, point_first, IsPower, no_power, power, number, signed, raised, IsRounded}
use Rattle.exact_dec.specs.Computed.{ends_in, unit_of, before_unit, zero_or_unit, parts_of, answer_of, near, with_unit_answer}
use Rattle.exact_dec.specs.DecimalAnswers.{IsLengthUnit, millimetre, mil, inch, HasUnit, with_unit, zero_alone, WithUnit, no_more}
use Rattle.exact_dec.proofs.Digits.{digit_at, pow10_pos, and_left}
use Rattle.exact_dec.proofs.Grammar.{spells, spelled_once, some_same}
use Rattle.exact_dec.proofs.Rounding.{abs_signed, near_once}
use Rattle.exact_dec.proofs.Laws.{answer_law, along, near_rounds}

-- the last byte of a text, 0 of no text
abbrev pub last_byte : List ℕ → ℕ
last_byte [] = 0
last_byte (c ∷ []) = c
last_byte (c ∷ (d ∷ ds)) = last_byte (d ∷ ds)

last_byte-append : (xs : List ℕ) (y : ℕ) (ys : List ℕ) → last_byte (xs ++ (y ∷ ys)) ≡ last_byte (y ∷ ys)
last_byte-append [] y ys = refl
last_byte-append (x ∷ []) y ys = refl
last_byte-append (x ∷ (z ∷ zs)) y ys = last_byte-append (z ∷ zs) y ys

digits_last : (ds : List ℕ) → IsDigits ds → last_byte ds ≤ 57
digits_last [] d = absurd (omega (arith, d.1))
digits_last (c ∷ []) d = (digit_at (c ∷ []) 0 d.0 (omega arith)).1
digits_last (c ∷ (x ∷ xs)) d = digits_last (x ∷ xs) ((and_parts _ _ d.0).1, omega arith)

append_last : (xs ds : List ℕ) → 0 < length ds → last_byte ds ≤ 57 → last_byte (xs ++ ds) ≤ 57
append_last xs [] some h = absurd (omega arith)
append_last xs (d ∷ ds) some h = rw (last_byte-append xs d ds) h

mantissa_last : (m w f : List ℕ) → IsMantissa m w f → (0 < length m) × (last_byte m ≤ 57)
mantissa_last m w f (no_point e d z) = subst (λ (x : List ℕ). (0 < length x) × (last_byte x ≤ 57)) (sym e) (d.1, digits_last w d)
mantissa_last m w f (point_last e d z) = subst (λ (x : List ℕ). (0 < length x) × (last_byte x ≤ 57)) (sym e) (omega (arith, length-append w (46 ∷ []), d.1), append_last w (46 ∷ []) (omega arith) (omega arith))
mantissa_last m w f (point_inside e d k) = subst (λ (x : List ℕ). (0 < length x) × (last_byte x ≤ 57)) (sym e) (omega (arith, length-append w (46 ∷ f), d.1), append_last w (46 ∷ f) (omega arith) (append_last (46 ∷ []) f k.1 (digits_last f k)))
mantissa_last m w f (point_first e n k) = subst (λ (x : List ℕ). (0 < length x) × (last_byte x ≤ 57)) (sym e) (omega arith, append_last (46 ∷ []) f k.1 (digits_last f k))

power_last : (m e : List ℕ) (l : Bool) (x : List ℕ) → 0 < length m → last_byte m ≤ 57 → IsPower e l x → last_byte (m ++ e) ≤ 57
power_last m e l x some h (no_power is a b) = subst (λ y. last_byte (m ++ y) ≤ 57) (sym is) (rw append-nil h)
power_last m e l x some h (power letter s a sign d is) = subst (λ y. last_byte (m ++ y) ≤ 57) (sym is) (append_last m ((letter ∷ s) ++ x) (omega arith) (append_last (letter ∷ s) x d.1 (digits_last x d)))

-- no decimal ends in a letter of a unit
spelled_last : (text : List ℕ) (p : Spelling) → Spells text p → last_byte text ≤ 57
spelled_last text p h =
    let m = mantissa_last h.mantissa p.whole p.fraction h.is_mantissa in
    let body : last_byte (h.mantissa ++ h.power) ≤ 57 = power_last h.mantissa h.power p.lowers p.exponent m.0 m.1 h.is_power in
    subst (λ x. last_byte x ≤ 57) (sym h.joined) (append_last h.sign (h.mantissa ++ h.power) (omega (arith, length-append h.mantissa h.power, m.0)) body)

-- ---- the unit at the end

ends_split : (text u : List ℕ) → ends_in text u ≡ true → take (length text - length u) text ++ u ≡ text
ends_split text u h = ap (λ x. take (length text - length u) text ++ x) (sym ((bytes_eq-Decides (drop (length text - length u) text) u).0 h)) ∙ take-append-drop (length text - length u) text

ends_not : (text : List ℕ) (u : ℕ) (us : List ℕ) → last_byte text ≢ last_byte (u ∷ us) → ends_in text (u ∷ us) ≡ false
ends_not text u us other =
    elim (ends_in text (u ∷ us)) as (λ b. ends_in text (u ∷ us) ≡ b → b ≡ false) [
      | true ↦ λ h. absurd (other (ap last_byte (sym (ends_split text (u ∷ us) h)) ∙ last_byte-append (take (length text - length (u ∷ us)) text) u us))
      | false ↦ λ h. refl
    ] refl

prefix_length : (d u : List ℕ) → length (d ++ u) - length u ≡ length d
prefix_length d u = omega (arith, length-append d u)

ends_yes : (d u : List ℕ) → (ends_in (d ++ u) u ≡ true) × (take (length (d ++ u) - length u) (d ++ u) ≡ d)
ends_yes d u = (
  (bytes_eq-Decides (drop (length (d ++ u) - length u) (d ++ u)) u).1 (ap (λ n. drop n (d ++ u)) (prefix_length d u) ∙ drop-append_seam d u),
  ap (λ n. take n (d ++ u)) (prefix_length d u) ∙ take-append_seam d u,
)

abbrev pub IsSplit : List ℕ → List ℕ → ℕ → Type 0
IsSplit text d k = (unit_of text ≡ k) × (before_unit text ≡ d)

split_unit : (d u : List ℕ) (k : ℤ) → IsLengthUnit u k → (n : ℕ) × (k ≡ pos n) × (0 < n) × IsSplit (d ++ u) d n
split_unit d _ _ millimetre =
    let yes = ends_yes d (codes "mm") in
    (1000000, refl, omega arith, (rw yes.0 refl, rw yes.0 yes.1))
split_unit d _ _ mil =
    let yes = ends_yes d (codes "mil") in
    let last = last_byte-append d 109 (105 ∷ 108 ∷ []) in
    let no = ends_not (d ++ codes "mil") 109 (109 ∷ []) (λ e. omega (arith, last, e)) in
    (25400, refl, omega arith, (rw (no, yes.0) refl, rw (no, yes.0) yes.1))
split_unit d _ _ inch =
    let yes = ends_yes d (codes "in") in
    let last = last_byte-append d 105 (110 ∷ []) in
    let no = ends_not (d ++ codes "in") 109 (109 ∷ []) (λ e. omega (arith, last, e)) in
    let not = ends_not (d ++ codes "in") 109 (105 ∷ 108 ∷ []) (λ e. omega (arith, last, e)) in
    (25400000, refl, omega arith, (rw (no, not, yes.0) refl, rw (no, not, yes.0) yes.1))

no_unit : (text : List ℕ) → last_byte text ≤ 57 → IsSplit text text 0
no_unit text low =
    let a = ends_not text 109 (109 ∷ []) (λ e. omega (arith, low, e)) in
    let b = ends_not text 109 (105 ∷ 108 ∷ []) (λ e. omega (arith, low, e)) in
    let c = ends_not text 105 (110 ∷ []) (λ e. omega (arith, low, e)) in
    (rw (a, b, c) refl, rw (a, b, c) refl)

-- the text ends in a unit, or it is all before it
abbrev pub HasSplit : List ℕ → ℕ → List ℕ → Type 0
HasSplit text n d = ((u : List ℕ) × (text ≡ d ++ u) × IsLengthUnit u (pos n)) ⊎ ((n ≡ 0) × (d ≡ text))

split_of : (text : List ℕ) → HasSplit text (unit_of text) (before_unit text)
split_of text =
    elim (ends_in text (codes "mm")) as (λ b. ends_in text (codes "mm") ≡ b → HasSplit text (cond b 1000000 (cond (ends_in text (codes "mil")) 25400 (cond (ends_in text (codes "in")) 25400000 0))) (cond b (take (length text - 2) text) (cond (ends_in text (codes "mil")) (take (length text - 3) text) (cond (ends_in text (codes "in")) (take (length text - 2) text) text)))) [
      | true ↦ λ h. inl (codes "mm", sym (ends_split text (codes "mm") h), millimetre)
      | false ↦ λ h. elim (ends_in text (codes "mil")) as (λ b. ends_in text (codes "mil") ≡ b → HasSplit text (cond b 25400 (cond (ends_in text (codes "in")) 25400000 0)) (cond b (take (length text - 3) text) (cond (ends_in text (codes "in")) (take (length text - 2) text) text))) [
        | true ↦ λ k. inl (codes "mil", sym (ends_split text (codes "mil") k), mil)
        | false ↦ λ k. elim (ends_in text (codes "in")) as (λ b. ends_in text (codes "in") ≡ b → HasSplit text (cond b 25400000 0) (cond b (take (length text - 2) text) text)) [
          | true ↦ λ l. inl (codes "in", sym (ends_split text (codes "in") l), inch)
          | false ↦ λ l. inr (refl, refl)
        ] refl
      ] refl
    ] refl

-- ---- a zero alone

abbrev pub is_bare : ℕ → Spelling → Bool
is_bare n p = (n == 0) && nat_lt 0 (number (p.whole ++ p.fraction))

unit_some : (n : ℕ) (o : Option Spelling) (p : Spelling) → zero_or_unit n o ≡ Some p → (o ≡ Some p) × (is_bare n p ≡ false)
unit_some n None p h = cc
unit_some n (Some q) p h =
    elim (is_bare n q) as (λ b. is_bare n q ≡ b → cond b None (Some q) ≡ Some p → (Some q ≡ Some p) × (is_bare n p ≡ false))
    [ true ↦ λ e k. cc | false ↦ λ e k. (k, subst (λ x. is_bare n x ≡ false) (some_same q p k) e) ] refl h

bare_zero : (n m : ℕ) → n ≡ 0 → ((n == 0) && nat_lt 0 m) ≡ false → m ≡ 0
bare_zero n m z h = grind (arith, nat_tests)

not_bare : (n m : ℕ) → (0 < n) ⊎ (m ≡ 0) → ((n == 0) && nat_lt 0 m) ≡ false
not_bare n m (inl h) = rw (ne_eqb n 0 (λ e. omega arith))
not_bare n m (inr h) = rw h (and_left (n == 0))

signed_zero : (negative : Bool) (n k : ℕ) → n ≡ 0 → signed negative (n * k) ≡ pos 0
signed_zero false n k z = let none : n * k ≡ 0 = omega (arith, ap (λ x. x * k) z) in ap pos none
signed_zero true n k z = let none : n * k ≡ 0 = omega (arith, ap (λ x. x * k) z) in ap (λ x. neg_ℤ (pos x)) none

number_zero : (negative : Bool) (n k : ℕ) → signed negative (n * 10 ^ k) ≡ pos 0 → n ≡ 0
number_zero negative n k h =
    let none : n * 10 ^ k ≡ 0 = sym (abs_signed negative (n * 10 ^ k)) ∙ ap unsigned_abs h in
    omega (arith, le-mul_of_pos_right n (pow10_pos k))

with_unit_to : (text : List ℕ) (p : Spelling) → zero_or_unit (unit_of text) (parts_of (before_unit text)) ≡ Some p → HasUnit text p (pos (unit_of text))
with_unit_to text p h =
    let found = unit_some (unit_of text) (parts_of (before_unit text)) p h in
    let spelled = spells (before_unit text) p found.0 in
    elim (split_of text) [
      | inl s ↦ with_unit p (before_unit text) s.0 (pos (unit_of text)) s.1 spelled s.2
      | inr s ↦ subst (λ k. HasUnit text p (pos k)) (sym s.0) (zero_alone p (subst (λ x. Spells x p) s.1 spelled) (signed_zero p.negative (number (p.whole ++ p.fraction)) (10 ^ raised p.lowers p.exponent) (bare_zero (unit_of text) (number (p.whole ++ p.fraction)) s.0 found.1)))
    ]

unit_given : (n : ℕ) (o : Option Spelling) (p : Spelling) → o ≡ Some p → (0 < n) ⊎ (number (p.whole ++ p.fraction) ≡ 0) → zero_or_unit n o ≡ Some p
unit_given n o p is some = ap (zero_or_unit n) is ∙ ap (λ b. cond b None (Some p)) (not_bare n (number (p.whole ++ p.fraction)) some)

with_unit_from : (text : List ℕ) (p : Spelling) (k : ℤ) → HasUnit text p k → (zero_or_unit (unit_of text) (parts_of (before_unit text)) ≡ Some p) × (k ≡ pos (unit_of text))
with_unit_from text _ _ (with_unit p d u k is spelled unit) =
    let s = split_unit d u k unit in
    let units : unit_of text ≡ s.0 = ap unit_of is ∙ s.3.0 in
    let before : before_unit text ≡ d = ap before_unit is ∙ s.3.1 in
    (unit_given (unit_of text) (parts_of (before_unit text)) p (ap parts_of before ∙ spelled_once d p spelled) (inl (subst (λ n. 0 < n) (sym units) s.2)), s.1 ∙ ap pos (sym units))
with_unit_from text _ _ (zero_alone p spelled zeros) =
    let s = no_unit text (spelled_last text p spelled) in
    (unit_given (unit_of text) (parts_of (before_unit text)) p (ap parts_of s.1 ∙ spelled_once text p spelled) (inr (number_zero p.negative (number (p.whole ++ p.fraction)) (raised p.lowers p.exponent) zeros)), ap pos (sym s.0))

pub with_unit_law : (text : List ℕ) (a : Result ℤ DecError) → a ≡ with_unit_answer text → (r : Result ℤ DecError) → (a ≡ r) ↔ WithUnit text r
unfolding with_unit_answer
with_unit_law text a e = along a (answer_of text (pos (unit_of text)) near no_more (zero_or_unit (unit_of text) (parts_of (before_unit text)))) e
    (answer_law text (pos (unit_of text)) (zero_or_unit (unit_of text) (parts_of (before_unit text))) (HasUnit text) IsRounded near no_more (with_unit_to text) (with_unit_from text) (near_rounds (pos (unit_of text))) near_once)

-- ---- the answers as the call reaches them

pub no_parts : (text : List ℕ) (unit : ℕ) (o : Option Spelling) → o ≡ None → zero_or_unit unit o ≡ None
no_parts text unit o h = ap (zero_or_unit unit) h

pub bare_parts : (unit : ℕ) (o : Option Spelling) (p : Spelling) → o ≡ Some p → unit ≡ 0 → 0 < number (p.whole ++ p.fraction) → zero_or_unit unit o ≡ None
bare_parts unit o p is none some = ap (zero_or_unit unit) is ∙ ap (λ b. cond b None (Some p)) (both_true (eq-eqb unit 0 none) (lt-ltb 0 (number (p.whole ++ p.fraction)) some))

pub unit_parts : (n : ℕ) (o : Option Spelling) (p : Spelling) → o ≡ Some p → (0 < n) ⊎ (number (p.whole ++ p.fraction) ≡ 0) → zero_or_unit n o ≡ Some p
unit_parts n o p is some = unit_given n o p is some
