-- The answers as functions of the text are the answers of the relation, and a text has one answer.
use Rattle.std.proofs.Common.{◌≡◌, ℕ, Bool, true, false, ◌&&◌, ◌||◌, List, length, ℤ, pos, Result, Ok, Err, Option, Some, None, cond, nat_lt, nat_le, sym, ap, ◌∙◌, subst, refl, ◌↔◌}
use Rattle.std.specs.Cmp.Derive.{both_true}
use Rattle.std.proofs.lemmas.Bool.{and_parts, leb-true, le-leb}
use Rattle.exact_dec.specs.declared.DecError.{DecError}
use Rattle.exact_dec.specs.declared.DecError.TheVariants.{BadNumber, TooWide}
use Rattle.exact_dec.specs.Decimal.{Spelling, Fraction, value, times, cut, number, IsRounded}
use Rattle.exact_dec.specs.Computed.{near, is_digits, parts_of, answer_of, mm_cut_answer, mm_near_answer, ratio_near_answer, count_answer}
use Rattle.exact_dec.specs.DecimalAnswers.{Reads, within, too_wide, bad_number, Gives, IsCut, IsPlain, plain, is_long, is_far, is_no_half, no_more, MmCut, MmNear, RatioNear, CountGives, Count}
use Rattle.exact_dec.proofs.Answering.{bottom_some}
use Rattle.exact_dec.proofs.Grammar.{spells, spelled_once, some_same, digits_from, digits_are}
use Rattle.exact_dec.proofs.Rounding.{near_is, near_once}

-- where a text stands for one number at most
abbrev pub GivesOne : {A : Type 0} → (A → Bool → Type 0) → Type 0
GivesOne {A} G = (n m : A) (over beyond : Bool) → G n over → G m beyond → (n ≡ m) × (over ≡ beyond)

pub reads_once : {A : Type 0} (G : A → Bool → Type 0) → GivesOne G → {a b : Result A DecError} → Reads G a → Reads G b → a ≡ b
reads_once G one (within n g) (within m h) = ap Ok (one n m false false g h).0
reads_once G one (within n g) (too_wide m h) = let e : false ≡ true = (one n m false true g h).1 in cc
reads_once G one (within n g) (bad_number f) = absurd (f n false g)
reads_once G one (too_wide n g) (within m h) = let e : true ≡ false = (one n m true false g h).1 in cc
reads_once G one (too_wide n g) (too_wide m h) = refl
reads_once G one (too_wide n g) (bad_number f) = absurd (f n true g)
reads_once G one (bad_number f) (within m h) = absurd (f m false h)
reads_once G one (bad_number f) (too_wide m h) = absurd (f m true h)
reads_once G one (bad_number f) (bad_number k) = refl

pub reads_law : {A : Type 0} (G : A → Bool → Type 0) → GivesOne G → (a : Result A DecError) → Reads G a → (r : Result A DecError) → (a ≡ r) ↔ Reads G r
reads_law G one a h r = (λ e. subst (Reads G) e h, λ k. reads_once G one h k)

-- ---- numbers with a scale

module _ (text : List ℕ) (unit : ℤ) (o : Option Spelling) (Form : Spelling → ℤ → Type 0) (Rounded : Fraction → ℤ → Type 0) (rounded : Fraction → ℤ) (beyond : Fraction → Bool)
    (to : (p : Spelling) → o ≡ Some p → Form p unit)
    (from : (p : Spelling) (k : ℤ) → Form p k → (o ≡ Some p) × (k ≡ unit))
    (rounds : (p : Spelling) → Rounded (times unit (value p)) (rounded (times unit (value p))))
    (once : (f : Fraction) (n m : ℤ) → Rounded f n → Rounded f m → n ≡ m) where
  abbrev limits_of : Spelling → ℤ → Bool
  limits_of p n = is_long text p || (is_far n || beyond (value p))

  gives_one : GivesOne (Gives text Form Rounded beyond)
  gives_one n m over past g h =
      let a = from g.parts g.unit g.form in
      let b = from h.parts h.unit h.form in
      let same : g.parts ≡ h.parts = some_same g.parts h.parts (sym a.0 ∙ b.0) in
      let units : g.unit ≡ h.unit = a.1 ∙ sym b.1 in
      let first : Rounded (times h.unit (value h.parts)) n = subst (λ p. Rounded (times h.unit (value p)) n) same (subst (λ k. Rounded (times k (value g.parts)) n) units g.rounded) in
      let number : n ≡ m = once (times h.unit (value h.parts)) n m first h.rounded in
      (number, g.limits ∙ (ap (λ p. limits_of p n) same ∙ (ap (λ z. limits_of h.parts z) number ∙ sym h.limits)))

  answered : (x : Option Spelling) → o ≡ x → Reads (Gives text Form Rounded beyond) (answer_of text unit rounded beyond x)
  answered None e = bad_number (λ n over g. let k : None ≡ Some g.parts = sym e ∙ (from g.parts g.unit g.form).0 in cc)
  answered (Some p) e =
      let n = rounded (times unit (value p)) in
      elim (limits_of p n) as (λ b. limits_of p n ≡ b → Reads (Gives text Form Rounded beyond) (cond b (Err TooWide) (Ok n))) [
        | true ↦ λ h. too_wide n (record { parts = p; unit = unit; form = to p e; rounded = rounds p; limits = sym h })
        | false ↦ λ h. within n (record { parts = p; unit = unit; form = to p e; rounded = rounds p; limits = sym h })
      ] refl

  pub answer_law : (r : Result ℤ DecError) → (answer_of text unit rounded beyond o ≡ r) ↔ Reads (Gives text Form Rounded beyond) r
  answer_law r = reads_law (Gives text Form Rounded beyond) gives_one (answer_of text unit rounded beyond o) (answered o refl) r

plain_to : (text : List ℕ) (unit : ℤ) (p : Spelling) → parts_of text ≡ Some p → IsPlain text unit p unit
plain_to text unit p e = plain p (spells text p e)

plain_from : (text : List ℕ) (unit : ℤ) (p : Spelling) (k : ℤ) → IsPlain text unit p k → (parts_of text ≡ Some p) × (k ≡ unit)
plain_from text unit _ _ (plain p h) = (spelled_once text p h, refl)

cut_once : (f : Fraction) (n m : ℤ) → IsCut f n → IsCut f m → n ≡ m
cut_once f n m a b = a ∙ sym b

pub near_rounds : (unit : ℤ) (p : Spelling) → IsRounded (times unit (value p)) (near (times unit (value p)))
near_rounds unit p = near_is (times unit (value p)) (bottom_some p)

-- the same of an answer that is known to be the function's
pub along : {A : Type 0} {P : A → Type 0} (a b : A) → a ≡ b → ((r : A) → (b ≡ r) ↔ P r) → (r : A) → (a ≡ r) ↔ P r
along a b e h r = (λ k. (h r).0 (sym e ∙ k), λ k. e ∙ (h r).1 k)

pub mm_cut_law : (text : List ℕ) (a : Result ℤ DecError) → a ≡ mm_cut_answer text → (r : Result ℤ DecError) → (a ≡ r) ↔ MmCut text r
unfolding mm_cut_answer
mm_cut_law text a e = along a (answer_of text (pos 1000000) cut no_more (parts_of text)) e
    (answer_law text (pos 1000000) (parts_of text) (IsPlain text (pos 1000000)) IsCut cut no_more (plain_to text (pos 1000000)) (plain_from text (pos 1000000)) (λ p. refl) cut_once)

pub mm_near_law : (text : List ℕ) (a : Result ℤ DecError) → a ≡ mm_near_answer text → (r : Result ℤ DecError) → (a ≡ r) ↔ MmNear text r
unfolding mm_near_answer
mm_near_law text a e = along a (answer_of text (pos 1000000) near no_more (parts_of text)) e
    (answer_law text (pos 1000000) (parts_of text) (IsPlain text (pos 1000000)) IsRounded near no_more (plain_to text (pos 1000000)) (plain_from text (pos 1000000)) (near_rounds (pos 1000000)) near_once)

pub ratio_near_law : (text : List ℕ) (whole : ℤ) (a : Result ℤ DecError) → a ≡ ratio_near_answer text whole → (r : Result ℤ DecError) → (a ≡ r) ↔ RatioNear text whole r
unfolding ratio_near_answer
ratio_near_law text whole a e = along a (answer_of text whole near is_no_half (parts_of text)) e
    (answer_law text whole (parts_of text) (IsPlain text whole) IsRounded near is_no_half (plain_to text whole) (plain_from text whole) (near_rounds whole) near_once)

-- ---- counts

count_one : (text : List ℕ) → GivesOne (CountGives text)
count_one text n m over beyond g h =
    let number : n ≡ m = g.counted ∙ sym h.counted in
    (number, g.limits ∙ (ap (λ x. nat_lt 4294967295 x) number ∙ sym h.limits))

count_reads : (text : List ℕ) → Count text (count_answer text)
unfolding count_answer
count_reads text =
    elim (is_digits text && nat_le (length text) 10) as (λ b. (is_digits text && nat_le (length text) 10) ≡ b → Count text (cond b (cond (nat_lt 4294967295 (number text)) (Err TooWide) (Ok (number text))) (Err BadNumber))) [
      | true ↦ λ e.
          let parts = and_parts (is_digits text) (nat_le (length text) 10) e in
          elim (nat_lt 4294967295 (number text)) as (λ b. nat_lt 4294967295 (number text) ≡ b → Count text (cond b (Err TooWide) (Ok (number text)))) [
            | true ↦ λ h. too_wide (number text) (record { digits = digits_from text parts.0; ten = leb-true (length text) 10 parts.1; counted = refl; limits = sym h })
            | false ↦ λ h. within (number text) (record { digits = digits_from text parts.0; ten = leb-true (length text) 10 parts.1; counted = refl; limits = sym h })
          ] refl
      | false ↦ λ e. bad_number (λ n over g. let k : (is_digits text && nat_le (length text) 10) ≡ true = both_true (digits_are text g.digits) (le-leb (length text) 10 g.ten) in let c : true ≡ false = sym k ∙ e in cc)
    ] refl

pub count_law : (text : List ℕ) (a : Result ℕ DecError) → a ≡ count_answer text → (r : Result ℕ DecError) → (a ≡ r) ↔ Count text r
count_law text a e = along a (count_answer text) e (reads_law (CountGives text) (count_one text) (count_answer text) (count_reads text))
