-- A number by its grammar is a number by what was written last, both ways.
use Rattle.std.proofs.Common.{◌≡◌, ◌≢◌, ℕ, ◌<◌, ◌≤◌, List, [], ◌∷◌, ◌++◌, Bool, true, false, cond, refl, sym, ◌∙◌, ap, subst, arith, inl, inr, eqb, leb, ◌||◌}
use Rattle.std.proofs.lemmas.Bool.{or_cases, or_parts, and_parts, and_from, eqb-true, eqb-false, leb-true, le-leb, ne_eqb, both_ways}
use Rattle.std.specs.Prelude.{◌==◌}
use Rattle.json_exact.specs.Characters.{within}
use Rattle.json_exact.specs.JsonNumbers.{is_digit, AreDigits, IsWholePart, IsFraction, is_mark, IsSign, IsExponent, IsNumber}
use Rattle.json_exact.specs.Scans.{is_sign, is_in_number, then, written, may_end}
use Rattle.json_exact.specs.declared.scan.Last.{Last}
use Rattle.json_exact.specs.declared.scan.Last.TheVariants.{Nothing, Minus, Zero, Whole, Point, Fraction, Mark, Sign, Exponent, Misplaced}

off : {A : Type 0} (b : Bool) (x y z : A) → b ≡ false → y ≡ z → cond b x y ≡ z
off true x y z e h = cc
off false x y z e h = h

on : {A : Type 0} (b : Bool) (x y : A) → b ≡ true → cond b x y ≡ x
on true x y e = refl
on false x y e = cc

pub written-append : (s : Last) (p q : List ℕ) → written s (p ++ q) ≡ written (written s p) q
written-append s [] q = refl
written-append s (b ∷ p) q = written-append (then s b) p q

pub written-misplaced : (p : List ℕ) → written Misplaced p ≡ Misplaced
written-misplaced [] = refl
written-misplaced (b ∷ p) = written-misplaced p

misplaced_ends : (p : List ℕ) → may_end (written Misplaced p) ≡ true → ⊥
misplaced_ends p h = both_ways (may_end (written Misplaced p)) (ap may_end (written-misplaced p)) h

-- ---- what is left behind each last byte

exponent_rest : (t : List ℕ) → may_end (written Exponent t) ≡ true → AreDigits t
exponent_rest [] h = tt
exponent_rest (b ∷ t) h =
    elim (is_digit b) as (λ v. is_digit b ≡ v → may_end (written (cond v Exponent Misplaced) t) ≡ true → AreDigits (b ∷ t))
    [ true ↦ λ e k. (e, exponent_rest t k) | false ↦ λ e k. absurd (misplaced_ends t k) ] refl h

sign_rest : (t : List ℕ) → may_end (written Sign t) ≡ true → (d : ℕ) × (ds : List ℕ) × (is_digit d ≡ true) × AreDigits ds × (t ≡ d ∷ ds)
sign_rest [] h = absurd (both_ways false refl h)
sign_rest (b ∷ t) h =
    elim (is_digit b) as (λ v. is_digit b ≡ v → may_end (written (cond v Exponent Misplaced) t) ≡ true → (d : ℕ) × (ds : List ℕ) × (is_digit d ≡ true) × AreDigits ds × (b ∷ t ≡ d ∷ ds))
    [ true ↦ λ e k. (b, t, e, exponent_rest t k, refl) | false ↦ λ e k. absurd (misplaced_ends t k) ] refl h

a_sign : (b : ℕ) → is_sign b ≡ true → IsSign (b ∷ [])
a_sign b h = elim (or_cases (eqb b 43) (eqb b 45) h)
    [ inl e ↦ inr (inl (ap (λ (x : ℕ). x ∷ []) (eqb-true b 43 e))) | inr e ↦ inr (inr (ap (λ (x : ℕ). x ∷ []) (eqb-true b 45 e))) ]

abbrev Marked : List ℕ → Type 0
Marked t = (sign : List ℕ) × (d : ℕ) × (ds : List ℕ) × IsSign sign × (is_digit d ≡ true) × AreDigits ds × (t ≡ sign ++ d ∷ ds)

mark_rest : (t : List ℕ) → may_end (written Mark t) ≡ true → Marked t
mark_rest [] h = absurd (both_ways false refl h)
mark_rest (b ∷ t) h =
    elim (is_digit b) as (λ v. is_digit b ≡ v → may_end (written (cond v Exponent (cond (is_sign b) Sign Misplaced)) t) ≡ true → Marked (b ∷ t)) [
      | true ↦ λ e k. ([], b, t, inl refl, e, exponent_rest t k, refl)
      | false ↦ λ e k. elim (is_sign b) as (λ v. is_sign b ≡ v → may_end (written (cond v Sign Misplaced) t) ≡ true → Marked (b ∷ t)) [
        | true ↦ λ f l. (let s = sign_rest t l in (b ∷ [], s.0, s.1, a_sign b f, s.2, s.3, ap (λ (q : List ℕ). b ∷ q) s.4))
        | false ↦ λ f l. absurd (misplaced_ends t l)
      ] refl k
    ] refl h

an_exponent : (b : ℕ) (t : List ℕ) → is_mark b ≡ true → Marked t → IsExponent (b ∷ t)
an_exponent b t m k = inr (b, k.0, k.1, k.2, m, k.3, k.4, k.5, ap (λ (q : List ℕ). b ∷ q) k.6)

abbrev Fractional : List ℕ → Type 0
Fractional t = (ds e : List ℕ) × AreDigits ds × IsExponent e × (t ≡ ds ++ e)

fraction_rest : (t : List ℕ) → may_end (written Fraction t) ≡ true → Fractional t
fraction_rest [] h = ([], [], tt, inl refl, refl)
fraction_rest (b ∷ t) h =
    elim (is_digit b) as (λ v. is_digit b ≡ v → may_end (written (cond v Fraction (cond (is_mark b) Mark Misplaced)) t) ≡ true → Fractional (b ∷ t)) [
      | true ↦ λ e k. (let s = fraction_rest t k in (b ∷ s.0, s.1, (e, s.2), s.3, ap (λ (q : List ℕ). b ∷ q) s.4))
      | false ↦ λ e k. elim (is_mark b) as (λ v. is_mark b ≡ v → may_end (written (cond v Mark Misplaced) t) ≡ true → Fractional (b ∷ t)) [
        | true ↦ λ f l. ([], b ∷ t, tt, an_exponent b t f (mark_rest t l), refl)
        | false ↦ λ f l. absurd (misplaced_ends t l)
      ] refl k
    ] refl h

abbrev Ended : List ℕ → Type 0
Ended t = (f e : List ℕ) × IsFraction f × IsExponent e × (t ≡ f ++ e)

point_rest : (t : List ℕ) → may_end (written Point t) ≡ true → Ended (46 ∷ t)
point_rest [] h = absurd (both_ways false refl h)
point_rest (b ∷ t) h =
    elim (is_digit b) as (λ v. is_digit b ≡ v → may_end (written (cond v Fraction Misplaced) t) ≡ true → Ended (46 ∷ b ∷ t)) [
      | true ↦ λ e k. (let s = fraction_rest t k in (46 ∷ b ∷ s.0, s.1, inr (b, s.0, e, s.2, refl), s.3, ap (λ (q : List ℕ). 46 ∷ b ∷ q) s.4))
      | false ↦ λ e k. absurd (misplaced_ends t k)
    ] refl h

point_or_mark : (b : ℕ) (t : List ℕ) → may_end (written (cond (b == 46) Point (cond (is_mark b) Mark Misplaced)) t) ≡ true → Ended (b ∷ t)
point_or_mark b t h =
    elim (b == 46) as (λ v. (b == 46) ≡ v → may_end (written (cond v Point (cond (is_mark b) Mark Misplaced)) t) ≡ true → Ended (b ∷ t)) [
      | true ↦ λ e k. subst (λ (x : ℕ). Ended (x ∷ t)) (sym (eqb-true b 46 e)) (point_rest t k)
      | false ↦ λ e k. elim (is_mark b) as (λ v. is_mark b ≡ v → may_end (written (cond v Mark Misplaced) t) ≡ true → Ended (b ∷ t)) [
        | true ↦ λ f l. ([], b ∷ t, inl refl, an_exponent b t f (mark_rest t l), refl)
        | false ↦ λ f l. absurd (misplaced_ends t l)
      ] refl k
    ] refl h

zero_rest : (t : List ℕ) → may_end (written Zero t) ≡ true → Ended t
zero_rest [] h = ([], [], inl refl, inl refl, refl)
zero_rest (b ∷ t) h = point_or_mark b t h

abbrev Whole' : List ℕ → Type 0
Whole' t = (ds f e : List ℕ) × AreDigits ds × IsFraction f × IsExponent e × (t ≡ ds ++ (f ++ e))

whole_rest : (t : List ℕ) → may_end (written Whole t) ≡ true → Whole' t
whole_rest [] h = ([], [], [], tt, inl refl, inl refl, refl)
whole_rest (b ∷ t) h =
    elim (is_digit b) as (λ v. is_digit b ≡ v → may_end (written (cond v Whole (cond (b == 46) Point (cond (is_mark b) Mark Misplaced))) t) ≡ true → Whole' (b ∷ t)) [
      | true ↦ λ e k. (let s = whole_rest t k in (b ∷ s.0, s.1, s.2, (e, s.3), s.4, s.5, ap (λ (q : List ℕ). b ∷ q) s.6))
      | false ↦ λ e k. (let s = point_or_mark b t k in ([], s.0, s.1, tt, s.2, s.3, s.4))
    ] refl h

not_zero : (b : ℕ) → (b == 48) ≡ false → is_digit b ≡ true → within 49 57 b ≡ true
not_zero b e h =
    let both : (leb 48 b ≡ true) × (leb b 57 ≡ true) = and_parts (leb 48 b) (leb b 57) h in
    let low : 48 ≤ b = leb-true 48 b both.0 in
    let ne : b ≡ 48 → ⊥ = eqb-false b 48 e in
    let low' : 49 ≤ b = omega arith in
    and_from (leb 49 b) (leb b 57) (le-leb 49 b low') both.1

abbrev Unsigned : List ℕ → Type 0
Unsigned t = (w f e : List ℕ) × IsWholePart w × IsFraction f × IsExponent e × (t ≡ w ++ (f ++ e))

unsigned : (b : ℕ) (t : List ℕ) → may_end (written (cond (b == 48) Zero (cond (is_digit b) Whole Misplaced)) t) ≡ true → Unsigned (b ∷ t)
unsigned b t h =
    elim (b == 48) as (λ v. (b == 48) ≡ v → may_end (written (cond v Zero (cond (is_digit b) Whole Misplaced)) t) ≡ true → Unsigned (b ∷ t)) [
      | true ↦ λ e k. (let s = zero_rest t k in (b ∷ [], s.0, s.1, inl (ap (λ (x : ℕ). x ∷ []) (eqb-true b 48 e)), s.2, s.3, ap (λ (q : List ℕ). b ∷ q) s.4))
      | false ↦ λ e k. elim (is_digit b) as (λ v. is_digit b ≡ v → may_end (written (cond v Whole Misplaced) t) ≡ true → Unsigned (b ∷ t)) [
        | true ↦ λ f l. (let s = whole_rest t l in (b ∷ s.0, s.1, s.2, inr (b, s.0, not_zero b e f, s.3, refl), s.4, s.5, ap (λ (q : List ℕ). b ∷ q) s.6))
        | false ↦ λ f l. absurd (misplaced_ends t l)
      ] refl k
    ] refl h

minus_rest : (t : List ℕ) → may_end (written Minus t) ≡ true → Unsigned t
minus_rest [] h = absurd (both_ways false refl h)
minus_rest (b ∷ t) h = unsigned b t h

pub is_number : (t : List ℕ) → may_end (written Nothing t) ≡ true → IsNumber t
is_number [] h = absurd (both_ways false refl h)
is_number (b ∷ t) h =
    elim (b == 45) as (λ v. (b == 45) ≡ v → may_end (written (cond v Minus (cond (b == 48) Zero (cond (is_digit b) Whole Misplaced))) t) ≡ true → IsNumber (b ∷ t)) [
      | true ↦ λ e k. (let s = minus_rest t k in (b ∷ [], s.0, s.1, s.2, inr (ap (λ (x : ℕ). x ∷ []) (eqb-true b 45 e)), s.3, s.4, s.5, ap (λ (q : List ℕ). b ∷ q) s.6))
      | false ↦ λ e k. (let s = unsigned b t k in ([], s.0, s.1, s.2, inl refl, s.3, s.4, s.5, s.6))
    ] refl h

-- ---- a number leads to what may end

digits_stay : (s : Last) → ((b : ℕ) → is_digit b ≡ true → then s b ≡ s) → (ds : List ℕ) → AreDigits ds → written s ds ≡ s
digits_stay s stay [] h = refl
digits_stay s stay (d ∷ ds) h = ap (λ (x : Last). written x ds) (stay d h.0) ∙ digits_stay s stay ds h.1

marked : (t : List ℕ) → Marked t → written Mark t ≡ Exponent
marked t m =
    let ends : (s : Last) → ((b : ℕ) → is_digit b ≡ true → then s b ≡ Exponent) → written s (m.1 ∷ m.2) ≡ Exponent
    = λ s to. ap (λ (x : Last). written x m.2) (to m.1 m.4) ∙ digits_stay Exponent (λ b h. on (is_digit b) Exponent Misplaced h) m.2 m.5 in
    elim m.3 [
      | inl e ↦ ap (written Mark) (m.6 ∙ ap (λ (q : List ℕ). q ++ m.1 ∷ m.2) e) ∙ ends Mark (λ b h. on (is_digit b) Exponent (cond (is_sign b) Sign Misplaced) h)
      | inr f ↦ elim f [
        | inl e ↦ ap (written Mark) (m.6 ∙ ap (λ (q : List ℕ). q ++ m.1 ∷ m.2) e) ∙ ends Sign (λ b h. on (is_digit b) Exponent Misplaced h)
        | inr e ↦ ap (written Mark) (m.6 ∙ ap (λ (q : List ℕ). q ++ m.1 ∷ m.2) e) ∙ ends Sign (λ b h. on (is_digit b) Exponent Misplaced h)
      ]
    ]

with_exponent : (s : Last) → then s 101 ≡ Mark → then s 69 ≡ Mark → may_end s ≡ true → (e : List ℕ) → IsExponent e → may_end (written s e) ≡ true
with_exponent s l u h e (inl k) = subst (λ (q : List ℕ). may_end (written s q) ≡ true) (sym k) h
with_exponent s l u h e (inr k) =
    let m : ℕ = k.0 in
    let t : List ℕ = k.1 ++ k.2 ∷ k.3 in
    let to : then s m ≡ Mark = elim (or_cases (eqb m 101) (eqb m 69) k.4)
    [ inl a ↦ ap (then s) (eqb-true m 101 a) ∙ l | inr a ↦ ap (then s) (eqb-true m 69 a) ∙ u ] in
    let end : written Mark t ≡ Exponent = marked t (k.1, k.2, k.3, k.5, k.6, k.7, refl) in
    subst (λ (q : List ℕ). may_end (written s q) ≡ true) (sym k.8) (ap (λ (x : Last). may_end (written x t)) to ∙ ap may_end end)

with_fraction : (s : Last) → then s 101 ≡ Mark → then s 69 ≡ Mark → then s 46 ≡ Point → may_end s ≡ true → (f e : List ℕ) → IsFraction f → IsExponent e → may_end (written s (f ++ e)) ≡ true
with_fraction s l u p h f e (inl k) x = subst (λ (q : List ℕ). may_end (written s (q ++ e)) ≡ true) (sym k) (with_exponent s l u h e x)
with_fraction s l u p h f e (inr k) x =
    let ds : List ℕ = k.1 in
    let first : written Point (k.0 ∷ ds) ≡ Fraction = ap (λ (y : Last). written y ds) (on (is_digit k.0) Fraction Misplaced k.2)
    ∙ digits_stay Fraction (λ b j. on (is_digit b) Fraction (cond (is_mark b) Mark Misplaced) j) ds k.3 in
    let all : written s (46 ∷ k.0 ∷ ds) ≡ Fraction = ap (λ (y : Last). written y (k.0 ∷ ds)) p ∙ first in
    subst (λ (q : List ℕ). may_end (written s (q ++ e)) ≡ true) (sym k.4)
    (ap may_end (written-append s (46 ∷ k.0 ∷ ds) e ∙ ap (λ (y : Last). written y e) all) ∙ with_exponent Fraction refl refl refl e x)

digit_not : (c d : ℕ) → within 49 57 d ≡ true → c < 49 → (d == c) ≡ false
digit_not c d h k =
    let low : 49 ≤ d = leb-true 49 d (and_parts (leb 49 d) (leb d 57) h).0 in
    ne_eqb d c (λ e. omega (arith, e))

whole_digit_is : (d : ℕ) → within 49 57 d ≡ true → is_digit d ≡ true
whole_digit_is d h =
    let both : (leb 49 d ≡ true) × (leb d 57 ≡ true) = and_parts (leb 49 d) (leb d 57) h in
    let low : 49 ≤ d = leb-true 49 d both.0 in
    let low' : 48 ≤ d = omega arith in
    and_from (leb 48 d) (leb d 57) (le-leb 48 d low') both.1

with_whole : (s : Last) → then s 48 ≡ Zero → ((d : ℕ) → within 49 57 d ≡ true → then s d ≡ Whole) → (w f e : List ℕ) → IsWholePart w → IsFraction f → IsExponent e → may_end (written s (w ++ (f ++ e))) ≡ true
with_whole s z d w f e (inl k) x y =
    subst (λ (q : List ℕ). may_end (written s (q ++ (f ++ e))) ≡ true) (sym k) (ap (λ (l : Last). may_end (written l (f ++ e))) z ∙ with_fraction Zero refl refl refl refl f e x y)
with_whole s z d w f e (inr k) x y =
    let ds : List ℕ = k.1 in
    let all : written s (k.0 ∷ ds) ≡ Whole = ap (λ (l : Last). written l ds) (d k.0 k.2)
    ∙ digits_stay Whole (λ b j. on (is_digit b) Whole (cond (b == 46) Point (cond (is_mark b) Mark Misplaced)) j) ds k.3 in
    subst (λ (q : List ℕ). may_end (written s (q ++ (f ++ e))) ≡ true) (sym k.4)
    (ap may_end (written-append s (k.0 ∷ ds) (f ++ e) ∙ ap (λ (l : Last). written l (f ++ e)) all) ∙ with_fraction Whole refl refl refl refl f e x y)

pub number_ends : (t : List ℕ) → IsNumber t → may_end (written Nothing t) ≡ true
number_ends t n =
    let rest : List ℕ = n.1 ++ (n.2 ++ n.3) in
    elim n.4 [
      | inl k ↦ ap (λ (q : List ℕ). may_end (written Nothing q)) (n.8 ∙ ap (λ (q : List ℕ). q ++ rest) k)
          ∙ with_whole Nothing refl (λ d h. off (d == 45) Minus (cond (d == 48) Zero (cond (is_digit d) Whole Misplaced)) Whole (digit_not 45 d h (omega arith)) (off (d == 48) Zero (cond (is_digit d) Whole Misplaced) Whole (digit_not 48 d h (omega arith)) (on (is_digit d) Whole Misplaced (whole_digit_is d h)))) n.1 n.2 n.3 n.5 n.6 n.7
      | inr k ↦ ap (λ (q : List ℕ). may_end (written Nothing q)) (n.8 ∙ ap (λ (q : List ℕ). q ++ rest) k)
          ∙ with_whole Minus refl (λ d h. off (d == 48) Zero (cond (is_digit d) Whole Misplaced) Whole (digit_not 48 d h (omega arith)) (on (is_digit d) Whole Misplaced (whole_digit_is d h))) n.1 n.2 n.3 n.5 n.6 n.7
    ]

-- ---- what may stand in a number

zero_is_digit : (b : ℕ) → is_digit b ≡ false → (b == 48) ≡ false
zero_is_digit b h = ne_eqb b 48 (λ e. both_ways (is_digit b) h (ap is_digit e))

pub not_in_number : (s : Last) (b : ℕ) → is_in_number b ≡ false → then s b ≡ Misplaced
not_in_number s b h =
    let d = or_parts (is_digit b) (is_sign b || ((b == 46) || is_mark b)) h in
    let g = or_parts (is_sign b) ((b == 46) || is_mark b) d.1 in
    let p = or_parts (b == 46) (is_mark b) g.1 in
    let minus : (b == 45) ≡ false = (or_parts (b == 43) (b == 45) g.0).1 in
    let zeros : (b == 48) ≡ false = zero_is_digit b d.0 in
    let whole : cond (b == 48) Zero (cond (is_digit b) Whole Misplaced) ≡ Misplaced = off (b == 48) Zero (cond (is_digit b) Whole Misplaced) Misplaced zeros (off (is_digit b) Whole Misplaced Misplaced d.0 refl) in
    let marks : cond (is_mark b) Mark Misplaced ≡ Misplaced = off (is_mark b) Mark Misplaced Misplaced p.1 refl in
    let points : cond (b == 46) Point (cond (is_mark b) Mark Misplaced) ≡ Misplaced = off (b == 46) Point (cond (is_mark b) Mark Misplaced) Misplaced p.0 marks in
    let exps : cond (is_digit b) Exponent Misplaced ≡ Misplaced = off (is_digit b) Exponent Misplaced Misplaced d.0 refl in
    elim s as (λ l. then l b ≡ Misplaced) [
      | Nothing ↦ off (b == 45) Minus (cond (b == 48) Zero (cond (is_digit b) Whole Misplaced)) Misplaced minus whole
      | Minus ↦ whole
      | Zero ↦ points
      | Whole ↦ off (is_digit b) Whole (cond (b == 46) Point (cond (is_mark b) Mark Misplaced)) Misplaced d.0 points
      | Point ↦ off (is_digit b) Fraction Misplaced Misplaced d.0 refl
      | Fraction ↦ off (is_digit b) Fraction (cond (is_mark b) Mark Misplaced) Misplaced d.0 marks
      | Mark ↦ off (is_digit b) Exponent (cond (is_sign b) Sign Misplaced) Misplaced d.0 (off (is_sign b) Sign Misplaced Misplaced g.0 refl)
      | Sign ↦ exps
      | Exponent ↦ exps
      | Misplaced ↦ refl
    ]

-- each begun number has an end
pub has_digits : (s : Last) → s ≢ Misplaced → (q : List ℕ) × (may_end (written s q) ≡ true)
has_digits Nothing h = (48 ∷ [], refl)
has_digits Minus h = (48 ∷ [], refl)
has_digits Zero h = ([], refl)
has_digits Whole h = ([], refl)
has_digits Point h = (48 ∷ [], refl)
has_digits Fraction h = ([], refl)
has_digits Mark h = (48 ∷ [], refl)
has_digits Sign h = (48 ∷ [], refl)
has_digits Exponent h = ([], refl)
has_digits Misplaced h = absurd (h refl)

-- a byte that stands in a begun number is one of a number's
pub in_number : (s : Last) (p : List ℕ) (b : ℕ) (q : List ℕ) → written s (p ++ b ∷ q) ≢ Misplaced → is_in_number b ≡ true
in_number s p b q h =
    elim (is_in_number b) as (λ v. is_in_number b ≡ v → v ≡ true) [
      | true ↦ λ e. refl
      | false ↦ λ e. absurd (h (written-append s p (b ∷ q) ∙ ap (λ (l : Last). written l q) (not_in_number (written s p) b e) ∙ written-misplaced q))
    ] refl

pub ends_placed : (s : Last) → may_end s ≡ true → s ≢ Misplaced
ends_placed s h e = both_ways (may_end s) (ap may_end e) h

-- where a number stops with a byte, a number that goes on so has ended before it
pub number_stuck : (s : Last) (p : List ℕ) (b : ℕ) (rest m r : List ℕ) → then (written s p) b ≡ Misplaced → may_end (written s m) ≡ true
    → p ++ b ∷ rest ≡ m ++ r → (q : List ℕ) × (p ≡ m ++ q) × (r ≡ q ++ b ∷ rest)
number_stuck s p b rest [] r h k e = (p, refl, sym e)
number_stuck s [] b rest (c ∷ m) r h k e =
    let first : b ≡ c = cc in
    let to : then s c ≡ Misplaced = subst (λ (x : ℕ). then s x ≡ Misplaced) first h in
    absurd (misplaced_ends m (subst (λ (l : Last). may_end (written l m) ≡ true) to k))
number_stuck s (d ∷ p) b rest (c ∷ m) r h k e =
    let first : d ≡ c = cc in
    let others : p ++ b ∷ rest ≡ m ++ r = cc in
    let k' : may_end (written (then s d) m) ≡ true = subst (λ (x : ℕ). may_end (written (then s x) m) ≡ true) (sym first) k in
    let i : (q : List ℕ) × (p ≡ m ++ q) × (r ≡ q ++ b ∷ rest) = number_stuck (then s d) p b rest m r h k' others in
    (i.0, (let j : p ≡ m ++ i.0 = i.1 in cc), i.2)
