-- A length that is read looks one byte ahead, and one that is refused is out of range or stuck.
use Rattle.std.proofs.Common.{◌≡◌, ◌⊎◌, inl, inr, ℕ, ◌+◌, ◌-◌, ◌≤◌, Bool, true, false, ◌||◌, int_lt, if◌then◌else◌, List, [], ◌∷◌, ◌++◌, length, take, ℤ, pos, refl, sym, ◌∙◌, ap, subst, arith}
use Rattle.std.specs.Prelude.{Result, Ok, Err}
use Rattle.std.proofs.lemmas.List.{append-nil, length-append}
use Rattle.exact_dec.specs.declared.DecError.{DecError}
use Rattle.exact_dec.specs.Computed.{after_sign, with_unit_answer, parts_of}
use Rattle.cond_lang.specs.declared.error.CondError.TheVariants.{Bad}
use Rattle.cond_lang.specs.Found.{Found, read, fault, and_then, place, stuck}
use Rattle.cond_lang.specs.UnitNumbers.{mantissa, power, unit, spelled, in_range, measure}
use Rattle.cond_lang.specs.ConditionPrefixes.{LengthGoesOn, IsFirstOfLength, IsOutOfRange, IsRefusedLength}
use Rattle.cond_lang.proofs.Steps.{then_read, then_fault}
use Rattle.cond_lang.proofs.Blanks.{then_back}
use Rattle.cond_lang.proofs.Follows.{EndsValue, Begins, Anything}
use Rattle.cond_lang.proofs.Shrinking.{Shrinks, sign_shorter, power_shrinks, unit_shrinks}
use Rattle.cond_lang.proofs.Steady.{bad_error, KeptAt, OnwardFrom, BarredAt, Steady}
use Rattle.cond_lang.proofs.SteadyForms.{not_read, no_fault, stuck_place, read_value, read_rest}
use Rattle.cond_lang.proofs.SteadyParts.{numbers, mantissa_shorten, spelled_steady}

-- a number and nothing behind it
abbrev Whole : Found (Unit {0}) → Type 0
Whole found = found ≡ read tt []

abbrev Never : ℕ → List ℕ → ℕ → Type 0
Never n v k = ⊥

number_steady : Steady Whole Never numbers Anything EndsValue (Begins 48)
number_steady = spelled_steady Whole Never

-- ---- what is left of a text at its end

prefix_whole : (w z : List ℕ) → take (length (w ++ z) - length z) (w ++ z) ≡ w
prefix_whole w z =
    let l = length-append w z in
    let n : length (w ++ z) - length z ≡ length w = omega (arith, l) in
    ap (λ m. take m (w ++ z)) n ∙ prefix w
  where
    prefix : (w : List ℕ) → take (length w) (w ++ z) ≡ w
    prefix [] = refl
    prefix (c ∷ w) = ap (λ y. c ∷ y) (prefix w)

-- ---- the range

abbrev beyond : ℤ → Bool
beyond nm = int_lt nm (pos 0) || int_lt (pos 500000000) nm

in_range_back : (n : ℕ) (u rest : List ℕ) (x : Result ℤ DecError) (nm : ℤ) (r : List ℕ) → in_range n u rest x ≡ read nm r → (rest ≡ r) × ((m : ℕ) (v z : List ℕ) → in_range m v z x ≡ read nm z)
in_range_back n u rest (Err e) nm r h = not_read (Bad (place n u)) nm r h
in_range_back n u rest (Ok k) nm r h = by_test (beyond k) refl
  where
    by_test : (b : Bool) → beyond k ≡ b → (rest ≡ r) × ((m : ℕ) (v z : List ℕ) → in_range m v z (Ok k) ≡ read nm z)
    by_test true e = not_read (Bad (place n u)) nm r (sym (ap (λ b. if b then stuck n u else read k rest) e) ∙ h)
    by_test false e =
        let same : read k rest ≡ read nm r = sym (ap (λ b. if b then stuck n u else read k rest) e) ∙ h in
        (read_rest k nm rest r same, λ m v z. ap (λ b. if b then stuck m v else read k z) e ∙ ap (λ y. read y z) (read_value k nm rest r same))

in_range_lost : (n : ℕ) (u rest : List ℕ) (x : Result ℤ DecError) (k : ℕ) → in_range n u rest x ≡ fault (Bad k) → (k ≡ place n u) × IsOutOfRange x
in_range_lost n u rest (Err e) k h = (stuck_place {A = ℤ} n k u h, tt)
in_range_lost n u rest (Ok nm) k h = by_test (beyond nm) refl
  where
    by_test : (b : Bool) → beyond nm ≡ b → (k ≡ place n u) × (beyond nm ≡ true)
    by_test true e = (stuck_place {A = ℤ} n k u (sym (ap (λ b. if b then stuck n u else read nm rest) e) ∙ h), e)
    by_test false e = no_fault (Bad k) nm rest (sym (ap (λ b. if b then stuck n u else read nm rest) e) ∙ h)

-- ---- what is read

abbrev Answered : ℕ → List ℕ → List ℕ → Found ℤ
Answered n u rest = in_range n u rest (with_unit_answer (take (length u - length rest) u))

abbrev InParts : ℕ → List ℕ → ℤ → List ℕ → Type 0
InParts n u nm r = (spelled n u ≡ read tt r) × (Answered n u r ≡ read nm r)

measure_in_parts : (n : ℕ) (u : List ℕ) (nm : ℤ) (r : List ℕ) → measure n u ≡ read nm r → InParts n u nm r
unfolding measure
measure_in_parts n u nm r h =
    let b = then_back (spelled n u) (λ _ rest. Answered n u rest) nm r h in
    let same = (in_range_back n u b.1 (with_unit_answer (take (length u - length b.1) u)) nm r b.3).0 in
    (subst (λ y. spelled n u ≡ read tt y) same b.2, subst (λ y. Answered n u y ≡ read nm r) same b.3)

measure_of_parts : (n : ℕ) (w z : List ℕ) (nm : ℤ) → spelled n (w ++ z) ≡ read tt z → in_range n (w ++ z) z (with_unit_answer w) ≡ read nm z → measure n (w ++ z) ≡ read nm z
unfolding measure
measure_of_parts n w z nm s h =
    then_read (spelled n (w ++ z)) (λ _ rest. Answered n (w ++ z) rest) tt z (read nm z) s (ap (λ y. in_range n (w ++ z) z (with_unit_answer y)) (prefix_whole w z) ∙ h)

pub measure_kept : (e : ℕ × List ℕ) (u : List ℕ) (nm : ℤ) (r : List ℕ) → measure e.0 u ≡ read nm r → KeptAt (λ d. measure d.0) EndsValue u nm r
measure_kept e u nm r h =
    let p = measure_in_parts e.0 u nm r h in
    let k = number_steady.kept e u tt r p.0 in
    let value : in_range e.0 u r (with_unit_answer k.0) ≡ read nm r =
    ap (λ y. in_range e.0 u r (with_unit_answer y)) (sym (prefix_whole k.0 r) ∙ ap (λ y. take (length y - length r) y) (sym k.1)) ∙ p.1 in
    (k.0, k.1, λ d z next. measure_of_parts d.0 k.0 z nm (k.2 d z next) ((in_range_back e.0 u r (with_unit_answer k.0) nm r value).1 d.0 (k.0 ++ z) z))

zero_alone : (n : ℕ) → measure n (48 ∷ []) ≡ read (pos 0) []
unfolding measure spelled mantissa power unit with_unit_answer parts_of
zero_alone n = refl

pub measure_zero : (n : ℕ) (z : List ℕ) → EndsValue z → measure n (48 ∷ z) ≡ read (pos 0) z
measure_zero n z ends =
    let k = measure_kept (n, []) (48 ∷ []) (pos 0) [] (zero_alone n) in
    let w : k.0 ≡ 48 ∷ [] = sym (append-nil k.0) ∙ sym k.1 in
    subst (λ y. measure n (y ++ z) ≡ read (pos 0) z) w (k.2 (n, []) z (inl ends))

spelled_eats : (n : ℕ) (u : List ℕ) → spelled n u ≡ read tt u → ⊥
unfolding spelled
spelled_eats n u h =
    let a = then_back (mantissa n (after_sign u)) (λ zeros rest. and_then (power n rest) (λ _ behind. unit n zeros behind)) tt u h in
    let b = then_back (power n a.1) (λ _ behind. unit n a.0 behind) tt u a.3 in
    let one = mantissa_shorten n (after_sign u) a.0 a.1 a.2 in
    let two : length b.1 ≤ length a.1 = subst (λ f. Shrinks f a.1) b.2 (power_shrinks n a.1) in
    let three : length u ≤ length b.1 = subst (λ f. Shrinks f b.1) b.3 (unit_shrinks n a.0 b.1) in
    let four = sign_shorter u in
    omega (arith, one, two, three, four)

pub measure_eats : (n : ℕ) (u : List ℕ) (nm : ℤ) → measure n u ≡ read nm u → ⊥
measure_eats n u nm h = spelled_eats n u (measure_in_parts n u nm u h).0

-- ---- where one is refused

abbrev Refused : ℕ → List ℕ → ℕ → Type 0
Refused n u k = ((k ≡ place n u) × IsRefusedLength u) ⊎ ((j : ℕ) × (k ≡ place n u + j) × IsFirstOfLength u j)

refused_whole : (n : ℕ) (u r : List ℕ) (k : ℕ) → spelled n u ≡ read tt r → Answered n u r ≡ fault (Bad k) → Refused n u k
refused_whole n u r k s h =
    let p = number_steady.kept (n, []) u tt r s in
    let lost = in_range_lost n u r (with_unit_answer (take (length u - length r) u)) k h in
    let prefix : take (length u - length r) u ≡ p.0 = ap (λ y. take (length y - length r) y) p.1 ∙ prefix_whole p.0 r in
    inl (lost.0, (p.0, r, p.1, subst (λ y. spelled (length p.0) y ≡ read tt []) (append-nil p.0) (p.2 (length p.0, []) [] (inl refl)), subst (λ y. IsOutOfRange (with_unit_answer y)) prefix lost.1))

as_it_is : (x : Found (Unit {0})) → and_then x (λ a z. read tt z) ≡ x
as_it_is (read a r) = refl
as_it_is (fault e) = refl

goes_on : (u w : List ℕ) → OnwardFrom Whole Never numbers Anything EndsValue (Begins 48) u w → LengthGoesOn w
goes_on u w on =
    let o = on (λ e a z. read tt z) (λ a q. ([], refl, λ e. refl)) in
    (o.0, sym (as_it_is (spelled (length (w ++ o.0)) (w ++ o.0))) ∙ o.2 (length (w ++ o.0), []))

barred_there : (w : List ℕ) (c : ℕ) (more : List ℕ) → ((n : ℕ) → spelled n (w ++ (c ∷ more)) ≡ stuck n (c ∷ more)) → measure (length (w ++ (c ∷ more))) (w ++ (c ∷ more)) ≡ fault (Bad (length w))
unfolding measure
barred_there w c more h =
    let n = length (w ++ (c ∷ more)) in
    let l = length-append w (c ∷ more) in
    let at : place (length (w ++ (c ∷ more))) (c ∷ more) ≡ length w = omega (arith, l) in
    then_fault (spelled n (w ++ (c ∷ more))) (λ _ rest. Answered n (w ++ (c ∷ more)) rest) (Bad (place n (c ∷ more))) (h n) ∙ ap (λ y. fault (Bad y)) at

refused_part : (n : ℕ) (u : List ℕ) (k : ℕ) → length u ≤ n → BarredAt Whole Never numbers Anything EndsValue (Begins 48) n u k → Refused n u k
refused_part n u k small (w, v, eq, inr never, on) = absurd never
refused_part n u k small (w, v, eq, inl m, on) =
    let l : length u ≡ length w + length v = ap length eq ∙ length-append w v in
    let at = m.0 in
    inr (length w, omega (arith, l, small, at), (w, v, eq, refl, goes_on u w on, λ c cs same more. barred_there w c more (λ n. m.1 c cs same (n, []) more)))

pub measure_barred : (n : ℕ) (u : List ℕ) (k : ℕ) → length u ≤ n → measure n u ≡ fault (Bad k)
    → ((k ≡ place n u) × IsRefusedLength u) ⊎ ((j : ℕ) × (k ≡ place n u + j) × IsFirstOfLength u j)
unfolding measure
measure_barred n u k small h = by_first (spelled n u) refl h
  where
    by_first : (x : Found (Unit {0})) → spelled n u ≡ x → and_then x (λ _ rest. Answered n u rest) ≡ fault (Bad k) → Refused n u k
    by_first (read a r) s i = refused_whole n u r k s i
    by_first (fault x) s i = refused_part n u k small (number_steady.barred (n, []) u k (s ∙ ap fault (bad_error {A = ℤ} x k i)))
