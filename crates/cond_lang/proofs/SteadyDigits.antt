-- Digits are steady.
use Rattle.std.proofs.Common.{◌≡◌, ℕ, zero, suc, ◌+◌, ◌<◌, Bool, true, false, IsTrue, ◌==◌, ◌||◌, ◌&&◌, nat_lt, if◌then◌else◌, List, [], ◌∷◌, ◌++◌, length, refl, sym, ◌∙◌, ap, subst, arith, lt-ltb}
use Rattle.std.proofs.lemmas.List.{length-append}
use Rattle.std.specs.Char.{is_ascii_digit}
use Rattle.exact_dec.specs.Computed.{prefix_digits, after_digits}
use Rattle.cond_lang.specs.declared.error.CondError.TheVariants.{Bad}
use Rattle.cond_lang.specs.Found.{Found, read, fault, and_then, place, stuck}
use Rattle.cond_lang.specs.Signs.{is_letter, is_digit, is_in_name}
use Rattle.cond_lang.specs.UnitNumbers.{digits, are_zeros}
use Rattle.cond_lang.proofs.Follows.{EndsValue, Begins, Anything}
use Rattle.cond_lang.proofs.Steady.{Reader, Next, OpensTo, Steady, barred_at_once}
use Rattle.cond_lang.proofs.SteadyForms.{Eating, Other, other_next, not_read, no_fault, stuck_place, read_value, read_rest}

-- ---- what ends the digits, the point and the power

abbrev pub goes : ℕ → Bool
goes c = is_ascii_digit c || ((c == 46) || ((c == 101) || (c == 69)))

abbrev pub Stops : List ℕ → Type 0
Stops z = Other goes z

none_left : (a b : Bool) → (a || b) ≡ false → a ≡ false
none_left true b h = absurd (grind (arith, h))
none_left false b h = refl

none_right : (a b : Bool) → (a || b) ≡ false → b ≡ false
none_right true b h = absurd (grind (arith, h))
none_right false b h = h

stops_digit : (z : List ℕ) → Stops z → Other is_ascii_digit z
stops_digit [] h = tt
stops_digit (c ∷ cs) h = none_left (is_ascii_digit c) ((c == 46) || ((c == 101) || (c == 69))) h

pub stops_point : (z : List ℕ) → Stops z → Other (λ c. c == 46) z
stops_point [] h = tt
stops_point (c ∷ cs) h = none_left (c == 46) ((c == 101) || (c == 69)) (none_right (is_ascii_digit c) ((c == 46) || ((c == 101) || (c == 69))) h)

pub stops_power : (z : List ℕ) → Stops z → Other (λ c. (c == 101) || (c == 69)) z
stops_power [] h = tt
stops_power (c ∷ cs) h = none_right (c == 46) ((c == 101) || (c == 69)) (none_right (is_ascii_digit c) ((c == 46) || ((c == 101) || (c == 69))) h)

-- this byte is none of those
not_byte : (P : ℕ → Bool) (b c : ℕ) → P b ≡ true → P c ≡ false → (c == b) ≡ false
not_byte P b c p h = by_test (c == b) refl
  where
    by_test : (t : Bool) → (c == b) ≡ t → (c == b) ≡ false
    by_test true e = let same : c ≡ b = grind (arith, e) in let k : P b ≡ false = subst (λ y. P y ≡ false) same h in absurd (grind (arith, k, p))
    by_test false e = e

ends_name : (c : ℕ) (cs : List ℕ) → EndsValue (c ∷ cs) → (is_in_name c || (c == 46)) ≡ false
ends_name c cs h = by_test (is_in_name c || (c == 46)) refl
  where
    by_test : (t : Bool) → (is_in_name c || (c == 46)) ≡ t → (is_in_name c || (c == 46)) ≡ false
    by_test true e = let k : false ≡ true = sym (ap (λ b. if b then false else true) e) ∙ h in absurd (grind (arith, k))
    by_test false e = e

pub ends_byte : (b : ℕ) → is_in_name b ≡ true → (z : List ℕ) → EndsValue z → Other (λ c. c == b) z
ends_byte b p [] h = tt
ends_byte b p (c ∷ cs) h = not_byte is_in_name b c p (none_left (is_in_name c) (c == 46) (ends_name c cs h))

no_digit : (c : ℕ) → is_digit c ≡ false → is_ascii_digit c ≡ false
no_digit c h = by_test (is_ascii_digit c) refl
  where
    by_test : (t : Bool) → is_ascii_digit c ≡ t → is_ascii_digit c ≡ false
    by_test true e = absurd (grind (arith, h, e))
    by_test false e = e

none_of : (a b c d : Bool) → a ≡ false → b ≡ false → c ≡ false → d ≡ false → (a || (b || (c || d))) ≡ false
none_of a b c d e f g h = rw e (rw f (rw g h))

pub ends_stops : (z : List ℕ) → EndsValue z → Stops z
ends_stops [] h = tt
ends_stops (c ∷ cs) h =
    let both = ends_name c cs h in
    let word = none_left (is_in_name c) (c == 46) both in
    none_of (is_ascii_digit c) (c == 46) (c == 101) (c == 69)
    (no_digit c (none_right (is_letter c) (is_digit c) word)) (none_right (is_in_name c) (c == 46) both) (not_byte is_in_name 101 c refl word) (not_byte is_in_name 69 c refl word)

pub begins_stops : (z : List ℕ) → Begins 109 z → Stops z
begins_stops z h = subst Stops (sym h.1) refl

-- ---- digits

abbrev AreDigits : List ℕ → Type 0
AreDigits [] = Unit {0}
AreDigits (c ∷ cs) = IsTrue (is_ascii_digit c) × AreDigits cs

split_digits : (text : List ℕ) → text ≡ prefix_digits text ++ after_digits text
split_digits [] = refl
split_digits (c ∷ cs) = by_test (split_digits cs) (is_ascii_digit c) refl
  where
    by_test : cs ≡ prefix_digits cs ++ after_digits cs → (b : Bool) → is_ascii_digit c ≡ b → c ∷ cs ≡ prefix_digits (c ∷ cs) ++ after_digits (c ∷ cs)
    by_test h true e = rw e (ap (λ y. c ∷ y) h)
    by_test h false e = rw e refl

prefix_are_digits : (text : List ℕ) → AreDigits (prefix_digits text)
prefix_are_digits [] = tt
prefix_are_digits (c ∷ cs) = by_test (prefix_are_digits cs) (is_ascii_digit c) refl
  where
    by_test : AreDigits (prefix_digits cs) → (b : Bool) → is_ascii_digit c ≡ b → AreDigits (prefix_digits (c ∷ cs))
    by_test h true e = subst AreDigits (sym (ap (λ b. if b then (c ∷ prefix_digits cs) else []) e)) (e, h)
    by_test h false e = subst AreDigits (sym (ap (λ b. if b then (c ∷ prefix_digits cs) else []) e)) tt

after_digits_other : (text : List ℕ) → Other is_ascii_digit (after_digits text)
after_digits_other [] = tt
after_digits_other (c ∷ cs) = by_test (after_digits_other cs) (is_ascii_digit c) refl
  where
    by_test : Other is_ascii_digit (after_digits cs) → (b : Bool) → is_ascii_digit c ≡ b → Other is_ascii_digit (after_digits (c ∷ cs))
    by_test h true e = subst (Other is_ascii_digit) (sym (ap (λ b. if b then after_digits cs else (c ∷ cs)) e)) h
    by_test h false e = subst (Other is_ascii_digit) (sym (ap (λ b. if b then after_digits cs else (c ∷ cs)) e)) e

prefix_digits_of : (w r : List ℕ) → AreDigits w → Other is_ascii_digit r → prefix_digits (w ++ r) ≡ w
prefix_digits_of [] [] a s = refl
prefix_digits_of [] (c ∷ cs) a s = ap (λ b. if b then (c ∷ prefix_digits cs) else []) s
prefix_digits_of (c ∷ cs) r a s = ap (λ b. if b then (c ∷ prefix_digits (cs ++ r)) else []) a.0 ∙ ap (λ y. c ∷ y) (prefix_digits_of cs r a.1 s)

after_digits_of : (w r : List ℕ) → AreDigits w → Other is_ascii_digit r → after_digits (w ++ r) ≡ r
after_digits_of [] [] a s = refl
after_digits_of [] (c ∷ cs) a s = ap (λ b. if b then after_digits cs else (c ∷ cs)) s
after_digits_of (c ∷ cs) r a s = ap (λ b. if b then after_digits (cs ++ r) else (c ∷ cs ++ r)) a.0 ∙ after_digits_of cs r a.1 s

next_no_digit : (text r z : List ℕ) → after_digits text ≡ r → Next Stops r z → Other is_ascii_digit z
next_no_digit text r z e next = other_next is_ascii_digit Stops r z (stops_digit z) (subst (Other is_ascii_digit) e (after_digits_other text)) next

digits_of : (n : ℕ) (w z : List ℕ) → AreDigits w → nat_lt 0 (length w) ≡ true → Other is_ascii_digit z → digits n (w ++ z) ≡ read w z
digits_of n w z a some o =
    ap (λ b. if b then read (prefix_digits (w ++ z)) (after_digits (w ++ z)) else stuck n (w ++ z)) (ap (λ y. nat_lt 0 (length y)) (prefix_digits_of w z a o) ∙ some)
    ∙ ap (λ y. read y (after_digits (w ++ z))) (prefix_digits_of w z a o) ∙ ap (read w) (after_digits_of w z a o)

abbrev DigitsRead : List ℕ → List ℕ → List ℕ → Type 0
DigitsRead u a r = (prefix_digits u ≡ a) × (after_digits u ≡ r) × (nat_lt 0 (length (prefix_digits u)) ≡ true)

digits_back : (n : ℕ) (u a r : List ℕ) → digits n u ≡ read a r → DigitsRead u a r
digits_back n u a r h = by_test (nat_lt 0 (length (prefix_digits u))) refl
  where
    by_test : (b : Bool) → nat_lt 0 (length (prefix_digits u)) ≡ b → DigitsRead u a r
    by_test true e =
        let k : read (prefix_digits u) (after_digits u) ≡ read a r = sym (ap (λ b. if b then read (prefix_digits u) (after_digits u) else stuck n u) e) ∙ h in
        (read_value (prefix_digits u) a (after_digits u) r k, read_rest (prefix_digits u) a (after_digits u) r k, e)
    by_test false e = not_read (Bad (place n u)) a r (sym (ap (λ b. if b then read (prefix_digits u) (after_digits u) else stuck n u) e) ∙ h)

pub digits_shorten : (n : ℕ) (u a r : List ℕ) → digits n u ≡ read a r → length r < length u
digits_shorten n u a r h =
    let b = digits_back n u a r h in
    let l : length u ≡ length (prefix_digits u) + length (after_digits u) = ap length (split_digits u) ∙ length-append (prefix_digits u) (after_digits u) in
    let s : length (after_digits u) ≡ length r = ap length b.1 in
    let p : 0 < length (prefix_digits u) = some (length (prefix_digits u)) b.2 in
    omega (arith, l, s, p)
  where
    some : (n : ℕ) → nat_lt 0 n ≡ true → 0 < n
    some zero e = absurd (grind (arith, e))
    some (suc n) e = omega arith

digits_none : (n c : ℕ) (z : List ℕ) → is_ascii_digit c ≡ false → digits n (c ∷ z) ≡ stuck n (c ∷ z)
digits_none n c z e =
    ap (λ b. if nat_lt 0 (length (if b then (c ∷ prefix_digits z) else [])) then read (if b then (c ∷ prefix_digits z) else []) (if b then after_digits z else (c ∷ z)) else stuck n (c ∷ z)) e

digits_lost : (n : ℕ) (u : List ℕ) (k : ℕ) → digits n u ≡ fault (Bad k) → k ≡ place n u
digits_lost n u k h = by_test (nat_lt 0 (length (prefix_digits u))) refl
  where
    by_test : (b : Bool) → nat_lt 0 (length (prefix_digits u)) ≡ b → k ≡ place n u
    by_test true e = no_fault (Bad k) (prefix_digits u) (after_digits u) (sym (ap (λ b. if b then read (prefix_digits u) (after_digits u) else stuck n u) e) ∙ h)
    by_test false e = stuck_place {A = List ℕ} n k u (sym (ap (λ b. if b then read (prefix_digits u) (after_digits u) else stuck n u) e) ∙ h)

digits_other : (n : ℕ) (c : ℕ) (s : List ℕ) (k : ℕ) → digits n (c ∷ s) ≡ fault (Bad k) → is_ascii_digit c ≡ false
digits_other n c s k h = by_test (is_ascii_digit c) refl
  where
    by_test : (b : Bool) → is_ascii_digit c ≡ b → is_ascii_digit c ≡ false
    by_test false e = e
    by_test true e =
        no_fault (Bad k) (c ∷ prefix_digits s) (after_digits s)
        (sym (ap (λ b. if nat_lt 0 (length (if b then (c ∷ prefix_digits s) else [])) then read (if b then (c ∷ prefix_digits s) else []) (if b then after_digits s else (c ∷ s)) else stuck n (c ∷ s)) e
        ∙ ap (λ b. if b then read (c ∷ prefix_digits s) (after_digits s) else stuck n (c ∷ s)) (lt-ltb 0 (length (c ∷ prefix_digits s)) (omega arith))) ∙ h)

abbrev pub some_digits : Reader (List ℕ)
some_digits e u = digits e.0 u

-- any digits; and whether all digits so far are 0
abbrev pub more_digits : Bool → Reader Bool
more_digits zeros e u = read (zeros && are_zeros (prefix_digits u)) (after_digits u)

module _ {B : Type 0} (P : Found B → Type 0) (Spoils : ℕ → List ℕ → ℕ → Type 0) where
  digits_open : OpensTo P Spoils some_digits Anything Stops (Begins 48)
  digits_open K ends =
      let o = ends (48 ∷ []) tt in
      (48 ∷ o.0, (o.0, refl), λ e. subst P (sym (ap (λ y. and_then y (K e)) (digits_of e.0 (48 ∷ []) o.0 (refl, tt) refl (stops_digit o.0 o.1)))) (o.2 e))

  digits_steady : Steady P Spoils some_digits Anything Stops (Begins 48)
  digits_steady = record {
    reads = λ e u a r h. tt;
    kept = λ e u a r h. let b = digits_back e.0 u a r h in (
      prefix_digits u,
      split_digits u ∙ ap (λ y. prefix_digits u ++ y) b.1,
      λ d z next. digits_of d.0 (prefix_digits u) z (prefix_are_digits u) b.2 (next_no_digit u r z b.1 next) ∙ ap (λ y. read y z) b.0,
    );
    barred = λ e u k h. barred_at_once P Spoils some_digits Anything Stops (Begins 48) e.0 u k digits_open (digits_lost e.0 u k h)
        (λ c s eq d z. digits_none d.0 c z (digits_other e.0 c s k (subst (λ y. digits e.0 y ≡ fault (Bad k)) eq h)));
    opens = digits_open;
  }

  pub digits_eating : Eating P Spoils some_digits Anything Stops (Begins 48)
  digits_eating = record { steady = digits_steady; eats = λ e u a h. let k = digits_shorten e.0 u a u h in omega (arith, k) }

  pub more_digits_steady : (zeros : Bool) → Steady P Spoils (more_digits zeros) Anything Stops Stops
  more_digits_steady zeros = record {
    reads = λ e u a r h. tt;
    kept = λ e u a r h.
        let value = read_value (zeros && are_zeros (prefix_digits u)) a (after_digits u) r h in
        let rest = read_rest (zeros && are_zeros (prefix_digits u)) a (after_digits u) r h in (
          prefix_digits u,
          split_digits u ∙ ap (λ y. prefix_digits u ++ y) rest,
          λ d z next.
              let o = next_no_digit u r z rest next in
              ap (λ y. read (zeros && are_zeros y) (after_digits (prefix_digits u ++ z))) (prefix_digits_of (prefix_digits u) z (prefix_are_digits u) o)
              ∙ ap (read (zeros && are_zeros (prefix_digits u))) (after_digits_of (prefix_digits u) z (prefix_are_digits u) o) ∙ ap (λ y. read y z) value,
        );
    barred = λ e u k h. no_fault (Bad k) (zeros && are_zeros (prefix_digits u)) (after_digits u) h;
    opens = λ K ends. let o = ends (zeros && true) tt in (
      o.0,
      o.1,
      λ e. subst P (sym (ap (λ y. K e (zeros && are_zeros y) (after_digits o.0)) (prefix_digits_of [] o.0 tt (stops_digit o.0 o.1))
          ∙ ap (K e (zeros && true)) (after_digits_of [] o.0 tt (stops_digit o.0 o.1)))) (o.2 e),
    );
  }
