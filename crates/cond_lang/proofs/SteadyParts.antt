-- The parts of a number are steady, and so is a number of which no value is taken.
use Rattle.std.proofs.Common.{◌≡◌, ◌⊎◌, inl, inr, ℕ, ◌≤◌, ◌<◌, Bool, true, false, ◌==◌, ◌||◌, if◌then◌else◌, List, [], ◌∷◌, length, refl, sym, ◌∙◌, ap, subst, arith}
use Rattle.exact_dec.specs.Computed.{after_sign}
use Rattle.cond_lang.specs.declared.error.CondError.TheVariants.{Bad}
use Rattle.cond_lang.specs.Found.{Found, read, and_then, place, stuck, byte}
use Rattle.cond_lang.specs.UnitNumbers.{digits, are_zeros, fraction, mantissa, power, metric, unit, spelled}
use Rattle.cond_lang.proofs.Blanks.{then_back}
use Rattle.cond_lang.proofs.Follows.{EndsValue, Begins, Anything}
use Rattle.cond_lang.proofs.Shrinking.{Shrinks, sign_shorter, fraction_shrinks}
use Rattle.cond_lang.proofs.Steady.{Reader, Eats, both, OpensTo, Steady, both_steady}
use Rattle.cond_lang.proofs.SteadyForms.{turn, Other, not_read, read_rest, same_steady, wider, pure_steady, turn_steady, Eating, both_eating, map_eating, Chosen, StuckWith, chosen_as, choice_eating}
use Rattle.cond_lang.proofs.SteadySigns.{sign, sign_eating, chosen_behind}
use Rattle.cond_lang.proofs.SteadyDigits.{Stops, stops_point, stops_power, ends_byte, ends_stops, begins_stops, digits_shorten, some_digits, more_digits, digits_eating, more_digits_steady}

abbrev is_point : ℕ → Bool
is_point c = c == 46

abbrev is_power : ℕ → Bool
is_power c = (c == 101) || (c == 69)

abbrev is_sign : ℕ → Bool
is_sign c = (c == 43) || (c == 45)

abbrev is_byte : ℕ → ℕ → Bool
is_byte b c = c == b

abbrev end : {A : Type 0} → A → Reader A
end a e u = read a u

abbrev nothing : Reader (Unit {0})
nothing e u = read tt u

abbrev fractions : Bool → Reader Bool
fractions zeros e u = fraction zeros u

abbrev mantissas : Reader Bool
mantissas e u = mantissa e.0 u

abbrev powers : Reader (Unit {0})
powers e u = power e.0 u

abbrev metrics : Reader (Unit {0})
metrics e u = metric e.0 u

abbrev units : Bool → Reader (Unit {0})
units zeros e u = unit e.0 zeros u

abbrev signed : {A : Type 0} → Reader A → Reader A
signed g e u = g e (after_sign u)

-- digits of which nothing is kept
abbrev exponent : Reader (Unit {0})
exponent = both some_digits (λ ds. nothing)

abbrev lone : Reader Bool
lone = both some_digits (λ ds. end (are_zeros ds))

abbrev pointed : Reader Bool
pointed = both some_digits (λ ds. fractions (are_zeros ds))

abbrev tails : Bool → Reader (Unit {0})
tails zeros = both powers (λ u. units zeros)

abbrev pub numbers : Reader (Unit {0})
numbers e u = spelled e.0 u

-- ---- each is a turn

fraction_same : (zeros : Bool) (e : ℕ × List ℕ) (u : List ℕ) → fractions zeros e u ≡ turn is_point (more_digits zeros) (end zeros) e u
fraction_same zeros e [] = refl
fraction_same zeros e (c ∷ cs) = refl

mantissa_same : (e : ℕ × List ℕ) (u : List ℕ) → mantissas e u ≡ turn is_point lone pointed e u
unfolding mantissa
mantissa_same e [] = refl
mantissa_same e (c ∷ cs) = refl

power_same : (e : ℕ × List ℕ) (u : List ℕ) → powers e u ≡ turn is_power (signed exponent) nothing e u
unfolding power
power_same e [] = refl
power_same e (c ∷ cs) = refl

unit_same : (e : ℕ × List ℕ) (u : List ℕ) → units true e u ≡ turn (is_byte 109) metrics (turn (is_byte 105) (sign 110) nothing) e u
unfolding unit
unit_same e [] = refl
unit_same e (c ∷ cs) = refl

signed_same : {A : Type 0} (g : Reader A) (e : ℕ × List ℕ) (u : List ℕ) → signed g e u ≡ turn is_sign g g e u
signed_same g e [] = refl
signed_same g e (c ∷ cs) = by_test (is_sign c)
  where
    by_test : (b : Bool) → g e (if b then cs else (c ∷ cs)) ≡ (if b then g e cs else g e (c ∷ cs))
    by_test true = refl
    by_test false = refl

spelled_same : (e : ℕ × List ℕ) (u : List ℕ) → numbers e u ≡ both (signed mantissas) tails e u
unfolding spelled
spelled_same e u = refl

-- ---- a mantissa takes a byte at least

pub mantissa_shorten : (n : ℕ) (u : List ℕ) (a : Bool) (r : List ℕ) → mantissa n u ≡ read a r → length r < length u
unfolding mantissa
mantissa_shorten n [] a r h = not_read (Bad (place n [])) a r h
mantissa_shorten n (c ∷ cs) a r h = by_test (c == 46) refl
  where
    at : Bool → Found Bool
    at t = if t then and_then (digits n cs) (λ ds rest. read (are_zeros ds) rest) else and_then (digits n (c ∷ cs)) (λ ds rest. fraction (are_zeros ds) rest)

    by_test : (t : Bool) → (c == 46) ≡ t → length r < length (c ∷ cs)
    by_test true e =
        let b = then_back (digits n cs) (λ ds rest. read (are_zeros ds) rest) a r (sym (ap at e) ∙ h) in
        let k = digits_shorten n cs b.0 b.1 b.2 in
        let s : length b.1 ≡ length r = ap length (read_rest (are_zeros b.0) a b.1 r b.3) in
        omega (arith, k, s)
    by_test false e =
        let b = then_back (digits n (c ∷ cs)) (λ ds rest. fraction (are_zeros ds) rest) a r (sym (ap at e) ∙ h) in
        let k = digits_shorten n (c ∷ cs) b.0 b.1 b.2 in
        let s : length r ≤ length b.1 = subst (λ f. Shrinks f b.1) b.3 (fraction_shrinks (are_zeros b.0) b.1) in
        omega (arith, k, s)

-- ---- each is steady

zero_other : (test : ℕ → Bool) (z : List ℕ) → test 48 ≡ false → Begins 48 z → Other test z
zero_other test z e h = subst (Other test) (sym h.1) e

module _ {B : Type 0} (P : Found B → Type 0) (Spoils : ℕ → List ℕ → ℕ → Type 0) where
  fraction_steady : (zeros : Bool) → Steady P Spoils (fractions zeros) Anything Stops Stops
  fraction_steady zeros =
      same_steady P Spoils (fraction_same zeros)
      (turn_steady P Spoils is_point (more_digits zeros) (end zeros) Anything Stops Stops Stops (more_digits_steady P Spoils zeros) (pure_steady P Spoils tt) stops_point (λ e u a h. stops_point))

  lone_eating : Eating P Spoils lone Anything Stops (Begins 48)
  lone_eating = map_eating P Spoils are_zeros (digits_eating P Spoils) (λ ds q. tt)

  pointed_eating : Eating P Spoils pointed Anything Stops (Begins 48)
  pointed_eating = both_eating P Spoils (digits_eating P Spoils) (λ ds q. fraction_steady (are_zeros ds)) (λ z s. s) (λ z s. s)

  exponent_eating : Eating P Spoils exponent Anything Stops (Begins 48)
  exponent_eating = map_eating P Spoils (λ ds. tt) (digits_eating P Spoils) (λ ds q. tt)

  mantissa_steady : Steady P Spoils mantissas Anything Stops (Begins 48)
  mantissa_steady =
      same_steady P Spoils mantissa_same
      (turn_steady P Spoils is_point lone pointed Anything Stops (Begins 48) (Begins 48) lone_eating.steady pointed_eating.steady (λ z b. zero_other is_point z refl b) (λ e u a h. stops_point))

  signed_steady : {A : Type 0} (g : Reader A) → Eating P Spoils g Anything Stops (Begins 48) → Steady P Spoils (signed g) Anything Stops (Begins 48)
  signed_steady g one =
      same_steady P Spoils (signed_same g)
      (turn_steady P Spoils is_sign g g Anything Stops (Begins 48) (Begins 48) one.steady one.steady (λ z b. zero_other is_sign z refl b) (λ e u a h z s. absurd (one.eats e u a h)))

  power_steady : Steady P Spoils powers Anything Stops Stops
  power_steady =
      same_steady P Spoils power_same
      (turn_steady P Spoils is_power (signed exponent) nothing Anything Stops (Begins 48) Stops (signed_steady exponent exponent_eating) (pure_steady P Spoils tt) stops_power (λ e u a h. stops_power))

  -- ---- units

  metric_eating : Eating P Spoils metrics Anything Anything (Begins 109)
  metric_eating = choice_eating P Spoils (λ e. refl) (λ c. choice c (c == 109) refl (c == 105) refl) opens
    where
      at : ℕ → (e : ℕ × List ℕ) (cs : List ℕ) → Bool → Bool → Found (Unit {0})
      at c e cs x y = if x then read tt cs else (if y then byte e.0 108 cs else stuck e.0 (c ∷ cs))

      choice : (c : ℕ) (x : Bool) → (c == 109) ≡ x → (y : Bool) → (c == 105) ≡ y → Chosen P Spoils metrics Anything Anything c ⊎ StuckWith P Spoils metrics c
      choice c true f y g = inl (chosen_as P Spoils (sign_eating P Spoils 109) (λ z h. h) (λ e cs. ap (λ x. at c e cs x (c == 105)) f ∙ sym (ap (λ x. if x then read tt cs else stuck e.0 (c ∷ cs)) f)))
      choice c false f true g = inl (chosen_behind P Spoils 105 g (sign_eating P Spoils 108).steady (λ z h. h) (λ e cs. ap (λ x. at c e cs x (c == 105)) f ∙ ap (at c e cs false) g))
      choice c false f false g = inr (λ e cs. ap (λ x. at c e cs x (c == 105)) f ∙ ap (at c e cs false) g)

      opens : OpensTo P Spoils metrics Anything Anything (Begins 109)
      opens K ends = let o = ends tt tt in (109 ∷ o.0, (o.0, refl), o.2)

  -- a unit that must be there
  wanted_eating : Eating P Spoils (units false) Anything Anything (Begins 109)
  unfolding unit
  wanted_eating = choice_eating P Spoils (λ e. refl) (λ c. choice c (c == 109) refl (c == 105) refl) opens
    where
      at : ℕ → (e : ℕ × List ℕ) (cs : List ℕ) → Bool → Bool → Found (Unit {0})
      at c e cs x y = if x then metric e.0 cs else (if y then byte e.0 110 cs else stuck e.0 (c ∷ cs))

      choice : (c : ℕ) (x : Bool) → (c == 109) ≡ x → (y : Bool) → (c == 105) ≡ y → Chosen P Spoils (units false) Anything Anything c ⊎ StuckWith P Spoils (units false) c
      choice c true f y g = inl (chosen_behind P Spoils 109 f metric_eating.steady (λ z h. h) (λ e cs. ap (λ x. at c e cs x (c == 105)) f))
      choice c false f true g = inl (chosen_behind P Spoils 105 g (sign_eating P Spoils 110).steady (λ z h. h) (λ e cs. ap (λ x. at c e cs x (c == 105)) f ∙ ap (at c e cs false) g))
      choice c false f false g = inr (λ e cs. ap (λ x. at c e cs x (c == 105)) f ∙ ap (at c e cs false) g)

      opens : OpensTo P Spoils (units false) Anything Anything (Begins 109)
      opens K ends = let o = ends tt tt in (109 ∷ 109 ∷ o.0, (109 ∷ o.0, refl), o.2)

  inch_steady : Steady P Spoils (turn (is_byte 105) (sign 110) nothing) Anything EndsValue EndsValue
  inch_steady =
      turn_steady P Spoils (is_byte 105) (sign 110) nothing Anything EndsValue (Begins 110) EndsValue
      (wider P Spoils (λ z h. tt) (λ z h. h) (sign_eating P Spoils 110).steady) (pure_steady P Spoils tt) (ends_byte 105 refl) (λ e u a h. ends_byte 105 refl)

  unit_steady : (zeros : Bool) → Steady P Spoils (units zeros) Anything EndsValue Stops
  unit_steady false = wider P Spoils (λ z h. tt) begins_stops wanted_eating.steady
  unit_steady true =
      wider P Spoils (λ z h. h) ends_stops
      (same_steady P Spoils unit_same
      (turn_steady P Spoils (is_byte 109) metrics (turn (is_byte 105) (sign 110) nothing) Anything EndsValue (Begins 109) EndsValue
      (wider P Spoils (λ z h. tt) (λ z h. h) metric_eating.steady) inch_steady (ends_byte 109 refl) (λ e u a h. ends_byte 109 refl)))

  -- ---- all

  tail_steady : (zeros : Bool) → Steady P Spoils (tails zeros) Anything EndsValue Stops
  tail_steady zeros = both_steady P Spoils power_steady (λ a q. unit_steady zeros) (λ z s. s) (λ e u a c h. ends_stops) (λ e u a h z s. s)

  pub spelled_steady : Steady P Spoils numbers Anything EndsValue (Begins 48)
  spelled_steady =
      same_steady P Spoils spelled_same
      (both_steady P Spoils (signed_steady mantissas mantissa_eating) (λ zeros q. tail_steady zeros) (λ z s. s) (λ e u a c h. ends_stops) (λ e u a h z s. absurd (signed_eats e u a h)))
    where
      mantissa_eating : Eating P Spoils mantissas Anything Stops (Begins 48)
      mantissa_eating = record { steady = mantissa_steady; eats = λ e u a h. let k = mantissa_shorten e.0 u a u h in omega (arith, k) }

      signed_eats : Eats (signed mantissas)
      signed_eats e u a h = let k = mantissa_shorten e.0 (after_sign u) a u h in let s = sign_shorter u in omega (arith, k, s)
