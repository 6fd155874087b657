-- The grammar as a function of the text, and as a relation.
use Rattle.std.proofs.Common.{◌≡◌, ℕ, ◌<◌, ◌≤◌, Bool, true, false, ◌&&◌, ◌||◌, List, [], ◌∷◌, ◌++◌, length, Option, Some, None, sym, ap, ◌∙◌, subst, refl, arith, ◌==◌, inl, inr, ◌⊎◌, nat_lt, cond}
use Rattle.std.specs.Cmp.Derive.{both_true}
use Rattle.std.proofs.lemmas.Bool.{and_parts, eqb-true, ltb-true, lt-ltb, ne_eqb}
use Rattle.std.proofs.lemmas.List.{append_assoc, append-nil, length-append}
use Rattle.std.specs.Char.{is_ascii_digit}
use Rattle.std.specs.Str.{all_ascii_digits}
use Rattle.exact_dec.specs.Decimal.{Spelling, IsDigits, IsSign, unsigned, plus, minus, IsMantissa, no_point, point_last, point_inside, point_first, IsPower, no_power, power, Spells}
use Rattle.exact_dec.specs.Computed.{has_minus, after_sign, prefix_digits, after_digits, point_digits, after_point, is_digits, power_of, with_power, parts_of}
use Rattle.exact_dec.specs.Spelled.{HasDigits}
use Rattle.exact_dec.proofs.Digits.{digit_at}

pub some_same : {A : Type 0} (a b : A) → Some a ≡ Some b → a ≡ b
some_same a b h = cc

prefix_are_digits : (text : List ℕ) → all_ascii_digits (prefix_digits text) ≡ true
prefix_are_digits [] = refl
prefix_are_digits (c ∷ cs) = elim (is_ascii_digit c) as (λ b. is_ascii_digit c ≡ b → all_ascii_digits (cond b (c ∷ prefix_digits cs) []) ≡ true) [ true ↦ λ h. both_true h (prefix_are_digits cs) | false ↦ λ h. refl ] refl

point_are_digits : (text : List ℕ) → all_ascii_digits (point_digits text) ≡ true
point_are_digits [] = refl
point_are_digits (c ∷ cs) = elim (c == 46) as (λ b. all_ascii_digits (cond b (prefix_digits cs) []) ≡ true) [ true ↦ prefix_are_digits cs | false ↦ refl ]

-- what `with_power` put together
abbrev pub parts_from : Bool → List ℕ → List ℕ → Bool × List ℕ → Spelling
parts_from negative whole fraction q = record { negative = negative; whole = whole; fraction = fraction; lowers = q.0; exponent = q.1 }

with_power_some : (negative : Bool) (w f : List ℕ) (o : Option (Bool × List ℕ)) (p : Spelling) → with_power negative w f o ≡ Some p → (q : Bool × List ℕ) × (o ≡ Some q) × (nat_lt 0 (length (w ++ f)) ≡ true) × (parts_from negative w f q ≡ p)
with_power_some negative w f None p h = cc
with_power_some negative w f (Some q) p h =
    elim (nat_lt 0 (length (w ++ f))) as (λ b. nat_lt 0 (length (w ++ f)) ≡ b → cond b (Some (parts_from negative w f q)) None ≡ Some p → (r : Bool × List ℕ) × (Some q ≡ Some r) × (nat_lt 0 (length (w ++ f)) ≡ true) × (parts_from negative w f r ≡ p))
    [ true ↦ λ e k. (q, refl, e, cc) | false ↦ λ e k. cc ] refl h

-- the exponent's digits
power_digits : (text : List ℕ) (q : Bool × List ℕ) → power_of text ≡ Some q → all_ascii_digits q.1 ≡ true
power_digits [] q h = subst (λ (x : Bool × List ℕ). all_ascii_digits x.1 ≡ true) (some_same (false, []) q h) refl
power_digits (c ∷ cs) q h =
    elim (((c == 101) || (c == 69)) && is_digits (after_sign cs)) as (λ b. (((c == 101) || (c == 69)) && is_digits (after_sign cs)) ≡ b → cond b (Some (has_minus cs, after_sign cs)) None ≡ Some q → all_ascii_digits q.1 ≡ true)
    [ true ↦ λ e k. subst (λ (x : Bool × List ℕ). all_ascii_digits x.1 ≡ true) (some_same (has_minus cs, after_sign cs) q k) (and_parts _ _ (and_parts _ _ e).1).0 | false ↦ λ e k. cc ] refl h

pub parts_digits : (text : List ℕ) (p : Spelling) → parts_of text ≡ Some p → HasDigits p
unfolding parts_of
parts_digits text p h =
    let body = after_sign text in
    let rest = after_digits body in
    let found = with_power_some (has_minus text) (prefix_digits body) (point_digits rest) (power_of (after_point rest)) p h in
    subst HasDigits found.3 (record { whole = prefix_are_digits body; fraction = point_are_digits rest; exponent = power_digits (after_point rest) found.0 found.1 })

-- ---- from the function to the relation

abbrev pub SignedBy : List ℕ → Type 0
SignedBy text = (s : List ℕ) × (text ≡ s ++ after_sign text) × IsSign s (has_minus text)

-- the first byte is no sign
abbrev pub IsPlainPrefix : List ℕ → Type 0
IsPlainPrefix text = (after_sign text ≡ text) × (has_minus text ≡ false)

plain_other : (c : ℕ) (cs : List ℕ) → (c == 43) ≡ false → (c == 45) ≡ false → IsPlainPrefix (c ∷ cs)
plain_other c cs h k = (ap (λ b. cond (b || (c == 45)) cs (c ∷ cs)) h ∙ ap (λ b. cond b cs (c ∷ cs)) k, k)

signed_other : (c : ℕ) (cs : List ℕ) → IsPlainPrefix (c ∷ cs) → SignedBy (c ∷ cs)
signed_other c cs h = ([], sym h.0, subst (IsSign []) (sym h.1) unsigned)

sign_of : (text : List ℕ) → SignedBy text
sign_of [] = ([], refl, unsigned)
sign_of (c ∷ cs) =
    elim (c == 43) as (λ b. (c == 43) ≡ b → SignedBy (c ∷ cs)) [
      | true ↦ λ h. subst (λ x. SignedBy (x ∷ cs)) (sym (eqb-true c 43 h)) (43 ∷ [], refl, plus)
      | false ↦ λ h. elim (c == 45) as (λ b. (c == 45) ≡ b → SignedBy (c ∷ cs)) [
        | true ↦ λ k. subst (λ x. SignedBy (x ∷ cs)) (sym (eqb-true c 45 k)) (45 ∷ [], refl, minus)
        | false ↦ λ k. signed_other c cs (plain_other c cs h k)
      ] refl
    ] refl

digits_parted : (text : List ℕ) → text ≡ prefix_digits text ++ after_digits text
digits_parted [] = refl
digits_parted (c ∷ cs) = elim (is_ascii_digit c) as (λ b. c ∷ cs ≡ cond b (c ∷ prefix_digits cs) [] ++ cond b (after_digits cs) (c ∷ cs)) [ true ↦ ap (λ x. c ∷ x) (digits_parted cs) | false ↦ refl ]

abbrev pub MantissaOf : List ℕ → List ℕ → List ℕ → List ℕ → Type 0
MantissaOf w f text after = (m : List ℕ) × (w ++ text ≡ m ++ after) × IsMantissa m w f

pointed : (w f after cs : List ℕ) → cs ≡ f ++ after → all_ascii_digits w ≡ true → all_ascii_digits f ≡ true → nat_lt 0 (length (w ++ f)) ≡ true → MantissaOf w f (46 ∷ cs) after
pointed [] f after cs is dw df some = (46 ∷ f, ap (λ x. 46 ∷ x) is, point_first refl refl (df, ltb-true 0 (length f) some))
pointed (x ∷ xs) [] after cs is dw df some = ((x ∷ xs) ++ (46 ∷ []), ap (λ y. (x ∷ xs) ++ (46 ∷ y)) is ∙ sym (append_assoc (x ∷ xs) (46 ∷ []) after), point_last refl (dw, omega arith) refl)
pointed (x ∷ xs) (y ∷ ys) after cs is dw df some = ((x ∷ xs) ++ (46 ∷ (y ∷ ys)), ap (λ z. (x ∷ xs) ++ (46 ∷ z)) is ∙ sym (append_assoc (x ∷ xs) (46 ∷ (y ∷ ys)) after), point_inside refl (dw, omega arith) (df, omega arith))

mantissa_of : (w rest : List ℕ) → all_ascii_digits w ≡ true → nat_lt 0 (length (w ++ point_digits rest)) ≡ true → MantissaOf w (point_digits rest) rest (after_point rest)
mantissa_of w [] d some = (w, refl, no_point refl (d, let h : 0 < length (w ++ []) = ltb-true 0 (length (w ++ [])) some in subst (λ (x : List ℕ). 0 < length x) (append-nil w) h) refl)
mantissa_of w (c ∷ cs) d some =
    elim (c == 46) as (λ b. (c == 46) ≡ b → nat_lt 0 (length (w ++ cond b (prefix_digits cs) [])) ≡ true → MantissaOf w (cond b (prefix_digits cs) []) (c ∷ cs) (cond b (after_digits cs) (c ∷ cs))) [
      | true ↦ λ e h. subst (λ x. MantissaOf w (prefix_digits cs) (x ∷ cs) (after_digits cs)) (sym (eqb-true c 46 e)) (pointed w (prefix_digits cs) (after_digits cs) cs (digits_parted cs) d (prefix_are_digits cs) h)
      | false ↦ λ e h. (w, refl, no_point refl (d, let k : 0 < length (w ++ []) = ltb-true 0 (length (w ++ [])) h in subst (λ (x : List ℕ). 0 < length x) (append-nil w) k) refl)
    ] refl some

or_parts : (a b : Bool) → (a || b) ≡ true → (a ≡ true) ⊎ (b ≡ true)
or_parts true b h = inl refl
or_parts false b h = inr h

pub digits_from : (ds : List ℕ) → is_digits ds ≡ true → IsDigits ds
digits_from ds h = let parts = and_parts (all_ascii_digits ds) (nat_lt 0 (length ds)) h in (parts.0, ltb-true 0 (length ds) parts.1)

power_is : (text : List ℕ) (q : Bool × List ℕ) → power_of text ≡ Some q → IsPower text q.0 q.1
power_is [] q h = subst (λ (x : Bool × List ℕ). IsPower [] x.0 x.1) (some_same (false, []) q h) (no_power refl refl refl)
power_is (c ∷ cs) q h =
    elim (((c == 101) || (c == 69)) && is_digits (after_sign cs)) as (λ b. (((c == 101) || (c == 69)) && is_digits (after_sign cs)) ≡ b → cond b (Some (has_minus cs, after_sign cs)) None ≡ Some q → IsPower (c ∷ cs) q.0 q.1) [
      | true ↦ λ e k.
          let parts = and_parts ((c == 101) || (c == 69)) (is_digits (after_sign cs)) e in
          let s = sign_of cs in
          let letter : (c ≡ 101) ⊎ (c ≡ 69) = elim (or_parts (c == 101) (c == 69) parts.0) [ inl l ↦ inl (eqb-true c 101 l) | inr l ↦ inr (eqb-true c 69 l) ] in
          subst (λ (x : Bool × List ℕ). IsPower (c ∷ cs) x.0 x.1) (some_same (has_minus cs, after_sign cs) q k)
          (power c s.0 letter s.2 (digits_from (after_sign cs) parts.1) (ap (λ x. c ∷ x) s.1))
      | false ↦ λ e k. cc
    ] refl h

pub spells : (text : List ℕ) (p : Spelling) → parts_of text ≡ Some p → Spells text p
unfolding parts_of
spells text p h =
    let body = after_sign text in
    let rest = after_digits body in
    let found = with_power_some (has_minus text) (prefix_digits body) (point_digits rest) (power_of (after_point rest)) p h in
    let s = sign_of text in
    let m = mantissa_of (prefix_digits body) rest (prefix_are_digits body) found.2 in
    subst (Spells text) found.3 (record {
      sign = s.0;
      mantissa = m.0;
      power = after_point rest;
      joined = s.1 ∙ ap (λ x. s.0 ++ x) (digits_parted body ∙ m.1);
      is_sign = s.2;
      is_mantissa = m.2;
      is_power = power_is (after_point rest) found.0 found.1;
    })

-- ---- from the relation to the function

digit_plain : (c : ℕ) (cs : List ℕ) → is_ascii_digit c ≡ true → IsPlainPrefix (c ∷ cs)
digit_plain c cs h =
    let low : 48 ≤ c = (digit_at (c ∷ []) 0 (both_true h refl) (omega arith)).0 in
    plain_other c cs (ne_eqb c 43 (λ e. omega arith)) (ne_eqb c 45 (λ e. omega arith))

digits_plain : (ds rest : List ℕ) → IsDigits ds → IsPlainPrefix (ds ++ rest)
digits_plain [] rest h = absurd (omega (arith, h.1))
digits_plain (c ∷ cs) rest h = digit_plain c (cs ++ rest) (and_parts (is_ascii_digit c) (all_ascii_digits cs) h.0).0

mantissa_plain : (m w f rest : List ℕ) → IsMantissa m w f → IsPlainPrefix (m ++ rest)
mantissa_plain m w f rest (no_point e d z) = subst (λ x. IsPlainPrefix (x ++ rest)) (sym e) (digits_plain w rest d)
mantissa_plain m w f rest (point_last e d z) = subst (λ x. IsPlainPrefix (x ++ rest)) (sym e) (subst IsPlainPrefix (sym (append_assoc w (46 ∷ []) rest)) (digits_plain w (46 ∷ rest) d))
mantissa_plain m w f rest (point_inside e d z) = subst (λ x. IsPlainPrefix (x ++ rest)) (sym e) (subst IsPlainPrefix (sym (append_assoc w (46 ∷ f) rest)) (digits_plain w ((46 ∷ f) ++ rest) d))
mantissa_plain m w f rest (point_first e d z) = subst (λ x. IsPlainPrefix (x ++ rest)) (sym e) (refl, refl)

sign_read : (s : List ℕ) (negative : Bool) (body : List ℕ) → IsSign s negative → IsPlainPrefix body → (after_sign (s ++ body) ≡ body) × (has_minus (s ++ body) ≡ negative)
sign_read _ _ body unsigned h = h
sign_read _ _ body plus h = (refl, refl)
sign_read _ _ body minus h = (refl, refl)

-- no digit stands at the front
abbrev pub Stops : List ℕ → Type 0
Stops rest = (prefix_digits rest ≡ []) × (after_digits rest ≡ rest)

digits_read : (ds rest : List ℕ) → all_ascii_digits ds ≡ true → Stops rest → (prefix_digits (ds ++ rest) ≡ ds) × (after_digits (ds ++ rest) ≡ rest)
digits_read [] rest d stops = stops
digits_read (c ∷ cs) rest d stops =
    let parts = and_parts (is_ascii_digit c) (all_ascii_digits cs) d in
    let more = digits_read cs rest parts.1 stops in (
      ap (λ b. cond b (c ∷ prefix_digits (cs ++ rest)) []) parts.0 ∙ ap (λ x. c ∷ x) more.0,
      ap (λ b. cond b (after_digits (cs ++ rest)) (c ∷ (cs ++ rest))) parts.0 ∙ more.1,
    )

abbrev pub StopsAll : List ℕ → Type 0
StopsAll rest = Stops rest × (point_digits rest ≡ []) × (after_point rest ≡ rest)

power_stops : (e : List ℕ) (lowers : Bool) (x : List ℕ) → IsPower e lowers x → StopsAll e
power_stops e lowers x (no_power is l z) = subst StopsAll (sym is) ((refl, refl), refl, refl)
power_stops e lowers x (power letter s (inl l) sign d is) = subst StopsAll (sym is) (subst (λ c. StopsAll (c ∷ (s ++ x))) (sym l) ((refl, refl), refl, refl))
power_stops e lowers x (power letter s (inr l) sign d is) = subst StopsAll (sym is) (subst (λ c. StopsAll (c ∷ (s ++ x))) (sym l) ((refl, refl), refl, refl))

-- what the function finds in a text
abbrev pub Found : List ℕ → List ℕ → List ℕ → List ℕ → Type 0
Found w f e body = (prefix_digits body ≡ w) × (point_digits (after_digits body) ≡ f) × (after_point (after_digits body) ≡ e)

point_read : (w f e : List ℕ) → all_ascii_digits w ≡ true → all_ascii_digits f ≡ true → StopsAll e → Found w f e (w ++ (46 ∷ (f ++ e)))
point_read w f e dw df stops =
    let first = digits_read w (46 ∷ (f ++ e)) dw (refl, refl) in
    let second = digits_read f e df stops.0 in
    (first.0, ap point_digits first.1 ∙ second.0, ap after_point first.1 ∙ second.1)

mantissa_read : (m w f e : List ℕ) → StopsAll e → IsMantissa m w f → Found w f e (m ++ e)
mantissa_read m w f e stops (no_point is d none) =
    let run = digits_read w e d.0 stops.0 in
    subst (λ x. Found w f e (x ++ e)) (sym is) (run.0, ap point_digits run.1 ∙ (stops.1 ∙ sym none), ap after_point run.1 ∙ stops.2)
mantissa_read m w f e stops (point_last is d none) =
    subst (λ x. Found w f e (x ++ e)) (sym is) (subst (Found w f e) (sym (append_assoc w (46 ∷ []) e)) (subst (λ x. Found w x e (w ++ (46 ∷ e))) (sym none) (point_read w [] e d.0 refl stops)))
mantissa_read m w f e stops (point_inside is d k) =
    subst (λ x. Found w f e (x ++ e)) (sym is) (subst (Found w f e) (sym (append_assoc w (46 ∷ f) e)) (point_read w f e d.0 k.0 stops))
mantissa_read m w f e stops (point_first is none k) =
    subst (λ x. Found w f e (x ++ e)) (sym is) (subst (λ x. Found x f e (46 ∷ (f ++ e))) (sym none) (point_read [] f e refl k.0 stops))

pub digits_are : (ds : List ℕ) → IsDigits ds → is_digits ds ≡ true
digits_are ds d = both_true d.0 (lt-ltb 0 (length ds) d.1)

power_read_at : (letter : ℕ) (s x : List ℕ) (lowers : Bool) → ((letter == 101) || (letter == 69)) ≡ true → IsSign s lowers → IsDigits x → power_of (letter ∷ (s ++ x)) ≡ Some (lowers, x)
power_read_at letter s x lowers l sign d =
    let plain : IsPlainPrefix x = subst IsPlainPrefix (append-nil x) (digits_plain x [] d) in
    let read = sign_read s lowers x sign plain in
    let test : (((letter == 101) || (letter == 69)) && is_digits (after_sign (s ++ x))) ≡ true = both_true l (ap is_digits read.0 ∙ digits_are x d) in
    ap (λ b. cond b (Some (has_minus (s ++ x), after_sign (s ++ x))) None) test ∙ (ap (λ b. Some (b, after_sign (s ++ x))) read.1 ∙ ap (λ y. Some (lowers, y)) read.0)

power_read : (e : List ℕ) (lowers : Bool) (x : List ℕ) → IsPower e lowers x → power_of e ≡ Some (lowers, x)
power_read e lowers x (no_power is l z) = ap power_of is ∙ (ap (λ b. Some (b, [])) (sym l) ∙ ap (λ y. Some (lowers, y)) (sym z))
power_read e lowers x (power letter s (inl l) sign d is) = ap power_of is ∙ power_read_at letter s x lowers (subst (λ c. ((c == 101) || (c == 69)) ≡ true) (sym l) refl) sign d
power_read e lowers x (power letter s (inr l) sign d is) = ap power_of is ∙ power_read_at letter s x lowers (subst (λ c. ((c == 101) || (c == 69)) ≡ true) (sym l) refl) sign d

mantissa_some : (m w f : List ℕ) → IsMantissa m w f → nat_lt 0 (length (w ++ f)) ≡ true
mantissa_some m w f (no_point e d z) = lt-ltb 0 (length (w ++ f)) (omega (arith, length-append w f, d.1))
mantissa_some m w f (point_last e d z) = lt-ltb 0 (length (w ++ f)) (omega (arith, length-append w f, d.1))
mantissa_some m w f (point_inside e d z) = lt-ltb 0 (length (w ++ f)) (omega (arith, length-append w f, d.1))
mantissa_some m w f (point_first e d z) = lt-ltb 0 (length (w ++ f)) (omega (arith, length-append w f, z.1))

pub spelled_once : (text : List ℕ) (p : Spelling) → Spells text p → parts_of text ≡ Some p
unfolding parts_of
spelled_once text p h =
    let body = h.mantissa ++ h.power in
    let signs = sign_read h.sign p.negative body h.is_sign (mantissa_plain h.mantissa p.whole p.fraction h.power h.is_mantissa) in
    let is_body : after_sign text ≡ body = ap after_sign h.joined ∙ signs.0 in
    let is_minus : has_minus text ≡ p.negative = ap has_minus h.joined ∙ signs.1 in
    let found = mantissa_read h.mantissa p.whole p.fraction h.power (power_stops h.power p.lowers p.exponent h.is_power) h.is_mantissa in
    let is_power : power_of (after_point (after_digits (after_sign text))) ≡ Some (p.lowers, p.exponent) = ap (λ x. power_of (after_point (after_digits x))) is_body ∙ (ap power_of found.2 ∙ power_read h.power p.lowers p.exponent h.is_power) in
    ap (λ x. with_power x (prefix_digits (after_sign text)) (point_digits (after_digits (after_sign text))) (power_of (after_point (after_digits (after_sign text))))) is_minus
    ∙ (ap (λ x. with_power p.negative x (point_digits (after_digits (after_sign text))) (power_of (after_point (after_digits (after_sign text))))) (ap prefix_digits is_body ∙ found.0)
    ∙ (ap (λ x. with_power p.negative p.whole x (power_of (after_point (after_digits (after_sign text))))) (ap (λ x. point_digits (after_digits x)) is_body ∙ found.1)
    ∙ (ap (λ x. with_power p.negative p.whole p.fraction x) is_power
    ∙ ap (λ b. cond b (Some p) None) (mantissa_some h.mantissa p.whole p.fraction h.is_mantissa))))

-- a text spells one decimal at most
pub one_spelling : (text : List ℕ) (p q : Spelling) → Spells text p → Spells text q → p ≡ q
one_spelling text p q a b = some_same p q (sym (spelled_once text p a) ∙ spelled_once text q b)
