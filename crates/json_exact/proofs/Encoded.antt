-- What the characters of a string stand for is UTF-8.
use Rattle.std.proofs.Common.{◌≡◌, ◌≢◌, ℕ, zero, suc, ◌+◌, ◌-◌, ◌*◌, ◌/◌, ◌%◌, ◌<◌, ◌≤◌, ◌⊎◌, inl, inr, List, [], ◌∷◌, ◌++◌, length, Bool, true, false, cond, ◌||◌, ◌==◌, IsUtf8, refl, sym, ◌∙◌, ap, subst, arith, eqb}
use Rattle.std.proofs.lemmas.Bool.{eqb-true, cases_lt}
use Rattle.std.proofs.lemmas.Bool.Decides.{nat_tests}
use Rattle.std.proofs.lemmas.Str.{IsUtf8-nil, IsUtf8-append, IsUtf8-encode}
use Rattle.std.specs.Char.{encode_utf8}
use lib.Utf8.{encode, scalar}
use Rattle.json_exact.specs.Characters.{Way, refused, whole, one, tail, two_digits, low_half, surrogate, digits, escape, steps, within, is_plain, is_d, is_hex, is_high_digit, is_low_digit, is_short, AreCharacters, decoded, decoded_behind, hex_value, code_unit, is_high_surrogate, surrogate_pair, short_value}
use Rattle.json_exact.proofs.Walks.{steps-refused}
use Rattle.json_exact.proofs.Scanning.{on, off}
use Rattle.json_exact.proofs.Prefixes.{one_byte, two_bytes, three_bytes, four_bytes}

-- a first character, what it stands for, and what is left
pub record Leads (raw : List ℕ) : Type 0 where
  pub bytes : List ℕ
  pub rest : List ℕ
  pub decodes : decoded raw ≡ bytes ++ decoded rest
  pub encoded : IsUtf8 bytes
  pub shorter : length rest < length raw
  pub goes_on : AreCharacters rest

-- ---- ways taken apart

pub record Taken (test : ℕ → Bool) (way : Way) (q : List ℕ) : Type 0 where
  pub byte : ℕ
  pub rest : List ℕ
  pub is : q ≡ byte ∷ rest
  pub passes : test byte ≡ true
  pub on : steps way rest ≡ whole

refused_never : (q : List ℕ) → steps refused q ≡ whole → ⊥
refused_never q e = (let z : refused ≡ whole = sym (steps-refused q) ∙ e in cc)

split : (t : Bool) (v w : Way) (q : List ℕ) → steps (cond t v w) q ≡ whole → ((t ≡ true) × (steps v q ≡ whole)) ⊎ ((t ≡ false) × (steps w q ≡ whole))
split true v w q e = inl (refl, e)
split false v w q e = inr (refl, e)

taken : (test : ℕ → Bool) (way : Way) (q : List ℕ) → steps (one test way) q ≡ whole → Taken test way q
taken test way [] e = cc
taken test way (b ∷ q) e = elim (split (test b) way refused q e) [
  | inl x ↦ record { byte = b; rest = q; is = refl; passes = x.0; on = x.1 }
  | inr x ↦ absurd (refused_never q x.1)
]

-- ---- numbers of digits

hex_bound : (b : ℕ) → is_hex b ≡ true → hex_value b < 16
hex_bound b h = grind (arith, nat_tests, h)

d_value : (b : ℕ) → is_d b ≡ true → hex_value b ≡ 13
d_value b h = grind (arith, nat_tests, h)

other_value : (b : ℕ) → is_hex b ≡ true → is_d b ≡ false → hex_value b ≢ 13
other_value b h n = grind (arith, nat_tests, h, n)

first_eight : (b : ℕ) → within 48 55 b ≡ true → hex_value b < 8
first_eight b h = grind (arith, nat_tests, h)

high_value : (b : ℕ) → is_high_digit b ≡ true → (8 ≤ hex_value b) × (hex_value b < 12)
high_value b h = (grind (arith, nat_tests, h), grind (arith, nat_tests, h))

low_value : (b : ℕ) → is_low_digit b ≡ true → (12 ≤ hex_value b) × (hex_value b < 16)
low_value b h = (grind (arith, nat_tests, h), grind (arith, nat_tests, h))

in_range : (low high b : ℕ) → within low high b ≡ true → (low ≤ b) × (b ≤ high)
in_range low high b h = (grind (arith, nat_tests, h), grind (arith, nat_tests, h))

plain_byte : (b : ℕ) → is_plain b ≡ true → (b < 128) × (b ≢ 92)
plain_byte b h = (grind (arith, nat_tests, h), grind (arith, nat_tests, h))

short_byte : (b : ℕ) → is_short b ≡ true → (short_value b < 128) × (b ≢ 117)
short_byte b h = (grind (arith, nat_tests, h), grind (arith, nat_tests, h))

is_scalar : (c : ℕ) → (c < 55296) ⊎ ((57344 ≤ c) × (c < 1114112)) → scalar c ≡ true
is_scalar c (inl h) = grind (arith, nat_tests, h)
is_scalar c (inr h) = grind (arith, nat_tests, h.0, h.1)

-- ---- characters that stand for themselves

itself : (b : ℕ) (q : List ℕ) → b ≢ 92 → decoded (b ∷ q) ≡ b ∷ decoded q
unfolding decoded_behind
itself b q n = off (eqb b 92) _ _ _ (grind (arith, nat_tests, n)) refl

itself2 : (b c : ℕ) (q : List ℕ) → b ≢ 92 → c ≢ 92 → decoded (b ∷ c ∷ q) ≡ (b ∷ c ∷ []) ++ decoded q
itself2 b c q m n = itself b (c ∷ q) m ∙ ap (λ (x : List ℕ). b ∷ x) (itself c q n)

itself3 : (b c d : ℕ) (q : List ℕ) → b ≢ 92 → c ≢ 92 → d ≢ 92 → decoded (b ∷ c ∷ d ∷ q) ≡ (b ∷ c ∷ d ∷ []) ++ decoded q
itself3 b c d q m n o = itself b (c ∷ d ∷ q) m ∙ ap (λ (x : List ℕ). b ∷ x) (itself2 c d q n o)

itself4 : (b c d e : ℕ) (q : List ℕ) → b ≢ 92 → c ≢ 92 → d ≢ 92 → e ≢ 92 → decoded (b ∷ c ∷ d ∷ e ∷ q) ≡ (b ∷ c ∷ d ∷ e ∷ []) ++ decoded q
itself4 b c d e q m n o p = itself b (c ∷ d ∷ e ∷ q) m ∙ ap (λ (x : List ℕ). b ∷ x) (itself3 c d e q n o p)

scalar_utf8 : (c : ℕ) (bytes : List ℕ) → scalar c ≡ true → bytes ≡ encode c → IsUtf8 bytes
scalar_utf8 c bytes h e = subst IsUtf8 (sym e) (IsUtf8-encode c h)

utf8_one : (b : ℕ) → b < 128 → IsUtf8 (b ∷ [])
utf8_one b h = scalar_utf8 b (b ∷ []) (is_scalar b (inl (omega arith))) (one_byte b h)

utf8_two : (b t : ℕ) → 194 ≤ b → b ≤ 223 → 128 ≤ t → t ≤ 191 → IsUtf8 (b ∷ t ∷ [])
utf8_two b t h k l m =
    let c : ℕ = (b - 192) * 64 + (t - 128) in
    let e1 : 192 + c / 64 ≡ b = omega arith in
    let e2 : 128 + c % 64 ≡ t = omega arith in
    scalar_utf8 c (b ∷ t ∷ []) (is_scalar c (inl (omega arith)))
    (sym (ap (λ (x : ℕ). x ∷ (128 + c % 64) ∷ []) e1 ∙ ap (λ (x : ℕ). b ∷ x ∷ []) e2) ∙ two_bytes c (omega arith) (omega arith))

-- a character of three or four bytes without its last one or two sets of six bits
abbrev prefix_bits : ℕ → ℕ → ℕ → ℕ
prefix_bits base b t = (b - base) * 64 + (t - 128)

utf8_three : (b t u : ℕ) → 224 ≤ b → b ≤ 239 → 128 ≤ t → t ≤ 191 → 128 ≤ u → u ≤ 191 → 32 ≤ prefix_bits 224 b t → ((prefix_bits 224 b t < 864) ⊎ (896 ≤ prefix_bits 224 b t)) → IsUtf8 (b ∷ t ∷ u ∷ [])
utf8_three b t u h k l m l' m' n o =
    let c : ℕ = (b - 224) * 4096 + ((t - 128) * 64 + (u - 128)) in
    let e1 : 224 + c / 4096 ≡ b = omega arith in
    let e2 : 128 + c / 64 % 64 ≡ t = omega arith in
    let e3 : 128 + c % 64 ≡ u = omega arith in
    let range : (c < 55296) ⊎ ((57344 ≤ c) × (c < 1114112)) = elim o [ inl x ↦ inl (omega arith) | inr x ↦ inr (omega arith, omega arith) ] in
    scalar_utf8 c (b ∷ t ∷ u ∷ []) (is_scalar c range)
    (sym (ap (λ (x : ℕ). x ∷ (128 + c / 64 % 64) ∷ (128 + c % 64) ∷ []) e1 ∙ ap (λ (x : ℕ). b ∷ x ∷ (128 + c % 64) ∷ []) e2 ∙ ap (λ (x : ℕ). b ∷ t ∷ x ∷ []) e3)
    ∙ three_bytes c (omega arith) (omega arith))

utf8_four : (b t u v : ℕ) → 240 ≤ b → b ≤ 244 → 128 ≤ t → t ≤ 191 → 128 ≤ u → u ≤ 191 → 128 ≤ v → v ≤ 191 → 16 ≤ prefix_bits 240 b t → prefix_bits 240 b t < 272 → IsUtf8 (b ∷ t ∷ u ∷ v ∷ [])
utf8_four b t u v h k l m l' m' l'' m'' n o =
    let c : ℕ = (b - 240) * 262144 + ((t - 128) * 4096 + ((u - 128) * 64 + (v - 128))) in
    let e1 : 240 + c / 262144 ≡ b = omega arith in
    let e2 : 128 + c / 4096 % 64 ≡ t = omega arith in
    let e3 : 128 + c / 64 % 64 ≡ u = omega arith in
    let e4 : 128 + c % 64 ≡ v = omega arith in
    scalar_utf8 c (b ∷ t ∷ u ∷ v ∷ []) (is_scalar c (inr (omega arith, omega arith)))
    (sym (ap (λ (x : ℕ). x ∷ (128 + c / 4096 % 64) ∷ (128 + c / 64 % 64) ∷ (128 + c % 64) ∷ []) e1 ∙ ap (λ (x : ℕ). b ∷ x ∷ (128 + c / 64 % 64) ∷ (128 + c % 64) ∷ []) e2
    ∙ ap (λ (x : ℕ). b ∷ t ∷ x ∷ (128 + c % 64) ∷ []) e3 ∙ ap (λ (x : ℕ). b ∷ t ∷ u ∷ x ∷ []) e4)
    ∙ four_bytes c (omega arith))

-- ---- the bytes of a character, one after another

leads_plain : (b : ℕ) (q : List ℕ) → is_plain b ≡ true → steps whole q ≡ whole → Leads (b ∷ q)
leads_plain b q h e =
    let p = plain_byte b h in
    record { bytes = b ∷ []; rest = q; decodes = itself b q p.1; encoded = utf8_one b p.0; shorter = omega arith; goes_on = e }

leads_two : (b : ℕ) (q : List ℕ) → within 194 223 b ≡ true → steps (tail whole) q ≡ whole → Leads (b ∷ q)
leads_two b q h e =
    let t : Taken (within 128 191) whole q = taken (within 128 191) whole q e in
    let rb = in_range 194 223 b h in
    let rt = in_range 128 191 t.byte t.passes in
    subst Leads (ap (λ (x : List ℕ). b ∷ x) (sym t.is))
    (record {
      bytes = b ∷ t.byte ∷ [];
      rest = t.rest;
      decodes = itself2 b t.byte t.rest (λ z. omega (arith, rb.0, rt.0)) (λ z. omega (arith, rb.0, rt.0));
      encoded = utf8_two b t.byte rb.0 rb.1 rt.0 rt.1;
      shorter = omega arith;
      goes_on = t.on;
    })

leads_three : (test : ℕ → Bool) (b : ℕ) (q : List ℕ) → 224 ≤ b → b ≤ 239 → ((t : ℕ) → test t ≡ true → (128 ≤ t) × (t ≤ 191) × (32 ≤ prefix_bits 224 b t) × ((prefix_bits 224 b t < 864) ⊎ (896 ≤ prefix_bits 224 b t)))
    → steps (one test (tail whole)) q ≡ whole → Leads (b ∷ q)
leads_three test b q h k range e =
    let t : Taken test (tail whole) q = taken test (tail whole) q e in
    let u : Taken (within 128 191) whole t.rest = taken (within 128 191) whole t.rest t.on in
    let rt = range t.byte t.passes in
    let ru = in_range 128 191 u.byte u.passes in
    subst Leads (ap (λ (x : List ℕ). b ∷ x) (sym (t.is ∙ ap (λ (x : List ℕ). t.byte ∷ x) u.is)))
    (record {
      bytes = b ∷ t.byte ∷ u.byte ∷ [];
      rest = u.rest;
      decodes = itself3 b t.byte u.byte u.rest (λ z. omega arith) (λ z. omega (arith, rt.0)) (λ z. omega (arith, ru.0));
      encoded = utf8_three b t.byte u.byte h k rt.0 rt.1 ru.0 ru.1 rt.2 rt.3;
      shorter = omega arith;
      goes_on = u.on;
    })

leads_four : (test : ℕ → Bool) (b : ℕ) (q : List ℕ) → 240 ≤ b → b ≤ 244 → ((t : ℕ) → test t ≡ true → (128 ≤ t) × (t ≤ 191) × (16 ≤ prefix_bits 240 b t) × (prefix_bits 240 b t < 272))
    → steps (one test (tail (tail whole))) q ≡ whole → Leads (b ∷ q)
leads_four test b q h k range e =
    let t : Taken test (tail (tail whole)) q = taken test (tail (tail whole)) q e in
    let u : Taken (within 128 191) (tail whole) t.rest = taken (within 128 191) (tail whole) t.rest t.on in
    let v : Taken (within 128 191) whole u.rest = taken (within 128 191) whole u.rest u.on in
    let rt = range t.byte t.passes in
    let ru = in_range 128 191 u.byte u.passes in
    let rv = in_range 128 191 v.byte v.passes in
    subst Leads (ap (λ (x : List ℕ). b ∷ x) (sym (t.is ∙ ap (λ (x : List ℕ). t.byte ∷ x) (u.is ∙ ap (λ (x : List ℕ). u.byte ∷ x) v.is))))
    (record {
      bytes = b ∷ t.byte ∷ u.byte ∷ v.byte ∷ [];
      rest = v.rest;
      decodes = itself4 b t.byte u.byte v.byte v.rest (λ z. omega arith) (λ z. omega (arith, rt.0)) (λ z. omega (arith, ru.0)) (λ z. omega (arith, rv.0));
      encoded = utf8_four b t.byte u.byte v.byte h k rt.0 rt.1 ru.0 ru.1 rv.0 rv.1 rt.2 rt.3;
      shorter = omega arith;
      goes_on = v.on;
    })

-- ---- escapes

-- a character by its number
leads_code : (raw rest : List ℕ) (c : ℕ) → decoded raw ≡ encode_utf8 c ++ decoded rest → scalar c ≡ true → length rest < length raw → AreCharacters rest → Leads raw
leads_code raw rest c d h lt on' = record { bytes = encode_utf8 c; rest = rest; decodes = d; encoded = IsUtf8-encode c h; shorter = lt; goes_on = on' }

escape_short : (b : ℕ) (q : List ℕ) → b ≢ 117 → decoded (92 ∷ b ∷ q) ≡ short_value b ∷ decoded q
unfolding decoded_behind
escape_short b q n = off (eqb b 117) _ _ _ (grind (arith, nat_tests, n)) refl

escape_unit : (a b c d : ℕ) (q : List ℕ) → is_high_surrogate (code_unit a b c d) ≡ false
    → decoded (92 ∷ 117 ∷ a ∷ b ∷ c ∷ d ∷ q) ≡ encode_utf8 (code_unit a b c d) ++ decoded q
unfolding decoded_behind
escape_unit a b c d q n = off (is_high_surrogate (code_unit a b c d)) _ _ _ n refl

escape_pair : (a b c d s u e f g h : ℕ) (q : List ℕ) → is_high_surrogate (code_unit a b c d) ≡ true
    → decoded (92 ∷ 117 ∷ a ∷ b ∷ c ∷ d ∷ s ∷ u ∷ e ∷ f ∷ g ∷ h ∷ q) ≡ encode_utf8 (surrogate_pair (code_unit a b c d) (code_unit e f g h)) ++ decoded q
unfolding decoded_behind
escape_pair a b c d s u e f g h q n = on (is_high_surrogate (code_unit a b c d)) _ _ _ n refl

no_high : (u : ℕ) → (u < 55296) ⊎ (57344 ≤ u) → is_high_surrogate u ≡ false
no_high u (inl h) = grind (arith, nat_tests, h)
no_high u (inr h) = grind (arith, nat_tests, h)

a_high : (u : ℕ) → 55296 ≤ u → u ≤ 56319 → is_high_surrogate u ≡ true
a_high u h k = grind (arith, nat_tests, h, k)

leads_unit : (a b : ℕ) (q : List ℕ) → (hex_value a * 4096 + hex_value b * 256 + 255 < 55296) ⊎ (57344 ≤ hex_value a * 4096 + hex_value b * 256)
    → hex_value a < 16 → hex_value b < 16 → steps (two_digits whole) q ≡ whole → Leads (92 ∷ 117 ∷ a ∷ b ∷ q)
leads_unit a b q range ha hb e =
    let c : Taken is_hex (one is_hex whole) q = taken is_hex (one is_hex whole) q e in
    let d : Taken is_hex whole c.rest = taken is_hex whole c.rest c.on in
    let hc : hex_value c.byte < 16 = hex_bound c.byte c.passes in
    let hd : hex_value d.byte < 16 = hex_bound d.byte d.passes in
    let u : ℕ = code_unit a b c.byte d.byte in
    let where_ : (u < 55296) ⊎ ((57344 ≤ u) × (u < 1114112)) = elim range [ inl x ↦ inl (omega arith) | inr x ↦ inr (omega arith, omega arith) ] in
    let low : (u < 55296) ⊎ (57344 ≤ u) = elim where_ [ inl x ↦ inl x | inr x ↦ inr x.0 ] in
    subst Leads (ap (λ (x : List ℕ). 92 ∷ 117 ∷ a ∷ b ∷ x) (sym (c.is ∙ ap (λ (x : List ℕ). c.byte ∷ x) d.is)))
    (leads_code (92 ∷ 117 ∷ a ∷ b ∷ c.byte ∷ d.byte ∷ d.rest) d.rest u (escape_unit a b c.byte d.byte d.rest (no_high u low)) (is_scalar u where_) (omega arith) d.on)

-- bytes taken one after another
eight : (q q1 q2 q3 q4 q5 q6 q7 q8 : List ℕ) (b1 b2 b3 b4 b5 b6 b7 b8 : ℕ) → q ≡ b1 ∷ q1 → q1 ≡ b2 ∷ q2 → q2 ≡ b3 ∷ q3 → q3 ≡ b4 ∷ q4 → q4 ≡ b5 ∷ q5 → q5 ≡ b6 ∷ q6 → q6 ≡ b7 ∷ q7 → q7 ≡ b8 ∷ q8
    → q ≡ b1 ∷ b2 ∷ b3 ∷ b4 ∷ b5 ∷ b6 ∷ b7 ∷ b8 ∷ q8
eight q q1 q2 q3 q4 q5 q6 q7 q8 b1 b2 b3 b4 b5 b6 b7 b8 e1 e2 e3 e4 e5 e6 e7 e8 = cc

leads_pair : (a b : ℕ) (q : List ℕ) → is_d a ≡ true → is_high_digit b ≡ true → steps (two_digits low_half) q ≡ whole → Leads (92 ∷ 117 ∷ a ∷ b ∷ q)
leads_pair a b q ha hb e0 =
    let c : Taken is_hex (one is_hex low_half) q = taken is_hex (one is_hex low_half) q e0 in
    let d : Taken is_hex low_half c.rest = taken is_hex low_half c.rest c.on in
    let s : Taken (λ b. b == 92) _ d.rest = taken (λ b. b == 92) _ d.rest d.on in
    let u : Taken (λ b. b == 117) _ s.rest = taken (λ b. b == 117) _ s.rest s.on in
    let e : Taken is_d _ u.rest = taken is_d _ u.rest u.on in
    let f : Taken is_low_digit (two_digits whole) e.rest = taken is_low_digit (two_digits whole) e.rest e.on in
    let g : Taken is_hex (one is_hex whole) f.rest = taken is_hex (one is_hex whole) f.rest f.on in
    let h : Taken is_hex whole g.rest = taken is_hex whole g.rest g.on in
    let va : hex_value a ≡ 13 = d_value a ha in
    let vb = high_value b hb in
    let vc : hex_value c.byte < 16 = hex_bound c.byte c.passes in
    let vd : hex_value d.byte < 16 = hex_bound d.byte d.passes in
    let ve : hex_value e.byte ≡ 13 = d_value e.byte e.passes in
    let vf = low_value f.byte f.passes in
    let vg : hex_value g.byte < 16 = hex_bound g.byte g.passes in
    let vh : hex_value h.byte < 16 = hex_bound h.byte h.passes in
    let high : ℕ = code_unit a b c.byte d.byte in
    let low : ℕ = code_unit e.byte f.byte g.byte h.byte in
    let high_least : 55296 ≤ high = omega (arith, vb.0) in
    let high_most : high ≤ 56319 = omega (arith, vb.1) in
    let low_most : low ≤ 57343 = omega (arith, vf.1) in
    let is = eight q c.rest d.rest s.rest u.rest e.rest f.rest g.rest h.rest c.byte d.byte s.byte u.byte e.byte f.byte g.byte h.byte c.is d.is s.is u.is e.is f.is g.is h.is in
    subst Leads (ap (λ (x : List ℕ). 92 ∷ 117 ∷ a ∷ b ∷ x) (sym is))
    (leads_code (92 ∷ 117 ∷ a ∷ b ∷ c.byte ∷ d.byte ∷ s.byte ∷ u.byte ∷ e.byte ∷ f.byte ∷ g.byte ∷ h.byte ∷ h.rest) h.rest (surrogate_pair high low)
    (escape_pair a b c.byte d.byte s.byte u.byte e.byte f.byte g.byte h.byte h.rest (a_high high high_least high_most))
    (is_scalar (surrogate_pair high low) (inr (omega arith, omega arith))) (omega arith) h.on)

-- behind `\uD`
leads_surrogate : (a : ℕ) (q : List ℕ) → is_d a ≡ true → steps surrogate q ≡ whole → Leads (92 ∷ 117 ∷ a ∷ q)
leads_surrogate a [] ha e = cc
leads_surrogate a (b ∷ q) ha e =
    let va : hex_value a ≡ 13 = d_value a ha in
    elim (split (within 48 55 b) (two_digits whole) (cond (is_high_digit b) (two_digits low_half) refused) q e) [
      | inl x ↦ (let vb : hex_value b < 8 = first_eight b x.0 in leads_unit a b q (inl (omega arith)) (omega arith) (omega arith) x.1)
      | inr x ↦ elim (split (is_high_digit b) (two_digits low_half) refused q x.1) [
        | inl y ↦ leads_pair a b q ha y.0 y.1
        | inr y ↦ absurd (refused_never q y.1)
      ]
    ]

-- behind `\u` and a digit other than `D`
leads_other : (a : ℕ) (q : List ℕ) → is_d a ≡ false → is_hex a ≡ true → steps (one is_hex (two_digits whole)) q ≡ whole → Leads (92 ∷ 117 ∷ a ∷ q)
leads_other a q other h e =
    let b : Taken is_hex (two_digits whole) q = taken is_hex (two_digits whole) q e in
    let va : hex_value a < 16 = hex_bound a h in
    let vb : hex_value b.byte < 16 = hex_bound b.byte b.passes in
    let ne : hex_value a ≢ 13 = other_value a h other in
    let range : (hex_value a * 4096 + hex_value b.byte * 256 + 255 < 55296) ⊎ (57344 ≤ hex_value a * 4096 + hex_value b.byte * 256) = elim (cases_lt (hex_value a) 13) [
      | inl lt ↦ inl (omega arith)
      | inr le ↦ inr (omega (arith, ne))
    ] in
    subst Leads (ap (λ (x : List ℕ). 92 ∷ 117 ∷ a ∷ x) (sym b.is)) (leads_unit a b.byte b.rest range va vb b.on)

-- behind `\u`
leads_digits : (q : List ℕ) → steps digits q ≡ whole → Leads (92 ∷ 117 ∷ q)
leads_digits [] e = cc
leads_digits (a ∷ q) e = elim (split (is_d a) surrogate (cond (is_hex a) (one is_hex (two_digits whole)) refused) q e) [
  | inl x ↦ leads_surrogate a q x.0 x.1
  | inr x ↦ elim (split (is_hex a) (one is_hex (two_digits whole)) refused q x.1) [
    | inl y ↦ leads_other a q x.0 y.0 y.1
    | inr y ↦ absurd (refused_never q y.1)
  ]
]

-- behind a backslash
leads_escape : (q : List ℕ) → steps escape q ≡ whole → Leads (92 ∷ q)
leads_escape [] e = cc
leads_escape (b ∷ q) e = elim (split (is_short b) whole (cond (b == 117) digits refused) q e) [
  | inl x ↦ (let h = short_byte b x.0 in
      record { bytes = short_value b ∷ []; rest = q; decodes = escape_short b q h.1; encoded = utf8_one (short_value b) h.0; shorter = omega arith; goes_on = x.1 })
  | inr x ↦ elim (split (b == 117) digits refused q x.1) [
    | inl y ↦ subst Leads (ap (λ (x : ℕ). 92 ∷ x ∷ q) (sym (eqb-true b 117 y.0))) (leads_digits q y.1)
    | inr y ↦ absurd (refused_never q y.1)
  ]
]

leads_ordinary : (b : ℕ) (q : List ℕ) → steps (cond (within 194 223 b) (tail whole)
    (cond (b == 224) (one (within 160 191) (tail whole))
    (cond (within 225 236 b || within 238 239 b) (tail (tail whole))
    (cond (b == 237) (one (within 128 159) (tail whole))
    (cond (b == 240) (one (within 144 191) (tail (tail whole)))
    (cond (within 241 243 b) (tail (tail (tail whole)))
    (cond (b == 244) (one (within 128 143) (tail (tail whole))) refused))))))) q ≡ whole → Leads (b ∷ q)
leads_ordinary b q e = elim (split (within 194 223 b) _ _ q e) [
  | inl x ↦ leads_two b q x.0 x.1
  | inr n1 ↦ elim (split (b == 224) _ _ q n1.1) [
    | inl x ↦ (let v : b ≡ 224 = eqb-true b 224 x.0 in leads_three (within 160 191) b q (omega arith) (omega arith)
        (λ t h. (let r = in_range 160 191 t h in (omega (arith, r.0), r.1, omega (arith, r.0), inl (omega (arith, r.1))))) x.1)
    | inr n2 ↦ elim (split (within 225 236 b || within 238 239 b) _ _ q n2.1) [
      | inl x ↦ (let w : (((225 ≤ b) × (b ≤ 236)) ⊎ ((238 ≤ b) × (b ≤ 239))) = either_range b x.0 in leads_three (within 128 191) b q (grind (arith, w)) (grind (arith, w))
          (λ t h. (let r = in_range 128 191 t h in (r.0, r.1, grind (arith, w, r.0, r.1), elim w [ inl i ↦ inl (omega (arith, i.0, i.1, r.1)) | inr i ↦ inr (omega (arith, i.0, i.1, r.0)) ]))) x.1)
      | inr n3 ↦ elim (split (b == 237) _ _ q n3.1) [
        | inl x ↦ (let v : b ≡ 237 = eqb-true b 237 x.0 in leads_three (within 128 159) b q (omega arith) (omega arith)
            (λ t h. (let r = in_range 128 159 t h in (r.0, omega (arith, r.1), omega (arith, r.0), inl (omega (arith, r.1))))) x.1)
        | inr n4 ↦ elim (split (b == 240) _ _ q n4.1) [
          | inl x ↦ (let v : b ≡ 240 = eqb-true b 240 x.0 in leads_four (within 144 191) b q (omega arith) (omega arith)
              (λ t h. (let r = in_range 144 191 t h in (omega (arith, r.0), r.1, omega (arith, r.0), omega (arith, r.1)))) x.1)
          | inr n5 ↦ elim (split (within 241 243 b) _ _ q n5.1) [
            | inl x ↦ (let v = in_range 241 243 b x.0 in leads_four (within 128 191) b q (omega (arith, v.0)) (omega (arith, v.1))
                (λ t h. (let r = in_range 128 191 t h in (r.0, r.1, omega (arith, v.0, r.0), omega (arith, v.1, r.1)))) x.1)
            | inr n6 ↦ elim (split (b == 244) _ _ q n6.1) [
              | inl x ↦ (let v : b ≡ 244 = eqb-true b 244 x.0 in leads_four (within 128 143) b q (omega arith) (omega arith)
                  (λ t h. (let r = in_range 128 143 t h in (r.0, omega (arith, r.1), omega (arith, r.0), omega (arith, r.1)))) x.1)
              | inr n7 ↦ absurd (refused_never q n7.1)
            ]
          ]
        ]
      ]
    ]
  ]
]
  where
    either_range : (b : ℕ) → (within 225 236 b || within 238 239 b) ≡ true → ((225 ≤ b) × (b ≤ 236)) ⊎ ((238 ≤ b) × (b ≤ 239))
    either_range b h = elim (cases_lt b 237) [
      | inl lt ↦ inl (grind (arith, nat_tests, h, lt), omega arith)
      | inr ge ↦ inr (grind (arith, nat_tests, h, ge), grind (arith, nat_tests, h, ge))
    ]

leads : (b : ℕ) (q : List ℕ) → AreCharacters (b ∷ q) → Leads (b ∷ q)
leads b q e = elim (split (is_plain b) whole _ q e) [
  | inl x ↦ leads_plain b q x.0 x.1
  | inr x ↦ elim (split (b == 92) escape _ q x.1) [
    | inl y ↦ subst Leads (ap (λ (x : ℕ). x ∷ q) (sym (eqb-true b 92 y.0))) (leads_escape q y.1)
    | inr y ↦ leads_ordinary b q y.1
  ]
]

decoded_none : decoded [] ≡ []
unfolding decoded_behind
decoded_none = refl

utf8_within : (n : ℕ) (raw : List ℕ) → length raw ≤ n → AreCharacters raw → IsUtf8 (decoded raw)
utf8_within n [] h e = subst IsUtf8 (sym decoded_none) IsUtf8-nil
utf8_within zero (b ∷ q) h e = absurd (omega arith)
utf8_within (suc n) (b ∷ q) h e =
    let l : Leads (b ∷ q) = leads b q e in
    subst IsUtf8 (sym l.decodes) (IsUtf8-append l.bytes (decoded l.rest) l.encoded (utf8_within n l.rest (omega (arith, l.shorter)) l.goes_on))

pub IsUtf8-decoded : (raw : List ℕ) → AreCharacters raw → IsUtf8 (decoded raw)
IsUtf8-decoded raw e = utf8_within (length raw) raw (omega arith) e
