-- What a string stands for is UTF-8 where its content is: escapes are ASCII, so they are read from the characters as from the bytes.
use Rattle.std.proofs.Common.{◌≡◌, inl, inr, ℕ, suc, ◌≤◌, ◌<◌, Bool, true, false, ◌==◌, List, [], ◌∷◌, ◌++◌, length, get_or, IsUtf8, refl, sym, ◌∙◌, ap, arith, append-nil}
use Rattle.std.specs.Prelude.{if◌then◌else◌}
use Rattle.std.proofs.lemmas.Bool.{and_parts, cases_lt, cases_eq}
use Rattle.std.proofs.lemmas.Bool.Decides.{nat_tests}
use Rattle.std.proofs.lemmas.Str.{length-encode, len_utf8_bounds, encode_ascii, inside_one}
use lib.Utf8.{scalar, scalars, encode, encodes}
use Rattle.sexpr_read.specs.Tree.{meant, unescaped}

-- what a byte after a backslash stands for is ASCII where the byte is, and else the byte
low_meant : (x y : Bool) (d : ℕ) → d < 128 → (if x then 0x0A else (if y then 0x0D else d)) < 128
low_meant true y d h = omega arith
low_meant false true d h = omega arith
low_meant false false d h = h

meant_low : (d : ℕ) → d < 128 → meant d < 128
meant_low d h = low_meant (d == 0x6E) (d == 0x72) d h

meant_high : (d : ℕ) → 128 ≤ d → meant d ≡ d
meant_high d h =
    let n : (d == 0x6E) ≡ false = grind (arith, nat_tests, h) in
    let r : (d == 0x72) ≡ false = grind (arith, nat_tests, h) in
    rw (n, r) refl

scalar_by : (x y : Bool) (d : ℕ) → scalar d ≡ true → scalar (if x then 0x0A else (if y then 0x0D else d)) ≡ true
scalar_by true y d h = refl
scalar_by false true d h = refl
scalar_by false false d h = h

meant_scalar : (d : ℕ) → scalar d ≡ true → scalar (meant d) ≡ true
meant_scalar d h = scalar_by (d == 0x6E) (d == 0x72) d h

unescaped_none : unescaped [] ≡ []
unfolding unescaped
unescaped_none = refl

other_first : (b : ℕ) (bs : List ℕ) → (b ≡ 0x5C → ⊥) → unescaped (b ∷ bs) ≡ b ∷ unescaped bs
unfolding unescaped
other_first b [] h = refl
other_first b (c ∷ bs) h = let e : (b == 0x5C) ≡ false = grind (arith, nat_tests, h) in rw e refl

slash_last : unescaped (0x5C ∷ []) ≡ 0x5C ∷ []
unfolding unescaped
slash_last = refl

slash_first : (d : ℕ) (bs : List ℕ) → unescaped (0x5C ∷ d ∷ bs) ≡ meant d ∷ unescaped bs
unfolding unescaped
slash_first d bs = refl

-- the bytes of a character that is no ASCII
abbrev AreHigh : List ℕ → Type 0
AreHigh xs = (k : ℕ) → k < length xs → 128 ≤ get_or xs k 0

high_first : (xs rest : List ℕ) → AreHigh xs → unescaped (xs ++ rest) ≡ xs ++ unescaped rest
high_first [] rest h = refl
high_first (x ∷ xs) rest h =
    let high : 128 ≤ x = h 0 (omega arith) in
    other_first x (xs ++ rest) (λ e. omega arith) ∙ ap (λ l. x ∷ l) (high_first xs rest (λ k below. h (suc k) (omega arith)))

high_escaped : (xs rest : List ℕ) → 0 < length xs → AreHigh xs → unescaped (0x5C ∷ xs ++ rest) ≡ xs ++ unescaped rest
high_escaped [] rest some h = absurd (omega arith)
high_escaped (x ∷ xs) rest some h =
    let high : 128 ≤ x = h 0 (omega arith) in
    slash_first x (xs ++ rest) ∙ ap (λ y. y ∷ unescaped (xs ++ rest)) (meant_high x high)
    ∙ ap (λ l. x ∷ l) (high_first xs rest (λ k below. h (suc k) (omega arith)))

high_bytes : (c : ℕ) → 128 ≤ c → AreHigh (encode c)
high_bytes c big = λ k below. elim (cases_lt (get_or (encode c) k 0) 128) [
  | inl low ↦ absurd (omega (arith, inside_one c [] (encode c) k (sym (append-nil _)) below low))
  | inr h ↦ h
]

some_bytes : (c : ℕ) → 0 < length (encode c)
some_bytes c = omega (arith, length-encode c, (len_utf8_bounds c).0)

other_char : (c : ℕ) (rest : List ℕ) → (c ≡ 0x5C → ⊥) → unescaped (encode c ++ rest) ≡ encode c ++ unescaped rest
other_char c rest h = elim (cases_lt c 128) [
  | inl small ↦ rw (encode_ascii c small) (other_first c rest h)
  | inr big ↦ high_first (encode c) rest (high_bytes c big)
]

escaped_char : (d : ℕ) (rest : List ℕ) → unescaped (0x5C ∷ encode d ++ rest) ≡ encode (meant d) ++ unescaped rest
escaped_char d rest = elim (cases_lt d 128) [
  | inl small ↦ rw (encode_ascii d small, encode_ascii (meant d) (meant_low d small)) (slash_first d rest)
  | inr big ↦ rw (meant_high d big) (high_escaped (encode d) rest (some_bytes d) (high_bytes d big))
]

-- the characters with their escapes read
unescaped_chars : (cs : List ℕ) → unescaped (encodes cs) ≡ encodes (unescaped cs)
unescaped_chars [] = unescaped_none ∙ ap encodes (sym unescaped_none)
unescaped_chars (c ∷ []) = elim (cases_eq c 0x5C) [
  | inl e ↦ rw (e, encode_ascii 0x5C (omega arith), slash_last) (sym (append-nil _) ∙ ap (λ l. l ++ []) (sym (encode_ascii 0x5C (omega arith))))
  | inr h ↦ other_char c [] h ∙ ap (λ l. encode c ++ l) unescaped_none ∙ ap encodes (sym (other_first c [] h ∙ ap (λ l. c ∷ l) unescaped_none))
]
unescaped_chars (c ∷ d ∷ ds) = elim (cases_eq c 0x5C) [
  | inl e ↦ rw e (
      ap (λ l. unescaped (l ++ (encode d ++ encodes ds))) (encode_ascii 0x5C (omega arith)) ∙ escaped_char d (encodes ds)
      ∙ ap (λ l. encode (meant d) ++ l) (unescaped_chars ds) ∙ ap encodes (sym (slash_first d ds)))
  | inr h ↦ other_char c (encodes (d ∷ ds)) h ∙ ap (λ l. encode c ++ l) (unescaped_chars (d ∷ ds)) ∙ ap encodes (sym (other_first c (d ∷ ds) h))
]

scalars_more : (c : ℕ) (cs : List ℕ) → scalar c ≡ true → scalars cs ≡ true → scalars (c ∷ cs) ≡ true
scalars_more c cs h k = rw (h, k) refl

scalars_unescaped : (cs : List ℕ) → scalars cs ≡ true → scalars (unescaped cs) ≡ true
scalars_unescaped [] h = ap scalars unescaped_none
scalars_unescaped (c ∷ []) h = elim (cases_eq c 0x5C) [
  | inl e ↦ rw e (ap scalars slash_last)
  | inr other ↦ ap scalars (other_first c [] other ∙ ap (λ l. c ∷ l) unescaped_none) ∙ h
]
scalars_unescaped (c ∷ d ∷ ds) h =
    let parts = and_parts _ _ h in
    let rest = and_parts _ _ parts.1 in
    elim (cases_eq c 0x5C) [
      | inl e ↦ rw e (ap scalars (slash_first d ds) ∙ scalars_more (meant d) (unescaped ds) (meant_scalar d rest.0) (scalars_unescaped ds rest.1))
      | inr other ↦ ap scalars (other_first c (d ∷ ds) other) ∙ scalars_more c (unescaped (d ∷ ds)) parts.0 (scalars_unescaped (d ∷ ds) parts.1)
    ]

pub IsUtf8-unescaped : (bs : List ℕ) → IsUtf8 bs → IsUtf8 (unescaped bs)
IsUtf8-unescaped bs u = (unescaped u.0, (scalars_unescaped u.0 u.1.0, sym (unescaped_chars u.0) ∙ ap unescaped u.1.1))
