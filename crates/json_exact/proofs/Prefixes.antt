-- What the first character of a string's content stands for.
use Rattle.std.proofs.Common.{◌≡◌, ◌≢◌, ℕ, suc, ◌+◌, ◌-◌, ◌*◌, ◌<◌, ◌≤◌, List, [], ◌∷◌, ◌++◌, length, get_or, drop, Bool, true, false, refl, sym, ◌∙◌, ap, arith, append_assoc, eqb, ltb, leb, ◌&&◌, ◌/◌, ◌%◌}
use Rattle.std.proofs.lemmas.Bool.{eq-eqb, ne_eqb, eqb-true, eqb-false, lt-ltb, le-ltb, and_left, and_right, and_from, lt-leb, le-leb}
use lib.Utf8.{encode}
use Rattle.std.proofs.lemmas.List.{drop_all, append-nil, length-drop, get_or-drop, drop-drop}
use Rattle.std.specs.Char.{encode_utf8}
use Rattle.json_exact.specs.Characters.{decoded, decoded_behind, backslash_u, high_half, code_unit, is_high_surrogate, surrogate_pair, short_value}
use Rattle.json_exact.specs.ByteComparisons.{same_bytes, begins_with, piece_bytes, Prefixes}
use Rattle.json_exact.specs.declared.decode.Piece.{Piece}
use Rattle.json_exact.proofs.Scanning.{on, off}

pub prefix_plain : (raw : List ℕ) → 0 < length raw → get_or raw 0 0 ≢ 92 → decoded raw ≡ (get_or raw 0 0 ∷ []) ++ decoded (drop 1 raw)
unfolding decoded_behind
prefix_plain [] h n = absurd (omega arith)
prefix_plain (a ∷ raw) h n = off (eqb a 92) _ _ _ (ne_eqb a 92 n) refl

pub prefix_cut : (raw : List ℕ) → 0 < length raw → get_or raw 0 0 ≡ 92 → length raw < 2 → decoded raw ≡ [] ++ decoded (drop 1 raw)
unfolding decoded_behind
prefix_cut [] h e l = absurd (omega arith)
prefix_cut (a ∷ []) h e l = on (eqb a 92) _ _ _ (eq-eqb a 92 e) refl
prefix_cut (a ∷ b ∷ raw) h e l = absurd (omega arith)

pub prefix_short : (raw : List ℕ) → 2 ≤ length raw → get_or raw 0 0 ≡ 92 → get_or raw 1 0 ≢ 117 → decoded raw ≡ (short_value (get_or raw 1 0) ∷ []) ++ decoded (drop 2 raw)
unfolding decoded_behind
prefix_short [] h e n = absurd (omega arith)
prefix_short (a ∷ []) h e n = absurd (omega arith)
prefix_short (a ∷ b ∷ raw) h e n = on (eqb a 92) _ _ _ (eq-eqb a 92 e) (off (eqb b 117) _ _ _ (ne_eqb b 117 n) refl)

all_dropped : (raw : List ℕ) → drop (length raw) raw ≡ []
all_dropped [] = refl
all_dropped (a ∷ raw) = all_dropped raw

u_short : (raw : List ℕ) → length raw < 4 → decoded_behind backslash_u raw ≡ []
unfolding decoded_behind
u_short [] l = refl
u_short (a ∷ []) l = refl
u_short (a ∷ b ∷ []) l = refl
u_short (a ∷ b ∷ c ∷ []) l = refl
u_short (a ∷ b ∷ c ∷ d ∷ raw) l = absurd (omega arith)

none_left : (raw : List ℕ) → [] ++ decoded (drop (length raw) raw) ≡ []
unfolding decoded_behind
none_left raw = ap decoded (all_dropped raw)

pub prefix_u_cut : (raw : List ℕ) → 2 ≤ length raw → get_or raw 0 0 ≡ 92 → get_or raw 1 0 ≡ 117 → length raw < 6 → decoded raw ≡ [] ++ decoded (drop (length raw) raw)
unfolding decoded_behind
prefix_u_cut [] h e f l = absurd (omega arith)
prefix_u_cut (a ∷ []) h e f l = absurd (omega arith)
prefix_u_cut (a ∷ b ∷ raw) h e f l =
    on (eqb a 92) _ _ _ (eq-eqb a 92 e) (on (eqb b 117) _ _ _ (eq-eqb b 117 f) (u_short raw (omega arith))) ∙ sym (none_left (a ∷ b ∷ raw))

pub prefix_unit : (raw : List ℕ) → 6 ≤ length raw → get_or raw 0 0 ≡ 92 → get_or raw 1 0 ≡ 117
    → is_high_surrogate (code_unit (get_or raw 2 0) (get_or raw 3 0) (get_or raw 4 0) (get_or raw 5 0)) ≡ false
    → decoded raw ≡ encode_utf8 (code_unit (get_or raw 2 0) (get_or raw 3 0) (get_or raw 4 0) (get_or raw 5 0)) ++ decoded (drop 6 raw)
unfolding decoded_behind
prefix_unit [] h e f n = absurd (omega arith)
prefix_unit (a ∷ []) h e f n = absurd (omega arith)
prefix_unit (a ∷ b ∷ []) h e f n = absurd (omega arith)
prefix_unit (a ∷ b ∷ c ∷ []) h e f n = absurd (omega arith)
prefix_unit (a ∷ b ∷ c ∷ d ∷ []) h e f n = absurd (omega arith)
prefix_unit (a ∷ b ∷ c ∷ d ∷ x ∷ []) h e f n = absurd (omega arith)
prefix_unit (a ∷ b ∷ c ∷ d ∷ x ∷ y ∷ raw) h e f n =
    on (eqb a 92) _ _ _ (eq-eqb a 92 e) (on (eqb b 117) _ _ _ (eq-eqb b 117 f) (off (is_high_surrogate (code_unit c d x y)) _ _ _ n refl))

half_short : (u : ℕ) (raw : List ℕ) → length raw < 6 → decoded_behind (high_half u) raw ≡ []
unfolding decoded_behind
half_short u [] l = refl
half_short u (a ∷ []) l = refl
half_short u (a ∷ b ∷ []) l = refl
half_short u (a ∷ b ∷ c ∷ []) l = refl
half_short u (a ∷ b ∷ c ∷ d ∷ []) l = refl
half_short u (a ∷ b ∷ c ∷ d ∷ e ∷ []) l = refl
half_short u (a ∷ b ∷ c ∷ d ∷ e ∷ f ∷ raw) l = absurd (omega arith)

half_whole : (u : ℕ) (raw : List ℕ) → 6 ≤ length raw → decoded_behind (high_half u) raw ≡ encode_utf8 (surrogate_pair u (code_unit (get_or raw 2 0) (get_or raw 3 0) (get_or raw 4 0) (get_or raw 5 0))) ++ decoded (drop 6 raw)
unfolding decoded_behind
half_whole u [] l = absurd (omega arith)
half_whole u (a ∷ []) l = absurd (omega arith)
half_whole u (a ∷ b ∷ []) l = absurd (omega arith)
half_whole u (a ∷ b ∷ c ∷ []) l = absurd (omega arith)
half_whole u (a ∷ b ∷ c ∷ d ∷ []) l = absurd (omega arith)
half_whole u (a ∷ b ∷ c ∷ d ∷ e ∷ []) l = absurd (omega arith)
half_whole u (a ∷ b ∷ c ∷ d ∷ e ∷ f ∷ raw) l = refl

high_on : (raw : List ℕ) → 6 ≤ length raw → get_or raw 0 0 ≡ 92 → get_or raw 1 0 ≡ 117
    → is_high_surrogate (code_unit (get_or raw 2 0) (get_or raw 3 0) (get_or raw 4 0) (get_or raw 5 0)) ≡ true
    → decoded raw ≡ decoded_behind (high_half (code_unit (get_or raw 2 0) (get_or raw 3 0) (get_or raw 4 0) (get_or raw 5 0))) (drop 6 raw)
unfolding decoded_behind
high_on [] h e f n = absurd (omega arith)
high_on (a ∷ []) h e f n = absurd (omega arith)
high_on (a ∷ b ∷ []) h e f n = absurd (omega arith)
high_on (a ∷ b ∷ c ∷ []) h e f n = absurd (omega arith)
high_on (a ∷ b ∷ c ∷ d ∷ []) h e f n = absurd (omega arith)
high_on (a ∷ b ∷ c ∷ d ∷ x ∷ []) h e f n = absurd (omega arith)
high_on (a ∷ b ∷ c ∷ d ∷ x ∷ y ∷ raw) h e f n =
    on (eqb a 92) _ _ _ (eq-eqb a 92 e) (on (eqb b 117) _ _ _ (eq-eqb b 117 f) (on (is_high_surrogate (code_unit c d x y)) _ _ _ n refl))

pub prefix_half_cut : (raw : List ℕ) → 6 ≤ length raw → get_or raw 0 0 ≡ 92 → get_or raw 1 0 ≡ 117
    → is_high_surrogate (code_unit (get_or raw 2 0) (get_or raw 3 0) (get_or raw 4 0) (get_or raw 5 0)) ≡ true → length raw < 12 → decoded raw ≡ [] ++ decoded (drop (length raw) raw)
prefix_half_cut raw h e f n l =
    let size : length (drop 6 raw) ≡ length raw - 6 = length-drop 6 raw in
    high_on raw h e f n ∙ half_short _ (drop 6 raw) (omega arith) ∙ sym (none_left raw)

pub prefix_pair : (raw : List ℕ) → 12 ≤ length raw → get_or raw 0 0 ≡ 92 → get_or raw 1 0 ≡ 117
    → is_high_surrogate (code_unit (get_or raw 2 0) (get_or raw 3 0) (get_or raw 4 0) (get_or raw 5 0)) ≡ true
    → decoded raw ≡ encode_utf8 (surrogate_pair (code_unit (get_or raw 2 0) (get_or raw 3 0) (get_or raw 4 0) (get_or raw 5 0)) (code_unit (get_or raw 8 0) (get_or raw 9 0) (get_or raw 10 0) (get_or raw 11 0))) ++ decoded (drop 12 raw)
prefix_pair raw h e f n =
    let u : ℕ = code_unit (get_or raw 2 0) (get_or raw 3 0) (get_or raw 4 0) (get_or raw 5 0) in
    let size : length (drop 6 raw) ≡ length raw - 6 = length-drop 6 raw in
    let g : (i : ℕ) → get_or (drop 6 raw) i 0 ≡ get_or raw (6 + i) 0 = λ i. get_or-drop 6 raw i 0 in
    let low : code_unit (get_or (drop 6 raw) 2 0) (get_or (drop 6 raw) 3 0) (get_or (drop 6 raw) 4 0) (get_or (drop 6 raw) 5 0) ≡ code_unit (get_or raw 8 0) (get_or raw 9 0) (get_or raw 10 0) (get_or raw 11 0)
    = ap (λ (x : ℕ). code_unit x (get_or (drop 6 raw) 3 0) (get_or (drop 6 raw) 4 0) (get_or (drop 6 raw) 5 0)) (g 2) ∙ ap (λ (x : ℕ). code_unit (get_or raw 8 0) x (get_or (drop 6 raw) 4 0) (get_or (drop 6 raw) 5 0)) (g 3)
    ∙ ap (λ (x : ℕ). code_unit (get_or raw 8 0) (get_or raw 9 0) x (get_or (drop 6 raw) 5 0)) (g 4) ∙ ap (λ (x : ℕ). code_unit (get_or raw 8 0) (get_or raw 9 0) (get_or raw 10 0) x) (g 5) in
    high_on raw (omega arith) e f n ∙ half_whole u (drop 6 raw) (omega arith)
    ∙ ap (λ (x : ℕ). encode_utf8 (surrogate_pair u x) ++ decoded (drop 6 (drop 6 raw))) low
    ∙ ap (λ (x : List ℕ). encode_utf8 (surrogate_pair u (code_unit (get_or raw 8 0) (get_or raw 9 0) (get_or raw 10 0) (get_or raw 11 0))) ++ decoded x) (drop-drop 6 6 raw)

-- ---- compared

and_true : (a b : Bool) → a ≡ true → b ≡ (a && b)
and_true true b e = refl
and_true false b e = cc

same_prefix : (a b c : Bool) → (a && (b && c)) ≡ ((a && b) && c)
same_prefix true b c = refl
same_prefix false b c = refl

pub same_behind : (p x n : List ℕ) → same_bytes (p ++ x) n ≡ (begins_with p n && same_bytes x (drop (length p) n))
same_behind [] x n = refl
same_behind (a ∷ p) x [] = refl
same_behind (a ∷ p) x (b ∷ n) = ap (λ (y : Bool). eqb a b && y) (same_behind p x n) ∙ same_prefix (eqb a b) (begins_with p n) (same_bytes x (drop (length p) n))

and_false : (a b : Bool) → false ≡ b → false ≡ (a && b)
and_false true b e = e
and_false false b e = refl

pub too_short : (f t : List ℕ) → length t < length f → false ≡ begins_with f t
too_short [] t h = absurd (omega arith)
too_short (x ∷ f) [] h = refl
too_short (x ∷ f) (y ∷ t) h = and_false (eqb x y) (begins_with f t) (too_short f t (omega arith))

-- ---- UTF-8 by the size of the code

pub one_byte : (c : ℕ) → c < 128 → c ∷ [] ≡ encode c
unfolding encode
one_byte c h = sym (on (ltb c 128) _ _ _ (lt-ltb c 128 h) refl)

pub two_bytes : (c : ℕ) → 128 ≤ c → c < 2048 → (192 + c / 64) ∷ (128 + c % 64) ∷ [] ≡ encode c
unfolding encode
two_bytes c l h = sym (off (ltb c 128) _ _ _ (le-ltb c 128 l) (on (ltb c 2048) _ _ _ (lt-ltb c 2048 h) refl))

pub three_bytes : (c : ℕ) → 2048 ≤ c → c < 65536 → (224 + c / 4096) ∷ (128 + c / 64 % 64) ∷ (128 + c % 64) ∷ [] ≡ encode c
unfolding encode
three_bytes c l h =
    let l' : 128 ≤ c = omega arith in
    sym (off (ltb c 128) _ _ _ (le-ltb c 128 l') (off (ltb c 2048) _ _ _ (le-ltb c 2048 l) (on (ltb c 65536) _ _ _ (lt-ltb c 65536 h) refl)))

pub four_bytes : (c : ℕ) → 65536 ≤ c → (240 + c / 262144) ∷ (128 + c / 4096 % 64) ∷ (128 + c / 64 % 64) ∷ (128 + c % 64) ∷ [] ≡ encode c
unfolding encode
four_bytes c l =
    let l1 : 128 ≤ c = omega arith in
    let l2 : 2048 ≤ c = omega arith in
    sym (off (ltb c 128) _ _ _ (le-ltb c 128 l1) (off (ltb c 2048) _ _ _ (le-ltb c 2048 l2) (off (ltb c 65536) _ _ _ (le-ltb c 65536 l) refl)))

-- ---- a piece, and what it stands for

pub prefixes_of : (raw : List ℕ) (p : Piece) (used : ℕ) (bytes : List ℕ) → p.used ≡ used → piece_bytes p ≡ bytes → p.len ≤ 4 → length (piece_bytes p) ≡ p.len → 0 < used → used ≤ length raw
    → decoded raw ≡ bytes ++ decoded (drop used raw) → Prefixes raw p
prefixes_of raw p used bytes e f l z h k d = record {
  some = omega (arith, e);
  in_raw = omega (arith, e);
  fits = l;
  size = z;
  bytes = d ∙ ap (λ (x : List ℕ). x ++ decoded (drop used raw)) (sym f) ∙ ap (λ (n : ℕ). piece_bytes p ++ decoded (drop n raw)) (sym e);
}

pub low_unit : (u : ℕ) → u < 55296 → is_high_surrogate u ≡ false
low_unit u h = and_left (leb 55296 u) (leb u 56319) (lt-leb 55296 u h)

pub high_unit : (u : ℕ) → 56319 < u → is_high_surrogate u ≡ false
high_unit u h = and_right (leb 55296 u) (leb u 56319) (lt-leb u 56319 h)

pub is_high : (u : ℕ) → 55296 ≤ u → u ≤ 56319 → is_high_surrogate u ≡ true
is_high u h k = and_from (leb 55296 u) (leb u 56319) (le-leb 55296 u h) (le-leb u 56319 k)

pub pair_is : (u l s : ℕ) → s ≡ l - 56320 → encode_utf8 (65536 + ((u - 55296) * 1024 + s)) ≡ encode_utf8 (surrogate_pair u l)
pair_is u l s e = ap (λ (x : ℕ). encode_utf8 (65536 + ((u - 55296) * 1024 + x))) e

nothing_decoded : (raw : List ℕ) (i : ℕ) → i ≤ length raw → length raw ≤ i → decoded (drop i raw) ≡ []
unfolding decoded_behind
nothing_decoded raw i h k = ap decoded (drop_all i raw k)

pub all_appended : (raw : List ℕ) (i : ℕ) (out all : List ℕ) → i ≤ length raw → length raw ≤ i → out ++ decoded (drop i raw) ≡ all → out ≡ all
all_appended raw i out all h k e = sym (append-nil out) ∙ ap (λ (x : List ℕ). out ++ x) (sym (nothing_decoded raw i h k)) ∙ e

-- one piece on
pub appended_on : (raw : List ℕ) (i : ℕ) (p : Piece) (out all : List ℕ) → i ≤ length raw → Prefixes (drop i raw) p → out ++ decoded (drop i raw) ≡ all → (out ++ piece_bytes p) ++ decoded (drop (i + p.used) raw) ≡ all
appended_on raw i p out all h f e =
    append_assoc out (piece_bytes p) (decoded (drop (i + p.used) raw))
    ∙ ap (λ (x : List ℕ). out ++ (piece_bytes p ++ decoded x)) (sym (drop-drop p.used i raw)) ∙ ap (λ (x : List ℕ). out ++ x) (sym f.bytes) ∙ e

pub spelled_on : (raw name : List ℕ) (i j : ℕ) (p : Piece) → Prefixes (drop i raw) p → begins_with (piece_bytes p) (drop j name) ≡ true
    → same_bytes (decoded raw) name ≡ same_bytes (decoded (drop i raw)) (drop j name)
    → same_bytes (decoded raw) name ≡ same_bytes (decoded (drop (i + p.used) raw)) (drop (j + p.len) name)
spelled_on raw name i j p f b e =
    let len : length (piece_bytes p) ≡ p.len = f.size in
    e ∙ ap (λ (x : List ℕ). same_bytes x (drop j name)) f.bytes ∙ same_behind (piece_bytes p) (decoded (drop p.used (drop i raw))) (drop j name)
    ∙ ap (λ (x : Bool). x && same_bytes (decoded (drop p.used (drop i raw))) (drop (length (piece_bytes p)) (drop j name))) b
    ∙ ap (λ (n : ℕ). same_bytes (decoded (drop p.used (drop i raw))) (drop n (drop j name))) len
    ∙ ap (λ (x : List ℕ). same_bytes (decoded x) (drop p.len (drop j name))) (drop-drop p.used i raw) ∙ ap (λ (x : List ℕ). same_bytes (decoded (drop (i + p.used) raw)) x) (drop-drop p.len j name)

pub not_spelled : (raw name : List ℕ) (i j : ℕ) (p : Piece) → Prefixes (drop i raw) p → begins_with (piece_bytes p) (drop j name) ≡ false
    → same_bytes (decoded raw) name ≡ same_bytes (decoded (drop i raw)) (drop j name) → false ≡ same_bytes (decoded raw) name
not_spelled raw name i j p f b e =
    sym (e ∙ ap (λ (x : List ℕ). same_bytes x (drop j name)) f.bytes ∙ same_behind (piece_bytes p) (decoded (drop p.used (drop i raw))) (drop j name)
    ∙ ap (λ (x : Bool). x && same_bytes (decoded (drop p.used (drop i raw))) (drop (length (piece_bytes p)) (drop j name))) b)

same_none : (xs : List ℕ) → same_bytes [] xs ≡ eqb (length xs) 0
same_none [] = refl
same_none (x ∷ xs) = sym (ne_eqb (suc (length xs)) 0 (λ e. omega arith))

size_left : (j n : ℕ) → j ≤ n → eqb j n ≡ eqb (n - j) 0
size_left j n h = elim (eqb j n) as (λ v. eqb j n ≡ v → v ≡ eqb (n - j) 0) [
  | true ↦ λ e. sym (eq-eqb (n - j) 0 (omega (arith, eqb-true j n e)))
  | false ↦ λ e. sym (ne_eqb (n - j) 0 (λ f. eqb-false j n e (omega arith)))
] refl

pub all_spelled : (raw name : List ℕ) (i j : ℕ) → i ≤ length raw → length raw ≤ i → j ≤ length name
    → same_bytes (decoded raw) name ≡ same_bytes (decoded (drop i raw)) (drop j name) → eqb j (length name) ≡ same_bytes (decoded raw) name
all_spelled raw name i j h k l e =
    sym (e ∙ ap (λ (x : List ℕ). same_bytes x (drop j name)) (nothing_decoded raw i h k) ∙ same_none (drop j name)
    ∙ ap (λ (n : ℕ). eqb n 0) (length-drop j name) ∙ sym (size_left j (length name) l))
