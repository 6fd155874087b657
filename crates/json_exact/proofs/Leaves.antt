-- A leaf, both ways: what it leaves to be read behind it.
use Rattle.std.proofs.Common.{◌≡◌, ◌≢◌, ℕ, ◌+◌, List, [], ◌∷◌, ◌++◌, length, drop, Bool, true, false, cond, refl, sym, ◌∙◌, ap, subst, arith, inl, inr, Some, eqb, append_assoc}
use Rattle.std.proofs.lemmas.Bool.{both_ways, eqb-false, eqb-true}
use Rattle.std.proofs.lemmas.List.{append-nil}
use Rattle.json_exact.specs.Json.{Word, null_word, true_word, false_word, Leaf, word, number, string, Bracket, square, curly, Name, Json, leaf}
use Rattle.json_exact.specs.Characters.{whole, AreCharacters, decoded}
use Rattle.json_exact.specs.JsonNumbers.{is_digit, IsNumber}
use Rattle.json_exact.specs.Scans.{is_in_number, written, may_end}
use Rattle.json_exact.specs.JsonText.{Blanks, letters, IsLeaf, opening}
use Rattle.json_exact.specs.JsonRests.{Frame, Behind, Before, BeforeName, BeforeColon, Limit, any, no_number, Counts}
use Rattle.json_exact.specs.declared.scan.Last.TheVariants.{Nothing, Misplaced}
use Rattle.json_exact.proofs.Walks.{characters_unique}
use Rattle.json_exact.proofs.Digits.{number_ends, in_number, ends_placed, number_stuck, not_in_number}
use Rattle.json_exact.proofs.Blanks.{no_blanks, firm_prefix, Starts, leaf_starts, start_firm}
use Rattle.json_exact.proofs.Steps.{LeafFound, leaf_found, behind_clear}

pub cancel : (p s t : List ℕ) → p ++ s ≡ p ++ t → s ≡ t
cancel [] s t e = e
cancel (b ∷ p) s t e = (let others : p ++ s ≡ p ++ t = cc in cancel p s t others)

-- the first byte tells the kind of a leaf
abbrev pub class : Leaf → ℕ
class (word null_word) = 0
class (word true_word) = 1
class (word false_word) = 2
class (number ds) = 3
class (string t) = 4

abbrev pub class_at : ℕ → ℕ
class_at b = cond (eqb b 110) 0 (cond (eqb b 116) 1 (cond (eqb b 102) 2 (cond (eqb b 34) 4 3)))

apart_digit : (c b : ℕ) → is_digit c ≡ false → is_digit b ≡ true → eqb b c ≡ false
apart_digit c b h k = elim (eqb b c) as (λ v. eqb b c ≡ v → v ≡ false)
    [ true ↦ λ e. absurd (both_ways (is_digit c) h (ap is_digit (sym (eqb-true b c e)) ∙ k)) | false ↦ λ e. refl ] refl

off : {A : Type 0} (b : Bool) (x y z : A) → b ≡ false → y ≡ z → cond b x y ≡ z
off true x y z e h = cc
off false x y z e h = h

pub class_starts : (l : Leaf) (b : ℕ) → Starts l b → class_at b ≡ class l
class_starts (word null_word) b h = ap class_at h
class_starts (word true_word) b h = ap class_at h
class_starts (word false_word) b h = ap class_at h
class_starts (number ds) b (inl h) = ap class_at h
class_starts (number ds) b (inr h) =
    off (eqb b 110) 0 (cond (eqb b 116) 1 (cond (eqb b 102) 2 (cond (eqb b 34) 4 3))) 3 (apart_digit 110 b refl h)
    (off (eqb b 116) 1 (cond (eqb b 102) 2 (cond (eqb b 34) 4 3)) 3 (apart_digit 116 b refl h)
    (off (eqb b 102) 2 (cond (eqb b 34) 4 3) 3 (apart_digit 102 b refl h)
    (off (eqb b 34) 4 3 3 (apart_digit 34 b refl h) refl)))
class_starts (string t) b h = ap class_at h

number_same_rest : (p : List ℕ) (c : ℕ) (t m r q : List ℕ) → may_end (written Nothing p) ≡ true → is_in_number c ≡ false → Counts no_number r
    → p ≡ m ++ q → r ≡ q ++ c ∷ t → (p ≡ m) × (c ∷ t ≡ r)
number_same_rest p c t m r [] h free d e f = (e ∙ append-nil m, sym f)
number_same_rest p c t m r (b ∷ q) h free d e f =
    let placed : written Nothing (m ++ b ∷ q) ≢ Misplaced = subst (λ (x : List ℕ). written Nothing x ≢ Misplaced) e (ends_placed (written Nothing p) h) in
    let clear : is_in_number b ≡ false = subst (Counts no_number) f d in
    absurd (both_ways (is_in_number b) clear (in_number Nothing m b q placed))

-- a number is written to where no byte of a number follows
pub number_same : (p t m r : List ℕ) → may_end (written Nothing p) ≡ true → IsNumber m → Counts no_number t → Counts no_number r
    → p ++ t ≡ m ++ r → (p ≡ m) × (t ≡ r)
number_same p [] m [] h k c d e = (sym (append-nil p) ∙ e ∙ append-nil m, refl)
number_same p [] m (b ∷ r) h k c d e =
    let all : p ≡ m ++ b ∷ r = sym (append-nil p) ∙ e in
    let placed : written Nothing (m ++ b ∷ r) ≢ Misplaced = subst (λ (q : List ℕ). written Nothing q ≢ Misplaced) all (ends_placed (written Nothing p) h) in
    absurd (both_ways (is_in_number b) d (in_number Nothing m b r placed))
number_same p (c ∷ t) m r h k free d e =
    let i = number_stuck Nothing p c t m r (not_in_number (written Nothing p) c free) (number_ends m k) e in
    number_same_rest p c t m r i.0 h free d i.1 i.2

abbrev pub limit_of : Leaf → Limit
limit_of (word w) = any
limit_of (number ds) = no_number
limit_of (string t) = any

word_same : (w : Word) (p m t r : List ℕ) → p ≡ letters w → m ≡ letters w → p ++ t ≡ m ++ r → t ≡ r
word_same w p m t r h k e = cancel m t r (subst (λ (q : List ℕ). q ++ t ≡ m ++ r) (h ∙ sym k) e)

string_same : (raw other t r : List ℕ) → AreCharacters raw → AreCharacters other → (34 ∷ raw ++ 34 ∷ []) ++ t ≡ (34 ∷ other ++ 34 ∷ []) ++ r → (raw ≡ other) × (t ≡ r)
string_same raw other t r h k e =
    let e1 : (raw ++ 34 ∷ []) ++ t ≡ (other ++ 34 ∷ []) ++ r = ap (drop 1) e in
    let e2 : raw ++ 34 ∷ t ≡ other ++ 34 ∷ r = sym (append_assoc raw (34 ∷ []) t) ∙ e1 ∙ append_assoc other (34 ∷ []) r in
    characters_unique whole raw other t r h k e2

pub leaf_same : (l k : Leaf) (p m t r : List ℕ) → class l ≡ class k → IsLeaf l p → IsLeaf k m → Counts (limit_of l) t → Counts no_number r
    → p ++ t ≡ m ++ r → (l ≡ k) × (t ≡ r)
leaf_same (word null_word) (word null_word) p m t r c h k free cl e = (refl, word_same null_word p m t r h k e)
leaf_same (word null_word) (word true_word) p m t r c h k free cl e = absurd (eqb-false 0 1 refl c)
leaf_same (word null_word) (word false_word) p m t r c h k free cl e = absurd (eqb-false 0 2 refl c)
leaf_same (word null_word) (number y) p m t r c h k free cl e = absurd (eqb-false 0 3 refl c)
leaf_same (word null_word) (string y) p m t r c h k free cl e = absurd (eqb-false 0 4 refl c)
leaf_same (word true_word) (word null_word) p m t r c h k free cl e = absurd (eqb-false 1 0 refl c)
leaf_same (word true_word) (word true_word) p m t r c h k free cl e = (refl, word_same true_word p m t r h k e)
leaf_same (word true_word) (word false_word) p m t r c h k free cl e = absurd (eqb-false 1 2 refl c)
leaf_same (word true_word) (number y) p m t r c h k free cl e = absurd (eqb-false 1 3 refl c)
leaf_same (word true_word) (string y) p m t r c h k free cl e = absurd (eqb-false 1 4 refl c)
leaf_same (word false_word) (word null_word) p m t r c h k free cl e = absurd (eqb-false 2 0 refl c)
leaf_same (word false_word) (word true_word) p m t r c h k free cl e = absurd (eqb-false 2 1 refl c)
leaf_same (word false_word) (word false_word) p m t r c h k free cl e = (refl, word_same false_word p m t r h k e)
leaf_same (word false_word) (number y) p m t r c h k free cl e = absurd (eqb-false 2 3 refl c)
leaf_same (word false_word) (string y) p m t r c h k free cl e = absurd (eqb-false 2 4 refl c)
leaf_same (number x) (word null_word) p m t r c h k free cl e = absurd (eqb-false 3 0 refl c)
leaf_same (number x) (word true_word) p m t r c h k free cl e = absurd (eqb-false 3 1 refl c)
leaf_same (number x) (word false_word) p m t r c h k free cl e = absurd (eqb-false 3 2 refl c)
leaf_same (number x) (number y) p m t r c h k free cl e = (let both = number_same p t m r (number_ends p h.0) k.0 free cl e in (ap number (h.1 ∙ both.0 ∙ sym k.1), both.1))
leaf_same (number x) (string y) p m t r c h k free cl e = absurd (eqb-false 3 4 refl c)
leaf_same (string x) (word null_word) p m t r c h k free cl e = absurd (eqb-false 4 0 refl c)
leaf_same (string x) (word true_word) p m t r c h k free cl e = absurd (eqb-false 4 1 refl c)
leaf_same (string x) (word false_word) p m t r c h k free cl e = absurd (eqb-false 4 2 refl c)
leaf_same (string x) (number y) p m t r c h k free cl e = absurd (eqb-false 4 3 refl c)
leaf_same (string x) (string y) p m t r c h k free cl e =
    let e1 : (34 ∷ h.0 ++ 34 ∷ []) ++ t ≡ m ++ r = ap (λ (q : List ℕ). q ++ t) (sym h.2) ∙ e in
    let e2 : (34 ∷ h.0 ++ 34 ∷ []) ++ t ≡ (34 ∷ k.0 ++ 34 ∷ []) ++ r = e1 ∙ ap (λ (q : List ℕ). q ++ r) k.2 in
    let both = string_same h.0 k.0 t r h.1 k.1 e2 in
    (ap string (h.3 ∙ ap decoded both.0 ∙ sym k.3), both.1)

not_91 : (l : Leaf) → Starts l 91 → ⊥
not_91 (word null_word) h = eqb-false 91 110 refl h
not_91 (word true_word) h = eqb-false 91 116 refl h
not_91 (word false_word) h = eqb-false 91 102 refl h
not_91 (number ds) (inl h) = eqb-false 91 45 refl h
not_91 (number ds) (inr h) = both_ways false refl h
not_91 (string t) h = eqb-false 91 34 refl h

not_123 : (l : Leaf) → Starts l 123 → ⊥
not_123 (word null_word) h = eqb-false 123 110 refl h
not_123 (word true_word) h = eqb-false 123 116 refl h
not_123 (word false_word) h = eqb-false 123 102 refl h
not_123 (number ds) (inl h) = eqb-false 123 45 refl h
not_123 (number ds) (inr h) = both_ways false refl h
not_123 (string t) h = eqb-false 123 34 refl h

pub leaf_not_opening : (l : Leaf) (c : ℕ) → Starts l c → (b : Bracket) → c ≢ opening b
leaf_not_opening l c h square e = not_91 l (subst (Starts l) e h)
leaf_not_opening l c h curly e = not_123 l (subst (Starts l) e h)

pub leaf_into : (d n : ℕ) (fs : List Frame) (l : Leaf) (bytes : List ℕ) (from to : ℕ) (t : List ℕ) (v : Json) → IsLeaf l bytes → Counts (limit_of l) t
    → from + length (bytes ++ t) ≡ n → to + length t ≡ n → Before d n fs (bytes ++ t) v → Behind d n fs (leaf l from to) t v
leaf_into d n fs l bytes from to t v h free p q bf =
    let st = leaf_starts l bytes h in
    let c : ℕ = st.0 in
    let whole' : bytes ++ t ≡ c ∷ (st.1 ++ t) = ap (λ (x : List ℕ). x ++ t) st.2 in
    let f : LeafFound d n fs c (st.1 ++ t) v = leaf_found d n fs c (st.1 ++ t) v (start_firm l c st.3) (leaf_not_opening l c st.3) (subst (λ (x : List ℕ). Before d n fs x v) whole' bf) in
    let cl : class l ≡ class f.leaf' = sym (class_starts l c st.3) ∙ class_starts f.leaf' c f.starts in
    let same : (l ≡ f.leaf') × (t ≡ f.rest) = leaf_same l f.leaf' bytes f.bytes t f.rest cl h f.is_leaf free (behind_clear d n fs _ f.rest v f.behind) (whole' ∙ f.prefix) in
    let len : from + length (c ∷ (st.1 ++ t)) ≡ n = subst (λ (x : List ℕ). from + length x ≡ n) whole' p in
    let begins : f.from + length (c ∷ (st.1 ++ t)) ≡ n = f.begins in
    let a : f.from ≡ from = omega arith in
    let len2 : f.to + length t ≡ n = subst (λ (x : List ℕ). f.to + length x ≡ n) (sym same.1) f.ends in
    let z : f.to ≡ to = omega arith in
    let l' : f.leaf' ≡ l = sym same.0 in
    let w : leaf f.leaf' f.from f.to ≡ leaf l from to = cc in
    let one : Behind d n fs (leaf f.leaf' f.from f.to) t v = subst (λ (x : List ℕ). Behind d n fs (leaf f.leaf' f.from f.to) x v) (sym same.1) f.behind in
    subst (λ (x : Json). Behind d n fs x t v) w one

-- ---- a name

pub name_is : (name : Name) (a b : ℕ) (x : List ℕ) → name.from ≡ a → name.to ≡ b → name.text ≡ x → name ≡ record { from = a; to = b; text = x }
name_is name a b x e f g =
    ap (λ (q : ℕ). record { from = q; to = name.to; text = name.text }) e ∙ ap (λ (q : ℕ). record { from = a; to = q; text = name.text }) f
    ∙ ap (λ (q : List ℕ). record { from = a; to = b; text = q }) g

pub name_into : (d n : ℕ) (f : Frame) (fs : List Frame) (raw : List ℕ) (from to : ℕ) (t : List ℕ) (v : Json) → AreCharacters raw
    → from + length ((34 ∷ raw ++ 34 ∷ []) ++ t) ≡ n → to + length t ≡ n
    → BeforeName d n f fs ((34 ∷ raw ++ 34 ∷ []) ++ t) v → BeforeColon d n (record f { name = Some (record { from = from; to = to; text = decoded raw }) } ∷ fs) t v
name_into d n f fs raw from to t v h p q (name, s, r, u, bl, sl, bc, bf) =
    let at : s ≡ (34 ∷ raw ++ 34 ∷ []) ++ t = firm_prefix 34 ((raw ++ 34 ∷ []) ++ t) s refl bl in
    let e : (34 ∷ raw ++ 34 ∷ []) ++ t ≡ (34 ∷ sl.1.0 ++ 34 ∷ []) ++ r = sym at ∙ sl.2 ∙ ap (λ (x : List ℕ). x ++ r) sl.1.2 in
    let both : (raw ≡ sl.1.0) × (t ≡ r) = string_same raw sl.1.0 t r h sl.1.1 e in
    let len : name.from + length ((34 ∷ raw ++ 34 ∷ []) ++ t) ≡ n = subst (λ (x : List ℕ). name.from + length x ≡ n) at sl.3 in
    let a : name.from ≡ from = omega arith in
    let len2 : name.to + length t ≡ n = subst (λ (x : List ℕ). name.to + length x ≡ n) (sym both.1) sl.4 in
    let z : name.to ≡ to = omega arith in
    let x : name.text ≡ decoded raw = sl.1.3 ∙ ap decoded (sym both.0) in
    let same : name ≡ record { from = from; to = to; text = decoded raw } = name_is name from to (decoded raw) a z x in
    (u, subst (λ (y : List ℕ). Blanks y (58 ∷ u)) (sym both.1) bc, subst (λ (y : Name). Before d n (record f { name = Some y } ∷ fs) u v) same bf)

pub name_back : (d n : ℕ) (f : Frame) (fs : List Frame) (raw : List ℕ) (from to : ℕ) (t : List ℕ) (v : Json) → AreCharacters raw
    → from + length ((34 ∷ raw ++ 34 ∷ []) ++ t) ≡ n → to + length t ≡ n
    → BeforeColon d n (record f { name = Some (record { from = from; to = to; text = decoded raw }) } ∷ fs) t v → BeforeName d n f fs ((34 ∷ raw ++ 34 ∷ []) ++ t) v
name_back d n f fs raw from to t v h p q (u, bc, bf) = (
  record { from = from; to = to; text = decoded raw },
  (34 ∷ raw ++ 34 ∷ []) ++ t,
  t,
  u,
  no_blanks ((34 ∷ raw ++ 34 ∷ []) ++ t),
  (34 ∷ raw ++ 34 ∷ [], (raw, h, refl, refl), refl, p, q),
  bc,
  bf,
)
