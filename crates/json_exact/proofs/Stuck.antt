-- Where nothing goes on.
use Rattle.std.proofs.Common.{◌≡◌, ◌≢◌, ℕ, suc, ◌+◌, ◌<◌, List, [], ◌∷◌, ◌++◌, length, get_or, take, drop, true, false, refl, sym, ◌∙◌, ap, subst, arith, inl, inr, Option, Some, None, append_assoc, length-append}
use Rattle.std.proofs.lemmas.Bool.{both_ways, eqb-false}
use Rattle.std.proofs.lemmas.List.{append-nil, get_or_at, get_or_append_left, length-take-le}
use Rattle.json_exact.specs.Json.{Word, null_word, true_word, false_word, Leaf, word, number, string, Bracket, square, curly, Name, Json, leaf, nest, no_parts, part}
use Rattle.json_exact.specs.Characters.{refused, whole, step, steps, AreCharacters}
use Rattle.json_exact.specs.JsonNumbers.{is_digit, IsNumber}
use Rattle.json_exact.specs.Scans.{is_in_number, then, written, may_end}
use Rattle.json_exact.specs.JsonText.{is_blank, letters, IsLeaf, opening, closing, SpellsPart, Spells}
use Rattle.json_exact.specs.JsonRests.{Frame, Behind, Before, Opened, BeforeName, BeforeColon, no_number, Counts}
use Rattle.json_exact.specs.declared.scan.Last.TheVariants.{Nothing, Misplaced}
use Rattle.json_exact.proofs.Walks.{string_stuck, string_open}
use Rattle.json_exact.proofs.Digits.{number_ends, in_number, number_stuck}
use Rattle.json_exact.proofs.Blanks.{firm_prefix, nothing_prefix, Starts, leaf_starts, start_firm}
use Rattle.json_exact.proofs.Steps.{LeafFound, leaf_found, behind_clear, heads}
use Rattle.json_exact.proofs.Leaves.{class, class_at, class_starts, leaf_not_opening}

-- ---- before a value

pub before_end : (d n : ℕ) (fs : List Frame) (v : Json) → Before d n fs [] v → ⊥
before_end d n fs v (leaf l a z, s, m, bl, sp, bh) =
    let none : s ≡ [] = nothing_prefix s bl in
    let st = leaf_starts l sp.0 sp.1 in
    let e : [] ≡ (st.0 ∷ st.1) ++ m = sym none ∙ sp.2 ∙ ap (λ (q : List ℕ). q ++ m) st.2 in cc
before_end d n fs v (nest k a z ps, s, m, bl, sp, bh) =
    let none : s ≡ [] = nothing_prefix s bl in
    let e : [] ≡ opening k ∷ sp.3.0 = sym none ∙ sp.3.1 in cc

pub before_dead : (d n : ℕ) (fs : List Frame) (c : ℕ) (q : List ℕ) (v : Json) → is_blank c ≡ false → ((b : Bracket) → c ≢ opening b)
    → ((l : Leaf) → Starts l c → ⊥) → Before d n fs (c ∷ q) v → ⊥
before_dead d n fs c q v firm ne dead bf = (let f = leaf_found d n fs c q v firm ne bf in dead f.leaf' f.starts)

-- no leaf begins with such a byte
pub no_leaf : (c : ℕ) → c ≢ 110 → c ≢ 116 → c ≢ 102 → c ≢ 45 → is_digit c ≡ false → c ≢ 34 → (l : Leaf) → Starts l c → ⊥
no_leaf c a b e f g i (word null_word) h = a h
no_leaf c a b e f g i (word true_word) h = b h
no_leaf c a b e f g i (word false_word) h = e h
no_leaf c a b e f g i (number ds) (inl h) = f h
no_leaf c a b e f g i (number ds) (inr h) = both_ways (is_digit c) g h
no_leaf c a b e f g i (string t) h = i h

-- ---- a word

first_letter : (w : Word) (l : Leaf) → Starts l (get_or (letters w) 0 0) → class_at (get_or (letters w) 0 0) ≡ class l
first_letter w l h = class_starts l (get_or (letters w) 0 0) h

word_only : (w : Word) (l : Leaf) → class_at (get_or (letters w) 0 0) ≡ class l → l ≡ word w
word_only null_word (word null_word) e = refl
word_only null_word (word true_word) e = absurd (eqb-false 0 1 refl e)
word_only null_word (word false_word) e = absurd (eqb-false 0 2 refl e)
word_only null_word (number ds) e = absurd (eqb-false 0 3 refl e)
word_only null_word (string t) e = absurd (eqb-false 0 4 refl e)
word_only true_word (word null_word) e = absurd (eqb-false 1 0 refl e)
word_only true_word (word true_word) e = refl
word_only true_word (word false_word) e = absurd (eqb-false 1 2 refl e)
word_only true_word (number ds) e = absurd (eqb-false 1 3 refl e)
word_only true_word (string t) e = absurd (eqb-false 1 4 refl e)
word_only false_word (word null_word) e = absurd (eqb-false 2 0 refl e)
word_only false_word (word true_word) e = absurd (eqb-false 2 1 refl e)
word_only false_word (word false_word) e = refl
word_only false_word (number ds) e = absurd (eqb-false 2 3 refl e)
word_only false_word (string t) e = absurd (eqb-false 2 4 refl e)

word_first : (w : Word) → Starts (word w) (get_or (letters w) 0 0)
word_first null_word = refl
word_first true_word = refl
word_first false_word = refl

-- what begins as a word does, and is a value, is the word
word_found : (d n : ℕ) (fs : List Frame) (w : Word) (q : List ℕ) (v : Json)
    → Before d n fs (get_or (letters w) 0 0 ∷ q) v → (r : List ℕ) × (get_or (letters w) 0 0 ∷ q ≡ letters w ++ r)
word_found d n fs w q v bf =
    let c : ℕ = get_or (letters w) 0 0 in
    let f : LeafFound d n fs c q v = leaf_found d n fs c q v (start_firm (word w) c (word_first w)) (leaf_not_opening (word w) c (word_first w)) bf in
    let is : f.leaf' ≡ word w = word_only w f.leaf' (first_letter w f.leaf' f.starts) in
    let bytes : f.bytes ≡ letters w = subst (λ (l : Leaf). IsLeaf l f.bytes) is f.is_leaf in
    (f.rest, f.prefix ∙ ap (λ (x : List ℕ). x ++ f.rest) bytes)

word_cons : (w : Word) (i : ℕ) → take (suc i) (letters w) ≡ get_or (letters w) 0 0 ∷ take i (drop 1 (letters w))
word_cons null_word i = refl
word_cons true_word i = refl
word_cons false_word i = refl

pub word_dead : (d n : ℕ) (fs : List Frame) (w : Word) (i b : ℕ) (rest : List ℕ) (v : Json) → suc i < length (letters w) → b ≢ get_or (letters w) (suc i) 0
    → Before d n fs (take (suc i) (letters w) ++ b ∷ rest) v → ⊥
word_dead d n fs w i b rest v lt ne bf =
    let e : take (suc i) (letters w) ++ b ∷ rest ≡ get_or (letters w) 0 0 ∷ (take i (drop 1 (letters w)) ++ b ∷ rest) = ap (λ (q : List ℕ). q ++ b ∷ rest) (word_cons w i) in
    let f = word_found d n fs w (take i (drop 1 (letters w)) ++ b ∷ rest) v (subst (λ (q : List ℕ). Before d n fs q v) e bf) in
    let both : take (suc i) (letters w) ++ b ∷ rest ≡ letters w ++ f.0 = e ∙ f.1 in
    let len : length (take (suc i) (letters w)) ≡ suc i = length-take-le (suc i) (letters w) (omega arith) in
    ne (sym (get_or_at (take (suc i) (letters w)) b rest 0 (suc i) len) ∙ ap (λ (q : List ℕ). get_or q (suc i) 0) both ∙ get_or_append_left (letters w) f.0 0 (suc i) lt)

pub word_end : (d n : ℕ) (fs : List Frame) (w : Word) (i : ℕ) (v : Json) → suc i < length (letters w) → Before d n fs (take (suc i) (letters w)) v → ⊥
word_end d n fs w i v lt bf =
    let f = word_found d n fs w (take i (drop 1 (letters w))) v (subst (λ (q : List ℕ). Before d n fs q v) (word_cons w i) bf) in
    let both : take (suc i) (letters w) ≡ letters w ++ f.0 = word_cons w i ∙ f.1 in
    let len : length (take (suc i) (letters w)) ≡ suc i = length-take-le (suc i) (letters w) (omega arith) in
    let len2 : length (take (suc i) (letters w)) ≡ length (letters w) + length f.0 = ap length both ∙ length-append (letters w) f.0 in
    omega arith

-- ---- a number

number_only : (l : Leaf) (bytes : List ℕ) → class l ≡ 3 → IsLeaf l bytes → IsNumber bytes
number_only (word null_word) bytes e h = absurd (eqb-false 0 3 refl e)
number_only (word true_word) bytes e h = absurd (eqb-false 1 3 refl e)
number_only (word false_word) bytes e h = absurd (eqb-false 2 3 refl e)
number_only (number ds) bytes e h = h.0
number_only (string t) bytes e h = absurd (eqb-false 4 3 refl e)

-- what begins as a number does, and is a value, is a number
number_found : (d n : ℕ) (fs : List Frame) (c : ℕ) (q : List ℕ) (v : Json) → Starts (number []) c → Before d n fs (c ∷ q) v
    → (m r : List ℕ) × IsNumber m × (c ∷ q ≡ m ++ r) × Counts no_number r
number_found d n fs c q v st bf =
    let f : LeafFound d n fs c q v = leaf_found d n fs c q v (start_firm (number []) c st) (leaf_not_opening (number []) c st) bf in
    let cl : class f.leaf' ≡ 3 = sym (class_starts f.leaf' c f.starts) ∙ class_starts (number []) c st in
    (f.bytes, f.rest, number_only f.leaf' f.bytes cl f.is_leaf, f.prefix, behind_clear d n fs _ f.rest v f.behind)

number_rest : (p m q : List ℕ) (b : ℕ) (rest r : List ℕ) → written Nothing p ≢ Misplaced → (may_end (written Nothing p) ≡ true → is_in_number b ≡ true)
    → IsNumber m → Counts no_number r → p ≡ m ++ q → r ≡ q ++ b ∷ rest → ⊥
number_rest p m [] b rest r alive unended h cl e f =
    let ended : may_end (written Nothing p) ≡ true = subst (λ (x : List ℕ). may_end (written Nothing x) ≡ true) (sym (e ∙ append-nil m)) (number_ends m h) in
    both_ways (is_in_number b) (subst (Counts no_number) f cl) (unended ended)
number_rest p m (c ∷ q) b rest r alive unended h cl e f =
    let placed : written Nothing (m ++ c ∷ q) ≢ Misplaced = subst (λ (x : List ℕ). written Nothing x ≢ Misplaced) e alive in
    both_ways (is_in_number c) (subst (Counts no_number) f cl) (in_number Nothing m c q placed)

pub number_dead : (d n : ℕ) (fs : List Frame) (c : ℕ) (p : List ℕ) (b : ℕ) (rest : List ℕ) (v : Json) → Starts (number []) c
    → written Nothing (c ∷ p) ≢ Misplaced → then (written Nothing (c ∷ p)) b ≡ Misplaced → (may_end (written Nothing (c ∷ p)) ≡ true → is_in_number b ≡ true)
    → Before d n fs ((c ∷ p) ++ b ∷ rest) v → ⊥
number_dead d n fs c p b rest v st alive stuck unended bf =
    let f = number_found d n fs c (p ++ b ∷ rest) v st bf in
    let i = number_stuck Nothing (c ∷ p) b rest f.0 f.1 stuck (number_ends f.0 f.2) f.3 in
    number_rest (c ∷ p) f.0 i.0 b rest f.1 alive unended f.2 f.4 i.1 i.2

number_left : (p m r : List ℕ) → written Nothing p ≢ Misplaced → may_end (written Nothing p) ≡ false → IsNumber m → Counts no_number r → p ≡ m ++ r → ⊥
number_left p m [] alive unended h cl e =
    both_ways (may_end (written Nothing p)) unended (subst (λ (x : List ℕ). may_end (written Nothing x) ≡ true) (sym (e ∙ append-nil m)) (number_ends m h))
number_left p m (c ∷ r) alive unended h cl e =
    let placed : written Nothing (m ++ c ∷ r) ≢ Misplaced = subst (λ (x : List ℕ). written Nothing x ≢ Misplaced) e alive in
    both_ways (is_in_number c) cl (in_number Nothing m c r placed)

pub number_end : (d n : ℕ) (fs : List Frame) (c : ℕ) (p : List ℕ) (v : Json) → Starts (number []) c
    → written Nothing (c ∷ p) ≢ Misplaced → may_end (written Nothing (c ∷ p)) ≡ false → Before d n fs (c ∷ p) v → ⊥
number_end d n fs c p v st alive unended bf =
    let f = number_found d n fs c p v st bf in
    number_left (c ∷ p) f.0 f.1 alive unended f.2 f.4 f.3

-- ---- a string, and a name

string_only : (l : Leaf) (bytes : List ℕ) → class l ≡ 4 → IsLeaf l bytes → (raw : List ℕ) × AreCharacters raw × (bytes ≡ 34 ∷ raw ++ 34 ∷ [])
string_only (word null_word) bytes e h = absurd (eqb-false 0 4 refl e)
string_only (word true_word) bytes e h = absurd (eqb-false 1 4 refl e)
string_only (word false_word) bytes e h = absurd (eqb-false 2 4 refl e)
string_only (number ds) bytes e h = absurd (eqb-false 3 4 refl e)
string_only (string t) bytes e h = (h.0, h.1, h.2)

quoted : (raw r q bytes : List ℕ) → bytes ≡ 34 ∷ raw ++ 34 ∷ [] → 34 ∷ q ≡ bytes ++ r → q ≡ raw ++ 34 ∷ r
quoted raw r q bytes e f =
    let g : 34 ∷ q ≡ (34 ∷ raw ++ 34 ∷ []) ++ r = f ∙ ap (λ (x : List ℕ). x ++ r) e in
    let h : q ≡ (raw ++ 34 ∷ []) ++ r = ap (drop 1) g in
    h ∙ append_assoc raw (34 ∷ []) r

string_found : (d n : ℕ) (fs : List Frame) (q : List ℕ) (v : Json) → Before d n fs (34 ∷ q) v → (raw r : List ℕ) × AreCharacters raw × (q ≡ raw ++ 34 ∷ r)
string_found d n fs q v bf =
    let f : LeafFound d n fs 34 q v = leaf_found d n fs 34 q v refl (leaf_not_opening (string []) 34 refl) bf in
    let cl : class f.leaf' ≡ 4 = sym (class_starts f.leaf' 34 f.starts) in
    let s = string_only f.leaf' f.bytes cl f.is_leaf in
    (s.0, f.rest, s.1, quoted s.0 f.rest q f.bytes s.2 f.prefix)

name_found : (d n : ℕ) (g : Frame) (fs : List Frame) (q : List ℕ) (v : Json) → BeforeName d n g fs (34 ∷ q) v → (raw r : List ℕ) × AreCharacters raw × (q ≡ raw ++ 34 ∷ r)
name_found d n g fs q v (name, s, r, u, bl, sl, bc, bf) =
    let at : s ≡ 34 ∷ q = firm_prefix 34 q s refl bl in
    (sl.1.0, r, sl.1.1, quoted sl.1.0 r q sl.0 sl.1.2 (sym at ∙ sl.2))

-- the characters p stop with a byte b: up to b they may go on, and do not end the string
pub record Stuck (p : List ℕ) (b : ℕ) : Type 0 where
  pub alive : steps whole p ≢ refused
  pub quote : steps whole p ≡ whole → b ≢ 34
  pub stuck : step (steps whole p) b ≡ refused

pub string_dead : (d n : ℕ) (fs : List Frame) (p : List ℕ) (b : ℕ) (rest : List ℕ) (v : Json) → Stuck p b → Before d n fs (34 ∷ (p ++ b ∷ rest)) v → ⊥
string_dead d n fs p b rest v k bf =
    let f = string_found d n fs (p ++ b ∷ rest) v bf in
    string_stuck whole p b rest f.0 f.1 k.alive k.quote k.stuck f.2 f.3

pub string_end : (d n : ℕ) (fs : List Frame) (p : List ℕ) (v : Json) → steps whole p ≢ refused → Before d n fs (34 ∷ p) v → ⊥
string_end d n fs p v alive bf =
    let f = string_found d n fs p v bf in
    string_open whole p f.0 f.1 alive f.2 f.3

pub name_dead : (d n : ℕ) (g : Frame) (fs : List Frame) (p : List ℕ) (b : ℕ) (rest : List ℕ) (v : Json) → Stuck p b → BeforeName d n g fs (34 ∷ (p ++ b ∷ rest)) v → ⊥
name_dead d n g fs p b rest v k bf =
    let f = name_found d n g fs (p ++ b ∷ rest) v bf in
    string_stuck whole p b rest f.0 f.1 k.alive k.quote k.stuck f.2 f.3

pub name_end : (d n : ℕ) (g : Frame) (fs : List Frame) (p : List ℕ) (v : Json) → steps whole p ≢ refused → BeforeName d n g fs (34 ∷ p) v → ⊥
name_end d n g fs p v alive bf =
    let f = name_found d n g fs p v bf in
    string_open whole p f.0 f.1 alive f.2 f.3

pub name_none : (d n : ℕ) (g : Frame) (fs : List Frame) (v : Json) → BeforeName d n g fs [] v → ⊥
name_none d n g fs v (name, s, r, u, bl, sl, bc, bf) =
    let none : s ≡ [] = nothing_prefix s bl in
    let e : [] ≡ (34 ∷ sl.1.0 ++ 34 ∷ []) ++ r = sym none ∙ sl.2 ∙ ap (λ (x : List ℕ). x ++ r) sl.1.2 in cc

pub name_other : (d n : ℕ) (g : Frame) (fs : List Frame) (c : ℕ) (q : List ℕ) (v : Json) → is_blank c ≡ false → c ≢ 34 → BeforeName d n g fs (c ∷ q) v → ⊥
name_other d n g fs c q v firm ne (name, s, r, u, bl, sl, bc, bf) =
    let at : s ≡ c ∷ q = firm_prefix c q s firm bl in
    let e : c ∷ q ≡ (34 ∷ sl.1.0 ++ 34 ∷ []) ++ r = sym at ∙ sl.2 ∙ ap (λ (x : List ℕ). x ++ r) sl.1.2 in
    ne (heads c 34 q ((sl.1.0 ++ 34 ∷ []) ++ r) e)

-- ---- a colon, and behind a value

pub colon_none : (d n : ℕ) (fs : List Frame) (v : Json) → BeforeColon d n fs [] v → ⊥
colon_none d n fs v (u, bl, bf) = (let none : 58 ∷ u ≡ [] = nothing_prefix (58 ∷ u) bl in cc)

pub colon_other : (d n : ℕ) (fs : List Frame) (c : ℕ) (q : List ℕ) (v : Json) → is_blank c ≡ false → c ≢ 58 → BeforeColon d n fs (c ∷ q) v → ⊥
colon_other d n fs c q v firm ne (u, bl, bf) = ne (sym (heads 58 c u q (firm_prefix c q (58 ∷ u) firm bl)))

value_none : (n d : ℕ) (w : Json) (s m : List ℕ) → s ≡ [] → Spells n d w s m → ⊥
value_none n d (leaf l a z) s m none sp =
    let st = leaf_starts l sp.0 sp.1 in
    let e : [] ≡ (st.0 ∷ st.1) ++ m = sym none ∙ sp.2 ∙ ap (λ (q : List ℕ). q ++ m) st.2 in cc
value_none n d (nest k a z ps) s m none sp = (let e : [] ≡ opening k ∷ sp.3.0 = sym none ∙ sp.3.1 in cc)

part_none : (n d : ℕ) (b : Bracket) (name : Option Name) (w : Json) (m : List ℕ) → SpellsPart n b name (Spells n d w) [] m → ⊥
part_none n d square None w m p = value_none n d w p.0 m (nothing_prefix p.0 p.1) p.2
part_none n d square (Some name) w m p = p
part_none n d curly None w m p = p
part_none n d curly (Some name) w m p = value_none n d (leaf (string name.text) name.from name.to) p.0 p.1 (nothing_prefix p.0 p.2) p.3

pub opened_none : (d n : ℕ) (f : Frame) (fs : List Frame) (v : Json) → Opened d n f fs [] v → ⊥
opened_none d n f fs v (no_parts, to, m, first, bh) = (let none : closing f.kind ∷ m ≡ [] = nothing_prefix (closing f.kind ∷ m) first.0 in cc)
opened_none d n f fs v (part name w ps, to, m, first, bh) = part_none n _ f.kind name w first.0 first.1

pub behind_none : (d n : ℕ) (f : Frame) (fs : List Frame) (w : Json) (v : Json) → Behind d n (f ∷ fs) w [] v → ⊥
behind_none d n f fs w v (no_parts, to, m, more, bh) = (let none : closing f.kind ∷ m ≡ [] = nothing_prefix (closing f.kind ∷ m) more.0 in cc)
behind_none d n f fs w v (part name x ps, to, m, more, bh) = (let none : 44 ∷ more.0 ≡ [] = nothing_prefix (44 ∷ more.0) more.2 in cc)

pub behind_other : (d n : ℕ) (f : Frame) (fs : List Frame) (w : Json) (c : ℕ) (q : List ℕ) (v : Json) → is_blank c ≡ false → c ≢ 44 → c ≢ closing f.kind
    → Behind d n (f ∷ fs) w (c ∷ q) v → ⊥
behind_other d n f fs w c q v firm ne ne' (no_parts, to, m, more, bh) = ne' (sym (heads (closing f.kind) c m q (firm_prefix c q (closing f.kind ∷ m) firm more.0)))
behind_other d n f fs w c q v firm ne ne' (part name x ps, to, m, more, bh) = ne (sym (heads 44 c more.0 q (firm_prefix c q (44 ∷ more.0) firm more.2)))

pub behind_all : (d n : ℕ) (w : Json) (c : ℕ) (q : List ℕ) (v : Json) → is_blank c ≡ false → Behind d n [] w (c ∷ q) v → ⊥
behind_all d n w c q v firm h = (let e : [] ≡ c ∷ q = firm_prefix c q [] firm h.0 in cc)
