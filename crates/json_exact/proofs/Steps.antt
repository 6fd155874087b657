-- What a token does to what is left to be read, both ways.
use Rattle.std.proofs.Common.{◌≡◌, ◌≢◌, ℕ, suc, ◌+◌, ◌<◌, ◌≤◌, List, [], ◌∷◌, ◌++◌, length, get_or, false, refl, sym, ◌∙◌, ap, subst, arith, inl, inr, Option, Some, None}
use Rattle.std.proofs.lemmas.Bool.{both_ways, eqb-false}
use Rattle.json_exact.specs.Json.{null_word, true_word, false_word, Leaf, word, number, string, Bracket, square, curly, Name, Json, leaf, nest, no_parts, part}
use Rattle.json_exact.specs.Scans.{is_in_number}
use Rattle.json_exact.specs.JsonText.{is_blank, AreBlanks, Blanks, IsLeaf, SpellsLeaf, opening, closing, SpellsPart, Spells, SpellsFirst}
use Rattle.json_exact.specs.JsonRests.{Frame, Behind, Before, Opened, BeforeName, BeforeColon, levels_left, closed, no_number, no_closing, Counts}
use Rattle.json_exact.proofs.Blanks.{no_blanks, firm_prefix, Starts, leaf_starts, closing_firm, in_number_firm}

abbrev pub frame : Bracket → ℕ → List (Option Name × Json) → Option Name → Frame
frame k from done name = record { kind = k; from = from; done = done; name = name }

pub heads : (a b : ℕ) (s t : List ℕ) → a ∷ s ≡ b ∷ t → a ≡ b
heads a b s t e = ap (λ (q : List ℕ). get_or q 0 0) e

opening_starts : (b : Bracket) (l : Leaf) → Starts l (opening b) → ⊥
opening_starts square (word null_word) h = eqb-false 91 110 refl h
opening_starts square (word true_word) h = eqb-false 91 116 refl h
opening_starts square (word false_word) h = eqb-false 91 102 refl h
opening_starts square (number ds) (inl h) = eqb-false 91 45 refl h
opening_starts square (number ds) (inr h) = both_ways false refl h
opening_starts square (string t) h = eqb-false 91 34 refl h
opening_starts curly (word null_word) h = eqb-false 123 110 refl h
opening_starts curly (word true_word) h = eqb-false 123 116 refl h
opening_starts curly (word false_word) h = eqb-false 123 102 refl h
opening_starts curly (number ds) (inl h) = eqb-false 123 45 refl h
opening_starts curly (number ds) (inr h) = both_ways false refl h
opening_starts curly (string t) h = eqb-false 123 34 refl h

pub opening_same : (a b : Bracket) → opening a ≡ opening b → a ≡ b
opening_same square square e = refl
opening_same square curly e = absurd (eqb-false 91 123 refl e)
opening_same curly square e = absurd (eqb-false 123 91 refl e)
opening_same curly curly e = refl

opening_blank : (b : Bracket) → is_blank (opening b) ≡ false
opening_blank square = refl
opening_blank curly = refl

-- ---- an opening bracket

pub open_into : (d n : ℕ) (fs : List Frame) (b : Bracket) (from : ℕ) (t : List ℕ) (v : Json) → from + length (opening b ∷ t) ≡ n
    → Before d n fs (opening b ∷ t) v → Opened d n (frame b from [] None) fs t v
open_into d n fs b from t v p (leaf l a z, s, m, bl, sp, bh) =
    let at : s ≡ opening b ∷ t = firm_prefix (opening b) t s (opening_blank b) bl in
    let st = leaf_starts l sp.0 sp.1 in
    let e : opening b ∷ t ≡ (st.0 ∷ st.1) ++ m = sym at ∙ sp.2 ∙ ap (λ (q : List ℕ). q ++ m) st.2 in
    let first : st.0 ≡ opening b = cc in
    absurd (opening_starts b l (subst (Starts l) first st.3))
open_into d n fs b from t v p (nest k a z ps, s, m, bl, sp, bh) =
    let at : s ≡ opening b ∷ t = firm_prefix (opening b) t s (opening_blank b) bl in
    let e : opening b ∷ t ≡ opening k ∷ sp.3.0 = sym at ∙ sp.3.1 in
    let first : opening k ≡ opening b = cc in
    let rest : sp.3.0 ≡ t = cc in
    let same : k ≡ b = opening_same k b first in
    let len : a + length (opening b ∷ t) ≡ n = subst (λ (q : List ℕ). a + length q ≡ n) at sp.2 in
    let place : a ≡ from = omega arith in
    let inner : sp.0 ≡ levels_left d (frame b from [] None ∷ fs) = omega (arith, sp.1) in
    let one : SpellsFirst n sp.0 k ps z t m = subst (λ (q : List ℕ). SpellsFirst n sp.0 k ps z q m) rest sp.3.2 in
    let two : SpellsFirst n sp.0 b ps z t m = subst (λ (q : Bracket). SpellsFirst n sp.0 q ps z t m) same one in
    let three : SpellsFirst n (levels_left d (frame b from [] None ∷ fs)) b ps z t m = subst (λ (q : ℕ). SpellsFirst n q b ps z t m) inner two in
    let w : nest k a z ps ≡ nest b from z ps = cc in
    (ps, z, m, three, subst (λ (q : Json). Behind d n fs q m v) w bh)

pub open_back : (d n : ℕ) (fs : List Frame) (b : Bracket) (from : ℕ) (t : List ℕ) (v : Json) → from + length (opening b ∷ t) ≡ n → length fs < d
    → Opened d n (frame b from [] None) fs t v → Before d n fs (opening b ∷ t) v
open_back d n fs b from t v p lt (ps, to, m, first, bh) =
    let lv : levels_left d fs ≡ suc (levels_left d (frame b from [] None ∷ fs)) = omega arith in
    (nest b from to ps, opening b ∷ t, m, no_blanks (opening b ∷ t), (levels_left d (frame b from [] None ∷ fs), lv, p, (t, refl, first)), bh)

-- a bracket that opens a level too many
pub open_too_deep : (d n : ℕ) (fs : List Frame) (b : Bracket) (t : List ℕ) (v : Json) → d ≤ length fs → Before d n fs (opening b ∷ t) v → ⊥
open_too_deep d n fs b t v le (leaf l a z, s, m, bl, sp, bh) =
    let at : s ≡ opening b ∷ t = firm_prefix (opening b) t s (opening_blank b) bl in
    let st = leaf_starts l sp.0 sp.1 in
    let e : opening b ∷ t ≡ (st.0 ∷ st.1) ++ m = sym at ∙ sp.2 ∙ ap (λ (q : List ℕ). q ++ m) st.2 in
    let first : st.0 ≡ opening b = cc in
    opening_starts b l (subst (Starts l) first st.3)
open_too_deep d n fs b t v le (nest k a z ps, s, m, bl, sp, bh) = let lv : levels_left d fs ≡ suc sp.0 = sp.1 in omega arith

-- ---- a closing bracket

pub comma_closing : (b : Bracket) → 44 ≡ closing b → ⊥
comma_closing square e = eqb-false 44 93 refl e
comma_closing curly e = eqb-false 44 125 refl e

-- no part begins with a closing bracket
closing_starts : (b : Bracket) (l : Leaf) → Starts l (closing b) → ⊥
closing_starts square (word null_word) h = eqb-false 93 110 refl h
closing_starts square (word true_word) h = eqb-false 93 116 refl h
closing_starts square (word false_word) h = eqb-false 93 102 refl h
closing_starts square (number ds) (inl h) = eqb-false 93 45 refl h
closing_starts square (number ds) (inr h) = both_ways false refl h
closing_starts square (string t) h = eqb-false 93 34 refl h
closing_starts curly (word null_word) h = eqb-false 125 110 refl h
closing_starts curly (word true_word) h = eqb-false 125 116 refl h
closing_starts curly (word false_word) h = eqb-false 125 102 refl h
closing_starts curly (number ds) (inl h) = eqb-false 125 45 refl h
closing_starts curly (number ds) (inr h) = both_ways false refl h
closing_starts curly (string t) h = eqb-false 125 34 refl h

opening_closing : (a b : Bracket) → closing a ≡ opening b → ⊥
opening_closing square square e = eqb-false 93 91 refl e
opening_closing square curly e = eqb-false 93 123 refl e
opening_closing curly square e = eqb-false 125 91 refl e
opening_closing curly curly e = eqb-false 125 123 refl e

pub leaf_not_closing : (n : ℕ) (l : Leaf) (from to : ℕ) (b : Bracket) (t rest s : List ℕ) → s ≡ closing b ∷ t → SpellsLeaf n l from to s rest → ⊥
leaf_not_closing n l from to b t rest s at sp =
    let st = leaf_starts l sp.0 sp.1 in
    let e : closing b ∷ t ≡ (st.0 ∷ st.1) ++ rest = sym at ∙ sp.2 ∙ ap (λ (q : List ℕ). q ++ rest) st.2 in
    let first : st.0 ≡ closing b = cc in
    closing_starts b l (subst (Starts l) first st.3)

pub value_not_closing : (n d : ℕ) (v : Json) (b : Bracket) (t rest s : List ℕ) → s ≡ closing b ∷ t → Spells n d v s rest → ⊥
value_not_closing n d (leaf l from to) b t rest s at sp = leaf_not_closing n l from to b t rest s at sp
value_not_closing n d (nest k from to ps) b t rest s at sp =
    let e : closing b ∷ t ≡ opening k ∷ sp.3.0 = sym at ∙ sp.3.1 in
    let first : closing b ≡ opening k = cc in
    opening_closing b k first

pub part_not_closing : (n d : ℕ) (b : Bracket) (name : Option Name) (v : Json) (t rest : List ℕ) → SpellsPart n b name (Spells n d v) (closing b ∷ t) rest → ⊥
part_not_closing n d square None v t rest p = value_not_closing n d v square t rest p.0 (firm_prefix 93 t p.0 refl p.1) p.2
part_not_closing n d square (Some name) v t rest p = p
part_not_closing n d curly None v t rest p = p
part_not_closing n d curly (Some name) v t rest p = leaf_not_closing n (string name.text) name.from name.to curly t p.1 p.0 (firm_prefix 125 t p.0 refl p.2) p.3

pub first_close_into : (d n : ℕ) (f : Frame) (fs : List Frame) (to : ℕ) (t : List ℕ) (v : Json) → to + length t ≡ n
    → Opened d n f fs (closing f.kind ∷ t) v → Behind d n fs (closed f to no_parts) t v
first_close_into d n f fs to t v p (no_parts, z, m, first, bh) =
    let at : closing f.kind ∷ m ≡ closing f.kind ∷ t = firm_prefix (closing f.kind) t (closing f.kind ∷ m) (closing_firm f.kind) first.0 in
    let rest : m ≡ t = cc in
    let len : z + length t ≡ n = subst (λ (q : List ℕ). z + length q ≡ n) rest first.1 in
    let place : z ≡ to = omega arith in
    let one : Behind d n fs (closed f z no_parts) t v = subst (λ (q : List ℕ). Behind d n fs (closed f z no_parts) q v) rest bh in
    subst (λ (q : ℕ). Behind d n fs (closed f q no_parts) t v) place one
first_close_into d n f fs to t v p (part name w ps, z, m, first, bh) = absurd (part_not_closing n _ f.kind name w t first.0 first.1)

pub first_close_back : (d n : ℕ) (f : Frame) (fs : List Frame) (to : ℕ) (t : List ℕ) (v : Json) → to + length t ≡ n
    → Behind d n fs (closed f to no_parts) t v → Opened d n f fs (closing f.kind ∷ t) v
first_close_back d n f fs to t v p bh = (no_parts, to, t, (no_blanks (closing f.kind ∷ t), p), bh)

pub close_into : (d n : ℕ) (f : Frame) (fs : List Frame) (w : Json) (to : ℕ) (t : List ℕ) (v : Json) → to + length t ≡ n
    → Behind d n (f ∷ fs) w (closing f.kind ∷ t) v → Behind d n fs (closed f to (part f.name w no_parts)) t v
close_into d n f fs w to t v p (no_parts, z, m, first, bh) =
    let at : closing f.kind ∷ m ≡ closing f.kind ∷ t = firm_prefix (closing f.kind) t (closing f.kind ∷ m) (closing_firm f.kind) first.0 in
    let rest : m ≡ t = cc in
    let len : z + length t ≡ n = subst (λ (q : List ℕ). z + length q ≡ n) rest first.1 in
    let place : z ≡ to = omega arith in
    let one : Behind d n fs (closed f z (part f.name w no_parts)) t v = subst (λ (q : List ℕ). Behind d n fs (closed f z (part f.name w no_parts)) q v) rest bh in
    subst (λ (q : ℕ). Behind d n fs (closed f q (part f.name w no_parts)) t v) place one
close_into d n f fs w to t v p (part name x ps, z, m, first, bh) =
    let at : 44 ∷ first.0 ≡ closing f.kind ∷ t = firm_prefix (closing f.kind) t (44 ∷ first.0) (closing_firm f.kind) first.2 in
    let e : 44 ≡ closing f.kind = cc in
    absurd (comma_closing f.kind e)

pub close_back : (d n : ℕ) (f : Frame) (fs : List Frame) (w : Json) (to : ℕ) (t : List ℕ) (v : Json) → to + length t ≡ n
    → Behind d n fs (closed f to (part f.name w no_parts)) t v → Behind d n (f ∷ fs) w (closing f.kind ∷ t) v
close_back d n f fs w to t v p bh = (no_parts, to, t, (no_blanks (closing f.kind ∷ t), p), bh)

-- ---- behind an opening bracket that is not closed at once

pub first_item_into : (d n from : ℕ) (done : List (Option Name × Json)) (fs : List Frame) (t : List ℕ) (v : Json) → Counts (no_closing square) t
    → Opened d n (frame square from done None) fs t v → Before d n (frame square from done None ∷ fs) t v
first_item_into d n from done fs t v c (no_parts, to, m, first, bh) = absurd (c m first.0)
first_item_into d n from done fs t v c (part None w ps, to, m, first, bh) =
    (w, first.1.0, first.0, first.1.1, first.1.2, (ps, to, m, first.2, bh))
first_item_into d n from done fs t v c (part (Some name) w ps, to, m, first, bh) = absurd first.1

pub first_item_back : (d n from : ℕ) (done : List (Option Name × Json)) (fs : List Frame) (t : List ℕ) (v : Json)
    → Before d n (frame square from done None ∷ fs) t v → Opened d n (frame square from done None) fs t v
first_item_back d n from done fs t v (w, s, m, bl, sp, (ps, to, z, more, bh)) = (part None w ps, to, z, (m, (s, bl, sp), more), bh)

pub first_name_into : (d n from : ℕ) (done : List (Option Name × Json)) (fs : List Frame) (t : List ℕ) (v : Json) → Counts (no_closing curly) t
    → Opened d n (frame curly from done None) fs t v → BeforeName d n (frame curly from done None) fs t v
first_name_into d n from done fs t v c (no_parts, to, m, first, bh) = absurd (c m first.0)
first_name_into d n from done fs t v c (part None w ps, to, m, first, bh) = absurd first.1
first_name_into d n from done fs t v c (part (Some name) w ps, to, m, first, bh) =
    let p = first.1 in
    (name, p.0, p.1, p.4.0, p.2, p.3, p.4.1, (w, p.4.2.0, first.0, p.4.2.1, p.4.2.2, (ps, to, m, first.2, bh)))

pub first_name_back : (d n from : ℕ) (done : List (Option Name × Json)) (fs : List Frame) (t : List ℕ) (v : Json)
    → BeforeName d n (frame curly from done None) fs t v → Opened d n (frame curly from done None) fs t v
first_name_back d n from done fs t v (name, s, r, u, bl, sl, bc, (w, x, m, bx, sp, (ps, to, z, more, bh))) =
    (part (Some name) w ps, to, z, (m, (s, r, bl, sl, (u, bc, (x, bx, sp))), more), bh)

-- ---- a comma

pub comma_item_into : (d n from : ℕ) (done : List (Option Name × Json)) (name : Option Name) (fs : List Frame) (w : Json) (t : List ℕ) (v : Json)
    → Behind d n (frame square from done name ∷ fs) w (44 ∷ t) v → Before d n (frame square from ((name, w) ∷ done) None ∷ fs) t v
comma_item_into d n from done name fs w t v (no_parts, to, m, more, bh) =
    absurd (eqb-false 93 44 refl (heads 93 44 m t (firm_prefix 44 t (93 ∷ m) refl more.0)))
comma_item_into d n from done name fs w t v (part None x ps, to, m, more, bh) =
    let at : 44 ∷ more.0 ≡ 44 ∷ t = firm_prefix 44 t (44 ∷ more.0) refl more.2 in
    let rest : more.0 ≡ t = cc in
    (x, more.3.0, more.1, subst (λ (q : List ℕ). Blanks q more.3.0) rest more.3.1, more.3.2, (ps, to, m, more.4, bh))
comma_item_into d n from done name fs w t v (part (Some other) x ps, to, m, more, bh) = absurd more.3

pub comma_item_back : (d n from : ℕ) (done : List (Option Name × Json)) (name : Option Name) (fs : List Frame) (w : Json) (t : List ℕ) (v : Json)
    → Before d n (frame square from ((name, w) ∷ done) None ∷ fs) t v → Behind d n (frame square from done name ∷ fs) w (44 ∷ t) v
comma_item_back d n from done name fs w t v (x, s, m, bl, sp, (ps, to, z, more, bh)) =
    (part None x ps, to, z, (t, m, no_blanks (44 ∷ t), (s, bl, sp), more), bh)

pub comma_name_into : (d n from : ℕ) (done : List (Option Name × Json)) (name : Option Name) (fs : List Frame) (w : Json) (t : List ℕ) (v : Json)
    → Behind d n (frame curly from done name ∷ fs) w (44 ∷ t) v → BeforeName d n (frame curly from ((name, w) ∷ done) None) fs t v
comma_name_into d n from done name fs w t v (no_parts, to, m, more, bh) =
    absurd (eqb-false 125 44 refl (heads 125 44 m t (firm_prefix 44 t (125 ∷ m) refl more.0)))
comma_name_into d n from done name fs w t v (part None x ps, to, m, more, bh) = absurd more.3
comma_name_into d n from done name fs w t v (part (Some other) x ps, to, m, more, bh) =
    let at : 44 ∷ more.0 ≡ 44 ∷ t = firm_prefix 44 t (44 ∷ more.0) refl more.2 in
    let rest : more.0 ≡ t = cc in
    let p = more.3 in
    (other, p.0, p.1, p.4.0, subst (λ (q : List ℕ). Blanks q p.0) rest p.2, p.3, p.4.1, (x, p.4.2.0, more.1, p.4.2.1, p.4.2.2, (ps, to, m, more.4, bh)))

pub comma_name_back : (d n from : ℕ) (done : List (Option Name × Json)) (name : Option Name) (fs : List Frame) (w : Json) (t : List ℕ) (v : Json)
    → BeforeName d n (frame curly from ((name, w) ∷ done) None) fs t v → Behind d n (frame curly from done name ∷ fs) w (44 ∷ t) v
comma_name_back d n from done name fs w t v (other, s, r, u, bl, sl, bc, (x, y, m, bx, sp, (ps, to, z, more, bh))) =
    (part (Some other) x ps, to, z, (t, m, no_blanks (44 ∷ t), (s, r, bl, sl, (u, bc, (y, bx, sp))), more), bh)

-- ---- a colon

pub colon_into : (d n : ℕ) (fs : List Frame) (t : List ℕ) (v : Json) → BeforeColon d n fs (58 ∷ t) v → Before d n fs t v
colon_into d n fs t v (u, bl, bf) =
    let at : 58 ∷ u ≡ 58 ∷ t = firm_prefix 58 t (58 ∷ u) refl bl in
    let rest : u ≡ t = cc in
    subst (λ (q : List ℕ). Before d n fs q v) rest bf

pub colon_back : (d n : ℕ) (fs : List Frame) (t : List ℕ) (v : Json) → Before d n fs t v → BeforeColon d n fs (58 ∷ t) v
colon_back d n fs t v bf = (t, no_blanks (58 ∷ t), bf)

-- ---- a leaf

-- a value begins with no blank and no bracket: then it is a leaf
pub record LeafFound (d n : ℕ) (fs : List Frame) (c : ℕ) (q : List ℕ) (v : Json) : Type 0 where
  pub leaf' : Leaf
  pub bytes : List ℕ
  pub from : ℕ
  pub to : ℕ
  pub rest : List ℕ
  pub is_leaf : IsLeaf leaf' bytes
  pub prefix : c ∷ q ≡ bytes ++ rest
  pub begins : from + length (c ∷ q) ≡ n
  pub ends : to + length rest ≡ n
  pub starts : Starts leaf' c
  pub behind : Behind d n fs (leaf leaf' from to) rest v

pub leaf_found : (d n : ℕ) (fs : List Frame) (c : ℕ) (q : List ℕ) (v : Json) → is_blank c ≡ false → ((b : Bracket) → c ≢ opening b)
    → Before d n fs (c ∷ q) v → LeafFound d n fs c q v
leaf_found d n fs c q v firm ne (leaf l a z, s, m, bl, sp, bh) =
    let at : s ≡ c ∷ q = firm_prefix c q s firm bl in
    let st = leaf_starts l sp.0 sp.1 in
    let e : c ∷ q ≡ (st.0 ∷ st.1) ++ m = sym at ∙ sp.2 ∙ ap (λ (r : List ℕ). r ++ m) st.2 in
    let first : st.0 ≡ c = cc in
    record {
      leaf' = l;
      bytes = sp.0;
      from = a;
      to = z;
      rest = m;
      is_leaf = sp.1;
      prefix = sym at ∙ sp.2;
      begins = subst (λ (r : List ℕ). a + length r ≡ n) at sp.3;
      ends = sp.4;
      starts = subst (Starts l) first st.3;
      behind = bh;
    }
leaf_found d n fs c q v firm ne (nest k a z ps, s, m, bl, sp, bh) =
    let at : s ≡ c ∷ q = firm_prefix c q s firm bl in
    let e : c ∷ q ≡ opening k ∷ sp.3.0 = sym at ∙ sp.3.1 in
    let first : c ≡ opening k = cc in
    absurd (ne k first)

pub leaf_back : (d n : ℕ) (fs : List Frame) (l : Leaf) (bytes : List ℕ) (from to : ℕ) (t : List ℕ) (v : Json) → IsLeaf l bytes
    → from + length (bytes ++ t) ≡ n → to + length t ≡ n → Behind d n fs (leaf l from to) t v → Before d n fs (bytes ++ t) v
leaf_back d n fs l bytes from to t v h p q bh = (leaf l from to, bytes ++ t, t, no_blanks (bytes ++ t), (bytes, h, refl, p, q), bh)

pub closing_clear : (b : Bracket) → is_in_number (closing b) ≡ false
closing_clear square = refl
closing_clear curly = refl

clear_prefix_by : (bs text s : List ℕ) → AreBlanks bs → text ≡ bs ++ s → Counts no_number s → Counts no_number text
clear_prefix_by [] text s h e c = subst (Counts no_number) (sym e) c
clear_prefix_by (b ∷ bs) text s h e c = subst (Counts no_number) (sym e) (in_number_firm b h.0)

pub clear_prefix : (text s : List ℕ) → Counts no_number s → Blanks text s → Counts no_number text
clear_prefix text s c h = clear_prefix_by h.0 text s h.1 h.2 c

-- behind a value no byte of a number stands
pub behind_clear : (d n : ℕ) (fs : List Frame) (w : Json) (rest : List ℕ) (v : Json) → Behind d n fs w rest v → Counts no_number rest
behind_clear d n fs w [] v h = tt
behind_clear d n [] w (b ∷ rest) v h = clear_prefix (b ∷ rest) [] tt h.0
behind_clear d n (f ∷ fs) w (b ∷ rest) v (no_parts, to, m, more, bh) = clear_prefix (b ∷ rest) (closing f.kind ∷ m) (closing_clear f.kind) more.0
behind_clear d n (f ∷ fs) w (b ∷ rest) v (part name x ps, to, m, more, bh) = clear_prefix (b ∷ rest) (44 ∷ more.0) refl more.2
