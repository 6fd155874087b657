-- Where the parts of a value stand.
use Rattle.std.proofs.Common.{◌≡◌, ℕ, suc, ◌+◌, ◌<◌, ◌≤◌, List, ◌∷◌, length, refl, sym, ◌∙◌, ap, arith, length-append, Option, Some, None}
use Rattle.json_exact.specs.Json.{Leaf, word, number, string, Bracket, square, curly, Name, Json, leaf, nest, Parts, no_parts, part, ends_at}
use Rattle.json_exact.specs.JsonText.{Blanks, SpelledWithin, SpellsLeaf, Spells, SpellsFirst, SpellsMore, SpellsPart, opening, closing}
use Rattle.json_exact.specs.ValueSpans.{IsSlice, IsPlaced, ArePlaced, IsNamePlaced, behind_name}
use Rattle.json_exact.proofs.Blanks.{leaf_starts}
use Rattle.json_exact.proofs.Decoding.{Suffix, after_blanks, after_byte, after_part, after_value, after_leaf, leaf_slice, whole_suffix}

blanks_shorter : (s t : List ℕ) → Blanks s t → length t ≤ length s
blanks_shorter s t b = omega (arith, ap length b.2, length-append b.0 t)

leaf_shorter : (n : ℕ) (l : Leaf) (from to : ℕ) (s t : List ℕ) → SpellsLeaf n l from to s t → length t < length s
leaf_shorter n l from to s t sp =
    let st = leaf_starts l sp.0 sp.1 in
    omega (arith, ap length sp.2, length-append sp.0 t, ap length st.2)

part_shorter : (n : ℕ) (b : Bracket) (name : Option Name) (spells : List ℕ → List ℕ → Type 0) → ((s t : List ℕ) → spells s t → length t ≤ length s)
    → (s t : List ℕ) → SpellsPart n b name spells s t → length t ≤ length s
part_shorter n square None spells f s t p = omega (arith, blanks_shorter s p.0 p.1, f p.0 t p.2)
part_shorter n square (Some name) spells f s t p = absurd p
part_shorter n curly None spells f s t p = absurd p
part_shorter n curly (Some name) spells f s t p =
    omega (arith, blanks_shorter s p.0 p.2, leaf_shorter n (string name.text) name.from name.to p.0 p.1 p.3, blanks_shorter p.1 (58 ∷ p.4.0) p.4.1, blanks_shorter p.4.0 p.4.2.0 p.4.2.1, f p.4.2.0 t p.4.2.2)

mutual
  value_shorter : (n d : ℕ) (v : Json) (s t : List ℕ) → Spells n d v s t → length t ≤ length s
  value_shorter n d (leaf l from to) s t sp = omega (arith, leaf_shorter n l from to s t sp)
  value_shorter n d (nest b from to ps) s t sp = omega (arith, ap length sp.3.1, first_shorter n sp.0 b ps to sp.3.0 t sp.3.2)

  first_shorter : (n d : ℕ) (b : Bracket) (ps : Parts) (to : ℕ) (s t : List ℕ) → SpellsFirst n d b ps to s t → length t < length s
  first_shorter n d b no_parts to s t sp = omega (arith, blanks_shorter s (closing b ∷ t) sp.0)
  first_shorter n d b (part name v ps) to s t sp =
      omega (arith, part_shorter n b name (Spells n d v) (λ x y q. value_shorter n d v x y q) s sp.0 sp.1, more_shorter n d b ps to sp.0 t sp.2)

  more_shorter : (n d : ℕ) (b : Bracket) (ps : Parts) (to : ℕ) (s t : List ℕ) → SpellsMore n d b ps to s t → length t < length s
  more_shorter n d b no_parts to s t sp = omega (arith, blanks_shorter s (closing b ∷ t) sp.0)
  more_shorter n d b (part name v ps) to s t sp =
      omega (arith, blanks_shorter s (44 ∷ sp.0) sp.2, part_shorter n b name (Spells n d v) (λ x y q. value_shorter n d v x y q) sp.0 sp.1 sp.3, more_shorter n d b ps to sp.1 t sp.4)

-- ---- where brackets end

more_ends : (n d : ℕ) (b : Bracket) (ps : Parts) (to : ℕ) (s t : List ℕ) → SpellsMore n d b ps to s t → to + length t ≡ n
more_ends n d b no_parts to s t sp = sp.1
more_ends n d b (part name v ps) to s t sp = more_ends n d b ps to sp.1 t sp.4

first_ends : (n d : ℕ) (b : Bracket) (ps : Parts) (to : ℕ) (s t : List ℕ) → SpellsFirst n d b ps to s t → to + length t ≡ n
first_ends n d b no_parts to s t sp = sp.1
first_ends n d b (part name v ps) to s t sp = more_ends n d b ps to sp.0 t sp.2

value_ends : (n d : ℕ) (v : Json) (s t : List ℕ) → Spells n d v s t → ends_at v + length t ≡ n
value_ends n d (leaf l from to) s t sp = sp.4
value_ends n d (nest b from to ps) s t sp = first_ends n sp.0 b ps to sp.3.0 t sp.3.2

part_ends : (n d : ℕ) (b : Bracket) (name : Option Name) (v : Json) (s t : List ℕ) → SpellsPart n b name (Spells n d v) s t → ends_at v + length t ≡ n
part_ends n d square None v s t p = value_ends n d v p.0 t p.2
part_ends n d square (Some name) v s t p = absurd p
part_ends n d curly None v s t p = absurd p
part_ends n d curly (Some name) v s t p = value_ends n d v p.4.2.0 t p.4.2.2

slice_of : (text : List ℕ) (l : Leaf) (from to : ℕ) (s t : List ℕ) → Suffix text s → SpellsLeaf (length text) l from to s t → IsSlice text l from to
slice_of text (word w) from to s t h sp = tt
slice_of text (number ds) from to s t h sp = sp.1.1 ∙ sym (leaf_slice text (number ds) from to s t h sp)
slice_of text (string x) from to s t h sp = tt

-- a part stands behind `low` and before `high`
part_placed : (text : List ℕ) (d : ℕ) (b : Bracket) (name : Option Name) (v : Json) (low high : ℕ) (s t : List ℕ) → Suffix text s → SpellsPart (length text) b name (Spells (length text) d v) s t
    → low + length s ≤ length text → length text ≤ high + length t
    → ((x : List ℕ) (l : ℕ) → Suffix text x → Spells (length text) d v x t → l + length x ≤ length text → IsPlaced text l v high)
    → IsNamePlaced low name × IsPlaced text (behind_name low name) v high
part_placed text d square None v low high s t h p k m f = (tt, f p.0 low (after_blanks text s p.0 h p.1) p.2 (omega (arith, blanks_shorter s p.0 p.1)))
part_placed text d square (Some name) v low high s t h p k m f = absurd p
part_placed text d curly None v low high s t h p k m f = absurd p
part_placed text d curly (Some name) v low high s t h p k m f =
    let i : Suffix text p.0 = after_blanks text s p.0 h p.2 in
    let a : Suffix text p.1 = after_leaf text (length text) (string name.text) name.from name.to p.0 p.1 i p.3 in
    let c : Suffix text p.4.0 = after_byte text (58 ∷ p.4.0) p.4.0 58 (after_blanks text p.1 (58 ∷ p.4.0) a p.4.1) refl in
    let lf : length p.1 < length p.0 = leaf_shorter (length text) (string name.text) name.from name.to p.0 p.1 p.3 in
    let begins : name.from + length p.0 ≡ length text = p.3.3 in
    let ends : name.to + length p.1 ≡ length text = p.3.4 in (
      (omega (arith, blanks_shorter s p.0 p.2), omega arith),
      f p.4.2.0 name.to (after_blanks text p.4.0 p.4.2.0 c p.4.2.1) p.4.2.2 (omega (arith, blanks_shorter p.1 (58 ∷ p.4.0) p.4.1, blanks_shorter p.4.0 p.4.2.0 p.4.2.1)),
    )

mutual
  value_placed : (text : List ℕ) (d : ℕ) (v : Json) (low high : ℕ) (s t : List ℕ) → Suffix text s → Spells (length text) d v s t → low + length s ≤ length text → length text ≤ high + length t → IsPlaced text low v high
  value_placed text d (leaf l from to) low high s t h sp k m =
      let begins : from + length s ≡ length text = sp.3 in
      let ends : to + length t ≡ length text = sp.4 in
      let lf : length t < length s = leaf_shorter (length text) l from to s t sp in
      (omega arith, omega arith, omega arith, slice_of text l from to s t h sp)
  value_placed text d (nest b from to ps) low high s t h sp k m =
      let begins : from + length s ≡ length text = sp.2 in
      let ends : to + length t ≡ length text = first_ends (length text) sp.0 b ps to sp.3.0 t sp.3.2 in
      let one : length s ≡ suc (length sp.3.0) = ap length sp.3.1 in
      let fs : length t < length sp.3.0 = first_shorter (length text) sp.0 b ps to sp.3.0 t sp.3.2 in
      (omega arith, omega arith, omega arith, first_placed text sp.0 b ps to (suc from) sp.3.0 t (after_byte text s sp.3.0 (opening b) h sp.3.1) sp.3.2 (omega arith))

  first_placed : (text : List ℕ) (d : ℕ) (b : Bracket) (ps : Parts) (to low : ℕ) (s t : List ℕ) → Suffix text s → SpellsFirst (length text) d b ps to s t → low + length s ≤ length text → ArePlaced text low ps to
  first_placed text d b no_parts to low s t h sp k = omega (arith, blanks_shorter s (closing b ∷ t) sp.0, sp.1)
  first_placed text d b (part name v ps) to low s t h sp k =
      let r : Suffix text sp.0 = after_part text (length text) b name (Spells (length text) d v) (λ x y q i. after_value text (length text) d v x y q i) s sp.0 h sp.1 in
      let ends : to + length t ≡ length text = more_ends (length text) d b ps to sp.0 t sp.2 in
      let sh : length t < length sp.0 = more_shorter (length text) d b ps to sp.0 t sp.2 in
      let p = part_placed text d b name v low to s sp.0 h sp.1 k (omega arith) (λ x l i q j. value_placed text d v l to x sp.0 i q j (omega arith)) in
      (p.0, p.1, more_placed text d b ps to (ends_at v) sp.0 t r sp.2 (omega (arith, part_ends (length text) d b name v s sp.0 sp.1)))

  more_placed : (text : List ℕ) (d : ℕ) (b : Bracket) (ps : Parts) (to low : ℕ) (s t : List ℕ) → Suffix text s → SpellsMore (length text) d b ps to s t → low + length s ≤ length text → ArePlaced text low ps to
  more_placed text d b no_parts to low s t h sp k = omega (arith, blanks_shorter s (closing b ∷ t) sp.0, sp.1)
  more_placed text d b (part name v ps) to low s t h sp k =
      let i : Suffix text sp.0 = after_byte text (44 ∷ sp.0) sp.0 44 (after_blanks text s (44 ∷ sp.0) h sp.2) refl in
      let r : Suffix text sp.1 = after_part text (length text) b name (Spells (length text) d v) (λ x y q j. after_value text (length text) d v x y q j) sp.0 sp.1 i sp.3 in
      let ends : to + length t ≡ length text = more_ends (length text) d b ps to sp.1 t sp.4 in
      let sh : length t < length sp.1 = more_shorter (length text) d b ps to sp.1 t sp.4 in
      let p = part_placed text d b name v low to sp.0 sp.1 i sp.3 (omega (arith, blanks_shorter s (44 ∷ sp.0) sp.2)) (omega arith) (λ x l j q m. value_placed text d v l to x sp.1 j q m (omega arith)) in
      (p.0, p.1, more_placed text d b ps to (ends_at v) sp.1 t r sp.4 (omega (arith, part_ends (length text) d b name v sp.0 sp.1 sp.3)))

pub spelled_placed : (text : List ℕ) (d : ℕ) (v : Json) → SpelledWithin d text v → IsPlaced text 0 v (length text)
spelled_placed text d v (s, t, bl, sp, b) =
    value_placed text d v 0 (length text) s t (whole_suffix text s bl) sp (omega (arith, blanks_shorter text s bl)) (omega arith)
