-- The strings and names of the cells of a value stand for text.
use Rattle.std.proofs.Common.{ℕ, zero, suc, List, [], ◌∷◌, ◌++◌, length, take, drop, IsUtf8, refl, sym, subst, Option, Some, None}
use Rattle.json_exact.specs.Json.{null_word, true_word, false_word, Leaf, word, number, string, Bracket, square, curly, Name, Json, leaf, nest, Parts, no_parts, part}
use Rattle.json_exact.specs.Characters.{decoded}
use Rattle.json_exact.specs.JsonText.{SpelledWithin, SpellsLeaf, Spells, SpellsFirst, SpellsMore, SpellsPart, opening}
use Rattle.json_exact.specs.JsonRests.{kind_of, kind_of_bracket, cell, cells_of, cells_in}
use Rattle.json_exact.specs.CellTexts.{IsText, AreTexts}
use Rattle.json_exact.specs.declared.cells.Cell.{Cell}
use Rattle.json_exact.proofs.Encoded.{IsUtf8-decoded}
use Rattle.json_exact.proofs.Decoding.{Suffix, after_blanks, after_byte, after_leaf, after_part, after_value, string_slice, whole_suffix}

pub texts-take : (n : ℕ) (text : List ℕ) (cells : List Cell) → AreTexts text cells → AreTexts text (take n cells)
texts-take zero text cells h = tt
texts-take (suc n) text [] h = tt
texts-take (suc n) text (c ∷ cells) h = (h.0, texts-take n text cells h.1)

pub texts-drop : (n : ℕ) (text : List ℕ) (cells : List Cell) → AreTexts text cells → AreTexts text (drop n cells)
texts-drop zero text cells h = h
texts-drop (suc n) text [] h = tt
texts-drop (suc n) text (c ∷ cells) h = texts-drop n text cells h.1

pub texts_behind : (text : List ℕ) (cells : List Cell) → AreTexts text cells → AreTexts text (drop 1 cells)
texts_behind text cells h = texts-drop 1 text cells h

texts-append : (text : List ℕ) (xs ys : List Cell) → AreTexts text xs → AreTexts text ys → AreTexts text (xs ++ ys)
texts-append text [] ys h k = k
texts-append text (c ∷ xs) ys h k = (h.0, texts-append text xs ys h.1 k)

-- ---- of a value that the text spells

leaf_texts : (text : List ℕ) (l : Leaf) (from to : ℕ) (s t : List ℕ) → Suffix text s → SpellsLeaf (length text) l from to s t → AreTexts text (cell (kind_of l) from to 0 ∷ [])
leaf_texts text (word null_word) from to s t h sp = (tt, tt)
leaf_texts text (word true_word) from to s t h sp = (tt, tt)
leaf_texts text (word false_word) from to s t h sp = (tt, tt)
leaf_texts text (number ds) from to s t h sp = (tt, tt)
leaf_texts text (string x) from to s t h sp =
    (subst (λ (raw : List ℕ). IsUtf8 (decoded raw)) (sym (string_slice text sp.1.0 from to s t sp.0 h sp.1.2 sp.2 sp.3 sp.4)) (IsUtf8-decoded sp.1.0 sp.1.1), tt)

bracket_text : (b : Bracket) (text : List ℕ) (c : Cell) → IsText (kind_of_bracket b) text c
bracket_text square text c = tt
bracket_text curly text c = tt

part_texts : (text : List ℕ) (d : ℕ) (b : Bracket) (name : Option Name) (v : Json) (ps : Parts) (s t : List ℕ) → Suffix text s → SpellsPart (length text) b name (Spells (length text) d v) s t
    → ((x y : List ℕ) → Suffix text x → Spells (length text) d v x y → AreTexts text (cells_of v)) → AreTexts text (cells_in ps) → AreTexts text (cells_in (part name v ps))
part_texts text d square None v ps s t h p f g = texts-append text (cells_of v) (cells_in ps) (f p.0 t (after_blanks text s p.0 h p.1) p.2) g
part_texts text d square (Some name) v ps s t h p f g = absurd p
part_texts text d curly None v ps s t h p f g = absurd p
part_texts text d curly (Some name) v ps s t h p f g =
    let i : Suffix text p.0 = after_blanks text s p.0 h p.2 in
    let a : Suffix text p.1 = after_leaf text (length text) (string name.text) name.from name.to p.0 p.1 i p.3 in
    let c : Suffix text p.4.0 = after_byte text (58 ∷ p.4.0) p.4.0 58 (after_blanks text p.1 (58 ∷ p.4.0) a p.4.1) refl in (
      (leaf_texts text (string name.text) name.from name.to p.0 p.1 i p.3).0,
      texts-append text (cells_of v) (cells_in ps) (f p.4.2.0 t (after_blanks text p.4.0 p.4.2.0 c p.4.2.1) p.4.2.2) g,
    )

mutual
  value_texts : (text : List ℕ) (d : ℕ) (v : Json) (s t : List ℕ) → Suffix text s → Spells (length text) d v s t → AreTexts text (cells_of v)
  value_texts text d (leaf l from to) s t h sp = leaf_texts text l from to s t h sp
  value_texts text d (nest b from to ps) s t h sp =
      (bracket_text b text _, first_texts text sp.0 b ps to sp.3.0 t (after_byte text s sp.3.0 (opening b) h sp.3.1) sp.3.2)

  first_texts : (text : List ℕ) (d : ℕ) (b : Bracket) (ps : Parts) (to : ℕ) (s t : List ℕ) → Suffix text s → SpellsFirst (length text) d b ps to s t → AreTexts text (cells_in ps)
  first_texts text d b no_parts to s t h sp = tt
  first_texts text d b (part name v ps) to s t h sp =
      let r : Suffix text sp.0 = after_part text (length text) b name (Spells (length text) d v) (λ x y q i. after_value text (length text) d v x y q i) s sp.0 h sp.1 in
      part_texts text d b name v ps s sp.0 h sp.1 (λ x y i q. value_texts text d v x y i q) (more_texts text d b ps to sp.0 t r sp.2)

  more_texts : (text : List ℕ) (d : ℕ) (b : Bracket) (ps : Parts) (to : ℕ) (s t : List ℕ) → Suffix text s → SpellsMore (length text) d b ps to s t → AreTexts text (cells_in ps)
  more_texts text d b no_parts to s t h sp = tt
  more_texts text d b (part name v ps) to s t h sp =
      let i : Suffix text sp.0 = after_byte text (44 ∷ sp.0) sp.0 44 (after_blanks text s (44 ∷ sp.0) h sp.2) refl in
      let r : Suffix text sp.1 = after_part text (length text) b name (Spells (length text) d v) (λ x y q i. after_value text (length text) d v x y q i) sp.0 sp.1 i sp.3 in
      part_texts text d b name v ps sp.0 sp.1 i sp.3 (λ x y j q. value_texts text d v x y j q) (more_texts text d b ps to sp.1 t r sp.4)

pub are_texts : (text : List ℕ) (d : ℕ) (w : Json) → SpelledWithin d text w → AreTexts text (cells_of w)
are_texts text d w (s, t, bl, sp, b) = value_texts text d w s t (whole_suffix text s bl) sp
