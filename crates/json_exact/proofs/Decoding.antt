-- The cells of a value stand for the value.
use Rattle.std.proofs.Common.{◌≡◌, ◌≢◌, ℕ, zero, suc, ◌+◌, ◌-◌, ◌<◌, ◌≤◌, List, [], ◌∷◌, ◌++◌, length, get_or, take, drop, refl, sym, ◌∙◌, ap, arith, append_assoc, length-append, Option, Some, None, Bool, cond, true, false}
use Rattle.std.proofs.lemmas.Bool.{both_ways}
use denote.Enum.Bare.{sameb}
use Rattle.json_exact.specs.contracts.cells.Kind.{the_type}
use Rattle.std.proofs.lemmas.List.{take_at, drop_at, length-drop, take_all, take-take, length-take}
use Rattle.std.specs.Prelude.{slice_range}
use Rattle.json_exact.specs.Json.{null_word, true_word, false_word, Leaf, word, number, string, Bracket, square, curly, Name, Json, leaf, nest, Parts, no_parts, part, values, items, member, first_named}
use Rattle.json_exact.specs.Characters.{decoded}
use Rattle.json_exact.specs.ByteComparisons.{same_bytes}
use Rattle.json_exact.specs.JsonText.{Blanks, SpelledWithin, SpellsLeaf, Spells, SpellsFirst, SpellsMore, SpellsPart, opening, closing}
use Rattle.json_exact.specs.JsonRests.{kind_of, kind_of_bracket, cell, cells_of, cells_in}
use Rattle.json_exact.specs.JsonCells.{node, node_of, name_of, parts_of, all_parts, first_value, own_cells, other_cells, first_kind, first_inside}
use Rattle.json_exact.specs.declared.cells.Cell.{Cell}
use Rattle.json_exact.specs.declared.cells.Kind.{Kind}
use Rattle.json_exact.specs.declared.cells.Kind.TheVariants.{Null, True, False, Number, String, List as AList, Object}

-- ---- a number of parts that is enough gives them all

node_same : (k : Kind) (text : List ℕ) (c : Cell) (f g : Bracket → Parts) → f square ≡ g square → f curly ≡ g curly → node_of k text c f ≡ node_of k text c g
node_same Null text c f g h i = refl
node_same True text c f g h i = refl
node_same False text c f g h i = refl
node_same Number text c f g h i = refl
node_same String text c f g h i = refl
node_same AList text c f g h i = ap (λ (ps : Parts). nest square c.at c.end ps) h
node_same Object text c f g h i = ap (λ (ps : Parts). nest curly c.at c.end ps) i

shorter : (n m : ℕ) (cs : List Cell) → length cs ≤ n → length (take m cs) ≤ n
shorter n m cs h = omega (arith, length-take m cs)

left : (n m : ℕ) (cs : List Cell) → length cs ≤ n → length (drop m cs) ≤ n
left n m cs h = omega (arith, length-drop m cs)

pub enough : (n m : ℕ) (text : List ℕ) (b : Bracket) (cs : List Cell) → length cs ≤ n → length cs ≤ m → parts_of n text b cs ≡ parts_of m text b cs
unfolding parts_of
enough zero zero text b cs h k = refl
enough zero (suc m) text square [] h k = refl
enough zero (suc m) text curly [] h k = refl
enough zero (suc m) text square (c ∷ cs) h k = absurd (omega arith)
enough zero (suc m) text curly (c ∷ cs) h k = absurd (omega arith)
enough (suc n) zero text square [] h k = refl
enough (suc n) zero text curly [] h k = refl
enough (suc n) zero text square (c ∷ cs) h k = absurd (omega arith)
enough (suc n) zero text curly (c ∷ cs) h k = absurd (omega arith)
enough (suc n) (suc m) text square [] h k = refl
enough (suc n) (suc m) text curly [] h k = refl
enough (suc n) (suc m) text square (c ∷ cs) h k =
    let h' : length cs ≤ n = omega arith in
    let k' : length cs ≤ m = omega arith in
    let i : (b : Bracket) → parts_of n text b (take c.inside cs) ≡ parts_of m text b (take c.inside cs) = λ b. enough n m text b (take c.inside cs) (shorter n c.inside cs h') (shorter m c.inside cs k') in
    let v = node_same c.kind text c (λ b. parts_of n text b (take c.inside cs)) (λ b. parts_of m text b (take c.inside cs)) (i square) (i curly) in
    ap (λ (x : Json). part None x (parts_of n text square (drop c.inside cs))) v
    ∙ ap (λ (x : Parts). part None (node text c (λ b. parts_of m text b (take c.inside cs))) x) (enough n m text square (drop c.inside cs) (left n c.inside cs h') (left m c.inside cs k'))
enough (suc n) (suc m) text curly (d ∷ []) h k = refl
enough (suc n) (suc m) text curly (d ∷ c ∷ cs) h k =
    let h' : length cs ≤ n = omega arith in
    let k' : length cs ≤ m = omega arith in
    let i : (b : Bracket) → parts_of n text b (take c.inside cs) ≡ parts_of m text b (take c.inside cs) = λ b. enough n m text b (take c.inside cs) (shorter n c.inside cs h') (shorter m c.inside cs k') in
    let v = node_same c.kind text c (λ b. parts_of n text b (take c.inside cs)) (λ b. parts_of m text b (take c.inside cs)) (i square) (i curly) in
    ap (λ (x : Json). part (Some (name_of text d)) x (parts_of n text curly (drop c.inside cs))) v
    ∙ ap (λ (x : Parts). part (Some (name_of text d)) (node text c (λ b. parts_of m text b (take c.inside cs))) x) (enough n m text curly (drop c.inside cs) (left n c.inside cs h') (left m c.inside cs k'))

-- ---- what is left of a text

pub Suffix : List ℕ → List ℕ → Type 0
Suffix text s = (p : List ℕ) × (text ≡ p ++ s)

after_prefix : (text q s t : List ℕ) → Suffix text s → s ≡ q ++ t → Suffix text t
unfolding Suffix
after_prefix text q s t (p, e) f = (p ++ q, e ∙ ap (λ (x : List ℕ). p ++ x) f ∙ sym (append_assoc p q t))

pub after_blanks : (text s t : List ℕ) → Suffix text s → Blanks s t → Suffix text t
after_blanks text s t h b = after_prefix text b.0 s t h b.2

pub after_byte : (text s t : List ℕ) (c : ℕ) → Suffix text s → s ≡ c ∷ t → Suffix text t
after_byte text s t c h e = after_prefix text (c ∷ []) s t h e

pub after_leaf : (text : List ℕ) (n : ℕ) (l : Leaf) (from to : ℕ) (s t : List ℕ) → Suffix text s → SpellsLeaf n l from to s t → Suffix text t
after_leaf text n l from to s t h sp = after_prefix text sp.0 s t h sp.2

pub after_part : (text : List ℕ) (n : ℕ) (b : Bracket) (name : Option Name) (spells : List ℕ → List ℕ → Type 0) → ((s t : List ℕ) → spells s t → Suffix text s → Suffix text t)
    → (s t : List ℕ) → Suffix text s → SpellsPart n b name spells s t → Suffix text t
after_part text n square None spells f s t h p = f p.0 t p.2 (after_blanks text s p.0 h p.1)
after_part text n square (Some name) spells f s t h p = absurd p
after_part text n curly None spells f s t h p = absurd p
after_part text n curly (Some name) spells f s t h p =
    let a : Suffix text p.1 = after_leaf text n (string name.text) name.from name.to p.0 p.1 (after_blanks text s p.0 h p.2) p.3 in
    let c : Suffix text p.4.0 = after_byte text (58 ∷ p.4.0) p.4.0 58 (after_blanks text p.1 (58 ∷ p.4.0) a p.4.1) refl in
    f p.4.2.0 t p.4.2.2 (after_blanks text p.4.0 p.4.2.0 c p.4.2.1)

mutual
  pub after_value : (text : List ℕ) (n d : ℕ) (v : Json) (s t : List ℕ) → Spells n d v s t → Suffix text s → Suffix text t
  after_value text n d (leaf l from to) s t sp h = after_leaf text n l from to s t h sp
  after_value text n d (nest b from to ps) s t sp h = after_first text n sp.0 b ps to sp.3.0 t sp.3.2 (after_byte text s sp.3.0 (opening b) h sp.3.1)

  after_first : (text : List ℕ) (n d : ℕ) (b : Bracket) (ps : Parts) (to : ℕ) (s t : List ℕ) → SpellsFirst n d b ps to s t → Suffix text s → Suffix text t
  after_first text n d b no_parts to s t sp h = after_byte text (closing b ∷ t) t (closing b) (after_blanks text s (closing b ∷ t) h sp.0) refl
  after_first text n d b (part name v ps) to s t sp h =
      after_more text n d b ps to sp.0 t sp.2 (after_part text n b name (Spells n d v) (λ x y q i. after_value text n d v x y q i) s sp.0 h sp.1)

  after_more : (text : List ℕ) (n d : ℕ) (b : Bracket) (ps : Parts) (to : ℕ) (s t : List ℕ) → SpellsMore n d b ps to s t → Suffix text s → Suffix text t
  after_more text n d b no_parts to s t sp h = after_byte text (closing b ∷ t) t (closing b) (after_blanks text s (closing b ∷ t) h sp.0) refl
  after_more text n d b (part name v ps) to s t sp h =
      after_more text n d b ps to sp.1 t sp.4
      (after_part text n b name (Spells n d v) (λ x y q i. after_value text n d v x y q i) sp.0 sp.1 (after_byte text (44 ∷ sp.0) sp.0 44 (after_blanks text s (44 ∷ sp.0) h sp.2) refl) sp.3)

-- ---- the bytes of a leaf

slice_at : (p bytes t : List ℕ) (from to : ℕ) → from ≡ length p → to ≡ from + length bytes → slice_range (p ++ (bytes ++ t)) from to ≡ bytes
slice_at p bytes t from to e f =
    let d : drop from (p ++ (bytes ++ t)) ≡ bytes ++ t = drop_at p (bytes ++ t) from (sym e) in
    let n : to - from ≡ length bytes = omega arith in
    ap (λ (q : List ℕ). take (to - from) q) d ∙ take_at bytes t (to - from) (sym n)

pub leaf_slice : (text : List ℕ) (l : Leaf) (from to : ℕ) (s t : List ℕ) → Suffix text s → (sp : SpellsLeaf (length text) l from to s t) → slice_range text from to ≡ sp.0
unfolding Suffix
leaf_slice text l from to s t (p, e) sp =
    let all : text ≡ p ++ (sp.0 ++ t) = e ∙ ap (λ (x : List ℕ). p ++ x) sp.2 in
    let n1 : length text ≡ length p + length s = ap length e ∙ length-append p s in
    let n2 : length s ≡ length sp.0 + length t = ap length sp.2 ∙ length-append sp.0 t in
    ap (λ (x : List ℕ). slice_range x from to) all ∙ slice_at p sp.0 t from to (omega (arith, sp.3)) (omega (arith, sp.3, sp.4))

pub string_slice : (text : List ℕ) (raw : List ℕ) (from to : ℕ) (s t bytes : List ℕ) → Suffix text s → bytes ≡ 34 ∷ raw ++ 34 ∷ [] → s ≡ bytes ++ t → from + length s ≡ length text → to + length t ≡ length text
    → slice_range text (from + 1) (to - 1) ≡ raw
unfolding Suffix
string_slice text raw from to s t bytes (p, e) f g h k =
    let g' : s ≡ (34 ∷ raw ++ 34 ∷ []) ++ t = g ∙ ap (λ (x : List ℕ). x ++ t) f in
    let all : text ≡ (p ++ 34 ∷ []) ++ (raw ++ (34 ∷ [] ++ t)) = e ∙ ap (λ (x : List ℕ). p ++ x) g' ∙ simp append_assoc in
    let n1 : length text ≡ length p + length s = ap length e ∙ length-append p s in
    let n2 : length s ≡ length (34 ∷ raw ++ 34 ∷ []) + length t = ap length g' ∙ length-append (34 ∷ raw ++ 34 ∷ []) t in
    let n3 : length (34 ∷ raw ++ 34 ∷ []) ≡ 1 + length raw + 1 = length-append (34 ∷ raw) (34 ∷ []) ∙ omega arith in
    let n4 : length (p ++ 34 ∷ []) ≡ length p + 1 = length-append p (34 ∷ []) in
    ap (λ (x : List ℕ). slice_range x (from + 1) (to - 1)) all ∙ slice_at (p ++ 34 ∷ []) raw (34 ∷ [] ++ t) (from + 1) (to - 1) (omega arith) (omega arith)

-- ---- the value of the cells

leaf_back : (text : List ℕ) (l : Leaf) (from to : ℕ) (s t : List ℕ) (f : Bracket → Parts) → Suffix text s → SpellsLeaf (length text) l from to s t
    → node text (cell (kind_of l) from to 0) f ≡ leaf l from to
leaf_back text (word null_word) from to s t f h sp = refl
leaf_back text (word true_word) from to s t f h sp = refl
leaf_back text (word false_word) from to s t f h sp = refl
leaf_back text (number ds) from to s t f h sp = ap (λ (x : List ℕ). leaf (number x) from to) (leaf_slice text (number ds) from to s t h sp ∙ sym sp.1.1)
leaf_back text (string x) from to s t f h sp =
    ap (λ (y : List ℕ). leaf (string y) from to) (ap decoded (string_slice text sp.1.0 from to s t sp.0 h sp.1.2 sp.2 sp.3 sp.4) ∙ sym sp.1.3)

name_back : (text : List ℕ) (name : Name) (s t : List ℕ) → Suffix text s → SpellsLeaf (length text) (string name.text) name.from name.to s t → name_of text (cell String name.from name.to 0) ≡ name
name_back text name s t h sp =
    ap (λ (y : List ℕ). record { from = name.from; to = name.to; text = y }) (ap decoded (string_slice text sp.1.0 name.from name.to s t sp.0 h sp.1.2 sp.2 sp.3 sp.4) ∙ sym sp.1.3)

abbrev pub head_of : Json → Cell
head_of (leaf l from to) = cell (kind_of l) from to 0
head_of (nest b from to ps) = cell (kind_of_bracket b) from to (length (cells_in ps))

abbrev pub inner_of : Json → List Cell
inner_of (leaf l from to) = []
inner_of (nest b from to ps) = cells_in ps

cells_split : (v : Json) → cells_of v ≡ head_of v ∷ inner_of v
cells_split (leaf l from to) = refl
cells_split (nest b from to ps) = refl

head_inside : (v : Json) → (head_of v).inside ≡ length (inner_of v)
head_inside (leaf l from to) = refl
head_inside (nest b from to ps) = refl

nest_back : (b : Bracket) (text : List ℕ) (from to n : ℕ) (f : Bracket → Parts) (ps : Parts) → f b ≡ ps → node text (cell (kind_of_bracket b) from to n) f ≡ nest b from to ps
nest_back square text from to n f ps e = ap (λ (x : Parts). nest square from to x) e
nest_back curly text from to n f ps e = ap (λ (x : Parts). nest curly from to x) e

none_back : (m : ℕ) (text : List ℕ) (b : Bracket) → parts_of m text b [] ≡ no_parts
unfolding parts_of
none_back zero text b = refl
none_back (suc m) text square = refl
none_back (suc m) text curly = refl

-- one part, and the cells behind it
item_step : (m : ℕ) (text : List ℕ) (v : Json) (cs : List Cell) (ps : Parts) → length (cells_of v ++ cs) ≤ m
    → ((k : ℕ) → length (inner_of v) ≤ k → node text (head_of v) (λ b. parts_of k text b (inner_of v)) ≡ v)
    → ((k : ℕ) → length cs ≤ k → parts_of k text square cs ≡ ps)
    → parts_of m text square (cells_of v ++ cs) ≡ part None v ps
unfolding parts_of
item_step zero text v cs ps h f g = absurd (omega (arith, ap length (cells_split v), length-append (cells_of v) cs))
item_step (suc m) text v cs ps h f g =
    let e : cells_of v ++ cs ≡ head_of v ∷ (inner_of v ++ cs) = ap (λ (x : List Cell). x ++ cs) (cells_split v) in
    let n : length (inner_of v ++ cs) ≡ length (inner_of v) + length cs = length-append (inner_of v) cs in
    let n2 : length (cells_of v ++ cs) ≡ suc (length (inner_of v ++ cs)) = ap length e in
    let a : take (head_of v).inside (inner_of v ++ cs) ≡ inner_of v = take_at (inner_of v) cs (head_of v).inside (sym (head_inside v)) in
    let b : drop (head_of v).inside (inner_of v ++ cs) ≡ cs = drop_at (inner_of v) cs (head_of v).inside (sym (head_inside v)) in
    ap (λ (x : List Cell). parts_of (suc m) text square x) e
    ∙ ap (λ (x : List Cell). part None (node text (head_of v) (λ k. parts_of m text k x)) (parts_of m text square (drop (head_of v).inside (inner_of v ++ cs)))) a
    ∙ ap (λ (x : Json). part None x (parts_of m text square (drop (head_of v).inside (inner_of v ++ cs)))) (f m (omega arith))
    ∙ ap (λ (x : List Cell). part None v (parts_of m text square x)) b ∙ ap (λ (x : Parts). part None v x) (g m (omega arith))

member_step : (m : ℕ) (text : List ℕ) (d : Cell) (v : Json) (cs : List Cell) (ps : Parts) → length (d ∷ (cells_of v ++ cs)) ≤ m
    → ((k : ℕ) → length (inner_of v) ≤ k → node text (head_of v) (λ b. parts_of k text b (inner_of v)) ≡ v)
    → ((k : ℕ) → length cs ≤ k → parts_of k text curly cs ≡ ps)
    → parts_of m text curly (d ∷ (cells_of v ++ cs)) ≡ part (Some (name_of text d)) v ps
unfolding parts_of
member_step zero text d v cs ps h f g = absurd (omega arith)
member_step (suc m) text d v cs ps h f g =
    let name = Some (name_of text d) in
    let e : d ∷ (cells_of v ++ cs) ≡ d ∷ head_of v ∷ (inner_of v ++ cs) = ap (λ (x : List Cell). d ∷ (x ++ cs)) (cells_split v) in
    let n : length (inner_of v ++ cs) ≡ length (inner_of v) + length cs = length-append (inner_of v) cs in
    let n2 : length (d ∷ (cells_of v ++ cs)) ≡ suc (suc (length (inner_of v ++ cs))) = ap length e in
    let a : take (head_of v).inside (inner_of v ++ cs) ≡ inner_of v = take_at (inner_of v) cs (head_of v).inside (sym (head_inside v)) in
    let b : drop (head_of v).inside (inner_of v ++ cs) ≡ cs = drop_at (inner_of v) cs (head_of v).inside (sym (head_inside v)) in
    ap (λ (x : List Cell). parts_of (suc m) text curly x) e
    ∙ ap (λ (x : List Cell). part name (node text (head_of v) (λ k. parts_of m text k x)) (parts_of m text curly (drop (head_of v).inside (inner_of v ++ cs)))) a
    ∙ ap (λ (x : Json). part name x (parts_of m text curly (drop (head_of v).inside (inner_of v ++ cs)))) (f m (omega arith))
    ∙ ap (λ (x : List Cell). part name v (parts_of m text curly x)) b ∙ ap (λ (x : Parts). part name v x) (g m (omega arith))

-- a part in its brackets
part_step : (m d : ℕ) (text : List ℕ) (b : Bracket) (name : Option Name) (v : Json) (ps : Parts) (s t : List ℕ) → Suffix text s → SpellsPart (length text) b name (Spells (length text) d v) s t
    → length (cells_in (part name v ps)) ≤ m
    → ((x y : List ℕ) → Suffix text x → Spells (length text) d v x y → (k : ℕ) → length (inner_of v) ≤ k → node text (head_of v) (λ c. parts_of k text c (inner_of v)) ≡ v)
    → ((k : ℕ) → length (cells_in ps) ≤ k → parts_of k text b (cells_in ps) ≡ ps)
    → parts_of m text b (cells_in (part name v ps)) ≡ part name v ps
part_step m d text square None v ps s t h p le f g = item_step m text v (cells_in ps) ps le (f p.0 t (after_blanks text s p.0 h p.1) p.2) g
part_step m d text square (Some name) v ps s t h p le f g = absurd p
part_step m d text curly None v ps s t h p le f g = absurd p
part_step m d text curly (Some name) v ps s t h p le f g =
    let i : Suffix text p.0 = after_blanks text s p.0 h p.2 in
    let a : Suffix text p.1 = after_leaf text (length text) (string name.text) name.from name.to p.0 p.1 i p.3 in
    let c : Suffix text p.4.0 = after_byte text (58 ∷ p.4.0) p.4.0 58 (after_blanks text p.1 (58 ∷ p.4.0) a p.4.1) refl in
    member_step m text (cell String name.from name.to 0) v (cells_in ps) ps le (f p.4.2.0 t (after_blanks text p.4.0 p.4.2.0 c p.4.2.1) p.4.2.2) g
    ∙ ap (λ (x : Name). part (Some x) v ps) (name_back text name p.0 p.1 i p.3)

mutual
  value_back : (text : List ℕ) (d : ℕ) (v : Json) (s t : List ℕ) → Suffix text s → Spells (length text) d v s t → (k : ℕ) → length (inner_of v) ≤ k
      → node text (head_of v) (λ b. parts_of k text b (inner_of v)) ≡ v
  value_back text d (leaf l from to) s t h sp k le = leaf_back text l from to s t (λ b. parts_of k text b []) h sp
  value_back text d (nest b from to ps) s t h sp k le =
      nest_back b text from to (length (cells_in ps)) (λ c. parts_of k text c (cells_in ps)) ps (first_back text sp.0 b ps to sp.3.0 t (after_byte text s sp.3.0 (opening b) h sp.3.1) sp.3.2 k le)

  first_back : (text : List ℕ) (d : ℕ) (b : Bracket) (ps : Parts) (to : ℕ) (s t : List ℕ) → Suffix text s → SpellsFirst (length text) d b ps to s t → (k : ℕ) → length (cells_in ps) ≤ k
      → parts_of k text b (cells_in ps) ≡ ps
  first_back text d b no_parts to s t h sp k le = none_back k text b
  first_back text d b (part name v ps) to s t h sp k le =
      let r : Suffix text sp.0 = after_part text (length text) b name (Spells (length text) d v) (λ x y q i. after_value text (length text) d v x y q i) s sp.0 h sp.1 in
      part_step k d text b name v ps s sp.0 h sp.1 le (λ x y i q m l. value_back text d v x y i q m l) (λ m l. more_back text d b ps to sp.0 t r sp.2 m l)

  more_back : (text : List ℕ) (d : ℕ) (b : Bracket) (ps : Parts) (to : ℕ) (s t : List ℕ) → Suffix text s → SpellsMore (length text) d b ps to s t → (k : ℕ) → length (cells_in ps) ≤ k
      → parts_of k text b (cells_in ps) ≡ ps
  more_back text d b no_parts to s t h sp k le = none_back k text b
  more_back text d b (part name v ps) to s t h sp k le =
      let i : Suffix text sp.0 = after_byte text (44 ∷ sp.0) sp.0 44 (after_blanks text s (44 ∷ sp.0) h sp.2) refl in
      let r : Suffix text sp.1 = after_part text (length text) b name (Spells (length text) d v) (λ x y q i. after_value text (length text) d v x y q i) sp.0 sp.1 i sp.3 in
      part_step k d text b name v ps sp.0 sp.1 i sp.3 le (λ x y j q m l. value_back text d v x y j q m l) (λ m l. more_back text d b ps to sp.1 t r sp.4 m l)

pub whole_suffix : (text s : List ℕ) → Blanks text s → Suffix text s
unfolding Suffix
whole_suffix text s b = (b.0, b.2)

pub decoded_value : (text : List ℕ) (d : ℕ) (w : Json) → SpelledWithin d text w → first_value text (cells_of w) ≡ w
decoded_value text d w (s, t, bl, sp, b) =
    let h : Suffix text s = whole_suffix text s bl in
    let all : take (head_of w).inside (inner_of w) ≡ inner_of w = take_all (head_of w).inside (inner_of w) (omega (arith, head_inside w)) in
    ap (first_value text) (cells_split w) ∙ ap (λ (x : List Cell). node text (head_of w) (λ c. all_parts text c x)) all
    ∙ value_back text d w s t h sp (length (inner_of w)) (omega arith)

-- ---- parts by their first

value_own : (text : List ℕ) (c : Cell) (cs : List Cell) (n : ℕ) → length cs ≤ n → node text c (λ b. parts_of n text b (take c.inside cs)) ≡ first_value text (own_cells (c ∷ cs))
value_own text c cs n h =
    let again : take c.inside (take c.inside cs) ≡ take c.inside cs = take-take c.inside c.inside cs (omega arith) in
    let same : (b : Bracket) → parts_of n text b (take c.inside cs) ≡ all_parts text b (take c.inside (take c.inside cs)) = λ b.
    enough n (length (take c.inside cs)) text b (take c.inside cs) (shorter n c.inside cs h) (omega arith) ∙ ap (λ (x : List Cell). all_parts text b x) (sym again) in
    node_same c.kind text c (λ b. parts_of n text b (take c.inside cs)) (λ b. all_parts text b (take c.inside (take c.inside cs))) (same square) (same curly)

pub first_item : (text : List ℕ) (c : Cell) (cs : List Cell) → all_parts text square (c ∷ cs) ≡ part None (first_value text (own_cells (c ∷ cs))) (all_parts text square (other_cells (c ∷ cs)))
unfolding parts_of
first_item text c cs =
    ap (λ (x : Json). part None x (parts_of (length cs) text square (drop c.inside cs))) (value_own text c cs (length cs) (omega arith))
    ∙ ap (λ (x : Parts). part None (first_value text (own_cells (c ∷ cs))) x) (enough (length cs) (length (drop c.inside cs)) text square (drop c.inside cs) (left (length cs) c.inside cs (omega arith)) (omega arith))

pub first_member : (text : List ℕ) (k c : Cell) (cs : List Cell)
    → all_parts text curly (k ∷ c ∷ cs) ≡ part (Some (name_of text k)) (first_value text (own_cells (c ∷ cs))) (all_parts text curly (other_cells (c ∷ cs)))
unfolding parts_of
first_member text k c cs =
    ap (λ (x : Json). part (Some (name_of text k)) x (parts_of (suc (length cs)) text curly (drop c.inside cs))) (value_own text c cs (suc (length cs)) (omega arith))
    ∙ ap (λ (x : Parts). part (Some (name_of text k)) (first_value text (own_cells (c ∷ cs))) x)
    (enough (suc (length cs)) (length (drop c.inside cs)) text curly (drop c.inside cs) (left (suc (length cs)) c.inside cs (omega arith)) (omega arith))

-- ---- what is left of items and members

pub none_left : (text : List ℕ) → values (all_parts text square []) ≡ []
unfolding parts_of
none_left text = refl

pub one_left : (text : List ℕ) (cells : List Cell) → 0 < length cells
    → values (all_parts text square cells) ≡ first_value text (own_cells cells) ∷ values (all_parts text square (other_cells cells))
one_left text [] h = absurd (omega arith)
one_left text (c ∷ cs) h = ap values (first_item text c cs)

pub no_members : (text : List ℕ) (test : List ℕ → Bool) (cells : List Cell) → length cells < 2 → first_named test (all_parts text curly cells) ≡ None
unfolding parts_of
no_members text test [] h = refl
no_members text test (k ∷ []) h = refl
no_members text test (k ∷ c ∷ cs) h = absurd (omega arith)

pub one_member : (text name : List ℕ) (cells : List Cell) (d : Cell) (r : List ℕ) → 2 ≤ length cells → r ≡ slice_range text ((get_or cells 0 d).at + 1) ((get_or cells 0 d).end - 1)
    → first_named (λ t. same_bytes t name) (all_parts text curly cells)
    ≡ cond (same_bytes (decoded r) name) (Some (first_value text (own_cells (drop 1 cells)))) (first_named (λ t. same_bytes t name) (all_parts text curly (other_cells (drop 1 cells))))
one_member text name [] d r h e = absurd (omega arith)
one_member text name (k ∷ []) d r h e = absurd (omega arith)
one_member text name (k ∷ c ∷ cs) d r h e =
    ap (first_named (λ t. same_bytes t name)) (first_member text k c cs)
    ∙ ap (λ (x : List ℕ). cond (same_bytes (decoded x) name) (Some (first_value text (own_cells (c ∷ cs)))) (first_named (λ t. same_bytes t name) (all_parts text curly (other_cells (c ∷ cs))))) (sym e)

if_true : {A : Type 0} (b : Bool) (x y : A) → b ≡ true → cond b x y ≡ x
if_true true x y e = refl
if_true false x y e = cc

if_false : {A : Type 0} (b : Bool) (x y : A) → b ≡ false → cond b x y ≡ y
if_false true x y e = cc
if_false false x y e = refl

pub member_found : (text name : List ℕ) (cells : List Cell) (d : Cell) (r : List ℕ) → 2 ≤ length cells → r ≡ slice_range text ((get_or cells 0 d).at + 1) ((get_or cells 0 d).end - 1)
    → same_bytes (decoded r) name ≡ true → first_named (λ t. same_bytes t name) (all_parts text curly cells) ≡ Some (first_value text (own_cells (drop 1 cells)))
member_found text name cells d r h e t = one_member text name cells d r h e ∙ if_true (same_bytes (decoded r) name) _ _ t

pub member_passed : (text name : List ℕ) (cells : List Cell) (d : Cell) (r : List ℕ) → 2 ≤ length cells → r ≡ slice_range text ((get_or cells 0 d).at + 1) ((get_or cells 0 d).end - 1)
    → same_bytes (decoded r) name ≡ false → first_named (λ t. same_bytes t name) (all_parts text curly cells) ≡ first_named (λ t. same_bytes t name) (all_parts text curly (other_cells (drop 1 cells)))
member_passed text name cells d r h e t = one_member text name cells d r h e ∙ if_false (same_bytes (decoded r) name) _ _ t

items_of : (k : Kind) (text : List ℕ) (c : Cell) (f : Bracket → Parts) → k ≢ AList → items (node_of k text c f) ≡ []
items_of Null text c f h = refl
items_of True text c f h = refl
items_of False text c f h = refl
items_of Number text c f h = refl
items_of String text c f h = refl
items_of AList text c f h = absurd (h refl)
items_of Object text c f h = refl

items_kind : (text : List ℕ) (cells : List Cell) → first_kind cells ≢ AList → items (first_value text cells) ≡ []
items_kind text [] h = refl
items_kind text (c ∷ cs) h = items_of c.kind text c (λ b. all_parts text b (take c.inside cs)) h

pub items_none : (text : List ℕ) (cells : List Cell) → sameb the_type (first_kind cells) AList ≡ false → items (first_value text cells) ≡ []
items_none text cells h = items_kind text cells (λ e. both_ways (sameb the_type (first_kind cells) AList) h (ap (λ (k : Kind). sameb the_type k AList) e ∙ refl))

member_kind : (k : Kind) (text : List ℕ) (c : Cell) (f : Bracket → Parts) (test : List ℕ → Bool) → k ≡ Object → member test (node_of k text c f) ≡ first_named test (f curly)
member_kind Null text c f test e = cc
member_kind True text c f test e = cc
member_kind False text c f test e = cc
member_kind Number text c f test e = cc
member_kind String text c f test e = cc
member_kind AList text c f test e = cc
member_kind Object text c f test e = refl

pub members_begin : (text : List ℕ) (cells : List Cell) (test : List ℕ → Bool) → first_kind cells ≡ Object → member test (first_value text cells) ≡ first_named test (all_parts text curly (first_inside cells))
members_begin text [] test e = cc
members_begin text (c ∷ cs) test e = member_kind c.kind text c (λ b. all_parts text b (take c.inside cs)) test e

member_not : (k : Kind) (text : List ℕ) (c : Cell) (f : Bracket → Parts) (test : List ℕ → Bool) → k ≢ Object → member test (node_of k text c f) ≡ None
member_not Null text c f test e = refl
member_not True text c f test e = refl
member_not False text c f test e = refl
member_not Number text c f test e = refl
member_not String text c f test e = refl
member_not AList text c f test e = refl
member_not Object text c f test e = absurd (e refl)

pub nothing_left : (text : List ℕ) (cells : List Cell) → length cells ≡ 0 → values (all_parts text square cells) ≡ []
unfolding parts_of
nothing_left text [] e = refl
nothing_left text (c ∷ cs) e = absurd (omega arith)

pub left_over : (xs ys : List Json) (x : Json) → xs ≡ x ∷ ys → length ys < length xs
left_over xs ys x e = omega (arith, ap length e)
