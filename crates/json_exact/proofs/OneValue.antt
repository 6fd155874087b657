-- A text has one value at most.
use Rattle.std.proofs.Common.{◌≡◌, ℕ, ◌+◌, List, [], ◌∷◌, ◌++◌, length, drop, refl, sym, ◌∙◌, ap, subst, arith, Option, Some, None}
use Rattle.json_exact.specs.Json.{Leaf, word, number, string, Bracket, square, curly, Name, Json, leaf, nest, Parts, no_parts, part}
use Rattle.json_exact.specs.JsonText.{Blanks, SpelledWithin, SpellsLeaf, Spells, SpellsFirst, SpellsMore, SpellsPart, opening, closing}
use Rattle.json_exact.specs.JsonRests.{no_number, Counts}
use Rattle.json_exact.proofs.Blanks.{Firm, leaf_starts, closing_firm, spells_firm, spells_leaf_firm, part_pass}
use Rattle.json_exact.proofs.Steps.{heads, part_not_closing, clear_prefix, closing_clear, comma_closing, opening_same}
use Rattle.json_exact.proofs.Leaves.{class, class_starts, class_at, leaf_same, limit_of, leaf_not_opening, name_is}
use Rattle.json_exact.proofs.Tokens.{blanks_same}

blanks_both : (t s r : List ℕ) → Firm s → Firm r → Blanks t s → Blanks t r → s ≡ r
blanks_both t [] [] f g h k = refl
blanks_both t [] (c ∷ r) f g h k = blanks_same t c r [] g f k h
blanks_both t (c ∷ s) [] f g h k = sym (blanks_same t c s [] f g h k)
blanks_both t (c ∷ s) (d ∷ r) f g h k = sym (blanks_same t c s (d ∷ r) f g h k)

any_limit : (l : Leaf) (t : List ℕ) → Counts no_number t → Counts (limit_of l) t
any_limit (word w) t c = tt
any_limit (number ds) t c = c
any_limit (string s) t c = tt

same_place : (n a b : ℕ) (s : List ℕ) → a + length s ≡ n → b + length s ≡ n → a ≡ b
same_place n a b s e f = omega arith

leaf_one : (n : ℕ) (l k : Leaf) (a z b y : ℕ) (s t u : List ℕ) → Counts no_number t → Counts no_number u → SpellsLeaf n l a z s t → SpellsLeaf n k b y s u
    → (l ≡ k) × (a ≡ b) × (z ≡ y) × (t ≡ u)
leaf_one n l k a z b y s t u ct cu p q =
    let x = leaf_starts l p.0 p.1 in
    let w = leaf_starts k q.0 q.1 in
    let e : p.0 ++ t ≡ q.0 ++ u = sym p.2 ∙ q.2 in
    let first : x.0 ≡ w.0 = heads x.0 w.0 (x.1 ++ t) (w.1 ++ u) (ap (λ (i : List ℕ). i ++ t) (sym x.2) ∙ e ∙ ap (λ (i : List ℕ). i ++ u) w.2) in
    let cl : class l ≡ class k = sym (class_starts l x.0 x.3) ∙ ap class_at first ∙ class_starts k w.0 w.3 in
    let both : (l ≡ k) × (t ≡ u) = leaf_same l k p.0 q.0 t u cl p.1 q.1 (any_limit l t ct) cu e in
    let ends : z + length u ≡ n = subst (λ (i : List ℕ). z + length i ≡ n) both.1 p.4 in
    (both.0, same_place n a b s p.3 q.3, same_place n z y u ends q.4, both.1)

more_clear : (n d : ℕ) (b : Bracket) (ps : Parts) (to : ℕ) (s t : List ℕ) → SpellsMore n d b ps to s t → Counts no_number s
more_clear n d b no_parts to s t sp = clear_prefix s (closing b ∷ t) (closing_clear b) sp.0
more_clear n d b (part name v ps) to s t sp = clear_prefix s (44 ∷ sp.0) refl sp.2

-- a closing bracket and a part do not stand in one place
no_part : (n d : ℕ) (b : Bracket) (name : Option Name) (v : Json) (s t r : List ℕ) → Blanks s (closing b ∷ t) → SpellsPart n b name (Spells n d v) s r → ⊥
no_part n d b name v s t r bl p =
    part_not_closing n d b name v t r
    (part_pass n b name (Spells n d v) (spells_firm n d v) bl.0 (closing b ∷ t) r bl.1 (subst (λ (q : List ℕ). SpellsPart n b name (Spells n d v) q r) bl.2 p))

same_close : (n : ℕ) (b : Bracket) (to to' : ℕ) (s t u : List ℕ) → Blanks s (closing b ∷ t) → to + length t ≡ n → Blanks s (closing b ∷ u) → to' + length u ≡ n → (to ≡ to') × (t ≡ u)
same_close n b to to' s t u h e k f =
    let all : closing b ∷ t ≡ closing b ∷ u = blanks_both s (closing b ∷ t) (closing b ∷ u) (closing_firm b) (closing_firm b) h k in
    let rest : t ≡ u = ap (drop 1) all in
    (same_place n to to' u (subst (λ (i : List ℕ). to + length i ≡ n) rest e) f, rest)

name_same : (a b : Name) → string a.text ≡ string b.text → a.from ≡ b.from → a.to ≡ b.to → a ≡ b
name_same a b e f g = (let text : a.text ≡ b.text = cc in name_is a b.from b.to b.text f g text)

part_one : (n d e : ℕ) (b : Bracket) (name other : Option Name) (v w : Json) (s t u : List ℕ) → Counts no_number t → Counts no_number u
    → ((x y z : List ℕ) → Counts no_number y → Counts no_number z → Spells n d v x y → Spells n e w x z → (v ≡ w) × (y ≡ z))
    → SpellsPart n b name (Spells n d v) s t → SpellsPart n b other (Spells n e w) s u → (name ≡ other) × (v ≡ w) × (t ≡ u)
part_one n d e square None None v w s t u ct cu f p q =
    let at : q.0 ≡ p.0 = blanks_both s q.0 p.0 (spells_firm n e w q.0 u q.2) (spells_firm n d v p.0 t p.2) q.1 p.1 in
    let both = f p.0 t u ct cu p.2 (subst (λ (i : List ℕ). Spells n e w i u) at q.2) in
    (refl, both.0, both.1)
part_one n d e square None (Some y) v w s t u ct cu f p q = absurd q
part_one n d e square (Some x) None v w s t u ct cu f p q = absurd p
part_one n d e square (Some x) (Some y) v w s t u ct cu f p q = absurd p
part_one n d e curly None None v w s t u ct cu f p q = absurd p
part_one n d e curly None (Some y) v w s t u ct cu f p q = absurd p
part_one n d e curly (Some x) None v w s t u ct cu f p q = absurd q
part_one n d e curly (Some x) (Some y) v w s t u ct cu f p q =
    let at : q.0 ≡ p.0 = blanks_both s q.0 p.0 (spells_leaf_firm n (string y.text) y.from y.to q.0 q.1 q.3) (spells_leaf_firm n (string x.text) x.from x.to p.0 p.1 p.3) q.2 p.2 in
    let named : SpellsLeaf n (string y.text) y.from y.to p.0 q.1 = subst (λ (i : List ℕ). SpellsLeaf n (string y.text) y.from y.to i q.1) at q.3 in
    let l = leaf_one n (string x.text) (string y.text) x.from x.to y.from y.to p.0 p.1 q.1 (clear_prefix p.1 (58 ∷ p.4.0) refl p.4.1) (clear_prefix q.1 (58 ∷ q.4.0) refl q.4.1) p.3 named in
    let colon : 58 ∷ q.4.0 ≡ 58 ∷ p.4.0 = blanks_both p.1 (58 ∷ q.4.0) (58 ∷ p.4.0) refl refl (subst (λ (i : List ℕ). Blanks i (58 ∷ q.4.0)) (sym l.3) q.4.1) p.4.1 in
    let behind : q.4.0 ≡ p.4.0 = ap (drop 1) colon in
    let value : q.4.2.0 ≡ p.4.2.0 = blanks_both p.4.0 q.4.2.0 p.4.2.0 (spells_firm n e w q.4.2.0 u q.4.2.2) (spells_firm n d v p.4.2.0 t p.4.2.2) (subst (λ (i : List ℕ). Blanks i q.4.2.0) behind q.4.2.1) p.4.2.1 in
    let both = f p.4.2.0 t u ct cu p.4.2.2 (subst (λ (i : List ℕ). Spells n e w i u) value q.4.2.2) in
    (ap (λ (i : Name). Some i) (name_same x y l.0 l.1 l.2), both.0, both.1)

same_nest : (b c : Bracket) (a z y x : ℕ) (ps qs : Parts) → b ≡ c → a ≡ z → y ≡ x → ps ≡ qs → nest b a y ps ≡ nest c z x qs
same_nest b c a z y x ps qs e f g h = cc

same_part : (a b : Option Name) (v w : Json) (ps qs : Parts) → a ≡ b → v ≡ w → ps ≡ qs → part a v ps ≡ part b w qs
same_part a b v w ps qs e f g = cc

same_leaf : (l k : Leaf) (a b z y : ℕ) → l ≡ k → a ≡ b → z ≡ y → leaf l a z ≡ leaf k b y
same_leaf l k a b z y e f g = cc

leaf_or_nest : (n : ℕ) (l : Leaf) (a z : ℕ) (b : Bracket) (s t r : List ℕ) → SpellsLeaf n l a z s t → s ≡ opening b ∷ r → ⊥
leaf_or_nest n l a z b s t r p e =
    let x = leaf_starts l p.0 p.1 in
    leaf_not_opening l x.0 x.3 b (heads x.0 (opening b) (x.1 ++ t) r (ap (λ (i : List ℕ). i ++ t) (sym x.2) ∙ sym p.2 ∙ e))

mutual
  value_one : (n d e : ℕ) (v w : Json) (s t u : List ℕ) → Counts no_number t → Counts no_number u → Spells n d v s t → Spells n e w s u → (v ≡ w) × (t ≡ u)
  value_one n d e (leaf l a z) (leaf k b y) s t u ct cu p q = (let o = leaf_one n l k a z b y s t u ct cu p q in (same_leaf l k a b z y o.0 o.1 o.2, o.3))
  value_one n d e (leaf l a z) (nest b f g ps) s t u ct cu p q = absurd (leaf_or_nest n l a z b s t q.3.0 p q.3.1)
  value_one n d e (nest b f g ps) (leaf l a z) s t u ct cu p q = absurd (leaf_or_nest n l a z b s u p.3.0 q p.3.1)
  value_one n d e (nest b f g ps) (nest c h i qs) s t u ct cu p q =
      let all : opening b ∷ p.3.0 ≡ opening c ∷ q.3.0 = sym p.3.1 ∙ q.3.1 in
      let kind : b ≡ c = opening_same b c (heads (opening b) (opening c) p.3.0 q.3.0 all) in
      let rest : q.3.0 ≡ p.3.0 = sym (ap (drop 1) all) in
      let q1 : SpellsFirst n q.0 c qs i p.3.0 u = subst (λ (x : List ℕ). SpellsFirst n q.0 c qs i x u) rest q.3.2 in
      let q2 : SpellsFirst n q.0 b qs i p.3.0 u = subst (λ (x : Bracket). SpellsFirst n q.0 x qs i p.3.0 u) (sym kind) q1 in
      let o = first_one n p.0 q.0 b ps qs g i p.3.0 t u p.3.2 q2 in
      (same_nest b c f h g i ps qs kind (same_place n f h s p.2 q.2) o.1 o.0, o.2)

  first_one : (n d e : ℕ) (b : Bracket) (ps qs : Parts) (to to' : ℕ) (s t u : List ℕ) → SpellsFirst n d b ps to s t → SpellsFirst n e b qs to' s u → (ps ≡ qs) × (to ≡ to') × (t ≡ u)
  first_one n d e b no_parts no_parts to to' s t u p q = (let o = same_close n b to to' s t u p.0 p.1 q.0 q.1 in (refl, o.0, o.1))
  first_one n d e b no_parts (part name w qs) to to' s t u p q = absurd (no_part n e b name w s t q.0 p.0 q.1)
  first_one n d e b (part name v ps) no_parts to to' s t u p q = absurd (no_part n d b name v s u p.0 q.0 p.1)
  first_one n d e b (part x v ps) (part y w qs) to to' s t u p q =
      let one = part_one n d e b x y v w s p.0 q.0 (more_clear n d b ps to p.0 t p.2) (more_clear n e b qs to' q.0 u q.2) (λ i j k c c' m o. value_one n d e v w i j k c c' m o) p.1 q.1 in
      let rest = more_one n d e b ps qs to to' p.0 t u p.2 (subst (λ (i : List ℕ). SpellsMore n e b qs to' i u) (sym one.2) q.2) in
      (same_part x y v w ps qs one.0 one.1 rest.0, rest.1, rest.2)

  more_one : (n d e : ℕ) (b : Bracket) (ps qs : Parts) (to to' : ℕ) (s t u : List ℕ) → SpellsMore n d b ps to s t → SpellsMore n e b qs to' s u → (ps ≡ qs) × (to ≡ to') × (t ≡ u)
  more_one n d e b no_parts no_parts to to' s t u p q = (let o = same_close n b to to' s t u p.0 p.1 q.0 q.1 in (refl, o.0, o.1))
  more_one n d e b no_parts (part name w qs) to to' s t u p q =
      absurd (comma_closing b (heads 44 (closing b) q.0 t (blanks_both s (44 ∷ q.0) (closing b ∷ t) refl (closing_firm b) q.2 p.0)))
  more_one n d e b (part name v ps) no_parts to to' s t u p q =
      absurd (comma_closing b (heads 44 (closing b) p.0 u (blanks_both s (44 ∷ p.0) (closing b ∷ u) refl (closing_firm b) p.2 q.0)))
  more_one n d e b (part x v ps) (part y w qs) to to' s t u p q =
      let comma : q.0 ≡ p.0 = ap (drop 1) (blanks_both s (44 ∷ q.0) (44 ∷ p.0) refl refl q.2 p.2) in
      let q3 : SpellsPart n b y (Spells n e w) p.0 q.1 = subst (λ (i : List ℕ). SpellsPart n b y (Spells n e w) i q.1) comma q.3 in
      let one = part_one n d e b x y v w p.0 p.1 q.1 (more_clear n d b ps to p.1 t p.4) (more_clear n e b qs to' q.1 u q.4) (λ i j k c c' m o. value_one n d e v w i j k c c' m o) p.3 q3 in
      let rest = more_one n d e b ps qs to to' p.1 t u p.4 (subst (λ (i : List ℕ). SpellsMore n e b qs to' i u) (sym one.2) q.4) in
      (same_part x y v w ps qs one.0 one.1 rest.0, rest.1, rest.2)

pub one_value : (levels more : ℕ) (text : List ℕ) (v w : Json) → SpelledWithin levels text v → SpelledWithin more text w → v ≡ w
one_value levels more text v w (s, t, bl, sp, b) (r, u, bl', sp', b') =
    let at : r ≡ s = blanks_both text r s (spells_firm (length text) more w r u sp') (spells_firm (length text) levels v s t sp) bl' bl in
    let ct : Counts no_number t = clear_prefix t [] tt b in
    let cu : Counts no_number u = clear_prefix u [] tt b' in
    (value_one (length text) levels more v w s t u ct cu sp (subst (λ (i : List ℕ). Spells (length text) more w i u) at sp')).0
