-- Blanks before a token may be passed, since no token begins with one.
use Rattle.std.proofs.Common.{◌≡◌, ◌≢◌, ℕ, List, [], ◌∷◌, ◌++◌, true, false, cond, refl, sym, ◌∙◌, ap, subst, ◌⊎◌, inl, inr, Option, Some, None, eqb, ◌||◌}
use Rattle.std.specs.Prelude.{◌==◌}
use Rattle.std.proofs.lemmas.Bool.{or_cases, eqb-true, both_ways}
use Rattle.json_exact.specs.Json.{null_word, true_word, false_word, Leaf, word, number, string, Bracket, square, curly, Name, Json, leaf, nest, Parts, no_parts, part}
use Rattle.json_exact.specs.JsonNumbers.{is_digit}
use Rattle.json_exact.specs.Scans.{is_in_number, then, written, may_end}
use Rattle.json_exact.specs.JsonText.{is_blank, AreBlanks, Blanks, IsLeaf, SpellsLeaf, opening, closing, SpellsPart, Spells, SpellsFirst, SpellsMore}
use Rattle.json_exact.specs.JsonRests.{Frame, Behind, Before, Opened, BeforeName, BeforeColon}
use Rattle.json_exact.specs.declared.scan.Last.{Last}
use Rattle.json_exact.specs.declared.scan.Last.TheVariants.{Nothing, Minus, Zero, Whole, Misplaced}
use Rattle.json_exact.proofs.Digits.{number_ends, ends_placed, written-misplaced}

-- the text does not begin with a blank
abbrev pub Firm : List ℕ → Type 0
Firm [] = Unit {0}
Firm (b ∷ t) = is_blank b ≡ false

pub no_blanks : (t : List ℕ) → Blanks t t
no_blanks t = ([], tt, refl)

prefix_none : (bs : List ℕ) (b : ℕ) (t s : List ℕ) → is_blank b ≡ false → AreBlanks bs → b ∷ t ≡ bs ++ s → s ≡ b ∷ t
prefix_none [] b t s f h e = sym e
prefix_none (c ∷ bs) b t s f h e =
    let first : c ≡ b = cc in
    absurd (both_ways (is_blank b) f (subst (λ (x : ℕ). is_blank x ≡ true) first h.0))

pub firm_prefix : (b : ℕ) (t s : List ℕ) → is_blank b ≡ false → Blanks (b ∷ t) s → s ≡ b ∷ t
firm_prefix b t s f h = prefix_none h.0 b t s f h.1 h.2

nothing_left : (bs s : List ℕ) → [] ≡ bs ++ s → s ≡ []
nothing_left [] s e = sym e
nothing_left (b ∷ bs) s e = cc

pub nothing_prefix : (s : List ℕ) → Blanks [] s → s ≡ []
nothing_prefix s h = nothing_left h.0 s h.2

pass : (ws bs t s : List ℕ) → AreBlanks ws → AreBlanks bs → Firm s → ws ++ t ≡ bs ++ s → Blanks t s
pass [] bs t s h k f e = (bs, k, e)
pass (c ∷ ws) [] t s h k f e =
    absurd (both_ways (is_blank c) (subst Firm (sym e) f) h.0)
pass (c ∷ ws) (d ∷ bs) t s h k f e = (let others : ws ++ t ≡ bs ++ s = cc in pass ws bs t s h.1 k.1 f others)

pub blanks_pass : (ws t s : List ℕ) → AreBlanks ws → Firm s → Blanks (ws ++ t) s → Blanks t s
blanks_pass ws t s h f b = pass ws b.0 t s h b.1 f b.2

onward : (ws bs : List ℕ) → AreBlanks ws → AreBlanks bs → AreBlanks (ws ++ bs)
onward [] bs h k = k
onward (w ∷ ws) bs h k = (h.0, onward ws bs h.1 k)

append_assoc' : (a b c : List ℕ) → a ++ (b ++ c) ≡ (a ++ b) ++ c
append_assoc' [] b c = refl
append_assoc' (x ∷ a) b c = ap (λ (q : List ℕ). x ∷ q) (append_assoc' a b c)

pub blanks_more : (ws t s : List ℕ) → AreBlanks ws → Blanks t s → Blanks (ws ++ t) s
blanks_more ws t s h b = (ws ++ b.0, onward ws b.0 h b.1, ap (λ (q : List ℕ). ws ++ q) b.2 ∙ append_assoc' ws b.0 s)

-- ---- by which byte a leaf begins

abbrev pub Starts : Leaf → ℕ → Type 0
Starts (word null_word) b = b ≡ 110
Starts (word true_word) b = b ≡ 116
Starts (word false_word) b = b ≡ 102
Starts (number ds) b = (b ≡ 45) ⊎ (is_digit b ≡ true)
Starts (string text) b = b ≡ 34

number_first : (b : ℕ) → then Nothing b ≢ Misplaced → (b ≡ 45) ⊎ (is_digit b ≡ true)
number_first b h =
    elim (b == 45) as (λ v. (b == 45) ≡ v → cond v Minus (cond (b == 48) Zero (cond (is_digit b) Whole Misplaced)) ≢ Misplaced → (b ≡ 45) ⊎ (is_digit b ≡ true)) [
      | true ↦ λ e k. inl (eqb-true b 45 e)
      | false ↦ λ e k. elim (b == 48) as (λ v. (b == 48) ≡ v → cond v Zero (cond (is_digit b) Whole Misplaced) ≢ Misplaced → (b ≡ 45) ⊎ (is_digit b ≡ true)) [
        | true ↦ λ f l. inr (ap is_digit (eqb-true b 48 f))
        | false ↦ λ f l. elim (is_digit b) as (λ v. is_digit b ≡ v → cond v Whole Misplaced ≢ Misplaced → (b ≡ 45) ⊎ (v ≡ true))
            [ true ↦ λ g m. inr refl | false ↦ λ g m. absurd (m refl) ] refl l
      ] refl k
    ] refl h

number_starts : (bytes : List ℕ) → may_end (written Nothing bytes) ≡ true → (b : ℕ) × (xs : List ℕ) × (bytes ≡ b ∷ xs) × ((b ≡ 45) ⊎ (is_digit b ≡ true))
number_starts [] h = absurd (both_ways false refl h)
number_starts (b ∷ xs) h =
    (b, xs, refl, number_first b (λ e. ends_placed (written (then Nothing b) xs) h (ap (λ (l : Last). written l xs) e ∙ written-misplaced xs)))

pub leaf_starts : (l : Leaf) (bytes : List ℕ) → IsLeaf l bytes → (b : ℕ) × (xs : List ℕ) × (bytes ≡ b ∷ xs) × Starts l b
leaf_starts (word null_word) bytes h = (110, 117 ∷ 108 ∷ 108 ∷ [], h, refl)
leaf_starts (word true_word) bytes h = (116, 114 ∷ 117 ∷ 101 ∷ [], h, refl)
leaf_starts (word false_word) bytes h = (102, 97 ∷ 108 ∷ 115 ∷ 101 ∷ [], h, refl)
leaf_starts (number ds) bytes h = number_starts bytes (number_ends bytes h.0)
leaf_starts (string text) bytes h = (34, h.0 ++ 34 ∷ [], h.2, refl)

-- a blank is none of four bytes and a test at each of them tells
blank_cases : (b : ℕ) (P : ℕ → Type 0) → is_blank b ≡ true → P 32 → P 9 → P 10 → P 13 → P b
blank_cases b P h p q r s =
    elim (or_cases (eqb b 32) (eqb b 9 || (eqb b 10 || eqb b 13)) h) [
      | inl e ↦ subst P (sym (eqb-true b 32 e)) p
      | inr f ↦ elim (or_cases (eqb b 9) (eqb b 10 || eqb b 13) f) [
        | inl e ↦ subst P (sym (eqb-true b 9 e)) q
        | inr g ↦ elim (or_cases (eqb b 10) (eqb b 13) g) [
          | inl e ↦ subst P (sym (eqb-true b 10 e)) r
          | inr e ↦ subst P (sym (eqb-true b 13 e)) s
        ]
      ]
    ]

firm_if : (b : ℕ) → (is_blank b ≡ true → ⊥) → is_blank b ≡ false
firm_if b h = elim (is_blank b) as (λ v. is_blank b ≡ v → v ≡ false) [ true ↦ λ e. absurd (h e) | false ↦ λ e. refl ] refl

digit_firm : (b : ℕ) → is_digit b ≡ true → is_blank b ≡ false
digit_firm b h = firm_if b (λ k. blank_cases b (λ x. is_digit x ≡ true → ⊥) k (λ e. cc) (λ e. cc) (λ e. cc) (λ e. cc) h)

pub in_number_firm : (b : ℕ) → is_blank b ≡ true → is_in_number b ≡ false
in_number_firm b h = blank_cases b (λ x. is_in_number x ≡ false) h refl refl refl refl

pub start_firm : (l : Leaf) (b : ℕ) → Starts l b → is_blank b ≡ false
start_firm (word null_word) b h = ap is_blank h
start_firm (word true_word) b h = ap is_blank h
start_firm (word false_word) b h = ap is_blank h
start_firm (number ds) b (inl h) = ap is_blank h
start_firm (number ds) b (inr h) = digit_firm b h
start_firm (string text) b h = ap is_blank h

pub leaf_firm : (l : Leaf) (bytes text rest : List ℕ) → IsLeaf l bytes → text ≡ bytes ++ rest → Firm text
leaf_firm l bytes text rest h e =
    let s = leaf_starts l bytes h in
    subst Firm (sym (e ∙ ap (λ (q : List ℕ). q ++ rest) s.2)) (start_firm l s.0 s.3)

pub spells_leaf_firm : (n : ℕ) (l : Leaf) (from to : ℕ) (text rest : List ℕ) → SpellsLeaf n l from to text rest → Firm text
spells_leaf_firm n l from to text rest h = leaf_firm l h.0 text rest h.1 h.2

opening_firm : (b : Bracket) → is_blank (opening b) ≡ false
opening_firm square = refl
opening_firm curly = refl

pub closing_firm : (b : Bracket) → is_blank (closing b) ≡ false
closing_firm square = refl
closing_firm curly = refl

pub spells_firm : (n levels : ℕ) (v : Json) (text rest : List ℕ) → Spells n levels v text rest → Firm text
spells_firm n levels (leaf l from to) text rest h = spells_leaf_firm n l from to text rest h
spells_firm n levels (nest b from to ps) text rest h = subst Firm (sym h.3.1) (opening_firm b)

-- ---- passing them

pub part_pass : (n : ℕ) (b : Bracket) (name : Option Name) (spells : List ℕ → List ℕ → Type 0) → ((s t : List ℕ) → spells s t → Firm s)
    → (ws text rest : List ℕ) → AreBlanks ws → SpellsPart n b name spells (ws ++ text) rest → SpellsPart n b name spells text rest
part_pass n square None spells firm ws text rest h p = (p.0, blanks_pass ws text p.0 h (firm p.0 rest p.2) p.1, p.2)
part_pass n square (Some name) spells firm ws text rest h p = p
part_pass n curly None spells firm ws text rest h p = p
part_pass n curly (Some name) spells firm ws text rest h p =
    (p.0, p.1, blanks_pass ws text p.0 h (spells_leaf_firm n (string name.text) name.from name.to p.0 p.1 p.3) p.2, p.3, p.4)

part_more : (n : ℕ) (b : Bracket) (name : Option Name) (spells : List ℕ → List ℕ → Type 0)
    → (ws text rest : List ℕ) → AreBlanks ws → SpellsPart n b name spells text rest → SpellsPart n b name spells (ws ++ text) rest
part_more n square None spells ws text rest h p = (p.0, blanks_more ws text p.0 h p.1, p.2)
part_more n square (Some name) spells ws text rest h p = p
part_more n curly None spells ws text rest h p = p
part_more n curly (Some name) spells ws text rest h p = (p.0, p.1, blanks_more ws text p.0 h p.2, p.3, p.4)

more_pass : (n d : ℕ) (b : Bracket) (ps : Parts) (to : ℕ) (ws text rest : List ℕ) → AreBlanks ws → SpellsMore n d b ps to (ws ++ text) rest → SpellsMore n d b ps to text rest
more_pass n d b no_parts to ws text rest h p = (blanks_pass ws text (closing b ∷ rest) h (closing_firm b) p.0, p.1)
more_pass n d b (part name v ps) to ws text rest h p = (p.0, p.1, blanks_pass ws text (44 ∷ p.0) h refl p.2, p.3, p.4)

more_more : (n d : ℕ) (b : Bracket) (ps : Parts) (to : ℕ) (ws text rest : List ℕ) → AreBlanks ws → SpellsMore n d b ps to text rest → SpellsMore n d b ps to (ws ++ text) rest
more_more n d b no_parts to ws text rest h p = (blanks_more ws text (closing b ∷ rest) h p.0, p.1)
more_more n d b (part name v ps) to ws text rest h p = (p.0, p.1, blanks_more ws text (44 ∷ p.0) h p.2, p.3, p.4)

first_pass : (n d : ℕ) (b : Bracket) (ps : Parts) (to : ℕ) (ws text rest : List ℕ) → AreBlanks ws → SpellsFirst n d b ps to (ws ++ text) rest → SpellsFirst n d b ps to text rest
first_pass n d b no_parts to ws text rest h p = (blanks_pass ws text (closing b ∷ rest) h (closing_firm b) p.0, p.1)
first_pass n d b (part name v ps) to ws text rest h p = (p.0, part_pass n b name (Spells n d v) (spells_firm n d v) ws text p.0 h p.1, p.2)

first_more : (n d : ℕ) (b : Bracket) (ps : Parts) (to : ℕ) (ws text rest : List ℕ) → AreBlanks ws → SpellsFirst n d b ps to text rest → SpellsFirst n d b ps to (ws ++ text) rest
first_more n d b no_parts to ws text rest h p = (blanks_more ws text (closing b ∷ rest) h p.0, p.1)
first_more n d b (part name v ps) to ws text rest h p = (p.0, part_more n b name (Spells n d v) ws text p.0 h p.1, p.2)

pub behind_pass : (d n : ℕ) (fs : List Frame) (w : Json) (ws rest : List ℕ) (v : Json) → AreBlanks ws → Behind d n fs w (ws ++ rest) v → Behind d n fs w rest v
behind_pass d n [] w ws rest v h p = (blanks_pass ws rest [] h tt p.0, p.1)
behind_pass d n (f ∷ fs) w ws rest v h p = (p.0, p.1, p.2, more_pass n _ f.kind p.0 p.1 ws rest p.2 h p.3, p.4)

pub behind_more : (d n : ℕ) (fs : List Frame) (w : Json) (ws rest : List ℕ) (v : Json) → AreBlanks ws → Behind d n fs w rest v → Behind d n fs w (ws ++ rest) v
behind_more d n [] w ws rest v h p = (blanks_more ws rest [] h p.0, p.1)
behind_more d n (f ∷ fs) w ws rest v h p = (p.0, p.1, p.2, more_more n _ f.kind p.0 p.1 ws rest p.2 h p.3, p.4)

pub before_pass : (d n : ℕ) (fs : List Frame) (ws rest : List ℕ) (v : Json) → AreBlanks ws → Before d n fs (ws ++ rest) v → Before d n fs rest v
before_pass d n fs ws rest v h p = (p.0, p.1, p.2, blanks_pass ws rest p.1 h (spells_firm n _ p.0 p.1 p.2 p.4) p.3, p.4, p.5)

pub before_more : (d n : ℕ) (fs : List Frame) (ws rest : List ℕ) (v : Json) → AreBlanks ws → Before d n fs rest v → Before d n fs (ws ++ rest) v
before_more d n fs ws rest v h p = (p.0, p.1, p.2, blanks_more ws rest p.1 h p.3, p.4, p.5)

pub opened_pass : (d n : ℕ) (f : Frame) (fs : List Frame) (ws rest : List ℕ) (v : Json) → AreBlanks ws → Opened d n f fs (ws ++ rest) v → Opened d n f fs rest v
opened_pass d n f fs ws rest v h p = (p.0, p.1, p.2, first_pass n _ f.kind p.0 p.1 ws rest p.2 h p.3, p.4)

pub opened_more : (d n : ℕ) (f : Frame) (fs : List Frame) (ws rest : List ℕ) (v : Json) → AreBlanks ws → Opened d n f fs rest v → Opened d n f fs (ws ++ rest) v
opened_more d n f fs ws rest v h p = (p.0, p.1, p.2, first_more n _ f.kind p.0 p.1 ws rest p.2 h p.3, p.4)

pub name_pass : (d n : ℕ) (f : Frame) (fs : List Frame) (ws rest : List ℕ) (v : Json) → AreBlanks ws → BeforeName d n f fs (ws ++ rest) v → BeforeName d n f fs rest v
name_pass d n f fs ws rest v h p =
    (p.0, p.1, p.2, p.3, blanks_pass ws rest p.1 h (spells_leaf_firm n (string p.0.text) p.0.from p.0.to p.1 p.2 p.5) p.4, p.5, p.6, p.7)

pub name_more : (d n : ℕ) (f : Frame) (fs : List Frame) (ws rest : List ℕ) (v : Json) → AreBlanks ws → BeforeName d n f fs rest v → BeforeName d n f fs (ws ++ rest) v
name_more d n f fs ws rest v h p = (p.0, p.1, p.2, p.3, blanks_more ws rest p.1 h p.4, p.5, p.6, p.7)

pub colon_pass : (d n : ℕ) (fs : List Frame) (ws rest : List ℕ) (v : Json) → AreBlanks ws → BeforeColon d n fs (ws ++ rest) v → BeforeColon d n fs rest v
colon_pass d n fs ws rest v h p = (p.0, blanks_pass ws rest (58 ∷ p.0) h refl p.1, p.2)

pub colon_more : (d n : ℕ) (fs : List Frame) (ws rest : List ℕ) (v : Json) → AreBlanks ws → BeforeColon d n fs rest v → BeforeColon d n fs (ws ++ rest) v
colon_more d n fs ws rest v h p = (p.0, blanks_more ws rest (58 ∷ p.0) h p.1, p.2)
