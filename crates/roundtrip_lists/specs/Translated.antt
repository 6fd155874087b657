-- Trees that are equal up to translation: the same but for their spans, and for the places in them, which may be moved.
use Rattle.std.specs.Prelude.{◌≡◌, ◌⊎◌, ℕ, ℤ, ◌+ℤ◌, Bool, true, false, List, [], ◌∷◌, codes, bytes_eq, Option, None, Some, Result, Ok, Err, ⊤}
use Rattle.std.specs.List.{list_any}
use Rattle.exact_dec.specs.declared.DecError.{DecError}
use Rattle.exact_dec.specs.Computed.{mm_cut_answer}
use Rattle.exact_dec.specs.DecimalAnswers.{is_far}
use Rattle.sexpr_read.specs.declared.place.Span.{Span}
use Rattle.sexpr_read.specs.Tree.{Forest, none, atom, list, Tree, leaf, branch, value}

-- by so many nanometres
pub record Shift : Type 0 where
  pub dx : ℤ
  pub dy : ℤ

-- the heads of lists that say where something is
abbrev pub place_words : List (List ℕ)
place_words = codes "at" ∷ codes "start" ∷ codes "end" ∷ codes "center" ∷ codes "xy" ∷ []

abbrev pub is_place_word : List ℕ → Bool
is_place_word word = list_any (bytes_eq word) place_words

abbrev pub is_place_head : Option (List ℕ) → Bool
is_place_head None = false
is_place_head (Some word) = is_place_word word

-- a number that is moved; None where it is none, or would go further than numbers may
abbrev pub moved_by : ℤ → Result ℤ DecError → Option ℤ
moved_by by (Err e) = None
moved_by by (Ok n) = if_near (is_far (n +ℤ by)) (n +ℤ by)
  where
    if_near : Bool → ℤ → Option ℤ
    if_near true m = None
    if_near false m = Some m

abbrev pub both : Option ℤ → Option ℤ → Option (ℤ × ℤ)
both None y = None
both (Some x) None = None
both (Some x) (Some y) = Some (x, y)

-- both numbers of a place, moved, if both can be
abbrev pub moved_numbers : Shift → List ℕ → List ℕ → Option (ℤ × ℤ)
moved_numbers d x y = both (moved_by d.dx (mm_cut_answer x)) (moved_by d.dy (mm_cut_answer y))

-- those of what stands in a list: the head, two atoms
abbrev pub second_moved : Shift → List ℕ → Forest → Option (ℤ × ℤ)
second_moved d x none = None
second_moved d x (atom s q y others) = moved_numbers d x y
second_moved d x (list s inside others) = None

abbrev pub first_moved : Shift → Forest → Option (ℤ × ℤ)
first_moved d none = None
first_moved d (atom s q x others) = second_moved d x others
first_moved d (list s inside others) = None

abbrev pub if_place : Bool → Option (ℤ × ℤ) → Option (ℤ × ℤ)
if_place false moved = None
if_place true moved = moved

abbrev pub place_moved : Shift → Forest → Option (ℤ × ℤ)
place_moved d none = None
place_moved d (atom s q head others) = if_place (is_place_head (value (leaf s q head))) (first_moved d others)
place_moved d (list s inside others) = None

-- the list has a place, and what stands in the other list is that place, moved; what follows the numbers may be anything
pub record IsPlaceMoved (d : Shift) (inside other : Forest) : Type 0 where
  pub spans : Span × Span × Span
  pub other_spans : Span × Span × Span
  pub quotes : Bool × Bool × Bool
  pub other_quotes : Bool × Bool
  pub head : List ℕ
  pub x : List ℕ
  pub y : List ℕ
  pub new_x : List ℕ
  pub new_y : List ℕ
  pub rest : Forest
  pub other_rest : Forest
  pub was : inside ≡ atom spans.0 quotes.0 head (atom spans.1 quotes.1 x (atom spans.2 quotes.2 y rest))
  pub is : other ≡ atom other_spans.0 quotes.0 head (atom other_spans.1 other_quotes.0 new_x (atom other_spans.2 other_quotes.1 new_y other_rest))
  pub is_place : is_place_head (value (leaf spans.0 quotes.0 head)) ≡ true
  pub at_x : ℤ
  pub at_y : ℤ
  pub read_x : mm_cut_answer x ≡ Ok at_x
  pub read_y : mm_cut_answer y ≡ Ok at_y
  pub moved_x : mm_cut_answer new_x ≡ Ok (at_x +ℤ d.dx)
  pub moved_y : mm_cut_answer new_y ≡ Ok (at_y +ℤ d.dy)

-- with no shift all lists are the same, and with one those with a place that can be moved have it moved
abbrev pub TranslatedInside : Option Shift → Forest → Forest → Type 0 → Type 0
TranslatedInside None inside other Same = Same
TranslatedInside (Some d) inside other Same = (Same × (place_moved d inside ≡ None)) ⊎ IsPlaceMoved d inside other

abbrev pub Translated : Option Shift → Forest → Forest → Type 0
Translated d none none = ⊤
Translated d none (atom t r e rest) = ⊥
Translated d none (list t within rest) = ⊥
Translated d (atom s q c others) none = ⊥
Translated d (atom s q c others) (atom t r e rest) = (q ≡ r) × (c ≡ e) × Translated d others rest
Translated d (atom s q c others) (list t within rest) = ⊥
Translated d (list s inside others) none = ⊥
Translated d (list s inside others) (atom t r e rest) = ⊥
Translated d (list s inside others) (list t within rest) = TranslatedInside d inside within (Translated d inside within) × Translated d others rest

-- the same of two trees
abbrev pub TranslatedTrees : Option Shift → Tree → Tree → Type 0
TranslatedTrees d (leaf s q c) (leaf t r e) = (q ≡ r) × (c ≡ e)
TranslatedTrees d (leaf s q c) (branch t within) = ⊥
TranslatedTrees d (branch s inside) (leaf t r e) = ⊥
TranslatedTrees d (branch s inside) (branch t within) = TranslatedInside d inside within (Translated d inside within)
