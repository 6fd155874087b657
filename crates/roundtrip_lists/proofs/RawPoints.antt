-- The points of lists equal up to translation with a place: moved, unless they would go too far.
use Rattle.std.proofs.Common.{◌≡◌, ◌∙◌, refl, sym, ap, subst, ℕ, ℤ, ◌+ℤ◌, Bool, true, false, List, Option, None, Some, Result, Ok, Err, ◌⊎◌, inl, inr}
use Rattle.exact_dec.specs.declared.DecError.{DecError}
use Rattle.exact_dec.specs.Computed.{mm_cut_answer}
use Rattle.exact_dec.specs.DecimalAnswers.{is_far}
use Rattle.sexpr_read.specs.declared.place.Span.{Span}
use Rattle.sexpr_read.specs.Tree.{Forest, none, atom, list, Tree, leaf, branch, trees, value}
use Rattle.board_errors.specs.declared.errors.BoardError.{BoardError}
use Rattle.board_errors.specs.declared.errors.BoardError.TheVariants.{Missing, BadNumber}
use Rattle.part_read.specs.declared.numbers.RawPoint.{RawPoint}
use Rattle.list_read.specs.FirstRefusals.{◌>>=◌}
use Rattle.list_read.specs.ListHeads.{place, first_is, has_head}
use Rattle.part_read.specs.ElementResults.{atom_of}
use Rattle.part_read.specs.BoardNumbers.{read_as, length_in, raw_point_at, raw_point_of}
use Rattle.roundtrip_lists.specs.Translated.{Shift, is_place_word, is_place_head, moved_by, both, place_moved, IsPlaceMoved, Translated, TranslatedTrees}
use Rattle.roundtrip_lists.specs.Agreeing.{Agrees, TranslatedParts, SameAtom, Same}
use Rattle.roundtrip_lists.specs.Moved.{IsMovedRawPoint}
use Rattle.roundtrip_lists.proofs.Elements.{agrees_bind, agrees_both, atom_translated, word_of}
use Rattle.roundtrip_lists.proofs.Numbers.{length_translated, needed_translated}

raw_point_made : (x y u v : ℤ) → x ≡ u → y ≡ v → (let s : RawPoint = record { x = u; y = v } in s) ≡ record { x = x; y = y }
raw_point_made x y u v h k = ap (λ (z : ℤ). let s : RawPoint = record { x = z; y = v } in s) (sym h) ∙ ap (λ (z : ℤ). let s : RawPoint = record { x = x; y = z } in s) (sym k)

-- where nothing is moved the points are the same
pub same_raw_point : (d : Option Shift) (t u : Tree) → TranslatedParts d t u → Agrees Same (raw_point_at t) (raw_point_at u)
unfolding raw_point_at
same_raw_point d t u h =
    agrees_bind SameAtom Same (atom_of 1 t) (atom_of 1 u) _ _ (agrees_both SameAtom (atom_of 1 t) (atom_of 1 u) (atom_translated d 1 t u h))
    (λ a b k. agrees_bind Same Same (length_in a) (length_in b) _ _ (length_translated a b k)
    (λ x y e. agrees_bind SameAtom Same (atom_of 2 t) (atom_of 2 u) _ _ (agrees_both SameAtom (atom_of 2 t) (atom_of 2 u) (atom_translated d 2 t u h))
    (λ f g l. agrees_bind Same Same (length_in f) (length_in g) _ _ (length_translated f g l)
    (λ v w m. raw_point_made x v y w (sym e) (sym m)))))

abbrev IsFar : Shift → RawPoint → Type 0
IsFar d s = (is_far (s.x +ℤ d.dx) ≡ true) ⊎ (is_far (s.y +ℤ d.dy) ≡ true)

-- ---- lists that stay as they are

far_or : (by n : ℤ) (b : Bool) → is_far (n +ℤ by) ≡ b → (moved_by by (Ok n) ≡ None) → b ≡ true
far_or by n true e h = refl
far_or by n false e h = absurd (let k : moved_by by (Ok n) ≡ Some (n +ℤ by) = rw e refl in cc)

one_far : (dx dy m n : ℤ) (a b : Bool) → is_far (m +ℤ dx) ≡ a → is_far (n +ℤ dy) ≡ b → both (moved_by dx (Ok m)) (moved_by dy (Ok n)) ≡ None → (is_far (m +ℤ dx) ≡ true) ⊎ (is_far (n +ℤ dy) ≡ true)
one_far dx dy m n true b e f h = inl e
one_far dx dy m n false true e f h = inr f
one_far dx dy m n false false e f h = absurd (let k : both (moved_by dx (Ok m)) (moved_by dy (Ok n)) ≡ Some (m +ℤ dx, n +ℤ dy) = rw (e, f) refl in cc)

by_answers : (d : Shift) (a b : BoardError) (x y : Result ℤ DecError) (s : RawPoint) → both (moved_by d.dx x) (moved_by d.dy y) ≡ None
    → (read_as a x >>= λ v. (read_as b y >>= λ w. Ok (record { x = v; y = w }))) ≡ Ok s → IsFar d s
by_answers d a b (Ok m) (Ok n) s h e =
    let same : record { x = m; y = n } ≡ s = cc in
    subst (IsFar d) same (one_far d.dx d.dy m n (is_far (m +ℤ d.dx)) (is_far (n +ℤ d.dy)) refl refl h)
by_answers d a b (Ok m) (Err g) s h e = absurd cc
by_answers d a b (Err f) y s h e = absurd cc

kept_far : (d : Shift) (i : Forest) (sp : Span) (word : List ℕ) (s : RawPoint) → first_is (trees i) word ≡ true → is_place_word word ≡ true → place_moved d i ≡ None → raw_point_at (branch sp i) ≡ Ok s → IsFar d s
unfolding raw_point_at atom_of length_in
kept_far d none sp word s h p k e = absurd cc
kept_far d (list s1 inside others) sp word s h p k e = absurd cc
kept_far d (atom s0 q0 head none) sp word s h p k e = absurd cc
kept_far d (atom s0 q0 head (list s1 inside others)) sp word s h p k e = absurd cc
kept_far d (atom s0 q0 head (atom s1 q1 x none)) sp word s h p k e = absurd (by_first (mm_cut_answer x) e)
  where
    by_first : (r : Result ℤ DecError) → (read_as (BadNumber (place (leaf s1 q1 x))) r >>= λ v. (Err (Missing (place (branch sp (atom s0 q0 head (atom s1 q1 x none))))) >>= λ t. (length_in t >>= λ w. Ok (let z : RawPoint = record { x = v; y = w } in z)))) ≡ Ok s → ⊥
    by_first (Ok n) e = cc
    by_first (Err g) e = cc
kept_far d (atom s0 q0 head (atom s1 q1 x (list s2 inside others))) sp word s h p k e = absurd (by_first (mm_cut_answer x) e)
  where
    by_first : (r : Result ℤ DecError) → (read_as (BadNumber (place (leaf s1 q1 x))) r >>= λ v. (Err (Missing (place (branch sp (atom s0 q0 head (atom s1 q1 x (list s2 inside others)))))) >>= λ t. (length_in t >>= λ w. Ok (let z : RawPoint = record { x = v; y = w } in z)))) ≡ Ok s → ⊥
    by_first (Ok n) e = cc
    by_first (Err g) e = cc
kept_far d (atom s0 q0 head (atom s1 q1 x (atom s2 q2 y others))) sp word s h p k e =
    let is_place : is_place_head (value (leaf s0 q0 head)) ≡ true = word_of (value (leaf s0 q0 head)) word h ∙ p in
    by_answers d (BadNumber (place (leaf s1 q1 x))) (BadNumber (place (leaf s2 q2 y))) (mm_cut_answer x) (mm_cut_answer y) s (rw is_place at k) e

pub kept_raw_point : (d : Shift) (t u : Tree) (word : List ℕ) (i : Forest) (sp : Span) → t ≡ branch sp i → first_is (trees i) word ≡ true → is_place_word word ≡ true → place_moved d i ≡ None → Agrees Same (raw_point_at t) (raw_point_at u)
    → Agrees (IsMovedRawPoint (Some d)) (raw_point_at t) (raw_point_at u)
kept_raw_point d t u word i sp same h p k agrees = by_raw_points (raw_point_at t) (raw_point_at u) refl agrees
  where
    by_raw_points : (a b : Result RawPoint BoardError) → raw_point_at t ≡ a → Agrees Same a b → Agrees (IsMovedRawPoint (Some d)) a b
    by_raw_points (Ok s) (Ok r) e g = inr (g, kept_far d i sp word s h p k (sym (ap raw_point_at same) ∙ e))
    by_raw_points (Ok s) (Err f) e g = absurd g
    by_raw_points (Err f) b e g = tt

-- ---- lists with their place moved

pub moved_raw_points : (d : Shift) (i j : Forest) (s r : Span) → IsPlaceMoved d i j → Agrees (IsMovedRawPoint (Some d)) (raw_point_at (branch s i)) (raw_point_at (branch r j))
unfolding raw_point_at atom_of length_in
moved_raw_points d i j s r p =
    let one = atom p.spans.0 p.quotes.0 p.head (atom p.spans.1 p.quotes.1 p.x (atom p.spans.2 p.quotes.2 p.y p.rest)) in
    let other = atom p.other_spans.0 p.quotes.0 p.head (atom p.other_spans.1 p.other_quotes.0 p.new_x (atom p.other_spans.2 p.other_quotes.1 p.new_y p.other_rest)) in
    let first : raw_point_at (branch s i) ≡ Ok (record { x = p.at_x; y = p.at_y }) = ap (λ (f : Forest). raw_point_at (branch s f)) p.was ∙ rw (p.read_x, p.read_y) refl in
    let second : raw_point_at (branch r j) ≡ Ok (record { x = p.at_x +ℤ d.dx; y = p.at_y +ℤ d.dy }) = ap (λ (f : Forest). raw_point_at (branch r f)) p.is ∙ rw (p.moved_x, p.moved_y) refl in
    subst (λ (a : Result RawPoint BoardError). Agrees (IsMovedRawPoint (Some d)) a (raw_point_at (branch r j))) (sym first)
    (subst (λ (b : Result RawPoint BoardError). Agrees (IsMovedRawPoint (Some d)) (Ok (record { x = p.at_x; y = p.at_y })) b) (sym second) (inl refl))

pub raw_point_at_translated : (d : Option Shift) (word : List ℕ) → is_place_word word ≡ true → (t u : Tree) → TranslatedTrees d t u → has_head word t ≡ true → Agrees (IsMovedRawPoint d) (raw_point_at t) (raw_point_at u)
unfolding has_head
raw_point_at_translated d word p (leaf s q c) u h k = absurd cc
raw_point_at_translated d word p (branch s i) (leaf r q c) h k = absurd h
raw_point_at_translated None word p (branch s i) (branch r j) h k = same_raw_point None (branch s i) (branch r j) h
raw_point_at_translated (Some d) word p (branch s i) (branch r j) (inl h) k = kept_raw_point d (branch s i) (branch r j) word i s refl k p h.1 (same_raw_point (Some d) (branch s i) (branch r j) h.0)
raw_point_at_translated (Some d) word p (branch s i) (branch r j) (inr h) k = moved_raw_points d i j s r h

pub raw_point_translated : (d : Option Shift) (word : List ℕ) → is_place_word word ≡ true → (i j : Forest) (s r : Span) → Translated d i j → Agrees (IsMovedRawPoint d) (raw_point_of word (branch s i)) (raw_point_of word (branch r j))
raw_point_translated d word p i j s r h = needed_translated (IsMovedRawPoint d) d word raw_point_at raw_point_at (branch s i) (branch r j) i j s r h (λ x y k e. raw_point_at_translated d word p x y k e)
