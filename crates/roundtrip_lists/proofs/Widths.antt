-- Widths and fills of lists equal up to translation are the same.
use Rattle.std.proofs.Common.{◌≡◌, ◌∙◌, refl, sym, ap, subst, ℕ, ℤ, pos, Bool, true, false, ◌||◌, cond, List, codes, Option, None, Some, Result, Ok, Err}
use Rattle.std.specs.Prelude.{int_le}
use Rattle.std.specs.Option.{option_or}
use Rattle.sexpr_read.specs.declared.place.Span.{Span}
use Rattle.sexpr_read.specs.Tree.{Forest, Tree, branch}
use Rattle.board_errors.specs.declared.errors.BoardError.{BoardError}
use Rattle.board_errors.specs.declared.errors.BoardError.TheVariants.{BadNumber}
use Rattle.list_read.specs.FirstRefusals.{◌>>=◌}
use Rattle.list_read.specs.ListHeads.{place, is_value, is_text, has_head}
use Rattle.list_read.specs.NamedElements.{element}
use Rattle.part_read.specs.ElementResults.{given_or, atom_of}
use Rattle.part_read.specs.BoardNumbers.{length_in, size_in, size_at}
use Rattle.part_read.specs.Drawings.{width_list, width_of, filled_by, fill_of}
use Rattle.roundtrip_lists.specs.Translated.{Shift, Translated}
use Rattle.roundtrip_lists.specs.Agreeing.{Agrees, Same, SameAtom, FoundTranslated}
use Rattle.roundtrip_lists.proofs.Elements.{agrees_bind, agrees_both, element_translated, given_or_translated, inside_by_head, same_value, atom_translated}
use Rattle.roundtrip_lists.proofs.Numbers.{size_at_translated}
use Rattle.roundtrip_lists.proofs.Steps.{agrees_with, inner_found}

-- ---- sizes are not negative

size_from : (t : Tree) (n : ℤ) → size_in t ≡ Ok n → int_le (pos 0) n ≡ true
unfolding size_in
size_from t n h = by_length (length_in t) h
  where
    by_test : (m : ℤ) (b : Bool) → int_le (pos 0) m ≡ b → (let r : Result ℤ BoardError = cond b (Ok m) (Err (BadNumber (place t))) in r) ≡ Ok n → int_le (pos 0) n ≡ true
    by_test m true e k = let same : m ≡ n = cc in subst (λ (z : ℤ). int_le (pos 0) z ≡ true) same e
    by_test m false e k = absurd cc

    by_length : (r : Result ℤ BoardError) → (r >>= λ m. cond (int_le (pos 0) m) (Ok m) (Err (BadNumber (place t)))) ≡ Ok n → int_le (pos 0) n ≡ true
    by_length (Ok m) k = by_test m (int_le (pos 0) m) refl k
    by_length (Err e) k = absurd cc

size_at_from : (t : Tree) (n : ℤ) → size_at t ≡ Ok n → int_le (pos 0) n ≡ true
unfolding size_at
size_at_from t n h = by_atom (atom_of 1 t) h
  where
    by_atom : (a : Result Tree BoardError) → (a >>= size_in) ≡ Ok n → int_le (pos 0) n ≡ true
    by_atom (Ok x) k = size_from x n k
    by_atom (Err e) k = absurd cc

among_from : (o : Option Tree) (n : ℤ) → given_or (pos 0) size_at o ≡ Ok n → int_le (pos 0) n ≡ true
among_from None n h = let same : pos 0 ≡ n = cc in subst (λ (z : ℤ). int_le (pos 0) z ≡ true) same refl
among_from (Some t) n h = size_at_from t n h

-- ---- widths

first_translated : (d : Option Shift) (word : List ℕ) (o p m n : Option Tree) → FoundTranslated d (has_head word) o p → FoundTranslated d (has_head word) m n → FoundTranslated d (has_head word) (option_or o m) (option_or p n)
first_translated d word None None m n h k = k
first_translated d word None (Some y) m n h k = absurd h
first_translated d word (Some x) None m n h k = absurd h
first_translated d word (Some x) (Some y) m n h k = h

-- the same width, which is not negative
abbrev pub IsWide : ℤ → ℤ → Type 0
IsWide w v = (v ≡ w) × (int_le (pos 0) w ≡ true)

pub width_translated : (d : Option Shift) (i j : Forest) (s r : Span) → Translated d i j → Agrees IsWide (width_of (branch s i)) (width_of (branch r j))
unfolding width_of
width_translated d i j s r h =
    let found : FoundTranslated d (has_head (codes "width")) (width_list (branch s i)) (width_list (branch r j)) =
    first_translated d (codes "width") _ _ _ _
    (inner_found d (codes "stroke") (codes "width") (element (codes "stroke") (branch s i)) (element (codes "stroke") (branch r j)) refl (element_translated d (codes "stroke") s r i j h)) (element_translated d (codes "width") s r i j h) in
    agrees_with Same (λ w. int_le (pos 0) w ≡ true) (given_or (pos 0) size_at (width_list (branch s i))) (given_or (pos 0) size_at (width_list (branch r j))) (among_from (width_list (branch s i)))
    (given_or_translated Same d (has_head (codes "width")) (pos 0) (pos 0) size_at size_at (width_list (branch s i)) (width_list (branch r j)) found refl
    (λ x y k e. size_at_translated d x y (inside_by_head d x y (codes "width") k e refl)))

-- ---- fills

text_same : (t u : Tree) (word : List ℕ) → SameAtom t u → is_text u word ≡ is_text t word
text_same t u word h = ap (λ (v : Option (List ℕ)). is_value v word) (sym (same_value t u h))

filled_same : (otherwise : Bool) (t u : Tree) → SameAtom t u → filled_by otherwise u ≡ filled_by otherwise t
filled_same otherwise t u h =
    ap (λ (b : Bool). cond (b || is_text u (codes "yes")) true (cond (is_text u (codes "none") || is_text u (codes "no")) false otherwise)) (text_same t u (codes "solid") h)
    ∙ ap (λ (b : Bool). cond (is_text t (codes "solid") || b) true (cond (is_text u (codes "none") || is_text u (codes "no")) false otherwise)) (text_same t u (codes "yes") h)
    ∙ ap (λ (b : Bool). cond (is_text t (codes "solid") || is_text t (codes "yes")) true (cond (b || is_text u (codes "no")) false otherwise)) (text_same t u (codes "none") h)
    ∙ ap (λ (b : Bool). cond (is_text t (codes "solid") || is_text t (codes "yes")) true (cond (is_text t (codes "none") || b) false otherwise)) (text_same t u (codes "no") h)

pub fill_translated : (d : Option Shift) (otherwise : Bool) (i j : Forest) (s r : Span) → Translated d i j → Agrees Same (fill_of otherwise (branch s i)) (fill_of otherwise (branch r j))
unfolding fill_of
fill_translated d otherwise i j s r h =
    given_or_translated Same d (has_head (codes "fill")) otherwise otherwise _ _ (element (codes "fill") (branch s i)) (element (codes "fill") (branch r j)) (element_translated d (codes "fill") s r i j h) refl
    (λ x y k e. agrees_bind SameAtom Same (atom_of 1 x) (atom_of 1 y) _ _ (agrees_both SameAtom (atom_of 1 x) (atom_of 1 y) (atom_translated d 1 x y (inside_by_head d x y (codes "fill") k e refl)))
    (λ a b m. filled_same otherwise a b m))
