-- Elements that may be missing, words, and layers that stand in lists equal up to translation are the same.
use Rattle.std.proofs.Common.{◌≡◌, ◌∙◌, refl, sym, ap, ℕ, Bool, true, false, ◌||◌, List, Option, None, Some, Result, Ok}
use Rattle.std.specs.List.{list_any}
use Rattle.sexpr_read.specs.declared.place.Span.{Span}
use Rattle.sexpr_read.specs.Tree.{Forest, none, atom, list, Tree, leaf, branch, trees}
use Rattle.board_errors.specs.declared.errors.BoardError.{BoardError}
use Rattle.copper_layers.specs.declared.set.LayerSet.{LayerSet}
use Rattle.copper_layers.specs.Layers.{layers_between}
use Rattle.list_read.specs.FirstRefusals.{◌>>=◌}
use Rattle.list_read.specs.ListHeads.{is_text, has_head, has_word}
use Rattle.list_read.specs.NamedElements.{element}
use Rattle.part_read.specs.ElementResults.{in_given, atom_of}
use Rattle.part_read.specs.BoardNumbers.{size_at}
use Rattle.part_read.specs.BoardLayers.{copper_in, layers_through}
use Rattle.roundtrip_lists.specs.Translated.{Shift, is_place_word, Translated, TranslatedTrees}
use Rattle.roundtrip_lists.specs.Agreeing.{Agrees, Same, SameAtom, TranslatedParts, FoundTranslated}
use Rattle.roundtrip_lists.proofs.Elements.{agrees_bind, agrees_both, texts_translated, element_translated, inside_by_head, atom_translated}
use Rattle.roundtrip_lists.proofs.Numbers.{size_at_translated, copper_in_translated}

-- what is read in an element that may be missing
pub given_translated : {A : Type 0} (d : Option Shift) (word : List ℕ) (f g : Tree → Result A BoardError) (i j : Forest) (s r : Span) → Translated d i j
    → ((x y : Tree) → TranslatedTrees d x y → has_head word x ≡ true → Agrees Same (f x) (g y)) → Agrees Same (in_given f (element word (branch s i))) (in_given g (element word (branch r j)))
given_translated {A = A} d word f g i j s r h reads = by_found (element word (branch s i)) (element word (branch r j)) (element_translated d word s r i j h)
  where
    some_same : (x y : Tree) → Agrees Same (f x) (g y) → Agrees (Same {A = Option A}) (f x >>= λ a. Ok (Some a)) (g y >>= λ a. Ok (Some a))
    some_same x y k = agrees_bind Same (Same {A = Option A}) (f x) (g y) _ _ k (λ a b e. ap (λ (z : A). let o : Option A = Some z in o) e)

    by_found : (o p : Option Tree) → FoundTranslated d (has_head word) o p → Agrees Same (in_given f o) (in_given g p)
    by_found None None k = refl
    by_found None (Some y) k = absurd k
    by_found (Some x) None k = absurd k
    by_found (Some x) (Some y) k = some_same x y (reads x y k.0 k.1)

pub size_given : (d : Option Shift) (word : List ℕ) → is_place_word word ≡ false → (i j : Forest) (s r : Span) → Translated d i j
    → Agrees Same (in_given size_at (element word (branch s i))) (in_given size_at (element word (branch r j)))
size_given d word plain i j s r h = given_translated d word size_at size_at i j s r h (λ x y k e. size_at_translated d x y (inside_by_head d x y word k e plain))

-- ---- words

any_translated : (d : Option Shift) (word : List ℕ) (f g : Forest) → Translated d f g → list_any (λ t. is_text t word) (trees g) ≡ list_any (λ t. is_text t word) (trees f)
any_translated d word none none h = refl
any_translated d word none (atom t r e rest) h = absurd h
any_translated d word none (list t within rest) h = absurd h
any_translated d word (atom s q c others) none h = absurd h
any_translated d word (atom s q c others) (atom t r e rest) h =
    ap (λ (b : Bool). b || list_any (λ t. is_text t word) (trees rest)) (sym (texts_translated d (leaf s q c) (leaf t r e) word (h.0, h.1)))
    ∙ ap (λ (b : Bool). is_text (leaf s q c) word || b) (any_translated d word others rest h.2)
any_translated d word (atom s q c others) (list t within rest) h = absurd h
any_translated d word (list s inside others) none h = absurd h
any_translated d word (list s inside others) (atom t r e rest) h = absurd h
any_translated d word (list s inside others) (list t within rest) h = any_translated d word others rest h.1

pub word_translated : (d : Option Shift) (word : List ℕ) (i j : Forest) (s r : Span) → Translated d i j → has_word word (branch r j) ≡ has_word word (branch s i)
unfolding has_word
word_translated d word i j s r h = any_translated d word i j h

-- ---- layers

pub through_translated : (d : Option Shift) (copper : LayerSet) (x y : Tree) → TranslatedParts d x y → Agrees Same (layers_through copper x) (layers_through copper y)
unfolding layers_through
through_translated d copper x y h =
    agrees_bind SameAtom Same (atom_of 1 x) (atom_of 1 y) _ _ (agrees_both SameAtom (atom_of 1 x) (atom_of 1 y) (atom_translated d 1 x y h))
    (λ a b k. agrees_bind Same Same (copper_in copper a) (copper_in copper b) _ _ (copper_in_translated copper a b k)
    (λ m n e. agrees_bind SameAtom Same (atom_of 2 x) (atom_of 2 y) _ _ (agrees_both SameAtom (atom_of 2 x) (atom_of 2 y) (atom_translated d 2 x y h))
    (λ f g l. agrees_bind Same Same (copper_in copper f) (copper_in copper g) _ _ (copper_in_translated copper f g l)
    (λ v w i. ap (λ z. layers_between copper z w) e ∙ ap (λ z. layers_between copper m z) i))))
