-- Numbers, names, layers and nets of lists equal up to translation are the same, and points are moved.
use Rattle.std.proofs.Common.{◌≡◌, ◌∙◌, refl, sym, ap, subst, ℕ, ℤ, pos, Bool, true, false, ◌||◌, List, [], Option, None, Some, Result, Ok, Err, codes, find, cond}
use Rattle.std.specs.Prelude.{unwrap_or, int_le, is_some}
use Rattle.std.specs.List.{position_from}
use Rattle.exact_dec.specs.declared.DecError.{DecError}
use Rattle.exact_dec.specs.Computed.{mm_cut_answer, count_answer}
use Rattle.sexpr_read.specs.declared.place.Span.{Span}
use Rattle.sexpr_read.specs.Tree.{Forest, Tree, branch, trees, content}
use Rattle.sexpr_read.specs.TextEndings.{ends_in}
use Rattle.board_errors.specs.declared.errors.BoardError.{BoardError}
use Rattle.board_errors.specs.declared.errors.BoardError.TheVariants.{BadNumber, UnknownNet, UnknownLayer}
use Rattle.copper_layers.specs.declared.set.LayerSet.{LayerSet}
use Rattle.board_items.specs.Boards.{PlainBoard, name_of}
use Rattle.copper_layers.specs.Layers.{has_layer, layer_names}
use Rattle.list_read.specs.FirstRefusals.{◌>>=◌, needed}
use Rattle.list_read.specs.ListHeads.{place, is_value, has_head}
use Rattle.list_read.specs.NamedElements.{element, is_naming, naming}
use Rattle.part_read.specs.ElementResults.{in_needed, atom_of, text_in, name_among, name_in}
use Rattle.part_read.specs.BoardNumbers.{read_as, length_in, size_in, number_in, size_at, size_of}
use Rattle.part_read.specs.BoardLayers.{layer_number, ends_in_cu, layer_by, layer_in, copper_by, copper_in, layer_at, layer_of}
use Rattle.part_read.specs.NetsOf.{declared_in, net_of}
use Rattle.roundtrip_lists.specs.Translated.{Shift, is_place_word, Translated, TranslatedTrees}
use Rattle.roundtrip_lists.specs.Agreeing.{Agrees, BothAgree, FoundTranslated, TranslatedParts, SameAtom, Same}
use Rattle.roundtrip_lists.proofs.Elements.{agrees_bind, agrees_both, element_translated, given_or_translated, find_translated, heads_translated, inside_by_head, same_value, same_content, atom_translated}

-- ---- numbers of atoms

by_content : {A : Type 0} (read : List ℕ → Result A DecError) (a b : BoardError) (c e : Option (List ℕ)) → c ≡ e → Agrees Same (needed a c >>= λ text. read_as a (read text)) (needed b e >>= λ text. read_as b (read text))
by_content read a b c e same = subst (λ (x : Option (List ℕ)). Agrees Same (needed a c >>= λ text. read_as a (read text)) (needed b x >>= λ text. read_as b (read text))) same (by_option c)
  where
    by_answer : {A : Type 0} (a b : BoardError) (r : Result A DecError) → Agrees Same (read_as a r) (read_as b r)
    by_answer a b (Ok n) = refl
    by_answer a b (Err e) = tt

    by_option : (o : Option (List ℕ)) → Agrees Same (needed a o >>= λ text. read_as a (read text)) (needed b o >>= λ text. read_as b (read text))
    by_option None = tt
    by_option (Some text) = by_answer a b (read text)

pub length_translated : (t u : Tree) → SameAtom t u → Agrees Same (length_in t) (length_in u)
unfolding length_in
length_translated t u h = by_content mm_cut_answer (BadNumber (place t)) (BadNumber (place u)) (content t) (content u) (same_content t u h)

pub number_translated : (t u : Tree) → SameAtom t u → Agrees Same (number_in t) (number_in u)
unfolding number_in
number_translated t u h = by_content count_answer (BadNumber (place t)) (BadNumber (place u)) (content t) (content u) (same_content t u h)

-- a test that both pass or both fail
pub checked_translated : {A : Type 0} (b : Bool) (x y : A) (d e : BoardError) → y ≡ x → Agrees Same (cond b (Ok x) (Err d)) (cond b (Ok y) (Err e))
checked_translated true x y d e h = h
checked_translated false x y d e h = tt

pub size_in_translated : (t u : Tree) → SameAtom t u → Agrees Same (size_in t) (size_in u)
unfolding size_in
size_in_translated t u h =
    agrees_bind Same Same (length_in t) (length_in u) _ _ (length_translated t u h)
    (λ n m e. subst (λ (z : ℤ). Agrees Same (cond (int_le (pos 0) n) (Ok n) (Err (BadNumber (place t)))) (cond (int_le (pos 0) z) (Ok z) (Err (BadNumber (place u))))) (sym e)
    (checked_translated (int_le (pos 0) n) n n (BadNumber (place t)) (BadNumber (place u)) refl))

pub size_at_translated : (d : Option Shift) (t u : Tree) → TranslatedParts d t u → Agrees Same (size_at t) (size_at u)
unfolding size_at
size_at_translated d t u h =
    agrees_bind SameAtom Same (atom_of 1 t) (atom_of 1 u) size_in size_in (agrees_both SameAtom (atom_of 1 t) (atom_of 1 u) (atom_translated d 1 t u h)) (λ x y k. size_in_translated x y k)

-- ---- in elements

-- what is read in an element of this head, which must be there
pub needed_translated : {A B : Type 0} (R : A → B → Type 0) (d : Option Shift) (word : List ℕ) (f : Tree → Result A BoardError) (g : Tree → Result B BoardError) (t u : Tree) (i j : Forest) (s r : Span)
    → Translated d i j → ((x y : Tree) → TranslatedTrees d x y → has_head word x ≡ true → Agrees R (f x) (g y))
    → Agrees R (in_needed f t (element word (branch s i))) (in_needed g u (element word (branch r j)))
needed_translated R d word f g t u i j s r h reads = by_found (element word (branch s i)) (element word (branch r j)) (element_translated d word s r i j h)
  where
    by_found : (o p : Option Tree) → FoundTranslated d (has_head word) o p → Agrees R (in_needed f t o) (in_needed g u p)
    by_found None None k = tt
    by_found None (Some y) k = absurd k
    by_found (Some x) None k = absurd k
    by_found (Some x) (Some y) k = reads x y k.0 k.1

pub size_translated : (d : Option Shift) (word : List ℕ) → is_place_word word ≡ false → (i j : Forest) (s r : Span) → Translated d i j → Agrees Same (size_of word (branch s i)) (size_of word (branch r j))
size_translated d word plain i j s r h =
    needed_translated Same d word size_at size_at (branch s i) (branch r j) i j s r h (λ x y k e. size_at_translated d x y (inside_by_head d x y word k e plain))

-- ---- names

pub name_by : (d : Option Shift) (x y : Tree) → TranslatedParts d x y → text_in (atom_of 1 x) ≡ text_in (atom_of 1 y)
name_by d x y h = by_atoms (atom_of 1 x) (atom_of 1 y) (atom_translated d 1 x y h)
  where
    by_atoms : (a b : Result Tree BoardError) → BothAgree SameAtom a b → text_in a ≡ text_in b
    by_atoms (Ok p) (Ok q) k = ap (λ (v : Option (List ℕ)). unwrap_or v []) (same_value p q k)
    by_atoms (Ok p) (Err e) k = absurd k
    by_atoms (Err e) (Ok q) k = absurd k
    by_atoms (Err e) (Err g) k = refl

pub naming_translated : (d : Option Shift) (t u : Tree) → TranslatedTrees d t u → is_naming t ≡ is_naming u
unfolding is_naming
naming_translated d t u h = ap (λ b. b || has_head (codes "uuid") t) (heads_translated d t u (codes "tstamp") h) ∙ ap (λ b. has_head (codes "tstamp") u || b) (heads_translated d t u (codes "uuid") h)

naming_inside : (d : Option Shift) (t u : Tree) → TranslatedTrees d t u → is_naming t ≡ true → TranslatedParts d t u
unfolding is_naming
naming_inside d t u h e = by_test (has_head (codes "tstamp") t) refl e
  where
    by_test : (b : Bool) → has_head (codes "tstamp") t ≡ b → (b || has_head (codes "uuid") t) ≡ true → TranslatedParts d t u
    by_test true k l = inside_by_head d t u (codes "tstamp") h k refl
    by_test false k l = inside_by_head d t u (codes "uuid") h l refl

pub name_translated : (d : Option Shift) (i j : Forest) (s r : Span) → Translated d i j → name_in (branch s i) ≡ name_in (branch r j)
unfolding naming
name_translated d i j s r h = by_found (find is_naming (trees i)) (find is_naming (trees j)) (find_translated d is_naming (λ t u k. naming_translated d t u k) i j h)
  where
    by_found : (o p : Option Tree) → FoundTranslated d is_naming o p → name_among o ≡ name_among p
    by_found None None k = refl
    by_found None (Some y) k = absurd k
    by_found (Some x) None k = absurd k
    by_found (Some x) (Some y) k = name_by d x y (naming_inside d x y k.0 k.1)

-- ---- nets

pub declared_translated : (d : Option Shift) (board other : PlainBoard) → ((n : ℕ) → name_of board n ≡ name_of other n) → (x y : Tree) → TranslatedParts d x y → Agrees Same (declared_in board x) (declared_in other y)
unfolding declared_in
declared_translated d board other nets x y h =
    agrees_bind SameAtom Same (atom_of 1 x) (atom_of 1 y) _ _ (agrees_both SameAtom (atom_of 1 x) (atom_of 1 y) (atom_translated d 1 x y h))
    (λ p q k. agrees_bind Same Same (number_in p) (number_in q) _ _ (number_translated p q k)
    (λ n m e. subst (λ z. Agrees Same (cond (is_some (name_of board n)) (Ok n) (Err (UnknownNet (place p)))) (cond (is_some (name_of other z)) (Ok z) (Err (UnknownNet (place q))))) (sym e)
    (subst (λ (v : Option (List ℕ)). Agrees Same (cond (is_some (name_of board n)) (Ok n) (Err (UnknownNet (place p)))) (cond (is_some v) (Ok n) (Err (UnknownNet (place q))))) (nets n)
    (checked_translated (is_some (name_of board n)) n n (UnknownNet (place p)) (UnknownNet (place q)) refl))))

pub net_translated : (d : Option Shift) (board other : PlainBoard) → ((n : ℕ) → name_of board n ≡ name_of other n) → (i j : Forest) (s r : Span) → Translated d i j → Agrees Same (net_of board (branch s i)) (net_of other (branch r j))
net_translated d board other nets i j s r h =
    given_or_translated Same d (has_head (codes "net")) 0 0 (declared_in board) (declared_in other) (element (codes "net") (branch s i)) (element (codes "net") (branch r j)) (element_translated d (codes "net") s r i j h) refl
    (λ x y k e. declared_translated d board other nets x y (inside_by_head d x y (codes "net") k e refl))

-- ---- layers

pub layer_number_translated : (t u : Tree) → SameAtom t u → layer_number u ≡ layer_number t
unfolding layer_number
layer_number_translated t u h = ap (λ (v : Option (List ℕ)). position_from (is_value v) 0 layer_names) (sym (same_value t u h))

ends_translated : (t u : Tree) → SameAtom t u → ends_in_cu u ≡ ends_in_cu t
ends_translated t u h = ap (λ (v : Option (List ℕ)). ends_in (codes ".Cu") (unwrap_or v [])) (sym (same_value t u h))

pub layer_in_translated : (copper : LayerSet) (t u : Tree) → SameAtom t u → Agrees Same (layer_in copper t) (layer_in copper u)
unfolding layer_in
layer_in_translated copper t u h =
    subst (λ (o : Option ℕ). Agrees Same (layer_by copper t (layer_number t)) (layer_by copper u o)) (sym (layer_number_translated t u h)) (by_number (layer_number t))
  where
    by_end : (b : Bool) → Agrees (Same {A = Option ℕ}) (cond b (Err (UnknownLayer (place t))) (Ok None)) (cond b (Err (UnknownLayer (place u))) (Ok None))
    by_end true = tt
    by_end false = refl

    by_layer : (b : Bool) (n : ℕ) → Agrees (Same {A = Option ℕ}) (cond b (Ok (Some n)) (Err (UnknownLayer (place t)))) (cond b (Ok (Some n)) (Err (UnknownLayer (place u))))
    by_layer true n = refl
    by_layer false n = tt

    by_number : (o : Option ℕ) → Agrees Same (layer_by copper t o) (layer_by copper u o)
    by_number None =
        subst (λ b. Agrees (Same {A = Option ℕ}) (cond (ends_in_cu t) (Err (UnknownLayer (place t))) (Ok None)) (cond b (Err (UnknownLayer (place u))) (Ok None))) (sym (ends_translated t u h)) (by_end (ends_in_cu t))
    by_number (Some n) = by_layer (has_layer copper n) n

pub copper_in_translated : (copper : LayerSet) (t u : Tree) → SameAtom t u → Agrees Same (copper_in copper t) (copper_in copper u)
unfolding copper_in
copper_in_translated copper t u h =
    agrees_bind Same Same (layer_in copper t) (layer_in copper u) (copper_by t) (copper_by u) (layer_in_translated copper t u h)
    (λ o p e. subst (λ (q : Option ℕ). Agrees Same (copper_by t o) (copper_by u q)) (sym e) (by_layer o))
  where
    by_layer : (o : Option ℕ) → Agrees Same (copper_by t o) (copper_by u o)
    by_layer None = tt
    by_layer (Some n) = refl

pub layer_at_translated : (d : Option Shift) (copper : LayerSet) (x y : Tree) → TranslatedParts d x y → Agrees Same (layer_at copper x) (layer_at copper y)
unfolding layer_at
layer_at_translated d copper x y h =
    agrees_bind SameAtom Same (atom_of 1 x) (atom_of 1 y) (copper_in copper) (copper_in copper) (agrees_both SameAtom (atom_of 1 x) (atom_of 1 y) (atom_translated d 1 x y h)) (λ p q k. copper_in_translated copper p q k)

pub layer_translated : (d : Option Shift) (copper : LayerSet) (i j : Forest) (s r : Span) → Translated d i j → Agrees Same (layer_of copper (branch s i)) (layer_of copper (branch r j))
layer_translated d copper i j s r h =
    needed_translated Same d (codes "layer") (layer_at copper) (layer_at copper) (branch s i) (branch r j) i j s r h (λ x y k e. layer_at_translated d copper x y (inside_by_head d x y (codes "layer") k e refl))
