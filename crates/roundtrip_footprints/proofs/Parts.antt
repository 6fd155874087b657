-- What is read of the parts of lists that are the same but for spans.
use Rattle.std.proofs.Common.{◌≡◌, refl, sym, subst, ℕ, zero, suc, List, Option, None, Some, Result, Ok}
use Rattle.std.specs.Prelude.{slice_get, if◌then◌else◌}
use Rattle.sexpr_read.specs.Tree.{Forest, none, atom, list, Tree, leaf, branch, trees, parts, is_list}
use Rattle.board_errors.specs.declared.errors.BoardError.{BoardError}
use Rattle.list_read.specs.FirstRefusals.{◌>>=◌}
use Rattle.list_read.specs.ListHeads.{has_head}
use Rattle.list_read.specs.NamedElements.{element}
use Rattle.part_read.specs.ElementResults.{in_needed, given_or, atom_of, atom_or}
use Rattle.part_read.specs.BoardNumbers.{length_in, raw_point_at}
use Rattle.roundtrip_lists.specs.Translated.{Translated, TranslatedTrees}
use Rattle.roundtrip_lists.specs.Agreeing.{Agrees, OptionsAgree, Same, SameAtom, TranslatedParts, FoundTranslated, forest_in}
use Rattle.roundtrip_lists.proofs.Elements.{agrees_bind, agrees_both, given_or_translated, atom_translated}
use Rattle.roundtrip_lists.proofs.Numbers.{length_translated}
use Rattle.roundtrip_lists.proofs.RawPoints.{same_raw_point}
use Rattle.roundtrip_lists.proofs.Steps.{parts_are, element_in}

-- the same but for spans
abbrev pub Plain : Tree → Tree → Type 0
Plain t u = TranslatedTrees None t u

abbrev pub PlainParts : Tree → Tree → Type 0
PlainParts t u = TranslatedParts None t u

pub inside : (t u : Tree) → Plain t u → PlainParts t u
inside (leaf s q c) (leaf r p e) h = tt
inside (leaf s q c) (branch r j) h = absurd h
inside (branch s i) (leaf r p e) h = absurd h
inside (branch s i) (branch r j) h = h

pub lists_same : (t u : Tree) → Plain t u → is_list u ≡ is_list t
lists_same (leaf s q c) (leaf r p e) h = refl
lists_same (leaf s q c) (branch r j) h = absurd h
lists_same (branch s i) (leaf r p e) h = absurd h
lists_same (branch s i) (branch r j) h = refl

-- the parts at a place
abbrev pub PartsFound : Option Tree → Option Tree → Type 0
PartsFound o p = OptionsAgree Plain o p

get_plain : (f g : Forest) (k : ℕ) → Translated None f g → PartsFound (slice_get (trees f) k) (slice_get (trees g) k)
get_plain none none k h = tt
get_plain none (atom t r e rest) k h = absurd h
get_plain none (list t within rest) k h = absurd h
get_plain (atom s q c others) none k h = absurd h
get_plain (atom s q c others) (atom t r e rest) zero h = (h.0, h.1)
get_plain (atom s q c others) (atom t r e rest) (suc k) h = get_plain others rest k h.2
get_plain (atom s q c others) (list t within rest) k h = absurd h
get_plain (list s inside others) none k h = absurd h
get_plain (list s inside others) (atom t r e rest) k h = absurd h
get_plain (list s inside others) (list t within rest) zero h = h.0
get_plain (list s inside others) (list t within rest) (suc k) h = get_plain others rest k h.1

pub part_found : (t u : Tree) (k : ℕ) → PlainParts t u → PartsFound (slice_get (parts t) k) (slice_get (parts u) k)
part_found t u k h =
    subst (λ (ts : List Tree). PartsFound (slice_get ts k) (slice_get (parts u) k)) (sym (parts_are t))
    (subst (λ (us : List Tree). PartsFound (slice_get (trees (forest_in t)) k) (slice_get us k)) (sym (parts_are u)) (get_plain (forest_in t) (forest_in u) k h))

-- ---- chains

-- what is read of an atom
pub atom_step : {A B : Type 0} (S : A → B → Type 0) (k : ℕ) (t u : Tree) (f : Tree → Result A BoardError) (g : Tree → Result B BoardError) → PlainParts t u
    → ((a b : Tree) → SameAtom a b → Agrees S (f a) (g b)) → Agrees S (atom_of k t >>= f) (atom_of k u >>= g)
atom_step S k t u f g h law = agrees_bind SameAtom S (atom_of k t) (atom_of k u) f g (agrees_both SameAtom (atom_of k t) (atom_of k u) (atom_translated None k t u h)) law

-- what is read in an element that must be there
pub needed_step : {A B : Type 0} (S : A → B → Type 0) (word : List ℕ) (t u : Tree) (f : Tree → Result A BoardError) (g : Tree → Result B BoardError) → PlainParts t u
    → ((x y : Tree) → PlainParts x y → Agrees S (f x) (g y)) → Agrees S (in_needed f t (element word t)) (in_needed g u (element word u))
needed_step S word t u f g h law = by_found (element word t) (element word u) (element_in None word t u h)
  where
    by_found : (o p : Option Tree) → FoundTranslated None (has_head word) o p → Agrees S (in_needed f t o) (in_needed g u p)
    by_found None None k = tt
    by_found None (Some y) k = absurd k
    by_found (Some x) None k = absurd k
    by_found (Some x) (Some y) k = law x y (inside x y k.0)

-- and in one that may be missing
pub given_step : {A B : Type 0} (S : A → B → Type 0) (word : List ℕ) (x : A) (y : B) (f : Tree → Result A BoardError) (g : Tree → Result B BoardError) (t u : Tree) → PlainParts t u → S x y
    → ((v w : Tree) → PlainParts v w → Agrees S (f v) (g w)) → Agrees S (given_or x f (element word t)) (given_or y g (element word u))
given_step S word x y f g t u h same law = given_or_translated S None (has_head word) x y f g (element word t) (element word u) (element_in None word t u h) same (λ v w k e. law v w (inside v w k))

pub raw_point_plain : (t u : Tree) → PlainParts t u → Agrees Same (raw_point_at t) (raw_point_at u)
raw_point_plain t u h = same_raw_point None t u h

pub length_plain : (t u : Tree) → SameAtom t u → Agrees Same (length_in t) (length_in u)
length_plain t u h = length_translated t u h

-- an atom among the parts is one in both
atoms_only : {A : Type 0} (S : A → A → Type 0) (t u : Tree) (otherwise : Result A BoardError) (f g : Tree → Result A BoardError) → Plain t u → Agrees S otherwise otherwise → ((a b : Tree) → SameAtom a b → Agrees S (f a) (g b))
    → Agrees S (if is_list t then otherwise else f t) (if is_list u then otherwise else g u)
atoms_only S (leaf s q c) (leaf r p e) otherwise f g h k law = law (leaf s q c) (leaf r p e) h
atoms_only S (leaf s q c) (branch r j) otherwise f g h k law = absurd h
atoms_only S (branch s i) (leaf r p e) otherwise f g h k law = absurd h
atoms_only S (branch s i) (branch r j) otherwise f g h k law = k

pub atom_or_plain : {A : Type 0} (S : A → A → Type 0) (x : A) (f g : Tree → Result A BoardError) (o p : Option Tree) → PartsFound o p → S x x → ((a b : Tree) → SameAtom a b → Agrees S (f a) (g b))
    → Agrees S (atom_or x f o) (atom_or x g p)
atom_or_plain S x f g None None h same law = same
atom_or_plain S x f g None (Some u) h same law = absurd h
atom_or_plain S x f g (Some t) None h same law = absurd h
atom_or_plain S x f g (Some t) (Some u) h same law = atoms_only S t u (Ok x) f g h same law
