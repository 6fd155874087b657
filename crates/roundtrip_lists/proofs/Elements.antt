-- The elements of lists equal up to translation are equal up to translation.
use Rattle.std.proofs.Common.{◌≡◌, ◌∙◌, refl, sym, ap, subst, ℕ, zero, suc, Bool, true, false, List, Option, None, Some, Result, Ok, Err, inl, inr, find, cond}
use Rattle.std.specs.Prelude.{slice_get}
use Rattle.std.proofs.lemmas.Slice.Eq.{bytes_eq-Decides}
use Rattle.sexpr_read.specs.declared.place.Span.{Span}
use Rattle.sexpr_read.specs.Tree.{Forest, none, atom, list, Tree, leaf, branch, trees, value, content}
use Rattle.board_errors.specs.declared.errors.BoardError.{BoardError}
use Rattle.board_errors.specs.declared.errors.BoardError.TheVariants.{Missing}
use Rattle.list_read.specs.FirstRefusals.{◌>>=◌}
use Rattle.list_read.specs.ListHeads.{place, is_value, is_text, first_is, has_head}
use Rattle.list_read.specs.NamedElements.{element}
use Rattle.part_read.specs.ElementResults.{given_or, atom_among, atom_of}
use Rattle.roundtrip_lists.specs.Translated.{Shift, is_place_word, is_place_head, IsPlaceMoved, TranslatedInside, Translated, TranslatedTrees}
use Rattle.roundtrip_lists.specs.Agreeing.{Agrees, BothAgree, TranslatedParts, FoundTranslated, SameAtom}

-- ---- chains of answers

pub agrees_bind : {A B C D : Type 0} (R : A → B → Type 0) (S : C → D → Type 0) (a : Result A BoardError) (b : Result B BoardError) (f : A → Result C BoardError) (g : B → Result D BoardError)
    → Agrees R a b → ((x : A) (y : B) → R x y → Agrees S (f x) (g y)) → Agrees S (a >>= f) (b >>= g)
agrees_bind R S (Ok x) (Ok y) f g h k = k x y h
agrees_bind R S (Ok x) (Err e) f g h k = absurd h
agrees_bind R S (Err e) (Ok y) f g h k = tt
agrees_bind R S (Err e) (Err d) f g h k = tt

pub agrees_both : {A B : Type 0} (R : A → B → Type 0) (a : Result A BoardError) (b : Result B BoardError) → BothAgree R a b → Agrees R a b
agrees_both R (Ok x) (Ok y) h = h
agrees_both R (Ok x) (Err e) h = absurd h
agrees_both R (Err e) (Ok y) h = tt
agrees_both R (Err e) (Err d) h = tt

-- ---- heads

leaf_value : (s t : Span) (q r : Bool) (c e : List ℕ) → q ≡ r → c ≡ e → value (leaf s q c) ≡ value (leaf t r e)
leaf_value s t q r c e h k =
    ap (λ (b : Bool). value (leaf s b c)) h ∙ ap (λ (x : List ℕ). value (leaf s r x)) k ∙ by_quotes r
  where
    by_quotes : (b : Bool) → value (leaf s b e) ≡ value (leaf t b e)
    by_quotes true = refl
    by_quotes false = refl

pub texts_translated : (d : Option Shift) (t u : Tree) (word : List ℕ) → TranslatedTrees d t u → is_text t word ≡ is_text u word
texts_translated d (leaf s q c) (leaf t r e) word h = ap (λ (v : Option (List ℕ)). is_value v word) (leaf_value s t q r c e h.0 h.1)
texts_translated d (leaf s q c) (branch t within) word h = absurd h
texts_translated d (branch s inside) (leaf t r e) word h = absurd h
texts_translated d (branch s inside) (branch t within) word h = refl

first_translated : (d : Option Shift) (f g : Forest) (word : List ℕ) → Translated d f g → first_is (trees f) word ≡ first_is (trees g) word
first_translated d none none word h = refl
first_translated d none (atom t r e rest) word h = absurd h
first_translated d none (list t within rest) word h = absurd h
first_translated d (atom s q c others) none word h = absurd h
first_translated d (atom s q c others) (atom t r e rest) word h = texts_translated d (leaf s q c) (leaf t r e) word (h.0, h.1)
first_translated d (atom s q c others) (list t within rest) word h = absurd h
first_translated d (list s inside others) none word h = absurd h
first_translated d (list s inside others) (atom t r e rest) word h = absurd h
first_translated d (list s inside others) (list t within rest) word h = refl

first_moved_translated : (d : Shift) (f g : Forest) (word : List ℕ) → IsPlaceMoved d f g → first_is (trees f) word ≡ first_is (trees g) word
first_moved_translated d f g word h =
    ap (λ (x : Forest). first_is (trees x) word) h.was
    ∙ texts_translated None (leaf h.spans.0 h.quotes.0 h.head) (leaf h.other_spans.0 h.quotes.0 h.head) word (refl, refl)
    ∙ sym (ap (λ (x : Forest). first_is (trees x) word) h.is)

first_inside : (d : Option Shift) (f g : Forest) (word : List ℕ) → TranslatedInside d f g (Translated d f g) → first_is (trees f) word ≡ first_is (trees g) word
first_inside None f g word h = first_translated None f g word h
first_inside (Some d) f g word (inl h) = first_translated (Some d) f g word h.0
first_inside (Some d) f g word (inr h) = first_moved_translated d f g word h

pub heads_translated : (d : Option Shift) (t u : Tree) (word : List ℕ) → TranslatedTrees d t u → has_head word t ≡ has_head word u
unfolding has_head
heads_translated d (leaf s q c) (leaf t r e) word h = refl
heads_translated d (leaf s q c) (branch t within) word h = absurd h
heads_translated d (branch s inside) (leaf t r e) word h = absurd h
heads_translated d (branch s inside) (branch t within) word h = first_inside d inside within word h

-- ---- elements

pub found_step : (d : Option Shift) (test : Tree → Bool) (t u : Tree) (more others : Option Tree) → TranslatedTrees d t u → (a b : Bool) → test t ≡ a → a ≡ b → FoundTranslated d test more others
    → FoundTranslated d test (cond a (Some t) more) (cond b (Some u) others)
found_step d test t u more others h true true e same rest = (h, e)
found_step d test t u more others h true false e same rest = absurd cc
found_step d test t u more others h false true e same rest = absurd cc
found_step d test t u more others h false false e same rest = rest

pub find_translated : (d : Option Shift) (test : Tree → Bool) → ((t u : Tree) → TranslatedTrees d t u → test t ≡ test u) → (f g : Forest) → Translated d f g
    → FoundTranslated d test (find test (trees f)) (find test (trees g))
find_translated d test same none none h = tt
find_translated d test same none (atom t r e rest) h = absurd h
find_translated d test same none (list t within rest) h = absurd h
find_translated d test same (atom s q c others) none h = absurd h
find_translated d test same (atom s q c others) (atom t r e rest) h =
    let one = leaf s q c in
    let other = leaf t r e in
    found_step d test one other (find test (trees others)) (find test (trees rest)) (h.0, h.1) (test one) (test other) refl (same one other (h.0, h.1)) (find_translated d test same others rest h.2)
find_translated d test same (atom s q c others) (list t within rest) h = absurd h
find_translated d test same (list s inside others) none h = absurd h
find_translated d test same (list s inside others) (atom t r e rest) h = absurd h
find_translated d test same (list s inside others) (list t within rest) h =
    let one = branch s inside in
    let other = branch t within in
    found_step d test one other (find test (trees others)) (find test (trees rest)) h.0 (test one) (test other) refl (same one other h.0) (find_translated d test same others rest h.1)

pub element_translated : (d : Option Shift) (word : List ℕ) (s t : Span) (f g : Forest) → Translated d f g → FoundTranslated d (has_head word) (element word (branch s f)) (element word (branch t g))
unfolding element
element_translated d word s t f g h = find_translated d (has_head word) (λ t u k. heads_translated d t u word k) f g h

-- what is read in an element that may be missing
pub given_or_translated : {A B : Type 0} (S : A → B → Type 0) (d : Option Shift) (test : Tree → Bool) (x : A) (y : B) (f : Tree → Result A BoardError) (g : Tree → Result B BoardError) (o p : Option Tree)
    → FoundTranslated d test o p → S x y → ((t u : Tree) → TranslatedTrees d t u → test t ≡ true → Agrees S (f t) (g u)) → Agrees S (given_or x f o) (given_or y g p)
given_or_translated S d test x y f g None None h same law = same
given_or_translated S d test x y f g None (Some u) h same law = absurd h
given_or_translated S d test x y f g (Some t) None h same law = absurd h
given_or_translated S d test x y f g (Some t) (Some u) h same law = law t u h.0 h.1

-- ---- what stands in lists that are equal up to translation, but for lists with a place

pub word_of : (v : Option (List ℕ)) (word : List ℕ) → is_value v word ≡ true → is_place_head v ≡ is_place_word word
word_of None word h = absurd cc
word_of (Some v) word h = ap is_place_word ((bytes_eq-Decides v word).0 h)

placed_word : (d : Shift) (f g : Forest) (word : List ℕ) → first_is (trees f) word ≡ true → is_place_word word ≡ false → IsPlaceMoved d f g → ⊥
placed_word d f g word h k p =
    let first : is_value (value (leaf p.spans.0 p.quotes.0 p.head)) word ≡ true = subst (λ (x : Forest). first_is (trees x) word ≡ true) p.was h in
    let e : is_place_head (value (leaf p.spans.0 p.quotes.0 p.head)) ≡ is_place_word word = word_of (value (leaf p.spans.0 p.quotes.0 p.head)) word first in
    let c : true ≡ false = sym p.is_place ∙ (e ∙ k) in cc

pub inside_by_head : (d : Option Shift) (t u : Tree) (word : List ℕ) → TranslatedTrees d t u → has_head word t ≡ true → is_place_word word ≡ false → TranslatedParts d t u
unfolding has_head
inside_by_head d (leaf s q c) u word h k e = absurd cc
inside_by_head d (branch s inside) (leaf t r x) word h k e = absurd h
inside_by_head None (branch s inside) (branch t within) word h k e = h
inside_by_head (Some d) (branch s inside) (branch t within) word (inl h) k e = h.0
inside_by_head (Some d) (branch s inside) (branch t within) word (inr h) k e = absurd (placed_word d inside within word k e h)

-- ---- atoms

pub same_value : (t u : Tree) → SameAtom t u → value t ≡ value u
same_value (leaf s q c) (leaf t r e) h = leaf_value s t q r c e h.0 h.1
same_value (leaf s q c) (branch t within) h = absurd h
same_value (branch s inside) u h = absurd h

pub same_content : (t u : Tree) → SameAtom t u → content t ≡ content u
same_content (leaf s q c) (leaf t r e) h = ap (λ (x : List ℕ). let o : Option (List ℕ) = Some x in o) h.1
same_content (leaf s q c) (branch t within) h = absurd h
same_content (branch s inside) u h = absurd h

get_translated : (d : Option Shift) (f g : Forest) (k : ℕ) (a b : BoardError) → Translated d f g → BothAgree SameAtom (atom_among a (slice_get (trees f) k)) (atom_among b (slice_get (trees g) k))
get_translated d none none k a b h = tt
get_translated d none (atom t r e rest) k a b h = absurd h
get_translated d none (list t within rest) k a b h = absurd h
get_translated d (atom s q c others) none k a b h = absurd h
get_translated d (atom s q c others) (atom t r e rest) zero a b h = (h.0, h.1)
get_translated d (atom s q c others) (atom t r e rest) (suc k) a b h = get_translated d others rest k a b h.2
get_translated d (atom s q c others) (list t within rest) k a b h = absurd h
get_translated d (list s inside others) none k a b h = absurd h
get_translated d (list s inside others) (atom t r e rest) k a b h = absurd h
get_translated d (list s inside others) (list t within rest) zero a b h = tt
get_translated d (list s inside others) (list t within rest) (suc k) a b h = get_translated d others rest k a b h.1

pub atom_translated : (d : Option Shift) (k : ℕ) (t u : Tree) → TranslatedParts d t u → BothAgree SameAtom (atom_of k t) (atom_of k u)
unfolding atom_of
atom_translated d k (leaf s q c) (leaf t r e) h = tt
atom_translated d k (leaf s q c) (branch t within) h = get_translated d none within k (Missing (place (leaf s q c))) (Missing (place (branch t within))) h
atom_translated d k (branch s inside) (leaf t r e) h = get_translated d inside none k (Missing (place (branch s inside))) (Missing (place (leaf t r e))) h
atom_translated d k (branch s inside) (branch t within) h = get_translated d inside within k (Missing (place (branch s inside))) (Missing (place (branch t within))) h
