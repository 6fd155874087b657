-- What is found in footprints that are the same but for spans, and for where they are.
use Rattle.std.proofs.Common.{◌≡◌, ◌∙◌, refl, sym, ap, subst, ℕ, Bool, true, false, ◌||◌, cond, List, codes, find, Option, None, Some, inl, inr}
use Rattle.std.specs.Prelude.{bytes_eq}
use Rattle.std.proofs.lemmas.Slice.Eq.{bytes_eq-Decides}
use Rattle.sexpr_read.specs.declared.place.Span.{Span}
use Rattle.sexpr_read.specs.Tree.{Forest, none, atom, list, Tree, leaf, branch, trees, value}
use Rattle.list_read.specs.ListHeads.{is_value, first_is, has_head}
use Rattle.list_read.specs.NamedElements.{element, is_naming, naming}
use Rattle.part_read.specs.ElementResults.{in_needed, name_among, name_in}
use Rattle.pad_read.specs.LocalPlacements.{local_placement_at, local_placement_of}
use Rattle.roundtrip_lists.specs.Translated.{Shift, TranslatedTrees}
use Rattle.roundtrip_lists.specs.Agreeing.{Agrees, OptionsAgree, FoundTranslated}
use Rattle.roundtrip_lists.proofs.Elements.{found_step, find_translated, heads_translated}
use Rattle.roundtrip_lists.proofs.Numbers.{naming_translated, name_by}
use Rattle.roundtrip_footprints.specs.FootprintPlaces.{LocalPlacementMoved, AtMoved}
use Rattle.roundtrip_footprints.proofs.Parts.{inside}

-- ---- lists that say where the footprint is have no other head

same_word : (v : Option (List ℕ)) (word : List ℕ) → is_value v (codes "at") ≡ true → is_value v word ≡ bytes_eq (codes "at") word
same_word None word h = absurd cc
same_word (Some v) word h = ap (λ (x : List ℕ). bytes_eq x word) ((bytes_eq-Decides v (codes "at")).0 h)

first_word : (f : Forest) (word : List ℕ) → first_is (trees f) (codes "at") ≡ true → first_is (trees f) word ≡ bytes_eq (codes "at") word
first_word none word h = absurd cc
first_word (atom s q c others) word h = same_word (value (leaf s q c)) word h
first_word (list s i others) word h = absurd cc

pub other_head : (s : Span) (f : Forest) (word : List ℕ) → first_is (trees f) (codes "at") ≡ true → bytes_eq (codes "at") word ≡ false → has_head word (branch s f) ≡ false
unfolding has_head
other_head s f word h other = first_word f word h ∙ other

-- ---- what is found by another test

left_out : (t : Tree) (found : Option Tree) (b : Bool) → b ≡ false → cond b (Some t) found ≡ found
left_out t found false e = refl
left_out t found true e = absurd cc

module _ (d : Shift) (test : Tree → Bool) (same : (t u : Tree) → TranslatedTrees None t u → test t ≡ test u) (never : (s : Span) (f : Forest) → first_is (trees f) (codes "at") ≡ true → test (branch s f) ≡ false) where
  pub find_again : (i j : Forest) → AtMoved d i j → FoundTranslated None test (find test (trees i)) (find test (trees j))
  find_again none none h = tt
  find_again none (atom t r e rest) h = absurd h
  find_again none (list t within rest) h = absurd h
  find_again (atom s q c others) none h = absurd h
  find_again (atom s q c others) (atom t r e rest) h =
      let one = leaf s q c in
      let other = leaf t r e in
      found_step None test one other (find test (trees others)) (find test (trees rest)) (h.0, h.1) (test one) (test other) refl (same one other (h.0, h.1)) (find_again others rest h.2)
  find_again (atom s q c others) (list t within rest) h = absurd h
  find_again (list s i others) none h = absurd h
  find_again (list s i others) (atom t r e rest) h = absurd h
  find_again (list s i others) (list t j rest) (inl (place, more)) =
      subst (λ (o : Option Tree). FoundTranslated None test o (cond (test (branch t j)) (Some (branch t j)) (find test (trees rest)))) (sym (left_out (branch s i) (find test (trees others)) (test (branch s i)) (never s i place.first)))
      (subst (λ (o : Option Tree). FoundTranslated None test (find test (trees others)) o) (sym (left_out (branch t j) (find test (trees rest)) (test (branch t j)) (never t j place.second))) (find_translated None test same others rest more))
  find_again (list s i others) (list t j rest) (inr (plain, translated, more)) =
      let one = branch s i in
      let other = branch t j in
      found_step None test one other (find test (trees others)) (find test (trees rest)) translated (test one) (test other) refl (same one other translated) (find_again others rest more)

-- elements with another head
pub element_again : (d : Shift) (word : List ℕ) → bytes_eq (codes "at") word ≡ false → (i j : Forest) (s r : Span) → AtMoved d i j → FoundTranslated None (has_head word) (element word (branch s i)) (element word (branch r j))
unfolding element
element_again d word other i j s r h = find_again d (has_head word) (λ t u k. heads_translated None t u word k) (λ s f first. other_head s f word first other) i j h

-- ---- names

no_naming : (s : Span) (f : Forest) → first_is (trees f) (codes "at") ≡ true → is_naming (branch s f) ≡ false
unfolding is_naming
no_naming s f first = ap (λ (b : Bool). b || has_head (codes "uuid") (branch s f)) (other_head s f (codes "tstamp") first refl) ∙ other_head s f (codes "uuid") first refl

pub name_again : (d : Shift) (i j : Forest) (s r : Span) → AtMoved d i j → name_in (branch s i) ≡ name_in (branch r j)
unfolding naming
name_again d i j s r h = by_found (find is_naming (trees i)) (find is_naming (trees j)) (find_again d is_naming (λ t u k. naming_translated None t u k) no_naming i j h)
  where
    by_found : (o p : Option Tree) → FoundTranslated None is_naming o p → name_among o ≡ name_among p
    by_found None None k = refl
    by_found None (Some y) k = absurd k
    by_found (Some x) None k = absurd k
    by_found (Some x) (Some y) k = name_by None x y (inside x y k.0)

-- ---- where it is

abbrev LocalPlacementFound : Shift → Option Tree → Option Tree → Type 0
LocalPlacementFound d o p = OptionsAgree (λ x y. Agrees (LocalPlacementMoved d) (local_placement_at x) (local_placement_at y)) o p

module _ (d : Shift) where
  at_step : (t u : Tree) (more others : Option Tree) (a b : Bool) → b ≡ a → (a ≡ true → Agrees (LocalPlacementMoved d) (local_placement_at t) (local_placement_at u)) → (a ≡ false → LocalPlacementFound d more others) → LocalPlacementFound d (cond a (Some t) more) (cond b (Some u) others)
  at_step t u more others true true e h k = h refl
  at_step t u more others true false e h k = absurd cc
  at_step t u more others false true e h k = absurd cc
  at_step t u more others false false e h k = k refl

  not_both : {A : Type 0} {b : Bool} → b ≡ true → b ≡ false → A
  not_both h k = absurd (let c : true ≡ false = sym h ∙ k in cc)

  at_found : (i j : Forest) → AtMoved d i j → LocalPlacementFound d (find (has_head (codes "at")) (trees i)) (find (has_head (codes "at")) (trees j))
  unfolding has_head
  at_found none none h = tt
  at_found none (atom t r e rest) h = absurd h
  at_found none (list t within rest) h = absurd h
  at_found (atom s q c others) none h = absurd h
  at_found (atom s q c others) (atom t r e rest) h = at_found others rest h.2
  at_found (atom s q c others) (list t within rest) h = absurd h
  at_found (list s i others) none h = absurd h
  at_found (list s i others) (atom t r e rest) h = absurd h
  at_found (list s i others) (list t j rest) (inl (place, more)) =
      at_step (branch s i) (branch t j) _ _ (first_is (trees i) (codes "at")) (first_is (trees j) (codes "at")) (place.second ∙ sym place.first) (λ e. place.local_placement s t) (λ e. not_both place.first e)
  at_found (list s i others) (list t j rest) (inr (plain, translated, more)) =
      at_step (branch s i) (branch t j) _ _ (first_is (trees i) (codes "at")) (first_is (trees j) (codes "at")) (sym (heads_translated None (branch s i) (branch t j) (codes "at") translated)) (λ e. not_both e plain) (λ e. at_found others rest more)

  pub local_placement_again : (i j : Forest) (s r : Span) → AtMoved d i j → Agrees (LocalPlacementMoved d) (local_placement_of (branch s i)) (local_placement_of (branch r j))
  unfolding element
  local_placement_again i j s r h = by_found (find (has_head (codes "at")) (trees i)) (find (has_head (codes "at")) (trees j)) (at_found i j h)
    where
      by_found : (o p : Option Tree) → LocalPlacementFound d o p → Agrees (LocalPlacementMoved d) (in_needed local_placement_at (branch s i) o) (in_needed local_placement_at (branch r j) p)
      by_found None None k = tt
      by_found None (Some y) k = absurd k
      by_found (Some x) None k = absurd k
      by_found (Some x) (Some y) k = k
