-- The heads of footprints that are the same but for spans, and for where they are.
use Rattle.std.proofs.Common.{◌≡◌, ◌∙◌, refl, sym, ap, subst, ℕ, ℤ, Bool, true, false, ◌&&◌, ◌==◌, List, [], codes, find, Option, None, Some, Result, Ok, Err}
use Rattle.std.specs.Prelude.{slice_get, bytes_eq, unwrap_or, if◌then◌else◌}
use Rattle.sexpr_read.specs.declared.place.Span.{Span}
use Rattle.sexpr_read.specs.Tree.{Forest, Tree, branch, trees, parts}
use Rattle.board_errors.specs.declared.errors.BoardError.{BoardError}
use Rattle.board_errors.specs.declared.errors.BoardError.TheVariants.{Missing, Turned, UnknownLayer}
use Rattle.copper_layers.specs.declared.set.LayerSet.{LayerSet}
use Rattle.part_read.specs.declared.numbers.RawPoint.{RawPoint}
use Rattle.list_read.specs.FirstRefusals.{◌>>=◌, needed}
use Rattle.list_read.specs.ListHeads.{place, first_is, has_head}
use Rattle.list_read.specs.NamedElements.{element}
use Rattle.part_read.specs.ElementResults.{atom_of}
use Rattle.part_read.specs.BoardLayers.{copper_in}
use Rattle.pad_read.specs.declared.head.Head.{Head}
use Rattle.pad_read.specs.LocalPlacements.{local_placement_of, quarters_of, clearance_of}
use Rattle.footprint_read.specs.FootHead.{side_by, side_of, is_word, says, second_text, reference_by, reference_of, head_of}
use Rattle.roundtrip_lists.specs.Translated.{Shift}
use Rattle.roundtrip_lists.specs.Agreeing.{Agrees, Same, FoundTranslated}
use Rattle.roundtrip_lists.specs.Moved.{IsMovedRawPoint}
use Rattle.roundtrip_lists.proofs.Elements.{agrees_bind, heads_translated, texts_translated, same_value}
use Rattle.roundtrip_lists.proofs.Numbers.{copper_in_translated}
use Rattle.roundtrip_lists.proofs.Steps.{same_bind, needed_same}
use Rattle.roundtrip_footprints.specs.FootprintPlaces.{LocalPlacementMoved, AtMoved}
use Rattle.roundtrip_footprints.proofs.Parts.{Plain, inside, PartsFound, part_found, atom_step}
use Rattle.roundtrip_footprints.proofs.Frames.{clearance_found}
use Rattle.roundtrip_footprints.proofs.Finding.{other_head, find_again, element_again, local_placement_again}

-- ---- the side

side_by_same : (a b : Tree) (layer : ℕ) → Agrees Same (side_by a layer) (side_by b layer)
side_by_same a b layer = by_tests (layer == 0) (layer == 31)
  where
    by_tests : (front back : Bool) → Agrees Same (if front then Ok false else if back then Ok true else Err (UnknownLayer (place a))) (if front then Ok false else if back then Ok true else Err (UnknownLayer (place b)))
    by_tests true back = refl
    by_tests false true = refl
    by_tests false false = tt

module _ (d : Shift) (copper : LayerSet) (i j : Forest) (s r : Span) (h : AtMoved d i j) where
  abbrev one : Tree
  one = branch s i

  abbrev two : Tree
  two = branch r j

  side_again : Agrees Same (side_of copper one) (side_of copper two)
  unfolding side_of
  side_again = by_found (element (codes "layer") one) (element (codes "layer") two) (element_again d (codes "layer") refl i j s r h)
    where
      of_list : Tree → Result Bool BoardError
      of_list t = atom_of 1 t >>= λ atom. (copper_in copper atom >>= side_by atom)

      by_found : (o p : Option Tree) → FoundTranslated None (has_head (codes "layer")) o p → Agrees Same (needed (Missing (place one)) o >>= of_list) (needed (Missing (place two)) p >>= of_list)
      by_found None None k = tt
      by_found None (Some y) k = absurd k
      by_found (Some x) None k = absurd k
      by_found (Some x) (Some y) k =
          atom_step Same 1 x y _ _ (inside x y k.0) (λ a b m. same_bind Same (copper_in copper a) (copper_in copper b) (side_by a) (side_by b) (copper_in_translated copper a b m) (λ layer. side_by_same a b layer))

  -- ---- the reference

  word_found : (word : List ℕ) (o p : Option Tree) → PartsFound o p → is_word word o ≡ is_word word p
  word_found word None None k = refl
  word_found word None (Some y) k = absurd k
  word_found word (Some x) None k = absurd k
  word_found word (Some x) (Some y) k = texts_translated None x y word k

  says_same : (head word : List ℕ) (t u : Tree) → Plain t u → says head word t ≡ says head word u
  says_same head word t u k =
      ap (λ (b : Bool). b && is_word word (slice_get (parts t) 1)) (heads_translated None t u head k)
      ∙ ap (λ (b : Bool). has_head head u && b) (word_found word (slice_get (parts t) 1) (slice_get (parts u) 1) (part_found t u 1 (inside t u k)))

  never_says : (head word : List ℕ) → bytes_eq (codes "at") head ≡ false → (p : Span) (f : Forest) → first_is (trees f) (codes "at") ≡ true → says head word (branch p f) ≡ false
  never_says head word other p f first = ap (λ (b : Bool). b && is_word word (slice_get (trees f) 1)) (other_head p f head first other)

  says_found : (head word : List ℕ) → bytes_eq (codes "at") head ≡ false → FoundTranslated None (says head word) (find (says head word) (trees i)) (find (says head word) (trees j))
  says_found head word other = find_again d (says head word) (λ t u k. says_same head word t u k) (λ p f first. never_says head word other p f first) i j h

  second_same : (x y : Tree) → Plain x y → Agrees Same (second_text x) (second_text y)
  second_same x y k = atom_step Same 2 x y _ _ (inside x y k) (λ a b m. ap (λ (v : Option (List ℕ)). unwrap_or v []) (sym (same_value a b m)))

  reference_found : (m n : Tree → Bool) (o p a b : Option Tree) → FoundTranslated None m o p → FoundTranslated None n a b → Agrees Same (reference_by o a) (reference_by p b)
  reference_found m n None None None None k l = refl
  reference_found m n None None None (Some y) k l = absurd l
  reference_found m n None None (Some x) None k l = absurd l
  reference_found m n None None (Some x) (Some y) k l = second_same x y l.0
  reference_found m n None (Some y) a b k l = absurd k
  reference_found m n (Some x) None a b k l = absurd k
  reference_found m n (Some x) (Some y) a b k l = second_same x y k.0

  reference_again : Agrees Same (reference_of one) (reference_of two)
  unfolding reference_of
  reference_again =
      reference_found (says (codes "fp_text") (codes "reference")) (says (codes "property") (codes "Reference")) (find (says (codes "fp_text") (codes "reference")) (trees i)) (find (says (codes "fp_text") (codes "reference")) (trees j))
      (find (says (codes "property") (codes "Reference")) (trees i)) (find (says (codes "property") (codes "Reference")) (trees j)) (says_found (codes "fp_text") (codes "reference") refl) (says_found (codes "property") (codes "Reference") refl)

  -- ---- the whole head

  -- the same head, but for the position
  pub record HeadAgain (x y : Head) : Type 0 where
    pub raw_point : RawPoint
    pub moved : IsMovedRawPoint (Some d) x.placement.at raw_point
    pub is : y ≡ record x { placement = record { quarter = x.placement.quarter; at = raw_point } }

  clearance_again : Agrees Same (clearance_of one) (clearance_of two)
  unfolding clearance_of
  clearance_again = clearance_found (element (codes "clearance") one) (element (codes "clearance") two) (element_again d (codes "clearance") refl i j s r h)

  pub head_again : Agrees HeadAgain (head_of copper one) (head_of copper two)
  unfolding head_of
  head_again =
      same_bind HeadAgain (side_of copper one) (side_of copper two) _ _ side_again (λ on_back.
      agrees_bind (LocalPlacementMoved d) HeadAgain (local_placement_of one) (local_placement_of two) _ _ (local_placement_again d i j s r h) (λ p q k.
      subst (λ (a : ℤ). Agrees HeadAgain (from_local_placement one on_back p.at p.angle) (from_local_placement two on_back q.at a)) (sym k.1)
      (same_bind HeadAgain (needed (Turned (place one)) (quarters_of p.angle)) (needed (Turned (place two)) (quarters_of p.angle)) _ _ (needed_same (Turned (place one)) (Turned (place two)) (quarters_of p.angle) (quarters_of p.angle) refl) (λ quarter.
      same_bind HeadAgain (reference_of one) (reference_of two) _ _ reference_again (λ reference.
      same_bind HeadAgain (clearance_of one) (clearance_of two) _ _ clearance_again (λ clearance. record { raw_point = q.at; moved = k.0; is = refl }))))))
    where
      from_local_placement : Tree → Bool → RawPoint → ℤ → Result Head BoardError
      from_local_placement tree on_back at angle =
          needed (Turned (place tree)) (quarters_of angle) >>= λ quarter.
          (reference_of tree >>= λ reference.
          (clearance_of tree >>= λ clearance.
          Ok (record { on_back = on_back; placement = record { quarter = quarter; at = at }; reference = reference; clearance = clearance })))
