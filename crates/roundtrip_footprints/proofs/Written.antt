-- Where a footprint is, rewritten.
use Rattle.std.proofs.Common.{◌≡◌, ◌∙◌, refl, sym, ap, subst, ℕ, ℤ, pos, ◌+ℤ◌, Bool, true, false, List, codes, Option, None, Some, Result, Ok, Err, inl, inr, arith}
use Rattle.std.specs.Prelude.{slice_get}
use Rattle.std.proofs.lemmas.Int.{ints}
use Rattle.sexpr_read.specs.declared.place.Span.{Span}
use Rattle.sexpr_read.specs.Tree.{Forest, none, atom, list, Tree, leaf, branch, trees}
use Rattle.board_errors.specs.declared.errors.BoardError.{BoardError}
use Rattle.part_read.specs.declared.numbers.RawPoint.{RawPoint}
use Rattle.list_read.specs.ListHeads.{first_is}
use Rattle.part_read.specs.BoardNumbers.{raw_point_at}
use Rattle.pad_read.specs.LocalPlacements.{angle_by, local_placement_at}
use Rattle.roundtrip_text.specs.Pieces.{SameTrees}
use Rattle.roundtrip_lists.specs.Translated.{Shift, place_moved, Translated}
use Rattle.roundtrip_lists.specs.Agreeing.{Agrees, Same}
use Rattle.roundtrip_lists.specs.Carried.{shift_of}
use Rattle.roundtrip_lists.specs.Moved.{moved_raw_point, IsMovedRawPoint}
use Rattle.roundtrip_lists.specs.Moving.{put_numbers, put_if}
use Rattle.roundtrip_lists.proofs.Elements.{agrees_bind, texts_translated}
use Rattle.roundtrip_lists.proofs.Moving.{place_put, moved_same, translated_same, translated_itself}
use Rattle.roundtrip_lists.proofs.RawPoints.{kept_raw_point, moved_raw_points}
use Rattle.roundtrip_lists.proofs.Steps.{same_bind}
use Rattle.roundtrip_footprints.specs.FootprintPlaces.{LocalPlacementMoved, IsPlaceAgain, AtMoved}
use Rattle.roundtrip_footprints.proofs.Parts.{part_found, raw_point_plain}
use Rattle.roundtrip_footprints.proofs.Frames.{angle_plain}

plain_of : (f g : Forest) → SameTrees f g → Translated None f g
plain_of f g same = translated_same None f f g (translated_itself f) same

-- ---- only the two numbers behind the head are written

put_third : (n : ℤ × ℤ) (i : Forest) → slice_get (trees (put_numbers n i)) 3 ≡ slice_get (trees i) 3
put_third n none = refl
put_third n (list s inside others) = refl
put_third n (atom s q c none) = refl
put_third n (atom s q c (list t inside others)) = refl
put_third n (atom s q c (atom t r x none)) = refl
put_third n (atom s q c (atom t r x (list u inside others))) = refl
put_third n (atom s q c (atom t r x (atom u p y others))) = refl

put_head : (n : ℤ × ℤ) (i : Forest) (word : List ℕ) → first_is (trees (put_numbers n i)) word ≡ first_is (trees i) word
put_head n none word = refl
put_head n (list s inside others) word = refl
put_head n (atom s q c others) word = refl

-- the head of what is the same but for spans
head_plain : (f g : Forest) (word : List ℕ) → Translated None f g → first_is (trees g) word ≡ first_is (trees f) word
head_plain none none word h = refl
head_plain none (atom t r e rest) word h = absurd h
head_plain none (list t within rest) word h = absurd h
head_plain (atom s q c others) none word h = absurd h
head_plain (atom s q c others) (list t within rest) word h = absurd h
head_plain (list s i others) none word h = absurd h
head_plain (list s i others) (atom t r e rest) word h = absurd h
head_plain (list s i others) (list t j rest) word h = refl
head_plain (atom s q c others) (atom t r e rest) word h = sym (texts_translated None (leaf s q c) (leaf t r e) word (h.0, h.1))

-- ---- places

angle_same : (s r : Span) (f within : Forest) → Translated None f within → Agrees Same (angle_by (slice_get (trees f) 3)) (angle_by (slice_get (trees within) 3))
angle_same s r f within h = angle_plain (slice_get (trees f) 3) (slice_get (trees within) 3) (part_found (branch s f) (branch r within) 3 h)

module _ (d : Shift) where
  with_raw_points : (s r : Span) (i j : Forest) → Agrees (IsMovedRawPoint (Some d)) (raw_point_at (branch s i)) (raw_point_at (branch r j)) → Agrees Same (angle_by (slice_get (trees i) 3)) (angle_by (slice_get (trees j) 3))
      → Agrees (LocalPlacementMoved d) (local_placement_at (branch s i)) (local_placement_at (branch r j))
  unfolding local_placement_at
  with_raw_points s r i j raw_points angles =
      agrees_bind (IsMovedRawPoint (Some d)) (LocalPlacementMoved d) (raw_point_at (branch s i)) (raw_point_at (branch r j)) _ _ raw_points (λ p q k.
      same_bind (LocalPlacementMoved d) (angle_by (slice_get (trees i) 3)) (angle_by (slice_get (trees j) 3)) _ _ angles (λ a. (k, refl)))

  -- a place that is rewritten says so moved
  pub written_place : (inside within : Forest) → first_is (trees inside) (codes "at") ≡ true → SameTrees (put_if (place_moved d inside) inside) within → IsPlaceAgain d inside within
  written_place inside within first same = by_place (place_moved d inside) refl same
    where
      by_place : (o : Option (ℤ × ℤ)) → place_moved d inside ≡ o → SameTrees (put_if o inside) within → IsPlaceAgain d inside within
      by_place None e same =
          let plain = plain_of inside within same in
          record {
            first = first;
            second = head_plain inside within (codes "at") plain ∙ first;
            local_placement = λ s r. with_raw_points s r inside within (kept_raw_point d (branch s inside) (branch r within) (codes "at") inside s refl first refl e (raw_point_plain (branch s inside) (branch r within) plain)) (angle_same s r inside within plain);
          }
      by_place (Some n) e same =
          let plain = plain_of (put_numbers n inside) within same in
          record {
            first = first;
            second = head_plain (put_numbers n inside) within (codes "at") plain ∙ (put_head n inside (codes "at") ∙ first);
            local_placement = λ s r. with_raw_points s r inside within (moved_raw_points d inside within s r (moved_same d inside (put_numbers n inside) within (place_put d inside n e) same))
                (subst (λ (o : Option Tree). Agrees Same (angle_by o) (angle_by (slice_get (trees within) 3))) (put_third n inside) (angle_same s r (put_numbers n inside) within plain));
          }

-- ---- where nothing is moved

by_nothing : (z : ℤ) → z ≡ z +ℤ pos 0
by_nothing z = omega (arith, ints)

stays_there : (s : RawPoint) → s ≡ moved_raw_point (shift_of None) s
stays_there s = ap (λ (z : ℤ). let r : RawPoint = record { x = z; y = s.y } in r) (by_nothing s.x) ∙ ap (λ (z : ℤ). let r : RawPoint = record { x = s.x +ℤ pos 0; y = z } in r) (by_nothing s.y)

same_raw_points : (s r : Span) (i j : Forest) → Translated None i j → Agrees (IsMovedRawPoint (Some (shift_of None))) (raw_point_at (branch s i)) (raw_point_at (branch r j))
same_raw_points s r i j h = by_raw_points (raw_point_at (branch s i)) (raw_point_at (branch r j)) (raw_point_plain (branch s i) (branch r j) h)
  where
    by_raw_points : (a b : Result RawPoint BoardError) → Agrees Same a b → Agrees (IsMovedRawPoint (Some (shift_of None))) a b
    by_raw_points (Ok x) (Ok y) k = inl (k ∙ stays_there x)
    by_raw_points (Ok x) (Err e) k = absurd k
    by_raw_points (Err e) b k = tt

pub kept_place : (inside within : Forest) → first_is (trees inside) (codes "at") ≡ true → Translated None inside within → IsPlaceAgain (shift_of None) inside within
kept_place inside within first plain = record {
  first = first;
  second = head_plain inside within (codes "at") plain ∙ first;
  local_placement = λ s r. with_raw_points (shift_of None) s r inside within (same_raw_points s r inside within plain) (angle_same s r inside within plain);
}

pub all_kept : (i j : Forest) → Translated None i j → AtMoved (shift_of None) i j
all_kept none none h = tt
all_kept none (atom t r e rest) h = absurd h
all_kept none (list t within rest) h = absurd h
all_kept (atom s q c others) none h = absurd h
all_kept (atom s q c others) (list t within rest) h = absurd h
all_kept (list s i others) none h = absurd h
all_kept (list s i others) (atom t r e rest) h = absurd h
all_kept (atom s q c others) (atom t r e rest) h = (h.0, h.1, all_kept others rest h.2)
all_kept (list s i others) (list t j rest) h = by_head (first_is (trees i) (codes "at")) refl (all_kept others rest h.1)
  where
    by_head : (b : Bool) → first_is (trees i) (codes "at") ≡ b → AtMoved (shift_of None) others rest → AtMoved (shift_of None) (list s i others) (list t j rest)
    by_head true e more = inl (kept_place i j e h.0, h.1)
    by_head false e more = inr (e, h.0, more)
