-- What stands in footprints that are the same but for spans, and for where they are.
use Rattle.std.specs.Prelude.{◌≡◌, ◌⊎◌, true, false, codes, None, Some, ⊤}
use Rattle.sexpr_read.specs.declared.place.Span.{Span}
use Rattle.sexpr_read.specs.Tree.{Forest, none, atom, list, branch, trees}
use Rattle.list_read.specs.ListHeads.{first_is}
use Rattle.pad_read.specs.declared.local_placements.LocalPlacement.{LocalPlacement}
use Rattle.pad_read.specs.LocalPlacements.{local_placement_at}
use Rattle.roundtrip_lists.specs.Translated.{Shift, Translated}
use Rattle.roundtrip_lists.specs.Agreeing.{Agrees}
use Rattle.roundtrip_lists.specs.Moved.{IsMovedRawPoint}

-- turned as it was, at the moved point
abbrev pub LocalPlacementMoved : Shift → LocalPlacement → LocalPlacement → Type 0
LocalPlacementMoved d p q = IsMovedRawPoint (Some d) p.at q.at × (q.angle ≡ p.angle)

-- both say where the footprint is, the second one moved
pub record IsPlaceAgain (d : Shift) (inside other : Forest) : Type 0 where
  pub first : first_is (trees inside) (codes "at") ≡ true
  pub second : first_is (trees other) (codes "at") ≡ true
  pub local_placement : (s r : Span) → Agrees (LocalPlacementMoved d) (local_placement_at (branch s inside)) (local_placement_at (branch r other))

-- the first list that says where it is says so moved, and all others are the same
abbrev pub AtMoved : Shift → Forest → Forest → Type 0
AtMoved d none none = ⊤
AtMoved d none (atom t r e rest) = ⊥
AtMoved d none (list t within rest) = ⊥
AtMoved d (atom s q c others) none = ⊥
AtMoved d (atom s q c others) (atom t r e rest) = (q ≡ r) × (c ≡ e) × AtMoved d others rest
AtMoved d (atom s q c others) (list t within rest) = ⊥
AtMoved d (list s inside others) none = ⊥
AtMoved d (list s inside others) (atom t r e rest) = ⊥
AtMoved d (list s inside others) (list t within rest) =
    (IsPlaceAgain d inside within × Translated None others rest)
    ⊎ ((first_is (trees inside) (codes "at") ≡ false) × Translated None inside within × AtMoved d others rest)
