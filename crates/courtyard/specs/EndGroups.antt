-- The ends at each place, as a map keeps them.
use Rattle.std.specs.Prelude.{◌≡◌, ℕ, ℤ, Bool, true, false, List, [], ◌∷◌, ◌⊎◌, Option, Some, None}
use Rattle.std.specs.declared.cmp.Ordering.{Ordering}
use Rattle.std.specs.Ordering.{int_cmp, ordering_then}
use Rattle.std.specs.BTreeMap as tree
use Rattle.std.specs.BTreeMap.{BTreeMap}
use Rattle.geo_seg.specs.declared.points.Seg.{Seg}
use Rattle.courtyard.specs.declared.ends.LineEnd.{LineEnd}
use Rattle.courtyard.specs.declared.ends.Group.{Group}
use Rattle.courtyard.specs.Ends.{ends_at, IsEndAt, IsJoined, IsLoose}

-- the order of places
abbrev pub place_cmp : ℤ × ℤ → ℤ × ℤ → Ordering
place_cmp p q = ordering_then (int_cmp p.0 q.0) (int_cmp p.1 q.1)

-- ends as a group: none, one, two, or too many
abbrev pub group : List LineEnd → Option Group
group [] = None
group (e ∷ []) = Some (Group.One e)
group (e ∷ f ∷ []) = Some (Group.Two e f)
group (e ∷ f ∷ g ∷ es) = Some Group.Many

-- the map has the group of each place
pub record AreEndGroups (lines : List Seg) (groups : BTreeMap (ℤ × ℤ) Group) : Type 0 where
  pub at : (k : ℤ × ℤ) → tree.get place_cmp groups k ≡ group (ends_at lines k)

-- e is one of the ends
abbrev pub IsIn : LineEnd → List LineEnd → Type 0
IsIn e [] = ⊥
IsIn e (x ∷ xs) = (x ≡ e) ⊎ IsIn e xs

-- f is with e in the list of the two
abbrev pub IsPairOf : LineEnd → LineEnd → List LineEnd → Type 0
IsPairOf e f es = (es ≡ e ∷ f ∷ []) ⊎ (es ≡ f ∷ e ∷ [])

-- e is an end of a line that has a length
pub record IsEnd (lines : List Seg) (e : LineEnd) : Type 0 where
  pub raw_point : ℤ × ℤ
  pub stands : IsEndAt lines e raw_point

-- both ends of the line i are joined
abbrev pub AreJoinedIn : List Seg → ℕ → Type 0
AreJoinedIn lines i = (far : Bool) → IsJoined lines (record { line = i; far = far })

-- e is the first loose end of the line i
pub record IsFirstLooseIn (lines : List Seg) (i : ℕ) (e : LineEnd) : Type 0 where
  pub line : e.line ≡ i
  pub loose : IsLoose lines e
  pub first : e.far ≡ true → IsJoined lines (record { line = i; far = false })
