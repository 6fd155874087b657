-- Where copper meets, the bounds of the items meet.
use Rattle.std.proofs.Common.{◌≡◌, ◌⊎◌, ℕ, zero, suc, ◌<◌, ℤ, pos, negsuc, ◌+ℤ◌, ◌-ℤ◌, ◌≤ℤ◌, List, [], ◌∷◌, ◌++◌, length, get_or, Contains, Some, inl, inr, sym, subst, arith}
use Rattle.std.proofs.lemmas.Int.{ints}
use Rattle.std.specs.List.{Any}
use Rattle.geo_seg.specs.declared.shapes.Shape.{Shape}
use Rattle.geo_seg.specs.declared.boxes.Bounds.{Bounds}
use Rattle.geo_seg.specs.Boxes.{widened, AreClear, IsPartOf}
use Rattle.geo_seg.specs.Cores.{IsPointOf, IsBoundsOf}
use Rattle.geo_seg.proofs.BoxLemmas.{clear_not_within}
use Rattle.geo_seg.specs.Distances.{Meet}
use Rattle.one_item.specs.declared.parts.Part.{Part}
use Rattle.one_item.specs.declared.item.Item.{Item}
use Rattle.one_item.specs.ItemParts.{parts_of, hole_parts, kind_parts}
use Rattle.one_item.specs.Extents.{LiesIn, AllLieIn, AreBoundsOf}
use Rattle.one_item.specs.CopperPairs.{CopperMeets}
use Rattle.geo_seg.specs.Boxes.{BoxesMeet}
use Rattle.item_copper.proofs.Meeting.{MeetsSome, copper_to}

int_cases : (g : ℤ) → (pos 1 ≤ℤ g) ⊎ (g ≤ℤ pos 0)
int_cases (pos zero) = inr (omega (arith, ints))
int_cases (pos (suc n)) = inl (omega (arith, ints))
int_cases (negsuc n) = inr (omega (arith, ints))

-- of two numbers the first is not past the second, unless it is refuted
pub le_unless : (m n : ℤ) → ((n +ℤ pos 1) ≤ℤ m → ⊥) → m ≤ℤ n
le_unless m n none = elim (int_cases (m -ℤ n)) [
  | inl more ↦ absurd (none (omega (arith, ints)))
  | inr le ↦ omega (arith, ints)
]

-- two shapes that meet have bounds that meet
module _ (s t : Shape) (b c : Bounds) (own : IsBoundsOf s b) (others : IsBoundsOf t c) (meet : Meet s t) where
  clear : AreClear own.core_box others.core_box (s.radius +ℤ t.radius +ℤ pos 1) → ⊥
  clear h = clear_not_within (IsPointOf s.core) (IsPointOf t.core) own.core_box others.core_box (s.radius +ℤ t.radius) (let r = s.radius_from in let q = t.radius_from in omega (arith, ints)) own.least others.least h meet

  wide : BoxesMeet (widened own.core_box s.radius) (widened others.core_box t.radius)
  wide = record {
    left = le_unless (own.core_box.left -ℤ s.radius) (others.core_box.right +ℤ t.radius) (λ h. clear (inl (inr (omega (arith, ints)))));
    right = le_unless (others.core_box.left -ℤ t.radius) (own.core_box.right +ℤ s.radius) (λ h. clear (inl (inl (omega (arith, ints)))));
    top = le_unless (own.core_box.top -ℤ s.radius) (others.core_box.bottom +ℤ t.radius) (λ h. clear (inr (inr (omega (arith, ints)))));
    bottom = le_unless (others.core_box.top -ℤ t.radius) (own.core_box.bottom +ℤ s.radius) (λ h. clear (inr (inl (omega (arith, ints)))));
  }

  pub shapes_meet : BoxesMeet b c
  shapes_meet = subst (λ (box : Bounds). BoxesMeet box c) (sym own.wider) (subst (λ (box : Bounds). BoxesMeet (widened own.core_box s.radius) box) (sym others.wider) wide)

-- boxes around boxes that meet meet
around_meet : (a b c d : Bounds) → BoxesMeet a b → IsPartOf a c → IsPartOf b d → BoxesMeet c d
around_meet a b c d m h k = record {
  left = le_along c.left a.left b.right d.right h.left m.left k.right;
  right = le_along d.left b.left a.right c.right k.left m.right h.right;
  top = le_along c.top a.top b.bottom d.bottom h.top m.top k.bottom;
  bottom = le_along d.top b.top a.bottom c.bottom k.top m.bottom h.bottom;
}
  where
    le_along : (x y z w : ℤ) → x ≤ℤ y → y ≤ℤ z → z ≤ℤ w → x ≤ℤ w
    le_along x y z w f g h = omega (arith, ints)

-- ---- parts in a box
all_prefix : (box : Bounds) (ps qs : List Part) → AllLieIn box (ps ++ qs) → AllLieIn box ps
all_prefix box [] qs h = tt
all_prefix box (p ∷ ps) qs h = (h.0, all_prefix box ps qs h.1)

lies_at : (box : Bounds) (ps : List Part) (k : ℕ) (d : Part) → AllLieIn box ps → k < length ps → LiesIn box (get_or ps k d)
lies_at box [] k d h lt = absurd (omega arith)
lies_at box (p ∷ ps) zero d h lt = h.0
lies_at box (p ∷ ps) (suc k) d h lt = lies_at box ps k d h.1 (omega arith)

pub all_lie : (ps : List Part) (box : Bounds) → AreBoundsOf ps (Some box) → AllLieIn box ps
all_lie [] box e = tt
all_lie (p ∷ ps) box h = h.holds

-- a part of the copper lies in the bounds of the item
copper_lies : (a : Item) (box : Bounds) → AreBoundsOf (parts_of a) (Some box) → (k : ℕ) (part : Part) → k < length a.copper → get_or a.copper k part ≡ part → LiesIn box part
copper_lies a box bounds k part lt is =
    subst (LiesIn box) is (lies_at box a.copper k part (all_prefix box a.copper (hole_parts a.hole ++ kind_parts a.what) (all_lie (parts_of a) box bounds)) lt)

pub boxes_meet : (a b : Item) (box other : Bounds) → AreBoundsOf (parts_of a) (Some box) → AreBoundsOf (parts_of b) (Some other) → CopperMeets a b → BoxesMeet box other
boxes_meet a b box other ha hb c =
    let some : Any (MeetsSome b.copper) a.copper = copper_to a b c in
    let one = some.4 in
    let p : LiesIn box some.1 = copper_lies a box ha some.0 some.1 some.2 some.3 in
    let q : LiesIn other one.1 = copper_lies b other hb one.0 one.1 one.2 one.3 in
    around_meet p.bounds q.bounds box other (shapes_meet some.1.shape one.1.shape p.bounds q.bounds p.own q.own one.4.meet) p.inside q.inside

-- ---- parts of two lists that meet
one_lies : (ps : List Part) (box : Bounds) (part : Part) → AreBoundsOf ps (Some box) → Contains ps part → LiesIn box part
one_lies ps box part bounds c = subst (LiesIn box) c.2 (lies_at box ps c.0 part (all_lie ps box bounds) c.1)

pub parts_meet : (ps qs : List Part) (box other : Bounds) → AreBoundsOf ps (Some box) → AreBoundsOf qs (Some other) → (p q : Part) → Contains ps p → Contains qs q → Meet p.shape q.shape → BoxesMeet box other
parts_meet ps qs box other hb ho p q c d meet =
    let l : LiesIn box p = one_lies ps box p hb c in
    let m : LiesIn other q = one_lies qs other q ho d in
    around_meet l.bounds m.bounds box other (shapes_meet p.shape q.shape l.bounds m.bounds l.own m.own meet) l.inside m.inside
