-- What is too near on a layer, and on which layers anything is.
use Rattle.std.proofs.Common.{◌≡◌, ◌⊎◌, inl, inr, refl, sym, subst, ◌∙◌, ℤ, pos, ◌+ℤ◌, ◌*ℤ◌, ◌≤ℤ◌, ◌<ℤ◌, true, List, [], slice_index_or, All, arith}
use Rattle.std.specs.List.{Any}
use Rattle.std.proofs.lemmas.Int.{ints}
pub use Rattle.item_copper.proofs.Gaps.{passed_gap}
use Rattle.geo_seg.specs.declared.shapes.Shape.{Shape}
use Rattle.geo_seg.specs.Cores.{IsPointOf}
use Rattle.geo_seg.specs.Distances.{Apart, Meet, IsGap}
use Rattle.geo_seg.proofs.Distances.{apart_not_within}
use Rattle.copper_layers.specs.declared.set.LayerSet.{LayerSet}
use Rattle.one_item.specs.declared.parts.Part.{Part}
use Rattle.one_item.specs.declared.item.Item.{Item}
use Rattle.one_item.specs.CopperPairs.{SomeMeet, Keeps}
use Rattle.cond_lang.specs.declared.kind.Kind.{Kind}
use Rattle.cond_lang.specs.declared.kind.Kind.TheVariants.{Short, Clearance}
use Rattle.kind_subjects.specs.declared.subject.OperandKinds.{OperandKinds}
use Rattle.kind_subjects.specs.declared.subject.OperandKinds.TheVariants.{Coppers, HolesAndCopper, Holes, EdgesAndCopper, Yards, Areas}
use Rattle.kind_subjects.specs.declared.subject.Subject.{Subject}
use Rattle.kind_subjects.specs.declared.subject.Subject.TheVariants.{Sides, Length, Whole}
use Rattle.kind_subjects.specs.declared.layer.RowLayer.{RowLayer}
use Rattle.kind_subjects.specs.declared.layer.RowLayer.TheVariants.{Copper, FrontYard, BackYard, Nowhere}
use Rattle.kind_subjects.specs.Subjects.{subject_of}
use Rattle.kind_subjects.specs.KindLayers.{IsFacedOn, IsSeenOn, IsLayerOf}
use Rattle.kind_subjects.specs.TriedLayers.{IsTried}
use Rattle.kind_subjects.specs.MeasuredPair.{MeasuredPair, faced, measured_pairs_in, measured_pairs, may_not_meet, MeetAt, KeepAt, TooNear}

-- ---- layers

-- something faces something only on the layers that the kind can have
pub operand_kinds_on : (copper : LayerSet) (operand_kinds : OperandKinds) (layer : RowLayer) (a b : Item) → IsTried copper layer → IsFacedOn operand_kinds layer ⊎ (faced operand_kinds layer a b ≡ [])
operand_kinds_on copper Coppers (Copper n) a b is = inl is.below
operand_kinds_on copper HolesAndCopper (Copper n) a b is = inl is.below
operand_kinds_on copper EdgesAndCopper (Copper n) a b is = inl (inl is.below)
operand_kinds_on copper EdgesAndCopper Nowhere a b is = inl (inr tt)
operand_kinds_on copper Areas (Copper n) a b is = inl is.below
operand_kinds_on copper Holes Nowhere a b is = inl tt
operand_kinds_on copper Yards FrontYard a b is = inl tt
operand_kinds_on copper Yards BackYard a b is = inl tt
operand_kinds_on copper _ _ a b is = inr refl

sees_on : (copper : LayerSet) (kind : Kind) (layer : RowLayer) (a b : Item) → IsTried copper layer → IsLayerOf kind layer ⊎ (measured_pairs kind layer a b ≡ [])
unfolding measured_pairs
sees_on copper kind layer a b is = by (subject_of kind)
  where
    by : (subject : Subject) → IsSeenOn subject layer ⊎ (measured_pairs_in subject layer a b ≡ [])
    by (Sides operand_kinds) = operand_kinds_on copper operand_kinds layer a b is
    by (Length measure) = inr refl
    by Whole = inr refl

nothing_meets : (fs : List MeasuredPair) → fs ≡ [] → Any (λ (f : MeasuredPair). SomeMeet f.own f.others) fs → ⊥
nothing_meets fs e m = none (subst (λ (l : List MeasuredPair). Any (λ (f : MeasuredPair). SomeMeet f.own f.others) l) e m)
  where
    none : Any (λ (f : MeasuredPair). SomeMeet f.own f.others) [] → ⊥
    none m = let h = m.2 in absurd (omega arith)

all_keeps : (fs : List MeasuredPair) (v : ℤ) → fs ≡ [] → All (λ (f : MeasuredPair). Keeps f.own f.others v) fs
all_keeps fs v e = subst (λ (l : List MeasuredPair). All (λ (f : MeasuredPair). Keeps f.own f.others v) l) (sym e) (λ k d h. absurd (omega arith))

pub meeting_layer : (copper : LayerSet) (kind : Kind) (layer : RowLayer) (a b : Item) → IsTried copper layer → MeetAt kind layer a b → IsLayerOf kind layer
meeting_layer copper kind layer a b is m = by (sees_on copper kind layer a b is)
  where
    by : IsLayerOf kind layer ⊎ (measured_pairs kind layer a b ≡ []) → IsLayerOf kind layer
    by (inl l) = l
    by (inr e) = absurd (nothing_meets (measured_pairs kind layer a b) e m)

-- ---- what is too near

pub near_of : (kind : Kind) (layer : RowLayer) (a b : Item) (v : ℤ) → ¬ (KeepAt kind layer a b v) → TooNear kind layer a b v
near_of kind layer a b v h = inr h

pub near_of_meeting : (kind : Kind) (layer : RowLayer) (a b : Item) (v : ℤ) → may_not_meet kind ≡ true → MeetAt kind layer a b → TooNear kind layer a b v
near_of_meeting kind layer a b v e m = inl (e, m)

-- what is kept, and does not touch either where that is asked, is not too near
pub not_near : (kind : Kind) (layer : RowLayer) (a b : Item) (v : ℤ) → KeepAt kind layer a b v → (may_not_meet kind ≡ true → ¬ (MeetAt kind layer a b)) → ¬ (TooNear kind layer a b v)
not_near kind layer a b v k m (inl n) = m n.0 n.1
not_near kind layer a b v k m (inr n) = n k

pub near_layer : (copper : LayerSet) (kind : Kind) (layer : RowLayer) (a b : Item) (v : ℤ) → IsTried copper layer → TooNear kind layer a b v → IsLayerOf kind layer
near_layer copper kind layer a b v is n = by (sees_on copper kind layer a b is)
  where
    by : IsLayerOf kind layer ⊎ (measured_pairs kind layer a b ≡ []) → IsLayerOf kind layer
    by (inl l) = l
    by (inr e) = absurd (not_near kind layer a b v (all_keeps (measured_pairs kind layer a b) v e) (λ _ m. nothing_meets (measured_pairs kind layer a b) e m) n)

-- nothing has to be kept at 0
kept_zero : (kind : Kind) (layer : RowLayer) (a b : Item) → KeepAt kind layer a b (pos 0)
kept_zero kind layer a b = λ k d h. inl refl

pub kept_none : (kind : Kind) (layer : RowLayer) (a b : Item) (v : ℤ) → v ≡ pos 0 → KeepAt kind layer a b v
kept_none kind layer a b v e = subst (λ (n : ℤ). KeepAt kind layer a b n) (sym e) (kept_zero kind layer a b)

-- ---- what the gap tells

module _ (kind : Kind) (layer : RowLayer) (a b : Item) (v gap : ℤ) (is : IsGap (KeepAt kind layer a b) v gap) where
  pub gap_reaches : pos 1 ≤ℤ v → KeepAt kind layer a b v → v ≤ℤ gap
  gap_reaches some k = is.greatest v some (same v) k
    where
      same : (n : ℤ) → n ≤ℤ n
      same n = omega (arith, ints)

  pub gap_near : gap <ℤ v → TooNear kind layer a b v
  gap_near lt = near_of kind layer a b v (λ k. too_great (gap_reaches (above v gap is.from lt) k))
    where
      above : (n g : ℤ) → pos 0 ≤ℤ g → g <ℤ n → pos 1 ≤ℤ n
      above n g h l = omega (arith, ints)

      too_great : v ≤ℤ gap → ⊥
      too_great le = omega (arith, ints, lt)

  pub gap_kept : v ≤ℤ gap → KeepAt kind layer a b v
  gap_kept le = by is.kept
    where
      same : (n g : ℤ) → g ≤ℤ n → n ≤ℤ g → g ≡ n
      same n g h l = omega (arith, ints)

      by : (gap ≡ pos 0) ⊎ KeepAt kind layer a b gap → KeepAt kind layer a b v
      by (inl e) = kept_none kind layer a b v (sym (same v gap is.to le) ∙ e)
      by (inr k) = subst (λ (n : ℤ). KeepAt kind layer a b n) (same v gap is.to le) k

-- ---- what keeps a distance does not meet

apart_unmet : (s t : Shape) (c : ℤ) → pos 1 ≤ℤ c → Apart s t c → Meet s t → ⊥
apart_unmet s t c h far meet =
    apart_not_within (IsPointOf s.core) (IsPointOf t.core) (s.radius +ℤ t.radius) (s.radius +ℤ t.radius +ℤ c) (both s.radius t.radius s.radius_from t.radius_from) (more (s.radius +ℤ t.radius) c h) far meet
  where
    both : (x y : ℤ) → pos 0 ≤ℤ x → pos 0 ≤ℤ y → pos 0 ≤ℤ (x +ℤ y)
    both x y p q = omega (arith, ints)

    more : (x y : ℤ) → pos 1 ≤ℤ y → x <ℤ (x +ℤ y)
    more x y p = omega (arith, ints)

parts_unmet : (xs ys : List Part) (v : ℤ) → pos 1 ≤ℤ v → Keeps xs ys v → SomeMeet xs ys → ⊥
parts_unmet xs ys v h (inl e) m = absurd (omega (arith, ints))
parts_unmet xs ys v h (inr far) m =
    let one = m.some in
    let other = one.4 in
    let first = one.1 in
    let second = other.1 in
    let there = far.each one.0 first one.2 other.0 second other.2 in
    let apart = subst (λ (p : Part). Apart p.shape second.shape (pos 2 *ℤ v)) one.3 (subst (λ (q : Part). Apart (slice_index_or xs one.0 first).shape q.shape (pos 2 *ℤ v)) other.3 there) in
    apart_unmet first.shape second.shape (pos 2 *ℤ v) (twice v h) apart other.4
  where
    twice : (n : ℤ) → pos 1 ≤ℤ n → pos 1 ≤ℤ (pos 2 *ℤ n)
    twice n h = omega (arith, ints)

pub kept_unmet : (kind : Kind) (layer : RowLayer) (a b : Item) (v : ℤ) → pos 1 ≤ℤ v → KeepAt kind layer a b v → MeetAt kind layer a b → ⊥
kept_unmet kind layer a b v h keep m =
    let f = m.1 in
    parts_unmet f.own f.others v h (subst (λ (g : MeasuredPair). Keeps g.own g.others v) m.3 (keep m.0 f m.2)) m.4

-- a short and a clearance look at the same parts
pub short_as_clearance : (layer : RowLayer) (a b : Item) → MeetAt Short layer a b → MeetAt Clearance layer a b
unfolding measured_pairs
short_as_clearance layer a b m = m
