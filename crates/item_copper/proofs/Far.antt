-- Parts in boxes that are far from each other.
use Rattle.std.proofs.Common.{◌≡◌, ℤ, pos, ◌+ℤ◌, ◌-ℤ◌, ◌*ℤ◌, ◌≤ℤ◌, true, ◌&&◌, int_le, IsTrue, List, [], ◌∷◌, All, inl, inr, subst, arith}
use Rattle.std.proofs.lemmas.Int.{ints}
use Rattle.std.proofs.lemmas.List.Elements.{All-nil, All-cons}
use Rattle.geo_seg.specs.declared.shapes.Shape.{Shape}
use Rattle.geo_seg.specs.declared.boxes.Bounds.{Bounds}
use Rattle.geo_seg.specs.Boxes.{widened, are_near, IsClearOf, AreClear, IsPartOf}
use Rattle.geo_seg.specs.Cores.{IsPointOf}
use Rattle.geo_seg.specs.Distances.{Apart, Meet}
use Rattle.geo_seg.proofs.BoxLemmas.{clear_apart, clear_not_within}
use Rattle.one_item.specs.declared.parts.Part.{Part}
use Rattle.one_item.specs.Extents.{LiesIn, AllLieIn}
use Rattle.item_copper.proofs.ItemBoxes.{le_unless}

-- the two keep the distance v, and do not meet
pub record IsFar (v : ℤ) (part other : Part) : Type 0 where
  pub apart : Apart part.shape other.shape (pos 2 *ℤ v)
  pub no_meeting : ¬ (Meet part.shape other.shape)

-- ---- boxes that are clear
nearer_range : (low high other_low other_high l h ol oh d e : ℤ) → e ≤ℤ d → low ≤ℤ l → h ≤ℤ high → other_low ≤ℤ ol → oh ≤ℤ other_high → IsClearOf low high other_low other_high d → IsClearOf l h ol oh e
nearer_range low high other_low other_high l h ol oh d e less a b c f (inl k) = inl (omega (arith, ints))
nearer_range low high other_low other_high l h ol oh d e less a b c f (inr k) = inr (omega (arith, ints))

-- boxes within boxes that are clear are clear, also at a lesser distance
pub clear_inside : (b c b' c' : Bounds) (d e : ℤ) → e ≤ℤ d → IsPartOf b' b → IsPartOf c' c → AreClear b c d → AreClear b' c' e
clear_inside b c b' c' d e less p q (inl x) = inl (nearer_range b.left b.right c.left c.right b'.left b'.right c'.left c'.right d e less p.left p.right q.left q.right x)
clear_inside b c b' c' d e less p q (inr y) = inr (nearer_range b.top b.bottom c.top c.bottom b'.top b'.bottom c'.top c'.bottom d e less p.top p.bottom q.top q.bottom y)

clear_back : (b c : Bounds) (d : ℤ) → AreClear b c d → AreClear c b d
clear_back b c d (inl (inl x)) = inl (inr x)
clear_back b c d (inl (inr x)) = inl (inl x)
clear_back b c d (inr (inl y)) = inr (inr y)
clear_back b c d (inr (inr y)) = inr (inl y)

-- the cores of shapes are clear by the radii more than the shapes are
core_range : (low high other_low other_high r q d : ℤ) → IsClearOf (low -ℤ r) (high +ℤ r) (other_low -ℤ q) (other_high +ℤ q) d → IsClearOf low high other_low other_high (r +ℤ q +ℤ d)
core_range low high other_low other_high r q d (inl k) = inl (omega (arith, ints))
core_range low high other_low other_high r q d (inr k) = inr (omega (arith, ints))

core_clear : (b c : Bounds) (r q d : ℤ) → AreClear (widened b r) (widened c q) d → AreClear b c (r +ℤ q +ℤ d)
core_clear b c r q d (inl x) = inl (core_range b.left b.right c.left c.right r q d x)
core_clear b c r q d (inr y) = inr (core_range b.top b.bottom c.top c.bottom r q d y)

-- ---- parts in them
module _ (v n : ℤ) (some : pos 0 ≤ℤ v) (to : v ≤ℤ n) where
  abbrev IsWide : Bounds → Bounds → Type 0
  IsWide b c = AreClear b c (n +ℤ n +ℤ pos 1)

  -- the cores are clear at any distance up to that
  cores : (s t : Shape) (b c core other : Bounds) (d : ℤ) → d ≤ℤ (s.radius +ℤ t.radius +ℤ (n +ℤ n +ℤ pos 1)) → b ≡ widened core s.radius → c ≡ widened other t.radius → IsWide b c → AreClear core other d
  cores s t b c core other d less e f clear = by_bounds (core_clear core other s.radius t.radius (n +ℤ n +ℤ pos 1) (subst (λ (x : Bounds). IsWide x (widened other t.radius)) e (subst (λ (y : Bounds). IsWide b y) f clear)))
    where
      same : (x : ℤ) → x ≤ℤ x
      same x = omega (arith, ints)

      whole : (x : Bounds) → IsPartOf x x
      whole x = record { left = same x.left; top = same x.top; right = same x.right; bottom = same x.bottom }

      by_bounds : AreClear core other (s.radius +ℤ t.radius +ℤ (n +ℤ n +ℤ pos 1)) → AreClear core other d
      by_bounds h = clear_inside core other core other (s.radius +ℤ t.radius +ℤ (n +ℤ n +ℤ pos 1)) d less (whole core) (whole other) h

  pub far_in : (box other_box : Bounds) → IsWide box other_box → (part other : Part) → LiesIn box part → LiesIn other_box other → IsFar v part other
  far_in box other_box clear part other p q =
      let s = part.shape in
      let t = other.shape in
      let inside = clear_inside box other_box p.bounds q.bounds (n +ℤ n +ℤ pos 1) (n +ℤ n +ℤ pos 1) (omega (arith, ints)) p.inside q.inside clear in
      record {
        apart = clear_apart (IsPointOf s.core) (IsPointOf t.core) p.own.core_box q.own.core_box (s.radius +ℤ t.radius +ℤ pos 2 *ℤ v) (let r = s.radius_from in let u = t.radius_from in omega (arith, ints)) p.own.least q.own.least
            (cores s t p.bounds q.bounds p.own.core_box q.own.core_box (s.radius +ℤ t.radius +ℤ pos 2 *ℤ v) (omega (arith, ints)) p.own.wider q.own.wider inside);
        no_meeting = clear_not_within (IsPointOf s.core) (IsPointOf t.core) p.own.core_box q.own.core_box (s.radius +ℤ t.radius) (let r = s.radius_from in let u = t.radius_from in omega (arith, ints)) p.own.least q.own.least
            (cores s t p.bounds q.bounds p.own.core_box q.own.core_box (s.radius +ℤ t.radius +ℤ pos 1) (omega (arith, ints)) p.own.wider q.own.wider inside);
      }

  pub far_back : (box other_box : Bounds) → IsWide box other_box → (part other : Part) → LiesIn box part → LiesIn other_box other → IsFar v other part
  far_back box other_box clear part other p q = far_in other_box box (clear_back box other_box (n +ℤ n +ℤ pos 1) clear) other part q p

-- all parts lie in the box around them
pub each_lies : (box : Bounds) (parts : List Part) → AllLieIn box parts → All (LiesIn box) parts
each_lies box [] h = All-nil (LiesIn box)
each_lies box (part ∷ parts) h = All-cons (LiesIn box) part parts h.0 (each_lies box parts h.1)

-- ---- boxes that are not clear
int_le_true : (x y : ℤ) → x ≤ℤ y → int_le x y ≡ true
int_le_true x y h = grind (arith, ints)

both_true : (x y z w : ℤ) → x ≤ℤ y → z ≤ℤ w → (int_le x y && int_le z w) ≡ true
both_true x y z w h k = let e = int_le_true x y h in let f = int_le_true z w k in cc

-- boxes are near to each other, unless they are clear
pub near_unless : (b c : Bounds) (m : ℤ) → (AreClear b c (m +ℤ pos 1) → ⊥) → IsTrue (are_near m b c)
near_unless b c m none =
    let x = both_true (b.left -ℤ m) c.right c.left (b.right +ℤ m) (le_unless (b.left -ℤ m) c.right (λ h. none (inl (inr (omega (arith, ints)))))) (le_unless c.left (b.right +ℤ m) (λ h. none (inl (inl (omega (arith, ints)))))) in
    let y = both_true (b.top -ℤ m) c.bottom c.top (b.bottom +ℤ m) (le_unless (b.top -ℤ m) c.bottom (λ h. none (inr (inr (omega (arith, ints)))))) (le_unless c.top (b.bottom +ℤ m) (λ h. none (inr (inl (omega (arith, ints)))))) in
    cc
