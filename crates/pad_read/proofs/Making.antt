-- Holes and pads are the same where their numbers and their parts are: what bounds them has one proof.
use Rattle.std.proofs.Common.{◌≡◌, ◌∙◌, refl, ap, sym, subst, ℕ, ℤ, List, Bool, true, Option}
use Rattle.std.proofs.Props.{props}
use Rattle.geo_seg.specs.declared.shapes.Shape.{Shape}
use Rattle.plain_types.specs.Lengths.{IsLength, IsLengthIfSome, is_length}
use Rattle.copper_layers.specs.declared.set.LayerSet.{LayerSet}
use Rattle.one_item.specs.declared.parts.Part.{Part}
use Rattle.one_item.specs.declared.item.Hole.{Hole}
use Rattle.one_item.specs.declared.item.What.{What}
use Rattle.one_item.specs.declared.item.What.TheVariants.{Pad}
use Rattle.one_item.specs.declared.item.Item.{Item}
use Rattle.one_item.specs.Measures.{HasLengths}
use Rattle.part_read.specs.declared.numbers.RawPoint.{RawPoint}
use Rattle.plain_types.proofs.LengthTests.{length_in_range}
use Rattle.part_read.specs.PlainItems.{unmeasured}
use Rattle.pad_read.specs.declared.sizes.Sizes.{Sizes}
use Rattle.pad_read.specs.declared.labels.Label.{Label}
use Rattle.pad_read.specs.PadSizes.{least_of}
use Rattle.pad_read.specs.PadOf.{hole_with, local_fits, local_in_range, pad_item}

length_prop : (n : ℤ) → IsProp (IsLength n)
length_prop n = hlevel props

some_prop : (n : Option ℤ) → IsProp (IsLengthIfSome n)
some_prop n = hlevel props

lengths_prop : (what : What) → IsProp (HasLengths what)
lengths_prop what = hlevel props

pub hole_is : (layers : LayerSet) (plated : Bool) (s : Sizes) (shape : Shape) (least : ℤ) (k : IsLength least) (fits : is_length (least_of s) ≡ true) → least ≡ least_of s
    → (let hole : Hole = record { shape = shape; layers = layers; plated = plated; least = least; least_in_range = k } in hole) ≡ hole_with layers plated s shape fits
hole_is layers plated s shape least k fits e =
    subst (λ (z : ℤ). (k : IsLength z) → (let hole : Hole = record { shape = shape; layers = layers; plated = plated; least = z; least_in_range = k } in hole) ≡ hole_with layers plated s shape fits)
    (sym e)
    (λ k. ap (λ (l : IsLength (least_of s)). let hole : Hole = record { shape = shape; layers = layers; plated = plated; least = least_of s; least_in_range = l } in hole)
    (length_prop (least_of s) k (length_in_range (least_of s) fits))) k

pub pad_lengths : (number reference : List ℕ) → HasLengths (Pad number reference)
pad_lengths number reference = unmeasured (Pad number reference) refl

module _ (label : Label) (copper : List Part) (hole : Option Hole) where
  row : (what : What) → (x y : ℤ) → IsLengthIfSome label.local → HasLengths what → Item
  row what x y k m = record {
    name = label.name;
    unit = label.unit;
    net = label.net;
    x = x;
    y = y;
    copper = copper;
    hole = hole;
    local = label.local;
    what = what;
    local_in_range = k;
    what_in_range = m;
  }

  from_what : (what : What) (x y : ℤ) (k : IsLengthIfSome label.local) (m : HasLengths what) (at : RawPoint) (fits : local_fits label.local ≡ true) → Pad label.number label.reference ≡ what → x ≡ at.x → y ≡ at.y
      → row what x y k m ≡ pad_item label at copper hole fits
  unfolding row
  from_what what x y k m at fits w e f =
      subst (λ (v : What). (m : HasLengths v) → row v x y k m ≡ pad_item label at copper hole fits) w
      (λ m. ap (λ (z : ℤ). row (Pad label.number label.reference) z y k m) e
      ∙ ap (λ (z : ℤ). row (Pad label.number label.reference) at.x z k m) f
      ∙ ap (λ (l : IsLengthIfSome label.local). row (Pad label.number label.reference) at.x at.y l m) (some_prop label.local k (local_in_range label.local fits))
      ∙ ap (λ (l : HasLengths (Pad label.number label.reference)). row (Pad label.number label.reference) at.x at.y (local_in_range label.local fits) l)
      (lengths_prop (Pad label.number label.reference) m (unmeasured (Pad label.number label.reference) refl))) m

  pub pad_is : (what : What) (x y : ℤ) (k : IsLengthIfSome label.local) (m : HasLengths what) (at : RawPoint) (fits : local_fits label.local ≡ true) → what ≡ Pad label.number label.reference → x ≡ at.x → y ≡ at.y
      → (let item : Item = record { name = label.name; unit = label.unit; net = label.net; x = x; y = y; copper = copper; hole = hole; local = label.local; what = what; local_in_range = k; what_in_range = m } in item)
      ≡ pad_item label at copper hole fits
  unfolding row
  pad_is what x y k m at fits w e f = from_what what x y k m at fits (sym w) e f
