-- Points, shapes, holes and items are told by what they hold: that it is in range is known in one way alone.
use Rattle.std.proofs.Common.{◌≡◌, ◌∙◌, ap, subst, ℕ, ◌≤◌, ℤ, pos, ◌≤ℤ◌, Bool, List, Option, unsigned_abs}
use Rattle.std.proofs.Props.{props}
use Rattle.plain_types.specs.Lengths.{IsLength, IsLengthIfSome}
use Rattle.geo_seg.specs.declared.points.Point.{Point}
use Rattle.geo_seg.specs.declared.shapes.Core.{Core}
use Rattle.geo_seg.specs.declared.shapes.Shape.{Shape}
use Rattle.copper_layers.specs.declared.set.LayerSet.{LayerSet}
use Rattle.one_item.specs.declared.parts.Part.{Part}
use Rattle.one_item.specs.declared.item.Hole.{Hole}
use Rattle.one_item.specs.declared.item.What.{What}
use Rattle.one_item.specs.declared.item.Item.{Item}
use Rattle.one_item.specs.Measures.{HasLengths}

-- ---- points are told by their coordinates, and shapes by their cores and radii
one_way : (n m : ℕ) (a b : n ≤ m) → a ≡ b
one_way n m = hlevel props

pub point_is : (p q : Point) → p.x ≡ q.x → p.y ≡ q.y → p ≡ q
point_is p q ex ey =
    subst (λ (z : ℤ). (r : unsigned_abs z ≤ 1000000000) → p ≡ record { x = z; y = q.y; x_in_range = r; y_in_range = q.y_in_range }) ex
    (λ r. subst (λ (z : ℤ). (s : unsigned_abs z ≤ 1000000000) → p ≡ record { x = p.x; y = z; x_in_range = r; y_in_range = s }) ey
    (λ s. ap (λ (a : unsigned_abs p.x ≤ 1000000000). record p { x_in_range = a }) (one_way (unsigned_abs p.x) 1000000000 p.x_in_range r)
    ∙ ap (λ (b : unsigned_abs p.y ≤ 1000000000). record p { x_in_range = r; y_in_range = b }) (one_way (unsigned_abs p.y) 1000000000 p.y_in_range s)) q.y_in_range) q.x_in_range

one_way_z : (n m : ℤ) (a b : n ≤ℤ m) → a ≡ b
one_way_z n m = hlevel props

pub shape_is : (s t : Shape) → s.core ≡ t.core → s.radius ≡ t.radius → s ≡ t
shape_is s t ec er =
    subst (λ (z : ℤ). (u : pos 0 ≤ℤ z) (v : z ≤ℤ pos 500000000) → s ≡ record { core = t.core; radius = z; radius_from = u; radius_to = v }) er
    (λ u v. ap (λ (c : Core). record s { core = c }) ec
    ∙ (ap (λ (a : pos 0 ≤ℤ s.radius). record { core = t.core; radius = s.radius; radius_from = a; radius_to = s.radius_to }) (one_way_z (pos 0) s.radius s.radius_from u)
    ∙ ap (λ (b : s.radius ≤ℤ pos 500000000). record { core = t.core; radius = s.radius; radius_from = u; radius_to = b }) (one_way_z s.radius (pos 500000000) s.radius_to v))) t.radius_from t.radius_to

length_way : (n : ℤ) (a b : IsLength n) → a ≡ b
length_way n = hlevel props

pub hole_is : (a b : Hole) → a.shape ≡ b.shape → a.layers ≡ b.layers → a.plated ≡ b.plated → a.least ≡ b.least → a ≡ b
hole_is a b es el ep en =
    subst (λ (z : ℤ). (r : IsLength z) → a ≡ record { shape = b.shape; layers = b.layers; plated = b.plated; least = z; least_in_range = r }) en
    (λ r. ap (λ (s : Shape). record a { shape = s }) es
    ∙ (ap (λ (l : LayerSet). record { shape = b.shape; layers = l; plated = a.plated; least = a.least; least_in_range = a.least_in_range }) el
    ∙ (ap (λ (t : Bool). record { shape = b.shape; layers = b.layers; plated = t; least = a.least; least_in_range = a.least_in_range }) ep
    ∙ ap (λ (w : IsLength a.least). record { shape = b.shape; layers = b.layers; plated = b.plated; least = a.least; least_in_range = w }) (length_way a.least a.least_in_range r)))) b.least_in_range

-- ---- items
own_way : (n : Option ℤ) (a b : IsLengthIfSome n) → a ≡ b
own_way n = hlevel props

lengths_way : (w : What) (a b : HasLengths w) → a ≡ b
lengths_way w = hlevel props

pub item_is : (i j : Item) → i.name ≡ j.name → i.unit ≡ j.unit → i.net ≡ j.net → i.x ≡ j.x → i.y ≡ j.y → i.copper ≡ j.copper → i.hole ≡ j.hole → i.local ≡ j.local → i.what ≡ j.what → i ≡ j
item_is i j en eu et ex ey ec eh el ew =
    subst (λ (w : What). (v : HasLengths w) → i ≡ record { name = j.name; unit = j.unit; net = j.net; x = j.x; y = j.y; copper = j.copper; hole = j.hole; local = j.local; what = w; local_in_range = j.local_in_range; what_in_range = v }) ew
    (λ v. subst (λ (l : Option ℤ). (u : IsLengthIfSome l) → i ≡ record { name = j.name; unit = j.unit; net = j.net; x = j.x; y = j.y; copper = j.copper; hole = j.hole; local = l; what = i.what; local_in_range = u; what_in_range = v }) el
    (λ u. ap (λ (n : List ℕ). record i { name = n }) en
    ∙ (ap (λ (n : ℕ). record i { name = j.name; unit = n }) eu
    ∙ (ap (λ (n : ℕ). record i { name = j.name; unit = j.unit; net = n }) et
    ∙ (ap (λ (z : ℤ). record i { name = j.name; unit = j.unit; net = j.net; x = z }) ex
    ∙ (ap (λ (z : ℤ). record i { name = j.name; unit = j.unit; net = j.net; x = j.x; y = z }) ey
    ∙ (ap (λ (ps : List Part). record i { name = j.name; unit = j.unit; net = j.net; x = j.x; y = j.y; copper = ps }) ec
    ∙ (ap (λ (h : Option Hole). record i { name = j.name; unit = j.unit; net = j.net; x = j.x; y = j.y; copper = j.copper; hole = h }) eh
    ∙ (ap (λ (r : IsLengthIfSome i.local). record i { name = j.name; unit = j.unit; net = j.net; x = j.x; y = j.y; copper = j.copper; hole = j.hole; local_in_range = r }) (own_way i.local i.local_in_range u)
    ∙ ap (λ (r : HasLengths i.what). record i { name = j.name; unit = j.unit; net = j.net; x = j.x; y = j.y; copper = j.copper; hole = j.hole; local_in_range = u; what_in_range = r }) (lengths_way i.what i.what_in_range v)))))))))
    j.local_in_range) j.what_in_range
