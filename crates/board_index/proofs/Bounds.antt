-- Parts have one box around them.
use Rattle.std.proofs.Common.{◌≡◌, ◌≢◌, refl, ap, ◌∙◌, ℤ, ◌≤ℤ◌, List, [], ◌∷◌, None, Some, arith}
use Rattle.std.proofs.lemmas.Int.{ints}
use Rattle.geo_seg.specs.declared.boxes.Bounds.{Bounds}
use Rattle.geo_seg.specs.Boxes.{IsPartOf}
use Rattle.one_item.specs.declared.parts.Part.{Part}
use Rattle.one_item.specs.Extents.{AreBoundsOf}

both : (x y : ℤ) → x ≤ℤ y → y ≤ℤ x → x ≡ y
both x y f g = omega (arith, ints)

built : (b c : Bounds) → b.left ≡ c.left → b.top ≡ c.top → b.right ≡ c.right → b.bottom ≡ c.bottom → b ≡ c
built b c e f g h =
    ap (λ (z : ℤ). record b { left = z }) e ∙ (ap (λ (z : ℤ). record b { left = c.left; top = z }) f
    ∙ (ap (λ (z : ℤ). record b { left = c.left; top = c.top; right = z }) g ∙ ap (λ (z : ℤ). record c { bottom = z }) h))

both_parts : (b c : Bounds) → IsPartOf b c → IsPartOf c b → b ≡ c
both_parts b c h k = built b c (both b.left c.left k.left h.left) (both b.top c.top k.top h.top) (both b.right c.right h.right k.right) (both b.bottom c.bottom h.bottom k.bottom)

pub one_box : (ps : List Part) (b c : Bounds) → AreBoundsOf ps (Some b) → AreBoundsOf ps (Some c) → b ≡ c
one_box [] b c h k = absurd (cc)
one_box (p ∷ ps) b c h k = both_parts b c (h.least c k.holds) (k.least b h.holds)

pub has_parts : (ps : List Part) (b : Bounds) → AreBoundsOf ps (Some b) → ps ≢ []
has_parts [] b h none = cc
has_parts (p ∷ ps) b h none = cc

pub no_box : (ps : List Part) → AreBoundsOf ps None → ps ≡ []
no_box [] h = refl
no_box (p ∷ ps) h = absurd h
