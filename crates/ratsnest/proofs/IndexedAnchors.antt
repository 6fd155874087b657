-- On links of anchors with their places.
use Rattle.std.proofs.Common.{◌≡◌, ◌*◌, ◌≤◌, ◌<◌, ℕ, min, max, List, unsigned_abs, ◌-ℤ◌, ℤ, inl, inr, refl, ◌∙◌, ap, ap₂, arith}
use Rattle.std.proofs.lemmas.Bool.{cases_lt}
use Rattle.std.proofs.lemmas.Int.{ints}
use Rattle.ratsnest.specs.declared.anchor.Anchor.{Anchor}
use Rattle.ratsnest.specs.declared.link.Link.{Link}
use Rattle.ratsnest.specs.declared.indexed_anchor.IndexedAnchor.{IndexedAnchor}
use Rattle.ratsnest.specs.NestOf.{anchor_at, group_at, square_of, square_between}
use Rattle.ratsnest.specs.Grow.{rank, link_at}
use Rattle.ratsnest.specs.Forest.{link_between}

gap_back : (a b : ℤ) → unsigned_abs (b -ℤ a) ≡ unsigned_abs (a -ℤ b)
gap_back a b = omega (arith, ints)

square_back : (a b : Anchor) → square_of b a ≡ square_of a b
square_back a b = rw (gap_back a.x b.x, gap_back a.y b.y) refl

pub between_at : (anchors : List Anchor) (s t : IndexedAnchor) → s.anchor ≡ anchor_at anchors s.place → t.anchor ≡ anchor_at anchors t.place →
    link_between s t ≡ link_at anchors s.place t.place
unfolding link_between link_at square_between
between_at anchors s t p q = elim (cases_lt s.place t.place) [
  | inl h ↦
      let lo : min s.place t.place ≡ s.place = omega arith in
      let hi : max s.place t.place ≡ t.place = omega arith in
      rw (lo, hi, p, q) refl
  | inr h ↦
      let lo : min s.place t.place ≡ t.place = omega arith in
      let hi : max s.place t.place ≡ s.place = omega arith in
      let e : square_of s.anchor t.anchor ≡ square_of (anchor_at anchors t.place) (anchor_at anchors s.place) =
      square_back t.anchor s.anchor ∙ ap₂ square_of q p in
      rw (lo, hi, e) refl
]

pub group_is : (anchors : List Anchor) (s : IndexedAnchor) → s.anchor ≡ anchor_at anchors s.place → s.anchor.group ≡ group_at anchors s.place
unfolding group_at
group_is anchors s e = ap (λ (a : Anchor). a.group) e

-- a link that is longer
pub longer_is_more : (best : Link) (s t : IndexedAnchor) (n : ℕ) → n ≡ square_of s.anchor t.anchor → rank best < n * 18446744073709551616 → rank best ≤ rank (link_between s t)
unfolding link_between
longer_is_more best s t n is less = omega (arith, is, less)

-- a link that is longer than the least distance
pub farther_is_more : (best : Link) (s t : IndexedAnchor) (n : ℕ) → n ≤ square_of s.anchor t.anchor → rank best < n * 18446744073709551616 → rank best ≤ rank (link_between s t)
unfolding link_between
farther_is_more best s t n is less = omega (arith, is, less)
