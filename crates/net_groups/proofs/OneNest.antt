-- Anchors have one nest.
use Rattle.std.proofs.Common.{◌≡◌, ◌⊎◌, inl, inr, sym, List, arith}
use Rattle.ratsnest.specs.declared.anchor.Anchor.{Anchor}
use Rattle.ratsnest.specs.declared.link.Link.{Link}
use Rattle.ratsnest.specs.NestOf.{IsBefore, Precedes, IsNest, anchor_at}
use Rattle.board_index.proofs.OneList.{same_lists}
use Rattle.net_groups.proofs.AnchorLists.{both_before}

-- no anchor comes before one with its id and number
not_level : (a b : Anchor) → IsBefore a b → a.id ≡ b.id → a.number ≡ b.number → ⊥
not_level a b (inl h) i n = omega arith
not_level a b (inr h) i n = let p = h.1 in omega arith

ends_once : (a b x y : Anchor) → IsBefore a b ⊎ ((a.id ≡ b.id) × (a.number ≡ b.number) × IsBefore x y) → IsBefore b a ⊎ ((b.id ≡ a.id) × (b.number ≡ a.number) × IsBefore y x) → ⊥
ends_once a b x y (inl f) (inl g) = both_before a b f g
ends_once a b x y (inl f) (inr g) = not_level a b f (sym g.0) (sym g.1)
ends_once a b x y (inr f) (inl g) = not_level b a g (sym f.0) (sym f.1)
ends_once a b x y (inr f) (inr g) = both_before x y f.2 g.2

module _ (anchors : List Anchor) where
  precedes_once : (l m : Link) → Precedes anchors l m → Precedes anchors m l → ⊥
  precedes_once l m (inl h) (inl k) = omega arith
  precedes_once l m (inl h) (inr k) = let p = k.0 in omega arith
  precedes_once l m (inr h) (inl k) = let p = h.0 in omega arith
  precedes_once l m (inr h) (inr k) =
      ends_once (anchor_at anchors l.first) (anchor_at anchors m.first) (anchor_at anchors l.second) (anchor_at anchors m.second) h.1 k.1

  pub one_nest : (ls ms : List Link) → IsNest anchors ls → IsNest anchors ms → ls ≡ ms
  one_nest ls ms h k =
      same_lists (Precedes anchors) precedes_once ls ms h.ascending k.ascending (λ l c. k.whole l (h.sound l c)) (λ l c. h.whole l (k.sound l c))
