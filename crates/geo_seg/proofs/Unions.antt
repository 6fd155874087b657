-- The least box that holds two others.
use Rattle.std.proofs.Common.{◌≡◌, ℤ, neg_ℤ, ◌≤ℤ◌, inl, inr, arith, sym, ◌∙◌, ap, subst}
use Rattle.std.proofs.lemmas.Int.{ints, by_lt_z}
use Rattle.int_algebra.proofs.Order.{le_refl, le_trans, lt-le}
use Rattle.int_algebra.proofs.Extremes.{IsLesser, IsGreater, lesser_least, greater_most}
use Rattle.geo_seg.specs.declared.boxes.Bounds.{Bounds}
use Rattle.geo_seg.specs.Boxes.{FitsWithin, IsPartOf, IsUnion, widened}

pub part_refl : (b : Bounds) → IsPartOf b b
part_refl b = record { left = le_refl b.left; top = le_refl b.top; right = le_refl b.right; bottom = le_refl b.bottom }

pub part_trans : (a b c : Bounds) → IsPartOf a b → IsPartOf b c → IsPartOf a c
part_trans a b c h k = record {
  left = le_trans c.left b.left a.left k.left h.left;
  top = le_trans c.top b.top a.top k.top h.top;
  right = le_trans a.right b.right c.right h.right k.right;
  bottom = le_trans a.bottom b.bottom c.bottom h.bottom k.bottom;
}

pub widened_part : (a b : Bounds) (r : ℤ) → IsPartOf a b → IsPartOf (widened a r) (widened b r)
widened_part a b r h = record {
  left = omega (arith, ints, h.left);
  top = omega (arith, ints, h.top);
  right = omega (arith, ints, h.right);
  bottom = omega (arith, ints, h.bottom);
}

-- ---- its sides
pub record AreSides (b c r : Bounds) : Type 0 where
  pub left : IsLesser b.left c.left r.left
  pub top : IsLesser b.top c.top r.top
  pub right : IsGreater b.right c.right r.right
  pub bottom : IsGreater b.bottom c.bottom r.bottom

pub union_of_sides : (b c r : Bounds) → AreSides b c r → IsUnion b c r
union_of_sides b c r s = record {
  first = record { left = s.left.first; top = s.top.first; right = s.right.first; bottom = s.bottom.first };
  second = record { left = s.left.second; top = s.top.second; right = s.right.second; bottom = s.bottom.second };
  least = λ o h k. record {
    left = lesser_least b.left c.left r.left o.left s.left h.left k.left;
    top = lesser_least b.top c.top r.top o.top s.top h.top k.top;
    right = greater_most b.right c.right r.right o.right s.right h.right k.right;
    bottom = greater_most b.bottom c.bottom r.bottom o.bottom s.bottom h.bottom k.bottom;
  };
}

-- each side of the union is one of the two
lesser_of : (u v r : ℤ) → r ≤ℤ u → r ≤ℤ v → (u ≤ℤ v → u ≤ℤ r) → (v ≤ℤ u → v ≤ℤ r) → IsLesser u v r
lesser_of u v r h k f g = record { first = h; second = k; either = by_lt_z u v (λ l. inl (equal r u h (f (lt-le u v l)))) (λ l. inr (equal r v k (g l))) }
  where
    equal : (a b : ℤ) → a ≤ℤ b → b ≤ℤ a → a ≡ b
    equal a b h k = omega (arith, ints)

greater_of : (u v r : ℤ) → u ≤ℤ r → v ≤ℤ r → (u ≤ℤ v → r ≤ℤ v) → (v ≤ℤ u → r ≤ℤ u) → IsGreater u v r
greater_of u v r h k f g = record { first = h; second = k; either = by_lt_z u v (λ l. inr (equal r v (f (lt-le u v l)) k)) (λ l. inl (equal r u (g l) h)) }
  where
    equal : (a b : ℤ) → a ≤ℤ b → b ≤ℤ a → a ≡ b
    equal a b h k = omega (arith, ints)

pub sides_of_union : (b c r : Bounds) → IsUnion b c r → AreSides b c r
sides_of_union b c r u =
    let f = u.first in let s = u.second in
    record {
      left = lesser_of b.left c.left r.left f.left s.left
          (λ h. (u.least (record r { left = b.left }) (record { left = le_refl b.left; top = f.top; right = f.right; bottom = f.bottom }) (record { left = h; top = s.top; right = s.right; bottom = s.bottom })).left)
          (λ h. (u.least (record r { left = c.left }) (record { left = h; top = f.top; right = f.right; bottom = f.bottom }) (record { left = le_refl c.left; top = s.top; right = s.right; bottom = s.bottom })).left);
      top = lesser_of b.top c.top r.top f.top s.top
          (λ h. (u.least (record r { top = b.top }) (record { left = f.left; top = le_refl b.top; right = f.right; bottom = f.bottom }) (record { left = s.left; top = h; right = s.right; bottom = s.bottom })).top)
          (λ h. (u.least (record r { top = c.top }) (record { left = f.left; top = h; right = f.right; bottom = f.bottom }) (record { left = s.left; top = le_refl c.top; right = s.right; bottom = s.bottom })).top);
      right = greater_of b.right c.right r.right f.right s.right
          (λ h. (u.least (record r { right = c.right }) (record { left = f.left; top = f.top; right = h; bottom = f.bottom }) (record { left = s.left; top = s.top; right = le_refl c.right; bottom = s.bottom })).right)
          (λ h. (u.least (record r { right = b.right }) (record { left = f.left; top = f.top; right = le_refl b.right; bottom = f.bottom }) (record { left = s.left; top = s.top; right = h; bottom = s.bottom })).right);
      bottom = greater_of b.bottom c.bottom r.bottom f.bottom s.bottom
          (λ h. (u.least (record r { bottom = c.bottom }) (record { left = f.left; top = f.top; right = f.right; bottom = h }) (record { left = s.left; top = s.top; right = s.right; bottom = le_refl c.bottom })).bottom)
          (λ h. (u.least (record r { bottom = b.bottom }) (record { left = f.left; top = f.top; right = f.right; bottom = le_refl b.bottom }) (record { left = s.left; top = s.top; right = s.right; bottom = h })).bottom);
    }

pub union_fits : (limit : ℤ) (b c r : Bounds) → FitsWithin limit b → FitsWithin limit c → AreSides b c r → FitsWithin limit r
union_fits limit b c r f g s = record {
  wide = le_trans r.left b.left r.right s.left.first (le_trans b.left b.right r.right f.wide s.right.first);
  high = le_trans r.top b.top r.bottom s.top.first (le_trans b.top b.bottom r.bottom f.high s.bottom.first);
  left = lesser_least b.left c.left r.left (neg_ℤ limit) s.left f.left g.left;
  top = lesser_least b.top c.top r.top (neg_ℤ limit) s.top f.top g.top;
  right = greater_most b.right c.right r.right limit s.right f.right g.right;
  bottom = greater_most b.bottom c.bottom r.bottom limit s.bottom f.bottom g.bottom;
}

-- the first box, made to reach as far as the second on one side after the other
pub sides_are : (b c l r t m : Bounds)
    → IsLesser b.left c.left l.left → l ≡ record b { left = l.left }
    → IsGreater l.right c.right r.right → r ≡ record l { right = r.right }
    → IsLesser r.top c.top t.top → t ≡ record r { top = t.top }
    → IsGreater t.bottom c.bottom m.bottom → m ≡ record t { bottom = m.bottom }
    → AreSides b c m
sides_are b c l r t m left of_l right of_r top of_t bottom of_m = record {
  left = subst (λ (z : ℤ). IsLesser b.left c.left z) (sym (ap (λ z. z.left) of_m ∙ ap (λ z. z.left) of_t ∙ ap (λ z. z.left) of_r)) left;
  top = subst (λ (z : ℤ). IsLesser b.top c.top z) (sym (ap (λ z. z.top) of_m)) (subst (λ (z : ℤ). IsLesser z c.top t.top) (ap (λ z. z.top) of_r ∙ ap (λ z. z.top) of_l) top);
  right = subst (λ (z : ℤ). IsGreater b.right c.right z) (sym (ap (λ z. z.right) of_m ∙ ap (λ z. z.right) of_t)) (subst (λ (z : ℤ). IsGreater z c.right r.right) (ap (λ z. z.right) of_l) right);
  bottom = subst (λ (z : ℤ). IsGreater z c.bottom m.bottom) (ap (λ z. z.bottom) of_t ∙ ap (λ z. z.bottom) of_r ∙ ap (λ z. z.bottom) of_l) bottom;
}
