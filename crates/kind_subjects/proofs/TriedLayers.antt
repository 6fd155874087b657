-- The layers of a board in their order, and the first of which something holds.
use Rattle.std.proofs.Common.{◌≡◌, ◌⊎◌, inl, inr, refl, sym, ap, subst, ◌∙◌, ℕ, zero, suc, ◌+◌, ◌<◌, ◌≤◌, arith}
use Rattle.copper_layers.specs.declared.set.LayerSet.{LayerSet}
use Rattle.kind_subjects.specs.declared.layer.RowLayer.{RowLayer}
use Rattle.kind_subjects.specs.declared.layer.RowLayer.TheVariants.{Copper, FrontYard, BackYard, Nowhere}
use Rattle.kind_subjects.specs.TriedLayers.{rank, IsTried, IsFirst, HoldsNowhere}

-- each layer of the board has a place of its own
pub same_place : (copper : LayerSet) (x y : RowLayer) → IsTried copper x → IsTried copper y → rank x ≡ rank y → x ≡ y
same_place copper (Copper m) (Copper n) h k e = ap (λ (l : ℕ). Copper l) e
same_place copper (Copper m) FrontYard h k e = let b = h.below in absurd (omega arith)
same_place copper (Copper m) BackYard h k e = let b = h.below in absurd (omega arith)
same_place copper (Copper m) Nowhere h k e = let b = h.below in absurd (omega arith)
same_place copper FrontYard (Copper n) h k e = let b = k.below in absurd (omega arith)
same_place copper FrontYard FrontYard h k e = refl
same_place copper FrontYard BackYard h k e = absurd (omega arith)
same_place copper FrontYard Nowhere h k e = absurd (omega arith)
same_place copper BackYard (Copper n) h k e = let b = k.below in absurd (omega arith)
same_place copper BackYard FrontYard h k e = absurd (omega arith)
same_place copper BackYard BackYard h k e = refl
same_place copper BackYard Nowhere h k e = absurd (omega arith)
same_place copper Nowhere (Copper n) h k e = let b = k.below in absurd (omega arith)
same_place copper Nowhere FrontYard h k e = absurd (omega arith)
same_place copper Nowhere BackYard h k e = absurd (omega arith)
same_place copper Nowhere Nowhere h k e = refl

place_cases : (m n : ℕ) → (m < n) ⊎ ((n < m) ⊎ (m ≡ n))
place_cases m n = grind arith

last_place : (m n : ℕ) → m < n + 1 → (m < n) ⊎ (m ≡ n)
last_place m n h = grind arith

module _ (copper : LayerSet) (P : RowLayer → Type 0) where
  -- there is one first layer
  pub first_once : (x y : RowLayer) → IsFirst copper P x → IsFirst copper P y → x ≡ y
  first_once x y h k = by (place_cases (rank x) (rank y))
    where
      by : (rank x < rank y) ⊎ ((rank y < rank x) ⊎ (rank x ≡ rank y)) → x ≡ y
      by (inl l) = absurd (k.none_before x l h.tried h.holds)
      by (inr (inl l)) = absurd (h.none_before y l k.tried k.holds)
      by (inr (inr e)) = same_place copper x y h.tried k.tried e

  -- P holds of no layer before this place
  pub record NoneBefore (place : ℕ) : Type 0 where
    pub none : (layer : RowLayer) → rank layer < place → IsTried copper layer → ¬ (P layer)

  -- P holds only of layers with places from the one to before the other
  pub record HoldsWithin (from to : ℕ) : Type 0 where
    pub within : (layer : RowLayer) → IsTried copper layer → P layer → (from ≤ rank layer) × (rank layer < to)

  pub none_at_start : (from to : ℕ) → HoldsWithin from to → NoneBefore from
  none_at_start from to w = record { none = λ layer lt is p. let h = (w.within layer is p).0 in omega arith }

  pub none_at_all : (from to : ℕ) → HoldsWithin from to → NoneBefore to → HoldsNowhere copper P
  none_at_all from to w n = record { none = λ layer is p. n.none layer (w.within layer is p).1 is p }

  -- where the range is empty
  pub none_in_none : (from to place : ℕ) → HoldsWithin from to → to ≤ place → NoneBefore place → HoldsNowhere copper P
  none_in_none from to place w le n = record { none = λ layer is p. let h = (w.within layer is p).1 in n.none layer (omega arith) is p }

  -- one place more
  pub none_next : (place : ℕ) → NoneBefore place → ((layer : RowLayer) → rank layer ≡ place → IsTried copper layer → ¬ (P layer)) → NoneBefore (place + 1)
  none_next place n here = record { none = λ layer lt is. by layer is (last_place (rank layer) place lt) }
    where
      by : (layer : RowLayer) → IsTried copper layer → (rank layer < place) ⊎ (rank layer ≡ place) → ¬ (P layer)
      by layer is (inl lt) = n.none layer lt is
      by layer is (inr e) = here layer e is

  -- the layer of this place alone is tried there
  pub none_here : (place : ℕ) (tried : RowLayer) → rank tried ≡ place → IsTried copper tried → ¬ (P tried) → NoneBefore place → NoneBefore (place + 1)
  none_here place tried e is not_there n =
      none_next place n (λ layer f other p. not_there (subst P (same_place copper layer tried other is (f ∙ sym e)) p))

  pub none_untried : (place : ℕ) → ((layer : RowLayer) → rank layer ≡ place → ¬ (IsTried copper layer)) → NoneBefore place → NoneBefore (place + 1)
  none_untried place untried n = none_next place n (λ layer e is p. untried layer e is)

  pub first_here : (place : ℕ) (layer : RowLayer) → rank layer ≡ place → IsTried copper layer → P layer → NoneBefore place → IsFirst copper P layer
  first_here place layer e is p n = record { tried = is; holds = p; none_before = λ earlier lt. n.none earlier (omega arith) }

  -- where no layer is the first of which P holds, it holds of none
  before_none : ((layer : RowLayer) → ¬ (IsFirst copper P layer)) → (place : ℕ) → NoneBefore place
  before_none none zero = record { none = λ layer lt. absurd (omega arith) }
  before_none none (suc place) = let n = none_next place (before_none none place) (λ layer e is p. none layer (first_here place layer e is p (before_none none place))) in more n
    where
      more : NoneBefore (place + 1) → NoneBefore (suc place)
      more n = record { none = λ layer lt. n.none layer (omega arith) }

  pub none_of_no_first : ((layer : RowLayer) → ¬ (IsFirst copper P layer)) → HoldsNowhere copper P
  none_of_no_first none = record { none = λ layer is p. (before_none none (rank layer + 1)).none layer (omega arith) is p }

-- what is tried under the one name of the set is tried under the other
pub tried_in : (s copper : LayerSet) (layer : RowLayer) → s ≡ copper → IsTried s layer → IsTried copper layer
tried_in s copper layer e h = subst (λ (t : LayerSet). IsTried t layer) e h

pub untried_in : (s copper : LayerSet) (place : ℕ) → s ≡ copper → ((layer : RowLayer) → rank layer ≡ place → ¬ (IsTried s layer)) → (layer : RowLayer) → rank layer ≡ place → ¬ (IsTried copper layer)
untried_in s copper place e h layer f is = h layer f (tried_in copper s layer (sym e) is)

pub first_in : (s copper : LayerSet) (P : RowLayer → Type 0) (layer : RowLayer) → s ≡ copper → IsFirst s P layer → IsFirst copper P layer
first_in s copper P layer e h = subst (λ (t : LayerSet). IsFirst t P layer) e h
