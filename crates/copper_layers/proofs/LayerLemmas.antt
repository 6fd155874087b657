-- Sets of layers: a set lies within another exactly where each of its layers does; the set of one layer; the layers from one
-- to another.
use Rattle.std.proofs.Common.{◌≡◌, ℕ, ◌+◌, ◌-◌, ◌*◌, ◌/◌, ◌%◌, ◌^◌, ◌<◌, ◌≤◌, IsTrue, ◌↔◌, min, max, ◌⊎◌, inl, inr, not, bit_and, bit_or, nat_eq, ◌≢◌, sym, ◌∙◌, ap, subst, arith, zero, suc, rules, ◌==◌}
use Rattle.std.proofs.lemmas.Bool.{cases_eq}
use Rattle.std.proofs.lemmas.Nat.{one_shl, pow_pos, and_le_l}
use Rattle.std.proofs.lemmas.Nat.Bits.{bit_at_and, bit_at_or, bit_at-zero, bit_at-lt, bit_at-trailing_zeros, bit_at-pow_same, bit_at-pow_other, bit_at_mask_inside, bit_at_mask_below, bit_at_mask_above, ones_shr, same_from_bits}
use mir.Syntax.{w32}
use Rattle.std.proofs.Math.Pow.{pow_mono}
use Rattle.std.specs.Int.{bit_at, trailing_zeros}
use Rattle.copper_layers.specs.declared.set.LayerSet.{LayerSet}
use Rattle.copper_layers.specs.Layers.{has_layer, is_within, single_layer, layers_between, union_of}

-- a bit is 0 or 1
bit_at-small : (n i : ℕ) → bit_at n i < 2
bit_at-small n i = omega arith

-- of two numbers with `lesser` as the lesser, the first is 1, and it is the lesser
other_bit : (a b : ℕ) → b < 2 → min a b ≡ a → a ≡ 1 → b ≡ 1
other_bit a b lt h e = grind arith

same_bit : (a b : ℕ) → a < 2 → b < 2 → (a ≡ 1 → b ≡ 1) → min a b ≡ a
same_bit zero b lt k h = grind arith
same_bit (suc a) b lt k h = let e = h (omega arith) in grind arith

test_of : (n layer : ℕ) → IsTrue (bit_at n layer == 1) → bit_at n layer ≡ 1
test_of n layer h = search (rules, h)

test_by : (n layer : ℕ) → bit_at n layer ≡ 1 → IsTrue (bit_at n layer == 1)
test_by n layer h = search (rules, h)

each_of_within : (s t : LayerSet) → bit_and s.bits t.bits ≡ s.bits → (layer : ℕ) → IsTrue (has_layer s layer) → IsTrue (has_layer t layer)
each_of_within s t h layer e =
    test_by t.bits layer (other_bit (bit_at s.bits layer) (bit_at t.bits layer) (bit_at-small t.bits layer)
    (sym (bit_at_and s.bits t.bits layer) ∙ ap (λ n. bit_at n layer) h) (test_of s.bits layer e))

within_of_each : (s t : LayerSet) → ((layer : ℕ) → IsTrue (has_layer s layer) → IsTrue (has_layer t layer)) → bit_and s.bits t.bits ≡ s.bits
within_of_each s t h = same_from_bits (bit_and s.bits t.bits) s.bits
    (λ layer. bit_at_and s.bits t.bits layer
    ∙ same_bit (bit_at s.bits layer) (bit_at t.bits layer) (bit_at-small s.bits layer) (bit_at-small t.bits layer)
    (λ e. test_of t.bits layer (h layer (test_by s.bits layer e))))

pub within_layers : (s t : LayerSet) → (IsTrue (is_within s t) ↔ ((layer : ℕ) → IsTrue (has_layer s layer) → IsTrue (has_layer t layer)))
within_layers s t = (λ h. each_of_within s t (search (rules, h)), λ h. let e = within_of_each s t h in search (rules, e))

-- ---- the set of one layer
pub single_is : (layer : ℕ) → layer < 32 → 1 * 2 ^ layer % 4294967296 ≡ 2 ^ layer
single_is layer lt = one_shl layer 32 lt

has_single : (layer : ℕ) → IsTrue (has_layer (single_layer layer) layer)
has_single layer = test_by (2 ^ layer) layer (bit_at-pow_same layer)

single_alone : (layer other : ℕ) → IsTrue (has_layer (single_layer layer) other) → other ≡ layer
single_alone layer other h = by (cases_eq other layer)
  where
    by : (other ≡ layer) ⊎ (other ≡ layer → ⊥) → other ≡ layer
    by (inl e) = e
    by (inr n) = absurd (omega (arith, test_of (2 ^ layer) other h, bit_at-pow_other layer other n))

pub single_within : (layer : ℕ) (set : LayerSet) → (IsTrue (is_within (single_layer layer) set) ↔ IsTrue (has_layer set layer))
single_within layer set = (
  λ h. (within_layers (single_layer layer) set).0 h layer (has_single layer),
  λ h. (within_layers (single_layer layer) set).1 (λ other e. subst (λ (n : ℕ). IsTrue (has_layer set n)) (sym (single_alone layer other e)) h),
)

-- ---- the layers from one to another
shifted : (high : ℕ) → high < 32 → 4294967295 / 2 ^ (31 - high) ≡ 2 ^ (high + 1) - 1
shifted high lt =
    let places : 32 - (31 - high) ≡ high + 1 = omega arith in
    ones_shr 32 (31 - high) (omega arith) ∙ ap (λ k. 2 ^ k - 1) places

pub mask_fits : (low high : ℕ) → low ≤ high → high < 32 → 1 * 2 ^ low % 4294967296 - 1 ≤ 4294967295 / 2 ^ (31 - high)
mask_fits low high le lt =
    let above : 2 ^ low ≤ 2 ^ (high + 1) = pow_mono (omega arith) in
    omega (arith, single_is low (omega arith), shifted high lt, above)

pub mask_is : (a b low high : ℕ) → low ≡ min a b → high ≡ max a b → a < 32 → b < 32
    → 4294967295 / 2 ^ (31 - high) - (1 * 2 ^ low % 4294967296 - 1) ≡ 2 ^ (max a b + 1) - 2 ^ min a b
mask_is a b low high e f h k =
    let above : 2 ^ low ≤ 2 ^ (high + 1) = pow_mono (omega arith) in
    let same : 4294967295 / 2 ^ (31 - high) - (1 * 2 ^ low % 4294967296 - 1) ≡ 2 ^ (high + 1) - 2 ^ low = omega (arith, single_is low (omega arith), shifted high (omega arith), above, pow_pos low) in
    same ∙ ap (λ n. 2 ^ (n + 1) - 2 ^ low) f ∙ ap (λ n. 2 ^ (max a b + 1) - 2 ^ n) e

both_bits : (a b : ℕ) → min a b ≡ 1 → a < 2 → b < 2 → (a ≡ 1) × (b ≡ 1)
both_bits a b e h k = (omega arith, omega arith)

both_ones : (a b : ℕ) → a ≡ 1 → b ≡ 1 → min a b ≡ 1
both_ones a b h k = omega arith

-- where a place outside has the bit 0, one with the bit 1 is not outside
not_outside : (a b bit : ℕ) → (b < a → bit ≡ 0) → bit ≡ 1 → a ≤ b
not_outside a b bit h e = grind arith

pub between_layers : (s : LayerSet) (a b layer : ℕ) → (IsTrue (has_layer (layers_between s a b) layer) ↔ (IsTrue (has_layer s layer) × (min a b ≤ layer) × (layer ≤ max a b)))
between_layers s a b layer =
    let low : ℕ = min a b in
    let high : ℕ = max a b + 1 in
    let mask : ℕ = 2 ^ high - 2 ^ low in
    let joined : bit_at (bit_and s.bits mask) layer ≡ min (bit_at s.bits layer) (bit_at mask layer) = bit_at_and s.bits mask layer in (
      λ h.
          let both = both_bits (bit_at s.bits layer) (bit_at mask layer) (sym joined ∙ test_of (bit_and s.bits mask) layer h) (bit_at-small s.bits layer) (bit_at-small mask layer) in (
            test_by s.bits layer both.0,
            not_outside low layer _ (bit_at_mask_below low high layer) both.1,
            omega (arith, not_outside layer (max a b) _ (λ lt. bit_at_mask_above low high layer (omega arith)) both.1),
          ),
      λ h. test_by (bit_and s.bits mask) layer (joined ∙ both_ones (bit_at s.bits layer) (bit_at mask layer) (test_of s.bits layer h.0) (bit_at_mask_inside low high layer h.1 (omega (arith, h.2)))),
    )

pub between_within : (s : LayerSet) (a b : ℕ) → IsTrue (is_within (layers_between s a b) s)
between_within s a b = (within_layers (layers_between s a b) s).1 (λ layer h. ((between_layers s a b layer).0 h).0)

-- ---- the layers of either set
either_bit : (a b : ℕ) → a < 2 → b < 2 → max a b ≡ 1 → (a ≡ 1) ⊎ (b ≡ 1)
either_bit zero b h k e = inr (omega arith)
either_bit (suc a) b h k e = inl (omega arith)

first_bit : (a b : ℕ) → a < 2 → b < 2 → a ≡ 1 → max a b ≡ 1
first_bit a b h k e = omega arith

second_bit : (a b : ℕ) → a < 2 → b < 2 → b ≡ 1 → max a b ≡ 1
second_bit a b h k e = omega arith

pub union_layers : (s t : LayerSet) (layer : ℕ) → (IsTrue (has_layer (union_of s t) layer) ↔ (IsTrue (has_layer s layer) ⊎ IsTrue (has_layer t layer)))
union_layers s t layer =
    let joined : bit_at (bit_or s.bits t.bits) layer ≡ max (bit_at s.bits layer) (bit_at t.bits layer) = bit_at_or s.bits t.bits layer in (
      λ h. to (either_bit (bit_at s.bits layer) (bit_at t.bits layer) (bit_at-small s.bits layer) (bit_at-small t.bits layer) (sym joined ∙ test_of (bit_or s.bits t.bits) layer h)),
      λ h. test_by (bit_or s.bits t.bits) layer (joined ∙ from h),
    )
  where
    to : (bit_at s.bits layer ≡ 1) ⊎ (bit_at t.bits layer ≡ 1) → IsTrue (has_layer s layer) ⊎ IsTrue (has_layer t layer)
    to (inl e) = inl (test_by s.bits layer e)
    to (inr e) = inr (test_by t.bits layer e)

    from : IsTrue (has_layer s layer) ⊎ IsTrue (has_layer t layer) → max (bit_at s.bits layer) (bit_at t.bits layer) ≡ 1
    from (inl h) = first_bit (bit_at s.bits layer) (bit_at t.bits layer) (bit_at-small s.bits layer) (bit_at-small t.bits layer) (test_of s.bits layer h)
    from (inr h) = second_bit (bit_at s.bits layer) (bit_at t.bits layer) (bit_at-small s.bits layer) (bit_at-small t.bits layer) (test_of t.bits layer h)

-- ---- two sets share a layer exactly where they share a bit
some_bit : (n : ℕ) → IsTrue (not (nat_eq n 0)) → n ≢ 0
some_bit n h = search (rules, h)

no_bits : (n : ℕ) → n ≢ 0 → IsTrue (not (nat_eq n 0))
no_bits n h = search (rules, h)

pub shared_from : (a b : ℕ) → a < 2 ^ 32 → IsTrue (not (nat_eq (bit_and a b) 0)) → (layer : ℕ) × IsTrue (bit_at a layer == 1) × IsTrue (bit_at b layer == 1)
shared_from a b small h =
    let le = and_le_l a b in
    let more : 0 < bit_and a b = let some = some_bit (bit_and a b) h in omega arith in
    let fits : bit_and a b < 2 ^ 32 = omega arith in
    let layer = trailing_zeros w32 (bit_and a b) in
    let set = (bit_at-trailing_zeros w32 (bit_and a b) more fits).1 in
    let both = both_bits (bit_at a layer) (bit_at b layer) (sym (bit_at_and a b layer) ∙ set) (bit_at-lt a layer) (bit_at-lt b layer) in
    (layer, test_by a layer both.0, test_by b layer both.1)

pub shared_to : (a b layer : ℕ) → IsTrue (bit_at a layer == 1) → IsTrue (bit_at b layer == 1) → IsTrue (not (nat_eq (bit_and a b) 0))
shared_to a b layer h k = no_bits (bit_and a b) (λ e. none (bit_at_and a b layer) (ap (λ n. bit_at n layer) e ∙ bit_at-zero layer))
  where
    none : bit_at (bit_and a b) layer ≡ min (bit_at a layer) (bit_at b layer) → bit_at (bit_and a b) layer ≡ 0 → ⊥
    none both e = let one = both_ones (bit_at a layer) (bit_at b layer) (test_of a layer h) (test_of b layer k) in omega arith
