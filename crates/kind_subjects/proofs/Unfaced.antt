-- Items of which nothing faces anything.
use mir.Syntax.{w32}
use Rattle.std.proofs.Common.{◌≡◌, ◌⊎◌, inl, inr, refl, sym, subst, ℕ, ℤ, pos, ◌*ℤ◌, Bool, true, false, cond, IsTrue, List, [], ◌∷◌, All, Option, None, Some, zero, suc, ◌∙◌, ap, ◌↔◌, drop, ◌+◌, ◌-◌, ◌^◌, ◌<◌, ◌≤◌, ◌==◌, min, bit_and, get_or, length, arith, rules}
use Rattle.std.specs.Int.{bit_at, trailing_zeros, leading_zeros}
use Rattle.std.specs.Int.Count.{count_leading_zeros}
use Rattle.std.proofs.lemmas.Nat.{leading_top}
use Rattle.std.proofs.lemmas.Nat.Bits.{bit_at_and, bit_at_above, bit_at-zero, bit_at-trailing_zeros}
use Rattle.std.specs.List.{Any, filter}
use Rattle.geo_seg.specs.Distances.{Apart, Meet}
use Rattle.std.proofs.Math.Seq.{drop-cons}
use Rattle.std.proofs.Math.ListN.{drop_of_length-le}
use Rattle.std.proofs.lemmas.List.Elements.{All-nil, All-cons, All-head, All-tail}
use Rattle.copper_layers.specs.declared.set.LayerSet.{LayerSet}
use Rattle.one_item.specs.declared.parts.Part.{Part}
use Rattle.one_item.specs.declared.item.Hole.{Hole}
use Rattle.one_item.specs.declared.item.Item.{Item}
use Rattle.copper_layers.specs.Layers.{has_layer}
use Rattle.one_item.specs.ItemParts.{hole_parts}
use Rattle.one_item.specs.CopperPairs.{on_layer, SomeMeet, Keeps}
use Rattle.cond_lang.specs.declared.kind.Kind.{Kind}
use Rattle.rule_pick.specs.FactsOf.{SomeOn}
use Rattle.item_copper.proofs.Meeting.{any_here, any_later, any_none, any_cases}
use Rattle.kind_subjects.specs.declared.subject.OperandKinds.{OperandKinds}
use Rattle.kind_subjects.specs.declared.subject.OperandKinds.TheVariants.{Coppers, HolesAndCopper, EdgesAndCopper}
use Rattle.kind_subjects.specs.declared.subject.Subject.{Subject}
use Rattle.kind_subjects.specs.declared.layer.RowLayer.{RowLayer}
use Rattle.kind_subjects.specs.declared.layer.RowLayer.TheVariants.{Copper, Nowhere}
use Rattle.kind_subjects.specs.Subjects.{subject_of}
use Rattle.kind_subjects.specs.KindLayers.{IsFacedOn}
use Rattle.kind_subjects.specs.TriedLayers.{rank, IsTried}
use Rattle.kind_subjects.specs.MeasuredPair.{MeasuredPair, measured_pair, faced, measured_pairs_in, measured_pairs, copper_on, hole_on, lines_of, MeetAt, TooNear}
use Rattle.kind_subjects.specs.PairSides.{IsUnfaced, AreFacedWithin, FaceWithin}
use Rattle.kind_subjects.proofs.NearLayers.{operand_kinds_on, not_near}

pub unlike : (b : Bool) → b ≡ false → b ≡ true → ⊥
unlike b e f = cc

-- ---- lists of parts

none_or_some : (test : Part → Bool) (xs : List Part) → (filter test xs ≡ []) ⊎ Any (λ x. IsTrue (test x)) xs
none_or_some test [] = inl refl
none_or_some test (x ∷ xs) = by (test x) refl (none_or_some test xs)
  where
    by : (b : Bool) → test x ≡ b → (filter test xs ≡ []) ⊎ Any (λ x. IsTrue (test x)) xs → (cond b (x ∷ filter test xs) (filter test xs) ≡ []) ⊎ Any (λ x. IsTrue (test x)) (x ∷ xs)
    by true e on = inr (any_here (λ x. IsTrue (test x)) x xs e)
    by false e (inl n) = inl n
    by false e (inr a) = inr (any_later (λ x. IsTrue (test x)) x xs a)

-- only layers of the set have parts of both
pub shared_in : (set : LayerSet) (layer : ℕ) (xs ys : List Part) → (SomeOn layer xs → SomeOn layer ys → IsTrue (has_layer set layer)) → IsUnfaced (measured_pair (on_layer layer xs) (on_layer layer ys)) ⊎ IsTrue (has_layer set layer)
shared_in set layer xs ys both = by (none_or_some (λ part. has_layer part.layers layer) xs) (none_or_some (λ part. has_layer part.layers layer) ys)
  where
    by : (on_layer layer xs ≡ []) ⊎ SomeOn layer xs → (on_layer layer ys ≡ []) ⊎ SomeOn layer ys → IsUnfaced (measured_pair (on_layer layer xs) (on_layer layer ys)) ⊎ IsTrue (has_layer set layer)
    by (inl e) other = inl (inl e)
    by (inr s) (inl e) = inl (inr e)
    by (inr s) (inr t) = inr (both s t)

-- the layers of the hole are those of its part
pub hole_some : (layer : ℕ) (hole : Option Hole) (h : Hole) → hole ≡ Some h → SomeOn layer (hole_parts hole) → IsTrue (has_layer h.layers layer)
hole_some layer hole h e s = on (any_cases (λ part. IsTrue (has_layer part.layers layer)) (record { layers = h.layers; shape = h.shape }) [] (subst (λ o. SomeOn layer (hole_parts o)) e s))
  where
    on : IsTrue (has_layer h.layers layer) ⊎ SomeOn layer [] → IsTrue (has_layer h.layers layer)
    on (inl t) = t
    on (inr n) = absurd (any_none (λ part. IsTrue (has_layer part.layers layer)) n)

pub no_hole : (layer : ℕ) (hole : Option Hole) → hole ≡ None → SomeOn layer (hole_parts hole) → ⊥
no_hole layer None e s = any_none (λ (part : Part). IsTrue (has_layer part.layers layer)) s
no_hole layer (Some h) e s = absurd (cc)

-- ---- the layers of all parts

plus-one : (n : ℕ) → suc n ≡ n + 1
plus-one n = omega arith

pub one_part : (layer : ℕ) (parts : List Part) (i : ℕ) (part : Part) (old new : LayerSet) → i < length parts → part ≡ get_or parts i part → (IsTrue (has_layer new layer) ↔ (IsTrue (has_layer old layer) ⊎ IsTrue (has_layer part.layers layer)))
    → (SomeOn layer parts → IsTrue (has_layer old layer) ⊎ SomeOn layer (drop i parts)) → SomeOn layer parts → IsTrue (has_layer new layer) ⊎ SomeOn layer (drop (i + 1) parts)
one_part layer parts i part old new lt e u h s = to (h s)
  where
    split : drop i parts ≡ part ∷ drop (i + 1) parts
    split = drop-cons parts i part lt ∙ ap (λ (y : Part). y ∷ drop (suc i) parts) (sym e) ∙ ap (λ (j : ℕ). part ∷ drop j parts) (plus-one i)

    here : IsTrue (has_layer part.layers layer) ⊎ SomeOn layer (drop (i + 1) parts) → IsTrue (has_layer new layer) ⊎ SomeOn layer (drop (i + 1) parts)
    here (inl p) = inl (u.1 (inr p))
    here (inr more) = inr more

    to : IsTrue (has_layer old layer) ⊎ SomeOn layer (drop i parts) → IsTrue (has_layer new layer) ⊎ SomeOn layer (drop (i + 1) parts)
    to (inl t) = inl (u.1 (inl t))
    to (inr more) = here (any_cases (λ p. IsTrue (has_layer p.layers layer)) part (drop (i + 1) parts) (subst (λ (l : List Part). SomeOn layer l) split more))

pub all_parts : (layer : ℕ) (parts : List Part) (i : ℕ) (layers : LayerSet) → length parts ≤ i → IsTrue (has_layer layers layer) ⊎ SomeOn layer (drop i parts) → IsTrue (has_layer layers layer)
all_parts layer parts i layers l (inl t) = t
all_parts layer parts i layers l (inr s) = absurd (any_none (λ p. IsTrue (has_layer p.layers layer)) (subst (λ (ps : List Part). SomeOn layer ps) (drop_of_length-le parts {i = i} l) s))

-- ---- measured pairs

unmet : (f : MeasuredPair) → IsUnfaced f → SomeMeet f.own f.others → ⊥
unmet f (inl e) m = any_none (λ (part : Part). Any (λ (other : Part). Meet part.shape other.shape) f.others) (subst (λ (ps : List Part). Any (λ (part : Part). Any (λ (other : Part). Meet part.shape other.shape) f.others) ps) e m.some)
unmet f (inr e) m = let some = m.some in any_none (λ (other : Part). Meet some.1.shape other.shape) (subst (λ (ps : List Part). Any (λ (other : Part). Meet some.1.shape other.shape) ps) e some.4)

kept : (f : MeasuredPair) (v : ℤ) → IsUnfaced f → Keeps f.own f.others v
kept f v (inl e) =
    let Far : Part → Type 0 = λ part. All (λ (other : Part). Apart part.shape other.shape (pos 2 *ℤ v)) f.others in inr (record { each = subst (λ (ps : List Part). All Far ps) (sym e) (All-nil Far) })
kept f v (inr e) = inr (record { each = each })
  where
    each : All (λ (part : Part). All (λ (other : Part). Apart part.shape other.shape (pos 2 *ℤ v)) f.others) f.own
    each k d lt =
        let Far : Part → Type 0 = λ other. Apart (get_or f.own k d).shape other.shape (pos 2 *ℤ v) in subst (λ (ps : List Part). All Far ps) (sym e) (All-nil Far)

none_meet : (fs : List MeasuredPair) → All IsUnfaced fs → Any (λ (f : MeasuredPair). SomeMeet f.own f.others) fs → ⊥
none_meet [] u m = any_none (λ (f : MeasuredPair). SomeMeet f.own f.others) m
none_meet (f ∷ fs) u m = by (none_meet fs (All-tail IsUnfaced f fs u)) (any_cases (λ (f : MeasuredPair). SomeMeet f.own f.others) f fs m)
  where
    by : (Any (λ (f : MeasuredPair). SomeMeet f.own f.others) fs → ⊥) → SomeMeet f.own f.others ⊎ Any (λ (f : MeasuredPair). SomeMeet f.own f.others) fs → ⊥
    by later (inl here) = unmet f (All-head IsUnfaced f fs u) here
    by later (inr more) = later more

all_keep : (fs : List MeasuredPair) (v : ℤ) → All IsUnfaced fs → All (λ (f : MeasuredPair). Keeps f.own f.others v) fs
all_keep [] v u = All-nil (λ (f : MeasuredPair). Keeps f.own f.others v)
all_keep (f ∷ fs) v u = All-cons (λ (f : MeasuredPair). Keeps f.own f.others v) f fs (kept f v (All-head IsUnfaced f fs u)) (all_keep fs v (All-tail IsUnfaced f fs u))

-- what faces nothing does not meet, and is not too near
pub meet_within : (kind : Kind) (a b : Item) (from to : ℕ) (layer : RowLayer) → FaceWithin kind a b from to layer → MeetAt kind layer a b → (from ≤ rank layer) × (rank layer < to)
meet_within kind a b from to layer (inl far) m = absurd (none_meet (measured_pairs kind layer a b) far m)
meet_within kind a b from to layer (inr w) m = w

pub near_within : (kind : Kind) (a b : Item) (v : ℤ) (from to : ℕ) (layer : RowLayer) → FaceWithin kind a b from to layer → TooNear kind layer a b v → (from ≤ rank layer) × (rank layer < to)
near_within kind a b v from to layer (inl far) n = absurd (not_near kind layer a b v (all_keep (measured_pairs kind layer a b) v far) (λ e m. none_meet (measured_pairs kind layer a b) far m) n)
near_within kind a b v from to layer (inr w) n = w

-- ---- kinds

abbrev CopperIn : LayerSet → Item → Item → Type 0
CopperIn set a b = (layer : ℕ) → IsUnfaced (measured_pair (copper_on layer a) (copper_on layer b)) ⊎ IsTrue (has_layer set layer)

abbrev HoleIn : LayerSet → Item → Item → Type 0
HoleIn set a b = (layer : ℕ) → IsUnfaced (measured_pair (hole_on layer a) (copper_on layer b)) ⊎ IsTrue (has_layer set layer)

-- the layers of the set have places from the one to before the other
abbrev PlacesFrom : LayerSet → ℕ → ℕ → Type 0
PlacesFrom set from to = (layer : ℕ) → IsTrue (has_layer set layer) → (from ≤ layer) × (layer < to)

one : (f : MeasuredPair) → IsUnfaced f → All IsUnfaced (f ∷ [])
one f u = All-cons IsUnfaced f [] u (All-nil IsUnfaced)

two : (f g : MeasuredPair) → IsUnfaced f → IsUnfaced g → All IsUnfaced (f ∷ g ∷ [])
two f g u v = All-cons IsUnfaced f (g ∷ []) u (one g v)

module _ (set : LayerSet) (a b : Item) (from to : ℕ) (places : PlacesFrom set from to) where
  one_within : (f : MeasuredPair) (layer : ℕ) → IsUnfaced f ⊎ IsTrue (has_layer set layer) → All IsUnfaced (f ∷ []) ⊎ ((from ≤ layer) × (layer < to))
  one_within f layer (inl u) = inl (one f u)
  one_within f layer (inr h) = inr (places layer h)

  two_within : (f g : MeasuredPair) (layer : ℕ) → IsUnfaced f ⊎ IsTrue (has_layer set layer) → IsUnfaced g ⊎ IsTrue (has_layer set layer) → All IsUnfaced (f ∷ g ∷ []) ⊎ ((from ≤ layer) × (layer < to))
  two_within f g layer (inl u) (inl v) = inl (two f g u v)
  two_within f g layer (inr h) w = inr (places layer h)
  two_within f g layer u (inr h) = inr (places layer h)

  pub copper_within : CopperIn set a b → (layer : RowLayer) → AreFacedWithin (faced Coppers layer a b) from to layer
  copper_within each (Copper layer) = one_within _ layer (each layer)
  copper_within each _ = inl (All-nil IsUnfaced)

  pub hole_within : HoleIn set a b → HoleIn set b a → (layer : RowLayer) → AreFacedWithin (faced HolesAndCopper layer a b) from to layer
  hole_within there back (Copper layer) = two_within _ _ layer (there layer) (back layer)
  hole_within there back _ = inl (All-nil IsUnfaced)

pub edge_within : (a b : Item) (from to : ℕ) → lines_of a.what ≡ [] → lines_of b.what ≡ [] → (layer : RowLayer) → AreFacedWithin (faced EdgesAndCopper layer a b) from to layer
edge_within a b from to e f (Copper layer) = inl (two _ _ (inl e) (inl f))
edge_within a b from to e f Nowhere = inl (two _ _ (inl e) (inl f))
edge_within a b from to e f _ = inl (All-nil IsUnfaced)

-- parts that face each other have their places
pub operand_kinds_within : (operand_kinds : OperandKinds) (a b : Item) (from to : ℕ) → ((layer : RowLayer) → IsFacedOn operand_kinds layer → (from ≤ rank layer) × (rank layer < to)) → (copper : LayerSet) (layer : RowLayer) → IsTried copper layer
    → AreFacedWithin (faced operand_kinds layer a b) from to layer
operand_kinds_within operand_kinds a b from to places copper layer is = by (operand_kinds_on copper operand_kinds layer a b is)
  where
    by : IsFacedOn operand_kinds layer ⊎ (faced operand_kinds layer a b ≡ []) → AreFacedWithin (faced operand_kinds layer a b) from to layer
    by (inl l) = inr (places layer l)
    by (inr e) = inl (subst (λ (fs : List MeasuredPair). All IsUnfaced fs) (sym e) (All-nil IsUnfaced))

-- what a kind faces
pub kind_within : (kind : Kind) (subject : Subject) (a b : Item) (from to : ℕ) (layer : RowLayer) → subject_of kind ≡ subject → AreFacedWithin (measured_pairs_in subject layer a b) from to layer → FaceWithin kind a b from to layer
unfolding measured_pairs
kind_within kind subject a b from to layer e h = subst (λ (s : Subject). AreFacedWithin (measured_pairs_in s layer a b) from to layer) (sym e) h

-- ---- sets of layers

set_bit : (n layer : ℕ) → IsTrue (bit_at n layer == 1) → bit_at n layer ≡ 1
set_bit n layer h = search (rules, h)

bit_set : (n layer : ℕ) → bit_at n layer ≡ 1 → IsTrue (bit_at n layer == 1)
bit_set n layer h = search (rules, h)

both_set : (a b : ℕ) → a ≡ 1 → b ≡ 1 → min a b ≡ 1
both_set a b h k = omega arith

pub in_both : (a b layer : ℕ) → IsTrue (bit_at a layer == 1) → IsTrue (bit_at b layer == 1) → IsTrue (bit_at (bit_and a b) layer == 1)
in_both a b layer h k = bit_set (bit_and a b) layer (bit_at_and a b layer ∙ both_set (bit_at a layer) (bit_at b layer) (set_bit a layer h) (set_bit b layer k))

not_outside : (a b bit : ℕ) → (b < a → bit ≡ 0) → bit ≡ 1 → a ≤ b
not_outside a b bit h e = grind arith

some_of : (n layer : ℕ) → bit_at n layer ≡ 1 → 0 < n
some_of zero layer e = absurd (omega (arith, e, bit_at-zero layer))
some_of (suc n) layer e = omega arith

pub place_in : (n layer : ℕ) → n < 2 ^ 32 → IsTrue (bit_at n layer == 1) → (trailing_zeros w32 n ≤ layer) × (layer < 32 - leading_zeros w32 n)
place_in n layer fits h = (not_outside (trailing_zeros w32 n) layer (bit_at n layer) (λ lt. (bit_at-trailing_zeros w32 n some fits).2 layer lt) bit, last (leading_top 32 n some fits))
  where
    bit : bit_at n layer ≡ 1
    bit = set_bit n layer h

    some : 0 < n
    some = some_of n layer bit

    last : (j : ℕ) × (count_leading_zeros 32 n + suc j ≡ 32) × (2 ^ j ≤ n) × (n < 2 ^ suc j) → layer < 32 - leading_zeros w32 n
    last top =
        let outside : suc layer ≤ suc top.0 = not_outside (suc layer) (suc top.0) (bit_at n layer) (λ lt. bit_at_above n (suc top.0) layer top.3 (omega (arith, lt))) bit in
        let places = top.1 in
        omega (arith, outside, places)
