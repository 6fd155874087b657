-- Layers on which some parts lie, part by part.
use Rattle.std.proofs.Common.{◌≡◌, refl, Bool, sym, ap, subst, ◌∙◌, ◌⊎◌, inl, inr, ℕ, suc, ◌+◌, ◌^◌, ◌<◌, ◌≤◌, ◌==◌, List, ◌∷◌, length, get_or, drop, IsTrue, ◌↔◌, arith, rules}
use Rattle.std.specs.Int.{bit_at}
use Rattle.std.proofs.Math.Seq.{drop-cons}
use Rattle.std.proofs.Math.ListN.{drop_of_length-le}
use Rattle.std.proofs.lemmas.Bool.{cases_eq}
use Rattle.std.proofs.lemmas.Nat.Bits.{bit_at-zero, bit_at-pow_same, bit_at-pow_other}
use Rattle.copper_layers.specs.declared.set.LayerSet.{LayerSet}
use Rattle.one_item.specs.declared.parts.Part.{Part}
use Rattle.copper_layers.specs.Layers.{has_layer, single_layer}
use Rattle.item_copper.proofs.Meeting.{any_here, any_later, any_none, any_cases}
use Rattle.one_item.specs.declared.item.Bans.{Bans}
use Rattle.one_item.specs.declared.item.What.{What}
use Rattle.one_item.specs.declared.item.What.TheVariants as what
use Rattle.one_item.specs.declared.item.Item.{Item}
use Rattle.rule_pick.specs.FactsOf.{SomeOn, LiesOn, AreLayersOf}

plus-one : (n : ℕ) → suc n ≡ n + 1
plus-one n = omega arith

test_of : (n layer : ℕ) → IsTrue (bit_at n layer == 1) → bit_at n layer ≡ 1
test_of n layer h = search (rules, h)

test_by : (n layer : ℕ) → bit_at n layer ≡ 1 → IsTrue (bit_at n layer == 1)
test_by n layer h = search (rules, h)

pub single : (layer other : ℕ) → (IsTrue (has_layer (single_layer layer) other) ↔ (other ≡ layer))
single layer other = (λ h. alone (cases_eq other layer) h, λ e. subst (λ (n : ℕ). IsTrue (has_layer (single_layer layer) n)) (sym e) (test_by (2 ^ layer) layer (bit_at-pow_same layer)))
  where
    alone : (other ≡ layer) ⊎ (other ≡ layer → ⊥) → IsTrue (has_layer (single_layer layer) other) → other ≡ layer
    alone (inl e) h = e
    alone (inr n) h = absurd (omega (arith, test_of (2 ^ layer) other h, bit_at-pow_other layer other n))

empty : (layer : ℕ) → IsTrue (has_layer (record { bits = 0 }) layer) → ⊥
empty layer h = omega (arith, test_of 0 layer h, bit_at-zero layer)

abbrev On : ℕ → Part → Type 0
On layer part = IsTrue (has_layer part.layers layer)

pub at_start : (layer : ℕ) (parts : List Part) → (SomeOn layer parts ↔ (IsTrue (has_layer (record { bits = 0 }) layer) ⊎ SomeOn layer parts))
at_start layer parts = (λ s. inr s, back)
  where
    back : IsTrue (has_layer (record { bits = 0 }) layer) ⊎ SomeOn layer parts → SomeOn layer parts
    back (inl t) = absurd (empty layer t)
    back (inr s) = s

pub step : (layer : ℕ) (parts : List Part) (i : ℕ) (part : Part) (old new : LayerSet) → i < length parts → part ≡ get_or parts i part → (IsTrue (has_layer new layer) ↔ (IsTrue (has_layer old layer) ⊎ IsTrue (has_layer part.layers layer))) → (SomeOn layer parts ↔ (IsTrue (has_layer old layer) ⊎ SomeOn layer (drop i parts))) → (SomeOn layer parts ↔ (IsTrue (has_layer new layer) ⊎ SomeOn layer (drop (i + 1) parts)))
step layer parts i part old new lt e u h = (λ s. to (h.0 s), λ k. h.1 (from k))
  where
    split : drop i parts ≡ part ∷ drop (i + 1) parts
    split = drop-cons parts i part lt ∙ ap (λ (y : Part). y ∷ drop (suc i) parts) (sym e) ∙ ap (λ (j : ℕ). part ∷ drop j parts) (plus-one i)

    here : On layer part ⊎ SomeOn layer (drop (i + 1) parts) → IsTrue (has_layer new layer) ⊎ SomeOn layer (drop (i + 1) parts)
    here (inl p) = inl (u.1 (inr p))
    here (inr more) = inr more

    to : IsTrue (has_layer old layer) ⊎ SomeOn layer (drop i parts) → IsTrue (has_layer new layer) ⊎ SomeOn layer (drop (i + 1) parts)
    to (inl t) = inl (u.1 (inl t))
    to (inr s) = here (any_cases (On layer) part (drop (i + 1) parts) (subst (λ (l : List Part). SomeOn layer l) split s))

    either : IsTrue (has_layer old layer) ⊎ IsTrue (has_layer part.layers layer) → IsTrue (has_layer old layer) ⊎ SomeOn layer (drop i parts)
    either (inl o) = inl o
    either (inr p) = inr (subst (λ (l : List Part). SomeOn layer l) (sym split) (any_here (On layer) part (drop (i + 1) parts) p))

    from : IsTrue (has_layer new layer) ⊎ SomeOn layer (drop (i + 1) parts) → IsTrue (has_layer old layer) ⊎ SomeOn layer (drop i parts)
    from (inl t) = either (u.0 t)
    from (inr more) = inr (subst (λ (l : List Part). SomeOn layer l) (sym split) (any_later (On layer) part (drop (i + 1) parts) more))

pub at_end : (layer : ℕ) (parts : List Part) (i : ℕ) (layers : LayerSet) → length parts ≤ i → (SomeOn layer parts ↔ (IsTrue (has_layer layers layer) ⊎ SomeOn layer (drop i parts))) → (IsTrue (has_layer layers layer) ↔ SomeOn layer parts)
at_end layer parts i layers l h = (λ t. h.1 (inl t), λ s. out (h.0 s))
  where
    out : IsTrue (has_layer layers layer) ⊎ SomeOn layer (drop i parts) → IsTrue (has_layer layers layer)
    out (inl t) = t
    out (inr s) = absurd (any_none (On layer) (subst (λ (ps : List Part). SomeOn layer ps) (drop_of_length-le parts {i = i} l) s))

-- ---- an item that is neither an area nor a body

on_copper : (item : Item) (w : What) → ((title : List ℕ) (bans : Bans) (shape : Part) → w ≡ what.Area title bans shape → ⊥) → ((reference : List ℕ) (front back : List Part) (on_back : Bool) → w ≡ what.Body reference front back on_back → ⊥)
    → (layer : ℕ) → (SomeOn layer item.copper ↔ LiesOn item w layer)
on_copper item (what.Area title bans shape) no_area none layer = absurd (no_area title bans shape refl)
on_copper item (what.Body reference front back on_back) no_area none layer = absurd (none reference front back on_back refl)
on_copper item _ no_area none layer = (λ s. s, λ s. s)

pub layers_of_copper : (item : Item) (copper : List Part) (layers : LayerSet) → ((title : List ℕ) (bans : Bans) (shape : Part) → item.what ≡ what.Area title bans shape → ⊥)
    → ((reference : List ℕ) (front back : List Part) (on_back : Bool) → item.what ≡ what.Body reference front back on_back → ⊥) → copper ≡ item.copper → ((layer : ℕ) → (IsTrue (has_layer layers layer) ↔ SomeOn layer copper)) → AreLayersOf item layers
layers_of_copper item copper layers no_area none same each = record { each = by }
  where
    by : (layer : ℕ) → (IsTrue (has_layer layers layer) ↔ LiesOn item item.what layer)
    by layer =
        let some : (IsTrue (has_layer layers layer) ↔ SomeOn layer item.copper) = subst (λ (ps : List Part). IsTrue (has_layer layers layer) ↔ SomeOn layer ps) same (each layer) in
        let all = on_copper item item.what no_area none layer in
        (λ t. all.0 (some.0 t), λ l. some.1 (all.1 l))
