-- Copper, or without copper the hole.
use Rattle.std.proofs.Common.{◌≡◌, inl, inr, refl, sym, ℕ, Bool, true, false, cond, List, [], ◌∷◌, length, IsTrue, ◌↔◌, ◌⊎◌, Option, Some, subst, arith}
use Rattle.std.specs.List.{Any, filter}
use Rattle.geo_seg.specs.Distances.{Meet}
use Rattle.one_item.specs.declared.parts.Part.{Part}
use Rattle.one_item.specs.declared.item.Hole.{Hole}
use Rattle.copper_layers.specs.Layers.{has_layer}
use Rattle.one_item.specs.CopperPairs.{PartsMeet, SomeMeet, on_layer}
use Rattle.one_item.specs.ItemParts.{hole_parts}
use Rattle.item_copper.proofs.Meeting.{any_here, any_none, any_cases}
use Rattle.one_item.specs.declared.item.What.{What}
use Rattle.one_item.specs.declared.item.What.TheVariants as what
use Rattle.one_item.specs.declared.item.Item.{Item}
use Rattle.rule_pick.specs.FactsOf.{placed_parts, parts_asked, MeetsOn, MeetsPart, MeetsEither, MeetsCourtyard}

pub without_copper : (copper : List Part) (hole : Option Hole) → length copper ≡ 0 → hole_parts hole ≡ placed_parts copper hole
without_copper [] hole e = refl
without_copper (part ∷ parts) hole e = absurd (omega (arith, e))

pub with_copper : (copper : List Part) (hole : Option Hole) → (length copper ≡ 0 → ⊥) → copper ≡ placed_parts copper hole
with_copper [] hole n = absurd (n refl)
with_copper (part ∷ parts) hole n = refl

-- a list of one
pub the_one : {X : Type 0} (P : X → Type 0) (x : X) → Any P (x ∷ []) → P x
the_one P x a = elim (any_cases P x [] a) [
  | inl p ↦ p
  | inr more ↦ absurd (any_none P more)
]

pub one : {X : Type 0} (P : X → Type 0) (x : X) → P x → Any P (x ∷ [])
one P x p = any_here P x [] p

-- a list of one of which a test chooses some
pub chosen_one : {X : Type 0} (P : X → Type 0) (test : X → Bool) (x : X) → test x ≡ true → P x → Any P (filter test (x ∷ []))
chosen_one P test x e p = by (test x) e
  where
    by : (b : Bool) → b ≡ true → Any P (cond b (x ∷ []) [])
    by true f = one P x p
    by false f = absurd (cc)

pub the_chosen : {X : Type 0} (P : X → Type 0) (test : X → Bool) (x : X) → Any P (filter test (x ∷ [])) → (test x ≡ true) × P x
the_chosen P test x a = by (test x) refl a
  where
    by : (b : Bool) → test x ≡ b → Any P (cond b (x ∷ []) []) → (test x ≡ true) × P x
    by true f a = (f, the_one P x a)
    by false f a = absurd (any_none P a)

-- ---- a hole

pub hole_touches : (hole : Option Hole) (h : Hole) (area : Part) (r : Bool) → hole ≡ Some h → (layer : ℕ) × IsTrue (has_layer h.layers layer) × IsTrue (has_layer area.layers layer) → (IsTrue r ↔ Meet h.shape area.shape)
    → (IsTrue r ↔ Any (λ part. PartsMeet part area) (hole_parts hole))
hole_touches hole h area r is shared meet =
    subst (λ (o : Option Hole). IsTrue r ↔ Any (λ part. PartsMeet part area) (hole_parts o)) (sym is) (
      λ t. one (λ part. PartsMeet part area) (record { layers = h.layers; shape = h.shape }) (record { layer = shared.0; first = shared.1; second = shared.2; meet = meet.0 t }),
      λ a. (let m = the_one (λ part. PartsMeet part area) (record { layers = h.layers; shape = h.shape }) a in meet.1 m.meet),
    )

pub hole_meets : (layer : ℕ) (hole : Option Hole) (h : Hole) (others : List Part) (r : Bool) → hole ≡ Some h → has_layer h.layers layer ≡ true → (IsTrue r ↔ Any (λ other. Meet h.shape other.shape) others)
    → (IsTrue r ↔ SomeMeet (on_layer layer (hole_parts hole)) others)
hole_meets layer hole h others r is has meet =
    subst (λ (o : Option Hole). IsTrue r ↔ SomeMeet (on_layer layer (hole_parts o)) others) (sym is) (
      λ t. record { some = chosen_one (λ (part : Part). Any (λ other. Meet part.shape other.shape) others) (λ (part : Part). has_layer part.layers layer) (record { layers = h.layers; shape = h.shape }) has (meet.0 t) },
      λ m. meet.1 (the_chosen (λ (part : Part). Any (λ other. Meet part.shape other.shape) others) (λ (part : Part). has_layer part.layers layer) (record { layers = h.layers; shape = h.shape }) m.some).1,
    )

-- ---- courtyards on two layers

module _ (item : Item) (front back : List Part) where
  pub first_side : (copper : List Part) (r : Bool) → copper ≡ item.copper → (IsTrue r ↔ SomeMeet (on_layer 0 (placed_parts copper item.hole)) front) → r ≡ true → (IsTrue r ↔ MeetsEither item front back)
  first_side copper r is meets true_r = (λ t. inl (subst (λ (ps : List Part). SomeMeet (on_layer 0 (placed_parts ps item.hole)) front) is (meets.0 t)), λ m. true_r)

  pub second_side : (copper others : List Part) (r s : Bool) → copper ≡ item.copper → others ≡ item.copper → (IsTrue r ↔ SomeMeet (on_layer 0 (placed_parts copper item.hole)) front) → r ≡ false
      → (IsTrue s ↔ SomeMeet (on_layer 31 (placed_parts others item.hole)) back) → (IsTrue s ↔ MeetsEither item front back)
  second_side copper others r s is js first false_r second = (λ t. inr (subst (λ (ps : List Part). SomeMeet (on_layer 31 (placed_parts ps item.hole)) back) js (second.0 t)), λ m. by m)
    where
      not_both : IsTrue r → ⊥
      not_both t = cc

      by : MeetsEither item front back → IsTrue s
      by (inl m) = absurd (not_both (first.1 (subst (λ (ps : List Part). SomeMeet (on_layer 0 (placed_parts ps item.hole)) front) (sym is) m)))
      by (inr m) = second.1 (subst (λ (ps : List Part). SomeMeet (on_layer 31 (placed_parts ps item.hole)) back) (sym js) m)

module _ (item : Item) (w : What) (reference : List ℕ) (front back : List Part) (on_back : Bool) (is : w ≡ what.Body reference front back on_back) (f b : List Part) (same_front : f ≡ front) (same_back : b ≡ back) where
  pub courtyard_found : (name : List ℕ) → name ≡ reference → MeetsEither item f b → MeetsCourtyard item w name
  courtyard_found name named m =
      subst (λ (v : What). MeetsCourtyard item v name) (sym is)
      (named, subst (λ (ps : List Part). MeetsEither item ps back) same_front (subst (λ (ps : List Part). MeetsEither item f ps) same_back m))

  pub no_courtyard : (r : Bool) → (IsTrue r ↔ MeetsEither item f b) → r ≡ false → (name : List ℕ) → ¬ (MeetsCourtyard item w name)
  no_courtyard r meets none name m = not_both (meets.1 (moved (subst (λ (v : What). MeetsCourtyard item v name) is m).1))
    where
      not_both : IsTrue r → ⊥
      not_both t = cc

      moved : MeetsEither item front back → MeetsEither item f b
      moved e = subst (λ (ps : List Part). MeetsEither item f ps) (sym same_back) (subst (λ (ps : List Part). MeetsEither item ps back) (sym same_front) e)

pub no_body : (item : Item) (w : What) → ((reference : List ℕ) (front back : List Part) (on_back : Bool) → w ≡ what.Body reference front back on_back → ⊥) → (name : List ℕ) → ¬ (MeetsCourtyard item w name)
no_body item (what.Body reference front back on_back) none name m = none reference front back on_back refl
no_body item _ none name m = absurd m

-- ---- areas

module _ (item : Item) (area : Part) (w : What) (reference : List ℕ) (front back : List Part) (on_back : Bool) (is : w ≡ what.Body reference front back on_back) where
  pub first_court : (f : List Part) (r : Bool) → f ≡ front → (IsTrue r ↔ MeetsOn 0 f area) → r ≡ true → (IsTrue r ↔ MeetsPart item w area)
  first_court f r same meets true_r =
      subst (λ (v : What). IsTrue r ↔ MeetsPart item v area) (sym is) (λ t. inl (subst (λ (ps : List Part). MeetsOn 0 ps area) same (meets.0 t)), λ m. true_r)

  pub second_court : (f b : List Part) (r s : Bool) → f ≡ front → b ≡ back → (IsTrue r ↔ MeetsOn 0 f area) → r ≡ false → (IsTrue s ↔ MeetsOn 31 b area) → (IsTrue s ↔ MeetsPart item w area)
  second_court f b r s same_front same_back first false_r second =
      subst (λ (v : What). IsTrue s ↔ MeetsPart item v area) (sym is) (λ t. inr (subst (λ (ps : List Part). MeetsOn 31 ps area) same_back (second.0 t)), λ m. by m)
    where
      not_both : IsTrue r → ⊥
      not_both t = cc

      by : MeetsOn 0 front area ⊎ MeetsOn 31 back area → IsTrue s
      by (inl m) = absurd (not_both (first.1 (subst (λ (ps : List Part). MeetsOn 0 ps area) (sym same_front) m)))
      by (inr m) = second.1 (subst (λ (ps : List Part). MeetsOn 31 ps area) (sym same_back) m)

by_parts : (item : Item) (area : Part) (w : What) → ((reference : List ℕ) (front back : List Part) (on_back : Bool) → w ≡ what.Body reference front back on_back → ⊥) → (Any (λ part. PartsMeet part area) (parts_asked item) ↔ MeetsPart item w area)
by_parts item area (what.Body reference front back on_back) none = absurd (none reference front back on_back refl)
by_parts item area _ none = (λ m. m, λ m. m)

pub no_court : (item : Item) (area : Part) (copper : List Part) (r : Bool) → ((reference : List ℕ) (front back : List Part) (on_back : Bool) → item.what ≡ what.Body reference front back on_back → ⊥) → copper ≡ item.copper
    → (IsTrue r ↔ Any (λ part. PartsMeet part area) (placed_parts copper item.hole)) → (IsTrue r ↔ MeetsPart item item.what area)
no_court item area copper r none same meets =
    let parts : (IsTrue r ↔ Any (λ part. PartsMeet part area) (parts_asked item)) = subst (λ (ps : List Part). IsTrue r ↔ Any (λ part. PartsMeet part area) (placed_parts ps item.hole)) same meets in
    let all = by_parts item area item.what none in
    (λ t. all.0 (parts.0 t), λ m. parts.1 (all.1 m))
