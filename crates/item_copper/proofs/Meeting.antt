-- Parts that meet on a layer, from parts that are chosen by the layer and back.
use Rattle.std.proofs.Common.{◌≡◌, ◌⊎◌, ℕ, zero, suc, ◌<◌, ◌≤◌, Bool, true, false, cond, List, [], ◌∷◌, length, get_or, IsTrue, inl, inr, refl, sym, subst, arith}
use Rattle.std.proofs.lemmas.List.{get_or_read}
use Rattle.std.specs.List.{Any, AllWithin, filter}
use Rattle.geo_seg.specs.Distances.{Meet}
use Rattle.one_item.specs.declared.parts.Part.{Part}
use Rattle.one_item.specs.declared.item.Item.{Item}
use Rattle.copper_layers.specs.Layers.{has_layer}
use Rattle.one_item.specs.CopperPairs.{on_layer, PartsMeet, CopperMeets}

pub any_here : {X : Type 0} (P : X → Type 0) (x : X) (xs : List X) → P x → Any P (x ∷ xs)
any_here P x xs p = (0, x, omega arith, refl, p)

pub any_later : {X : Type 0} (P : X → Type 0) (x : X) (xs : List X) → Any P xs → Any P (x ∷ xs)
any_later P x xs a = let lt = a.2 in (suc a.0, a.1, omega arith, a.3, a.4)

pub any_cases : {X : Type 0} (P : X → Type 0) (x : X) (xs : List X) → Any P (x ∷ xs) → P x ⊎ Any P xs
any_cases {X} P x xs a = by_place a.0 a.1 a.2 a.3 a.4
  where
    by_place : (k : ℕ) (y : X) → k < length (x ∷ xs) → get_or (x ∷ xs) k y ≡ y → P y → P x ⊎ Any P xs
    by_place zero y lt e p = inl (subst P (sym e) p)
    by_place (suc k) y lt e p = inr (k, y, omega arith, e, p)

pub any_none : {X : Type 0} (P : X → Type 0) → Any P [] → ⊥
any_none P a = let lt = a.2 in absurd (omega arith)

pub any_weaker : {X : Type 0} (P Q : X → Type 0) → ((x : X) → P x → Q x) → (xs : List X) → Any P xs → Any Q xs
any_weaker P Q on xs a = (a.0, a.1, a.2, a.3, on a.1 a.4)

-- one of the chosen is one of all, and is chosen
pub any_of_chosen : {X : Type 0} (P : X → Type 0) (test : X → Bool) (xs : List X) → Any P (filter test xs) → Any (λ x. IsTrue (test x) × P x) xs
any_of_chosen P test [] a = absurd (any_none P a)
any_of_chosen P test (x ∷ xs) a = by_test (test x) refl (any_of_chosen P test xs) a
  where
    by_test : (b : Bool) → test x ≡ b → (Any P (filter test xs) → Any (λ x. IsTrue (test x) × P x) xs) → Any P (cond b (x ∷ filter test xs) (filter test xs)) → Any (λ x. IsTrue (test x) × P x) (x ∷ xs)
    by_test true e on a = elim (any_cases P x (filter test xs) a) [
      | inl p ↦ any_here (λ x. IsTrue (test x) × P x) x xs (e, p)
      | inr more ↦ any_later (λ x. IsTrue (test x) × P x) x xs (on more)
    ]
    by_test false e on a = any_later (λ x. IsTrue (test x) × P x) x xs (on a)

pub chosen_of_any : {X : Type 0} (P : X → Type 0) (test : X → Bool) (xs : List X) → Any (λ x. IsTrue (test x) × P x) xs → Any P (filter test xs)
chosen_of_any P test [] a = absurd (any_none (λ x. IsTrue (test x) × P x) a)
chosen_of_any P test (x ∷ xs) a = by_test (test x) refl (chosen_of_any P test xs) (any_cases (λ x. IsTrue (test x) × P x) x xs a)
  where
    by_test : (b : Bool) → test x ≡ b → (Any (λ x. IsTrue (test x) × P x) xs → Any P (filter test xs)) → (IsTrue (test x) × P x) ⊎ Any (λ x. IsTrue (test x) × P x) xs
        → Any P (cond b (x ∷ filter test xs) (filter test xs))
    by_test true e on (inl p) = any_here P x (filter test xs) p.1
    by_test true e on (inr more) = any_later P x (filter test xs) (on more)
    by_test false e on (inl p) = let t = p.0 in absurd (cc)
    by_test false e on (inr more) = on more

-- of two items: on some layer exactly where two parts of theirs meet
abbrev pub MeetsSome : List Part → Part → Type 0
MeetsSome others part = Any (λ other. PartsMeet part other) others

pub copper_from : (a b : Item) → Any (MeetsSome b.copper) a.copper → CopperMeets a b
copper_from a b some =
    let m = some.4 in
    let layer = m.4.layer in
    record {
      layer = layer;
      meet = record {
        some = chosen_of_any (λ part. Any (λ other. Meet part.shape other.shape) (on_layer layer b.copper)) (λ part. has_layer part.layers layer) a.copper
            (some.0, some.1, some.2, some.3, (m.4.first, chosen_of_any (λ other. Meet some.1.shape other.shape) (λ other. has_layer other.layers layer) b.copper (m.0, m.1, m.2, m.3, (m.4.second, m.4.meet))));
      };
    }

pub copper_to : (a b : Item) → CopperMeets a b → Any (MeetsSome b.copper) a.copper
copper_to a b c =
    any_weaker (λ part. IsTrue (has_layer part.layers c.layer) × Any (λ other. Meet part.shape other.shape) (on_layer c.layer b.copper)) (MeetsSome b.copper)
    (λ part h. any_weaker (λ other. IsTrue (has_layer other.layers c.layer) × Meet part.shape other.shape) (PartsMeet part)
    (λ other k. record { layer = c.layer; first = h.0; second = k.0; meet = k.1 }) b.copper
    (any_of_chosen (λ other. Meet part.shape other.shape) (λ other. has_layer other.layers c.layer) b.copper h.1)) a.copper
    (any_of_chosen (λ part. Any (λ other. Meet part.shape other.shape) (on_layer c.layer b.copper)) (λ part. has_layer part.layers c.layer) a.copper c.meet.some)

-- none of the first ones, of which there are no more
pub none_within : {X : Type 0} (P : X → Type 0) (xs : List X) (i : ℕ) → length xs ≤ i → AllWithin (λ x. ¬ (P x)) xs 0 i → Any P xs → ⊥
none_within P xs i last a some = a some.0 some.1 (omega arith) (let lt = some.2 in omega arith) (subst P (sym some.3) some.4)

-- one that is read is one of them
pub any_read : {X : Type 0} (P : X → Type 0) (xs : List X) (i : ℕ) (x : X) → i < length xs → x ≡ get_or xs i x → P x → Any P xs
any_read P xs i x lt e p = (i, x, lt, sym e, p)

-- a part of the one list with one of the other, where the lists are the copper of two items
module _ (a b : Item) (parts others : List Part) (first : parts ≡ a.copper) (second : others ≡ b.copper) (i : ℕ) (part : Part) (lt : i < length parts) (is : part ≡ get_or parts i part) where
  pub found : MeetsSome others part → CopperMeets a b
  found m = copper_from a b (subst (λ (ps : List Part). Any (MeetsSome b.copper) ps) first (any_read (MeetsSome b.copper) parts i part lt is (subst (λ (qs : List Part). MeetsSome qs part) second m)))

  pub not_found : ¬ (MeetsSome others part) → (d : Part) → ¬ (MeetsSome b.copper (get_or a.copper i d))
  not_found none d m = none (subst (λ (qs : List Part). MeetsSome qs part) (sym second) (subst (MeetsSome b.copper) (sym (same d)) m))
    where
      same : (d : Part) → part ≡ get_or a.copper i d
      same d = get_or_read a.copper i part (subst (λ (ps : List Part). i < length ps) first lt) (subst (λ (ps : List Part). part ≡ get_or ps i part) first is) d
