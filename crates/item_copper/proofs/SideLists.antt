-- The parts of sides, case by case.
use Rattle.std.proofs.Common.{◌≡◌, ◌↔◌, ℕ, ◌<◌, ◌≤◌, ℤ, Bool, true, false, cond, IsTrue, List, [], ◌∷◌, length, get_or, All, Option, None, Some, inl, inr, refl, sym, ap, subst, ◌∙◌}
use Rattle.std.specs.List.{Any, AllWithin, filter}
use Rattle.std.proofs.lemmas.List.Elements.{All-nil, All-cons, All-head, All-tail, AllWithin-upto, All-from_all_within}
use Rattle.geo_seg.specs.Distances.{Meet, IsGap}
use Rattle.one_item.specs.declared.parts.Part.{Part}
use Rattle.one_item.specs.CopperPairs.{SomeMeet}
use Rattle.item_copper.specs.declared.side.SomeParts.{SomeParts}
use Rattle.item_copper.specs.declared.side.SomeParts.TheVariants.{Listed, Single}
use Rattle.item_copper.specs.declared.side.ListedParts.{ListedParts}
use Rattle.item_copper.specs.declared.side.SinglePart.{SinglePart}
use Rattle.item_copper.specs.MeasuredSides.{is_taken, taken, parts_at}
use Rattle.item_copper.proofs.Meeting.{any_here, any_cases, any_none}
use Rattle.item_copper.proofs.Chosen.{some_chosen}
use Rattle.item_copper.proofs.Gaps.{gap_as}

-- ---- which parts a side has
pub taken_is : (layer : Option ℕ) (parts : List Part) → filter (is_taken layer) parts ≡ taken layer parts
taken_is None [] = refl
taken_is None (part ∷ parts) = ap (λ (ps : List Part). part ∷ ps) (taken_is None parts)
taken_is (Some layer) parts = refl

abbrev pub listed_parts : ListedParts → List Part
listed_parts l = filter (is_taken l.layer) l.parts.now

abbrev pub single_part : SinglePart → Part
single_part s = record { layers = s.layers; shape = s.shape.now }

pub of_listed : (side : SomeParts) (l : ListedParts) → side ≡ Listed l → listed_parts l ≡ parts_at side
of_listed side l e = taken_is l.layer l.parts.now ∙ sym (ap parts_at e)

pub of_single : (side : SomeParts) (s : SinglePart) → side ≡ Single s → single_part s ∷ [] ≡ parts_at side
of_single side s e = sym (ap parts_at e)

-- ---- lists of one
pub any_one : {X : Type 0} (P : X → Type 0) (x : X) → Any P (x ∷ []) → P x
any_one P x a = elim (any_cases P x [] a) [
  | inl p ↦ p
  | inr none ↦ absurd (any_none P none)
]

pub of_any : {X : Type 0} (P : X → Type 0) (x : X) (b : Bool) → (IsTrue b ↔ P x) → (IsTrue b ↔ Any P (x ∷ []))
of_any P x b is = (λ t. any_here P x [] (is.0 t), λ a. is.1 (any_one P x a))

pub gap_of_one : {X : Type 0} (K : X → ℤ → Type 0) (x : X) (most gap : ℤ) → IsGap (K x) most gap → IsGap (λ g. All (λ y. K y g) (x ∷ [])) most gap
gap_of_one K x most gap is =
    gap_as (K x) (λ g. All (λ y. K y g) (x ∷ [])) most gap (λ g k. All-cons (λ y. K y g) x [] k (All-nil (λ y. K y g))) (λ g some a. All-head (λ y. K y g) x [] a) is

-- ---- nothing is chosen
pub none_are : {X : Type 0} (test : X → Bool) (xs : List X) → All (λ x. test x ≡ false) xs → filter test xs ≡ []
none_are test [] a = refl
none_are test (x ∷ xs) a = ap (λ (b : Bool). cond b (x ∷ filter test xs) (filter test xs)) (All-head (λ y. test y ≡ false) x xs a) ∙ none_are test xs (All-tail (λ y. test y ≡ false) x xs a)

pub none_up_to : {X : Type 0} (test : X → Bool) (xs : List X) (i : ℕ) → length xs ≤ i → AllWithin (λ x. test x ≡ false) xs 0 i → filter test xs ≡ []
none_up_to test xs i last a = none_are test xs (All-from_all_within (λ x. test x ≡ false) xs (AllWithin-upto (λ x. test x ≡ false) xs 0 i (length xs) last a))

pub not_none : {X : Type 0} (test : X → Bool) (xs : List X) (i : ℕ) (x : X) → i < length xs → x ≡ get_or xs i x → test x ≡ true → filter test xs ≡ [] → ⊥
not_none {X} test xs i x lt e t none =
    let All_are : X → Type 0 = λ y. Unit {0} in
    any_none All_are (subst (λ (ys : List X). Any All_are ys) none (some_chosen All_are test xs i x lt e t tt))

-- ---- two sides
pub meet_is : (own others : List Part) (b : Bool) → (IsTrue b ↔ Any (λ part. Any (λ other. Meet part.shape other.shape) others) own) → (IsTrue b ↔ SomeMeet own others)
meet_is own others b is = (λ t. record { some = is.0 t }, λ m. is.1 m.some)
