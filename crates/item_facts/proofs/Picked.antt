-- Names that some of the items give, where the others give none.
use Rattle.std.proofs.Common.{◌≡◌, ◌≢◌, refl, sym, ap, subst, ◌∙◌, ◌⊎◌, inl, inr, ℕ, zero, suc, ◌+◌, ◌<◌, ◌≤◌, List, [], ◌∷◌, length, get_or, drop, Contains, Option, None, Some, arith}
use Rattle.std.proofs.Math.Seq.{drop-cons}
use Rattle.std.proofs.Math.ListN.{drop_of_length-le}
use Rattle.std.proofs.lemmas.Bool.{cases_order}
use Rattle.one_item.specs.declared.item.Item.{Item}
use Rattle.one_item.specs.declared.item.What.{What}
use Rattle.board_items.specs.Boards.{Rise, item_at}
use Rattle.rule_pick.specs.FactsOf.{AreNamesOf}
use Rattle.item_facts.specs.NearItems.{DoRise, entry_if, picked}
use Rattle.item_facts.proofs.LeftItems.{none_below, at_head, past_head}
use Rattle.item_facts.proofs.NearIds.{lower}

contains_cases : (x : ℕ) (xs : List ℕ) (y : ℕ) → Contains (x ∷ xs) y → (x ≡ y) ⊎ Contains xs y
contains_cases x xs y c = by_place c.0 c.1 c.2
  where
    by_place : (k : ℕ) → k < length (x ∷ xs) → get_or (x ∷ xs) k y ≡ y → (x ≡ y) ⊎ Contains xs y
    by_place zero lt e = inl e
    by_place (suc k) lt e = inr (k, omega arith, e)

-- an id that is in the list is not below its first
not_under : (low : ℕ) (ids : List ℕ) → DoRise low ids → (id : ℕ) → Contains ids id → low ≤ id
not_under low [] h id c = let lt = c.1 in absurd (omega arith)
not_under low (x ∷ ids) h id c = elim (contains_cases x ids id c) [
  | inl same ↦ omega (arith, h.0, same)
  | inr later ↦ let le = not_under (x + 1) ids h.1 id later in omega (arith, h.0)
]

-- ids above the head are sought behind it
picked_behind : (entry : ℕ × Item) (items : List (ℕ × Item)) (ids : List ℕ) → DoRise (entry.0 + 1) ids → picked (entry ∷ items) ids ≡ picked items ids
picked_behind entry items [] h = refl
picked_behind entry items (id ∷ ids) h =
    let above = h.0 in
    ap (λ (found : Option Item). entry_if id found (picked (entry ∷ items) ids)) (past_head entry items id (λ same. omega arith))
    ∙ ap (λ (rest : List (ℕ × Item)). entry_if id (item_at items id) rest) (picked_behind entry items ids (lower (entry.0 + 1) (id + 1) ids (omega arith) h.1))

-- an id below all items picks nothing
picked_none : (low high : ℕ) (items : List (ℕ × Item)) (id : ℕ) (ids : List ℕ) → Rise low high items → id < low → picked items (id ∷ ids) ≡ picked items ids
picked_none low high items id ids rise lt = ap (λ (found : Option Item). entry_if id found (picked items ids)) (none_below low high id items rise lt)

picked_head : (entry : ℕ × Item) (items : List (ℕ × Item)) (id : ℕ) (ids : List ℕ) → id ≡ entry.0 → picked (entry ∷ items) (id ∷ ids) ≡ entry ∷ picked (entry ∷ items) ids
picked_head entry items id ids same =
    subst (λ (k : ℕ). picked (entry ∷ items) (k ∷ ids) ≡ entry ∷ picked (entry ∷ items) ids) (sym same)
    (ap (λ (found : Option Item). entry_if entry.0 found (picked (entry ∷ items) ids)) (at_head entry items))

module _ (Gives : What → List ℕ → Type 0) where
  -- each item that gives a name is among the ids
  abbrev pub Covers : List (ℕ × Item) → List ℕ → Type 0
  Covers items ids = (id : ℕ) (item : Item) → item_at items id ≡ Some item → (name : List ℕ) → Gives item.what name → Contains ids id

  pub skipped : (entry : ℕ × Item) (left : List (ℕ × Item)) (names : List (List ℕ)) → ((name : List ℕ) → ¬ (Gives entry.1.what name)) → AreNamesOf Gives left names → AreNamesOf Gives (entry ∷ left) names
  skipped entry left [] none a = (none, a)
  skipped entry left (name ∷ names) none a = inr (none, a)

  -- what is behind the head
  covers_behind : (low high : ℕ) (entry : ℕ × Item) (items : List (ℕ × Item)) (ids : List ℕ) → Rise low high (entry ∷ items) → Covers (entry ∷ items) ids → Covers items ids
  covers_behind low high entry items ids rise covers id item found = covers id item (past_head entry items id other ∙ found)
    where
      differ : item_at items id ≡ None → item_at items id ≡ Some item → ⊥
      differ e f = cc

      other : id ≢ entry.0
      other same = absurd (differ (none_below (entry.0 + 1) high id items rise.1 (omega (arith, same))) found)

  -- without an id that is not sought
  covers_without : (items : List (ℕ × Item)) (x : ℕ) (ids : List ℕ) → item_at items x ≡ None → Covers items (x ∷ ids) → Covers items ids
  covers_without items x ids none covers id item found name gives = elim (contains_cases x ids id (covers id item found name gives)) [
    | inl same ↦ absurd (differ (subst (λ (k : ℕ). item_at items k ≡ None) same none) found)
    | inr later ↦ later
  ]
    where
      differ : item_at items id ≡ None → item_at items id ≡ Some item → ⊥
      differ e f = cc

  -- the head gives the first name, or none
  pub head_kept : (entry : ℕ × Item) (left items : List (ℕ × Item)) (names : List (List ℕ)) → ((rest : List (List ℕ)) → AreNamesOf Gives left rest → AreNamesOf Gives items rest) → AreNamesOf Gives (entry ∷ left) names → AreNamesOf Gives (entry ∷ items) names
  head_kept entry left items [] on a = (a.0, on [] a.1)
  head_kept entry left items (name ∷ names) on (inl a) = inl (a.0, on names a.1)
  head_kept entry left items (name ∷ names) on (inr a) = inr (a.0, on (name ∷ names) a.1)

  module _ (low high : ℕ) (entry : ℕ × Item) (items : List (ℕ × Item)) (rise : Rise low high (entry ∷ items)) where
    abbrev Answers : List ℕ → Type 0
    Answers ids = (names : List (List ℕ)) → AreNamesOf Gives (picked (entry ∷ items) ids) names → AreNamesOf Gives (entry ∷ items) names

    gives_none : (ids : List ℕ) → (Contains ids entry.0 → ⊥) → Covers (entry ∷ items) ids → (name : List ℕ) → ¬ (Gives entry.1.what name)
    gives_none ids absent covers name gives = absent (covers entry.0 entry.1 (at_head entry items) name gives)

    no_ids : Covers (entry ∷ items) [] → AreNamesOf Gives items [] → Answers []
    no_ids covers rest names a =
        subst (λ (l : List (List ℕ)). AreNamesOf Gives (entry ∷ items) l) (sym a)
        (gives_none [] (λ c. (let lt = c.1 in omega arith)) covers, rest)

    module _ (from x : ℕ) (ids : List ℕ) (rises : DoRise from (x ∷ ids)) (covers : Covers (entry ∷ items) (x ∷ ids))
        (again : (from : ℕ) (ids : List ℕ) → DoRise from ids → Covers items ids → (names : List (List ℕ)) → AreNamesOf Gives (picked items ids) names → AreNamesOf Gives items names) where
      at_the_head : x ≡ entry.0 → Answers (x ∷ ids)
      at_the_head same names a =
          head_kept entry (picked items ids) items names
          (again (x + 1) ids rises.1 (covers_without items x ids (none_below (entry.0 + 1) high x items rise.1 (omega (arith, same))) (covers_behind low high entry items (x ∷ ids) rise covers)))
          (subst (λ (l : List (ℕ × Item)). AreNamesOf Gives (entry ∷ l) names) (picked_behind entry items ids (lower (entry.0 + 1) (x + 1) ids (omega (arith, same)) rises.1))
          (subst (λ (l : List (ℕ × Item)). AreNamesOf Gives l names) (picked_head entry items x ids same) a))

      before_head : x < entry.0 → (Covers (entry ∷ items) ids → Answers ids) → Answers (x ∷ ids)
      before_head lt on names a =
          let first = rise.0 in
          let none : item_at (entry ∷ items) x ≡ None = none_below entry.0 high x (entry ∷ items) (omega arith, rise.1) lt in
          on (covers_without (entry ∷ items) x ids none covers) names
          (subst (λ (l : List (ℕ × Item)). AreNamesOf Gives l names) (picked_none entry.0 high (entry ∷ items) x ids (omega arith, rise.1) lt) a)

      behind_head : entry.0 < x → Answers (x ∷ ids)
      behind_head lt names a =
          skipped entry items names (gives_none (x ∷ ids) (λ c. (let le = not_under x (x ∷ ids) (omega arith, rises.1) entry.0 c in omega arith)) covers)
          (again from (x ∷ ids) rises (covers_behind low high entry items (x ∷ ids) rise covers) names
          (subst (λ (l : List (ℕ × Item)). AreNamesOf Gives l names) (picked_behind entry items (x ∷ ids) (omega arith, rises.1)) a))

      by_order : (Covers (entry ∷ items) ids → Answers ids) → Answers (x ∷ ids)
      by_order on = elim (cases_order x entry.0) [
        | inl same ↦ at_the_head same
        | inr (inl before) ↦ before_head before on
        | inr (inr after) ↦ behind_head after
      ]

    by_ids : ((from : ℕ) (ids : List ℕ) → DoRise from ids → Covers items ids → (names : List (List ℕ)) → AreNamesOf Gives (picked items ids) names → AreNamesOf Gives items names)
        → (from : ℕ) (ids : List ℕ) → DoRise from ids → Covers (entry ∷ items) ids → Answers ids
    by_ids again from [] rises covers = no_ids covers (again from [] tt (covers_behind low high entry items [] rise covers) [] refl)
    by_ids again from (x ∷ ids) rises covers = by_order from x ids rises covers again (by_ids again (x + 1) ids rises.1)

  none_at_all : (ids : List ℕ) (names : List (List ℕ)) → AreNamesOf Gives (picked [] ids) names → names ≡ []
  none_at_all [] names a = a
  none_at_all (id ∷ ids) names a = none_at_all ids names a

  pub names_of_picked : (low high : ℕ) (items : List (ℕ × Item)) → Rise low high items → (from : ℕ) (ids : List ℕ) → DoRise from ids → Covers items ids → (names : List (List ℕ)) → AreNamesOf Gives (picked items ids) names → AreNamesOf Gives items names
  names_of_picked low high [] rise from ids rises covers names a = none_at_all ids names a
  names_of_picked low high (entry ∷ items) rise from ids rises covers names a = by_ids low high entry items rise (names_of_picked (entry.0 + 1) high items rise.1) from ids rises covers names a

-- what is left of the ids begins with the one at the place
pub picked_at : (items : List (ℕ × Item)) (ids : List ℕ) (i id : ℕ) → i < length ids → id ≡ get_or ids i id → picked items (drop i ids) ≡ entry_if id (item_at items id) (picked items (drop (i + 1) ids))
picked_at items ids i id lt is =
    ap (picked items) (drop-cons ids i id lt)
    ∙ ap (λ (k : ℕ). picked items (k ∷ drop (suc i) ids)) (sym is)
    ∙ ap (λ (j : ℕ). entry_if id (item_at items id) (picked items (drop j ids))) (plus-one i)
  where
    plus-one : (n : ℕ) → suc n ≡ n + 1
    plus-one n = omega arith

pub picked_past : (items : List (ℕ × Item)) (ids : List ℕ) (i : ℕ) → length ids ≤ i → picked items (drop i ids) ≡ []
picked_past items ids i le = ap (picked items) (drop_of_length-le ids {i = i} le)
