-- Names of two lists of items by id, in which each id gives the same.
use Rattle.std.proofs.Common.{◌≡◌, ◌⊎◌, inl, inr, refl, sym, ap, subst, ℕ, zero, suc, ◌<◌, List, [], ◌∷◌, Contains, arith}
use Rattle.std.specs.List.{AllPairs}
use Rattle.one_item.specs.declared.item.Item.{Item}
use Rattle.one_item.specs.declared.item.What.{What}
use Rattle.board_laws.proofs.Rest.{Entry, Under}
use Rattle.rule_pick.specs.FactsOf.{AreNamesOf}

behind_head : (x : Entry) (xs : List Entry) (z : Entry) → AllPairs Under (x ∷ xs) → Contains xs z → x.0 < z.0
behind_head x xs z h c = subst (λ (w : Entry). x.0 < w.0) c.2 (h 0 (suc c.0) z (omega arith) (omega (arith, c.1)))

at_or_behind : (x : Entry) (xs : List Entry) (z : Entry) → Contains (x ∷ xs) z → (x ≡ z) ⊎ Contains xs z
at_or_behind x xs z (zero, lt, e) = inl e
at_or_behind x xs z (suc k, lt, e) = inr (k, omega arith, e)

rest_rises : (x : Entry) (xs : List Entry) → AllPairs Under (x ∷ xs) → AllPairs Under xs
rest_rises x xs h i j d lt long = h (suc i) (suc j) d (omega arith) (omega arith)

one_more : (x z : Entry) (xs : List Entry) → Contains xs z → Contains (x ∷ xs) z
one_more x z xs c = (suc c.0, omega (arith, c.1), c.2)

at_head : (x : Entry) (xs : List Entry) → Contains (x ∷ xs) x
at_head x xs = (0, omega arith, refl)

module _ (Gives : What → List ℕ → Type 0) where
  -- the item under the id gives the name
  pub record IsGiven (items : List Entry) (id : ℕ) (name : List ℕ) : Type 0 where
    pub item : Item
    pub among : Contains items (id, item)
    pub gives : Gives item.what name

  -- what the one list gives, the other gives too
  abbrev pub GivesAll : List Entry → List Entry → Type 0
  GivesAll xs ys = (id : ℕ) (name : List ℕ) → IsGiven xs id name → IsGiven ys id name

  first : (x : Entry) (xs : List Entry) (name : List ℕ) → Gives x.1.what name → IsGiven (x ∷ xs) x.0 name
  first x xs name g = record { item = x.1; among = at_head x xs; gives = g }

  behind : (x : Entry) (xs : List Entry) (id : ℕ) (name : List ℕ) → IsGiven xs id name → IsGiven (x ∷ xs) id name
  behind x xs id name g = record { item = g.item; among = one_more x (id, g.item) xs g.among; gives = g.gives }

  nothing : (id : ℕ) (name : List ℕ) → IsGiven [] id name → ⊥
  nothing id name g = absurd (omega (arith, g.among.1))

  -- by the first, or by one behind it
  by_place : (x : Entry) (xs : List Entry) (id : ℕ) (name : List ℕ) → IsGiven (x ∷ xs) id name → ((x.0 ≡ id) × Gives x.1.what name) ⊎ IsGiven xs id name
  by_place x xs id name g = by (at_or_behind x xs (id, g.item) g.among)
    where
      by : (x ≡ (id, g.item)) ⊎ Contains xs (id, g.item) → ((x.0 ≡ id) × Gives x.1.what name) ⊎ IsGiven xs id name
      by (inl e) = inl (ap (λ (w : Entry). w.0) e, subst (λ (w : Entry). Gives w.1.what name) (sym e) g.gives)
      by (inr c) = inr (record { item = g.item; among = c; gives = g.gives })

  abbrev Silent : Entry → Type 0
  Silent e = (name : List ℕ) → ¬ (Gives e.1.what name)

  all_silent : (ys : List Entry) → ((id : ℕ) (name : List ℕ) → IsGiven ys id name → ⊥) → AreNamesOf Gives ys []
  all_silent [] none = refl
  all_silent (y ∷ ys) none = ((λ name g. none y.0 name (first y ys name g)), all_silent ys (λ id name g. none id name (behind y ys id name g)))

  none_given : (xs : List Entry) → AreNamesOf Gives xs [] → (id : ℕ) (name : List ℕ) → IsGiven xs id name → ⊥
  none_given [] h id name g = nothing id name g
  none_given (x ∷ xs) h id name g = by (none_given xs h.1 id name) (by_place x xs id name g)
    where
      by : (IsGiven xs id name → ⊥) → ((x.0 ≡ id) × Gives x.1.what name) ⊎ IsGiven xs id name → ⊥
      by rest (inl p) = h.0 name p.1
      by rest (inr k) = rest k

  -- an entry that gives nothing is left out
  silent_out : (x : Entry) (xs : List Entry) → Silent x → GivesAll (x ∷ xs) xs
  silent_out x xs silent id name g = by (by_place x xs id name g)
    where
      by : ((x.0 ≡ id) × Gives x.1.what name) ⊎ IsGiven xs id name → IsGiven xs id name
      by (inl p) = absurd (silent name p.1)
      by (inr k) = k

  -- what is given under another id is given behind
  other_out : (x : Entry) (xs : List Entry) (id : ℕ) (name : List ℕ) → x.0 < id → IsGiven (x ∷ xs) id name → IsGiven xs id name
  other_out x xs id name lt g = by (by_place x xs id name g)
    where
      by : ((x.0 ≡ id) × Gives x.1.what name) ⊎ IsGiven xs id name → IsGiven xs id name
      by (inl p) = let e = p.0 in absurd (omega arith)
      by (inr k) = k

  -- ---- the entry that gives the first name
  module _ (x : Entry) (xs : List Entry) (name : List ℕ) (names : List (List ℕ)) (gives : Gives x.1.what name) (rise : AllPairs Under (x ∷ xs))
      (again : (ys : List Entry) → AllPairs Under ys → GivesAll xs ys → GivesAll ys xs → AreNamesOf Gives ys names) where
    -- the first of the others has the same id
    here : (y : Entry) (ys : List Entry) → AllPairs Under (y ∷ ys) → GivesAll (x ∷ xs) (y ∷ ys) → GivesAll (y ∷ ys) (x ∷ xs) → y.0 ≡ x.0 → Gives y.1.what name → AreNamesOf Gives (y ∷ ys) (name ∷ names)
    here y ys up to back same g = inl (g, again ys (rest_rises y ys up) on off)
      where
        on : GivesAll xs ys
        on id n k = let lt = behind_head x xs (id, k.item) rise k.among in other_out y ys id n (omega arith) (to id n (behind x xs id n k))

        off : GivesAll ys xs
        off id n k = let lt = behind_head y ys (id, k.item) up k.among in other_out x xs id n (omega arith) (back id n (behind y ys id n k))

    -- it stands before that one, and gives nothing
    quiet : (y : Entry) (ys : List Entry) → AllPairs Under (y ∷ ys) → GivesAll (y ∷ ys) (x ∷ xs) → (item : Item) → Contains ys (x.0, item) → Silent y
    quiet y ys up back item c n g = by (by_place x xs y.0 n (back y.0 n (first y ys n g)))
      where
        below : y.0 < x.0
        below = behind_head y ys (x.0, item) up c

        by : ((x.0 ≡ y.0) × Gives x.1.what n) ⊎ IsGiven xs y.0 n → ⊥
        by (inl p) = let e = p.0 in let l = below in absurd (omega arith)
        by (inr k) = let lt = behind_head x xs (y.0, k.item) rise k.among in let l = below in absurd (omega arith)

    found : (ys : List Entry) → AllPairs Under ys → GivesAll (x ∷ xs) ys → GivesAll ys (x ∷ xs) → AreNamesOf Gives ys (name ∷ names)
    found [] up to back = absurd (nothing x.0 name (to x.0 name (first x xs name gives)))
    found (y ∷ ys) up to back = by (found ys (rest_rises y ys up)) (to x.0 name (first x xs name gives))
      where
        by : (GivesAll (x ∷ xs) ys → GivesAll ys (x ∷ xs) → AreNamesOf Gives ys (name ∷ names)) → IsGiven (y ∷ ys) x.0 name → AreNamesOf Gives (y ∷ ys) (name ∷ names)
        by later g = elim (by_place y ys x.0 name g) [
          | inl p ↦ here y ys up to back p.0 p.1
          | inr k ↦ (let silent = quiet y ys up back k.item k.among in inr (silent, later (λ id n h. silent_out y ys silent id n (to id n h)) (λ id n h. back id n (behind y ys id n h))))
        ]

  -- where each id gives the same, the names are the same
  pub same_names : (xs ys : List Entry) → AllPairs Under xs → AllPairs Under ys → GivesAll xs ys → GivesAll ys xs → (names : List (List ℕ)) → AreNamesOf Gives xs names → AreNamesOf Gives ys names
  same_names [] ys rise up to back names h = subst (AreNamesOf Gives ys) (sym h) (all_silent ys (λ id name g. nothing id name (back id name g)))
  same_names (x ∷ xs) ys rise up to back [] h = all_silent ys (λ id name g. none_given (x ∷ xs) h id name (back id name g))
  same_names (x ∷ xs) ys rise up to back (name ∷ names) h =
      by h (λ zs rises on off. same_names xs zs (rest_rises x xs rise) rises on off names) (λ on off. same_names xs ys (rest_rises x xs rise) up on off (name ∷ names))
    where
      by : (Gives x.1.what name × AreNamesOf Gives xs names) ⊎ (Silent x × AreNamesOf Gives xs (name ∷ names))
          → ((zs : List Entry) → AllPairs Under zs → GivesAll xs zs → GivesAll zs xs → AreNamesOf Gives xs names → AreNamesOf Gives zs names)
          → (GivesAll xs ys → GivesAll ys xs → AreNamesOf Gives xs (name ∷ names) → AreNamesOf Gives ys (name ∷ names))
          → AreNamesOf Gives ys (name ∷ names)
      by (inl g) less same = found x xs name names g.0 rise (λ zs rises on off. less zs rises on off g.1) ys up to back
      by (inr g) less same = same (λ id n k. to id n (behind x xs id n k)) (λ id n k. silent_out x xs g.0 id n (back id n k)) g.1
