-- The ids of a net's items with copper.
use Rattle.std.proofs.Common.{◌≡◌, ◌≢◌, ◌⊎◌, ℕ, zero, suc, ◌+◌, ◌<◌, ◌≤◌, ◌==◌, Bool, true, false, not, ◌&&◌, cond, nat_eq, List, [], ◌∷◌, ◌++◌, length, get_or, map, filter, take, All, Contains, Some, inl, inr, refl, sym, subst, ap, ◌∙◌, arith, eq-eqb}
use Rattle.std.proofs.lemmas.Bool.{ne_eqb, eqb-true, eqb-false, and_parts, and_from, not-true, not_from_false}
use Rattle.std.proofs.lemmas.List.{append-nil, nil_from_length, get_or_default, append_assoc, take_more, take_all}
use Rattle.std.proofs.lemmas.List.Elements.{filter-append}
use Rattle.std.proofs.lemmas.List.Kept.{AllPairs-cons}
use Rattle.one_item.specs.declared.item.Item.{Item}
use Rattle.board_items.specs.Boards.{PlainBoard, Rise, IsSound, item_at, ids_of_net}
use Rattle.board_items.proofs.Rising.{item_at-middle}
use Rattle.net_groups.specs.ConnectedClasses.{Rises}
use Rattle.net_groups.specs.Touching.{IsConductor}
use Rattle.net_groups.specs.Labels.{is_copper, is_conductor, conductors_in, AreConductors}

-- ---- membership by recursion
pub contains_here : (x : ℕ) (xs : List ℕ) → Contains (x ∷ xs) x
contains_here x xs = (0, omega arith, refl)

pub contains_later : (x : ℕ) (xs : List ℕ) (y : ℕ) → Contains xs y → Contains (x ∷ xs) y
contains_later x xs y c = let lt = c.1 in (suc c.0, omega arith, c.2)

pub contains_cases : (x : ℕ) (xs : List ℕ) (y : ℕ) → Contains (x ∷ xs) y → (x ≡ y) ⊎ Contains xs y
contains_cases x xs y c = by_place c.0 c.1 c.2
  where
    by_place : (k : ℕ) → k < length (x ∷ xs) → get_or (x ∷ xs) k y ≡ y → (x ≡ y) ⊎ Contains xs y
    by_place zero lt e = inl e
    by_place (suc k) lt e = inr (k, omega arith, e)

pub contains_nothing : (y : ℕ) → Contains [] y → ⊥
contains_nothing y c = let lt = c.1 in absurd (omega arith)

-- ---- what the test says
test_from : (net : ℕ) (item : Item) → is_conductor net item ≡ true → (item.net ≡ net) × (net ≢ 0) × (item.copper ≢ [])
test_from net item e =
    let p = and_parts (item.net == net) (not (net == 0) && not (length item.copper == 0)) e in
    let q = and_parts (not (net == 0)) (not (length item.copper == 0)) p.1 in
    (eqb-true item.net net p.0, eqb-false net 0 (not-true (net == 0) q.0), λ none. eqb-false (length item.copper) 0 (not-true (length item.copper == 0) q.1) (ap length none))

test_to : (net : ℕ) (item : Item) → item.net ≡ net → net ≢ 0 → item.copper ≢ [] → is_conductor net item ≡ true
test_to net item e some copper =
    and_from (item.net == net) (not (net == 0) && not (length item.copper == 0)) (eq-eqb item.net net e)
    (and_from (not (net == 0)) (not (length item.copper == 0)) (not_from_false (net == 0) (ne_eqb net 0 some))
    (not_from_false (length item.copper == 0) (ne_eqb (length item.copper) 0 (λ none. copper (nil_from_length item.copper none)))))

some_same : (a b : Item) → Some a ≡ Some b → b ≡ a
some_same a b e = cc

-- ---- along the items
module _ (net : ℕ) where
  every_in : (es : List (ℕ × Item)) (id : ℕ) (item : Item) → item_at es id ≡ Some item → is_conductor net item ≡ true → Contains (conductors_in net es) id
  every_in [] id item found is = absurd (cc)
  every_in (e ∷ es) id item found is = by_id (id == e.0) refl found (every_in es id item)
    where
      by_id : (b : Bool) → (id == e.0) ≡ b → cond b (Some e.1) (item_at es id) ≡ Some item → (item_at es id ≡ Some item → is_conductor net item ≡ true → Contains (conductors_in net es) id)
          → Contains (cond (is_conductor net e.1) (e.0 ∷ conductors_in net es) (conductors_in net es)) id
      by_id true same f on =
          let one : item ≡ e.1 = some_same e.1 item f in
          let its : is_conductor net e.1 ≡ true = subst (λ (i : Item). is_conductor net i ≡ true) one is in
          subst (λ (b : Bool). Contains (cond b (e.0 ∷ conductors_in net es) (conductors_in net es)) id) (sym its)
          (subst (Contains (e.0 ∷ conductors_in net es)) (sym (eqb-true id e.0 same)) (contains_here e.0 (conductors_in net es)))
      by_id false other f on = by_test (is_conductor net e.1) (on f is)
        where
          by_test : (b : Bool) → Contains (conductors_in net es) id → Contains (cond b (e.0 ∷ conductors_in net es) (conductors_in net es)) id
          by_test true c = contains_later e.0 (conductors_in net es) id c
          by_test false c = c

  -- an id that was kept, with its item
  record IsKept (es : List (ℕ × Item)) (low id : ℕ) : Type 0 where
    item : Item
    found : item_at es id ≡ Some item
    passes : is_conductor net item ≡ true
    from : low ≤ id

  only_in : (low high : ℕ) (es : List (ℕ × Item)) → Rise low high es → (id : ℕ) → Contains (conductors_in net es) id → IsKept es low id
  only_in low high [] rise id c = absurd (contains_nothing id c)
  only_in low high (e ∷ es) rise id c = by_test (is_conductor net e.1) refl c (λ d. later (only_in (e.0 + 1) high es rise.1 id d))
    where
      later : IsKept es (e.0 + 1) id → IsKept (e ∷ es) low id
      later k =
          let up = k.from in
          let above = rise.0 in
          let other : id ≢ e.0 = λ same. omega arith in
          record { item = k.item; found = ap (λ b. cond b (Some e.1) (item_at es id)) (ne_eqb id e.0 other) ∙ k.found; passes = k.passes; from = omega arith }

      by_test : (b : Bool) → is_conductor net e.1 ≡ b → Contains (cond b (e.0 ∷ conductors_in net es) (conductors_in net es)) id → (Contains (conductors_in net es) id → IsKept (e ∷ es) low id) → IsKept (e ∷ es) low id
      by_test true is d on = elim (contains_cases e.0 (conductors_in net es) id d) [
        | inl same ↦ record { item = e.1; found = ap (λ b. cond b (Some e.1) (item_at es id)) (eq-eqb id e.0 (sym same)); passes = is; from = subst (λ (k : ℕ). low ≤ k) same rise.0 }
        | inr more ↦ on more
      ]
      by_test false is d on = on d

  all_above : (low high : ℕ) (es : List (ℕ × Item)) → Rise (low + 1) high es → All (λ b. low < b) (conductors_in net es)
  all_above low high es rise k d lt =
      let kept = only_in (low + 1) high es rise (get_or (conductors_in net es) k d) (k, lt, get_or_default (conductors_in net es) k (get_or (conductors_in net es) k d) d lt) in
      let up = kept.from in
      omega arith

  rises_in : (low high : ℕ) (es : List (ℕ × Item)) → Rise low high es → Rises (conductors_in net es)
  rises_in low high [] rise = λ i j d lt past. absurd (omega arith)
  rises_in low high (e ∷ es) rise = by_test (is_conductor net e.1) (all_above e.0 high es rise.1) (rises_in (e.0 + 1) high es rise.1)
    where
      by_test : (b : Bool) → All (λ b. e.0 < b) (conductors_in net es) → Rises (conductors_in net es) → Rises (cond b (e.0 ∷ conductors_in net es) (conductors_in net es))
      by_test true above up = AllPairs-cons (λ a b. a < b) e.0 (conductors_in net es) above up
      by_test false above up = up

pub conductors_are : (board : PlainBoard) (net : ℕ) → IsSound board → AreConductors board net (conductors_in net board.items)
conductors_are board net sound = record {
  rises = rises_in net 0 board.next_id board.items sound.ids;
  only = only;
  every = λ id is. every_in net board.items id is.item is.found (test_to net is.item is.own_net is.some_net is.copper);
}
  where
    only : (id : ℕ) → Contains (conductors_in net board.items) id → IsConductor board net id
    only id c =
        let kept = only_in net 0 board.next_id board.items sound.ids id c in
        let says = test_from net kept.item kept.passes in
        record { item = kept.item; found = kept.found; own_net = says.0; some_net = says.1; copper = says.2 }

-- ---- by the ids that the board keeps of the net
-- the test of ids says of each entry whether its item has copper
abbrev Agrees : (ℕ → Bool) → List (ℕ × Item) → Type 0
Agrees p [] = Unit {0}
Agrees p (e ∷ es) = (p e.0 ≡ not (length e.1.copper == 0)) × Agrees p es

agrees_in : (low high : ℕ) (all front es : List (ℕ × Item)) → all ≡ front ++ es → Rise low high all → Agrees (λ id. is_copper (item_at all id)) es
agrees_in low high all front [] cut rise = tt
agrees_in low high all front (e ∷ es) cut rise = (
  ap is_copper (subst (λ (xs : List (ℕ × Item)). item_at xs e.0 ≡ Some e.1) (sym cut) (item_at-middle low high front e es (subst (λ (xs : List (ℕ × Item)). Rise low high xs) cut rise))),
  agrees_in low high all (front ++ e ∷ []) es (cut ∙ sym (append_assoc front (e ∷ []) es)) rise,
)

kept_in : (net : ℕ) → net ≢ 0 → (p : ℕ → Bool) (es : List (ℕ × Item)) → Agrees p es → filter p (ids_of_net net es) ≡ conductors_in net es
kept_in net some p [] a = refl
kept_in net some p (e ∷ es) a = by_net (e.1.net == net) (not_from_false (net == 0) (ne_eqb net 0 some)) (kept_in net some p es a.1)
  where
    others : List (ℕ × Item)
    others = filter (λ (x : ℕ × Item). nat_eq x.1.net net) es

    by_net : (b : Bool) → not (net == 0) ≡ true → filter p (ids_of_net net es) ≡ conductors_in net es
        → filter p (map (λ (x : ℕ × Item). x.0) (cond b (e ∷ others) others)) ≡ cond (b && (not (net == 0) && not (length e.1.copper == 0))) (e.0 ∷ conductors_in net es) (conductors_in net es)
    by_net true n h =
        ap (λ t. cond t (e.0 ∷ filter p (ids_of_net net es)) (filter p (ids_of_net net es))) a.0
        ∙ (ap (λ (ids : List ℕ). cond (not (length e.1.copper == 0)) (e.0 ∷ ids) ids) h
        ∙ sym (ap (λ t. cond (t && not (length e.1.copper == 0)) (e.0 ∷ conductors_in net es) (conductors_in net es)) n))
    by_net false n h = h

pub conductors_kept : (board : PlainBoard) (net : ℕ) → IsSound board → net ≢ 0 → AreConductors board net (filter (λ id. is_copper (item_at board.items id)) (ids_of_net net board.items))
conductors_kept board net sound some =
    subst (AreConductors board net) (sym (kept_in net some (λ id. is_copper (item_at board.items id)) board.items (agrees_in 0 board.next_id board.items [] board.items refl sound.ids))) (conductors_are board net sound)

-- net 0 has none
pub no_conductors : (board : PlainBoard) (net : ℕ) → net ≡ 0 → (ids : List ℕ) → ids ≡ [] → AreConductors board net ids
no_conductors board net none ids empty = subst (AreConductors board net) (sym empty) (record {
  rises = λ i j d lt past. absurd (omega arith);
  only = λ id c. absurd (contains_nothing id c);
  every = λ id is. absurd (is.some_net none);
})

-- one id more
pub kept_more : (p : ℕ → Bool) (ids : List ℕ) (k : ℕ) → k < length ids → filter p (take (k + 1) ids) ≡ filter p (take k ids) ++ cond (p (get_or ids k 0)) (get_or ids k 0 ∷ []) []
kept_more p ids k lt = ap (filter p) (take_more ids k 0 lt) ∙ filter-append p (take k ids) (get_or ids k 0 ∷ [])

-- one that is kept
pub kept_one : (p : ℕ → Bool) (all ids : List ℕ) (k : ℕ) → k < length all → p (get_or all k 0) ≡ true → ids ≡ filter p (take k all) → ids ++ get_or all k 0 ∷ [] ≡ filter p (take (k + 1) all)
kept_one p all ids k lt is e =
    ap (λ l. l ++ get_or all k 0 ∷ []) e ∙ sym (kept_more p all k lt ∙ ap (λ b. filter p (take k all) ++ cond b (get_or all k 0 ∷ []) []) is)

-- one that is passed
pub kept_over : (p : ℕ → Bool) (all ids : List ℕ) (k : ℕ) → k < length all → p (get_or all k 0) ≡ false → ids ≡ filter p (take k all) → ids ≡ filter p (take (k + 1) all)
kept_over p all ids k lt is e =
    e ∙ sym (kept_more p all k lt ∙ ap (λ b. filter p (take k all) ++ cond b (get_or all k 0 ∷ []) []) is ∙ append-nil (filter p (take k all)))

-- all ids
pub kept_all : (board : PlainBoard) (net : ℕ) → IsSound board → net ≢ 0 → (k : ℕ) → length (ids_of_net net board.items) ≤ k → (ids : List ℕ) → ids ≡ filter (λ id. is_copper (item_at board.items id)) (take k (ids_of_net net board.items)) → AreConductors board net ids
kept_all board net sound some k past ids e =
    subst (AreConductors board net) (sym (e ∙ ap (filter (λ id. is_copper (item_at board.items id))) (take_all k (ids_of_net net board.items) past))) (conductors_kept board net sound some)
