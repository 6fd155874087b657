-- The ids of entries.
use Rattle.std.proofs.Common.{◌≡◌, ◌≢◌, ap, sym, subst, refl, ℕ, ◌+◌, ◌<◌, ◌≤◌, zero, suc, Bool, true, false, cond, List, [], ◌∷◌, filter, Some, None, arith}
use Rattle.std.specs.List.{All, AllPairs, Contains}
use Rattle.std.specs.List.Sorted.{IsStrictlyIncreasing}
use Rattle.std.proofs.lemmas.List.Elements.{All-nil, All-cons, All-weaker, All-map, All-contains}
use Rattle.std.proofs.lemmas.List.Kept.{AllPairs-cons}
use Rattle.one_item.specs.declared.item.Item.{Item}
use Rattle.board_items.specs.Boards.{PlainBoard, Rise, item_at}
use Rattle.one_item.specs.ItemParts.{parts_of}
use Rattle.board_items.proofs.Rising.{rise_ends, passed_over}
use Rattle.board_laws.specs.Edits.{WasOrIs}
use Rattle.board_laws.proofs.Rest.{Entry}
use Rattle.board_edits.specs.Making.{ids_of}
use Rattle.board_edits.specs.TouchedItems.{ItemDiffers, added, removed}

-- ---- entries and their ids
pub from_ids : (es : List Entry) (id : ℕ) → Contains (ids_of es) id → (e : Entry) × Contains es e × (e.0 ≡ id)
from_ids [] id c = absurd (omega (arith, c.1))
from_ids (e ∷ es) id (zero, lt, same) = (e, (0, omega arith, refl), same)
from_ids (e ∷ es) id (suc k, lt, same) = let d = from_ids es id (k, omega arith, same) in (d.0, (suc d.1.0, omega (arith, d.1.1), d.1.2), d.2)

pub to_ids : (es : List Entry) (e : Entry) → Contains es e → Contains (ids_of es) e.0
to_ids [] e c = absurd (omega (arith, c.1))
to_ids (f ∷ fs) e (zero, lt, same) = (0, omega arith, ap (λ (x : Entry). x.0) same)
to_ids (f ∷ fs) e (suc k, lt, same) = let d = to_ids fs e (k, omega arith, same) in (suc d.0, omega (arith, d.1), d.2)

-- ---- ids that rise
lower : (low more high : ℕ) (es : List Entry) → low ≤ more → Rise more high es → Rise low high es
lower low more high [] le r = omega arith
lower low more high (e ∷ es) le r = (omega (arith, r.0), r.1)

pub rise_filter : (p : Entry → Bool) (low high : ℕ) (es : List Entry) → Rise low high es → Rise low high (filter p es)
rise_filter p low high [] r = r
rise_filter p low high (e ∷ es) r = by (rise_filter p (e.0 + 1) high es r.1) (p e)
  where
    by : Rise (e.0 + 1) high (filter p es) → (b : Bool) → Rise low high (cond b (e ∷ filter p es) (filter p es))
    by rest true = (r.0, rest)
    by rest false = lower low (e.0 + 1) high (filter p es) (omega (arith, r.0)) rest

ids_from : (low high : ℕ) (es : List Entry) → Rise low high es → All (λ (e : Entry). low ≤ e.0) es
ids_from low high [] r = All-nil (λ (e : Entry). low ≤ e.0)
ids_from low high (e ∷ es) r =
    All-cons (λ (x : Entry). low ≤ x.0) e es r.0 (All-weaker (λ (x : Entry). (e.0 + 1) ≤ x.0) (λ (x : Entry). low ≤ x.0) (λ x l. let g = r.0 in omega arith) es (ids_from (e.0 + 1) high es r.1))

pairs : (low high : ℕ) (es : List Entry) → Rise low high es → AllPairs (λ (a b : ℕ). a < b) (ids_of es)
pairs low high [] r = λ i j d l m. absurd (omega arith)
pairs low high (e ∷ es) r =
    AllPairs-cons (λ (a b : ℕ). a < b) e.0 (ids_of es) (All-map (λ (n : ℕ). e.0 < n) (λ (x : Entry). x.0) es (All-weaker (λ (x : Entry). (e.0 + 1) ≤ x.0) (λ (x : Entry). e.0 < x.0) (λ x l. omega arith) es (ids_from (e.0 + 1) high es r.1)))
    (pairs (e.0 + 1) high es r.1)

pub ids_rise : (low high : ℕ) (es : List Entry) → Rise low high es → IsStrictlyIncreasing (ids_of es)
ids_rise low high es r k l = pairs low high es r k (k + 1) 0 (omega arith) l

-- no item stands under an id that was not given yet
pub not_given : (low high id : ℕ) (es : List Entry) → Rise low high es → high ≤ id → item_at es id ≡ None
not_given low high id [] r le = refl
not_given low high id (e ∷ es) r le = let ends = rise_ends (e.0 + 1) high es r.1 in rw (passed_over id e es (λ q. omega (arith, ends, q))) (not_given (e.0 + 1) high id es r.1 le)

-- ---- items that came or went
pub came : (old new : PlainBoard) (ids : List ℕ) (es : List Entry) → ids ≡ ids_of es → All (λ (e : Entry). item_at old.items e.0 ≡ None) es → ((e : Entry) → Contains es e → item_at new.items e.0 ≡ Some e.1)
    → (id : ℕ) (item : Item) → Contains ids id → WasOrIs old new id item → parts_of item ≢ [] → ItemDiffers old new id
came old new ids es same none some id item c w p =
    let d = from_ids es id (subst (λ (xs : List ℕ). Contains xs id) same c) in
    added (subst (λ (n : ℕ). item_at old.items n ≡ None) d.2 (All-contains (λ (e : Entry). item_at old.items e.0 ≡ None) es d.0 none d.1)) d.0.1 (subst (λ (n : ℕ). item_at new.items n ≡ Some d.0.1) d.2 (some d.0 d.1))

pub went : (old new : PlainBoard) (ids : List ℕ) (es : List Entry) → ids ≡ ids_of es → All (λ (e : Entry). item_at new.items e.0 ≡ None) es → ((e : Entry) → Contains es e → item_at old.items e.0 ≡ Some e.1)
    → (id : ℕ) (item : Item) → Contains ids id → WasOrIs old new id item → parts_of item ≢ [] → ItemDiffers old new id
went old new ids es same none some id item c w p =
    let d = from_ids es id (subst (λ (xs : List ℕ). Contains xs id) same c) in
    removed d.0.1 (subst (λ (n : ℕ). item_at old.items n ≡ Some d.0.1) d.2 (some d.0 d.1)) (subst (λ (n : ℕ). item_at new.items n ≡ None) d.2 (All-contains (λ (e : Entry). item_at new.items e.0 ≡ None) es d.0 none d.1))

-- none of the ids had an item
pub all_new : (old : PlainBoard) (ids : List ℕ) (es : List Entry) → ids ≡ ids_of es → All (λ (e : Entry). item_at old.items e.0 ≡ None) es → All (λ (id : ℕ). item_at old.items id ≡ None) ids
all_new old ids es same none = subst (All (λ (id : ℕ). item_at old.items id ≡ None)) (sym same) (All-map (λ (id : ℕ). item_at old.items id ≡ None) (λ (e : Entry). e.0) es none)
