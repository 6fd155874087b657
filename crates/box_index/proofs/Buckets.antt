-- What is near each tile, and what an index keeps when an entry is put in or taken out.
use Rattle.std.proofs.Common.{◌≡◌, ◌≢◌, ◌∙◌, ap, sym, subst, refl, ℕ, ℤ, pos, ◌+ℤ◌, ◌*ℤ◌, ◌≤ℤ◌, ◌<◌, ◌≤◌, ◌/◌, ◌%◌, zero, suc, Bool, true, false, cond, not, ◌==◌, ◌&&◌, ◌||◌, nat_lt, nat_le, List, [], ◌∷◌, ◌++◌, length, take, slice_index_or, inl, inr, ◌⊎◌, Vec, vec_len, arith}
use Rattle.std.specs.declared.alloc.Global.{Global}
use Rattle.std.specs.List.{filter, All, AllPairs, Contains}
use Rattle.std.proofs.lemmas.Bool.{cases_order}
use Rattle.std.proofs.lemmas.Bool.Decides.{nat_tests}
use Rattle.std.proofs.lemmas.List.Elements.{All-cons, All-head, All-tail, All-filter, All-append, All-weaker, All-contains, Contains-append_right, filter-append, filter_passes}
use Rattle.std.proofs.lemmas.List.Kept.{AllPairs-filter, AllPairs-cons}
use Rattle.std.proofs.lemmas.Int.{ints}
use Rattle.std.proofs.lemmas.List.{take_at}
use Rattle.int_algebra.proofs.Scalars.{passed}
use Rattle.geo_seg.specs.declared.boxes.Bounds.{Bounds}
use Rattle.geo_seg.specs.Boxes.{FitsWithin, widened}
use Rattle.box_index.specs.declared.area.Area.{Area}
use Rattle.box_index.specs.declared.entry.Entry.{Entry}
use Rattle.box_index.specs.Tiles.{PlainIndex, IsSoundIndex, IsComplete, IsRising, IsAbsent, margin, is_in, meets_tile, near_of, is_held, is_met_by, numbers_below, dirty_of, owner_of, placed, without, tile_count}
use Rattle.box_index.specs.Areas.{has_tile}
use Rattle.box_index.specs.Cuts.{IsCut}
use Rattle.box_index.specs.declared.spans.Span.{Span}
use Rattle.box_index.specs.TileRanges.{HasAll}
use Rattle.box_index.specs.declared.shared.Shared.{Shared}
use Rattle.box_index.specs.SharedLists.{AreShared, AreRising, CanTake, IsPutNear, IsTakenNear}
use Rattle.box_index.proofs.TileLemmas.{lane-within, owns_both}
use Rattle.box_index.proofs.Numbers.{and_no, any_kept, filter_same, filter_nothing}
use Rattle.box_index.proofs.EntryLists.{filter_all, filter_none, filter_swap, pairs_first, pairs_rest, below_true, below_false, is_below}

abbrev pub index_of : ℤ → List Entry → PlainIndex
index_of reach xs = record { reach = reach; entries = xs }

-- ---- lists
module _ {X : Type 0} where
  pub pairs_append : (R : X → X → Type 0) (xs ys : List X) → AllPairs R xs → AllPairs R ys → All (λ x. All (R x) ys) xs → AllPairs R (xs ++ ys)
  pairs_append R [] ys h g k = g
  pairs_append R (x ∷ xs) ys h g k =
      AllPairs-cons R x (xs ++ ys) (All-append (R x) xs ys (pairs_first R x xs h) (All-head (λ z. All (R z) ys) x xs k))
      (pairs_append R xs ys (pairs_rest R x xs h) g (All-tail (λ z. All (R z) ys) x xs k))

  contains_cons : (y x : X) (xs : List X) → Contains xs x → Contains (y ∷ xs) x
  contains_cons y x xs (k, l, e) = (suc k, omega arith, e)

  contains_cond : (b : Bool) (y x : X) (xs : List X) → Contains xs x → Contains (cond b (y ∷ xs) xs) x
  contains_cond true y x xs h = contains_cons y x xs h
  contains_cond false y x xs h = h

  contains_filter_at : (p : X → Bool) (xs : List X) (x : X) (k : ℕ) → k < length xs → slice_index_or xs k x ≡ x → p x ≡ true → Contains (filter p xs) x
  contains_filter_at p [] x k l e h = absurd (omega arith)
  contains_filter_at p (y ∷ ys) x zero l e h =
      let t : p y ≡ true = ap p e ∙ h in
      subst (λ (zs : List X). Contains zs x) (sym (ap (λ b. cond b (y ∷ filter p ys) (filter p ys)) t)) (0, omega arith, e)
  contains_filter_at p (y ∷ ys) x (suc k) l e h = contains_cond (p y) y x (filter p ys) (contains_filter_at p ys x k (omega arith) e h)

  pub contains_filter : (p : X → Bool) (xs : List X) (x : X) → Contains xs x → p x ≡ true → Contains (filter p xs) x
  contains_filter p xs x (k, l, e) h = contains_filter_at p xs x k l e h

-- ---- an entry in its place
pub rising_placed : (e : Entry) (xs : List Entry) → IsRising xs → IsRising (placed e xs)
rising_placed e xs r =
    let R : Entry → Entry → Type 0 = λ a b. a.id < b.id in
    let low = λ (x : Entry). nat_lt x.id e.id in
    let high = λ (x : Entry). nat_lt e.id x.id in
    let below : All (λ (x : Entry). x.id < e.id) (filter low xs) = All-weaker (λ (x : Entry). low x ≡ true) (λ (x : Entry). x.id < e.id) (λ x h. is_below _ _ h) (filter low xs) (filter_passes low xs) in
    let above : All (λ (x : Entry). e.id < x.id) (filter high xs) = All-weaker (λ (x : Entry). high x ≡ true) (λ (x : Entry). e.id < x.id) (λ x h. is_below _ _ h) (filter high xs) (filter_passes high xs) in
    pairs_append R (filter low xs) (e ∷ filter high xs) (AllPairs-filter R low xs r) (AllPairs-cons R e (filter high xs) above (AllPairs-filter R high xs r))
    (All-weaker (λ (x : Entry). x.id < e.id) (λ (x : Entry). All (R x) (e ∷ filter high xs)) (λ x h. All-cons (R x) e (filter high xs) h (All-weaker (R e) (R x) (λ y g. omega arith) (filter high xs) above)) (filter low xs) below)

pub sound_placed : (reach : ℤ) (xs : List Entry) (e : Entry) → IsSoundIndex (index_of reach xs) → FitsWithin (pos 2000000000) e.bounds → IsSoundIndex (index_of reach (placed e xs))
sound_placed reach xs e s f =
    let P : Entry → Type 0 = λ x. FitsWithin (pos 2000000000) x.bounds in record {
      reach_from = s.reach_from;
      reach_to = s.reach_to;
      rising = rising_placed e xs s.rising;
      fit = All-append P (filter (λ (x : Entry). nat_lt x.id e.id) xs) (e ∷ filter (λ (x : Entry). nat_lt e.id x.id) xs) (All-filter (λ (x : Entry). nat_lt x.id e.id) P xs s.fit)
          (All-cons P e (filter (λ (x : Entry). nat_lt e.id x.id) xs) f (All-filter (λ (x : Entry). nat_lt e.id x.id) P xs s.fit));
    }

placed_split : (p : Entry → Bool) (e : Entry) (xs : List Entry) → filter p (placed e xs) ≡ filter (λ (x : Entry). nat_lt x.id e.id) (filter p xs) ++ cond (p e) (e ∷ filter (λ (x : Entry). nat_lt e.id x.id) (filter p xs)) (filter (λ (x : Entry). nat_lt e.id x.id) (filter p xs))
placed_split p e xs =
    filter-append p (filter (λ (x : Entry). nat_lt x.id e.id) xs) (e ∷ filter (λ (x : Entry). nat_lt e.id x.id) xs)
    ∙ ap (λ ys. ys ++ filter p (e ∷ filter (λ (x : Entry). nat_lt e.id x.id) xs)) (filter_swap p (λ (x : Entry). nat_lt x.id e.id) xs)
    ∙ ap (λ ys. filter (λ (x : Entry). nat_lt x.id e.id) (filter p xs) ++ cond (p e) (e ∷ ys) ys) (filter_swap p (λ (x : Entry). nat_lt e.id x.id) xs)

pub near_with : (p : Entry → Bool) (e : Entry) (xs : List Entry) → p e ≡ true → filter p (placed e xs) ≡ placed e (filter p xs)
near_with p e xs t = placed_split p e xs
    ∙ ap (λ b. filter (λ (x : Entry). nat_lt x.id e.id) (filter p xs) ++ cond b (e ∷ filter (λ (x : Entry). nat_lt e.id x.id) (filter p xs)) (filter (λ (x : Entry). nat_lt e.id x.id) (filter p xs))) t

-- the entry that was placed is there
pub never_absent : (e : Entry) (xs : List Entry) → IsAbsent e.id (placed e xs) → ⊥
never_absent e xs a =
    let low = filter (λ (x : Entry). nat_lt x.id e.id) xs in
    let high = filter (λ (x : Entry). nat_lt e.id x.id) xs in
    All-contains (λ (x : Entry). x.id ≢ e.id) (placed e xs) e a (Contains-append_right low (e ∷ high) e (0, omega arith, refl)) refl

-- those with lesser ids and those with greater ones are all, where no entry has the id
parts_step : (id : ℕ) (x : Entry) (xs : List Entry) → IsRising (x ∷ xs) → IsAbsent id (x ∷ xs) → filter (λ (y : Entry). nat_lt y.id id) xs ++ filter (λ (y : Entry). nat_lt id y.id) xs ≡ xs → (x.id ≡ id) ⊎ ((x.id < id) ⊎ (id < x.id))
    → filter (λ (y : Entry). nat_lt y.id id) (x ∷ xs) ++ filter (λ (y : Entry). nat_lt id y.id) (x ∷ xs) ≡ x ∷ xs
parts_step id x xs r a h (inl e) = absurd (All-head (λ (y : Entry). y.id ≢ id) x xs a e)
parts_step id x xs r a h (inr (inl l)) =
    ap (λ b. cond b (x ∷ filter (λ (y : Entry). nat_lt y.id id) xs) (filter (λ (y : Entry). nat_lt y.id id) xs) ++ filter (λ (y : Entry). nat_lt id y.id) (x ∷ xs)) (below_true _ _ l)
    ∙ ap (λ b. (x ∷ filter (λ (y : Entry). nat_lt y.id id) xs) ++ cond b (x ∷ filter (λ (y : Entry). nat_lt id y.id) xs) (filter (λ (y : Entry). nat_lt id y.id) xs)) (below_false id x.id (omega arith))
    ∙ ap (λ ys. x ∷ ys) h
parts_step id x xs r a h (inr (inr g)) =
    let later = pairs_first (λ (y z : Entry). y.id < z.id) x xs r in
    let none = filter_none (λ (y : Entry). nat_lt y.id id) xs (All-weaker (λ (y : Entry). x.id < y.id) (λ (y : Entry). nat_lt y.id id ≡ false) (λ y m. below_false _ _ (omega arith)) xs later) in
    let every = filter_all (λ (y : Entry). nat_lt id y.id) xs (All-weaker (λ (y : Entry). x.id < y.id) (λ (y : Entry). nat_lt id y.id ≡ true) (λ y m. below_true _ _ (omega arith)) xs later) in
    ap (λ b. cond b (x ∷ filter (λ (y : Entry). nat_lt y.id id) xs) (filter (λ (y : Entry). nat_lt y.id id) xs) ++ filter (λ (y : Entry). nat_lt id y.id) (x ∷ xs)) (below_false x.id id (omega arith))
    ∙ ap (λ ys. ys ++ filter (λ (y : Entry). nat_lt id y.id) (x ∷ xs)) none
    ∙ ap (λ b. cond b (x ∷ filter (λ (y : Entry). nat_lt id y.id) xs) (filter (λ (y : Entry). nat_lt id y.id) xs)) (below_true _ _ g)
    ∙ ap (λ ys. x ∷ ys) every

pub parts_whole : (id : ℕ) (xs : List Entry) → IsRising xs → IsAbsent id xs → filter (λ (y : Entry). nat_lt y.id id) xs ++ filter (λ (y : Entry). nat_lt id y.id) xs ≡ xs
parts_whole id [] r a = refl
parts_whole id (x ∷ xs) r a =
    parts_step id x xs r a (parts_whole id xs (pairs_rest (λ (y z : Entry). y.id < z.id) x xs r) (All-tail (λ (y : Entry). y.id ≢ id) x xs a)) (cases_order x.id id)

pub near_past : (p : Entry → Bool) (e : Entry) (xs : List Entry) → IsRising xs → IsAbsent e.id xs → p e ≡ false → filter p (placed e xs) ≡ filter p xs
near_past p e xs r a f =
    placed_split p e xs
    ∙ ap (λ b. filter (λ (x : Entry). nat_lt x.id e.id) (filter p xs) ++ cond b (e ∷ filter (λ (x : Entry). nat_lt e.id x.id) (filter p xs)) (filter (λ (x : Entry). nat_lt e.id x.id) (filter p xs))) f
    ∙ parts_whole e.id (filter p xs) (AllPairs-filter (λ (y z : Entry). y.id < z.id) p xs r) (All-filter p (λ (y : Entry). y.id ≢ e.id) xs a)

-- ---- a vector that was lent as a slice
pub refilled : {X : Type 0} (P : List X → Type 0) (n : ℕ) (ws q : List X) → length ws ≡ n → P ws → P (take n (ws ++ q))
refilled P n ws q e h = subst P (sym (take_at ws q n e)) h

-- ---- what is near each tile
pub put_near : (reach : ℤ) (xs : List Entry) (e : Entry) (area : Area) → IsRising xs → IsAbsent e.id xs → ((tile : ℕ) → has_tile area tile ≡ is_in (index_of reach xs) tile e) → IsPutNear e area (near_of (index_of reach xs)) (near_of (index_of reach (placed e xs)))
put_near reach xs e area r a same = record {
  inside = λ tile l t. near_with (is_in (index_of reach xs) tile) e xs (sym (same tile) ∙ t);
  outside = λ tile l t. near_past (is_in (index_of reach xs) tile) e xs r a (sym (same tile) ∙ t);
}

has_within_at : (l c r t w b : ℕ) → b ≤ 124 → (nat_le l c && nat_le c r && nat_le t w && nat_le w b) ≡ true → w ≤ 124
has_within_at l c r t w b h e = grind (arith, nat_tests)

pub has_within : (area : Area) (tile : ℕ) → has_tile area tile ≡ true → tile < tile_count
has_within area tile h = let w = has_within_at area.left (tile % 125) area.right area.top (tile / 125) area.bottom area.bottom_within h in omega arith

pub open_lists : (reach : ℤ) (xs : List Entry) (e : Entry) (area : Area) (tiles : List ℕ) (lists : List Shared) → IsSoundIndex (index_of reach xs) → IsAbsent e.id xs → AreShared (near_of (index_of reach xs)) tiles lists → CanTake e area tiles lists
open_lists reach xs e area tiles lists s a k tile d list t =
    let items = (k.each tile d list (has_within area tile t)).items in record {
      rising = subst IsRising (sym items) (AllPairs-filter (λ (y z : Entry). y.id < z.id) (is_in (index_of reach xs) tile) xs s.rising);
      absent = subst (IsAbsent e.id) (sym items) (All-filter (is_in (index_of reach xs) tile) (λ (y : Entry). y.id ≢ e.id) xs a);
    }

-- ---- an entry taken out
pub sound_without : (reach : ℤ) (xs ys : List Entry) (id : ℕ) → IsSoundIndex (index_of reach xs) → ys ≡ without id xs → IsSoundIndex (index_of reach ys)
sound_without reach xs ys id s e =
    subst (λ (zs : List Entry). IsSoundIndex (index_of reach zs)) (sym e) (record {
      reach_from = s.reach_from;
      reach_to = s.reach_to;
      rising = AllPairs-filter (λ (y z : Entry). y.id < z.id) (λ (x : Entry). not (x.id == id)) xs s.rising;
      fit = All-filter (λ (x : Entry). not (x.id == id)) (λ (x : Entry). FitsWithin (pos 2000000000) x.bounds) xs s.fit;
    })

near_cut : (p : Entry → Bool) (xs ys : List Entry) (e : Entry) → IsCut xs e ys → p e ≡ false → filter p ys ≡ filter p xs
near_cut p xs ys e c f =
    ap (filter p) c.is ∙ filter-append p c.prefix c.back
    ∙ sym (ap (filter p) c.was ∙ filter-append p c.prefix (e ∷ c.back) ∙ ap (λ b. filter p c.prefix ++ cond b (e ∷ filter p c.back) (filter p c.back)) f)

pub taken_near : (reach : ℤ) (xs ys : List Entry) (id : ℕ) (e : Entry) (area : Area) → IsCut xs e ys → ys ≡ without id xs → ((tile : ℕ) → has_tile area tile ≡ is_in (index_of reach xs) tile e) → IsTakenNear id area (near_of (index_of reach xs)) (near_of (index_of reach ys))
taken_near reach xs ys id e area cut w same = record {
  all = λ tile l. ap (filter (is_in (index_of reach xs) tile)) w ∙ filter_swap (is_in (index_of reach xs) tile) (λ (x : Entry). not (x.id == id)) xs;
  outside = λ tile l t. near_cut (is_in (index_of reach xs) tile) xs ys e cut (sym (same tile) ∙ t);
}

pub fits_cut : (reach : ℤ) (xs ys : List Entry) (e : Entry) → IsSoundIndex (index_of reach xs) → IsCut xs e ys → FitsWithin (pos 2000000000) e.bounds
fits_cut reach xs ys e s c = All-contains (λ (x : Entry). FitsWithin (pos 2000000000) x.bounds) xs e s.fit (subst (λ (zs : List Entry). Contains zs e) (sym c.was) (Contains-append_right c.prefix (e ∷ c.back) e (0, omega arith, refl)))

pub rising_lists : (reach : ℤ) (xs : List Entry) (area : Area) (tiles : List ℕ) (lists : List Shared) → IsSoundIndex (index_of reach xs) → AreShared (near_of (index_of reach xs)) tiles lists → AreRising area tiles lists
rising_lists reach xs area tiles lists s k tile d list t =
    subst IsRising (sym (k.each tile d list (has_within area tile t)).items) (AllPairs-filter (λ (y z : Entry). y.id < z.id) (is_in (index_of reach xs) tile) xs s.rising)

-- ---- what is lent
meets_past_at : (l c r t w b : ℕ) → b ≤ 124 → 125 ≤ w → (nat_le l c && nat_le c r && nat_le t w && nat_le w b) ≡ false
meets_past_at l c r t w b h e = grind (arith, nat_tests)

pub near_beyond : (index : PlainIndex) (tile : ℕ) → tile_count ≤ tile → [] ≡ near_of index tile
near_beyond index tile h =
    sym (filter_none (is_in index tile) index.entries (λ k d l. meets_past_at _ (tile % 125) _ _ (tile / 125) _ (lane-within (widened (slice_index_or index.entries k d).bounds (margin index)).bottom) (omega arith)))

pub wide_from : (reach : ℤ) → pos 0 ≤ℤ reach → pos 0 ≤ℤ (reach +ℤ reach)
wide_from reach h = omega (arith, ints)

pub complete : (index : PlainIndex) → IsSoundIndex index → IsComplete index
complete index s a b ha hb near =
    let P : Entry → Type 0 = λ x. FitsWithin (pos 2000000000) x.bounds in
    let fa : FitsWithin (pos 2000000000) a.bounds = All-contains P index.entries a s.fit ha in
    let fb : FitsWithin (pos 2000000000) b.bounds = All-contains P index.entries b s.fit hb in
    let wide : pos 0 ≤ℤ margin index = wide_from index.reach s.reach_from in
    let tile = owner_of (margin index) a.bounds b.bounds in
    let both = owns_both (margin index) a.bounds b.bounds wide fa fb near in (
      contains_filter (is_in index tile) index.entries a ha both.0,
      contains_filter (is_in index tile) index.entries b hb both.1,
    )

-- ---- the margin, as the code has it
doubled : (reach : ℤ) → pos 0 ≤ℤ reach → reach ≤ℤ pos 500000000 → passed (pos 2 *ℤ passed reach) ≡ reach +ℤ reach
doubled reach h k = omega (arith, ints)

pub margin_is : (inside : PlainIndex) (index : PlainIndex) → inside ≡ index → IsSoundIndex inside → passed (pos 2 *ℤ passed inside.reach) ≡ margin index
margin_is inside index e s = doubled inside.reach s.reach_from s.reach_to ∙ ap (λ (i : PlainIndex). margin i) e

pub area_tiles : (reach : ℤ) (xs : List Entry) (area : Area) (e : Entry) → IsSoundIndex (index_of reach xs) → ((tile : ℕ) → has_tile area tile ≡ meets_tile (widened e.bounds (passed (pos 2 *ℤ passed reach))) tile) → (tile : ℕ) → has_tile area tile ≡ is_in (index_of reach xs) tile e
area_tiles reach xs area e s h tile = h tile ∙ ap (λ m. meets_tile (widened e.bounds m) tile) (doubled reach s.reach_from s.reach_to)

-- ---- tiles that hold an entry, and tiles that are met by one of the boxes
pub held_tile : (inside index : PlainIndex) (tile : ℕ) (entries : Vec Entry Global) (b : Bool) → entries.items ≡ near_of inside tile → inside ≡ index → b ≡ (vec_len entries == 0) → not b ≡ is_held index tile
held_tile inside index tile entries b is s h =
    ap not h ∙ ap (λ n. not (n == 0)) entries.ok.0 ∙ ap (λ (xs : List Entry). not (length xs == 0)) is
    ∙ any_kept (is_in inside tile) inside.entries ∙ ap (λ (i : PlainIndex). is_held i tile) s

pub dirty_is : (inside index : PlainIndex) (boxes : List Bounds) (all : Bool) (old new now : List Bool) → inside ≡ index → IsSoundIndex inside → ((tile : ℕ) (d : Bool) → tile < tile_count → slice_index_or old tile d ≡ all)
    → ((tile : ℕ) (d : Bool) → tile < tile_count → slice_index_or new tile d ≡ (slice_index_or old tile d || is_met_by (passed (pos 2 *ℤ passed inside.reach)) boxes tile)) → now ≡ new
    → filter (λ tile. is_held index tile && slice_index_or now tile false) (numbers_below tile_count) ≡ dirty_of index boxes all
dirty_is inside index boxes all old new now s sound o n e =
    filter_same (λ tile. is_held index tile && slice_index_or now tile false) (λ tile. is_held index tile && (all || is_met_by (margin index) boxes tile)) tile_count
    (λ tile l. ap (λ b. is_held index tile && b)
    (ap (λ (ms : List Bool). slice_index_or ms tile false) e ∙ n tile false l ∙ ap (λ b. b || is_met_by (passed (pos 2 *ℤ passed inside.reach)) boxes tile) (o tile false l)
    ∙ ap (λ m. all || is_met_by m boxes tile) (margin_is inside index s sound)))

no_boxes : (boxes : List Bounds) → (length boxes == 0) ≡ true → boxes ≡ []
no_boxes [] h = refl
no_boxes (b ∷ bs) h = grind (arith, nat_tests)

-- what is marked lies in the span of what the boxes meet
pub marks_span : (boxes : List Bounds) (m : ℤ) (all : Bool) (old new now : List Bool) (span : Span) → ((tile : ℕ) (d : Bool) → tile < tile_count → slice_index_or old tile d ≡ all)
    → ((tile : ℕ) (d : Bool) → tile < tile_count → slice_index_or new tile d ≡ (slice_index_or old tile d || is_met_by m boxes tile)) → now ≡ new
    → HasAll (λ tile. all || is_met_by m boxes tile) span → HasAll (λ tile. slice_index_or now tile false) span
marks_span boxes m all old new now span o n e h =
    let at : (tile : ℕ) → tile < tile_count → slice_index_or now tile false ≡ (all || is_met_by m boxes tile) =
    λ tile l. ap (λ (ms : List Bool). slice_index_or ms tile false) e ∙ n tile false l ∙ ap (λ b. b || is_met_by m boxes tile) (o tile false l) in
    record {
      first = h.first;
      end = h.end;
      before = λ tile l. at tile (let f = h.first in omega (arith, l, f)) ∙ h.before tile l;
      past = λ tile g l. at tile l ∙ h.past tile g l;
    }

-- without boxes, and not of all tiles, there is none
pub dirty_none : (index : PlainIndex) (boxes : List Bounds) (all : Bool) → (length boxes == 0) ≡ true → all ≡ false → [] ≡ dirty_of index boxes all
dirty_none index boxes all e f = sym (
    filter_nothing (λ tile. is_held index tile && (all || is_met_by (margin index) boxes tile)) tile_count
    (λ tile. ap (λ b. is_held index tile && (b || is_met_by (margin index) boxes tile)) f ∙ ap (λ (bs : List Bounds). is_held index tile && (false || is_met_by (margin index) bs tile)) (no_boxes boxes e) ∙ and_no (is_held index tile))
    )
