-- Ids that are gathered from the tiles that a box meets.
use Rattle.std.proofs.Common.{◌≡◌, ◌⊎◌, inl, inr, sym, ap, subst, ◌∙◌, ℕ, ◌+◌, ◌<◌, ◌≤◌, ℤ, pos, ◌+ℤ◌, ◌-ℤ◌, ◌≤ℤ◌, int_le, Bool, true, false, ◌&&◌, List, [], ◌∷◌, ◌++◌, length, get_or, take, Contains, arith}
use Rattle.std.proofs.lemmas.Int.{ints}
use Rattle.std.proofs.lemmas.Bool.{cases_lt, cases_order, and_from}
use Rattle.std.proofs.lemmas.List.{take_more, get_or_default}
use Rattle.std.proofs.lemmas.List.Elements.{All-contains, All-contains_itself, All-filter, Contains-append_left, Contains-push, Contains-push_cases}
use Rattle.geo_seg.specs.declared.boxes.Bounds.{Bounds}
use Rattle.geo_seg.specs.Boxes.{FitsWithin, BoxesMeet, widened, do_boxes_meet, are_near}
use Rattle.box_index.specs.declared.area.Area.{Area}
use Rattle.box_index.specs.declared.entry.Entry.{Entry}
use Rattle.box_index.specs.Areas.{has_tile, end_of}
use Rattle.box_index.specs.Tiles.{PlainIndex, IsSoundIndex, margin, meets_tile, near_of, is_in, owner_of}
use Rattle.box_index.specs.Reached.{IsMet, HasReached}
use Rattle.box_index.proofs.Buckets.{contains_filter}
use Rattle.box_index.proofs.TileLemmas.{owns_both, four_le}

both_ways : (b : Bool) → b ≡ true → b ≡ false → ⊥
both_ways b e f = cc

-- ---- boxes that meet
int_le_true : (x y : ℤ) → x ≤ℤ y → int_le x y ≡ true
int_le_true x y h = grind (arith, ints)

pub meet_true : (b c : Bounds) → BoxesMeet b c → do_boxes_meet b c ≡ true
meet_true b c m =
    and_from (int_le b.left c.right && int_le c.left b.right) (int_le b.top c.bottom && int_le c.top b.bottom)
    (and_from (int_le b.left c.right) (int_le c.left b.right) (int_le_true b.left c.right m.left) (int_le_true c.left b.right m.right))
    (and_from (int_le b.top c.bottom) (int_le c.top b.bottom) (int_le_true b.top c.bottom m.top) (int_le_true c.top b.bottom m.bottom))

pub meet_sides : (b c : Bounds) → do_boxes_meet b c ≡ true → BoxesMeet b c
meet_sides b c h = let s = four_le b.left c.right c.left b.right b.top c.bottom c.top b.bottom h in record { left = s.0; right = s.1; top = s.2; bottom = s.3 }

pub wider_meets : (margin : ℤ) (b c : Bounds) → pos 0 ≤ℤ margin → BoxesMeet b c → BoxesMeet (widened b margin) c
wider_meets margin b c from m = record {
  left = less b.left c.right m.left;
  right = more c.left b.right m.right;
  top = less b.top c.bottom m.top;
  bottom = more c.top b.bottom m.bottom;
}
  where
    less : (x y : ℤ) → x ≤ℤ y → (x -ℤ margin) ≤ℤ y
    less x y h = omega (arith, ints)

    more : (x y : ℤ) → x ≤ℤ y → x ≤ℤ (y +ℤ margin)
    more x y h = omega (arith, ints)

-- ---- the entries of a tile
abbrev pub no_entry : Entry
no_entry = record { id = 0; bounds = record { left = pos 0; top = pos 0; right = pos 0; bottom = pos 0 } }

pub itself : (es : List Entry) (i : ℕ) → i < length es → get_or es i no_entry ≡ get_or es i (get_or es i no_entry)
itself es i lt = get_or_default es i no_entry (get_or es i no_entry) lt

pub reach_none : (box : Bounds) (old : List ℕ) → HasReached box [] old old
reach_none box old = record { kept = λ id c. c; met = λ e c m. let lt = c.1 in absurd (omega arith); only = λ id c. inl c }

-- an entry among these is one among those
among_more : (box : Bounds) (es others : List Entry) (id : ℕ) → ((e : Entry) → Contains es e → Contains others e) → IsMet box es id → IsMet box others id
among_more box es others id more m = record { entry = m.entry; among = more m.entry m.among; same = m.same; meets = m.meets }

module _ (box : Bounds) (es : List Entry) (i : ℕ) (one : Entry) (lt : i < length es) (is : one ≡ get_or es i one) (old now : List ℕ) (so_far : HasReached box (take i es) old now) where
  seen : take (i + 1) es ≡ take i es ++ one ∷ []
  seen = take_more es i one lt ∙ ap (λ (e : Entry). take i es ++ e ∷ []) (sym is)

  before : (id : ℕ) → Contains old id ⊎ IsMet box (take i es) id → Contains old id ⊎ IsMet box (take i es ++ one ∷ []) id
  before id (inl c) = inl c
  before id (inr m) = inr (among_more box (take i es) (take i es ++ one ∷ []) id (λ e c. Contains-append_left (take i es) (one ∷ []) e c) m)

  -- its box meets this one
  pub reach_more : do_boxes_meet box one.bounds ≡ true → HasReached box (take (i + 1) es) old (now ++ one.id ∷ [])
  reach_more meets = subst (λ (l : List Entry). HasReached box l old (now ++ one.id ∷ [])) (sym seen) (record { kept = λ id c. Contains-append_left now (one.id ∷ []) id (so_far.kept id c); met = met; only = only })
    where
      met : (e : Entry) → Contains (take i es ++ one ∷ []) e → BoxesMeet box e.bounds → Contains (now ++ one.id ∷ []) e.id
      met e c m = elim (Contains-push_cases (take i es) one e c) [
        | inl old ↦ Contains-append_left now (one.id ∷ []) e.id (so_far.met e old m)
        | inr same ↦ subst (λ (x : Entry). Contains (now ++ one.id ∷ []) x.id) same (Contains-push now one.id)
      ]

      only : (id : ℕ) → Contains (now ++ one.id ∷ []) id → Contains old id ⊎ IsMet box (take i es ++ one ∷ []) id
      only id c = elim (Contains-push_cases now one.id id c) [
        | inl there ↦ before id (so_far.only id there)
        | inr same ↦ inr (record { entry = one; among = Contains-push (take i es) one; same = same; meets = meet_sides box one.bounds meets })
      ]

  -- it does not
  pub reach_skip : do_boxes_meet box one.bounds ≡ false → HasReached box (take (i + 1) es) old now
  reach_skip apart = subst (λ (l : List Entry). HasReached box l old now) (sym seen) (record { kept = so_far.kept; met = met; only = λ id c. before id (so_far.only id c) })
    where
      met : (e : Entry) → Contains (take i es ++ one ∷ []) e → BoxesMeet box e.bounds → Contains now e.id
      met e c m = elim (Contains-push_cases (take i es) one e c) [
        | inl old ↦ so_far.met e old m
        | inr same ↦ absurd (both_ways (do_boxes_meet box e.bounds) (meet_true box e.bounds m) (subst (λ (x : Entry). do_boxes_meet box x.bounds ≡ false) same apart))
      ]

-- ---- the tiles of an area

-- what holds when the tiles of the area before this one were asked
pub record IsWalked (index : PlainIndex) (area : Area) (box : Bounds) (old ids : List ℕ) (here : ℕ) : Type 0 where
  pub next : here < end_of area → has_tile area here ≡ true
  pub kept : (id : ℕ) → Contains old id → Contains ids id
  pub met : (tile : ℕ) → tile < here → has_tile area tile ≡ true → (e : Entry) → Contains (near_of index tile) e → BoxesMeet box e.bounds → Contains ids e.id
  pub only : (id : ℕ) → Contains ids id → Contains old id ⊎ IsMet box index.entries id

module _ (index : PlainIndex) (area : Area) (box : Bounds) (old : List ℕ) where
  pub walk_begun : (here : ℕ) → (here < end_of area → has_tile area here ≡ true) → ((tile : ℕ) → tile < here → has_tile area tile ≡ false) → IsWalked index area box old old here
  walk_begun here has none = record { next = has; kept = λ id c. c; met = λ tile lt t e c m. absurd (both_ways (has_tile area tile) t (none tile lt)); only = λ id c. inl c }

  in_index : (tile : ℕ) (e : Entry) → Contains (near_of index tile) e → Contains index.entries e
  in_index tile e c = All-contains (Contains index.entries) (near_of index tile) e (All-filter (is_in index tile) (Contains index.entries) index.entries (All-contains_itself index.entries)) c

  pub walk_more : (now then : List ℕ) (here : ℕ) → IsWalked index area box old now here → HasReached box (near_of index here) now then
      → (next : ℕ) → here < next → ((tile : ℕ) → here < tile → tile < next → has_tile area tile ≡ false) → (next < end_of area → has_tile area next ≡ true) → IsWalked index area box old then next
  walk_more now then here w h next lt none inside = record { next = inside; kept = λ id c. h.kept id (w.kept id c); met = met; only = only }
    where
      met : (tile : ℕ) → tile < next → has_tile area tile ≡ true → (e : Entry) → Contains (near_of index tile) e → BoxesMeet box e.bounds → Contains then e.id
      met tile below t e c m = elim (cases_order tile here) [
        | inl same ↦ h.met e (subst (λ (k : ℕ). Contains (near_of index k) e) same c) m
        | inr (inl before) ↦ h.kept e.id (w.met tile before t e c m)
        | inr (inr after) ↦ absurd (both_ways (has_tile area tile) t (none tile after below))
      ]

      only : (id : ℕ) → Contains then id → Contains old id ⊎ IsMet box index.entries id
      only id c = elim (h.only id c) [ inl there ↦ w.only id there | inr m ↦ inr (among_more box (near_of index here) index.entries id (in_index here) m) ]

  pub walk_done : (ids : List ℕ) (here : ℕ) → IsWalked index area box old ids here → IsSoundIndex index → FitsWithin (pos 2000000000) box
      → ((tile : ℕ) → has_tile area tile ≡ meets_tile (widened box (margin index)) tile) → ((tile : ℕ) → here ≤ tile → has_tile area tile ≡ false) → HasReached box index.entries old ids
  walk_done ids here w sound fits tiles past = record { kept = w.kept; met = met; only = w.only }
    where
      met : (e : Entry) → Contains index.entries e → BoxesMeet box e.bounds → Contains ids e.id
      met e c m =
          let from : pos 0 ≤ℤ margin index = (let r = sound.reach_from in omega (arith, ints)) in
          let tile = owner_of (margin index) box e.bounds in
          let near : are_near (margin index) box e.bounds ≡ true = meet_true (widened box (margin index)) e.bounds (wider_meets (margin index) box e.bounds from m) in
          let both = owns_both (margin index) box e.bounds from fits (All-contains (λ (x : Entry). FitsWithin (pos 2000000000) x.bounds) index.entries e sound.fit c) near in
          let has : has_tile area tile ≡ true = tiles tile ∙ both.0 in
          elim (cases_lt tile here) [
            | inl before ↦ w.met tile before has e (contains_filter (is_in index tile) index.entries e c both.1) m
            | inr after ↦ absurd (both_ways (has_tile area tile) has (past tile after))
          ]
