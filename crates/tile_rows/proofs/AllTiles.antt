-- The tiles of an index that are gone through: there are few, and all of them are enough for any items that changed.
use Rattle.std.proofs.Common.{◌≡◌, ap, sym, subst, ℕ, zero, suc, ◌<◌, ◌≤◌, Bool, true, ◌&&◌, ◌||◌, List, [], length, refl, arith}
use Rattle.std.specs.List.{Contains}
use Rattle.std.specs.List.Sorted.{IsStrictlyIncreasing}
use Rattle.std.proofs.lemmas.List.{length_push}
use Rattle.std.proofs.lemmas.List.Folds.{list_any_at}
use Rattle.std.proofs.lemmas.List.Kept.{IsStrictlyIncreasing-filter}
use Rattle.std.proofs.lemmas.List.Sums.{length-filter, count_by-le-length}
use Rattle.geo_seg.specs.declared.boxes.Bounds.{Bounds}
use Rattle.box_index.specs.declared.entry.Entry.{Entry}
use Rattle.box_index.specs.Tiles.{PlainIndex, is_held, is_met_by, is_in, margin, numbers_below, dirty_of, tile_count}
use Rattle.box_index.proofs.Buckets.{contains_filter}
use Rattle.board_index.proofs.Numbers.{all_rise, has_number}
use Rattle.row_check.specs.Whole.{AreEnough}

numbers_long : (n : ℕ) → length (numbers_below n) ≡ n
unfolding numbers_below
numbers_long zero = refl
numbers_long (suc n) = let e = numbers_long n in let f = length_push (numbers_below n) n in omega (arith, e, f)

pub few_tiles : (index : PlainIndex) (boxes : List Bounds) (all : Bool) (tiles : List ℕ) → tiles ≡ dirty_of index boxes all → length tiles ≤ 15625
few_tiles index boxes all tiles e =
    let p : ℕ → Bool = λ tile. is_held index tile && (all || is_met_by (margin index) boxes tile) in
    let long : length (numbers_below tile_count) ≡ tile_count = numbers_long tile_count in
    let same : length tiles ≡ length (dirty_of index boxes all) = ap (λ (ts : List ℕ). length ts) e in
    omega (arith, long, same, length-filter p (numbers_below tile_count), count_by-le-length p (numbers_below tile_count))

pub tiles_rise : (index : PlainIndex) (boxes : List Bounds) (all : Bool) (tiles : List ℕ) → tiles ≡ dirty_of index boxes all → IsStrictlyIncreasing tiles
tiles_rise index boxes all tiles e =
    subst IsStrictlyIncreasing (sym e) (IsStrictlyIncreasing-filter (λ tile. is_held index tile && (all || is_met_by (margin index) boxes tile)) (numbers_below tile_count) (all_rise tile_count))

pub all_enough : (index : PlainIndex) (ids tiles : List ℕ) → tiles ≡ dirty_of index [] true → AreEnough index ids tiles
all_enough index ids tiles e = record { rise = tiles_rise index [] true tiles e; all = all }
  where
    all : (tile : ℕ) (entry : Entry) → tile < tile_count → Contains index.entries entry → Contains ids entry.id → is_in index tile entry ≡ true → Contains tiles tile
    all tile entry lt has among met =
        let held : is_held index tile ≡ true = list_any_at (is_in index tile) index.entries has.0 entry has.1 (subst (λ (x : Entry). is_in index tile x ≡ true) (sym has.2) met) in
        let test : (is_held index tile && (true || is_met_by (margin index) [] tile)) ≡ true = ap (λ t. t && true) held in
        subst (λ ts. Contains ts tile) (sym e) (contains_filter (λ t. is_held index t && (true || is_met_by (margin index) [] t)) (numbers_below tile_count) tile (has_number tile_count tile lt) test)
