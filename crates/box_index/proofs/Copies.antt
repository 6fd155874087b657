-- An index that was copied.
use Rattle.std.proofs.Common.{◌≡◌, ◌∙◌, sym, subst, ℕ, ◌<◌, true, ℤ, List, slice_index_or, arith}
use Rattle.std.specs.List.{All, AllZip}
use Rattle.std.proofs.lemmas.List.Elements.{AllZip-get_or, length_all_zip}
use Rattle.std.proofs.lemmas.Int.{ints}
use Rattle.int_algebra.proofs.Scalars.{passed}
use Rattle.box_index.specs.declared.entry.Entry.{Entry}
use Rattle.box_index.specs.declared.area.Area.{Area}
use Rattle.box_index.specs.declared.corners.Corner.{Corner}
use Rattle.box_index.specs.declared.shared.Shared.{Shared}
use Rattle.box_index.specs.Areas.{has_tile}
use Rattle.box_index.specs.EntryOrigins.{BeginsBy}
use Rattle.box_index.specs.SharedLists.{AreShared, IsEqual, list_at}
use Rattle.box_index.specs.Tiles.{IsSoundIndex, tile_count}
use Rattle.box_index.proofs.TileLemmas.{passed_is}
use Rattle.box_index.proofs.Buckets.{index_of}

copied_at : (near : ℕ → List Entry) (tiles : List ℕ) (lists lists' : List Shared) (same : AllZip IsEqual lists lists') → AreShared near tiles lists → (tile d : ℕ) (s : Shared) → tile < tile_count → IsEqual (list_at tiles lists tile d s) (list_at tiles lists' tile d s)
copied_at near tiles lists lists' same k tile d s l = AllZip-get_or IsEqual lists lists' (slice_index_or tiles tile d) s s same (k.homed.within tile d l)

pub copied_shared : (near : ℕ → List Entry) (tiles tiles' : List ℕ) (lists lists' : List Shared) → tiles' ≡ tiles → AllZip IsEqual lists lists' → AreShared near tiles lists → AreShared near tiles' lists'
copied_shared near tiles tiles' lists lists' e same k =
    subst (λ (ts : List ℕ). AreShared near ts lists') (sym e) (record {
      homed = record {
        long = k.homed.long;
        within = λ tile d l. let long = length_all_zip IsEqual lists lists' same in let w = k.homed.within tile d l in omega (arith, long, w);
        home = λ tile d s l. subst (λ (a : Area). has_tile a tile ≡ true) (sym (copied_at near tiles lists lists' same k tile d s l).home) (k.homed.home tile d s l);
      };
      each = λ tile d s l. let one = copied_at near tiles lists lists' same k tile d s l in let was = k.each tile d s l in record {
        items = one.items ∙ was.items;
        begun = subst (λ (c : Corner). All (BeginsBy c) (near tile)) (sym one.last) was.begun;
      };
    })

pub same_reach : (reach : ℤ) (xs : List Entry) → IsSoundIndex (index_of reach xs) → passed reach ≡ reach
same_reach reach xs s = passed_is reach (let l = s.reach_from in omega (arith, ints)) (let l = s.reach_to in omega (arith, ints))
