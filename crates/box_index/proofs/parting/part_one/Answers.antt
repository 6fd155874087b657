use Rattle.std.proofs.Common.{◌≡◌, ◌<◌, sym, subst, true, List, length, slice_index_or, arith}
use Rattle.std.proofs.lemmas.List.{get_or_read}
use Rattle.box_index.specs.declared.area.Area.{Area}
use Rattle.box_index.specs.declared.shared.Shared.{Shared}
use Rattle.box_index.specs.Areas.{has_tile}
use Rattle.box_index.specs.SharedLists.{AreShared, HasSameEntries}
use Rattle.box_index.proofs.Buckets.{has_within}
use Rattle.box_index.proofs.Ones.{one_shared}
use Rattle.box_index.proofs.parting.part_one.Goals as goal

pub returns-clause-shared : goal.returns-clause-shared
returns-clause-shared c near k =
    let area = c.args.area in
    let tiles = c.args.tiles.now in
    let lists = c.args.lists.now.items in
    let first = c.first-first.result in
    let has = c.first-first.ensures.inside in
    let made = c.in_ok-made.made in
    let n = slice_index_or tiles first 0 in
    let low : n < length lists = c.requires.homed.within first 0 (has_within area first has) in
    let at = λ (s : Shared). get_or_read lists n c.index-list.result.now low c.index-list.ensures s in
    let to : c.in-Ok.to ≡ length lists = omega (arith, c.in-Ok.ensures, c.len.ensures) in
    subst (λ (ls : List Shared). AreShared near c.fill_area.new.values ls) (sym c.in_ok-push.ensures.items)
    (one_shared area tiles c.fill_area.new.values lists made c.in-Ok.to first to c.requires.homed c.requires.even has c.fill_area.ensures
    (λ s. subst (λ (l : Shared). HasSameEntries l made) (at s) c.in_ok-made.ensures.alike)
    (λ tile s t u. subst (λ (a : Area). has_tile a tile ≡ true) (sym c.in_ok-made.ensures.home) (c.common.ensures.all tile (subst (λ (l : Shared). has_tile l.home tile ≡ true) (sym (at s)) t) u))
    near k)
