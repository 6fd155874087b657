use Rattle.std.proofs.Common.{◌≡◌, ◌∙◌, ap, sym, subst, length, ℤ, List}
use Rattle.box_index.specs.declared.entry.Entry.{Entry}
use Rattle.box_index.specs.Tiles.{PlainIndex, IsSoundIndex, held_of, near_of}
use Rattle.box_index.specs.SharedLists.{AreShared}
use Rattle.box_index.proofs.Buckets.{index_of}
use Rattle.box_index.proofs.Copies.{same_reach}
use Rattle.box_index.proofs.index.TileIndex.copy.Goals as goal

pub invariant_of-result : goal.invariant_of-result
invariant_of-result c =
    let reach = c.self.inside.reach in
    let xs = c.self.inside.boxes in
    let copy = c.in_ok-copy-2.field-0 in
    let same = ap (λ (n : ℤ). index_of n c.in_ok-copy.field-0) (same_reach reach xs c.self.invariant.0) ∙ ap (λ (es : List Entry). index_of reach es) c.in_ok-copy.ensures in (
      subst (λ (i : PlainIndex). IsSoundIndex i) (sym same) c.self.invariant.0,
      subst (λ (i : PlainIndex). AreShared (near_of i) copy.tiles.items copy.lists.items) (sym same) (c.in_ok-copy-2.ensures.shared (near_of (index_of reach xs)) c.self.invariant.1),
      c.in_ok-copy-2.ensures.even c.self.invariant.2,
      subst (λ (i : PlainIndex). c.self.inside.held ≡ length (held_of i)) (sym same) c.self.invariant.3,
    )
