use Rattle.std.proofs.Common.{subst, sym, List, [], ◌∷◌, ◌++◌}
use Rattle.std.specs.List.{AllZip}
use Rattle.std.proofs.lemmas.List.Elements.{AllZip-push}
use Rattle.box_index.specs.declared.shared.Shared.{Shared}
use Rattle.box_index.specs.SharedLists.{IsEqual}
use Rattle.box_index.proofs.grid.push_copy.Goals as goal

pub returns : goal.returns
returns c lists so_far =
    subst (λ (copies : List Shared). AllZip IsEqual (lists ++ c.args.list.now ∷ []) copies) (sym c.in_ok-push.ensures.items)
    (AllZip-push IsEqual lists c.args.copies.now.items c.args.list.now c.in_ok-copy.field-0 so_far c.in_ok-copy.ensures)
