use Rattle.std.proofs.Common.{◌∙◌, ap, take, subst, sym, List, [], ◌∷◌, ◌++◌}
use Rattle.std.specs.List.{AllZip}
use Rattle.std.proofs.lemmas.List.{take_more}
use Rattle.box_index.specs.declared.shared.Shared.{Shared}
use Rattle.box_index.specs.SharedLists.{IsEqual}
use Rattle.box_index.proofs.grid.copy_lists.Goals as goal

pub loop-list-preserved : goal.loop-list-preserved
loop-list-preserved c =
    let ls = c.deref-list-items.result.now in
    let at = c.loop-list in
    subst (λ (l : List Shared). AllZip IsEqual l c.push_copy.new.copies.items)
    (ap (λ (x : Shared). take at.list-index ls ++ x ∷ []) c.list-item.is ∙ sym (take_more ls at.list-index c.list-item.result c.loop-list-test.true))
    (c.in_ok-push_copy.ensures (take at.list-index ls) at.invariant)
