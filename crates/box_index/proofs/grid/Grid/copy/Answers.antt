use Rattle.std.proofs.Common.{◌∙◌}
use Rattle.box_index.proofs.Copies.{copied_shared}
use Rattle.box_index.proofs.grid.Grid.copy.Goals as goal

pub returns-clause-shared : goal.returns-clause-shared
returns-clause-shared c near k =
    copied_shared near c.args.self.now.tiles.items c.in_ok-copy_numbers.field-0.items c.args.self.now.lists.items c.in_ok-copy_lists.field-0.items
    (c.in_ok-copy_numbers.ensures ∙ c.deref.ensures.value) c.in_ok-copy_lists.ensures k
