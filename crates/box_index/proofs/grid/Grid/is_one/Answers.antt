use Rattle.std.proofs.Common.{sym, subst, slice_index_or}
use Rattle.box_index.specs.declared.shared.Shared.{Shared}
use Rattle.box_index.specs.Areas.{IsSubarea}
use Rattle.box_index.proofs.grid.Grid.is_one.Goals as goal

pub returns-then-is_known_even-clause-lies : goal.returns-then-is_known_even-clause-lies
returns-then-is_known_even-clause-lies c is tile d s t =
    subst (λ n. IsSubarea (slice_index_or c.args.self.now.lists.items n s).home c.args.area) (sym (c.is_known_even.ensures c.if-is_known_even.true tile c.first.result d t c.first.ensures.inside))
    (subst (λ (list : Shared). IsSubarea list.home c.args.area) (c.at.ensures d s) (c.lies_in.ensures is))
