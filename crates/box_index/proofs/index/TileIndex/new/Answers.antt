use Rattle.std.proofs.Common.{rules}
use Rattle.int_algebra.proofs.Scalars.{passed}
use Rattle.box_index.proofs.Vacancies.{none_held}
use Rattle.box_index.proofs.index.TileIndex.new.Goals as goal

pub invariant_of-result : goal.invariant_of-result
invariant_of-result c = (search rules, search rules, search rules, none_held (passed c.args.reach) c.new.result c.new.ensures)
