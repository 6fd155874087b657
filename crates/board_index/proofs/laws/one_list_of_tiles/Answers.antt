use Rattle.board_index.proofs.OneList.{one_list_of_tiles}
use Rattle.board_index.proofs.laws.one_list_of_tiles.Goals as goal

pub returns : goal.returns
returns c = λ board reach tiles others h k. one_list_of_tiles board reach tiles others h k
