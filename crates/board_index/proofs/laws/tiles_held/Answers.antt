use Rattle.board_index.proofs.Held.{all_held, all_dirty}
use Rattle.board_index.proofs.laws.tiles_held.Goals as goal

pub returns-clause-held : goal.returns-clause-held
returns-clause-held c = λ board index is. all_held board index is

pub returns-clause-dirty : goal.returns-clause-dirty
returns-clause-dirty c = λ board index boxes is. all_dirty board index boxes is
