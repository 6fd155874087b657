use Rattle.exact_dec.proofs.ReadBack.{read_back}
use Rattle.exact_dec.proofs.read_back.Goals as goal

pub returns : goal.returns
returns c = read_back
