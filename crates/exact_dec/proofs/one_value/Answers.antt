use Rattle.exact_dec.proofs.Grammar.{one_spelling}
use Rattle.exact_dec.proofs.one_value.Goals as goal

pub returns : goal.returns
returns c = one_spelling
