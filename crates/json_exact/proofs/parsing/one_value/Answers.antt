use Rattle.json_exact.proofs.OneValue.{one_value}
use Rattle.json_exact.proofs.parsing.one_value.Goals as goal

pub returns : goal.returns
returns c = λ levels more text v w p q. one_value levels more text v w p q
