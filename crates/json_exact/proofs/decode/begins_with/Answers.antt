use Rattle.json_exact.proofs.Prefixes.{too_short}
use Rattle.json_exact.proofs.decode.begins_with.Goals as goal

pub returns-then-text-prefix-clause-value : goal.returns-then-text-prefix-clause-value
returns-then-text-prefix-clause-value c = too_short c.args.prefix.now c.args.text.now c.if-text-prefix.true
