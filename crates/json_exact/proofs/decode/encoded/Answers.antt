use Rattle.json_exact.proofs.Prefixes.{one_byte, two_bytes, three_bytes, four_bytes}
use Rattle.json_exact.proofs.decode.encoded.Goals as goal

pub returns-then-code-lt128-clause-bytes : goal.returns-then-code-lt128-clause-bytes
returns-then-code-lt128-clause-bytes c = one_byte c.args.code c.if-code-lt128.true

pub returns-then-code-lt2048-clause-bytes : goal.returns-then-code-lt2048-clause-bytes
returns-then-code-lt2048-clause-bytes c = two_bytes c.args.code c.if-code-lt128.false c.if-code-lt2048.true

pub returns-then-code-lt65536-clause-bytes : goal.returns-then-code-lt65536-clause-bytes
returns-then-code-lt65536-clause-bytes c = three_bytes c.args.code c.if-code-lt2048.false c.if-code-lt65536.true

pub returns-else-code-lt65536-clause-bytes : goal.returns-else-code-lt65536-clause-bytes
returns-else-code-lt65536-clause-bytes c = four_bytes c.args.code c.if-code-lt65536.false
