use Rattle.std.proofs.Common.{drop, ◌≡◌}
use Rattle.json_exact.specs.ByteComparisons.{begins_with}
use Rattle.json_exact.proofs.decode.begins_with.Given as goal

abbrev pub invariant-bytes : goal.invariant-bytes
invariant-bytes l = begins_with l.prefix l.text ≡ begins_with (drop l.i l.prefix) (drop l.i l.text)
