use Rattle.std.proofs.Common.{◌≡◌, ◌≤◌, length, filter, take}
use Rattle.net_groups.specs.NetParts.{is_open}
use Rattle.run_reports.proofs.writing.count_open.Given as goal

abbrev pub invariant-loop-part : goal.invariant-loop-part
invariant-loop-part l = (l.count ≡ length (filter is_open (take l.part-index l.parts))) × (l.count ≤ l.part-index)
