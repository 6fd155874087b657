use Rattle.std.proofs.Common.{◌≤◌, length, take}
use Rattle.std.specs.Io.KnownBytes.{Consumes}
use Rattle.drc_outside.proofs.files.fill.Given as goal

abbrev pub invariant-loop : goal.invariant-loop
invariant-loop g l = record {
  within : l.done ≤ length l.buf;
  bytes : Consumes (g.F.Read.remaining l.initial.file) (g.F.Read.remaining l.file) (take l.done l.buf);
}
