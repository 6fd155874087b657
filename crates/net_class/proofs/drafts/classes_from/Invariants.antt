use Rattle.std.proofs.Common.{◌≡◌, map}
use Rattle.net_class.specs.ClassesOf.{class_from}
use Rattle.net_class.specs.ClassValues.{written_class, plain_class}
use Rattle.net_class.proofs.drafts.classes_from.Given as goal

abbrev pub invariant-loop-draft : goal.invariant-loop-draft
invariant-loop-draft l = map plain_class l.classes.items ≡ map (class_from l.default.nm) (map written_class l.yielded)
