use Rattle.std.proofs.Common.{◌≡◌, drop, map}
use Rattle.std.specs.Prelude.{find}
use Rattle.net_class.specs.ClassesOf.{is_named}
use Rattle.net_class.specs.ClassValues.{written_class}
use Rattle.net_class.proofs.drafts.find.Given as goal

-- the first among those that are left is the first of all
abbrev pub invariant-loop-draft : goal.invariant-loop-draft
invariant-loop-draft l = find (is_named l.name) (map written_class (drop l.draft-index l.drafts)) ≡ find (is_named l.name) (map written_class l.drafts)
