use Rattle.std.specs.List.{AllWithin}
use Rattle.item_copper.proofs.Meeting.{MeetsSome}
use Rattle.item_copper.proofs.touch.copper_meets.Given as goal

abbrev pub invariant-loop-part : goal.invariant-loop-part
invariant-loop-part l = AllWithin (λ part. ¬ (MeetsSome l.b.copper part)) l.a.copper 0 l.part-index
