use Rattle.kind_subjects.specs.MeasuredPair.{MeetAt}
use Rattle.kind_subjects.proofs.TriedLayers.{NoneBefore}
use Rattle.kind_subjects.proofs.meeting.first_meeting.Given as goal

abbrev pub invariant-loop-place : goal.invariant-loop-place
invariant-loop-place l = NoneBefore l.copper (λ layer. MeetAt l.kind layer l.a l.b) l.place
