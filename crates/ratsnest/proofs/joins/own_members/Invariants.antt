use Rattle.std.proofs.Common.{◌≡◌, ◌<◌, ◌∷◌, [], ℕ, length, slice_index_or}
use Rattle.ratsnest.specs.declared.joins.Members.{Members}
use Rattle.ratsnest.proofs.joins.own_members.Given as goal

abbrev pub invariant-loop-group : goal.invariant-loop-group
invariant-loop-group l = record {
  count : length l.members.items ≡ l.group;
  own : (g : ℕ) (d : Members) → g < length l.members.items → (slice_index_or l.members.items g d).groups.items ≡ g ∷ [];
}
