use Rattle.std.proofs.Common.{◌≡◌, ◌≤◌, ◌-◌, ◌++◌, length, take, drop}
use Rattle.exact_dec.specs.Computed.{prefix_digits, after_digits}
use Rattle.exact_dec.proofs.parts.split_digits.Given as goal

-- the front so far is digits, and the rest is split as the whole is
abbrev pub invariant-loop-count : goal.invariant-loop-count
invariant-loop-count l = record {
  in_range : l.count ≤ length l.text;
  prefix : prefix_digits l.text ≡ take l.count l.text ++ prefix_digits (drop l.count l.text);
  back : after_digits l.text ≡ after_digits (drop l.count l.text);
}

abbrev pub decreases-loop-count : goal.decreases-loop-count
decreases-loop-count l = length l.text - l.count
