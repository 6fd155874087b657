use Rattle.std.proofs.Common.{◌≡◌, ◌<◌, ◌≤◌, ◌+◌, ◌*◌, ◌^◌, ◌-◌, length, drop}
use Rattle.exact_dec.specs.Computed.{prefix_digits, after_digits}
use Rattle.exact_dec.specs.Decimal.{number}
use Rattle.exact_dec.proofs.short.leading.Given as goal

-- the number so far, and the digits that are left
abbrev pub invariant-digits : goal.invariant-digits
invariant-digits l = record {
  in_range : l.count ≤ length l.text;
  most : l.count ≤ l.most;
  number : number (prefix_digits l.text) ≡ l.n * 10 ^ length (prefix_digits (drop l.count l.text)) + number (prefix_digits (drop l.count l.text));
  count : length (prefix_digits l.text) ≡ l.count + length (prefix_digits (drop l.count l.text));
  back : after_digits l.text ≡ after_digits (drop l.count l.text);
  small : l.n < 10 ^ l.count;
}

abbrev pub decreases-digits : goal.decreases-digits
decreases-digits l = length l.text - l.count
