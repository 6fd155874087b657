use Rattle.std.proofs.Common.{◌≡◌, ℕ, ◌+◌, ◌-◌, ◌<◌, ◌≤◌, List, length, true}
use Rattle.std.specs.Prelude.{slice_index}
use Rattle.json_exact.specs.Characters.{is_hex}
use Rattle.json_exact.proofs.strings.escape_digits_end.Given as goal

pub record Digits (text : List ℕ) (at end : ℕ) : Type 0 where
  pub forward : at + 2 ≤ end
  pub few : end ≤ at + 6
  pub in_text : end ≤ length text
  pub digits : (i : ℕ) → at + 2 ≤ i → i < end → is_hex (slice_index text i) ≡ true

abbrev pub invariant-digits : goal.invariant-digits
invariant-digits l = Digits l.text l.at l.end

abbrev pub decreases-digits : goal.decreases-digits
decreases-digits l = length l.text - l.end
