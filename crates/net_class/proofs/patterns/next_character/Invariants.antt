use Rattle.std.proofs.Common.{◌≡◌, drop}
use Rattle.net_class.specs.Wild.{next_character}
use Rattle.net_class.proofs.patterns.next_character.Given as goal

abbrev pub invariant-loop-i : goal.invariant-loop-i
invariant-loop-i l = next_character (drop l.i l.text) ≡ next_character l.text
