use Rattle.std.proofs.Common.{arith, ◌∙◌, sym}
use Rattle.json_exact.proofs.Scanning.{plain_on, characters_on, string_stops_at}
use Rattle.json_exact.proofs.strings.string_end.Goals as goal

pub characters-preserved-then-is_plain : goal.characters-preserved-then-is_plain
characters-preserved-then-is_plain c =
    (omega arith, omega arith, plain_on c.args.text.now c.args.at c.characters.i c.characters.invariant.0 c.characters-test.true c.characters.invariant.2 (sym c.is_plain.ensures ∙ c.if-is_plain.true))

pub characters-preserved : goal.characters-preserved
characters-preserved c =
    let p = c.in-Ok.ensures in
    (omega (arith, p.forward), p.in_text, characters_on c.args.text.now c.args.at c.characters.i c.in-Ok.end c.characters.invariant.0 c.characters.invariant.2 p)

pub returns-in-Err-clause-string : goal.returns-in-Err-clause-string
returns-in-Err-clause-string c = (
  c.characters.i,
  _,
  string_stops_at c.args.text.now c.args.at c.characters.i _ c.characters.invariant.0 c.characters-test.true c.characters.invariant.2 c.if-b-eq34.false c.in-Err.ensures,
  c.counted.ensures.counted,
)
