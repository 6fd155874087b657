use Rattle.json_exact.proofs.Prefixes.{all_appended}
use Rattle.json_exact.proofs.decode.append.Goals as goal

pub returns : goal.returns
returns c = all_appended c.args.raw.now c.characters.i c.characters.out.items _ c.characters.invariant.0 c.characters-test.false c.characters.invariant.1
