use Rattle.std.proofs.Common.{sym, subst}
use Rattle.json_exact.specs.JsonRefusals.{IsRefused}
use Rattle.json_exact.proofs.Onward.{name_over, name_on}
use Rattle.json_exact.proofs.reader.Reader.name.Goals as goal

pub returns-then-at-text-clause-next : goal.returns-then-at-text-clause-next
returns-then-at-text-clause-next c =
    subst (IsRefused c.args.text.now) (sym c.bad.ensures) (name_over c.args.text.now c.args.self.now c.blanks_end-at.result c.requires.reads c.blanks_end-at.ensures c.if-at-text.true)

pub name_here-requires-clause-reads : goal.name_here-requires-clause-reads
name_here-requires-clause-reads c = name_on c.args.text.now c.args.self.now c.blanks_end-at.result c.requires.reads c.blanks_end-at.ensures c.if-at-text.false
