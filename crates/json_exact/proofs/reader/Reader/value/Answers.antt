use Rattle.std.proofs.Common.{sym, subst}
use Rattle.json_exact.specs.JsonRefusals.{IsRefused}
use Rattle.json_exact.proofs.Turns.{value_on, value_over}
use Rattle.json_exact.proofs.reader.Reader.value.Goals as goal

pub returns-then-at-text-clause-next : goal.returns-then-at-text-clause-next
returns-then-at-text-clause-next c =
    subst (IsRefused c.args.text.now) (sym c.bad.ensures) (value_over c.args.text.now c.args.self.now c.blanks_end-at.result c.requires.reads c.blanks_end-at.ensures c.if-at-text.true)

pub value_here-requires-clause-reads : goal.value_here-requires-clause-reads
value_here-requires-clause-reads c = value_on c.args.text.now c.args.self.now c.blanks_end-at.result c.requires.reads c.blanks_end-at.ensures c.if-at-text.false
