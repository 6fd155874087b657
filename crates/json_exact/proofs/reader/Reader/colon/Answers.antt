use Rattle.std.proofs.Common.{sym, subst}
use Rattle.json_exact.specs.JsonRefusals.{IsRefused}
use Rattle.json_exact.proofs.Onward.{colon_over, colon_bad, colon_turn}
use Rattle.json_exact.proofs.reader.Reader.colon.Goals as goal

pub returns-then-at-text-clause-next : goal.returns-then-at-text-clause-next
returns-then-at-text-clause-next c =
    subst (IsRefused c.args.text.now) (sym c.bad.ensures) (colon_over c.args.text.now c.args.self.now c.blanks_end-at.result c.requires.reads c.blanks_end-at.ensures c.if-at-text.true)

pub returns-then-text-at-ne58-clause-next : goal.returns-then-text-at-ne58-clause-next
returns-then-text-at-ne58-clause-next c =
    subst (IsRefused c.args.text.now) (sym c.bad-then-text-at-ne58.ensures)
    (colon_bad c.args.text.now c.args.self.now c.blanks_end-at.result c.requires.reads c.blanks_end-at.ensures c.if-at-text.false c.if-text-at-ne58.true)

pub returns-clause-next : goal.returns-clause-next
returns-clause-next c = colon_turn c.args.text.now c.args.self.now c.blanks_end-at.result c.requires.reads c.blanks_end-at.ensures c.if-at-text.false c.if-text-at-ne58.false
