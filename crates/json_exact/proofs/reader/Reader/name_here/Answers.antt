use Rattle.std.proofs.Common.{sym, subst}
use Rattle.json_exact.specs.JsonRefusals.{IsRefused}
use Rattle.json_exact.proofs.Onward.{name_bad, name_stops, name_turn}
use Rattle.json_exact.proofs.reader.Reader.name_here.Goals as goal

pub returns-then-text-at-ne34-clause-next : goal.returns-then-text-at-ne34-clause-next
returns-then-text-at-ne34-clause-next c = subst (IsRefused c.args.text.now) (sym c.bad.ensures) (name_bad c.args.text.now c.args.self.now c.requires.reads c.if-text-at-ne34.true)

pub colon-requires-clause-reads : goal.colon-requires-clause-reads
colon-requires-clause-reads c =
    name_turn c.args.text.now c.args.self.now c.put.new.self c.in-Ok.end c.put.result c.requires.reads c.if-text-at-ne34.false c.in-Ok.ensures.string c.put.ensures _ c.in_ok-put-in-Ok.was

pub returns-in-Err-clause-next : goal.returns-in-Err-clause-next
returns-in-Err-clause-next c =
    subst (IsRefused c.args.text.now) (sym c.bad-in-Err.ensures) (name_stops c.args.text.now c.args.self.now c.in-Err.stop c.requires.reads c.if-text-at-ne34.false c.in-Err.ensures.string)
