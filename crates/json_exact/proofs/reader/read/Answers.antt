use Rattle.std.proofs.Common.{sym, subst, refl, ◌∙◌}
use Rattle.json_exact.specs.JsonRefusals.{IsRefused}
use Rattle.json_exact.proofs.Calls.{starts, read_bad, read_whole}
use Rattle.json_exact.proofs.reader.read.Goals as goal

pub reading-init : goal.reading-init
reading-init c = starts c.args.text.now _ c.new.ensures.items refl refl refl

pub returns-then-end-text : goal.returns-then-end-text
returns-then-end-text c =
    subst (IsRefused c.args.text.now) (sym c.bad.ensures)
    (read_bad c.args.text.now c.reading.reader c.reading.next c.blanks_end-end.result c.reading.invariant (sym c.is_done.ensures ∙ c.reading-test.false) c.blanks_end-end.ensures c.if-end-text.true)

pub returns : goal.returns
returns c =
    read_whole c.args.text.now c.reading.reader c.reading.next c.blanks_end-end.result c.reading.invariant (sym c.is_done.ensures ∙ c.reading-test.false) c.blanks_end-end.ensures c.if-end-text.false
