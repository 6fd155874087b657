use Rattle.std.proofs.Common.{sym, subst, ◌∙◌}
use Rattle.json_exact.specs.JsonRefusals.{IsRefused}
use Rattle.json_exact.proofs.Onward.{first_over}
use Rattle.json_exact.proofs.Calls.{first_closes, first_names, first_items}
use Rattle.json_exact.proofs.reader.Reader.first.Goals as goal

pub returns-then-at-text-clause-next : goal.returns-then-at-text-clause-next
returns-then-at-text-clause-next c =
    subst (IsRefused c.args.text.now) (sym c.bad.ensures) (first_over c.args.text.now c.args.self.now c.blanks_end-at.result c.requires.reads c.blanks_end-at.ensures c.if-at-text.true)

pub name_here-requires-clause-reads : goal.name_here-requires-clause-reads
name_here-requires-clause-reads c =
    first_names c.args.text.now c.args.self.now c.blanks_end-at.result c.index.result.now c.requires.reads c.blanks_end-at.ensures c.if-at-text.false c.index.ensures
    (λ e. c.if-text-at.false (e ∙ sym c.closing.ensures)) (sym c.eq.ensures ∙ c.if-eq.true)

pub value_here-requires-clause-reads : goal.value_here-requires-clause-reads
value_here-requires-clause-reads c =
    first_items c.args.text.now c.args.self.now c.blanks_end-at.result c.index.result.now c.requires.reads c.blanks_end-at.ensures c.if-at-text.false c.index.ensures
    (λ e. c.if-text-at.false (e ∙ sym c.closing.ensures)) (sym c.eq.ensures ∙ c.if-eq.false)

pub returns-then-text-at-clause-next : goal.returns-then-text-at-clause-next
returns-then-text-at-clause-next c =
    first_closes c.args.text.now c.args.self.now c.close.new.self c.blanks_end-at.result c.index.result.now c.requires.reads c.blanks_end-at.ensures c.if-at-text.false c.index.ensures
    (c.if-text-at.true ∙ c.closing.ensures) c.close.ensures
