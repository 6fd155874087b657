use Rattle.std.proofs.Common.{arith, sym, subst, ◌∙◌}
use Rattle.json_exact.specs.JsonRefusals.{IsRefused}
use Rattle.json_exact.proofs.Calls.{behind_top, after_over, after_closes, after_bad, after_names, after_items}
use Rattle.json_exact.proofs.reader.Reader.after.Goals as goal

pub returns-then-at-text-clause-next : goal.returns-then-at-text-clause-next
returns-then-at-text-clause-next c =
    subst (IsRefused c.args.text.now) (sym c.bad.ensures) (after_over c.args.text.now c.args.self.now c.blanks_end-at.result c.requires.reads c.requires.level c.blanks_end-at.ensures c.if-at-text.true)

pub index-requires : goal.index-requires
index-requires c = omega (arith, behind_top c.args.text.now c.args.self.now c.requires.reads c.requires.level, c.args.self.now.cells.ok)

pub close-requires-clause-has : goal.close-requires-clause-has
close-requires-clause-has c = record { cell = behind_top c.args.text.now c.args.self.now c.requires.reads c.requires.level; level = c.requires.level }

pub returns-then-text-at-clause-next : goal.returns-then-text-at-clause-next
returns-then-text-at-clause-next c =
    after_closes c.args.text.now c.args.self.now c.close.new.self c.blanks_end-at.result c.index.result.now c.requires.reads c.requires.level c.blanks_end-at.ensures c.if-at-text.false c.index.ensures
    (c.if-text-at.true ∙ c.closing.ensures) c.close.ensures

pub returns-then-text-at-ne44-clause-next : goal.returns-then-text-at-ne44-clause-next
returns-then-text-at-ne44-clause-next c =
    subst (IsRefused c.args.text.now) (sym c.bad-then-text-at-ne44.ensures)
    (after_bad c.args.text.now c.args.self.now c.blanks_end-at.result c.index.result.now c.requires.reads c.requires.level c.blanks_end-at.ensures c.if-at-text.false c.index.ensures
    (λ e. c.if-text-at.false (e ∙ sym c.closing.ensures)) c.if-text-at-ne44.true)

pub name-requires-clause-reads : goal.name-requires-clause-reads
name-requires-clause-reads c =
    after_names c.args.text.now c.args.self.now c.blanks_end-at.result c.index.result.now c.requires.reads c.requires.level c.blanks_end-at.ensures c.if-at-text.false c.index.ensures
    c.if-text-at-ne44.false (sym c.eq.ensures ∙ c.if-eq.true)

pub value-requires-clause-reads : goal.value-requires-clause-reads
value-requires-clause-reads c =
    after_items c.args.text.now c.args.self.now c.blanks_end-at.result c.index.result.now c.requires.reads c.requires.level c.blanks_end-at.ensures c.if-at-text.false c.index.ensures
    c.if-text-at-ne44.false (sym c.eq.ensures ∙ c.if-eq.false)
