use Rattle.std.proofs.Common.{ap, sym, subst}
use Rattle.run_words.specs.Calls.{PlainCall}
use Rattle.run_words.specs.CallValues.{call_in}
use Rattle.run_output.specs.RunEndings.{EndsFor}
use Rattle.drc_run.proofs.carry_out.Goals as goal

pub returns-in-Nothing-clause-ends : goal.returns-in-Nothing-clause-ends
returns-in-Nothing-clause-ends g c =
    let told = g.F.Shelf.files c.args.shelf.now in
    let before = g.F.Shelf.faults c.args.shelf.now in
    subst (λ (call : PlainCall). EndsFor call told before before (g.W.Sink.written c.args.out.now) (g.W.Sink.written c.usage.new.out) c.usage.result) (sym (ap call_in c.in-Nothing.is))
    (c.usage.ensures.ends told before before)

pub returns-in-Check-clause-ends : goal.returns-in-Check-clause-ends
returns-in-Check-clause-ends g c =
    let told = g.F.Shelf.files c.args.shelf.now in
    let before = g.F.Shelf.faults c.args.shelf.now in
    let now = g.F.Shelf.faults c.check.new.shelf in
    subst (λ (call : PlainCall). EndsFor call told before now (g.W.Sink.written c.args.out.now) (g.W.Sink.written c.check.new.out) c.check.result) (sym (ap call_in c.in-Check.is))
    c.check.ensures.ends

pub returns-in-Undo-clause-ends : goal.returns-in-Undo-clause-ends
returns-in-Undo-clause-ends g c =
    let told = g.F.Shelf.files c.args.shelf.now in
    let before = g.F.Shelf.faults c.args.shelf.now in
    let now = g.F.Shelf.faults c.undo.new.shelf in
    subst (λ (call : PlainCall). EndsFor call told before now (g.W.Sink.written c.args.out.now) (g.W.Sink.written c.undo.new.out) c.undo.result) (sym (ap call_in c.in-Undo.is))
    c.undo.ensures.ends

pub returns-in-Try-clause-ends : goal.returns-in-Try-clause-ends
returns-in-Try-clause-ends g c =
    let told = g.F.Shelf.files c.args.shelf.now in
    let before = g.F.Shelf.faults c.args.shelf.now in
    let now = g.F.Shelf.faults c.try_each.new.shelf in
    subst (λ (call : PlainCall). EndsFor call told before now (g.W.Sink.written c.args.out.now) (g.W.Sink.written c.try_each.new.out) c.try_each.result) (sym (ap call_in c.in-Try.is))
    c.try_each.ensures.ends

pub returns-in-Steal-clause-ends : goal.returns-in-Steal-clause-ends
returns-in-Steal-clause-ends g c =
    let told = g.F.Shelf.files c.args.shelf.now in
    let before = g.F.Shelf.faults c.args.shelf.now in
    let now = g.F.Shelf.faults c.steal.new.shelf in
    subst (λ (call : PlainCall). EndsFor call told before now (g.W.Sink.written c.args.out.now) (g.W.Sink.written c.steal.new.out) c.steal.result) (sym (ap call_in c.in-Steal.is))
    c.steal.ensures.ends

pub returns-in-Write-clause-ends : goal.returns-in-Write-clause-ends
returns-in-Write-clause-ends g c =
    let told = g.F.Shelf.files c.args.shelf.now in
    let before = g.F.Shelf.faults c.args.shelf.now in
    let now = g.F.Shelf.faults c.rewrite.new.shelf in
    subst (λ (call : PlainCall). EndsFor call told before now (g.W.Sink.written c.args.out.now) (g.W.Sink.written c.rewrite.new.out) c.rewrite.result) (sym (ap call_in c.in-Write.is))
    c.rewrite.ensures.ends
