use Rattle.std.proofs.Common.{ap, subst, Err}
use Rattle.plain_types.specs.Reasons.{PlainReason}
use Rattle.run_texts.specs.RunFindings.{IsStopOf}
use Rattle.run_texts.proofs.Accepting.{longer_says}
use Rattle.run_texts.proofs.Refusals.{long_stops}
use Rattle.run_texts.proofs.texts.fetch_text.Goals as goal

pub returns-in-Err-TooLong-clause-stop : goal.returns-in-Err-TooLong-clause-stop
returns-in-Err-TooLong-clause-stop g c =
    let told = g.F.Shelf.files c.args.shelf.now in
    let before = g.F.Shelf.faults c.args.shelf.now in
    let now = g.F.Shelf.faults c.fetch.new.shelf in
    let longer = longer_says told c.args.which c.args.name.now (c.in-Err-TooLong.ensures.too_long (ap Err c.in-Err-TooLong.field-0-is)) in
    let is = subst (λ (why : PlainReason). IsStopOf c.args.which why c.refused_for.result) c.new.ensures c.refused_for.ensures in
    long_stops told before now c.args.which c.args.name.now c.refused_for.result is longer
