use Rattle.std.proofs.Common.{◌∙◌, ℕ, List, subst}
use Rattle.std.proofs.lemmas.Result.{err_from_is_err_and}
use Rattle.std.specs.Io.KnownBytes.{Appends}
use Rattle.drc_io.specs.Sinks.{AppendsPrefix}
use Rattle.board_write.proofs.write_source.Goals as goal

pub returns-in_err-put_all-clause-written : goal.returns-in_err-put_all-clause-written
returns-in_err-put_all-clause-written g c =
    let p = err_from_is_err_and c.from_residual-in_err-put_all.result c.from_residual-in_err-put_all.ensures.1 in
    let has = c.in_ok-written.ensures in
    let prefix = subst (λ (t : List ℕ). AppendsPrefix (g.W.Sink.written c.args.out.now) (g.W.Sink.written c.put_all.new.sink) t) (c.deref.ensures.value ∙ has.1) c.in_err-put_all.ensures.bytes in
    rw (p.1, p.2) ((c.in_ok-written.written.refused, has.0, prefix), c.in_err-put_all.ensures.failed)

pub returns-clause-written : goal.returns-clause-written
returns-clause-written g c =
    let has = c.in_ok-written.ensures in
    (has.0, subst (λ (t : List ℕ). Appends (g.W.Sink.written c.args.out.now) (g.W.Sink.written c.put_all.new.sink) t) (c.deref.ensures.value ∙ has.1) c.in_ok-put_all.ensures.bytes)
