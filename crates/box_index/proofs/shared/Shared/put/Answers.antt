use Rattle.std.proofs.Common.{refl, subst, List}
use Rattle.box_index.specs.declared.entry.Entry.{Entry}
use Rattle.box_index.specs.Tiles.{IsAbsent}
use Rattle.box_index.proofs.Begins.{begun_placed}
use Rattle.box_index.proofs.Buckets.{never_absent}
use Rattle.box_index.proofs.shared.Shared.put.Goals as goal

pub returns-clause-put : goal.returns-clause-put
returns-clause-put c absent = record {
  items = c.put.ensures;
  home = refl;
  begun = begun_placed c.args.entry c.args.self.now.entries.items c.put.new.entries.items c.args.self.now.last c.with-self.result c.put.ensures c.with-self.ensures.column c.with-self.ensures.row c.with-self.ensures.begun;
}

pub returns-clause-once : goal.returns-clause-once
returns-clause-once c xs is =
    absurd (never_absent c.args.entry xs (subst (λ (es : List Entry). IsAbsent c.args.entry.id es) is (subst (λ (es : List Entry). IsAbsent c.args.entry.id es) c.deref.ensures.value (c.has.ensures.absent c.if-has.false))))
