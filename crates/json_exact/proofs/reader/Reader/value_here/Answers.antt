use Rattle.std.proofs.Common.{sym, subst, refl}
use Rattle.json_exact.specs.Json.{square, curly}
use Rattle.json_exact.specs.JsonRefusals.{IsRefused}
use Rattle.json_exact.proofs.Turns.{open_turn, top_below}
use Rattle.json_exact.proofs.Onward.{leaf_turn}
use Rattle.json_exact.proofs.Tokens.{leaf_bad}
use Rattle.json_exact.proofs.reader.Reader.value_here.Goals as goal

pub open-requires-clause-top : goal.open-requires-clause-top
open-requires-clause-top c = top_below c.args.text.now c.args.self.now c.requires.reads

pub open-requires-then-b-eq123-clause-top : goal.open-requires-then-b-eq123-clause-top
open-requires-then-b-eq123-clause-top c = top_below c.args.text.now c.args.self.now c.requires.reads

pub returns-then-b-eq91-clause-next : goal.returns-then-b-eq91-clause-next
returns-then-b-eq91-clause-next c = open_turn c.args.text.now c.args.self.now c.open.new.self square _ c.open.result c.requires.reads c.if-b-eq91.true refl c.open.ensures

pub returns-then-b-eq123-clause-next : goal.returns-then-b-eq123-clause-next
returns-then-b-eq123-clause-next c = open_turn c.args.text.now c.args.self.now c.open-then-b-eq123.new.self curly _ c.open-then-b-eq123.result c.requires.reads c.if-b-eq123.true refl c.open-then-b-eq123.ensures

pub returns-in_ok-put-in-Ok-clause-next : goal.returns-in_ok-put-in-Ok-clause-next
returns-in_ok-put-in-Ok-clause-next c = leaf_turn c.args.text.now c.args.self.now c.put.new.self _ _ c.put.result c.requires.reads c.in-Ok.ensures.leaf c.put.ensures _ c.in_ok-put-in-Ok.was

pub returns-in-Err-clause-next : goal.returns-in-Err-clause-next
returns-in-Err-clause-next c =
    subst (IsRefused c.args.text.now) (sym c.bad.ensures) (leaf_bad c.args.text.now c.args.self.now.at c.in-Err.stop _ _ c.requires.reads.2.agrees c.requires.reads.3 c.if-b-eq91.false c.if-b-eq123.false c.in-Err.ensures.leaf)
