use Rattle.std.proofs.Common.{Result, Ok, Err, OnOk, ℕ, List, Contains, sym, subst}
use Rattle.item_facts.specs.NearItems.{AreEnough}
use Rattle.item_facts.proofs.NearTiles.{meets_nothing, enough, all_enough}
use Rattle.item_facts.proofs.near.marks_near.Goals as goal

pub returns-in-None : goal.returns-in-None
returns-in-None c =
    subst (λ (ids : List ℕ). AreEnough c.args.item.now c.args.board.now.items ids) (sym c.clear.ensures.items) (meets_nothing c.args.board.now.items c.args.item.now c.in-None.ensures.least)

pub returns-in_ok-push_ids_near-in-Some : goal.returns-in_ok-push_ids_near-in-Some
returns-in_ok-push_ids_near-in-Some c =
    enough c.args.board.now.items c.args.index.now c.requires c.args.item.now c.in-Some.bounds c.in-Some.ensures.least c.clear.new.self.items c.push_ids_near.new.ids.items c.put_in_order.new.ids.items c.in_ok-push_ids_near-in-Some.ensures.reached c.put_in_order.ensures.rise
    (λ id h. c.put_in_order.ensures.kept id (subst (λ (ids : List ℕ). Contains ids id) (sym c.keep_marks.ensures) h))

then : {E : Type 0} {P Q : Type 0} (r : Result (Unit {0}) E) → OnOk r P → (P → Q) → OnOk r Q
then (Ok v) h f = f h
then (Err e) h f = tt

pub returns-then-spans_more : goal.returns-then-spans_more
returns-then-spans_more c =
    then c.push_marks-then-spans_more.result c.push_marks-then-spans_more.ensures.marks
    (λ e. subst (λ (ids : List ℕ). AreEnough c.args.item.now c.args.board.now.items ids) (sym e) (all_enough c.args.board.now c.push_marks-then-spans_more.ensures.sound c.args.item.now))

pub returns-then-is_empty : goal.returns-then-is_empty
returns-then-is_empty c =
    then c.push_marks.result c.push_marks.ensures.marks
    (λ e. subst (λ (ids : List ℕ). AreEnough c.args.item.now c.args.board.now.items ids) (sym e) (all_enough c.args.board.now c.push_marks.ensures.sound c.args.item.now))
