use Rattle.std.proofs.Common.{◌∙◌, inl, inr, ap, subst, Option, arith}
use Rattle.std.specs.Option.{option_copied}
use Rattle.std.proofs.lemmas.List.{get_or_default}
use Rattle.one_item.specs.declared.item.Item.{Item}
use Rattle.kept_facts.specs.FactUpdates.{mark_at, mark_of}
use Rattle.kept_facts.specs.ConcernedItems.{HasConcerned}
use Rattle.kept_facts.proofs.Concerns.{asked_more}
use Rattle.kept_facts.proofs.asking.asked_for.Goals as goal

pub loop-place-preserved : goal.loop-place-preserved
loop-place-preserved c =
    let board = c.args.board.now in
    let ids = c.args.ids.now in
    let before = c.args.before.now in
    let at = c.loop-place in
    let mid = at.asked.items in
    let new = c.push_concerned.new.asked.items in
    let is = c.mark_at-is.ensures ∙ ap (mark_at board) (get_or_default ids at.place _ 0 c.loop-place-test.true) in
    asked_more board ids before at.place mid new at.invariant
    (subst (λ (m : Option Item). HasConcerned board (mark_of before at.place) m mid new) is
    (subst (λ (m : Option Item). HasConcerned board m (option_copied c.mark_at-is.result) mid new) c.mark_of-was.ensures c.in_ok-push_concerned.ensures))

pub returns : goal.returns
returns c =
    let at = c.loop-place in record {
      rise = c.put_in_order.ensures.rise;
      all = record {
        own = λ id m. c.put_in_order.ensures.kept id (at.invariant.own id m);
        each = λ k lt id item here. elim (at.invariant.each k (let l = lt in let e = c.loop-place-test.false in omega arith) id item here) [
          | inl h ↦ inl (c.put_in_order.ensures.kept id h)
          | inr h ↦ inr h
        ];
      };
    }
