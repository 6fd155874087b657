use Rattle.std.proofs.Common.{refl, sym, ap, subst, Bool, ℕ, Option, None, Some}
use Rattle.board_write.specs.EditState.{IsListNoted}
use Rattle.board_write.proofs.edit_state.note_added.Goals as goal

pub returns-then-is_empty-clause-noted : goal.returns-then-is_empty-clause-noted
returns-then-is_empty-clause-noted c =
    subst (λ (b : Bool). IsListNoted c.args.text.now b c.args.edit_state.now (record { board = c.args.edit_state.now.board; marks = c.args.edit_state.now.marks; added = c.push.new.self; refused = c.args.edit_state.now.refused })) (sym c.if-is_empty.true)
    (record { list = record { doc = c.in-Ok.doc; unit = None }; spelled = c.in-Ok.ensures.spelled; unit = refl; added = c.in_ok-push.ensures.items; marks = refl })

pub returns-clause-noted : goal.returns-clause-noted
returns-clause-noted c =
    subst (λ (b : Bool). IsListNoted c.args.text.now b c.args.edit_state.now (record { board = c.args.edit_state.now.board; marks = c.push-2.new.self; added = c.push-3.new.self; refused = c.args.edit_state.now.refused })) (sym c.if-is_empty.false)
    (record {
      list = record { doc = c.in-Ok.doc; unit = Some c.next_unit.result };
      spelled = c.in-Ok.ensures.spelled;
      unit = ap (λ (n : ℕ). let o : Option ℕ = Some n in o) c.next_unit.ensures;
      added = c.in_ok-push-3.ensures.items;
      marks = c.in_ok-push-2.ensures.items;
    })
