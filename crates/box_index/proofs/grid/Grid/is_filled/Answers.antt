use Rattle.std.proofs.Common.{◌≡◌, ◌∙◌, refl, sym, Bool, true, false, not}
use Rattle.box_index.proofs.Vacancies.{none_vacant}
use Rattle.box_index.proofs.grid.Grid.is_filled.Goals as goal

not_true : (b : Bool) → not b ≡ true → b ≡ false
not_true true h = sym h
not_true false h = refl

pub returns-then-is_known_even : goal.returns-then-is_known_even
returns-then-is_known_even c test near k =
    let list = c.at.result.now in
    none_vacant near c.args.self.now.tiles.items c.args.self.now.lists.items c.args.area c.first.result list list k (c.is_known_even.ensures c.if-is_known_even.true) c.first.ensures.inside (c.at.ensures 0 list)
    (sym (not_true c.is_empty.result test) ∙ c.is_empty.ensures)
