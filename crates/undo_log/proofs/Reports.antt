-- What is found of a board depends on no number that comes next.
use Rattle.std.proofs.Common.{◌≡◌, inl, inr, refl, sym, ap, subst, ◌∙◌, ℕ, List, [], ◌∷◌}
use Rattle.std.specs.List.{AllZip}
use Rattle.std.proofs.lemmas.List.Elements.{All-weaker}
use Rattle.one_item.specs.declared.item.Item.{Item}
use Rattle.board_items.specs.Boards.{PlainBoard}
use Rattle.net_class.specs.NetClasses.{PlainClasses}
use Rattle.cond_lang.specs.Rules.{PlainRule}
use Rattle.rule_pick.specs.declared.facts.Facts.{Facts}
use Rattle.rule_pick.specs.FactsOf.{class_of_net, AreFactsOf}
use Rattle.pair_check.specs.PlainRow.{PlainRow}
use Rattle.pair_check.specs.Rows.{Checked, Stands, IsRow, AreRows}
use Rattle.net_groups.specs.NetParts.{PlainNetPart, IsNetPart, AreParts, real_nets}
use Rattle.drc_state.specs.States.{State, checked_in}
use Rattle.drc_state.specs.StateChanges.{returned}
use Rattle.drc_session.specs.Sessions.{PlainSession, IsChecked}
use Rattle.undo_log.proofs.Ways.{numbered}

class_on : (b : PlainBoard) (id unit : ℕ) (classes : PlainClasses) (net : ℕ) → class_of_net classes (numbered b id unit) net ≡ class_of_net classes b net
unfolding class_of_net
class_on b id unit classes net = refl

facts_on : (b : PlainBoard) (id unit : ℕ) (classes : PlainClasses) (item : Item) (facts : Facts) → AreFactsOf b classes item facts → AreFactsOf (numbered b id unit) classes item facts
facts_on b id unit classes item facts h = record {
  kind = h.kind;
  class = h.class ∙ ap (λ c. c.name) (sym (class_on b id unit classes item.net));
  net_name = h.net_name;
  width = h.width;
  diameter = h.diameter;
  hole = h.hole;
  layers = h.layers;
  on_edge = h.on_edge;
  plated = h.plated;
  micro = h.micro;
  blind = h.blind;
  local = h.local;
  class_clearance = h.class_clearance ∙ ap (λ c. c.clearance) (sym (class_on b id unit classes item.net));
  areas = h.areas;
  courtyards = h.courtyards;
}

module _ (b : PlainBoard) (classes : PlainClasses) (rules : List PlainRule) (id unit : ℕ) where
  abbrev before : Checked
  before = record { board = b; classes = classes; rules = rules }

  abbrev after : Checked
  after = record { board = numbered b id unit; classes = classes; rules = rules }

  stands_on : (k : ℕ) (item : Item) (facts : Facts) → Stands before k item facts → Stands after k item facts
  stands_on k item facts h = record { item_is = h.item_is; facts_are = facts_on b id unit classes item facts h.facts_are }

  row_on : (row : PlainRow) → IsRow before row → IsRow after row
  row_on row (inl h) = inl (record {
    pair = h.pair;
    first = stands_on row.first h.pair.a h.pair.facts_a h.first;
    second = stands_on row.second h.pair.b h.pair.facts_b h.second;
    ordered = h.ordered;
    broken = h.broken;
  })
  row_on row (inr h) = inr (record {
    item = h.item;
    facts = h.facts;
    first = stands_on row.first h.item h.facts h.first;
    same = h.same;
    broken = h.broken;
  })

-- the rows are the same, since each row of the one is one of the other
rows_on : (b : PlainBoard) (classes : PlainClasses) (rules : List PlainRule) (id unit : ℕ) (rows : List PlainRow)
    → AreRows (record { board = b; classes = classes; rules = rules }) rows → AreRows (record { board = numbered b id unit; classes = classes; rules = rules }) rows
rows_on b classes rules id unit rows h = record {
  ordered = h.ordered;
  only = All-weaker (IsRow (record { board = b; classes = classes; rules = rules })) (IsRow (record { board = numbered b id unit; classes = classes; rules = rules })) (row_on b classes rules id unit) rows h.only;
  all = λ row is_row. h.all row (row_on (numbered b id unit) classes rules b.next_id b.next_unit row is_row);
}

part_on : (b : PlainBoard) (id unit net : ℕ) (part : PlainNetPart) → IsNetPart b net part → IsNetPart (numbered b id unit) net part
part_on b id unit net part h = record { number = h.number; groups = h.groups; anchors = h.anchors; links = h.links }

parts_on : (b : PlainBoard) (id unit : ℕ) (nets : List ℕ) (parts : List PlainNetPart) → AllZip (IsNetPart b) nets parts → AllZip (IsNetPart (numbered b id unit)) nets parts
parts_on b id unit [] [] h = tt
parts_on b id unit [] (part ∷ parts) h = absurd h
parts_on b id unit (net ∷ nets) [] h = absurd h
parts_on b id unit (net ∷ nets) (part ∷ parts) h = (part_on b id unit net part h.0, parts_on b id unit nets parts h.1)

module _ (one_list : (c : Checked) (a b : List PlainRow) → AreRows c a → AreRows c b → a ≡ b)
    (one_list_of_parts : (board : PlainBoard) (parts others : List PlainNetPart) → AreParts board parts → AreParts board others → parts ≡ others) where
  pub same_report : (before after : PlainSession) (now : State) → IsChecked before → IsChecked after → after.state ≡ returned before.state now → (after.rows ≡ before.rows) × (after.nets ≡ before.nets)
  same_report before after now was is e = (
    one_list (checked_in (returned s now)) after.rows before.rows (subst (λ (x : State). AreRows (checked_in x) after.rows) e is.rows)
        (rows_on s.board s.classes s.rules.rules now.board.next_id now.board.next_unit before.rows was.rows),
    one_list_of_parts (returned s now).board after.nets before.nets (subst (λ (x : State). AreParts x.board after.nets) e is.nets)
        (parts_on s.board now.board.next_id now.board.next_unit (real_nets s.board) before.nets was.nets),
  )
    where
      s : State
      s = before.state
