use Rattle.std.proofs.Common.{◌≡◌, ◌++◌, ◌∙◌, ap, sym, map, List, length, Some, None, ℕ, arith}
use Rattle.std.proofs.lemmas.List.{append-nil, map-append}
use Rattle.one_item.specs.declared.item.Item.{Item}
use Rattle.board_items.specs.Boards.{item_at}
use Rattle.board_items.specs.Back.{kept_entry, own_at}
use Rattle.board_items.proofs.TakenOut.{own_is, own_none, id_none, no_item}
use Rattle.board_items.proofs.board.Board.take_own.Goals as goal

pub returns-then-unit_at-unit-clause-taken : goal.returns-then-unit_at-unit-clause-taken
returns-then-unit_at-unit-clause-taken c =
    let none = own_none c.args.unit c.args.id c.args.self.now.items 0 c.args.self.now.next_id c.unit_at.ensures.sound.ids (λ item h e. c.if-unit_at-unit.true (sym (c.unit_at.ensures.own item h) ∙ e)) in
    sym (ap (λ (es : List (ℕ × Item)). record c.args.self.now { items = es }) none.1)

pub returns-then-unit_at-unit-clause-items : goal.returns-then-unit_at-unit-clause-items
returns-then-unit_at-unit-clause-items c =
    let none = own_none c.args.unit c.args.id c.args.self.now.items 0 c.args.self.now.next_id c.unit_at.ensures.sound.ids (λ item h e. c.if-unit_at-unit.true (sym (c.unit_at.ensures.own item h) ∙ e)) in
    sym (ap (λ (es : List (ℕ × Item)). map kept_entry c.args.items.now.items ++ es) none.0 ∙ append-nil (map kept_entry c.args.items.now.items))

pub returns-then-unit_at-unit-clause-len : goal.returns-then-unit_at-unit-clause-len
returns-then-unit_at-unit-clause-len c =
    let none = own_none c.args.unit c.args.id c.args.self.now.items 0 c.args.self.now.next_id c.unit_at.ensures.sound.ids (λ item h e. c.if-unit_at-unit.true (sym (c.unit_at.ensures.own item h) ∙ e)) in
    let long : length (own_at c.args.id c.args.unit c.args.self.now.items) ≡ 0 = ap length none.0 in
    omega (arith, long)

pub returns-in_default-clause-taken : goal.returns-in_default-clause-taken
returns-in_default-clause-taken c =
    let here : item_at c.args.self.now.items c.args.id ≡ None = sym c.in_default.ensures.found in
    let none = own_none c.args.unit c.args.id c.args.self.now.items 0 c.args.self.now.next_id c.unit_at.ensures.sound.ids (λ item h. no_item c.args.self.now.items c.args.id c.args.unit item here h) in
    c.in_default.ensures.taken ∙ ap (λ (es : List (ℕ × Item)). record c.args.self.now { items = es }) (id_none c.args.id c.args.self.now.items here ∙ sym none.1)

pub returns-in_default-clause-items : goal.returns-in_default-clause-items
returns-in_default-clause-items c =
    let here : item_at c.args.self.now.items c.args.id ≡ None = sym c.in_default.ensures.found in
    let none = own_none c.args.unit c.args.id c.args.self.now.items 0 c.args.self.now.next_id c.unit_at.ensures.sound.ids (λ item h. no_item c.args.self.now.items c.args.id c.args.unit item here h) in
    sym (ap (λ (es : List (ℕ × Item)). map kept_entry c.args.items.now.items ++ es) none.0 ∙ append-nil (map kept_entry c.args.items.now.items))

pub returns-in_default-clause-len : goal.returns-in_default-clause-len
returns-in_default-clause-len c =
    let here : item_at c.args.self.now.items c.args.id ≡ None = sym c.in_default.ensures.found in
    let none = own_none c.args.unit c.args.id c.args.self.now.items 0 c.args.self.now.next_id c.unit_at.ensures.sound.ids (λ item h. no_item c.args.self.now.items c.args.id c.args.unit item here h) in
    let long : length (own_at c.args.id c.args.unit c.args.self.now.items) ≡ 0 = ap length none.0 in
    omega (arith, long)

pub push_reserved-requires : goal.push_reserved-requires
push_reserved-requires c =
    let here : item_at c.args.self.now.items c.args.id ≡ Some c.in-Some.item = sym c.in-Some.ensures.found in
    let own = own_is c.args.unit c.args.id 0 c.args.self.now.next_id c.args.self.now.items c.in-Some.item c.unit_at.ensures.sound.ids here (c.unit_at.ensures.own c.in-Some.item here ∙ c.if-unit_at-unit.false) in
    let long : length (own_at c.args.id c.args.unit c.args.self.now.items) ≡ 1 = ap length own.0 in
    omega (arith, long)

pub returns-clause-taken : goal.returns-clause-taken
returns-clause-taken c =
    let here : item_at c.args.self.now.items c.args.id ≡ Some c.in-Some.item = sym c.in-Some.ensures.found in
    let own = own_is c.args.unit c.args.id 0 c.args.self.now.next_id c.args.self.now.items c.in-Some.item c.unit_at.ensures.sound.ids here (c.unit_at.ensures.own c.in-Some.item here ∙ c.if-unit_at-unit.false) in
    c.in-Some.ensures.taken ∙ ap (λ (es : List (ℕ × Item)). record c.args.self.now { items = es }) own.1

pub returns-clause-items : goal.returns-clause-items
returns-clause-items c =
    let here : item_at c.args.self.now.items c.args.id ≡ Some c.in-Some.item = sym c.in-Some.ensures.found in
    let own = own_is c.args.unit c.args.id 0 c.args.self.now.next_id c.args.self.now.items c.in-Some.item c.unit_at.ensures.sound.ids here (c.unit_at.ensures.own c.in-Some.item here ∙ c.if-unit_at-unit.false) in
    ap (map kept_entry) c.push_reserved.ensures.items ∙ map-append kept_entry c.args.items.now.items _ ∙ ap (λ (es : List (ℕ × Item)). map kept_entry c.args.items.now.items ++ es) (sym own.0)

pub returns-clause-len : goal.returns-clause-len
returns-clause-len c =
    let here : item_at c.args.self.now.items c.args.id ≡ Some c.in-Some.item = sym c.in-Some.ensures.found in
    let own = own_is c.args.unit c.args.id 0 c.args.self.now.next_id c.args.self.now.items c.in-Some.item c.unit_at.ensures.sound.ids here (c.unit_at.ensures.own c.in-Some.item here ∙ c.if-unit_at-unit.false) in
    let long : length (own_at c.args.id c.args.unit c.args.self.now.items) ≡ 1 = ap length own.0 in
    omega (arith, long)
