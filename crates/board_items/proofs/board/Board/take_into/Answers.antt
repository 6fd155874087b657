use Rattle.std.proofs.Common.{◌≡◌, ◌+◌, ◌≤◌, ◌++◌, ◌∙◌, ap, sym, map, List, length, ℕ, arith, length-append, append_assoc}
use Rattle.std.proofs.lemmas.List.{append-nil}
use Rattle.one_item.specs.declared.item.Item.{Item}
use Rattle.board_items.specs.Boards.{PlainBoard}
use Rattle.board_items.specs.Back.{kept_entry, own_at}
use Rattle.board_items.proofs.SlotLists.{without_part, one_passed}
use Rattle.board_items.proofs.TakenOut.{taken_to, one_taken, own_left, no_more}
use Rattle.board_items.proofs.UnitPlaces.{passed_before, passed_behind, taken_before, taken_behind}
use Rattle.board_items.proofs.board.Board.take_into.Goals as goal

pub loop-id-init : goal.loop-id-init
loop-id-init c =
    let from = c.places_of-places.result.from in
    let all = c.places_of-places.ensures.all in
    let none = taken_before c.args.unit from c.places_of-places.result.end c.args.self.now.items all in
    let long : length (taken_to c.args.unit from c.args.self.now.items) ≡ 0 = ap length none in
    record {
      board = sym (ap (λ (es : List (ℕ × Item)). record c.args.self.now { items = es }) (passed_before c.args.unit from c.places_of-places.result.end c.args.self.now.items all));
      list = sym (ap (λ (es : List (ℕ × Item)). map kept_entry c.args.items.now.items ++ es) none ∙ append-nil (map kept_entry c.args.items.now.items));
      len = omega (arith, long);
      spare_capacity = omega arith;
    }

pub take_own-requires-clause-id : goal.take_own-requires-clause-id
take_own-requires-clause-id c =
    let next : c.loop-id.self.next_id ≡ c.args.self.now.next_id = ap (λ (b : PlainBoard). b.next_id) c.loop-id.invariant.board in
    let last = c.places_of-places.ensures.within in
    omega (arith, next, last)

pub take_own-requires-clause-spare_capacity : goal.take_own-requires-clause-spare_capacity
take_own-requires-clause-spare_capacity c =
    let own : own_at c.loop-id.id c.args.unit c.loop-id.self.items ≡ own_at c.loop-id.id c.args.unit c.args.self.now.items =
    ap (λ (b : PlainBoard). own_at c.loop-id.id c.args.unit b.items) c.loop-id.invariant.board ∙ own_left c.args.unit c.loop-id.id c.args.self.now.items in
    let one = ap length (one_taken c.args.unit c.loop-id.id 0 c.args.self.now.next_id c.args.self.now.items c.places_of-places.ensures.sound.ids)
    ∙ length-append (taken_to c.args.unit c.loop-id.id c.args.self.now.items) (own_at c.loop-id.id c.args.unit c.args.self.now.items) in
    let most = no_more c.args.unit (c.loop-id.id + 1) c.args.self.now.items in
    let long = ap length own in
    omega (arith, one, most, long)

pub loop-id-preserved : goal.loop-id-preserved
loop-id-preserved c =
    let own : own_at c.loop-id.id c.args.unit c.loop-id.self.items ≡ own_at c.loop-id.id c.args.unit c.args.self.now.items =
    ap (λ (b : PlainBoard). own_at c.loop-id.id c.args.unit b.items) c.loop-id.invariant.board ∙ own_left c.args.unit c.loop-id.id c.args.self.now.items in
    let one = one_taken c.args.unit c.loop-id.id 0 c.args.self.now.next_id c.args.self.now.items c.places_of-places.ensures.sound.ids in
    let more = ap length one ∙ length-append (taken_to c.args.unit c.loop-id.id c.args.self.now.items) (own_at c.loop-id.id c.args.unit c.args.self.now.items) in
    let long = ap length own in
    record {
      board = c.take_own.ensures.taken ∙ ap (λ (b : PlainBoard). record b { items = without_part c.loop-id.id c.args.unit b.items }) c.loop-id.invariant.board
          ∙ ap (λ (es : List (ℕ × Item)). record c.args.self.now { items = es }) (one_passed c.args.unit c.loop-id.id c.args.self.now.items);
      list = c.take_own.ensures.items ∙ ap (λ (es : List (ℕ × Item)). map kept_entry c.loop-id.items.items ++ es) own
          ∙ ap (λ (es : List (ℕ × Item)). es ++ own_at c.loop-id.id c.args.unit c.args.self.now.items) c.loop-id.invariant.list
          ∙ append_assoc (map kept_entry c.args.items.now.items) (taken_to c.args.unit c.loop-id.id c.args.self.now.items) (own_at c.loop-id.id c.args.unit c.args.self.now.items)
          ∙ ap (λ (es : List (ℕ × Item)). map kept_entry c.args.items.now.items ++ es) (sym one);
      len = omega (arith, more, long);
      spare_capacity = omega arith;
    }

pub returns-clause-taken : goal.returns-clause-taken
returns-clause-taken c =
    let ended = c.loop-id-test.false in
    let past : c.places_of-places.result.end ≤ c.loop-id.id = omega (arith, ended) in
    c.loop-id.invariant.board
    ∙ ap (λ (es : List (ℕ × Item)). record c.args.self.now { items = es }) (passed_behind c.args.unit c.places_of-places.result.from c.places_of-places.result.end c.loop-id.id c.args.self.now.items c.places_of-places.ensures.all past)

pub returns-clause-items : goal.returns-clause-items
returns-clause-items c =
    let ended = c.loop-id-test.false in
    let past : c.places_of-places.result.end ≤ c.loop-id.id = omega (arith, ended) in
    c.loop-id.invariant.list
    ∙ ap (λ (es : List (ℕ × Item)). map kept_entry c.args.items.now.items ++ es) (taken_behind c.args.unit c.places_of-places.result.from c.places_of-places.result.end c.loop-id.id c.args.self.now.items c.places_of-places.ensures.all past)
