use Rattle.std.proofs.Common.{◌≡◌, ◌∙◌, refl, sym, ap, subst, ℕ, ◌<◌, List, [], ◌∷◌, ◌++◌, append_assoc, length, Result, Ok, Err, OnErr, arith}
use Rattle.std.specs.Vec.Iter.{into_iter_items}
use Rattle.board_errors.specs.declared.errors.BoardError.{BoardError}
use Rattle.one_item.specs.declared.item.Item.{Item}
use Rattle.board_items.specs.Boards.{PlainBoard, with_item}
use Rattle.part_read.specs.Ready.{AreReady}
use Rattle.pcb_read.specs.BoardOf.{with_items, HasFirstOf}
use Rattle.pcb_read.proofs.Capacities.{first_ready, others_ready, same_copper, item_last}
use Rattle.pcb_read.proofs.adding.add_items.Goals as goal

-- the board is the first one with the items before those that are left
abbrev HasThese : List Item → PlainBoard → PlainBoard → List Item → Type 0
HasThese all board new left = (first : List Item) × (all ≡ first ++ left) × (new ≡ with_items board first)

nothing_left : (items : List Item) → length items ≡ 0 → items ≡ []
nothing_left [] h = refl
nothing_left (item ∷ items) h = absurd (omega arith)

-- the items that are left begin with this one
taken : (board : PlainBoard) (unit : ℕ) (left : List Item) (item : Item) (rest : List Item) → left ≡ item ∷ rest → AreReady board unit left → AreReady board unit (item ∷ rest)
taken board unit left item rest is h = subst (λ (items : List Item). AreReady board unit items) is h

where_refused : (r : Result (Unit {0}) BoardError) (P : Type 0) → P → OnErr r P
where_refused (Ok x) P h = tt
where_refused (Err e) P h = h

-- with one more item
one_more : (all : List Item) (board old new : PlainBoard) (left rest : List Item) (item : Item) → left ≡ item ∷ rest → HasThese all board old left → new ≡ with_item old item → HasThese all board new rest
one_more all board old new left rest item cut h added = (
  h.0 ++ item ∷ [],
  h.1 ∙ ap (λ (items : List Item). h.0 ++ items) cut ∙ sym (append_assoc h.0 (item ∷ []) rest),
  added ∙ ap (λ (b : PlainBoard). with_item b item) h.2 ∙ sym (item_last h.0 item board),
)

pub add_item-requires-clause-unit : goal.add_item-requires-clause-unit
add_item-requires-clause-unit c =
    let at = c.loop-item in
    let item = c.in-Some.item in
    let ready = taken at.board c.args.unit _ item _ c.in-Some.ensures.steps.0 at.invariant.ready in
    subst (λ (n : ℕ). n < 4294967295) (sym (first_ready at.board c.args.unit item _ ready).of_unit) (ready.numbered (omega arith))

pub add_item-requires-clause-admitted : goal.add_item-requires-clause-admitted
add_item-requires-clause-admitted c =
    let at = c.loop-item in
    (first_ready at.board c.args.unit c.in-Some.item _ (taken at.board c.args.unit _ c.in-Some.item _ c.in-Some.ensures.steps.0 at.invariant.ready)).admitted

pub add_item-requires-clause-capacity : goal.add_item-requires-clause-capacity
add_item-requires-clause-capacity c =
    let at = c.loop-item in
    let capacity = (taken at.board c.args.unit _ c.in-Some.item _ c.in-Some.ensures.steps.0 at.invariant.ready).capacity in
    omega (arith, capacity)

pub loop-item-preserved : goal.loop-item-preserved
loop-item-preserved c =
    let at = c.loop-item in
    let item = c.in-Some.item in
    let rest = into_iter_items c.next.new.self in
    let steps : into_iter_items at.item-iterator ≡ item ∷ rest = c.in-Some.ensures.steps.0 in
    let added = c.in_ok-add_item.ensures.added in
    record {
      added = ap (λ (board : PlainBoard). with_items board rest) added ∙ ap (λ (items : List Item). with_items at.board items) (sym steps) ∙ at.invariant.added;
      ready =
          subst (λ (board : PlainBoard). AreReady board c.args.unit rest) (sym added)
          (others_ready at.board c.args.unit item rest (taken at.board c.args.unit _ item rest steps at.invariant.ready));
      many = let was = at.invariant.many in let gone = c.in-Some.ensures.steps.1 in let short = ap length steps in omega arith;
      first = one_more c.args.items.items c.args.board.now at.board c.add_item.new.board (into_iter_items at.item-iterator) rest item steps at.invariant.first added;
    }

pub returns-clause-added : goal.returns-clause-added
returns-clause-added c =
    let at = c.loop-item in
    let none = c.in-None.ensures.steps in
    let empty : into_iter_items at.item-iterator ≡ [] = nothing_left _ (sym at.invariant.many ∙ none.0) in
    subst (λ (items : List Item). with_items at.board items ≡ with_items c.args.board.now c.args.items.items) empty at.invariant.added

pub returns-clause-copper : goal.returns-clause-copper
returns-clause-copper c =
    let at = c.loop-item in
    let none = c.in-None.ensures.steps in
    let empty : into_iter_items at.item-iterator ≡ [] = nothing_left _ (sym at.invariant.many ∙ none.0) in
    let all : at.board ≡ with_items c.args.board.now c.args.items.items =
    subst (λ (items : List Item). with_items at.board items ≡ with_items c.args.board.now c.args.items.items) empty at.invariant.added in
    ap (λ (board : PlainBoard). board.copper) all ∙ same_copper c.args.items.items c.args.board.now

pub returns-in_err-add_item-clause-kept : goal.returns-in_err-add_item-clause-kept
returns-in_err-add_item-clause-kept c =
    let at = c.loop-item in
    let first = at.invariant.first in
    where_refused c.from_residual.result (HasFirstOf c.args.items.items c.args.board.now c.add_item.new.board)
    (first.0, into_iter_items at.item-iterator, first.1, c.in_err-add_item.ensures.unchanged ∙ first.2)
