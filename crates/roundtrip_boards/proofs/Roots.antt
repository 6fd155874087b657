-- The parts of an edited board are read as those of the board were, if each list is.
use Rattle.std.proofs.Common.{◌≡◌, ◌∙◌, refl, sym, ap, subst, ℕ, ◌+◌, ◌≤◌, ltb, leb, max, arith, Bool, true, false, ◌&&◌, List, [], ◌∷◌, ◌++◌, length, length-append, Option, None, Some, Result, Ok, Err, inl}
use Rattle.std.proofs.lemmas.Bool.{lt-ltb, le-leb}
use Rattle.std.proofs.lemmas.List.{length-map}
use Rattle.sexpr_read.specs.Tree.{Tree}
use Rattle.one_item.specs.declared.item.Item.{Item}
use Rattle.board_items.specs.Boards.{PlainBoard, with_item}
use Rattle.board_items.specs.ItemRefusals.{capacity_of}
use Rattle.board_errors.specs.declared.errors.BoardError.{BoardError}
use Rattle.roundtrip_lists.specs.Translated.{TranslatedTrees}
use Rattle.list_read.specs.FirstRefusals.{◌>>=◌}
use Rattle.pcb_read.specs.declared.sorts.Sort.{Sort}
use Rattle.pcb_read.specs.Sorts.{sort_of}
use Rattle.pcb_read.specs.ItemsOf.{SaysItems, has_capacity}
use Rattle.pcb_read.specs.BoardOf.{Reading, with_items, with_other, with_board, SaysPartBy, SaysPart, SaysParts}
use Rattle.roundtrip_lists.specs.Carried.{of_unit}
use Rattle.roundtrip_boards.specs.Roots.{SameLayersAndNets, SameItems, with_units, total, Goes, ends, stays, leaves, keeps}

-- ---- boards with more items

pub same_with : (board : PlainBoard) (items : List Item) → SameLayersAndNets board (with_items board items)
same_with board [] = record { copper = refl; nets = refl }
same_with board (item ∷ items) = let k = same_with (with_item board item) items in record { copper = k.copper; nets = k.nets }

-- ids and units of a board that was read from nothing
pub record IsFresh (board : PlainBoard) : Type 0 where
  pub ids : board.next_id ≡ length board.items
  pub units : board.next_unit ≤ length board.items

pub count_with : (board : PlainBoard) (items : List Item) → length (with_items board items).items ≡ length board.items + length items
count_with board [] = omega arith
count_with board (item ∷ items) =
    let k = count_with (with_item board item) items in
    let n = length-append board.items ((board.next_id, item) ∷ []) in
    omega (arith, k, n)

ids_with : (board : PlainBoard) (items : List Item) → (with_items board items).next_id ≡ board.next_id + length items
ids_with board [] = omega arith
ids_with board (item ∷ items) = let k = ids_with (with_item board item) items in omega (arith, k)

units_with : (board : PlainBoard) (unit : ℕ) (items : List Item) → (with_items board (of_unit unit items)).next_unit ≤ max board.next_unit (unit + 1)
units_with board unit [] = omega arith
units_with board unit (item ∷ items) = let k = units_with (with_item board (record item { unit = unit })) unit items in omega (arith, k)

pub fresh_by : (board : PlainBoard) (items : List Item) → IsFresh board → IsFresh (with_items board (of_unit board.next_unit items))
fresh_by board [] h = h
fresh_by board (item ∷ items) h =
    let all : List Item = of_unit board.next_unit (item ∷ items) in
    let n = count_with board all in
    let i = ids_with board all in
    let u = units_with board board.next_unit (item ∷ items) in
    let l : length all ≡ length (item ∷ items) = length-map (item ∷ items) (λ (x : Item). record x { unit = board.next_unit }) in
    let ids = h.ids in
    let units = h.units in
    record { ids = omega (arith, n, i, ids); units = omega (arith, n, u, units, l) }

pub capacity_there : (board : PlainBoard) (items : List Item) → IsFresh board → length board.items + length items ≤ 200000 → has_capacity board board.next_unit items ≡ true
capacity_there board [] h few = refl
capacity_there board (item ∷ items) h few =
    let ids = h.ids in
    let units = h.units in
    both (leb (length (item ∷ items)) (capacity_of board)) (ltb board.next_unit 4294967295) (le-leb (length (item ∷ items)) (capacity_of board) (omega (arith, ids))) (lt-ltb board.next_unit 4294967295 (omega (arith, units)))
  where
    both : (a b : Bool) → a ≡ true → b ≡ true → a && b ≡ true
    both true true h k = refl
    both true false h k = cc
    both false b h k = cc

one_more : (a b : PlainBoard) (item : Item) → SameItems a b → SameItems (with_item a item) (with_item b item)
one_more a b item h = record {
  items = ap (λ (l : List (ℕ × Item)). l ++ (b.next_id, item) ∷ []) h.items ∙ ap (λ n. a.items ++ (n, item) ∷ []) h.ids;
  ids = ap (λ n. n + 1) h.ids;
  units = ap (λ n. max n (item.unit + 1)) h.units;
}

items_more : (a b : PlainBoard) (items : List Item) → SameItems a b → SameItems (with_items a items) (with_items b items)
items_more a b [] h = h
items_more a b (item ∷ items) h = items_more (with_item a item) (with_item b item) items (one_more a b item h)

items_over : (a b c : PlainBoard) → SameItems a b → SameItems b c → SameItems a c
items_over a b c h k = record { items = k.items ∙ h.items; ids = k.ids ∙ h.ids; units = k.units ∙ h.units }

pub same_units : (a b : PlainBoard) (units : List (List Item)) → SameItems a b → SameItems (with_units a units) (with_units b units)
same_units a b [] h = h
same_units a b (now ∷ units) h =
    subst (λ n. SameItems (with_units (with_items a (of_unit a.next_unit now)) units) (with_units (with_items b (of_unit n now)) units)) (sym h.units)
    (same_units (with_items a (of_unit a.next_unit now)) (with_items b (of_unit a.next_unit now)) units (items_more a b (of_unit a.next_unit now) h))

fresh_same : (a b : PlainBoard) → SameItems a b → IsFresh a → IsFresh b
fresh_same a b h f = record { ids = h.ids ∙ f.ids ∙ sym (ap length h.items); units = (let e = h.units in let l = ap length h.items in let u = f.units in omega (arith, e, l, u)) }

-- ---- the parts

-- what is read of the other board: with the same layers and nets, with these units
pub record Reads (z y : Reading) (board : PlainBoard) (units : List (List Item)) : Type 0 where
  pub ground : SameLayersAndNets z.board y.board
  pub layered : y.layered ≡ z.layered
  pub same : SameItems (with_units board units) y.board
  pub fresh : IsFresh y.board

module _ (Carries : Sort → Tree → Tree → List Item → List Item → Type 0)
    (carried : (sort : Sort) (board other : PlainBoard) (unit : ℕ) (t u : Tree) (items now : List Item) → SameLayersAndNets board other → SaysItems board unit t sort (Ok items) → Carries sort t u items now
    → has_capacity other other.next_unit now ≡ true → SaysItems other other.next_unit u sort (Ok (of_unit other.next_unit now)))
    (as_long : (sort : Sort) (t u : Tree) (items now : List Item) → Carries sort t u items now → length now ≡ length items)
    (plain : (t u : Tree) → TranslatedTrees None t u → sort_of t ≡ sort_of u)
    (others : (t u : Tree) (a b next : Reading) → TranslatedTrees None t u → SameLayersAndNets a.board b.board → b.layered ≡ a.layered → with_other a t ≡ Ok next
    → (new : Reading) × (with_other b u ≡ Ok new) × SameLayersAndNets next.board new.board × (new.layered ≡ next.layered) × SameItems b.board new.board) where
  -- a unit leaves the layers and the nets as they were
  unit_ground : (a next : Reading) (t : Tree) (sort : Sort) → SaysPartBy a t (Some sort) (Ok next) → SameLayersAndNets a.board next.board × (next.layered ≡ a.layered)
  unit_ground a next t sort (board, (items, says, with), is) = by_items items board with is
    where
      by_items : (items : Result (List Item) BoardError) (board : Result PlainBoard BoardError) → board ≡ (items >>= λ found. Ok (with_items a.board found)) → Ok next ≡ with_board a board → SameLayersAndNets a.board next.board × (next.layered ≡ a.layered)
      by_items (Err e) board w i = absurd (let k : Ok next ≡ with_board a (Err e) = i ∙ ap (with_board a) w in cc)
      by_items (Ok found) board w i =
          let k : Ok next ≡ with_board a (Ok (with_items a.board found)) = i ∙ ap (with_board a) w in
          let same : record a { board = with_items a.board found } ≡ next = cc in
          subst (λ (r : Reading). SameLayersAndNets a.board r.board × (r.layered ≡ a.layered)) same (same_with a.board found, refl)

  join : {a b c : PlainBoard} → SameLayersAndNets a b → SameLayersAndNets b c → SameLayersAndNets a c
  join h k = record { copper = k.copper ∙ h.copper; nets = k.nets ∙ h.nets }

  over : {a b c : PlainBoard} → SameLayersAndNets a b → SameLayersAndNets a c → SameLayersAndNets b c
  over h k = record { copper = k.copper ∙ sym h.copper; nets = k.nets ∙ sym h.nets }

  pub transfer : {a z : Reading} {ts us : List Tree} {units : List (List Item)} → Goes Carries a ts z us units → (b : Reading) → SameLayersAndNets a.board b.board → b.layered ≡ a.layered → IsFresh b.board
      → length b.board.items + total units ≤ 200000 → (y : Reading) × SaysParts b us (Ok y) × Reads z y b.board units
  transfer ends b ground layered fresh few = (b, refl, record { ground = ground; layered = layered; same = record { items = refl; ids = refl; units = refl }; fresh = fresh })
  transfer (stays {a = a} {next = next} {t = t} {u = u} {us = us} {units = units} none translated says goes) b ground layered fresh few =
      let read : Ok next ≡ with_other a t = subst (λ (s : Option Sort). SaysPartBy a t s (Ok next)) none says in
      let k = others t u a b next translated ground layered (sym read) in
      let none_too : sort_of u ≡ None = sym (plain t u translated) ∙ none in
      let says_too : SaysPart b u (Ok k.0) = subst (λ (s : Option Sort). SaysPartBy b u s (Ok k.0)) (sym none_too) (sym k.1) in
      let count : length k.0.board.items ≡ length b.board.items = ap length k.4.items in
      let rest = transfer goes k.0 k.2 k.3 (fresh_same b.board k.0.board k.4 fresh) (omega (arith, count)) in
      (rest.0, inl (k.0, says_too, rest.1), record { ground = rest.2.ground; layered = rest.2.layered; same = items_over (with_units b.board units) (with_units k.0.board units) rest.0.board (same_units b.board k.0.board units k.4) rest.2.same; fresh = rest.2.fresh })
  transfer (leaves {a = a} {next = next} {t = t} sort is says goes) b ground layered fresh few =
      let k = unit_ground a next t sort (subst (λ (s : Option Sort). SaysPartBy a t s (Ok next)) is says) in
      transfer goes b (over k.0 ground) (layered ∙ sym k.1) fresh few
  transfer (keeps {a = a} {next = next} {t = t} {u = u} {items = items} {now = now} {units = units} sort is so says carries to goes) b ground layered fresh few =
      let capacity : has_capacity b.board b.board.next_unit now ≡ true = capacity_there b.board now fresh (omega arith) in
      let found = carried sort a.board b.board a.board.next_unit t u items now ground says carries capacity in
      let more : List Item = of_unit b.board.next_unit now in
      let board : PlainBoard = with_items b.board more in
      let new : Reading = record b { board = board } in
      let says_too : SaysPart b u (Ok new) = subst (λ (s : Option Sort). SaysPartBy b u s (Ok new)) (sym so) (Ok board, (Ok more, found, refl), refl) in
      let there : SameLayersAndNets next.board board =
      over (subst (λ (r : Reading). SameLayersAndNets a.board r.board) (sym to) (same_with a.board items)) (join ground (same_with b.board more)) in
      let l : length more ≡ length now = length-map now (λ (x : Item). record x { unit = b.board.next_unit }) in
      let count = count_with b.board more in
      let rest = transfer goes new there (layered ∙ sym (ap (λ (r : Reading). r.layered) to)) (fresh_by b.board now fresh) (omega (arith, l, count)) in
      (rest.0, inl (new, says_too, rest.1), record { ground = rest.2.ground; layered = rest.2.layered; same = rest.2.same; fresh = rest.2.fresh })
