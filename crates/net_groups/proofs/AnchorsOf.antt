-- The anchors of the groups of a net of a board.
use Rattle.std.proofs.Common.{◌≡◌, ℕ, zero, suc, ◌<◌, ◌≤◌, nat_eq, List, [], length, get_or, All, Contains, IsSome, Option, Some, inl, true, refl, sym, subst, ◌∙◌, arith, eq-eqb}
use Rattle.std.proofs.lemmas.List.Elements.{All-contains, All-weaker, All-get_or, Contains-get_or}
use Rattle.int_algebra.proofs.Tested.{front}
use Rattle.one_item.specs.declared.item.Item.{Item}
use Rattle.one_item.specs.Positions.{is_on_board}
use Rattle.board_items.specs.Boards.{PlainBoard, IsSound, has_layers_of, item_at, ids_of_net}
use Rattle.ratsnest.specs.declared.anchor.Anchor.{Anchor}
use Rattle.ratsnest.specs.NestOf.{GroupsOccur}
use Rattle.net_groups.specs.ConnectedClasses.{least}
use Rattle.net_groups.specs.Touching.{IsConductor}
use Rattle.net_groups.specs.NetGroups.{items_of, HasCopper, AreGroups, HasItem}
use Rattle.net_groups.specs.Anchors.{HasAnchor, IsAnchor, AreAnchorsOf, AreAnchors}
use Rattle.net_groups.specs.Numbering.{AreNumbered, AreAnchorsAmong}
use Rattle.net_groups.proofs.AnchorLists.{some_group, has_group, same_anchors}
use Rattle.net_groups.proofs.NetIds.{ids_few, ids_has, found_below, found_admitted}
use Rattle.net_groups.proofs.Numbers.{is_group}
use Rattle.net_groups.proofs.Anchoring.{x_in_reach, y_in_reach}
use Rattle.net_groups.proofs.Nets.{its_item, its_net, conductor}

-- ---- groups have one list
pub anchors_once : (items : List (ℕ × Item)) (groups : List (List ℕ)) (anchors others : List Anchor) → AreAnchorsOf items groups anchors → AreAnchorsOf items groups others → anchors ≡ others
anchors_once items groups anchors others a b = same_anchors anchors others a.rise b.rise (λ x c. b.every x (a.only x c)) (λ x c. a.every x (b.only x c))

one_item : (a b : Item) → Some a ≡ Some b → a ≡ b
one_item a b e = cc

-- the position of an item as its first anchor
abbrev start : (g id : ℕ) (item : Item) → is_on_board item ≡ true → Anchor
start g id item near = record { id = id; number = 0; group = g; x = item.x; y = item.y; x_in_range = x_in_reach item near; y_in_range = y_in_reach item near }

module _ (board : PlainBoard) (net : ℕ) (sound : IsSound board) (groups : List (List ℕ)) (are : AreGroups board net groups) where
  -- ---- members
  copper_of : (g id : ℕ) → Contains (get_or groups g []) id → HasCopper (items_of net board.items) id
  copper_of g id c =
      All-contains (HasCopper (items_of net board.items)) (get_or groups g []) id
      (All-get_or (λ list. All (HasCopper (items_of net board.items)) list) groups g [] (is_group groups g id c) are.only) c

  member_of : (g id : ℕ) → Contains (get_or groups g []) id → IsConductor board net id
  member_of g id c = conductor board net sound id (copper_of g id c)

  found_some : (id : ℕ) (item : Item) → item_at board.items id ≡ Some item → HasItem board id
  found_some id item found = subst IsSome (sym found) refl

  listed : (id : ℕ) → HasCopper (items_of net board.items) id → Contains (ids_of_net net board.items) id
  listed id own = ids_has (λ item. nat_eq item.net net) board.items id own.item (its_item board net sound id own) (eq-eqb own.item.net net (its_net board net sound id own))

  pub members_placed : All (All (HasItem board)) groups
  members_placed =
      All-weaker (λ list. All (HasCopper (items_of net board.items)) list) (All (HasItem board))
      (λ list all. All-weaker (HasCopper (items_of net board.items)) (HasItem board) (λ id has. let is = conductor board net sound id has in found_some id is.item is.found) list all)
      groups are.only

  pub members_listed : All (All (Contains (ids_of_net net board.items))) groups
  members_listed =
      All-weaker (λ list. All (HasCopper (items_of net board.items)) list) (All (Contains (ids_of_net net board.items)))
      (λ list all. All-weaker (HasCopper (items_of net board.items)) (Contains (ids_of_net net board.items)) listed list all)
      groups are.only

  -- ---- how many there are
  least_of : (k : ℕ) → k < length groups → Contains (get_or groups k []) (least (get_or groups k []))
  least_of k lt = Contains-get_or (get_or groups k []) 0 0 (are.filled k [] lt)

  leasts : (k : ℕ) → k < length groups → k ≤ least (get_or groups k [])
  leasts zero lt = omega arith
  leasts (suc k) lt =
      let before = leasts k (omega arith) in
      let less = are.ordered k (suc k) [] (omega arith) lt in
      omega arith

  pub groups_few : length groups < 4294967296
  groups_few = by (length groups) refl
    where
      by : (n : ℕ) → length groups ≡ n → length groups < 4294967296
      by zero e = omega arith
      by (suc k) e =
          let lt : k < length groups = omega arith in
          let is = member_of k (least (get_or groups k [])) (least_of k lt) in
          let below = found_below 0 board.next_id board.items sound.ids (least (get_or groups k [])) is.item is.found in
          let high = leasts k lt in
          omega (arith, sound.last_id)

  -- ---- the anchors
  module _ (numbers : ℕ → Option ℕ) (numbered : AreNumbered groups numbers) (ids : List ℕ) (all : ids ≡ ids_of_net net board.items) (anchors : List Anchor) (found : AreAnchorsAmong board.items numbers ids anchors) where
    among : AreAnchorsAmong board.items numbers (ids_of_net net board.items) anchors
    among = subst (λ (is : List ℕ). AreAnchorsAmong board.items numbers is anchors) all found

    pub anchors_are : AreAnchors board net groups anchors
    anchors_are = record { rise = among.rise; only = only; every = every }
      where
        only : (a : Anchor) → Contains anchors a → IsAnchor (items_of net board.items) groups a
        only a c =
            let is = among.only a c in
            let member = numbered.only a.id a.group is.numbered in
            let own = copper_of a.group a.id member in
            let one : is.item ≡ own.item = one_item is.item own.item (sym is.found ∙ its_item board net sound a.id own) in
            record { own = own; member = member; place = subst (λ (item : Item). HasAnchor item a.number a.x a.y) one is.place }

        every : (a : Anchor) → IsAnchor (items_of net board.items) groups a → Contains anchors a
        every a is =
            let found = its_item board net sound a.id is.own in
            among.every a (record {
              item = is.own.item;
              found = found;
              listed = listed a.id is.own;
              numbered = numbered.every a.id a.group is.member;
              place = is.place;
            })

    pub anchors_few : length anchors < 4294967296
    anchors_few = omega (arith, among.few, ids_few (λ item. nat_eq item.net net) board.items, sound.few)

    pub anchors_placed : All (λ (a : Anchor). HasItem board a.id) anchors
    anchors_placed k d lt = let is = among.only (get_or anchors k d) (Contains-get_or anchors k d lt) in found_some (get_or anchors k d).id is.item is.found

    pub anchors_occur : GroupsOccur anchors
    anchors_occur g lt =
        let high = some_group anchors g lt in
        let last = is_group groups high.0.group high.0.id (anchors_are.only high.0 high.1).member in
        let below : g < length groups = omega (arith, high.2) in
        let id = least (get_or groups g []) in
        let own = copper_of g id (least_of g below) in
        let found = its_item board net sound id own in
        let near = front (is_on_board own.item) _ (front _ (has_layers_of board own.item) (found_admitted board board.items sound.admitted id own.item found)) in
        has_group anchors (start g id own.item near) (anchors_are.every (start g id own.item near) (record { own = own; member = least_of g below; place = inl (refl, refl, refl) }))
