-- What is said of a whole board, said of the items of one net.
use Rattle.std.proofs.Common.{◌≡◌, ◌≢◌, ℕ, ◌+◌, ◌≤◌, Bool, true, false, cond, not, nat_eq, List, [], ◌∷◌, Some, refl, sym, subst, ap, ◌∙◌, arith, eq-eqb}
use Rattle.std.proofs.lemmas.Bool.{eqb-true, eqb-false, ne_eqb, and_parts, and_from, not-true, not_from_false}
use Rattle.std.specs.List.{All}
use Rattle.std.proofs.lemmas.List.Elements.{All-weaker}
use Rattle.one_item.specs.declared.item.Item.{Item}
use Rattle.board_items.specs.Boards.{PlainBoard, Rise, IsSound, item_at}
use Rattle.net_groups.specs.StepChains.{Chain}
use Rattle.net_groups.specs.StepChains.Chain.{here, step}
use Rattle.net_groups.specs.ConnectedClasses.{AreClasses}
use Rattle.net_groups.specs.NetGroups.{is_of_net, items_of, HasCopper, Touch, AreGroups}
use Rattle.net_groups.specs.Touching.{TouchOn, IsConductor, AreGroupsOn}
use Rattle.net_groups.proofs.Whole.{touched_conductor}

-- ---- the test
net_from : (net : ℕ) (item : Item) → is_of_net net item ≡ true → (item.net ≡ net) × (net ≢ 0)
net_from net item e = let p = and_parts (nat_eq item.net net) (not (nat_eq net 0)) e in (eqb-true item.net net p.0, eqb-false net 0 (not-true (nat_eq net 0) p.1))

net_to : (net : ℕ) (item : Item) → item.net ≡ net → net ≢ 0 → is_of_net net item ≡ true
net_to net item e some = and_from (nat_eq item.net net) (not (nat_eq net 0)) (eq-eqb item.net net e) (not_from_false (nat_eq net 0) (ne_eqb net 0 some))

-- ---- the items of the net among all
some_same : (a b : Item) → Some a ≡ Some b → b ≡ a
some_same a b e = cc

record IsAmong (net : ℕ) (es : List (ℕ × Item)) (low id : ℕ) (item : Item) : Type 0 where
  pub found : item_at es id ≡ Some item
  pub passes : is_of_net net item ≡ true
  pub from : low ≤ id

among : (net low high : ℕ) (es : List (ℕ × Item)) → Rise low high es → (id : ℕ) (item : Item) → item_at (items_of net es) id ≡ Some item → IsAmong net es low id item
among net low high [] rise id item f = absurd (cc)
among net low high (e ∷ es) rise id item f = by_test (is_of_net net e.1) refl f (λ g. later (among net (e.0 + 1) high es rise.1 id item g))
  where
    later : IsAmong net es (e.0 + 1) id item → IsAmong net (e ∷ es) low id item
    later k =
        let up = k.from in
        let above = rise.0 in
        let other : id ≢ e.0 = λ same. omega arith in
        record { found = ap (λ b. cond b (Some e.1) (item_at es id)) (ne_eqb id e.0 other) ∙ k.found; passes = k.passes; from = omega arith }

    by_test : (b : Bool) → is_of_net net e.1 ≡ b → item_at (cond b (e ∷ items_of net es) (items_of net es)) id ≡ Some item → (item_at (items_of net es) id ≡ Some item → IsAmong net (e ∷ es) low id item) → IsAmong net (e ∷ es) low id item
    by_test true is g on = by_id (nat_eq id e.0) refl g
      where
        by_id : (b : Bool) → nat_eq id e.0 ≡ b → cond b (Some e.1) (item_at (items_of net es) id) ≡ Some item → IsAmong net (e ∷ es) low id item
        by_id true same h =
            let one : item ≡ e.1 = some_same e.1 item h in
            let at : id ≡ e.0 = eqb-true id e.0 same in
            record {
              found = ap (λ b. cond b (Some e.1) (item_at es id)) same ∙ h;
              passes = subst (λ (i : Item). is_of_net net i ≡ true) (sym one) is;
              from = subst (λ (k : ℕ). low ≤ k) (sym at) rise.0;
            }
        by_id false other h = on h
    by_test false is g on = on g

stays : (net : ℕ) (es : List (ℕ × Item)) (id : ℕ) (item : Item) → item_at es id ≡ Some item → is_of_net net item ≡ true → item_at (items_of net es) id ≡ Some item
stays net [] id item f is = f
stays net (e ∷ es) id item f is = by_id (nat_eq id e.0) refl f (λ g. stays net es id item g is)
  where
    by_id : (b : Bool) → nat_eq id e.0 ≡ b → cond b (Some e.1) (item_at es id) ≡ Some item → (item_at es id ≡ Some item → item_at (items_of net es) id ≡ Some item)
        → item_at (cond (is_of_net net e.1) (e ∷ items_of net es) (items_of net es)) id ≡ Some item
    by_id true same g on =
        let its : is_of_net net e.1 ≡ true = subst (λ (i : Item). is_of_net net i ≡ true) (some_same e.1 item g) is in
        subst (λ (b : Bool). item_at (cond b (e ∷ items_of net es) (items_of net es)) id ≡ Some item) (sym its) (ap (λ b. cond b (Some e.1) (item_at (items_of net es) id)) same ∙ g)
    by_id false other g on = by_test (is_of_net net e.1) (on g)
      where
        by_test : (b : Bool) → item_at (items_of net es) id ≡ Some item → item_at (cond b (e ∷ items_of net es) (items_of net es)) id ≡ Some item
        by_test true h = ap (λ b. cond b (Some e.1) (item_at (items_of net es) id)) other ∙ h
        by_test false h = h

-- ---- other words for members and for what is joined
reworded : (Member Other : ℕ → Type 0) (Joined Linked : ℕ → ℕ → Type 0) → ((a : ℕ) → Member a → Other a) → ((a : ℕ) → Other a → Member a)
    → ((a b : ℕ) → Member a → Joined a b → Linked a b) → ((a b : ℕ) → Linked a b → Joined a b) → (lists : List (List ℕ)) → AreClasses Member Joined lists → AreClasses Other Linked lists
reworded Member Other Joined Linked on back to from lists c = record {
  filled = c.filled;
  rising = c.rising;
  ordered = c.ordered;
  disjoint = c.disjoint;
  only = All-weaker (λ (list : List ℕ). All Member list) (λ (list : List ℕ). All Other list) (λ list h. All-weaker Member Other on list h) lists c.only;
  every = λ a m. c.every a (back a m);
  joined = λ a b m n. (λ t. to a b (back a m) ((c.joined a b (back a m) (back b n)).0 t), λ l. (c.joined a b (back a m) (back b n)).1 (from a b l));
}

module _ (board : PlainBoard) (net : ℕ) (sound : IsSound board) where
  member : (id : ℕ) → IsConductor board net id → HasCopper (items_of net board.items) id
  member id is = record { item = is.item; found = stays net board.items id is.item is.found (net_to net is.item is.own_net is.some_net); copper = is.copper }

  -- an item of the net is one of the board
  pub its_item : (id : ℕ) (is : HasCopper (items_of net board.items) id) → item_at board.items id ≡ Some is.item
  its_item id is = (among net 0 board.next_id board.items sound.ids id is.item is.found).found

  pub its_net : (id : ℕ) (is : HasCopper (items_of net board.items) id) → is.item.net ≡ net
  its_net id is = (net_from net is.item (among net 0 board.next_id board.items sound.ids id is.item is.found).passes).0

  pub conductor : (id : ℕ) → HasCopper (items_of net board.items) id → IsConductor board net id
  conductor id is =
      let a = among net 0 board.next_id board.items sound.ids id is.item is.found in
      let says = net_from net is.item a.passes in
      record { item = is.item; found = a.found; own_net = says.0; some_net = says.1; copper = is.copper }

  touch_in : (i j : ℕ) → IsConductor board net i → TouchOn board i j → Touch (items_of net board.items) i j
  touch_in i j is t =
      record {
        a = t.a;
        b = t.b;
        first = stays net board.items i t.a t.first (net_to net t.a first_net is.some_net);
        second = stays net board.items j t.b t.second (net_to net t.b (sym t.touch.same_net ∙ first_net) is.some_net);
        meet = t.touch.meet;
      }
    where
      first_net : t.a.net ≡ net
      first_net = ap (λ (a : Item). a.net) (some_same is.item t.a (sym is.found ∙ t.first)) ∙ is.own_net

  touch_out : (i j : ℕ) → Touch (items_of net board.items) i j → TouchOn board i j
  touch_out i j t =
      let a = among net 0 board.next_id board.items sound.ids i t.a t.first in
      let b = among net 0 board.next_id board.items sound.ids j t.b t.second in
      let first = net_from net t.a a.passes in
      let second = net_from net t.b b.passes in
      record {
        a = t.a;
        b = t.b;
        first = a.found;
        second = b.found;
        touch = record { same_net = first.0 ∙ sym second.0; some_net = λ e. first.1 (sym first.0 ∙ e); meet = t.meet };
      }

  chain_in : {i j : ℕ} → Chain (TouchOn board) i j → IsConductor board net i → Chain (Touch (items_of net board.items)) i j
  chain_in here is = here
  chain_in (step {i} {j} s c) is = step (touch_in i j is s) (chain_in c (touched_conductor board net i j is s))

  chain_out : {i j : ℕ} → Chain (Touch (items_of net board.items)) i j → Chain (TouchOn board) i j
  chain_out here = here
  chain_out (step {i} {j} s c) = step (touch_out i j s) (chain_out c)

  pub on_net : (groups : List (List ℕ)) → AreGroupsOn board net groups → AreGroups board net groups
  on_net =
      reworded (IsConductor board net) (HasCopper (items_of net board.items)) (Chain (TouchOn board)) (Chain (Touch (items_of net board.items))) member conductor
      (λ a b is c. chain_in c is) (λ a b c. chain_out c)
