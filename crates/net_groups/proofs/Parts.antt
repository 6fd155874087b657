-- What is found of a net stays where its items stay, and has all that its lines ask for.
use Rattle.std.proofs.Common.{◌≡◌, ◌⊎◌, inl, inr, refl, sym, subst, zero, suc, ℕ, ◌<◌, Bool, true, false, cond, not, nat_eq, List, [], ◌∷◌, length, get_or, map, Some, IsSome, All, Contains, arith, eq-eqb}
use Rattle.std.specs.List.{AllZip}
use Rattle.std.specs.Map.{lookup}
use Rattle.std.proofs.lemmas.List.Elements.{All-contains, All-contains_itself, All-weaker, All-filter}
use Rattle.one_item.specs.declared.item.Item.{Item}
use Rattle.board_items.specs.Boards.{PlainBoard, IsSound, name_of, item_at}
use Rattle.board_index.proofs.OneList.{nothing, cons_case}
use Rattle.net_groups.specs.NetGroups.{HasCopper, AreGroupsOf, HasItem, items_of}
use Rattle.net_groups.specs.Anchors.{AreAnchorsOf}
use Rattle.net_groups.specs.NetParts.{PlainNetPart, IsNetPart, AreParts, IsWritable, real_nets}
use Rattle.net_groups.proofs.Nets.{conductor}
use Rattle.ratsnest.specs.NestOf.{HasPlaces}

pub part_stays : (old new : PlainBoard) (net : ℕ) → items_of net new.items ≡ items_of net old.items → (part : PlainNetPart) → IsNetPart old net part → IsNetPart new net part
part_stays old new net same part h = record {
  number = h.number;
  groups = subst (λ (items : List (ℕ × Item)). AreGroupsOf items part.groups) (sym same) h.groups;
  anchors = subst (λ (items : List (ℕ × Item)). AreAnchorsOf items part.groups part.anchors) (sym same) h.anchors;
  links = h.links;
}

-- each net is found by its number
named : (nets : List (ℕ × List ℕ)) (net : ℕ) → Contains (map (λ entry. entry.0) nets) net → IsSome (lookup (nat_eq net) nets)
named [] net c = absurd (nothing net c)
named (e ∷ es) net c = by_test (λ k. named es net k) (nat_eq net e.0) refl (cons_case e.0 net (map (λ entry. entry.0) es) c)
  where
    by_test : (Contains (map (λ entry. entry.0) es) net → IsSome (lookup (nat_eq net) es)) → (t : Bool) → nat_eq net e.0 ≡ t → (e.0 ≡ net) ⊎ Contains (map (λ entry. entry.0) es) net → IsSome (cond (nat_eq net e.0) (Some e.1) (lookup (nat_eq net) es))
    by_test again true h k = rw h refl
    by_test again false h (inl g) = let t = eq-eqb net e.0 (sym g) in absurd cc
    by_test again false h (inr k) = rw h (again k)

-- some net is that of the part at a place
its_net : (board : PlainBoard) (nets : List ℕ) (parts : List PlainNetPart) → AllZip (IsNetPart board) nets parts → (k : ℕ) (d : PlainNetPart) → k < length parts → (net : ℕ) × Contains nets net × IsNetPart board net (get_or parts k d)
its_net board [] [] h k d lt = absurd (omega arith)
its_net board [] (p ∷ ps) h k d lt = absurd h
its_net board (n ∷ ns) [] h k d lt = absurd h
its_net board (n ∷ ns) (p ∷ ps) h zero d lt = (n, (0, omega arith, refl), h.0)
its_net board (n ∷ ns) (p ∷ ps) h (suc k) d lt = let r = its_net board ns ps h.1 k d (omega arith) in (r.0, (suc r.1.0, omega (arith, r.1.1), r.1.2), r.2)

there : (board : PlainBoard) (id : ℕ) (item : Item) → item_at board.items id ≡ Some item → HasItem board id
there board id item e = subst IsSome (sym e) refl

on_board : (board : PlainBoard) → IsSound board → (net id : ℕ) → HasCopper (items_of net board.items) id → HasItem board id
on_board board s net id has = let is = conductor board net s id has in there board id is.item is.found

pub writable : (board : PlainBoard) → IsSound board → (net : ℕ) → Contains (real_nets board) net → (part : PlainNetPart) → IsNetPart board net part → IsWritable board part
writable board s net c part is = record {
  declared =
      let numbers = map (λ (entry : ℕ × List ℕ). entry.0) board.nets in
      let among : Contains numbers net = All-contains (Contains numbers) (real_nets board) net (All-filter (λ n. not (nat_eq n 0)) (Contains numbers) numbers (All-contains_itself numbers)) c in
      subst (λ (n : ℕ). IsSome (name_of board n)) (sym is.number) (named board.nets net among);
  filled = is.groups.filled;
  members = All-weaker (All (HasCopper (items_of net board.items))) (All (HasItem board)) (λ group all. All-weaker (HasCopper (items_of net board.items)) (HasItem board) (λ id has. on_board board s net id has) group all) part.groups is.groups.only;
  anchors = All-weaker (Contains part.anchors) (λ anchor. HasItem board anchor.id) (λ anchor c. on_board board s net anchor.id (is.anchors.only anchor c).own) part.anchors (All-contains_itself part.anchors);
  places = All-weaker (Contains part.links) (HasPlaces part.anchors) (λ link c. let l = (is.links.sound link c).link in (let o = l.in_order in let w = l.within in omega arith, l.within)) part.links (All-contains_itself part.links);
}

pub are_writable : (board : PlainBoard) → IsSound board → (parts : List PlainNetPart) → AreParts board parts → All (IsWritable board) parts
are_writable board s parts are k d lt = let r = its_net board (real_nets board) parts are k d lt in writable board s r.0 r.1 (get_or parts k d) r.2
