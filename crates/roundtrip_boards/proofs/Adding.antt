-- The lists that were added, in the written text.
use Rattle.std.proofs.Common.{◌≡◌, ◌∙◌, refl, sym, ap, subst, ℕ, suc, ◌+◌, ◌≤◌, arith, Bool, true, false, cond, List, [], ◌∷◌, map, length, Option, None, Some, Ok, inl}
use Rattle.std.specs.Prelude.{MatchBool}
use Rattle.std.proofs.lemmas.List.{length-map}
use Rattle.sexpr_read.specs.declared.place.Span.{Span}
use Rattle.sexpr_read.specs.Tree.{Forest, list, Tree, leaf, branch}
use Rattle.one_item.specs.declared.item.Item.{Item}
use Rattle.board_items.specs.Boards.{PlainBoard}
use Rattle.roundtrip_text.specs.Pieces.{SameTrees}
use Rattle.roundtrip_text.specs.RewrittenText.{insides}
use Rattle.roundtrip_lists.specs.Translated.{Shift, Translated}
use Rattle.roundtrip_lists.specs.Carried.{shift_of, of_unit}
use Rattle.roundtrip_lists.proofs.Moving.{translated_same, translated_itself}
use Rattle.pcb_read.specs.declared.sorts.Sort.{Sort}
use Rattle.pcb_read.specs.Sorts.{sort_of}
use Rattle.pcb_read.specs.ItemsOf.{SaysItems, has_capacity}
use Rattle.pcb_read.specs.ItemText.{SaysBy, SaysList}
use Rattle.pcb_read.specs.BoardOf.{Reading, with_items, SaysPartBy, SaysPart, SaysParts}
use Rattle.roundtrip_boards.specs.Roots.{SameLayersAndNets, with_units, total}
use Rattle.roundtrip_boards.specs.WrittenBoard.{Draft, Added, is_gone, shift_of_unit, moved_if, inside_of, span_of, added_trees}
use Rattle.roundtrip_boards.specs.Ledger.{Entry, AreNow, AreKept, SameReads}
use Rattle.roundtrip_boards.specs.AddedReads.{AddedRead, ends, nothing, unit}
use Rattle.roundtrip_boards.proofs.Roots.{IsFresh, fresh_by, capacity_there, count_with, same_with}
use Rattle.roundtrip_boards.proofs.Following.{HaveInsides, items_now}

-- what was read stays
pub same_reads : (g : PlainBoard) {k : ℕ} {lists : List Added} {es : List Entry} → AddedRead g k lists es → (fs : List Entry) → SameReads es fs → AddedRead g k lists fs
same_reads g ends [] h = ends
same_reads g ends (f ∷ fs) h = absurd h
same_reads g (nothing tree was more) fs h = nothing tree was (same_reads g more fs h)
same_reads g (unit tree e was more) [] h = absurd h
same_reads g (unit tree e was more) (f ∷ fs) h =
    unit tree f (record { board = was.board; same = was.same; says = subst (λ (l : List Item). SaysList was.board was.board.next_unit tree (Ok l)) (sym h.0) was.says }) (same_reads g more fs h.1)

module _ (Carries : Sort → Tree → Tree → List Item → List Item → Type 0)
    (carried : (sort : Sort) (board other : PlainBoard) (unit : ℕ) (t u : Tree) (items now : List Item) → SameLayersAndNets board other → SaysItems board unit t sort (Ok items) → Carries sort t u items now
    → has_capacity other other.next_unit now ≡ true → SaysItems other other.next_unit u sort (Ok (of_unit other.next_unit now)))
    (carries : (sort : Sort) (s r : Span) (i j : Forest) (o : Option Shift) (e : Entry) → sort_of (branch s i) ≡ Some sort → SameTrees (moved_if o i) j → AreNow (shift_of o) e
    → Carries sort (branch s i) (branch r j) e.read (items_now e))
    (without : (sort : Sort) (s r : Span) (i j : Forest) → sort_of (branch s i) ≡ Some sort → Translated None i j → Carries sort (branch s i) (branch r j) [] [])
    (same_sort : (s r : Span) (i j : Forest) (o : Option Shift) → SameTrees (moved_if o i) j → sort_of (branch r j) ≡ sort_of (branch s i))
    (no_leaf : (s : Span) (q : Bool) (c : List ℕ) → sort_of (leaf s q c) ≡ None)
    (draft : Draft) (ground : PlainBoard) where
  -- a list that was read has a sort, and is a list
  sort_there : (board : PlainBoard) (n : ℕ) (t : Tree) (items : List Item) → SaysList board n t (Ok items) → (sort : Sort) × (sort_of t ≡ Some sort) × SaysItems board n t sort (Ok items)
  sort_there board n t items says = by_sort (sort_of t) refl says
    where
      by_sort : (o : Option Sort) → sort_of t ≡ o → SaysBy board n t o (Ok items) → (sort : Sort) × (sort_of t ≡ Some sort) × SaysItems board n t sort (Ok items)
      by_sort None e h = absurd cc
      by_sort (Some sort) e h = (sort, e, h)

  over : {a b c : PlainBoard} → SameLayersAndNets a b → SameLayersAndNets a c → SameLayersAndNets b c
  over h k = record { copper = k.copper ∙ sym h.copper; nets = k.nets ∙ sym h.nets }

  join : {a b c : PlainBoard} → SameLayersAndNets a b → SameLayersAndNets b c → SameLayersAndNets a c
  join h k = record { copper = k.copper ∙ h.copper; nets = k.nets ∙ h.nets }

  pub record AddsTo (b : Reading) (us : List Tree) (units : List (List Item)) : Type 0 where
    pub last : Reading
    pub says : SaysParts b us (Ok last)
    pub same : SameLayersAndNets ground last.board
    pub layered : last.layered ≡ b.layered
    pub items : last.board.items ≡ (with_units b.board units).items

  -- one list more, which gives these items
  one_more : (b : Reading) (r : Span) (j : Forest) (us : List Tree) (sort : Sort) (now : List Item) (units : List (List Item)) → SameLayersAndNets ground b.board → sort_of (branch r j) ≡ Some sort
      → SaysItems b.board b.board.next_unit (branch r j) sort (Ok (of_unit b.board.next_unit now))
      → AddsTo (record b { board = with_items b.board (of_unit b.board.next_unit now) }) us units → AddsTo b (branch r j ∷ us) (now ∷ units)
  one_more b r j us sort now units same is says rest =
      let more : List Item = of_unit b.board.next_unit now in
      let board : PlainBoard = with_items b.board more in
      let new : Reading = record b { board = board } in
      let part : SaysPart b (branch r j) (Ok new) = subst (λ (s : Option Sort). SaysPartBy b (branch r j) s (Ok new)) (sym is) (Ok board, (Ok more, says, refl), refl) in
      record { last = rest.last; says = inl (new, part, rest.says); same = rest.same; layered = rest.layered; items = rest.items }

  one_inside : (i : Forest) (is : List Forest) (us : List Tree) → HaveInsides (i ∷ is) us → (r : Span) × (j : Forest) × (others : List Tree) × (us ≡ branch r j ∷ others) × SameTrees i j × HaveInsides is others
  one_inside i is [] h = absurd h
  one_inside i is (leaf s q c ∷ us) h = absurd h
  one_inside i is (branch r j ∷ us) h = (r, j, us, refl, h.0, h.1)

  abbrev pub Adds : ℕ → List Added → List Entry → Type 0
  Adds k lists es = (b : Reading) (us : List Tree) → SameLayersAndNets ground b.board → IsFresh b.board → length b.board.items + total (map items_now es) ≤ 200000 → AreKept draft k es
      → HaveInsides (insides (added_trees draft lists)) us → (units : List (List Item)) × AddsTo b us units × ((c : PlainBoard) → with_units c units ≡ with_units c (map items_now es))

  fresh_more : (b : Reading) (now : List Item) → IsFresh b.board → IsFresh (with_items b.board (of_unit b.board.next_unit now))
  fresh_more b now h = fresh_by b.board now h

  count_more : (b : Reading) (now : List Item) (rest : ℕ) → length b.board.items + (length now + rest) ≤ 200000 → length (with_items b.board (of_unit b.board.next_unit now)).items + rest ≤ 200000
  count_more b now rest few =
      let l : length (of_unit b.board.next_unit now) ≡ length now = length-map now (λ (x : Item). record x { unit = b.board.next_unit }) in
      let n = count_with b.board (of_unit b.board.next_unit now) in
      omega (arith, l, n, few)

  abbrev pub Given : Reading → List Tree → Entry → List Entry → Type 0
  Given b us e es = (units : List (List Item)) × AddsTo b us units × ((c : PlainBoard) → with_units c units ≡ with_units c (items_now e ∷ map items_now es))

  pub adds : {k : ℕ} {lists : List Added} {es : List Entry} → AddedRead ground k lists es → Adds k lists es
  adds ends b us same fresh few kept inside = ([], nothing_left us inside, λ c. refl)
    where
      nothing_left : (us : List Tree) → HaveInsides [] us → AddsTo b us []
      nothing_left [] h = record { last = b; says = refl; same = same; layered = refl; items = refl }
      nothing_left (u ∷ us) h = absurd h
  adds (nothing {more = more} {es = es} tree was rest) b us same fresh few kept inside =
      let t = sort_there was.board was.board.next_unit tree [] was.says in
      let o = one_inside (inside_of tree) (insides (added_trees draft more)) us inside in
      let k = adds rest b o.2 same fresh few kept o.5 in
      by_tree tree t.0 t.1 t.2 o k
    where
      by_tree : (tree : Tree) (sort : Sort) → sort_of tree ≡ Some sort → SaysItems was.board was.board.next_unit tree sort (Ok [])
          → (o : (r : Span) × (j : Forest) × (others : List Tree) × (us ≡ branch r j ∷ others) × SameTrees (inside_of tree) j × HaveInsides (insides (added_trees draft more)) others)
          → ((units : List (List Item)) × AddsTo b o.2 units × ((c : PlainBoard) → with_units c units ≡ with_units c (map items_now es)))
          → (units : List (List Item)) × AddsTo b us units × ((c : PlainBoard) → with_units c units ≡ with_units c (map items_now es))
      by_tree (leaf s q c) sort is says o k = absurd (let e : None ≡ Some sort = sym (no_leaf s q c) ∙ is in cc)
      by_tree (branch s i) sort is says o k =
          let found = carried sort was.board b.board was.board.next_unit (branch s i) (branch o.0 o.1) [] [] (over was.same same) says (without sort s o.0 i o.1 is (translated_same None i i o.1 (translated_itself i) o.4)) refl in
          ([] ∷ k.0, subst (λ (l : List Tree). AddsTo b l ([] ∷ k.0)) (sym o.3) (one_more b o.0 o.1 o.2 sort [] k.0 same (same_sort s o.0 i o.1 None o.4 ∙ is) found k.1), k.2)
  adds (unit {k = n} {more = more} {es = es} tree e was rest) b us same fresh few kept inside = by_gone (is_gone draft n) refl kept.0.items inside (λ b us. adds rest b us)
    where
      there : (tree : Tree) → SaysList was.board was.board.next_unit tree (Ok e.read) → AreNow (shift_of (shift_of_unit draft n)) e → HaveInsides (moved_if (shift_of_unit draft n) (inside_of tree) ∷ insides (added_trees draft more)) us
          → ((b : Reading) (us : List Tree) → SameLayersAndNets ground b.board → IsFresh b.board → length b.board.items + total (map items_now es) ≤ 200000 → AreKept draft (suc n) es → HaveInsides (insides (added_trees draft more)) us
          → (units : List (List Item)) × AddsTo b us units × ((c : PlainBoard) → with_units c units ≡ with_units c (map items_now es))) → Given b us e es
      there (leaf s q c) said now inside later = absurd (let t = sort_there was.board was.board.next_unit (leaf s q c) e.read said in let x : None ≡ Some t.0 = sym (no_leaf s q c) ∙ t.1 in cc)
      there (branch s i) said now inside later =
          let t = sort_there was.board was.board.next_unit (branch s i) e.read said in
          let o = one_inside (moved_if (shift_of_unit draft n) i) (insides (added_trees draft more)) us inside in
          let items : List Item = items_now e in
          let capacity : has_capacity b.board b.board.next_unit items ≡ true = capacity_there b.board items fresh (omega (arith, few)) in
          let found = carried t.0 was.board b.board was.board.next_unit (branch s i) (branch o.0 o.1) e.read items (over was.same same) t.2 (carries t.0 s o.0 i o.1 (shift_of_unit draft n) e t.1 o.4 now) capacity in
          let board : PlainBoard = with_items b.board (of_unit b.board.next_unit items) in
          let k = later (record b { board = board }) o.2 (join same (same_with b.board (of_unit b.board.next_unit items))) (fresh_more b items fresh) (count_more b items (total (map items_now es)) few) kept.1 o.5 in (
            items ∷ k.0,
            subst (λ (l : List Tree). AddsTo b l (items ∷ k.0)) (sym o.3) (one_more b o.0 o.1 o.2 t.0 items k.0 same (same_sort s o.0 i o.1 (shift_of_unit draft n) o.4 ∙ t.1) found k.1),
            λ c. k.2 (with_items c (of_unit c.next_unit items)),
          )

      by_gone : (g : Bool) → is_gone draft n ≡ g → MatchBool g (e.now ≡ []) (AreNow (shift_of (shift_of_unit draft n)) e)
          → HaveInsides (insides (cond g (added_trees draft more) (list (span_of tree) (moved_if (shift_of_unit draft n) (inside_of tree)) (added_trees draft more)))) us
          → ((b : Reading) (us : List Tree) → SameLayersAndNets ground b.board → IsFresh b.board → length b.board.items + total (map items_now es) ≤ 200000 → AreKept draft (suc n) es → HaveInsides (insides (added_trees draft more)) us
          → (units : List (List Item)) × AddsTo b us units × ((c : PlainBoard) → with_units c units ≡ with_units c (map items_now es))) → Given b us e es
      by_gone true g empty inside later =
          let none_now : items_now e ≡ [] = ap (λ (l : List (ℕ × Item)). map (λ (x : ℕ × Item). x.1) l) empty in
          let k = later b us same fresh (omega (arith, few)) kept.1 inside in
          (k.0, k.1, λ c. k.2 c ∙ ap (λ (l : List Item). with_units (with_items c (of_unit c.next_unit l)) (map items_now es)) (sym none_now))
      by_gone false g now inside later = there tree was.says now inside later
