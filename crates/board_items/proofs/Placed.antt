-- An item that comes back to the place of its id.
use Rattle.std.proofs.Common.{◌≡◌, ◌≢◌, ◌∙◌, ap, sym, subst, refl, ℕ, ◌+◌, ◌<◌, ◌≤◌, zero, suc, Bool, true, false, cond, nat_eq, nat_lt, List, [], ◌∷◌, ◌++◌, length, get_or, set, take, drop, map, filter, Option, None, Some, Vec, arith, eq-eqb}
use Rattle.std.specs.Map.{lookup}
use Rattle.std.specs.declared.alloc.Global.{Global}
use Rattle.one_item.specs.declared.item.Item.{Item}
use Rattle.one_item.specs.ItemKinds.{is_mark, is_note}
use Rattle.board_items.specs.Boards.{PlainBoard, IsSound, Rise, UnitsBelow, AllAdmitted, AreDistinct, item_at, ids_where, is_admitted}
use Rattle.board_items.specs.ItemNotes.{notes_of}
use Rattle.board_items.specs.BoardCaches.{IsNetAt, AreIdsOf, IsKept}
use Rattle.board_items.specs.ItemSlots.{present, AreUnitsIn}
use Rattle.board_items.specs.Back.{placed, id_placed, FitsOne}
use Rattle.board_items.proofs.Admitted.{all_kept}
use Rattle.board_items.proofs.Nets.{absent_parts}
use Rattle.board_items.proofs.NetIds.{differs}

is_lt : (a b : ℕ) → a < b → nat_lt a b ≡ true
is_lt a b h = grind (arith, h)

not_lt : (a b : ℕ) → b ≤ a → nat_lt a b ≡ false
not_lt a b h = grind (arith, h)

lt_from : (a b : ℕ) → nat_lt a b ≡ true → a < b
lt_from a b h = grind (arith, h)

ge_from : (a b : ℕ) → nat_lt a b ≡ false → b ≤ a
ge_from a b h = grind (arith, h)

past : (a b : ℕ) → b ≤ a → a ≢ b → (b + 1) ≤ a
past a b le other = grind (arith, le, other)

abbrev Entry : Type 0
Entry = ℕ × Item

-- ---- slots
placed_first : (e : Entry) (j : ℕ) (slots : List (Option Item)) → e.0 < j → placed e (present j slots) ≡ e ∷ present j slots
placed_first e j [] lt = refl
placed_first e j (None ∷ ss) lt = placed_first e (j + 1) ss (omega arith)
placed_first e j (Some x ∷ ss) lt = ap (λ b. cond b (e ∷ (j, x) ∷ present (j + 1) ss) ((j, x) ∷ placed e (present (j + 1) ss))) (is_lt e.0 j lt)

full_at : (k n : ℕ) (slots : List (Option Item)) (item : Item) → n < length slots → get_or slots n None ≡ None → present k (set slots n (Some item)) ≡ placed (k + n, item) (present k slots)
full_at k n [] item lt e = absurd (omega arith)
full_at k zero (None ∷ ss) item lt e = ap (λ (m : ℕ). (m, item) ∷ present (k + 1) ss) (omega arith) ∙ sym (placed_first (k + 0, item) (k + 1) ss (omega arith))
full_at k zero (Some x ∷ ss) item lt e = absurd cc
full_at k (suc n) (None ∷ ss) item lt e = subst (λ (i : ℕ). present (k + 1) (set ss n (Some item)) ≡ placed (i, item) (present (k + 1) ss)) (omega arith) (full_at (k + 1) n ss item (omega arith) e)
full_at k (suc n) (Some x ∷ ss) item lt e =
    ap (λ es. (k, x) ∷ es) (subst (λ (i : ℕ). present (k + 1) (set ss n (Some item)) ≡ placed (i, item) (present (k + 1) ss)) (omega arith) (full_at (k + 1) n ss item (omega arith) e))
    ∙ sym (ap (λ b. cond b ((k + suc n, item) ∷ (k, x) ∷ present (k + 1) ss) ((k, x) ∷ placed (k + suc n, item) (present (k + 1) ss))) (not_lt (k + suc n) k (omega arith)))

pub full : (n : ℕ) (slots : List (Option Item)) (item : Item) → n < length slots → get_or slots n None ≡ None → present 0 (set slots n (Some item)) ≡ placed (n, item) (present 0 slots)
full n slots item lt e = subst (λ (i : ℕ). present 0 (set slots n (Some item)) ≡ placed (i, item) (present 0 slots)) (omega arith) (full_at 0 n slots item lt e)

pub units_put : (slots : List (Option Item)) (units : List ℕ) (n : ℕ) (item : Item) → AreUnitsIn slots units → AreUnitsIn (set slots n (Some item)) (set units n item.unit)
units_put [] [] n item h = tt
units_put [] (u ∷ us) n item h = absurd h
units_put (s ∷ ss) [] n item h = absurd h
units_put (s ∷ ss) (u ∷ us) zero item h = (refl, h.1)
units_put (s ∷ ss) (u ∷ us) (suc n) item h = (h.0, units_put ss us n item h.1)

-- ---- lists whose ids rise
module _ (e : Entry) where
  not_here : (x : Entry) (xs : List Entry) → item_at (x ∷ xs) e.0 ≡ None → (e.0 ≢ x.0) × (item_at xs e.0 ≡ None)
  not_here x xs h = by (nat_eq e.0 x.0) refl h
    where
      by : (t : Bool) → nat_eq e.0 x.0 ≡ t → cond t (Some x.1) (item_at xs e.0) ≡ None → (e.0 ≢ x.0) × (item_at xs e.0 ≡ None)
      by true k g = absurd cc
      by false k g = ((λ s. let t = eq-eqb e.0 x.0 s in absurd cc), g)

  pub rise_placed : (low high : ℕ) (xs : List Entry) → Rise low high xs → low ≤ e.0 → e.0 < high → item_at xs e.0 ≡ None → Rise low high (placed e xs)
  rise_placed low high [] r le lt free = (le, omega arith)
  rise_placed low high (x ∷ xs) r le lt free = by (λ more gone. rise_placed (x.0 + 1) high xs r.1 more lt gone) (nat_lt e.0 x.0) refl
    where
      by : ((x.0 + 1) ≤ e.0 → item_at xs e.0 ≡ None → Rise (x.0 + 1) high (placed e xs)) → (t : Bool) → nat_lt e.0 x.0 ≡ t → Rise low high (cond t (e ∷ x ∷ xs) (x ∷ placed e xs))
      by again true k = let less = lt_from e.0 x.0 k in (le, (omega (arith, less), r.1))
      by again false k =
          let more = ge_from e.0 x.0 k in
          let other = not_here x xs free in
          let above : (x.0 + 1) ≤ e.0 = past e.0 x.0 more other.0 in
          (r.0, again above other.1)

  units_placed : (high : ℕ) (xs : List Entry) → UnitsBelow high xs → e.1.unit < high → UnitsBelow high (placed e xs)
  units_placed high [] h lt = (lt, tt)
  units_placed high (x ∷ xs) h lt = by (units_placed high xs h.1 lt) (nat_lt e.0 x.0)
    where
      by : UnitsBelow high (placed e xs) → (t : Bool) → UnitsBelow high (cond t (e ∷ x ∷ xs) (x ∷ placed e xs))
      by again true = (lt, h)
      by again false = (h.0, again)

  admitted_placed : (b : PlainBoard) (xs : List Entry) → AllAdmitted b xs → is_admitted b e.1 ≡ true → AllAdmitted b (placed e xs)
  admitted_placed b [] h may = (may, tt)
  admitted_placed b (x ∷ xs) h may = by (admitted_placed b xs h.1 may) (nat_lt e.0 x.0)
    where
      by : AllAdmitted b (placed e xs) → (t : Bool) → AllAdmitted b (cond t (e ∷ x ∷ xs) (x ∷ placed e xs))
      by again true = (may, h)
      by again false = (h.0, again)

  pub longer : (xs : List Entry) → length (placed e xs) ≡ length xs + 1
  longer [] = refl
  longer (x ∷ xs) = by (longer xs) (nat_lt e.0 x.0)
    where
      by : length (placed e xs) ≡ length xs + 1 → (t : Bool) → length (cond t (e ∷ x ∷ xs) (x ∷ placed e xs)) ≡ length (x ∷ xs) + 1
      by again true = omega arith
      by again false = omega (arith, again)

  id_low : (test : Item → Bool) (low high : ℕ) (xs : List Entry) → Rise low high xs → e.0 < low → id_placed e.0 (ids_where test xs) ≡ e.0 ∷ ids_where test xs
  id_low test low high [] r lt = refl
  id_low test low high (x ∷ xs) r lt = by (id_low test (x.0 + 1) high xs r.1 (omega (arith, r.0))) (test x.1)
    where
      by : id_placed e.0 (ids_where test xs) ≡ e.0 ∷ ids_where test xs → (t : Bool) → id_placed e.0 (map (λ y. y.0) (cond t (x ∷ filter (λ y. test y.1) xs) (filter (λ y. test y.1) xs))) ≡ e.0 ∷ map (λ y. y.0) (cond t (x ∷ filter (λ y. test y.1) xs) (filter (λ y. test y.1) xs))
      by again true = ap (λ b. cond b (e.0 ∷ x.0 ∷ ids_where test xs) (x.0 ∷ id_placed e.0 (ids_where test xs))) (is_lt e.0 x.0 (omega (arith, r.0)))
      by again false = again

  pub ids_put : (test : Item → Bool) (low high : ℕ) (xs : List Entry) → Rise low high xs → ids_where test (placed e xs) ≡ cond (test e.1) (id_placed e.0 (ids_where test xs)) (ids_where test xs)
  ids_put test low high [] r = by (test e.1)
    where
      by : (t : Bool) → map (λ y. y.0) (cond t (e ∷ []) []) ≡ cond t (e.0 ∷ []) []
      by true = refl
      by false = refl
  ids_put test low high (x ∷ xs) r = by (ids_put test (x.0 + 1) high xs r.1) (nat_lt e.0 x.0) refl
    where
      before : e.0 < x.0 → (t : Bool) → map (λ y. y.0) (cond t (e ∷ filter (λ y. test y.1) (x ∷ xs)) (filter (λ y. test y.1) (x ∷ xs))) ≡ cond t (id_placed e.0 (ids_where test (x ∷ xs))) (ids_where test (x ∷ xs))
      before lt true = sym (id_low test x.0 high (x ∷ xs) (omega arith, r.1) lt)
      before lt false = refl

      behind : nat_lt e.0 x.0 ≡ false → ids_where test (placed e xs) ≡ cond (test e.1) (id_placed e.0 (ids_where test xs)) (ids_where test xs) → (t : Bool)
          → map (λ y. y.0) (cond t (x ∷ filter (λ y. test y.1) (placed e xs)) (filter (λ y. test y.1) (placed e xs)))
          ≡ cond (test e.1) (id_placed e.0 (map (λ y. y.0) (cond t (x ∷ filter (λ y. test y.1) xs) (filter (λ y. test y.1) xs)))) (map (λ y. y.0) (cond t (x ∷ filter (λ y. test y.1) xs) (filter (λ y. test y.1) xs)))
      behind k again false = again
      behind k again true = ap (λ is. x.0 ∷ is) again ∙ on (test e.1)
        where
          on : (s : Bool) → x.0 ∷ cond s (id_placed e.0 (ids_where test xs)) (ids_where test xs) ≡ cond s (id_placed e.0 (x.0 ∷ ids_where test xs)) (x.0 ∷ ids_where test xs)
          on true = sym (ap (λ b. cond b (e.0 ∷ x.0 ∷ ids_where test xs) (x.0 ∷ id_placed e.0 (ids_where test xs))) k)
          on false = refl

      by : ids_where test (placed e xs) ≡ cond (test e.1) (id_placed e.0 (ids_where test xs)) (ids_where test xs) → (t : Bool) → nat_lt e.0 x.0 ≡ t → ids_where test (cond t (e ∷ x ∷ xs) (x ∷ placed e xs)) ≡ cond (test e.1) (id_placed e.0 (ids_where test (x ∷ xs))) (ids_where test (x ∷ xs))
      by again true k = before (lt_from e.0 x.0 k) (test e.1)
      by again false k = behind k again (test x.1)

  -- ---- the ids of nets
  same_net : (net low high : ℕ) (xs : List Entry) → Rise low high xs → nat_eq e.1.net net ≡ true → ids_where (λ i. nat_eq i.net net) (placed e xs) ≡ id_placed e.0 (ids_where (λ i. nat_eq i.net net) xs)
  same_net net low high xs r k = ids_put (λ i. nat_eq i.net net) low high xs r ∙ ap (λ b. cond b (id_placed e.0 (ids_where (λ i. nat_eq i.net net) xs)) (ids_where (λ i. nat_eq i.net net) xs)) k

  other_net : (net low high : ℕ) (xs : List Entry) → Rise low high xs → nat_eq e.1.net net ≡ false → ids_where (λ i. nat_eq i.net net) (placed e xs) ≡ ids_where (λ i. nat_eq i.net net) xs
  other_net net low high xs r k = ids_put (λ i. nat_eq i.net net) low high xs r ∙ ap (λ b. cond b (id_placed e.0 (ids_where (λ i. nat_eq i.net net) xs)) (ids_where (λ i. nat_eq i.net net) xs)) k

  others_put : (low high : ℕ) (items : List Entry) (nets : List (ℕ × List ℕ)) (lists : List (Vec ℕ Global)) → Rise low high items → lookup (nat_eq e.1.net) nets ≡ None → AreIdsOf items nets lists → AreIdsOf (placed e items) nets lists
  others_put low high items [] [] r absent h = tt
  others_put low high items [] (l ∷ ls) r absent h = absurd h
  others_put low high items (n ∷ ns) [] r absent h = absurd h
  others_put low high items (n ∷ ns) (l ∷ ls) r absent h =
      let parts = absent_parts e.1.net n ns absent in
      (h.0 ∙ sym (other_net n.0 low high items r parts.0), others_put low high items ns ls r parts.1 h.1)

  lists_put : (low high : ℕ) (items : List Entry) (nets : List (ℕ × List ℕ)) (lists : List (Vec ℕ Global)) (place : ℕ) (d v : Vec ℕ Global) → Rise low high items → AreDistinct nets → AreIdsOf items nets lists
      → IsNetAt e.1.net nets place → v.items ≡ id_placed e.0 (get_or lists place d).items → AreIdsOf (placed e items) nets (set lists place v)
  lists_put low high items [] lists place d v r distinct h at f = absurd at
  lists_put low high items (n ∷ ns) [] place d v r distinct h at f = absurd h
  lists_put low high items (n ∷ ns) (l ∷ ls) zero d v r distinct h at f = (
    f ∙ ap (id_placed e.0) h.0 ∙ sym (same_net n.0 low high items r (eq-eqb e.1.net n.0 (sym at))),
    others_put low high items ns ls r (subst (λ k. lookup (nat_eq k) ns ≡ None) at distinct.0) h.1,
  )
  lists_put low high items (n ∷ ns) (l ∷ ls) (suc place) d v r distinct h at f = (
    h.0 ∙ sym (other_net n.0 low high items r (differs e.1.net n.0 ns place distinct.0 at)),
    lists_put low high items ns ls place d v r distinct.1 h.1 at f,
  )

  -- ---- all that the board keeps
  pub kept_put : (b : PlainBoard) (items : List Entry) (next : ℕ) (marks more : List ℕ) (lists : List (Vec ℕ Global)) (place : ℕ) (d old v : Vec ℕ Global) (live many : ℕ) → IsKept b marks lists live → FitsOne b e
      → items ≡ placed e b.items → next ≡ b.next_id → IsNetAt e.1.net b.nets place → old ≡ get_or lists place d → v.items ≡ id_placed e.0 old.items
      → more ≡ cond (is_mark e.1.what) (id_placed e.0 marks) marks → many ≡ live + 1
      → IsKept (record b { items = items; next_id = next }) more (set lists place v) many
  kept_put b items next marks more lists place d old v live many k fit i n at o f m l =
      subst (λ (xs : List Entry). IsKept (record b { items = xs; next_id = next }) more (set lists place v) many) (sym i)
      (subst (λ (z : ℕ). IsKept (record b { items = placed e b.items; next_id = z }) more (set lists place v) many) (sym n) (record {
        sound = record {
          ids = rise_placed 0 b.next_id b.items k.sound.ids (omega arith) fit.id fit.free;
          units = units_placed b.next_unit b.items k.sound.units fit.unit;
          last_id = k.sound.last_id;
          last_unit = k.sound.last_unit;
          few = let long = longer b.items in let few = fit.few in omega (arith, long, few);
          first_net = k.sound.first_net;
          distinct = k.sound.distinct;
          no_net = k.sound.no_net;
          admitted = all_kept b (record b { items = placed e b.items }) (λ i h. h) (placed e b.items) (admitted_placed b b.items k.sound.admitted fit.admitted);
        };
        marks = m ∙ ap (λ (ms : List ℕ). cond (is_mark e.1.what) (id_placed e.0 ms) ms) k.marks ∙ sym (ids_put (λ i. is_mark i.what) 0 b.next_id b.items k.sound.ids);
        of_nets = lists_put 0 b.next_id b.items b.nets lists place d v k.sound.ids k.sound.distinct k.of_nets at (f ∙ ap (λ (w : Vec ℕ Global). id_placed e.0 w.items) o);
        count = let long = longer b.items in let all = k.count in omega (arith, long, all, l);
      }))

  pub notes_put : (b : PlainBoard) (items : List Entry) (notes more : List ℕ) → IsSound b → notes ≡ notes_of b.items → items ≡ placed e b.items → more ≡ cond (is_note e.1.what) (id_placed e.0 notes) notes → more ≡ notes_of items
  notes_put b items notes more s h i m =
      m ∙ ap (λ (ns : List ℕ). cond (is_note e.1.what) (id_placed e.0 ns) ns) h ∙ sym (ids_put (λ i. is_note i.what) 0 b.next_id b.items s.ids) ∙ ap notes_of (sym i)

pub set_same : (xs : List ℕ) (n x d : ℕ) → n < length xs → get_or xs n d ≡ x → set xs n x ≡ xs
set_same [] n x d lt e = absurd (omega arith)
set_same (y ∷ ys) zero x d lt e = ap (λ (z : ℕ). z ∷ ys) (sym e)
set_same (y ∷ ys) (suc n) x d lt e = ap (λ (zs : List ℕ). y ∷ zs) (set_same ys n x d (omega arith) e)

-- ---- an id among others, found from the first on
pub stands_here : (id : ℕ) (ids : List ℕ) (n d : ℕ) → id_placed id ids ≡ take n ids ++ id_placed id (drop n ids) → n < length ids → id < get_or ids n d → take n ids ++ id ∷ drop n ids ≡ id_placed id ids
stands_here id ids n d h lt less = sym (h ∙ ap (λ es. take n ids ++ es) (first ids n lt less))
  where
    first : (ids : List ℕ) (n : ℕ) → n < length ids → id < get_or ids n d → id_placed id (drop n ids) ≡ id ∷ drop n ids
    first [] n lt less = absurd (omega arith)
    first (x ∷ xs) zero lt less = ap (λ b. cond b (id ∷ x ∷ xs) (x ∷ id_placed id xs)) (is_lt id x less)
    first (x ∷ xs) (suc n) lt less = first xs n (omega arith) less

pub stands_later : (id : ℕ) (ids : List ℕ) (n d : ℕ) → id_placed id ids ≡ take n ids ++ id_placed id (drop n ids) → n < length ids → get_or ids n d ≤ id → id_placed id ids ≡ take (suc n) ids ++ id_placed id (drop (suc n) ids)
stands_later id ids n d h lt le = h ∙ next ids n lt le
  where
    next : (ids : List ℕ) (n : ℕ) → n < length ids → get_or ids n d ≤ id → take n ids ++ id_placed id (drop n ids) ≡ take (suc n) ids ++ id_placed id (drop (suc n) ids)
    next [] n lt le = absurd (omega arith)
    next (x ∷ xs) zero lt le = ap (λ b. cond b (id ∷ x ∷ xs) (x ∷ id_placed id xs)) (not_lt id x le)
    next (x ∷ xs) (suc n) lt le = ap (λ es. x ∷ es) (next xs n (omega arith) le)

pub stands_last : (id : ℕ) (ids : List ℕ) (n : ℕ) → id_placed id ids ≡ take n ids ++ id_placed id (drop n ids) → length ids ≤ n → take (length ids) ids ++ id ∷ drop (length ids) ids ≡ id_placed id ids
stands_last id ids n h le = sym (h ∙ end ids n le)
  where
    end : (ids : List ℕ) (n : ℕ) → length ids ≤ n → take n ids ++ id_placed id (drop n ids) ≡ take (length ids) ids ++ id ∷ drop (length ids) ids
    end [] zero le = refl
    end [] (suc n) le = refl
    end (x ∷ xs) zero le = absurd (omega arith)
    end (x ∷ xs) (suc n) le = ap (λ es. x ∷ es) (end xs n (omega arith))
