-- What is left of a board without some of its items.
use Rattle.std.proofs.Common.{◌≡◌, ℕ, ◌+◌, ◌-◌, ◌<◌, ◌≤◌, zero, suc, Bool, true, false, cond, not, List, [], ◌∷◌, length, map, filter, get_or, set, None, Some, Vec, nat_eq, refl, sym, ◌∙◌, ap, subst, arith, eq-eqb}
use Rattle.std.proofs.lemmas.Bool.{eqb-true, ne_eqb}
use Rattle.std.specs.Map.{lookup}
use Rattle.std.specs.declared.alloc.Global.{Global}
use Rattle.one_item.specs.declared.item.Item.{Item}
use Rattle.one_item.specs.ItemKinds.{is_mark, is_note}
use Rattle.board_items.specs.Boards.{PlainBoard, IsSound, Rise, UnitsBelow, AllAdmitted, AreDistinct, item_at, ids_where, marks_of}
use Rattle.board_items.specs.ItemNotes.{notes_of}
use Rattle.board_items.specs.BoardCaches.{IsNetAt, AreIdsOf, IsKept}
use Rattle.board_items.specs.ItemSlots.{without_id}
use Rattle.board_items.proofs.Admitted.{all_kept}
use Rattle.board_items.proofs.Nets.{absent_parts}
use Rattle.board_items.proofs.NetIds.{differs}

-- ---- what holds of each item holds of those that are left
lower : (low more high : ℕ) (xs : List (ℕ × Item)) → low ≤ more → Rise more high xs → Rise low high xs
lower low more high [] le h = omega (arith, h)
lower low more high (x ∷ xs) le h = (omega (arith, h.0), h.1)

rise_kept : (test : ℕ × Item → Bool) (low high : ℕ) (xs : List (ℕ × Item)) → Rise low high xs → Rise low high (filter test xs)
rise_kept test low high [] h = h
rise_kept test low high (x ∷ xs) h = by (test x) (rise_kept test (x.0 + 1) high xs h.1)
  where
    by : (t : Bool) → Rise (x.0 + 1) high (filter test xs) → Rise low high (cond t (x ∷ filter test xs) (filter test xs))
    by true k = (h.0, k)
    by false k = lower low (x.0 + 1) high (filter test xs) (omega (arith, h.0)) k

units_kept : (test : ℕ × Item → Bool) (high : ℕ) (xs : List (ℕ × Item)) → UnitsBelow high xs → UnitsBelow high (filter test xs)
units_kept test high [] h = tt
units_kept test high (x ∷ xs) h = by (test x) (units_kept test high xs h.1)
  where
    by : (t : Bool) → UnitsBelow high (filter test xs) → UnitsBelow high (cond t (x ∷ filter test xs) (filter test xs))
    by true k = (h.0, k)
    by false k = k

few_kept : (test : ℕ × Item → Bool) (xs : List (ℕ × Item)) → length (filter test xs) ≤ length xs
few_kept test [] = omega arith
few_kept test (x ∷ xs) = by (test x) (few_kept test xs)
  where
    by : (t : Bool) → length (filter test xs) ≤ length xs → length (cond t (x ∷ filter test xs) (filter test xs)) ≤ length (x ∷ xs)
    by true k = omega arith
    by false k = omega arith

admitted_kept : (b : PlainBoard) (test : ℕ × Item → Bool) (xs : List (ℕ × Item)) → AllAdmitted b xs → AllAdmitted b (filter test xs)
admitted_kept b test [] h = tt
admitted_kept b test (x ∷ xs) h = by (test x) (admitted_kept b test xs h.1)
  where
    by : (t : Bool) → AllAdmitted b (filter test xs) → AllAdmitted b (cond t (x ∷ filter test xs) (filter test xs))
    by true k = (h.0, k)
    by false k = k

pub sound_left : (b : PlainBoard) (test : ℕ × Item → Bool) → IsSound b → IsSound (record b { items = filter test b.items })
sound_left b test s = record {
  ids = rise_kept test 0 b.next_id b.items s.ids;
  units = units_kept test b.next_unit b.items s.units;
  last_id = s.last_id;
  last_unit = s.last_unit;
  few = let n = few_kept test b.items in let m = s.few in omega arith;
  first_net = s.first_net;
  distinct = s.distinct;
  no_net = s.no_net;
  admitted = all_kept b (record b { items = filter test b.items }) (λ i h. h) (filter test b.items) (admitted_kept b test b.items s.admitted);
}

-- ---- without one id
abbrev other : ℕ → ℕ → Bool
other id n = not (nat_eq n id)

above : (low high id : ℕ) (xs : List (ℕ × Item)) → Rise low high xs → id < low → without_id id xs ≡ xs
above low high id [] r lt = refl
above low high id (x ∷ xs) r lt =
    ap (λ b. cond (not b) (x ∷ without_id id xs) (without_id id xs)) (ne_eqb x.0 id (λ e. omega (arith, e, r.0)))
    ∙ ap (λ es. x ∷ es) (above (x.0 + 1) high id xs r.1 (omega (arith, r.0)))

ids_cons : (test : Item → Bool) (x : ℕ × Item) (ys zs : List (ℕ × Item)) → ids_where test ys ≡ ids_where test zs → ids_where test (x ∷ ys) ≡ ids_where test (x ∷ zs)
ids_cons test x ys zs h = by (test x.1)
  where
    by : (t : Bool) → map (λ e. e.0) (cond t (x ∷ filter (λ e. test e.1) ys) (filter (λ e. test e.1) ys)) ≡ map (λ e. e.0) (cond t (x ∷ filter (λ e. test e.1) zs) (filter (λ e. test e.1) zs))
    by true = ap (λ ids. x.0 ∷ ids) h
    by false = h

ids_skip : (test : Item → Bool) (x : ℕ × Item) (ys : List (ℕ × Item)) → test x.1 ≡ false → ids_where test (x ∷ ys) ≡ ids_where test ys
ids_skip test x ys h = ap (λ b. map (λ e. e.0) (cond b (x ∷ filter (λ e. test e.1) ys) (filter (λ e. test e.1) ys))) h

ids_take : (test : Item → Bool) (x : ℕ × Item) (ys : List (ℕ × Item)) → test x.1 ≡ true → ids_where test (x ∷ ys) ≡ x.0 ∷ ids_where test ys
ids_take test x ys h = ap (λ b. map (λ e. e.0) (cond b (x ∷ filter (λ e. test e.1) ys) (filter (λ e. test e.1) ys))) h

without_same : (id : ℕ) (x : ℕ × Item) (xs : List (ℕ × Item)) → nat_eq x.0 id ≡ true → without_id id (x ∷ xs) ≡ without_id id xs
without_same id x xs h = ap (λ b. cond (not b) (x ∷ without_id id xs) (without_id id xs)) h

without_other : (id : ℕ) (x : ℕ × Item) (xs : List (ℕ × Item)) → nat_eq x.0 id ≡ false → without_id id (x ∷ xs) ≡ x ∷ without_id id xs
without_other id x xs h = ap (λ b. cond (not b) (x ∷ without_id id xs) (without_id id xs)) h

other_same : (id n : ℕ) (ns : List ℕ) → nat_eq n id ≡ true → filter (other id) (n ∷ ns) ≡ filter (other id) ns
other_same id n ns h = ap (λ b. cond (not b) (n ∷ filter (other id) ns) (filter (other id) ns)) h

other_other : (id n : ℕ) (ns : List ℕ) → nat_eq n id ≡ false → filter (other id) (n ∷ ns) ≡ n ∷ filter (other id) ns
other_other id n ns h = ap (λ b. cond (not b) (n ∷ filter (other id) ns) (filter (other id) ns)) h

ids_without : (test : Item → Bool) (id : ℕ) (xs : List (ℕ × Item)) → ids_where test (without_id id xs) ≡ filter (other id) (ids_where test xs)
ids_without test id [] = refl
ids_without test id (x ∷ xs) = by (ids_without test id xs) (nat_eq x.0 id) refl (test x.1) refl
  where
    by : ids_where test (without_id id xs) ≡ filter (other id) (ids_where test xs) → (e : Bool) → nat_eq x.0 id ≡ e → (t : Bool) → test x.1 ≡ t → ids_where test (without_id id (x ∷ xs)) ≡ filter (other id) (ids_where test (x ∷ xs))
    by again true k true l = ap (ids_where test) (without_same id x xs k) ∙ again ∙ sym (ap (filter (other id)) (ids_take test x xs l) ∙ other_same id x.0 (ids_where test xs) k)
    by again true k false l = ap (ids_where test) (without_same id x xs k) ∙ again ∙ sym (ap (filter (other id)) (ids_skip test x xs l))
    by again false k true l = ap (ids_where test) (without_other id x xs k) ∙ ids_take test x (without_id id xs) l ∙ ap (λ ns. x.0 ∷ ns) again
        ∙ sym (ap (filter (other id)) (ids_take test x xs l) ∙ other_other id x.0 (ids_where test xs) k)
    by again false k false l = ap (ids_where test) (without_other id x xs k) ∙ ids_skip test x (without_id id xs) l ∙ again ∙ sym (ap (filter (other id)) (ids_skip test x xs l))

module _ (id : ℕ) (item : Item) where
  ids_left : (test : Item → Bool) (low high : ℕ) (xs : List (ℕ × Item)) → Rise low high xs → item_at xs id ≡ Some item → test item ≡ false → ids_where test (without_id id xs) ≡ ids_where test xs
  ids_left test low high [] r e f = refl
  ids_left test low high (x ∷ xs) r e f = by (λ h. ids_left test (x.0 + 1) high xs r.1 h f) (nat_eq id x.0) refl e
    where
      by : (item_at xs id ≡ Some item → ids_where test (without_id id xs) ≡ ids_where test xs) → (t : Bool) → nat_eq id x.0 ≡ t → cond t (Some x.1) (item_at xs id) ≡ Some item → ids_where test (without_id id (x ∷ xs)) ≡ ids_where test (x ∷ xs)
      by again true k h =
          let same : id ≡ x.0 = eqb-true id x.0 k in
          let own : x.1 ≡ item = cc in
          ap (ids_where test) (without_same id x xs (eq-eqb x.0 id (sym same)) ∙ above (x.0 + 1) high id xs r.1 (omega (arith, same)))
          ∙ sym (ids_skip test x xs (ap test own ∙ f))
      by again false k h =
          ap (ids_where test) (without_other id x xs (ne_eqb x.0 id (λ s. absurd (let t = eq-eqb id x.0 (sym s) in cc))))
          ∙ ids_cons test x (without_id id xs) xs (again h)

  pub one_fewer : (low high : ℕ) (xs : List (ℕ × Item)) → Rise low high xs → item_at xs id ≡ Some item → length (without_id id xs) + 1 ≡ length xs
  one_fewer low high [] r e = absurd cc
  one_fewer low high (x ∷ xs) r e = by (λ h. one_fewer (x.0 + 1) high xs r.1 h) (nat_eq id x.0) refl e
    where
      by : (item_at xs id ≡ Some item → length (without_id id xs) + 1 ≡ length xs) → (t : Bool) → nat_eq id x.0 ≡ t → cond t (Some x.1) (item_at xs id) ≡ Some item → length (without_id id (x ∷ xs)) + 1 ≡ length (x ∷ xs)
      by again true k h =
          let same : id ≡ x.0 = eqb-true id x.0 k in
          let less = ap length (without_same id x xs (eq-eqb x.0 id (sym same)) ∙ above (x.0 + 1) high id xs r.1 (omega (arith, same))) in
          omega (arith, less)
      by again false k h =
          let all = ap length (without_other id x xs (ne_eqb x.0 id (λ s. absurd (let t = eq-eqb id x.0 (sym s) in cc)))) in
          let less = again h in
          omega (arith, all, less)

  -- the lists of the other nets are as they were
  others_left : (low high : ℕ) (items : List (ℕ × Item)) (nets : List (ℕ × List ℕ)) (lists : List (Vec ℕ Global)) → Rise low high items → item_at items id ≡ Some item → lookup (nat_eq item.net) nets ≡ None
      → AreIdsOf items nets lists → AreIdsOf (without_id id items) nets lists
  others_left low high items [] [] r e absent h = tt
  others_left low high items [] (l ∷ ls) r e absent h = absurd h
  others_left low high items (n ∷ ns) [] r e absent h = absurd h
  others_left low high items (n ∷ ns) (l ∷ ls) r e absent h =
      let parts = absent_parts item.net n ns absent in
      (h.0 ∙ sym (ids_left (λ i. nat_eq i.net n.0) low high items r e parts.0), others_left low high items ns ls r e parts.1 h.1)

  lists_left : (low high : ℕ) (items : List (ℕ × Item)) (nets : List (ℕ × List ℕ)) (lists : List (Vec ℕ Global)) (place : ℕ) (d v : Vec ℕ Global) → Rise low high items → item_at items id ≡ Some item
      → AreDistinct nets → AreIdsOf items nets lists → IsNetAt item.net nets place → v.items ≡ filter (other id) (get_or lists place d).items → AreIdsOf (without_id id items) nets (set lists place v)
  lists_left low high items [] lists place d v r e distinct h at f = absurd at
  lists_left low high items (n ∷ ns) [] place d v r e distinct h at f = absurd h
  lists_left low high items (n ∷ ns) (l ∷ ls) zero d v r e distinct h at f = (
    f ∙ ap (filter (other id)) h.0 ∙ sym (ids_without (λ i. nat_eq i.net n.0) id items),
    others_left low high items ns ls r e (subst (λ k. lookup (nat_eq k) ns ≡ None) at distinct.0) h.1,
  )
  lists_left low high items (n ∷ ns) (l ∷ ls) (suc place) d v r e distinct h at f = (
    h.0 ∙ sym (ids_left (λ i. nat_eq i.net n.0) low high items r e (differs item.net n.0 ns place distinct.0 at)),
    lists_left low high items ns ls place d v r e distinct.1 h.1 at f,
  )

  marks_left : (b : PlainBoard) (marks more : List ℕ) → IsSound b → marks ≡ marks_of b.items → item_at b.items id ≡ Some item
      → more ≡ cond (is_mark item.what) (filter (other id) marks) marks → more ≡ marks_of (without_id id b.items)
  marks_left b marks more s m e f = f ∙ by (is_mark item.what) refl
    where
      by : (t : Bool) → is_mark item.what ≡ t → cond t (filter (other id) marks) marks ≡ marks_of (without_id id b.items)
      by true k = ap (filter (other id)) m ∙ sym (ids_without (λ i. is_mark i.what) id b.items)
      by false k = m ∙ sym (ids_left (λ i. is_mark i.what) 0 b.next_id b.items s.ids e k)

  pub notes_left : (b : PlainBoard) (items : List (ℕ × Item)) (notes more : List ℕ) → IsSound b → notes ≡ notes_of b.items → item_at b.items id ≡ Some item → items ≡ without_id id b.items
      → more ≡ cond (is_note item.what) (filter (other id) notes) notes → more ≡ notes_of items
  notes_left b items notes more s m e g f = f ∙ by (is_note item.what) refl ∙ ap notes_of (sym g)
    where
      by : (t : Bool) → is_note item.what ≡ t → cond t (filter (other id) notes) notes ≡ notes_of (without_id id b.items)
      by true k = ap (filter (other id)) m ∙ sym (ids_without (λ i. is_note i.what) id b.items)
      by false k = m ∙ sym (ids_left (λ i. is_note i.what) 0 b.next_id b.items s.ids e k)

  -- ---- all that the board keeps
  pub kept_left : (b : PlainBoard) (items : List (ℕ × Item)) (next : ℕ) (marks more : List ℕ) (lists : List (Vec ℕ Global)) (place : ℕ) (d old v : Vec ℕ Global) (live fewer : ℕ) → IsKept b marks lists live
      → item_at b.items id ≡ Some item → items ≡ without_id id b.items → next ≡ b.next_id → IsNetAt item.net b.nets place → old ≡ get_or lists place d → v.items ≡ filter (other id) old.items
      → more ≡ cond (is_mark item.what) (filter (other id) marks) marks → fewer ≡ live - 1
      → IsKept (record b { items = items; next_id = next }) more (set lists place v) fewer
  kept_left b items next marks more lists place d old v live fewer k e i n at o f m l =
      subst (λ (xs : List (ℕ × Item)). IsKept (record b { items = xs; next_id = next }) more (set lists place v) fewer) (sym i)
      (subst (λ (z : ℕ). IsKept (record b { items = without_id id b.items; next_id = z }) more (set lists place v) fewer) (sym n) (record {
        sound = sound_left b (λ entry. not (nat_eq entry.0 id)) k.sound;
        marks = marks_left b marks more k.sound k.marks e m;
        of_nets = lists_left 0 b.next_id b.items b.nets lists place d v k.sound.ids e k.sound.distinct k.of_nets at (f ∙ ap (λ (w : Vec ℕ Global). filter (other id) w.items) o);
        count = let less = one_fewer 0 b.next_id b.items k.sound.ids e in let all = k.count in omega (arith, less, all, l);
      }))
