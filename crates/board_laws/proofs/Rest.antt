-- The entries of the ids that an edit leaves.
use Rattle.std.proofs.Common.{◌≡◌, ◌⊎◌, ℕ, ◌+◌, ◌<◌, ◌≤◌, suc, zero, Bool, true, false, cond, not, nat_eq, List, [], ◌∷◌, length, get_or, Some, filter, inl, inr, refl, sym, subst, ap, ◌∙◌, arith, eq-eqb, true≢false}
use Rattle.std.specs.List.{All, AllPairs, Contains}
use Rattle.std.proofs.lemmas.Bool.{ne_eqb, eqb-true}
use Rattle.std.proofs.lemmas.List.Elements.{All-nil, All-cons, All-weaker, All-contains, All-contains_itself, All-filter, filter_passes}
use Rattle.std.proofs.lemmas.List.Folds.{Any-from_list_any, list_any_at}
use Rattle.std.proofs.lemmas.List.Kept.{AllPairs-cons, AllPairs-filter}
use Rattle.one_item.specs.declared.item.Item.{Item}
use Rattle.board_items.specs.Boards.{PlainBoard, Rise, item_at}
use Rattle.board_laws.specs.Edits.{IsEdit, is_one_of, other_entries}

abbrev pub Entry : Type 0
Entry = ℕ × Item

abbrev pub Under : Entry → Entry → Type 0
Under e f = e.0 < f.0

-- ---- lists in one order with the same elements

behind_head : (x : Entry) (xs : List Entry) (z : Entry) → AllPairs Under (x ∷ xs) → Contains xs z → x.0 < z.0
behind_head x xs z h c = subst (λ (w : Entry). x.0 < w.0) c.2 (h 0 (suc c.0) z (omega arith) (omega (arith, c.1)))

at_or_behind : (x : Entry) (xs : List Entry) (z : Entry) → Contains (x ∷ xs) z → (x ≡ z) ⊎ Contains xs z
at_or_behind x xs z (zero, lt, e) = inl e
at_or_behind x xs z (suc k, lt, e) = inr (k, omega arith, e)

heads : (x y : Entry) (xs ys : List Entry) → AllPairs Under (x ∷ xs) → AllPairs Under (y ∷ ys) → Contains (y ∷ ys) x → Contains (x ∷ xs) y → x ≡ y
heads x y xs ys h k c d = by_place (at_or_behind y ys x c) (at_or_behind x xs y d)
  where
    by_place : (y ≡ x) ⊎ Contains ys x → (x ≡ y) ⊎ Contains xs y → x ≡ y
    by_place (inl e) q = sym e
    by_place (inr p) (inl e) = e
    by_place (inr p) (inr q) = let l = behind_head x xs y h q in let m = behind_head y ys x k p in absurd (omega arith)

tail_has : (x y : Entry) (xs ys : List Entry) → AllPairs Under (x ∷ xs) → x ≡ y → ((z : Entry) → Contains (x ∷ xs) z → Contains (y ∷ ys) z) → (z : Entry) → Contains xs z → Contains ys z
tail_has x y xs ys h e to z c = by_place (at_or_behind y ys z (to z (suc c.0, omega (arith, c.1), c.2)))
  where
    by_place : (y ≡ z) ⊎ Contains ys z → Contains ys z
    by_place (inl f) = let self = subst (λ (w : Entry). w.0 < z.0) (e ∙ f) (behind_head x xs z h c) in absurd (omega arith)
    by_place (inr q) = q

pub same_from_elements : (xs ys : List Entry) → AllPairs Under xs → AllPairs Under ys → ((z : Entry) → Contains xs z → Contains ys z) → ((z : Entry) → Contains ys z → Contains xs z) → xs ≡ ys
same_from_elements [] [] h k to back = refl
same_from_elements [] (y ∷ ys) h k to back = absurd (omega (arith, (back y (0, omega arith, refl)).1))
same_from_elements (x ∷ xs) [] h k to back = absurd (omega (arith, (to x (0, omega arith, refl)).1))
same_from_elements (x ∷ xs) (y ∷ ys) h k to back =
    let e = heads x y xs ys h k (to x (0, omega arith, refl)) (back y (0, omega arith, refl)) in
    let rest = same_from_elements xs ys (λ i j d lt long. h (suc i) (suc j) d (omega arith) (omega arith)) (λ i j d lt long. k (suc i) (suc j) d (omega arith) (omega arith)) (tail_has x y xs ys h e to) (tail_has y x ys xs k (sym e) back) in
    ap (λ (w : Entry). w ∷ xs) e ∙ ap (λ (ws : List Entry). y ∷ ws) rest

-- ---- items by id

high_ids : (low high : ℕ) (es : List Entry) → Rise low high es → All (λ (e : Entry). low ≤ e.0) es
high_ids low high [] h = All-nil (λ (e : Entry). low ≤ e.0)
high_ids low high (e ∷ es) h = All-cons (λ (f : Entry). low ≤ f.0) e es h.0 (All-weaker (λ (f : Entry). (e.0 + 1) ≤ f.0) (λ (f : Entry). low ≤ f.0) (λ f l. let g = h.0 in omega arith) es (high_ids (e.0 + 1) high es h.1))

pub rises : (low high : ℕ) (es : List Entry) → Rise low high es → AllPairs Under es
rises low high [] h = λ i j d l m. absurd (omega arith)
rises low high (e ∷ es) h = AllPairs-cons Under e es (All-weaker (λ (f : Entry). (e.0 + 1) ≤ f.0) (Under e) (λ f l. omega arith) es (high_ids (e.0 + 1) high es h.1)) (rises (e.0 + 1) high es h.1)

pub found_at : (items : List Entry) (e : Entry) → AllPairs Under items → Contains items e → item_at items e.0 ≡ Some e.1
found_at [] e rise c = absurd (omega (arith, c.1))
found_at (f ∷ fs) e rise (zero, lt, same) = subst (λ (g : Entry). cond (nat_eq g.0 f.0) (Some f.1) (item_at fs g.0) ≡ Some g.1) same (ap (λ (b : Bool). cond b (Some f.1) (item_at fs f.0)) (eq-eqb f.0 f.0 refl))
found_at (f ∷ fs) e rise (suc k, lt, same) =
    let behind : f.0 < e.0 = subst (λ (g : Entry). f.0 < g.0) same (rise 0 (suc k) e (omega arith) lt) in
    ap (λ (b : Bool). cond b (Some f.1) (item_at fs e.0)) (ne_eqb e.0 f.0 (λ q. omega arith)) ∙ found_at fs e (λ i j d less long. rise (suc i) (suc j) d (omega arith) (omega arith)) (k, omega arith, same)

some_once : {x y : Item} → Some x ≡ Some y → x ≡ y
some_once e = cc

pub in_list : (items : List Entry) (id : ℕ) (item : Item) → item_at items id ≡ Some item → Contains items (id, item)
in_list [] id item h = absurd cc
in_list (f ∷ fs) id item h = by_test (nat_eq id f.0) refl (in_list fs id item)
  where
    by_test : (b : Bool) → nat_eq id f.0 ≡ b → (item_at fs id ≡ Some item → Contains fs (id, item)) → Contains (f ∷ fs) (id, item)
    by_test true e rest =
        let same : f.1 ≡ item = some_once (subst (λ (b : Bool). cond b (Some f.1) (item_at fs id) ≡ Some item) e h) in
        let number : f.0 ≡ id = sym (eqb-true id f.0 e) in
        (0, omega arith, ap (λ (n : ℕ). (n, f.1)) number ∙ ap (λ (i : Item). (id, i)) same)
    by_test false e rest = let c = rest (subst (λ (b : Bool). cond b (Some f.1) (item_at fs id) ≡ Some item) e h) in (suc c.0, omega (arith, c.1), c.2)

-- ---- ids

pub one_of : (ids : List ℕ) (id : ℕ) → is_one_of ids id ≡ true → Contains ids id
one_of ids id h = let a = Any-from_list_any (λ known. nat_eq known id) ids h in subst (Contains ids) (eqb-true a.1 id a.4) (a.0, a.2, a.3)

pub is_there : (ids : List ℕ) (id : ℕ) → Contains ids id → is_one_of ids id ≡ true
is_there ids id c = list_any_at (λ known. nat_eq known id) ids c.0 id c.1 (eq-eqb _ _ c.2)

-- ---- filters
module _ {X : Type 0} where
  kept_cond : (b : Bool) (y x : X) (xs : List X) → Contains xs x → Contains (cond b (y ∷ xs) xs) x
  kept_cond true y x xs c = (suc c.0, omega (arith, c.1), c.2)
  kept_cond false y x xs c = c

  kept_at : (p : X → Bool) (xs : List X) (x : X) (k : ℕ) → k < length xs → get_or xs k x ≡ x → p x ≡ true → Contains (filter p xs) x
  kept_at p [] x k l e h = absurd (omega arith)
  kept_at p (y ∷ ys) x zero l e h =
      let t : p y ≡ true = ap p e ∙ h in
      subst (λ (zs : List X). Contains zs x) (sym (ap (λ b. cond b (y ∷ filter p ys) (filter p ys)) t)) (0, omega arith, e)
  kept_at p (y ∷ ys) x (suc k) l e h = kept_cond (p y) y x (filter p ys) (kept_at p ys x k (omega arith) e h)

  pub contains_filter : (p : X → Bool) (xs : List X) (x : X) → Contains xs x → p x ≡ true → Contains (filter p xs) x
  contains_filter p xs x c h = kept_at p xs x c.0 c.1 c.2 h

  pub source : (p : X → Bool) (xs : List X) (x : X) → Contains (filter p xs) x → Contains xs x
  source p xs x c = All-contains (Contains xs) (filter p xs) x (All-filter p (Contains xs) xs (All-contains_itself xs)) c

  pub passed : (p : X → Bool) (xs : List X) (x : X) → Contains (filter p xs) x → p x ≡ true
  passed p xs x c = All-contains (λ y. p y ≡ true) (filter p xs) x (filter_passes p xs) c

-- ---- the entries that an edit leaves

abbrev pub is_left : List ℕ → Entry → Bool
is_left ids e = not (is_one_of ids e.0)

pub left_id : (ids : List ℕ) (e : Entry) → is_left ids e ≡ true → ¬ (Contains ids e.0)
left_id ids e h c = true≢false (sym h ∙ ap not (is_there ids e.0 c))

module _ (old new : PlainBoard) (ids : List ℕ) (edit : IsEdit old new ids) where
  abbrev before : AllPairs Under old.items
  before = rises 0 old.next_id old.items edit.rises_before

  abbrev after : AllPairs Under new.items
  after = rises 0 new.next_id new.items edit.rises_now

  to_new : (e : Entry) → Contains (filter (is_left ids) old.items) e → Contains (filter (is_left ids) new.items) e
  to_new e c =
      let left = passed (is_left ids) old.items e c in
      let at = found_at old.items e before (source (is_left ids) old.items e c) in
      contains_filter (is_left ids) new.items e (in_list new.items e.0 e.1 (edit.rest e.0 (left_id ids e left) ∙ at)) left

  to_old : (e : Entry) → Contains (filter (is_left ids) new.items) e → Contains (filter (is_left ids) old.items) e
  to_old e c =
      let left = passed (is_left ids) new.items e c in
      let at = found_at new.items e after (source (is_left ids) new.items e c) in
      contains_filter (is_left ids) old.items e (in_list old.items e.0 e.1 (sym (edit.rest e.0 (left_id ids e left)) ∙ at)) left

  -- the entries of other ids are the same
  pub rest_same : other_entries ids new.items ≡ other_entries ids old.items
  rest_same = same_from_elements (filter (is_left ids) new.items) (filter (is_left ids) old.items) (AllPairs-filter Under (is_left ids) new.items after) (AllPairs-filter Under (is_left ids) old.items before) to_old to_new
