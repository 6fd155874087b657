-- Labels of all places, gathered, are the groups.
use Rattle.std.proofs.Common.{◌≡◌, ℕ, zero, suc, ◌<◌, ◌≤◌, Bool, true, false, cond, List, [], ◌∷◌, length, get_or, All, Contains, Option, None, Some, inl, inr, refl, sym, subst, ap, ◌∙◌, arith, eq-eqb}
use Rattle.std.specs.List.{Any, AllPairs}
use Rattle.std.proofs.lemmas.Bool.{eqb-true}
use Rattle.std.proofs.lemmas.List.{get_or_default}
use Rattle.std.proofs.lemmas.List.Elements.{Contains-get_or}
use Rattle.std.proofs.lemmas.List.Kept.{AllPairs-cons}
use Rattle.one_item.specs.declared.item.Item.{Item}
use Rattle.board_items.specs.Boards.{PlainBoard}
use Rattle.item_copper.proofs.Meeting.{copper_to, any_none, MeetsSome}
use Rattle.item_copper.proofs.Symmetry.{copper_meets_back}
use Rattle.net_groups.specs.Touching.{TouchOn}
use Rattle.net_groups.specs.StepChains.{Chain}
use Rattle.net_groups.specs.StepChains.Chain.{here, step}
use Rattle.net_groups.specs.ConnectedClasses.{Rises, least, AreTogether, AreDisjoint}
use Rattle.net_groups.specs.Touching.{IsConductor, AreGroupsOn}
use Rattle.net_groups.specs.Labels.{label_at, has_label, ids_of, AreConductors, AreLabels, AreGathered}
use Rattle.net_groups.proofs.Marks.{distinct, within}
use Rattle.net_groups.proofs.Placed.{contained_at}
use Rattle.net_groups.proofs.Conductors.{contains_here, contains_later, contains_cases, contains_nothing}

-- ---- the ids of a label
-- the place of an id with the label
record IsPlace (x : ℕ) (labels : List (Option ℕ)) (ids : List ℕ) (id place : ℕ) : Type 0 where
  inside : place < length ids
  is : get_or ids place 0 ≡ id
  label : label_at labels place ≡ Some x

has_label_from : (x : ℕ) (l : Option ℕ) → has_label x l ≡ true → l ≡ Some x
has_label_from x None e = absurd (cc)
has_label_from x (Some y) e = ap Some (eqb-true y x e)

has_label_to : (x : ℕ) (l : Option ℕ) → l ≡ Some x → has_label x l ≡ true
has_label_to x l e = subst (λ (o : Option ℕ). has_label x o ≡ true) (sym e) (eq-eqb x x refl)

only_labelled : (x : ℕ) (labels : List (Option ℕ)) (ids : List ℕ) (id : ℕ) → Contains (ids_of x labels ids) id → (place : ℕ) × IsPlace x labels ids id place
only_labelled x [] ids id c = absurd (contains_nothing id c)
only_labelled x (l ∷ labels) [] id c = absurd (contains_nothing id c)
only_labelled x (l ∷ labels) (i ∷ ids) id c = by_test (has_label x l) refl c (only_labelled x labels ids id)
  where
    later : (place : ℕ) × IsPlace x labels ids id place → (place : ℕ) × IsPlace x (l ∷ labels) (i ∷ ids) id place
    later p = let lt = p.1.inside in (suc p.0, record { inside = omega arith; is = p.1.is; label = p.1.label })

    by_test : (b : Bool) → has_label x l ≡ b → Contains (cond b (i ∷ ids_of x labels ids) (ids_of x labels ids)) id → (Contains (ids_of x labels ids) id → (place : ℕ) × IsPlace x labels ids id place)
        → (place : ℕ) × IsPlace x (l ∷ labels) (i ∷ ids) id place
    by_test true e d on = elim (contains_cases i (ids_of x labels ids) id d) [
      | inl same ↦ (0, record { inside = omega arith; is = same; label = has_label_from x l e })
      | inr more ↦ later (on more)
    ]
    by_test false e d on = later (on d)

every_labelled : (x : ℕ) (labels : List (Option ℕ)) (ids : List ℕ) (place : ℕ) → place < length ids → label_at labels place ≡ Some x → Contains (ids_of x labels ids) (get_or ids place 0)
every_labelled x [] ids place lt e = absurd (cc)
every_labelled x (l ∷ labels) [] place lt e = absurd (omega arith)
every_labelled x (l ∷ labels) (i ∷ ids) zero lt e = subst (λ (b : Bool). Contains (cond b (i ∷ ids_of x labels ids) (ids_of x labels ids)) i) (sym (has_label_to x l e)) (contains_here i (ids_of x labels ids))
every_labelled x (l ∷ labels) (i ∷ ids) (suc place) lt e = by_test (has_label x l) (every_labelled x labels ids place (omega arith) e)
  where
    by_test : (b : Bool) → Contains (ids_of x labels ids) (get_or ids place 0) → Contains (cond b (i ∷ ids_of x labels ids) (ids_of x labels ids)) (get_or ids place 0)
    by_test true c = contains_later i (ids_of x labels ids) (get_or ids place 0) c
    by_test false c = c

pub rises_tail : (id : ℕ) (ids : List ℕ) → Rises (id ∷ ids) → Rises ids
rises_tail id ids up i j d lt past = up (suc i) (suc j) d (omega arith) (omega arith)

pub rises_head : (id : ℕ) (ids : List ℕ) → Rises (id ∷ ids) → (k d : ℕ) → k < length ids → id < get_or ids k d
rises_head id ids up k d lt = up 0 (suc k) d (omega arith) (omega arith)

rises_labelled : (x : ℕ) (labels : List (Option ℕ)) (ids : List ℕ) → Rises ids → Rises (ids_of x labels ids)
rises_labelled x [] ids up = λ i j d lt past. absurd (omega arith)
rises_labelled x (l ∷ labels) [] up = λ i j d lt past. absurd (omega arith)
rises_labelled x (l ∷ labels) (i ∷ ids) up = by_test (has_label x l) (rises_labelled x labels ids (rises_tail i ids up))
  where
    above : All (λ b. i < b) (ids_of x labels ids)
    above k d lt =
        let p = only_labelled x labels ids (get_or (ids_of x labels ids) k d) (Contains-get_or (ids_of x labels ids) k d lt) in
        subst (λ (b : ℕ). i < b) p.1.is (rises_head i ids up p.0 0 p.1.inside)

    by_test : (b : Bool) → Rises (ids_of x labels ids) → Rises (cond b (i ∷ ids_of x labels ids) (ids_of x labels ids))
    by_test true more = AllPairs-cons (λ a b. a < b) i (ids_of x labels ids) above more
    by_test false more = more

-- the first of a list that rises is the least
pub least_le : (list : List ℕ) → Rises list → (a : ℕ) → Contains list a → least list ≤ a
least_le list up a c =
    let p = contained_at list a c in
    by_place p.0 p.1 p.2
  where
    by_place : (k : ℕ) → k < length list → get_or list k 0 ≡ a → least list ≤ a
    by_place zero lt e = omega arith
    by_place (suc k) lt e = let less = up 0 (suc k) 0 (omega arith) lt in omega arith

-- ---- conductors
some_same : (a b : Item) → Some a ≡ Some b → a ≡ b
some_same a b e = cc

-- what a conductor touches is one of its net too
pub touched_conductor : (board : PlainBoard) (net i j : ℕ) → IsConductor board net i → TouchOn board i j → IsConductor board net j
touched_conductor board net i j is t = record {
  item = t.b;
  found = t.second;
  own_net = sym t.touch.same_net ∙ (ap (λ (a : Item). a.net) (some_same t.a is.item (sym t.first ∙ is.found)) ∙ is.own_net);
  some_net = is.some_net;
  copper = λ none. any_none (MeetsSome t.a.copper) (subst (Any (MeetsSome t.a.copper)) none (copper_to t.b t.a (copper_meets_back t.a t.b t.touch.meet)));
}

-- ---- all together
module _ (board : PlainBoard) (net : ℕ) (ids : List ℕ) (count : ℕ) (labels : List (Option ℕ)) (groups : List (List ℕ))
    (conductors : AreConductors board net ids) (al : AreLabels (TouchOn board) ids (length ids) count labels) (gathered : AreGathered count labels ids groups) where
  group_is : (x : ℕ) (d : List ℕ) → x < length groups → get_or groups x d ≡ ids_of x labels ids
  group_is x d lt = get_or_default groups x d [] lt ∙ gathered.each x (let c = gathered.count_is in omega arith)

  below : (x : ℕ) → x < length groups → x < count
  below x lt = let c = gathered.count_is in omega arith

  -- the place of a member of a group
  place_in : (x : ℕ) (d : List ℕ) → x < length groups → (a : ℕ) → Contains (get_or groups x d) a → (place : ℕ) × IsPlace x labels ids a place
  place_in x d lt a c = only_labelled x labels ids a (subst (λ (g : List ℕ). Contains g a) (group_is x d lt) c)

  in_group : (x : ℕ) (d : List ℕ) → x < length groups → (place : ℕ) → label_at labels place ≡ Some x → Contains (get_or groups x d) (get_or ids place 0)
  in_group x d lt place e =
      subst (λ (g : List ℕ). Contains g (get_or ids place 0)) (sym (group_is x d lt))
      (every_labelled x labels ids place (let many = al.places in let inside = within labels place x e in omega arith) e)

  rising : (x : ℕ) (d : List ℕ) → x < length groups → Rises (get_or groups x d)
  rising x d lt = subst Rises (sym (group_is x d lt)) (rises_labelled x labels ids conductors.rises)

  filled : (x : ℕ) (d : List ℕ) → x < length groups → 0 < length (get_or groups x d)
  filled x d lt = let o = al.occurs x (below x lt) in let c = in_group x d lt o.0 o.2 in let k = c.1 in omega arith

  ordered : AllPairs (λ group other. least group < least other) groups
  ordered x y d lt past =
      let inside : x < length groups = omega arith in
      let first : Contains (get_or groups y d) (least (get_or groups y d)) = Contains-get_or (get_or groups y d) 0 0 (filled y d past) in
      let p = place_in y d past (least (get_or groups y d)) first in
      let o = al.in_order x y p.0 lt p.1.label in
      let le = least_le (get_or groups x d) (rising x d inside) (get_or ids o.0 0) (in_group x d inside o.0 o.2) in
      let less = conductors.rises o.0 p.0 0 o.1 p.1.inside in
      let is = p.1.is in
      omega arith

  disjoint : AllPairs AreDisjoint groups
  disjoint x y d lt past a c e =
      let p = place_in x d (omega arith) a c in
      let q = place_in y d past a e in
      let same = distinct ids conductors.rises p.0 q.0 p.1.inside q.1.inside (p.1.is ∙ sym q.1.is) in
      let one : x ≡ y = some_label (label_at labels q.0) (subst (λ (k : ℕ). label_at labels k ≡ Some x) same p.1.label) q.1.label in
      absurd (omega arith)
    where
      some_label : (o : Option ℕ) → o ≡ Some x → o ≡ Some y → x ≡ y
      some_label o f g = cc

  only : (x : ℕ) (d : List ℕ) → x < length groups → All (IsConductor board net) (get_or groups x d)
  only x d lt k e inside =
      let p = place_in x d lt (get_or (get_or groups x d) k e) (Contains-get_or (get_or groups x d) k e inside) in
      subst (IsConductor board net) p.1.is (conductors.only (get_or ids p.0 0) (Contains-get_or ids p.0 0 p.1.inside))

  -- the group of a member
  place_of : (a : ℕ) → IsConductor board net a → (k : ℕ) × (k < length ids) × (get_or ids k 0 ≡ a)
  place_of a is = contained_at ids a (conductors.every a is)

  to_group : (x : ℕ) → x < length groups → (P : List ℕ → Type 0) → P (get_or groups x []) → Any P groups
  to_group x lt P p = (x, get_or groups x [], lt, get_or_default groups x (get_or groups x []) [] lt, p)

  every : (a : ℕ) → IsConductor board net a → Any (λ group. Contains group a) groups
  every a is =
      let p = place_of a is in
      let l = al.filled p.0 p.1 in
      let lt : l.0 < length groups = let less = al.below p.0 l.0 l.1 in let c = gathered.count_is in omega arith in
      to_group l.0 lt (λ group. Contains group a) (subst (Contains (get_or groups l.0 [])) p.2 (in_group l.0 [] lt p.0 l.1))

  -- a chain keeps the label
  along : (x : ℕ) {a b : ℕ} → Chain (TouchOn board) a b → IsConductor board net a → (p : ℕ) → get_or ids p 0 ≡ a → label_at labels p ≡ Some x → (q : ℕ) × ((get_or ids q 0 ≡ b) × (label_at labels q ≡ Some x))
  along x here is p e l = (p, (e, l))
  along x (step {i} {j} s c) is p e l =
      let next = touched_conductor board net i j is s in
      let q = place_of j next in
      along x c next q.0 q.2 (al.closed p q.0 x q.1 l (subst (λ (k : ℕ). TouchOn board k (get_or ids q.0 0)) (sym e) (subst (TouchOn board i) (sym q.2) s)))

  joined_from : (a b : ℕ) → AreTogether groups a b → Chain (TouchOn board) a b
  joined_from a b t =
      let same = t.3 in
      let p = place_in t.0 t.1 t.2 a (subst (λ (g : List ℕ). Contains g a) (sym same) t.4.0) in
      let q = place_in t.0 t.1 t.2 b (subst (λ (g : List ℕ). Contains g b) (sym same) t.4.1) in
      subst (λ (i : ℕ). Chain (TouchOn board) i b) p.1.is (subst (Chain (TouchOn board) (get_or ids p.0 0)) q.1.is (al.chained p.0 q.0 t.0 p.1.label q.1.label))

  joined_to : (a b : ℕ) → IsConductor board net a → Chain (TouchOn board) a b → AreTogether groups a b
  joined_to a b is c =
      let p = place_of a is in
      let l = al.filled p.0 p.1 in
      let q = along l.0 c is p.0 p.2 l.1 in
      let lt : l.0 < length groups = let less = al.below p.0 l.0 l.1 in let c = gathered.count_is in omega arith in
      to_group l.0 lt (λ group. Contains group a × Contains group b)
      (subst (Contains (get_or groups l.0 [])) p.2 (in_group l.0 [] lt p.0 l.1), subst (Contains (get_or groups l.0 [])) q.1.0 (in_group l.0 [] lt q.0 q.1.1))

  pub groups_are : AreGroupsOn board net groups
  groups_are = record {
    filled = λ x d lt. filled x d lt;
    rising = λ x d lt. rising x d lt;
    ordered = ordered;
    disjoint = disjoint;
    only = λ x d lt. only x d lt;
    every = every;
    joined = λ a b is other. (joined_from a b, joined_to a b is);
  }
