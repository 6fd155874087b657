-- What is asked of two items is at most the reach, and one thing is asked.
use Rattle.std.proofs.Common.{◌≡◌, ◌⊎◌, ℕ, ◌<◌, ◌≤◌, nat_eq, ◌==◌, zero, suc, bytes_eq, int_lt, ℤ, pos, ◌≤ℤ◌, Bool, true, false, cond, IsTrue, List, [], ◌∷◌, ◌++◌, map, All, Option, None, Some, find, unwrap_or, slice_get, inl, inr, refl, sym, ap, subst, ◌∙◌, arith}
use Rattle.std.proofs.lemmas.Bool.{cases_lt}
use Rattle.std.proofs.lemmas.Map.Views.{exact_unsigned_eq}
use Rattle.std.specs.Bool.{if◌then◌else◌}
use Rattle.std.specs.Int.{int_max}
use Rattle.std.specs.List.{flat_map}
use Rattle.std.specs.Map.{lookup}
use Rattle.std.proofs.lemmas.List.Elements.{All-nil, All-cons, All-head, All-tail}
use Rattle.one_item.specs.declared.item.Item.{Item}
use Rattle.board_items.specs.Boards.{PlainBoard, item_at, name_of}
use Rattle.net_class.specs.NetClasses.{PlainClass, PlainClasses, PlainMins, PlainPattern, class_named, pattern_of, class_by, class_of}
use Rattle.cond_lang.specs.declared.kind.Kind.{Kind}
use Rattle.cond_lang.specs.declared.kind.Kind.TheVariants.{Clearance, HoleClearance, HoleToHole, EdgeClearance, CourtyardClearance, PhysicalClearance, PhysicalHoleClearance}
use Rattle.cond_lang.specs.CheckKinds.{kind_number, has_own}
use Rattle.cond_lang.specs.Rules.{PlainConstraint, PlainRule}
use Rattle.rule_pick.specs.declared.facts.Facts.{Facts}
use Rattle.rule_pick.specs.FactsOf.{class_of_name, class_of_net, AreFactsOf}
use Rattle.rule_pick.specs.Deciding.{minimum, greater_if, local_of, asked_by, IsDeciding, default_least, class_clearance_if, asked_least, IsPick}
use Rattle.rule_pick.specs.Picks.{Pick}
use Rattle.rule_pick.specs.Reach.{is_between_two, distance_asked, distances_of, clearances_of, least_distances, one_if, local_clearances, IsReach}
use Rattle.pair_check.proofs.KindRows.{same_number}

-- ---- lists
prefix_of_all : {X : Type 0} (P : X → Type 0) (xs ys : List X) → All P (xs ++ ys) → All P xs
prefix_of_all P [] ys a = All-nil P
prefix_of_all P (x ∷ xs) ys a = All-cons P x xs (All-head P x (xs ++ ys) a) (prefix_of_all P xs ys (All-tail P x (xs ++ ys) a))

back_of_all : {X : Type 0} (P : X → Type 0) (xs ys : List X) → All P (xs ++ ys) → All P ys
back_of_all P [] ys a = a
back_of_all P (x ∷ xs) ys a = back_of_all P xs ys (All-tail P x (xs ++ ys) a)

of_flat : {X Y : Type 0} (P : Y → Type 0) (f : X → List Y) (xs : List X) → All P (flat_map f xs) → All (λ x. All P (f x)) xs
of_flat P f [] a = All-nil (λ x. All P (f x))
of_flat P f (x ∷ xs) a = All-cons (λ x. All P (f x)) x xs (prefix_of_all P (f x) (flat_map f xs) a) (of_flat P f xs (back_of_all P (f x) (flat_map f xs) a))

of_map : {X Y : Type 0} (P : Y → Type 0) (f : X → Y) (xs : List X) → All P (map f xs) → All (λ x. P (f x)) xs
of_map P f [] a = All-nil (λ x. P (f x))
of_map P f (x ∷ xs) a = All-cons (λ x. P (f x)) x xs (All-head P (f x) (map f xs) a) (of_map P f xs (All-tail P (f x) (map f xs) a))

-- one that is found passes, and has what each has
pub found_has : {X : Type 0} (P : X → Type 0) (test : X → Bool) (xs : List X) (y : X) → All P xs → find test xs ≡ Some y → P y × IsTrue (test y)
found_has P test [] y a e = absurd (cc)
found_has {X} P test (x ∷ xs) y a e = by_test (test x) refl e (found_has P test xs y (All-tail P x xs a))
  where
    same : (x y : X) → Some x ≡ Some y → x ≡ y
    same x y e = cc

    by_test : (b : Bool) → test x ≡ b → cond b (Some x) (find test xs) ≡ Some y → (find test xs ≡ Some y → P y × IsTrue (test y)) → P y × IsTrue (test y)
    by_test true t e on = let is = same x y e in (subst P is (All-head P x xs a), subst (λ (z : X). IsTrue (test z)) is t)
    by_test false t e on = on e

pub at_has : {X : Type 0} (P : X → Type 0) (xs : List X) (k : ℕ) (x : X) → All P xs → slice_get xs k ≡ Some x → P x
at_has P [] k x a e = absurd (cc)
at_has {X} P (y ∷ ys) zero x a e = let is : y ≡ x = cc in subst P is (All-head P y ys a)
at_has P (y ∷ ys) (suc k) x a e = at_has P ys k x (All-tail P y ys a) e

looked_up : (P : Item → Type 0) (items : List (ℕ × Item)) (id : ℕ) (item : Item) → All (λ entry. P entry.1) items → item_at items id ≡ Some item → P item
looked_up P [] id item a e = absurd (cc)
looked_up P (entry ∷ entries) id item a e = by_test (nat_eq id entry.0) e (looked_up P entries id item (All-tail (λ (x : ℕ × Item). P x.1) entry entries a))
  where
    same : (x y : Item) → Some x ≡ Some y → x ≡ y
    same x y e = cc

    by_test : (b : Bool) → cond b (Some entry.1) (lookup (nat_eq id) entries) ≡ Some item → (item_at entries id ≡ Some item → P item) → P item
    by_test true e on = subst P (same entry.1 item e) (All-head (λ (x : ℕ × Item). P x.1) entry entries a)
    by_test false e on = on e

-- ---- numbers
max_at_most : (x y n : ℤ) → x ≤ℤ n → y ≤ℤ n → int_max x y ≤ℤ n
max_at_most x y n h k = by_test (int_lt y x)
  where
    by_test : (b : Bool) → cond b x y ≤ℤ n
    by_test true = h
    by_test false = k

abbrev pub AtMostIf : ℤ → Option ℤ → Type 0
AtMostIf n v = (nm : ℤ) → v ≡ Some nm → nm ≤ℤ n

greater_at_most : (n : ℤ) (v w : Option ℤ) → AtMostIf n v → AtMostIf n w → AtMostIf n (greater_if v w)
greater_at_most n None w h k nm e = k nm e
greater_at_most n (Some x) None h k nm e = h nm e
greater_at_most n (Some x) (Some y) h k nm e = let is : int_max x y ≡ nm = some_same (int_max x y) nm e in subst (λ (z : ℤ). z ≤ℤ n) is (max_at_most x y n (h x refl) (k y refl))
  where
    some_same : (x y : ℤ) → Some x ≡ Some y → x ≡ y
    some_same x y e = cc

-- ---- kinds
between_same : (k l : Kind) → IsTrue (kind_number k == kind_number l) → is_between_two l ≡ true → is_between_two k ≡ true
between_same k l e between = subst (λ (kind : Kind). is_between_two kind ≡ true) (sym (same_number k l (exact_unsigned_eq (kind_number k) (kind_number l) e))) between

-- ---- what is picked is at most what rules, the board and the items ask for at most
module _ (rules : List PlainRule) (mins : PlainMins) (n : ℤ) (kind : Kind) (by_rules : (place : ℕ) (rule : PlainRule) (c : PlainConstraint) → slice_get rules place ≡ Some rule → asked_by kind rule ≡ Some c → asked_least c ≤ℤ n)
    (by_board : (micro : Bool) → minimum mins micro kind ≤ℤ n) (a b : Facts) (local_a : AtMostIf n a.local) (local_b : AtMostIf n b.local) (class_a : a.class_clearance ≤ℤ n) (class_b : b.class_clearance ≤ℤ n) where
  local_least : AtMostIf n (local_of kind a (Some b))
  local_least = by_test (has_own kind)
    where
      by_test : (c : Bool) → AtMostIf n (if c then greater_if a.local b.local else None)
      by_test true = greater_at_most n a.local b.local local_a local_b
      by_test false = λ nm e. absurd (cc)

  default_at : (least : ℤ) → least ≤ℤ n → default_least least kind a (Some b) ≤ℤ n
  default_at least h = by_test (has_own kind)
    where
      by_test : (c : Bool) → (if c then class_clearance_if (Some b) (int_max a.class_clearance least) else least) ≤ℤ n
      by_test true = max_at_most b.class_clearance (int_max a.class_clearance least) n class_b (max_at_most a.class_clearance least n class_a h)
      by_test false = h

  pub picked_at_most : (layer : Option ℕ) (pick : Pick) → IsPick rules mins kind a (Some b) layer pick → pick.least ≤ℤ n
  picked_at_most layer pick (inl is) = subst (λ (v : ℤ). v ≤ℤ n) (sym (ap (λ (p : Pick). p.least) is.value)) (max_at_most is.nm (minimum mins a.micro kind) n (local_least is.nm is.local) (by_board a.micro))
  picked_at_most layer pick (inr (inl is)) =
      subst (λ (v : ℤ). v ≤ℤ n) (sym (ap (λ (p : Pick). p.least) is.value))
      (max_at_most (asked_least is.constraint) (minimum mins a.micro kind) n (by_rules is.place is.rule is.constraint is.deciding.stands is.asked) (by_board a.micro))
  picked_at_most layer pick (inr (inr is)) = subst (λ (v : ℤ). v ≤ℤ n) (sym (ap (λ (p : Pick). p.least) is.value)) (default_at (minimum mins a.micro kind) (by_board a.micro))

-- ---- what the reach bounds
module _ (board : PlainBoard) (classes : PlainClasses) (rules : List PlainRule) (n : ℤ) (reach : IsReach board classes rules n) where
  abbrev AtMost : ℤ → Type 0
  AtMost v = v ≤ℤ n

  after_rules : All AtMost (clearances_of classes ++ (least_distances classes.mins ++ local_clearances board.items))
  after_rules = back_of_all AtMost (flat_map distances_of rules) (clearances_of classes ++ (least_distances classes.mins ++ local_clearances board.items)) reach.most

  after_classes : All AtMost (least_distances classes.mins ++ local_clearances board.items)
  after_classes = back_of_all AtMost (clearances_of classes) (least_distances classes.mins ++ local_clearances board.items) after_rules

  of_rules : All (λ rule. All AtMost (distances_of rule)) rules
  of_rules = of_flat AtMost distances_of rules (prefix_of_all AtMost (flat_map distances_of rules) (clearances_of classes ++ (least_distances classes.mins ++ local_clearances board.items)) reach.most)

  of_classes : All (λ (class : PlainClass). class.clearance ≤ℤ n) (classes.default ∷ classes.named)
  of_classes = of_map AtMost (λ (class : PlainClass). class.clearance) (classes.default ∷ classes.named) (prefix_of_all AtMost (clearances_of classes) (least_distances classes.mins ++ local_clearances board.items) after_rules)

  of_mins : All AtMost (least_distances classes.mins)
  of_mins = prefix_of_all AtMost (least_distances classes.mins) (local_clearances board.items) after_classes

  of_locals : All (λ (entry : ℕ × Item). All AtMost (one_if entry.1.local)) board.items
  of_locals = of_flat AtMost (λ (entry : ℕ × Item). one_if entry.1.local) board.items (back_of_all AtMost (least_distances classes.mins) (local_clearances board.items) after_classes)

  -- ---- by the items
  if_one : (v : Option ℤ) → All AtMost (one_if v) → AtMostIf n v
  if_one None a nm e = absurd (cc)
  if_one (Some x) a nm e = let is : x ≡ nm = cc in subst AtMost is (All-head AtMost x [] a)

  pub local_at_most : (id : ℕ) (item : Item) (facts : Facts) → item_at board.items id ≡ Some item → AreFactsOf board classes item facts → AtMostIf n facts.local
  local_at_most id item facts stands are nm e = if_one item.local (looked_up (λ i. All AtMost (one_if i.local)) board.items id item of_locals stands) nm (sym are.local ∙ e)

  named_at_most : (name : List ℕ) → (class_named classes.default classes.named name).clearance ≤ℤ n
  unfolding class_named
  named_at_most name = by_found (find (λ c. bytes_eq c.name name) classes.named) refl
    where
      by_found : (found : Option PlainClass) → find (λ c. bytes_eq c.name name) classes.named ≡ found → (unwrap_or found classes.default).clearance ≤ℤ n
      by_found None e = All-head (λ (class : PlainClass). class.clearance ≤ℤ n) classes.default classes.named of_classes
      by_found (Some class) e =
          (found_has (λ (class : PlainClass). class.clearance ≤ℤ n) (λ c. bytes_eq c.name name) classes.named class (All-tail (λ (class : PlainClass). class.clearance ≤ℤ n) classes.default classes.named of_classes) e).0

  default_at_most : classes.default.clearance ≤ℤ n
  default_at_most = All-head (λ (class : PlainClass). class.clearance ≤ℤ n) classes.default classes.named of_classes

  by_at_most : (pattern : Option PlainPattern) → (class_by classes.default classes.named pattern).clearance ≤ℤ n
  by_at_most None = default_at_most
  by_at_most (Some p) = named_at_most p.class

  of_at_most : (name : List ℕ) → (class_of classes name).clearance ≤ℤ n
  unfolding class_of
  of_at_most name = by_at_most (pattern_of classes.patterns name)

  name_at_most : (name : Option (List ℕ)) → (class_of_name classes name).clearance ≤ℤ n
  name_at_most None = default_at_most
  name_at_most (Some name) = of_at_most name

  net_at_most : (net : ℕ) → (class_of_net classes board net).clearance ≤ℤ n
  unfolding class_of_net
  net_at_most net = by_test (nat_eq net 0)
    where
      by_test : (b : Bool) → (if b then classes.default else class_of_name classes (name_of board net)).clearance ≤ℤ n
      by_test true = default_at_most
      by_test false = name_at_most (name_of board net)

  pub class_at_most : (item : Item) (facts : Facts) → AreFactsOf board classes item facts → facts.class_clearance ≤ℤ n
  class_at_most item facts are = subst AtMost (sym are.class_clearance) (net_at_most item.net)

  -- ---- by the kind
  asked_at_most : (kind : Kind) (place : ℕ) (rule : PlainRule) (c : PlainConstraint) → is_between_two kind ≡ true → slice_get rules place ≡ Some rule → asked_by kind rule ≡ Some c → asked_least c ≤ℤ n
  asked_at_most kind place rule c between stands asked =
      let each = of_flat AtMost distance_asked rule.constraints (at_has (λ r. All AtMost (distances_of r)) rules place rule of_rules stands) in
      let has = found_has (λ d. All AtMost (distance_asked d)) (λ d. kind_number d.kind == kind_number kind) rule.constraints c each asked in
      by_kind (is_between_two c.kind) (between_same c.kind kind has.1 between) has.0
    where
      by_kind : (b : Bool) → b ≡ true → All AtMost (if b then asked_least c ∷ [] else []) → asked_least c ≤ℤ n
      by_kind true e a = All-head AtMost (asked_least c) [] a
      by_kind false e a = absurd (cc)

  pub minimum_at_most : pos 0 ≤ℤ n → (micro : Bool) (kind : Kind) → is_between_two kind ≡ true → minimum classes.mins micro kind ≤ℤ n
  minimum_at_most some micro Clearance e = All-head AtMost classes.mins.min_clearance (classes.mins.min_hole_clearance ∷ classes.mins.min_hole_to_hole ∷ classes.mins.min_copper_edge_clearance ∷ []) of_mins
  minimum_at_most some micro HoleClearance e = of_mins 1 (pos 0) (omega arith)
  minimum_at_most some micro HoleToHole e = of_mins 2 (pos 0) (omega arith)
  minimum_at_most some micro EdgeClearance e = of_mins 3 (pos 0) (omega arith)
  minimum_at_most some micro CourtyardClearance e = some
  minimum_at_most some micro PhysicalClearance e = some
  minimum_at_most some micro PhysicalHoleClearance e = some
  minimum_at_most some micro _ e = absurd (cc)

  -- ---- what is picked
  pub least_at_most : (a b : Facts) → AtMostIf n a.local → AtMostIf n b.local → a.class_clearance ≤ℤ n → b.class_clearance ≤ℤ n → pos 0 ≤ℤ n → (kind : Kind) (layer : Option ℕ) (pick : Pick) → is_between_two kind ≡ true
      → IsPick rules classes.mins kind a (Some b) layer pick → pick.least ≤ℤ n
  least_at_most a b local_a local_b class_a class_b some kind layer pick between picked =
      picked_at_most rules classes.mins n kind (λ place rule c stands asked. asked_at_most kind place rule c between stands asked) (λ micro. minimum_at_most some micro kind between) a b local_a local_b class_a class_b layer pick picked

-- ---- one thing is picked
module _ (rules : List PlainRule) (mins : PlainMins) (kind : Kind) (a : Facts) (b : Option Facts) (layer : Option ℕ) where
  no_both : {v : Bool} → IsTrue v → v ≡ false → ⊥
  no_both {v} t e = absurd (cc)

  one_rule : (i j : ℕ) (r s : PlainRule) → IsDeciding rules kind a b layer i r → IsDeciding rules kind a b layer j s → i ≡ j
  one_rule i j r s x y = by_order (cases_lt i j) (cases_lt j i)
    where
      by_order : (i < j) ⊎ (j ≤ i) → (j < i) ⊎ (i ≤ j) → i ≡ j
      by_order (inl lt) h = absurd (no_both y.matches (x.none_later j s lt y.stands))
      by_order (inr le) (inl lt) = absurd (no_both x.matches (y.none_later i r lt x.stands))
      by_order (inr le) (inr ge) = omega arith

  pub pick_once : (p q : Pick) → IsPick rules mins kind a b layer p → IsPick rules mins kind a b layer q → p ≡ q
  pick_once p q (inl x) (inl y) = let e = x.local in let f = y.local in let g = x.value in let h = y.value in cc
  pick_once p q (inl x) (inr (inl y)) = let e = x.local in let f = y.local in absurd (cc)
  pick_once p q (inl x) (inr (inr y)) = let e = x.local in let f = y.local in absurd (cc)
  pick_once p q (inr (inl x)) (inl y) = let e = x.local in let f = y.local in absurd (cc)
  pick_once p q (inr (inr x)) (inl y) = let e = x.local in let f = y.local in absurd (cc)
  pick_once p q (inr (inl x)) (inr (inl y)) =
      let same = one_rule x.place y.place x.rule y.rule x.deciding y.deciding in
      let e = x.deciding.stands in
      let f = y.deciding.stands in
      let s = x.asked in
      let t = y.asked in
      let g = x.value in
      let h = y.value in
      cc
  pick_once p q (inr (inl x)) (inr (inr y)) = absurd (no_both x.deciding.matches (y.no_rule x.place x.rule x.deciding.stands))
  pick_once p q (inr (inr x)) (inr (inl y)) = absurd (no_both y.deciding.matches (x.no_rule y.place y.rule y.deciding.stands))
  pick_once p q (inr (inr x)) (inr (inr y)) = let g = x.value in let h = y.value in cc
