-- There is one list of classes.
use Rattle.std.proofs.Common.{◌≡◌, ℕ, suc, ◌<◌, ◌≤◌, List, [], ◌∷◌, length, get_or, All, Contains, inl, inr, refl, sym, subst, ap, ◌∙◌, arith}
use Rattle.std.specs.List.{Any, AllPairs}
use Rattle.std.proofs.lemmas.List.Elements.{All-head, All-tail, All-contains, Contains-get_or}
use Rattle.item_copper.proofs.Meeting.{any_here, any_later, any_cases, any_none}
use Rattle.net_groups.specs.ConnectedClasses.{Rises, least, AreTogether, AreDisjoint, AreClasses}
use Rattle.board_index.proofs.OneList.{same_lists}
use Rattle.net_groups.proofs.Whole.{least_le}

same_rising : (xs ys : List ℕ) → Rises xs → Rises ys → ((a : ℕ) → Contains xs a → Contains ys a) → ((a : ℕ) → Contains ys a → Contains xs a) → xs ≡ ys
same_rising = same_lists (λ a b. a < b) (λ a b f g. omega arith)

pairs_tail : {X : Type 0} (R : X → X → Type 0) (x : X) (xs : List X) → AllPairs R (x ∷ xs) → AllPairs R xs
pairs_tail R x xs pairs i j d lt past = pairs (suc i) (suc j) d (omega arith) (omega arith)

pairs_head : {X : Type 0} (R : X → X → Type 0) (x : X) (xs : List X) → AllPairs R (x ∷ xs) → (k : ℕ) (y : X) → k < length xs → get_or xs k y ≡ y → R x y
pairs_head R x xs pairs k y lt is = subst (R x) is (pairs 0 (suc k) y (omega arith) (omega arith))

-- ---- the first class
abbrev Others : (ℕ → Type 0) → List ℕ → ℕ → Type 0
Others Member list a = Member a × (¬ (Contains list a))

module _ (Member : ℕ → Type 0) (Joined : ℕ → ℕ → Type 0) (list : List ℕ) (lists : List (List ℕ)) (c : AreClasses Member Joined (list ∷ lists)) where
  rises : Rises list
  rises = All-head Rises list lists c.rising

  pub least_in : Contains list (least list)
  least_in = Contains-get_or list 0 0 (All-head (λ list. 0 < length list) list lists c.filled)

  pub members : (a : ℕ) → Contains list a → Member a
  members a h = All-contains Member list a (All-head (λ list. All Member list) list lists c.only) h

  -- the least of all members is the least of the first class
  pub least_first : (a : ℕ) → Member a → least list ≤ a
  least_first a m = elim (any_cases (λ list. Contains list a) list lists (c.every a m)) [
    | inl h ↦ least_le list rises a h
    | inr more ↦
        let less = pairs_head (λ list other. least list < least other) list lists c.ordered more.0 more.1 more.2 more.3 in
        let low = least_le more.1 (subst Rises more.3 (c.rising (suc more.0) more.1 (let lt = more.2 in omega arith))) a more.4 in
        omega arith
  ]

  -- what is in a list with the least is in the first class
  pub with_least : (a : ℕ) → AreTogether (list ∷ lists) (least list) a → Contains list a
  with_least a t = elim (any_cases (λ list'. Contains list' (least list) × Contains list' a) list lists t) [
    | inl h ↦ h.1
    | inr more ↦ absurd (pairs_head AreDisjoint list lists c.disjoint more.0 more.1 more.2 more.3 (least list) least_in more.4.0)
  ]

  pub joined_with_least : (a : ℕ) → Contains list a → Joined (least list) a
  joined_with_least a h = (c.joined (least list) a (members (least list) least_in) (members a h)).0 (any_here (λ list'. Contains list' (least list) × Contains list' a) list lists (least_in, h))

  -- the later classes are those of the other members
  pub later_classes : AreClasses (Others Member list) Joined lists
  later_classes = record {
    filled = All-tail (λ list. 0 < length list) list lists c.filled;
    rising = All-tail Rises list lists c.rising;
    ordered = pairs_tail (λ list other. least list < least other) list lists c.ordered;
    disjoint = pairs_tail AreDisjoint list lists c.disjoint;
    only = only;
    every = every;
    joined = λ a b m n. (to a b m n, from a b m n);
  }
    where
      only : All (λ list'. All (Others Member list) list') lists
      only k d lt i e inside = (
        All-tail (λ list. All Member list) list lists c.only k d lt i e inside,
        λ h. c.disjoint 0 (suc k) d (omega arith) (omega arith) (get_or (get_or lists k d) i e) h (Contains-get_or (get_or lists k d) i e inside),
      )

      every : (a : ℕ) → Others Member list a → Any (λ list'. Contains list' a) lists
      every a m = elim (any_cases (λ list. Contains list a) list lists (c.every a m.0)) [
        | inl h ↦ absurd (m.1 h)
        | inr more ↦ more
      ]

      to : (a b : ℕ) → Others Member list a → Others Member list b → AreTogether lists a b → Joined a b
      to a b m n t = (c.joined a b m.0 n.0).0 (any_later (λ list'. Contains list' a × Contains list' b) list lists t)

      from : (a b : ℕ) → Others Member list a → Others Member list b → Joined a b → AreTogether lists a b
      from a b m n j = elim (any_cases (λ list'. Contains list' a × Contains list' b) list lists ((c.joined a b m.0 n.0).1 j)) [
        | inl h ↦ absurd (m.1 h.0)
        | inr more ↦ more
      ]

-- two first classes are one
module _ (Member : ℕ → Type 0) (Joined : ℕ → ℕ → Type 0) (list : List ℕ) (lists : List (List ℕ)) (other : List ℕ) (others : List (List ℕ))
    (c : AreClasses Member Joined (list ∷ lists)) (d : AreClasses Member Joined (other ∷ others)) where
  one_least : least list ≡ least other
  one_least =
      let low = least_first Member Joined list lists c (least other) (members Member Joined other others d (least other) (least_in Member Joined other others d)) in
      let high = least_first Member Joined other others d (least list) (members Member Joined list lists c (least list) (least_in Member Joined list lists c)) in
      omega arith

  pub into : (a : ℕ) → Contains list a → Contains other a
  into a h =
      let m = members Member Joined list lists c in
      let j = joined_with_least Member Joined list lists c a h in
      let t = (d.joined (least list) a (m (least list) (least_in Member Joined list lists c)) (m a h)).1 j in
      with_least Member Joined other others d a (subst (λ (k : ℕ). AreTogether (other ∷ others) k a) one_least t)

first_class : (Member : ℕ → Type 0) (Joined : ℕ → ℕ → Type 0) (list : List ℕ) (lists : List (List ℕ)) (other : List ℕ) (others : List (List ℕ))
    → AreClasses Member Joined (list ∷ lists) → AreClasses Member Joined (other ∷ others) → list ≡ other
first_class Member Joined list lists other others c d =
    same_rising list other (All-head Rises list lists c.rising) (All-head Rises other others d.rising) (into Member Joined list lists other others c d) (into Member Joined other others list lists d c)

no_class : (Member : ℕ → Type 0) (Joined : ℕ → ℕ → Type 0) (list : List ℕ) (lists : List (List ℕ)) → AreClasses Member Joined [] → AreClasses Member Joined (list ∷ lists) → ⊥
no_class Member Joined list lists none c = any_none (λ list'. Contains list' (least list)) (none.every (least list) (members Member Joined list lists c (least list) (least_in Member Joined list lists c)))

pub classes_once : (Member : ℕ → Type 0) (Joined : ℕ → ℕ → Type 0) (lists others : List (List ℕ)) → AreClasses Member Joined lists → AreClasses Member Joined others → lists ≡ others
classes_once Member Joined [] [] c d = refl
classes_once Member Joined [] (other ∷ others) c d = absurd (no_class Member Joined other others c d)
classes_once Member Joined (list ∷ lists) [] c d = absurd (no_class Member Joined list lists d c)
classes_once Member Joined (list ∷ lists) (other ∷ others) c d =
    let same : list ≡ other = first_class Member Joined list lists other others c d in
    let more : lists ≡ others = classes_once (Others Member list) Joined lists others (later_classes Member Joined list lists c)
    (subst (λ (l : List ℕ). AreClasses (Others Member l) Joined others) (sym same) (later_classes Member Joined other others d)) in
    ap (λ (l : List ℕ). l ∷ lists) same ∙ ap (λ (ls : List (List ℕ)). other ∷ ls) more
