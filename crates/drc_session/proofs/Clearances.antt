-- How far checks reach after an edit: the greatest of what is left, and of what came.
use Rattle.std.proofs.Common.{◌≡◌, ◌⊎◌, inl, inr, refl, sym, ap, subst, ◌∙◌, ℕ, ◌+◌, ◌<◌, ℤ, ◌≤ℤ◌, FitsSigned, w64, List, [], ◌∷◌, ◌++◌, length, get_or, take, Contains, Option, None, Some, arith}
use Rattle.std.specs.List.{flat_map}
use Rattle.std.proofs.lemmas.List.{get_or_default}
use Rattle.std.proofs.lemmas.List.Elements.{All-weaker, All-contains, All-contains_itself, Contains-append_left, Contains-append_right, Contains-append_cases}
use Rattle.std.proofs.lemmas.Int.{ints}
use Rattle.int_algebra.proofs.Order.{le_trans}
use Rattle.int_algebra.proofs.Scalars.{clean, passed}
use Rattle.plain_types.specs.Lengths.{IsLength}
use Rattle.one_item.specs.declared.item.Item.{Item}
use Rattle.board_items.specs.Boards.{PlainBoard, item_at}
use Rattle.board_index.proofs.OneList.{here, nothing, behind, cons_case}
use Rattle.board_laws.specs.Edits.{IsEdit}
use Rattle.board_laws.proofs.Rest.{rises, found_at, in_list}
use Rattle.net_class.specs.NetClasses.{PlainClasses}
use Rattle.cond_lang.specs.Rules.{PlainRule}
use Rattle.rule_pick.specs.Reach.{distances_of, clearances_of, least_distances, one_if, local_clearances, distances_asked, IsReach}
use Rattle.drc_session.specs.Looks.{AsksNone, own_of, own_at, HasOwn, IsRaisedBy}
use Rattle.drc_session.proofs.Looked.{alone, seen}
use Rattle.drc_session.proofs.Entries.{among}

-- ---- own clearances

no_own : (v : ℤ) → None ≡ Some v → ⊥
no_own v e = cc

same_own : (v w : ℤ) → Some v ≡ Some w → v ≡ w
same_own v w e = cc

-- an item that has it for its own clearance
abbrev Owner : List (ℕ × Item) → ℤ → Type 0
Owner items v = (e : ℕ × Item) × Contains items e × (e.1.local ≡ Some v)

from_one : (own : Option ℤ) (v : ℤ) → Contains (one_if own) v → own ≡ Some v
from_one None v c = absurd (nothing v c)
from_one (Some w) v c = ap (λ (z : ℤ). Some z) (alone w v c)

in_one : (own : Option ℤ) (v : ℤ) → own ≡ Some v → Contains (one_if own) v
in_one own v e = subst (λ (o : Option ℤ). Contains (one_if o) v) (sym e) (here v [])

owner_of : (items : List (ℕ × Item)) (v : ℤ) → Contains (local_clearances items) v → Owner items v
owner_of [] v c = absurd (nothing v c)
owner_of (e ∷ es) v c = by (owner_of es v) (Contains-append_cases (one_if e.1.local) (local_clearances es) v c)
  where
    by : (Contains (local_clearances es) v → Owner es v) → Contains (one_if e.1.local) v ⊎ Contains (local_clearances es) v → Owner (e ∷ es) v
    by again (inl d) = (e, here e es, from_one e.1.local v d)
    by again (inr d) = let o = again d in (o.0, behind e o.0 es o.1, o.2)

own_among : (items : List (ℕ × Item)) (v : ℤ) (e : ℕ × Item) → Contains items e → e.1.local ≡ Some v → Contains (local_clearances items) v
own_among [] v e c own = absurd (nothing e c)
own_among (f ∷ fs) v e c own = by (own_among fs v e) (cons_case f e fs c)
  where
    by : (Contains fs e → e.1.local ≡ Some v → Contains (local_clearances fs) v) → (f ≡ e) ⊎ Contains fs e → Contains (local_clearances (f ∷ fs)) v
    by again (inl same) = Contains-append_left (one_if f.1.local) (local_clearances fs) v (in_one f.1.local v (ap (λ (g : ℕ × Item). g.1.local) same ∙ own))
    by again (inr d) = Contains-append_right (one_if f.1.local) (local_clearances fs) v (again d own)

-- the item of the id that has it
module _ (board : PlainBoard) (id : ℕ) (v : ℤ) where
  abbrev HasIt : Type 0
  HasIt = (item : Item) × (item_at board.items id ≡ Some item) × (item.local ≡ Some v)

  pub item_of : own_at board id ≡ Some v → HasIt
  item_of = by (item_at board.items id) refl
    where
      by : (x : Option Item) → item_at board.items id ≡ x → own_of x ≡ Some v → HasIt
      by None e own = absurd (no_own v own)
      by (Some item) e own = (item, e, own)

  pub own_is : (item : Item) → item_at board.items id ≡ Some item → item.local ≡ Some v → own_at board id ≡ Some v
  own_is item e own = ap own_of e ∙ own

-- ---- raised by the items of some ids

module _ (board : PlainBoard) where
  module _ (xs ys : List ℕ) (n r s : ℤ) (h : IsRaisedBy board xs n r) (k : IsRaisedBy board ys r s) where
    left : (v : ℤ) → HasOwn board xs v → HasOwn board (xs ++ ys) v
    left v o = record { id = o.id; among = Contains-append_left xs ys o.id o.among; own = o.own }

    right : (v : ℤ) → HasOwn board ys v → HasOwn board (xs ++ ys) v
    right v o = record { id = o.id; among = Contains-append_right xs ys o.id o.among; own = o.own }

    most_both : (v : ℤ) (o : HasOwn board (xs ++ ys) v) → Contains xs o.id ⊎ Contains ys o.id → v ≤ℤ s
    most_both v o (inl c) = le_trans v r s (h.most v (record { id = o.id; among = c; own = o.own })) k.from
    most_both v o (inr c) = k.most v (record { id = o.id; among = c; own = o.own })

    one_both : (s ≡ r) ⊎ HasOwn board ys s → (r ≡ n) ⊎ HasOwn board xs r → (s ≡ n) ⊎ HasOwn board (xs ++ ys) s
    one_both (inr o) p = inr (right s o)
    one_both (inl e) (inl f) = inl (e ∙ f)
    one_both (inl e) (inr o) = inr (left s (subst (HasOwn board xs) (sym e) o))

    raised_joined : IsRaisedBy board (xs ++ ys) n s
    raised_joined = record { from = le_trans n r s h.from k.from; most = λ v o. most_both v o (Contains-append_cases xs ys o.id o.among); one = one_both k.one h.one }

  pub raised_more : (ids : List ℕ) (i d : ℕ) (n r s : ℤ) → i < length ids → IsRaisedBy board (take i ids) n r → IsRaisedBy board (get_or ids i d ∷ []) r s → IsRaisedBy board (take (i + 1) ids) n s
  raised_more ids i d n r s lt h k =
      let id = get_or ids i d in subst (λ (l : List ℕ). IsRaisedBy board l n s) (seen ids i id lt (get_or_default ids i d id lt)) (raised_joined (take i ids) (id ∷ []) n r s h k)

-- ---- the reach after an edit

module _ (a b c own : List ℤ) (v : ℤ) where
  abbrev Fixed : Type 0
  Fixed = Contains a v ⊎ (Contains b v ⊎ Contains c v)

  fixed_in : Fixed → Contains (a ++ (b ++ (c ++ own))) v
  fixed_in (inl d) = Contains-append_left a (b ++ (c ++ own)) v d
  fixed_in (inr (inl d)) = Contains-append_right a (b ++ (c ++ own)) v (Contains-append_left b (c ++ own) v d)
  fixed_in (inr (inr d)) = Contains-append_right a (b ++ (c ++ own)) v (Contains-append_right b (c ++ own) v (Contains-append_left c own v d))

  own_in : Contains own v → Contains (a ++ (b ++ (c ++ own))) v
  own_in d = Contains-append_right a (b ++ (c ++ own)) v (Contains-append_right b (c ++ own) v (Contains-append_right c own v d))

  third : Contains c v ⊎ Contains own v → Fixed ⊎ Contains own v
  third (inl d) = inl (inr (inr d))
  third (inr d) = inr d

  second : Contains b v ⊎ Contains (c ++ own) v → Fixed ⊎ Contains own v
  second (inl d) = inl (inr (inl d))
  second (inr d) = third (Contains-append_cases c own v d)

  first : Contains a v ⊎ Contains (b ++ (c ++ own)) v → Fixed ⊎ Contains own v
  first (inl d) = inl (inl d)
  first (inr d) = second (Contains-append_cases b (c ++ own) v d)

  part_of : Contains (a ++ (b ++ (c ++ own))) v → Fixed ⊎ Contains own v
  part_of d = first (Contains-append_cases a (b ++ (c ++ own)) v d)

module _ (old new : PlainBoard) (classes : PlainClasses) (rules : List PlainRule) (ids : List ℕ) (edit : IsEdit old new ids) (reach r : ℤ) (none : AsksNone old ids reach) (was : IsReach old classes rules reach) (h : IsRaisedBy new ids reach r) where
  abbrev of_rules : List ℤ
  of_rules = flat_map distances_of rules

  abbrev of_classes : List ℤ
  of_classes = clearances_of classes

  abbrev of_board : List ℤ
  of_board = least_distances classes.mins

  abbrev IsFixed : ℤ → Type 0
  IsFixed v = Fixed of_rules of_classes of_board (local_clearances old.items) v

  below : (v : ℤ) → Contains (distances_asked old classes rules) v → v ≤ℤ r
  below v c = le_trans v reach r (All-contains (λ (w : ℤ). w ≤ℤ reach) (distances_asked old classes rules) v was.most c) h.from

  old_at : (e : ℕ × Item) → Contains old.items e → item_at old.items e.0 ≡ Some e.1
  old_at e c = found_at old.items e (rises 0 old.next_id old.items edit.rises_before) c

  new_at : (e : ℕ × Item) → Contains new.items e → item_at new.items e.0 ≡ Some e.1
  new_at e c = found_at new.items e (rises 0 new.next_id new.items edit.rises_now) c

  owner_below : (v : ℤ) (o : Owner new.items v) → Contains ids o.0.0 ⊎ ¬ (Contains ids o.0.0) → v ≤ℤ r
  owner_below v o (inl c) = h.most v (record { id = o.0.0; among = c; own = own_is new o.0.0 v o.0.1 (new_at o.0 o.1) o.2 })
  owner_below v o (inr out) =
      let stood : item_at old.items o.0.0 ≡ Some o.0.1 = sym (edit.rest o.0.0 out) ∙ new_at o.0 o.1 in
      below v (own_in of_rules of_classes of_board (local_clearances old.items) v (own_among old.items v o.0 (in_list old.items o.0.0 o.0.1 stood) o.2))

  most_part : (v : ℤ) → IsFixed v ⊎ Contains (local_clearances new.items) v → v ≤ℤ r
  most_part v (inl f) = below v (fixed_in of_rules of_classes of_board (local_clearances old.items) v f)
  most_part v (inr c) = let o = owner_of new.items v c in owner_below v o (among ids o.0.0)

  most : (v : ℤ) → Contains (distances_asked new classes rules) v → v ≤ℤ r
  most v c = most_part v (part_of of_rules of_classes of_board (local_clearances new.items) v c)

  came : (v : ℤ) → HasOwn new ids v → Contains (distances_asked new classes rules) v
  came v o =
      let i = item_of new o.id v o.own in own_in of_rules of_classes of_board (local_clearances new.items) v (own_among new.items v (o.id, i.0) (in_list new.items o.id i.0 i.1) i.2)

  owner_stays : (o : Owner old.items reach) → Contains ids o.0.0 ⊎ ¬ (Contains ids o.0.0) → Contains (distances_asked new classes rules) reach
  owner_stays o (inl c) = absurd (none.none o.0.0 o.0.1 c (old_at o.0 o.1) o.2)
  owner_stays o (inr out) =
      let stands : item_at new.items o.0.0 ≡ Some o.0.1 = edit.rest o.0.0 out ∙ old_at o.0 o.1 in
      own_in of_rules of_classes of_board (local_clearances new.items) reach (own_among new.items reach o.0 (in_list new.items o.0.0 o.0.1 stands) o.2)

  stays_part : IsFixed reach ⊎ Contains (local_clearances old.items) reach → Contains (distances_asked new classes rules) reach
  stays_part (inl f) = fixed_in of_rules of_classes of_board (local_clearances new.items) reach f
  stays_part (inr c) = let o = owner_of old.items reach c in owner_stays o (among ids o.0.0)

  one_new : (r ≡ reach) ⊎ HasOwn new ids r → Contains (distances_asked new classes rules) r
  one_new (inl e) = subst (Contains (distances_asked new classes rules)) (sym e) (stays_part (part_of of_rules of_classes of_board (local_clearances old.items) reach was.one))
  one_new (inr o) = came r o

  -- the greatest of what is left is still it
  pub reach_stays : IsReach new classes rules r
  reach_stays = record {
    most = All-weaker (Contains (distances_asked new classes rules)) (λ (v : ℤ). v ≤ℤ r) most (distances_asked new classes rules) (All-contains_itself (distances_asked new classes rules));
    one = one_new h.one;
  }

-- ---- lengths that the code passes on

length_fits : (z : ℤ) → IsLength z → FitsSigned w64 z
length_fits z h = let from = h.from in let to = h.to in omega (arith, ints)

pub as_passed : (z : ℤ) → IsLength z → z ≡ passed z
as_passed z h = sym (clean z (length_fits z h))
