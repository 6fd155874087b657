-- A board has one list of rows; their items are on it, and their rules among those that are checked.
use Rattle.std.proofs.Common.{◌≡◌, ℕ, ◌<◌, List, length, All, Option, Some, IsSome, inl, inr, refl, sym, ap, subst, ◌∙◌, arith}
use Rattle.std.specs.List.{slice_get}
use Rattle.std.proofs.lemmas.List.Elements.{All-weaker, All-contains}
use Rattle.std.proofs.lemmas.Option.{slice_get_within}
use Rattle.one_item.specs.declared.item.Item.{Item}
use Rattle.board_items.specs.Boards.{item_at}
use Rattle.board_index.proofs.OneList.{same_lists}
use Rattle.cond_lang.specs.Rules.{PlainRule}
use Rattle.cond_lang.specs.declared.kind.Kind.{Kind}
use Rattle.cond_lang.specs.declared.kind.Family.{Family}
use Rattle.cond_lang.specs.declared.kind.Family.TheVariants.{Meets, Keeps, Limits, Forbids}
use Rattle.cond_lang.specs.CheckKinds.{family}
use Rattle.net_class.specs.NetClasses.{PlainMins}
use Rattle.rule_pick.specs.declared.facts.Facts.{Facts}
use Rattle.rule_pick.specs.declared.kinds.Source.TheVariants.{Rule}
use Rattle.rule_pick.specs.Deciding.{IsPick}
use Rattle.rule_pick.specs.Picks.{Pick}
use Rattle.pair_check.specs.PlainRow.{PlainRow}
use Rattle.pair_check.specs.Pairs.{Deciders, Pair, BreaksBy, Breaks, SaysMeeting, SaysNear}
use Rattle.pair_check.specs.Singles.{BreaksAloneBy, BreaksAlone, SaysLimit, SaysForbidden}
use Rattle.pair_check.specs.Rows.{Checked, deciders, Before, AreRowsWhere, AreRows, IsRow, HasItems, HasSource}

-- of two rows not both come before the other
before_once : (r s : PlainRow) → Before r s → Before s r → ⊥
before_once r s (inl h) (inl k) = omega arith
before_once r s (inl h) (inr (inl k)) = let p = k.0 in omega arith
before_once r s (inl h) (inr (inr k)) = let p = k.0 in omega arith
before_once r s (inr (inl h)) (inl k) = let p = h.0 in omega arith
before_once r s (inr (inl h)) (inr (inl k)) = let p = h.1 in let q = k.1 in omega arith
before_once r s (inr (inl h)) (inr (inr k)) = let p = h.1 in let q = k.1 in omega arith
before_once r s (inr (inr h)) (inl k) = let p = h.0 in omega arith
before_once r s (inr (inr h)) (inr (inl k)) = let p = h.1 in let q = k.1 in omega arith
before_once r s (inr (inr h)) (inr (inr k)) = let p = h.2 in let q = k.2 in omega arith

pub one_list_where : (P : PlainRow → Type 0) (xs ys : List PlainRow) → AreRowsWhere P xs → AreRowsWhere P ys → xs ≡ ys
one_list_where P xs ys p q =
    same_lists Before before_once xs ys p.ordered q.ordered (λ r h. q.all r (All-contains P xs r p.only h)) (λ r h. p.all r (All-contains P ys r q.only h))

pub one_list : (c : Checked) (xs ys : List PlainRow) → AreRows c xs → AreRows c ys → xs ≡ ys
one_list c xs ys p q = one_list_where (IsRow c) xs ys p q

-- ---- their items

is_there : (found : Option Item) (item : Item) → found ≡ Some item → IsSome found
is_there found item e = rw e refl

has_items : (c : Checked) (row : PlainRow) → IsRow c row → HasItems c.board row
has_items c row (inl two) = record { first = is_there _ two.pair.a two.first.item_is; second = is_there _ two.pair.b two.second.item_is }
has_items c row (inr one) = record { first = is_there _ one.item one.first.item_is; second = subst (λ (id : ℕ). IsSome (item_at c.board.items id)) (sym one.same) (is_there _ one.item one.first.item_is) }

pub all_have_items : (c : Checked) (rows : List PlainRow) → AreRows c rows → All (HasItems c.board) rows
all_have_items c rows are = All-weaker (IsRow c) (HasItems c.board) (has_items c) rows are.only

-- ---- their rules

stands_below : (rules : List PlainRule) (n : ℕ) (rule : PlainRule) → slice_get rules n ≡ Some rule → n < length rules
stands_below rules n rule h = slice_get_within rules n rule h

-- the rule that is picked is one of the rules
picked_below : (rules : List PlainRule) (mins : PlainMins) (kind : Kind) (a : Facts) (b : Option Facts) (layer : Option ℕ) (pick : Pick) → IsPick rules mins kind a b layer pick → (n : ℕ) → pick.source ≡ Rule n → n < length rules
picked_below rules mins kind a b layer pick (inl p) n h = let e = sym h ∙ ap (λ (q : Pick). q.source) p.value in absurd cc
picked_below rules mins kind a b layer pick (inr (inl p)) n h =
    let e : Rule n ≡ Rule p.place = sym h ∙ ap (λ (q : Pick). q.source) p.value in
    let same : n ≡ p.place = cc in
    subst (λ m. m < length rules) (sym same) (stands_below rules p.place p.rule p.deciding.stands)
picked_below rules mins kind a b layer pick (inr (inr p)) n h = let e = sym h ∙ ap (λ (q : Pick). q.source) p.value in absurd cc

module _ (d : Deciders) where
  meeting_source : (kind : Kind) (pair : Pair) (row : PlainRow) → SaysMeeting d kind pair row → HasSource d.rules row
  meeting_source kind pair row s n h = let e = sym h ∙ s.source in absurd cc

  near_source : (kind : Kind) (pair : Pair) (row : PlainRow) → SaysNear d kind pair row → HasSource d.rules row
  near_source kind pair row s n h = picked_below d.rules d.mins kind _ _ _ s.pick s.picked n (sym s.source ∙ h)

  limit_source : (kind : Kind) (item : Item) (facts : Facts) (row : PlainRow) → SaysLimit d kind item facts row → HasSource d.rules row
  limit_source kind item facts row s n h = picked_below d.rules d.mins kind _ _ _ s.pick s.picked n (sym s.source ∙ h)

  forbidden_source : (kind : Kind) (item : Item) (facts : Facts) (row : PlainRow) → SaysForbidden d kind item facts row → HasSource d.rules row
  forbidden_source kind item facts row s n h = picked_below d.rules d.mins kind _ _ _ s.pick s.picked n (sym s.source ∙ h)

  two_source : (kind : Kind) (pair : Pair) (row : PlainRow) → Breaks d kind pair row → HasSource d.rules row
  two_source kind pair row s = by (family kind) s
    where
      by : (f : Family) → BreaksBy f d kind pair row → HasSource d.rules row
      by Meets s = meeting_source kind pair row s
      by Keeps s = near_source kind pair row s
      by Limits s = absurd s
      by Forbids s = absurd s

  one_source : (kind : Kind) (item : Item) (facts : Facts) (row : PlainRow) → BreaksAlone d kind item facts row → HasSource d.rules row
  one_source kind item facts row s = by (family kind) s
    where
      by : (f : Family) → BreaksAloneBy f d kind item facts row → HasSource d.rules row
      by Meets s = absurd s
      by Keeps s = absurd s
      by Limits s = limit_source kind item facts row s
      by Forbids s = forbidden_source kind item facts row s

has_source : (c : Checked) (row : PlainRow) → IsRow c row → HasSource c.rules row
has_source c row (inl two) = two_source (deciders c) row.kind two.pair row two.broken
has_source c row (inr one) = one_source (deciders c) row.kind one.item one.facts row one.broken

pub all_have_sources : (c : Checked) (rows : List PlainRow) → AreRows c rows → All (HasSource c.rules) rows
all_have_sources c rows are = All-weaker (IsRow c) (HasSource c.rules) (has_source c) rows are.only
