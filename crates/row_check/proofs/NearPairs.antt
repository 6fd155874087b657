-- What two items break they break near to each other.
use Rattle.std.proofs.Common.{◌≡◌, ◌≢◌, ◌⊎◌, ℤ, pos, ◌+ℤ◌, ◌≤ℤ◌, true, IsTrue, [], Some, All, inl, inr, refl, sym, ap, subst, arith}
use Rattle.std.proofs.lemmas.Int.{ints}
use Rattle.std.proofs.lemmas.List.Elements.{All-nil}
use Rattle.geo_seg.specs.declared.boxes.Bounds.{Bounds}
use Rattle.geo_seg.specs.Boxes.{are_near, AreClear}
use Rattle.one_item.specs.declared.parts.Part.{Part}
use Rattle.one_item.specs.ItemParts.{parts_of}
use Rattle.one_item.specs.Extents.{LiesIn, AreBoundsOf}
use Rattle.cond_lang.specs.declared.kind.Kind.{Kind}
use Rattle.cond_lang.specs.declared.kind.Family.{Family}
use Rattle.cond_lang.specs.declared.kind.Family.TheVariants.{Meets, Keeps, Limits, Forbids}
use Rattle.cond_lang.specs.CheckKinds.{family}
use Rattle.rule_pick.specs.Picks.{Pick}
use Rattle.rule_pick.specs.Reach.{asks_distance, is_between_two, IsReach}
use Rattle.item_copper.proofs.ItemBoxes.{all_lie}
use Rattle.item_copper.proofs.Far.{IsFar, far_in, far_back, each_lies, near_unless}
use Rattle.kind_subjects.specs.declared.layer.RowLayer.{RowLayer}
use Rattle.pair_check.specs.PlainRow.{PlainRow}
use Rattle.kind_subjects.specs.TriedLayers.{asked_layer}
use Rattle.kind_subjects.specs.MeasuredPair.{MeetAt, KeepAt}
use Rattle.pair_check.specs.Pairs.{Deciders, Pair, IsPickOf, SaysNear, BreaksBy, Breaks}
use Rattle.pair_check.specs.Rows.{Checked, deciders, IsRowOfTwo}
use Rattle.pair_check.proofs.NearPicks.{local_at_most, class_at_most, least_at_most, pick_once}
use Rattle.row_check.proofs.NearMeasuredPairs.{all_kept, none_meet}

-- ---- what a row of two says
-- what is picked on its layer is not kept there
record IsMissed (d : Deciders) (kind : Kind) (pair : Pair) (layer : RowLayer) : Type 0 where
  pick : Pick
  picked : IsPickOf d kind pair layer pick
  between : is_between_two kind ≡ true
  some : pos 0 ≤ℤ pick.least
  not_kept : ¬ (KeepAt kind layer pair.a pair.b pick.least)

module _ (d : Deciders) (pair : Pair) (row : PlainRow) where
  abbrev Found : Kind → Type 0
  Found kind = MeetAt kind row.layer pair.a pair.b ⊎ IsMissed d kind pair row.layer

  least_from : (u v w : ℤ) → pos 0 ≤ℤ u → u ≤ℤ v → w ≡ v → pos 0 ≤ℤ w
  least_from u v w h k e = omega (arith, ints)

  missed : (kind : Kind) → is_between_two kind ≡ true → (near : SaysNear d kind pair row) → ¬ (KeepAt kind row.layer pair.a pair.b near.where_first.holds.pick.least) → Found kind
  missed kind between near not_kept =
      let at = near.where_first.holds in
      let same = pick_once d.rules d.mins kind pair.facts_a (Some pair.facts_b) (asked_layer row.layer) at.pick near.pick at.picked near.picked in
      inr (record {
        pick = at.pick;
        picked = at.picked;
        between = between;
        some = least_from row.gap near.pick.least at.pick.least near.gap.from near.gap.to (ap (λ (p : Pick). p.least) same);
        not_kept = not_kept;
      })

  near : (kind : Kind) → is_between_two kind ≡ true → SaysNear d kind pair row → Found kind
  near kind between says = elim says.where_first.holds.near [
    | inl meet ↦ inl meet.1
    | inr not_kept ↦ missed kind between says not_kept
  ]

  said : (kind : Kind) → Breaks d kind pair row → Found kind
  said kind says = by (family kind) refl says
    where
      by : (f : Family) → family kind ≡ f → BreaksBy f d kind pair row → Found kind
      by Meets e says = inl says.where_first.holds
      by Keeps e says = near kind (ap asks_distance e) says
      by Limits e says = absurd says
      by Forbids e says = absurd says

  -- ---- items that are far from each other break nothing
  module _ (P Q : Part → Type 0) (all_a : All P (parts_of pair.a)) (all_b : All Q (parts_of pair.b)) (Fits : ℤ → Type 0)
      (far : (v : ℤ) → pos 0 ≤ℤ v → Fits v → (p q : Part) → P p → Q q → IsFar v p q) (back : (v : ℤ) → pos 0 ≤ℤ v → Fits v → (p q : Part) → P p → Q q → IsFar v q p)
      (none : Fits (pos 0)) where
    zero_from : pos 0 ≤ℤ pos 0
    zero_from = omega (arith, ints)

    pub breaks_nothing : (kind : Kind) → ((layer : RowLayer) (pick : Pick) → is_between_two kind ≡ true → IsPickOf d kind pair layer pick → Fits pick.least) → Breaks d kind pair row → ⊥
    breaks_nothing kind asked says = elim (said kind says) [
      | inl meet ↦ none_meet P Q pair.a pair.b all_a all_b (pos 0) (far (pos 0) zero_from none) (back (pos 0) zero_from none) kind row.layer meet
      | inr m ↦
          let fits = asked row.layer m.pick m.between m.picked in
          m.not_kept (all_kept P Q pair.a pair.b all_a all_b m.pick.least (far m.pick.least m.some fits) (back m.pick.least m.some fits) kind row.layer)
    ]

-- ---- boxes
pub broken_near : (c : Checked) (row : PlainRow) (n : ℤ) → IsReach c.board c.classes c.rules n → (two : IsRowOfTwo c row) (box_a box_b : Bounds)
    → AreBoundsOf (parts_of two.pair.a) (Some box_a) → AreBoundsOf (parts_of two.pair.b) (Some box_b) → IsTrue (are_near (n +ℤ n) box_a box_b)
broken_near c row n reach two box_a box_b own others = near_unless box_a box_b (n +ℤ n) clear_no
  where
    along : (u v w : ℤ) → u ≤ℤ v → v ≤ℤ w → u ≤ℤ w
    along u v w h k = omega (arith, ints)

    a_at_most : two.pair.facts_a.class_clearance ≤ℤ n
    a_at_most = class_at_most c.board c.classes c.rules n reach two.pair.a two.pair.facts_a two.first.facts_are

    some : pos 0 ≤ℤ n
    some = along (pos 0) two.pair.facts_a.class_clearance n two.pair.facts_a.class_clearance_in_range.from a_at_most

    asked : (kind : Kind) (layer : RowLayer) (pick : Pick) → is_between_two kind ≡ true → IsPickOf (deciders c) kind two.pair layer pick → pick.least ≤ℤ n
    asked kind layer pick between picked =
        least_at_most c.board c.classes c.rules n reach two.pair.facts_a two.pair.facts_b
        (local_at_most c.board c.classes c.rules n reach row.first two.pair.a two.pair.facts_a two.first.item_is two.first.facts_are)
        (local_at_most c.board c.classes c.rules n reach row.second two.pair.b two.pair.facts_b two.second.item_is two.second.facts_are)
        a_at_most (class_at_most c.board c.classes c.rules n reach two.pair.b two.pair.facts_b two.second.facts_are) some kind (asked_layer layer) pick between picked

    clear_no : AreClear box_a box_b (n +ℤ n +ℤ pos 1) → ⊥
    clear_no clear =
        breaks_nothing (deciders c) two.pair row (LiesIn box_a) (LiesIn box_b) (each_lies box_a (parts_of two.pair.a) (all_lie (parts_of two.pair.a) box_a own)) (each_lies box_b (parts_of two.pair.b) (all_lie (parts_of two.pair.b) box_b others))
        (λ v. v ≤ℤ n) (λ v from to p q h k. far_in v n from to box_a box_b clear p q h k) (λ v from to p q h k. far_back v n from to box_a box_b clear p q h k) some row.kind (asked row.kind) two.broken

-- ---- parts
-- an item without parts breaks nothing together with another
no_parts_a : (c : Checked) (row : PlainRow) (two : IsRowOfTwo c row) → parts_of two.pair.a ≢ []
no_parts_a c row two e =
    let Nothing : Part → Type 0 = λ part. ⊥ in
    let Anything : Part → Type 0 = λ part. Unit {0} in
    breaks_nothing (deciders c) two.pair row Nothing Anything (subst (All Nothing) (sym e) (All-nil Nothing)) (λ k part lt. tt) (λ v. Unit {0})
    (λ v from to p q h k. absurd h) (λ v from to p q h k. absurd h) tt row.kind (λ layer pick between picked. tt) two.broken

no_parts_b : (c : Checked) (row : PlainRow) (two : IsRowOfTwo c row) → parts_of two.pair.b ≢ []
no_parts_b c row two e =
    let Nothing : Part → Type 0 = λ part. ⊥ in
    let Anything : Part → Type 0 = λ part. Unit {0} in
    breaks_nothing (deciders c) two.pair row Anything Nothing (λ k part lt. tt) (subst (All Nothing) (sym e) (All-nil Nothing)) (λ v. Unit {0})
    (λ v from to p q h k. absurd k) (λ v from to p q h k. absurd k) tt row.kind (λ layer pick between picked. tt) two.broken

pub broken_has_parts : (c : Checked) (row : PlainRow) → (two : IsRowOfTwo c row) → (parts_of two.pair.a ≢ []) × (parts_of two.pair.b ≢ [])
broken_has_parts c row two = (no_parts_a c row two, no_parts_b c row two)
