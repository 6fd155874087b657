-- The rows of a single item, kind by kind.
use Rattle.std.proofs.Common.{◌≡◌, ◌⊎◌, inl, inr, refl, sym, subst, ◌∙◌, ℕ, ◌+◌, ◌<◌, ◌≤◌, List, [], ◌∷◌, ◌++◌, arith}
use Rattle.copper_layers.specs.declared.set.LayerSet.{LayerSet}
use Rattle.one_item.specs.declared.item.Item.{Item}
use Rattle.cond_lang.specs.declared.kind.Kind.{Kind}
use Rattle.cond_lang.specs.declared.kind.Kind.TheVariants.{TrackWidth, ViaDiameter, HoleSize, AnnularWidth, Disallow, Assertion}
use Rattle.cond_lang.specs.declared.kind.Family.{Family}
use Rattle.cond_lang.specs.declared.kind.Family.TheVariants.{Limits, Forbids}
use Rattle.cond_lang.specs.CheckKinds.{family, kind_number}
use Rattle.rule_pick.specs.declared.facts.Facts.{Facts}
use Rattle.kind_subjects.specs.declared.subject.Subject.{Subject}
use Rattle.kind_subjects.specs.declared.subject.Subject.TheVariants.{Whole}
use Rattle.kind_subjects.specs.declared.layer.RowLayer.{RowLayer}
use Rattle.kind_subjects.specs.Subjects.{subject_of}
use Rattle.kind_subjects.specs.KindLayers.{IsSeenOn, IsLayerOf}
use Rattle.pair_check.specs.PlainRow.{PlainRow, AreOrdered, IdsAreInOrder}
use Rattle.kind_subjects.specs.TriedLayers.{IsTried}
use Rattle.kind_subjects.specs.SingleLayers.{IsAskedAt}
use Rattle.pair_check.specs.Singles.{SaysLimit, SaysForbidden, BreaksAloneBy, BreaksAlone}
use Rattle.pair_check.specs.Pairs.{Deciders}
use Rattle.pair_check.specs.Rows.{Checked, deciders, Stands, IsRowOfOne, AreRowsWhere, AreRowsOfItem}
use Rattle.pair_check.specs.Stages.{IsOfSingle, IsOfKind, IsBelow, AreRowsBelow}
use Rattle.kind_subjects.proofs.SingleLayers.{asked_at}
use Rattle.pair_check.proofs.KindRows.{with_row, without_row, no_rows, passes}
use Rattle.pair_check.proofs.OneRow.{HaveSameKeys, broken_alone_once}
use Rattle.pair_check.proofs.RowsOfPair.{item_once, facts_once}

-- ---- kinds of one

pub limit_in_order : (kind : Kind) (id : ℕ) → family kind ≡ Limits → IdsAreInOrder kind id id
limit_in_order kind id e = subst (λ (f : Family). AreOrdered f id id) (sym e) refl

pub ban_in_order : (kind : Kind) (id : ℕ) → family kind ≡ Forbids → IdsAreInOrder kind id id
ban_in_order kind id e = subst (λ (f : Family). AreOrdered f id id) (sym e) refl

whole_of : (kind : Kind) → family kind ≡ Forbids → subject_of kind ≡ Whole
whole_of Disallow e = refl
whole_of Assertion e = refl
whole_of _ e = absurd (cc)

pub ban_layer : (copper : LayerSet) (kind : Kind) (item : Item) (layer : RowLayer) → family kind ≡ Forbids → IsTried copper layer → IsAskedAt item item.what layer → IsLayerOf kind layer
ban_layer copper kind item layer e is at = subst (λ (s : Subject). IsSeenOn s layer) (sym (whole_of kind e)) (asked_at copper item item.what layer is at)

module _ (d : Deciders) (item : Item) (facts : Facts) where
  pub breaks_limit : (kind : Kind) (row : PlainRow) → family kind ≡ Limits → SaysLimit d kind item facts row → BreaksAlone d kind item facts row
  breaks_limit kind row e says = subst (λ (f : Family). BreaksAloneBy f d kind item facts row) (sym e) says

  pub says_limit : (kind : Kind) (row : PlainRow) → family kind ≡ Limits → BreaksAlone d kind item facts row → SaysLimit d kind item facts row
  says_limit kind row e broken = subst (λ (f : Family). BreaksAloneBy f d kind item facts row) e broken

  pub breaks_ban : (kind : Kind) (row : PlainRow) → family kind ≡ Forbids → SaysForbidden d kind item facts row → BreaksAlone d kind item facts row
  breaks_ban kind row e says = subst (λ (f : Family). BreaksAloneBy f d kind item facts row) (sym e) says

  pub says_ban : (kind : Kind) (row : PlainRow) → family kind ≡ Forbids → BreaksAlone d kind item facts row → SaysForbidden d kind item facts row
  says_ban kind row e broken = subst (λ (f : Family). BreaksAloneBy f d kind item facts row) e broken

-- ---- rows of one item

module _ (d : Deciders) (item : Item) (facts : Facts) (id : ℕ) where
  pub broken_of : (kind : Kind) (row : PlainRow) → IsOfKind (IsOfSingle d item facts id) kind row → BreaksAlone d kind item facts row
  broken_of kind row h = subst (λ (l : Kind). BreaksAlone d l item facts row) h.kind_is h.is.broken

  single_once : (kind : Kind) (r s : PlainRow) → IsOfKind (IsOfSingle d item facts id) kind r → IsOfKind (IsOfSingle d item facts id) kind s → r ≡ s
  single_once kind r s h k =
      let alike : HaveSameKeys r s = record { first = h.is.first_is ∙ sym k.is.first_is; second = h.is.second_is ∙ sym k.is.second_is; kind = h.kind_is ∙ sym k.kind_is } in
      broken_alone_once d item facts kind r s alike (broken_of kind r h) (broken_of kind s k)

  pub single_with : (kind : Kind) (rows : List PlainRow) (row : PlainRow) → IsOfKind (IsOfSingle d item facts id) kind row → AreRowsBelow (IsOfSingle d item facts id) (kind_number kind) rows
      → AreRowsBelow (IsOfSingle d item facts id) (kind_number kind + 1) (rows ++ row ∷ [])
  single_with kind rows row is r = with_row (IsOfSingle d item facts id) id id (λ s h. (h.first_is, h.second_is)) kind rows row is (λ s h. single_once kind row s is h) r

  pub single_without : (kind : Kind) (rows : List PlainRow) → ((row : PlainRow) → ¬ (IsOfKind (IsOfSingle d item facts id) kind row)) → AreRowsBelow (IsOfSingle d item facts id) (kind_number kind) rows
      → AreRowsBelow (IsOfSingle d item facts id) (kind_number kind + 1) rows
  single_without kind rows none r = without_row (IsOfSingle d item facts id) id id (λ s h. (h.first_is, h.second_is)) kind rows none r

  -- ---- the whole

  -- the numbers of the kinds that a single item breaks
  number_of : (kind : Kind) (row : PlainRow) → BreaksAlone d kind item facts row → ((8 ≤ kind_number kind) × (kind_number kind < 13)) ⊎ (kind_number kind ≡ 15)
  number_of TrackWidth row h = inl (omega arith, omega arith)
  number_of ViaDiameter row h = inl (omega arith, omega arith)
  number_of HoleSize row h = inl (omega arith, omega arith)
  number_of AnnularWidth row h = inl (omega arith, omega arith)
  number_of Disallow row h = inl (omega arith, omega arith)
  number_of Assertion row h = inr refl
  number_of _ row h = absurd h

  not_first : (n : ℕ) → ((8 ≤ n) × (n < 13)) ⊎ (n ≡ 15) → n < 8 → ⊥
  not_first n (inl h) lt = let from = h.0 in omega arith
  not_first n (inr e) lt = omega arith

  before_pairs : (n : ℕ) → ((8 ≤ n) × (n < 13)) ⊎ (n ≡ 15) → n < 15 → n < 13
  before_pairs n (inl h) lt = h.1
  before_pairs n (inr e) lt = absurd (omega arith)

  before_last : (n : ℕ) → ((8 ≤ n) × (n < 13)) ⊎ (n ≡ 15) → n < 16
  before_last n (inl h) = let to = h.1 in omega arith
  before_last n (inr e) = omega arith

  pub no_single : AreRowsBelow (IsOfSingle d item facts id) 8 []
  no_single = no_rows (IsOfSingle d item facts id) 8 (λ row h. not_first (kind_number row.kind) (number_of row.kind row h.is.broken) h.below)

  pub past_pairs : (rows : List PlainRow) → AreRowsBelow (IsOfSingle d item facts id) 13 rows → AreRowsBelow (IsOfSingle d item facts id) 15 rows
  past_pairs rows r =
      passes (IsBelow (IsOfSingle d item facts id) 13) (IsBelow (IsOfSingle d item facts id) 15) rows (λ row h. let lt = h.below in record { is = h.is; below = omega arith })
      (λ row h. record { is = h.is; below = before_pairs (kind_number row.kind) (number_of row.kind row h.is.broken) h.below }) r

  pub all_of_single : (rows : List PlainRow) → AreRowsBelow (IsOfSingle d item facts id) 16 rows → AreRowsWhere (IsOfSingle d item facts id) rows
  all_of_single rows r =
      passes (IsBelow (IsOfSingle d item facts id) 16) (IsOfSingle d item facts id) rows (λ row h. h.is) (λ row h. record { is = h; below = before_last (kind_number row.kind) (number_of row.kind row h.broken) }) r

-- ---- rows of the board

module _ (c : Checked) (item : Item) (facts : Facts) (id : ℕ) (stands : Stands c id item facts) where
  into : (row : PlainRow) → IsOfSingle (deciders c) item facts id row → IsRowOfOne c row × (row.first ≡ id)
  into row h = (
    record {
      item = item;
      facts = facts;
      first = subst (λ (i : ℕ). Stands c i item facts) (sym h.first_is) stands;
      same = h.second_is ∙ sym h.first_is;
      broken = h.broken;
    },
    h.first_is,
  )

  back : (row : PlainRow) → IsRowOfOne c row × (row.first ≡ id) → IsOfSingle (deciders c) item facts id row
  back row h =
      let one = h.0 in
      let its_own : Stands c id one.item one.facts = subst (λ (i : ℕ). Stands c i one.item one.facts) h.1 one.first in
      let same_item : one.item ≡ item = item_once c id one.item item one.facts facts its_own stands in
      let same_facts : one.facts ≡ facts = facts_once c id one.item item one.facts facts its_own stands in
      let with_facts = subst (λ (f : Facts). BreaksAlone (deciders c) row.kind one.item f row) same_facts one.broken in
      record { first_is = h.1; second_is = one.same ∙ h.1; broken = subst (λ (i : Item). BreaksAlone (deciders c) row.kind i facts row) same_item with_facts }

  pub rows_of_item : (rows : List PlainRow) → AreRowsWhere (IsOfSingle (deciders c) item facts id) rows → AreRowsOfItem c id rows
  rows_of_item rows r = passes (IsOfSingle (deciders c) item facts id) (λ (row : PlainRow). IsRowOfOne c row × (row.first ≡ id)) rows into back r
