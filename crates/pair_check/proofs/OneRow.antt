-- Two items break a kind in one way at most, and so does a single item.
use Rattle.std.proofs.Common.{◌≡◌, ◌⊎◌, inl, inr, refl, sym, ap, subst, ◌∙◌, ℤ, pos, ◌*ℤ◌, ◌≤ℤ◌, ◌<ℤ◌, Bool, true, false, Option, Some, None, arith}
use Rattle.std.proofs.lemmas.Int.{ints}
use Rattle.one_item.specs.declared.item.Item.{Item}
use Rattle.geo_seg.specs.Distances.{IsGap}
use Rattle.cond_lang.specs.declared.kind.Kind.{Kind}
use Rattle.cond_lang.specs.declared.kind.Family.{Family}
use Rattle.cond_lang.specs.declared.kind.Family.TheVariants.{Meets, Keeps, Limits, Forbids}
use Rattle.cond_lang.specs.CheckKinds.{family}
use Rattle.rule_pick.specs.declared.facts.Facts.{Facts}
use Rattle.rule_pick.specs.Picks.{Pick}
use Rattle.rule_pick.proofs.OnePick.{one_pick}
use Rattle.kind_subjects.specs.declared.subject.Measure.TheVariants.{Ring}
use Rattle.kind_subjects.specs.declared.subject.Subject.{Subject}
use Rattle.kind_subjects.specs.declared.subject.Subject.TheVariants.{Length}
use Rattle.kind_subjects.specs.declared.layer.RowLayer.{RowLayer}
use Rattle.kind_subjects.specs.Subjects.{subject_of}
use Rattle.pair_check.specs.PlainRow.{PlainRow}
use Rattle.kind_subjects.specs.TriedLayers.{IsFirst, asked_layer}
use Rattle.kind_subjects.specs.MeasuredPair.{MeetAt, KeepAt}
use Rattle.pair_check.specs.Pairs.{Deciders, Pair, IsPickOf, IsNearAt, SaysMeeting, SaysNear, BreaksBy, Breaks}
use Rattle.kind_subjects.specs.LimitedLengths.{length_of, times_in, times, IsQuotient}
use Rattle.pair_check.specs.Singles.{IsPickAlone, IsOffAt, IsForbiddenAt, BreaksLimit, SaysLimit, SaysForbidden, BreaksAloneBy, BreaksAlone}
use Rattle.kind_subjects.proofs.TriedLayers.{first_once}

-- ---- numbers

sign_cases : (n : ℤ) → (n ≤ℤ pos 0) ⊎ (pos 1 ≤ℤ n)
sign_cases n = grind (arith, ints)

gap_below : (K : ℤ → Type 0) (v g h : ℤ) → IsGap K v g → IsGap K v h → g ≤ℤ h
gap_below K v g h p q = by p.kept (sign_cases g)
  where
    from : pos 0 ≤ℤ h
    from = q.from

    by : (g ≡ pos 0) ⊎ K g → (g ≤ℤ pos 0) ⊎ (pos 1 ≤ℤ g) → g ≤ℤ h
    by _ (inl l) = omega (arith, ints, from)
    by (inl e) (inr l) = omega (arith, ints, from)
    by (inr k) (inr l) = q.greatest g l p.to k

between : (g h : ℤ) → g ≤ℤ h → h ≤ℤ g → g ≡ h
between g h k l = omega (arith, ints)

-- there is one gap
pub one_gap : (K : ℤ → Type 0) (v g h : ℤ) → IsGap K v g → IsGap K v h → g ≡ h
one_gap K v g h p q = between g h (gap_below K v g h p q) (gap_below K v h g q p)

quotient_by_one : (n g h : ℤ) → IsQuotient n (pos 1) g → IsQuotient n (pos 1) h → g ≡ h
quotient_by_one n g h p q =
    let a = p.from in
    let b = p.to in
    let c = q.from in
    let d = q.to in omega (arith, ints)

quotient_by_two : (n g h : ℤ) → IsQuotient n (pos 2) g → IsQuotient n (pos 2) h → g ≡ h
quotient_by_two n g h p q =
    let a = p.from in
    let b = p.to in
    let c = q.from in
    let d = q.to in omega (arith, ints)

one_quotient : (kind : Kind) (n g h : ℤ) → IsQuotient n (times kind) g → IsQuotient n (times kind) h → g ≡ h
one_quotient kind n g h p q = by (subject_of kind) p q
  where
    by : (subject : Subject) → IsQuotient n (times_in subject) g → IsQuotient n (times_in subject) h → g ≡ h
    by (Length Ring) p q = quotient_by_two n g h p q
    by _ p q = quotient_by_one n g h p q

-- ---- rows

same_row : (r s : PlainRow) → r.first ≡ s.first → r.second ≡ s.second → r.kind ≡ s.kind → r.layer ≡ s.layer → r.value ≡ s.value → r.gap ≡ s.gap → r.over ≡ s.over → r.source ≡ s.source → r.severity ≡ s.severity → r ≡ s
same_row r s first second kind layer value gap over source severity = λ i. record {
  first = first i;
  second = second i;
  kind = kind i;
  layer = layer i;
  value = value i;
  gap = gap i;
  over = over i;
  source = source i;
  severity = severity i;
}

some_once : {A : Type 0} (found : Option A) (x y : A) → found ≡ Some x → found ≡ Some y → x ≡ y
some_once found x y e f = cc

-- the two rows have the same ids and are of one kind
pub record HaveSameKeys (r s : PlainRow) : Type 0 where
  pub first : r.first ≡ s.first
  pub second : r.second ≡ s.second
  pub kind : r.kind ≡ s.kind

-- ---- two items

module _ (d : Deciders) (pair : Pair) (kind : Kind) (r s : PlainRow) (alike : HaveSameKeys r s) where
  meeting_once : SaysMeeting d kind pair r → SaysMeeting d kind pair s → r ≡ s
  meeting_once p q =
      same_row r s alike.first alike.second alike.kind (first_once d.copper (λ layer. MeetAt kind layer pair.a pair.b) r.layer s.layer p.where_first q.where_first) (p.value ∙ sym q.value)
      (p.gap ∙ sym q.gap) (p.over ∙ sym q.over) (p.source ∙ sym q.source) (p.severity ∙ sym q.severity)

  near_once : SaysNear d kind pair r → SaysNear d kind pair s → r ≡ s
  near_once p q =
      let layer : r.layer ≡ s.layer = first_once d.copper (IsNearAt d kind pair) r.layer s.layer p.where_first q.where_first in
      let picked : IsPickOf d kind pair s.layer p.pick = subst (λ (l : RowLayer). IsPickOf d kind pair l p.pick) layer p.picked in
      let pick : p.pick ≡ q.pick = one_pick d.rules d.mins kind pair.facts_a (Some pair.facts_b) (asked_layer s.layer) p.pick q.pick picked q.picked in
      let at_pick : IsGap (KeepAt kind r.layer pair.a pair.b) q.pick.least r.gap = subst (λ (k : Pick). IsGap (KeepAt kind r.layer pair.a pair.b) k.least r.gap) pick p.gap in
      let gap : IsGap (KeepAt kind s.layer pair.a pair.b) q.pick.least r.gap = subst (λ (l : RowLayer). IsGap (KeepAt kind l pair.a pair.b) q.pick.least r.gap) layer at_pick in
      same_row r s alike.first alike.second alike.kind layer (p.value ∙ ap (λ (k : Pick). k.least) pick ∙ sym q.value)
      (one_gap (KeepAt kind s.layer pair.a pair.b) q.pick.least r.gap s.gap gap q.gap) (p.over ∙ sym q.over) (p.source ∙ ap (λ (k : Pick). k.source) pick ∙ sym q.source)
      (p.severity ∙ ap (λ (k : Pick). k.severity) pick ∙ sym q.severity)

pub broken_once : (d : Deciders) (pair : Pair) (kind : Kind) (r s : PlainRow) → HaveSameKeys r s → Breaks d kind pair r → Breaks d kind pair s → r ≡ s
broken_once d pair kind r s alike p q = by (family kind) p q
  where
    by : (f : Family) → BreaksBy f d kind pair r → BreaksBy f d kind pair s → r ≡ s
    by Meets p q = meeting_once d pair kind r s alike p q
    by Keeps p q = near_once d pair kind r s alike p q
    by Limits p q = absurd p
    by Forbids p q = absurd p

-- ---- a single item

-- one limit is broken
not_both : (kind : Kind) (n : ℤ) (pick : Pick) (k l : ℤ) → BreaksLimit kind n pick false k → BreaksLimit kind n pick true l → ⊥
not_both kind n pick k l p q = apart (times kind *ℤ k) (times kind *ℤ pick.least) n (ap (λ (z : ℤ). times kind *ℤ z) p.0) p.1 q.0
  where
    apart : (x y z : ℤ) → x ≡ y → z <ℤ x → y ≤ℤ z → ⊥
    apart x y z e h i = omega (arith, ints)

one_over : (kind : Kind) (n : ℤ) (pick : Pick) (over under : Bool) (k l : ℤ) → BreaksLimit kind n pick over k → BreaksLimit kind n pick under l → over ≡ under
one_over kind n pick false false k l p q = refl
one_over kind n pick false true k l p q = absurd (not_both kind n pick k l p q)
one_over kind n pick true false k l p q = absurd (not_both kind n pick l k q p)
one_over kind n pick true true k l p q = refl

one_limit : (kind : Kind) (n : ℤ) (pick : Pick) (over under : Bool) (k l : ℤ) → BreaksLimit kind n pick over k → BreaksLimit kind n pick under l → k ≡ l
one_limit kind n pick false false k l p q = p.0 ∙ sym q.0
one_limit kind n pick false true k l p q = absurd (not_both kind n pick k l p q)
one_limit kind n pick true false k l p q = absurd (not_both kind n pick l k q p)
one_limit kind n pick true true k l p q = some_once pick.most k l p.1 q.1

module _ (d : Deciders) (item : Item) (facts : Facts) (kind : Kind) (r s : PlainRow) (alike : HaveSameKeys r s) where
  limit_once : SaysLimit d kind item facts r → SaysLimit d kind item facts s → r ≡ s
  limit_once p q =
      let n : p.length ≡ q.length = some_once (length_of kind item) p.length q.length p.measured q.measured in
      let of_length = subst (λ (z : ℤ). IsFirst d.copper (IsOffAt d kind item facts z) r.layer) n p.where_first in
      let layer : r.layer ≡ s.layer = first_once d.copper (IsOffAt d kind item facts q.length) r.layer s.layer of_length q.where_first in
      let picked : IsPickAlone d kind facts s.layer p.pick = subst (λ (l : RowLayer). IsPickAlone d kind facts l p.pick) layer p.picked in
      let pick : p.pick ≡ q.pick = one_pick d.rules d.mins kind facts None (asked_layer s.layer) p.pick q.pick picked q.picked in
      let at_length : BreaksLimit kind q.length p.pick r.over r.value = subst (λ (z : ℤ). BreaksLimit kind z p.pick r.over r.value) n p.broken in
      let broken : BreaksLimit kind q.length q.pick r.over r.value = subst (λ (k : Pick). BreaksLimit kind q.length k r.over r.value) pick at_length in
      let gap : IsQuotient q.length (times kind) r.gap = subst (λ (z : ℤ). IsQuotient z (times kind) r.gap) n p.gap in
      same_row r s alike.first alike.second alike.kind layer (one_limit kind q.length q.pick r.over s.over r.value s.value broken q.broken) (one_quotient kind q.length r.gap s.gap gap q.gap)
      (one_over kind q.length q.pick r.over s.over r.value s.value broken q.broken) (p.source ∙ ap (λ (k : Pick). k.source) pick ∙ sym q.source)
      (p.severity ∙ ap (λ (k : Pick). k.severity) pick ∙ sym q.severity)

  forbidden_once : SaysForbidden d kind item facts r → SaysForbidden d kind item facts s → r ≡ s
  forbidden_once p q =
      let layer : r.layer ≡ s.layer = first_once d.copper (IsForbiddenAt d kind item facts) r.layer s.layer p.where_first q.where_first in
      let picked : IsPickAlone d kind facts s.layer p.pick = subst (λ (l : RowLayer). IsPickAlone d kind facts l p.pick) layer p.picked in
      let pick : p.pick ≡ q.pick = one_pick d.rules d.mins kind facts None (asked_layer s.layer) p.pick q.pick picked q.picked in
      same_row r s alike.first alike.second alike.kind layer (p.value ∙ sym q.value) (p.gap ∙ sym q.gap) (p.over ∙ sym q.over) (p.source ∙ ap (λ (k : Pick). k.source) pick ∙ sym q.source)
      (p.severity ∙ ap (λ (k : Pick). k.severity) pick ∙ sym q.severity)

pub broken_alone_once : (d : Deciders) (item : Item) (facts : Facts) (kind : Kind) (r s : PlainRow) → HaveSameKeys r s → BreaksAlone d kind item facts r → BreaksAlone d kind item facts s → r ≡ s
broken_alone_once d item facts kind r s alike p q = by (family kind) p q
  where
    by : (f : Family) → BreaksAloneBy f d kind item facts r → BreaksAloneBy f d kind item facts s → r ≡ s
    by Meets p q = absurd p
    by Keeps p q = absurd p
    by Limits p q = limit_once d item facts kind r s alike p q
    by Forbids p q = forbidden_once d item facts kind r s alike p q
