-- The rows of a pair, kind by kind.
use Rattle.std.proofs.Common.{◌≡◌, Bool, ◌⊎◌, inl, inr, refl, sym, subst, ◌∙◌, ℕ, ◌+◌, ◌<◌, ◌≤◌, pos, false, IsTrue, Option, Some, List, [], ◌∷◌, ◌++◌, arith}
use Rattle.one_item.specs.declared.item.Item.{Item}
use Rattle.board_items.specs.Boards.{item_at}
use Rattle.cond_lang.specs.declared.kind.Kind.{Kind}
use Rattle.cond_lang.specs.declared.kind.Kind.TheVariants.{Short, Clearance, HoleClearance, HoleToHole, EdgeClearance, CourtyardClearance, Keepout, PhysicalClearance, PhysicalHoleClearance}
use Rattle.cond_lang.specs.declared.rule.Severity.TheVariants.{Error}
use Rattle.cond_lang.specs.declared.kind.Family.{Family}
use Rattle.cond_lang.specs.declared.kind.Family.TheVariants.{Meets, Keeps}
use Rattle.cond_lang.specs.CheckKinds.{family, kind_number}
use Rattle.rule_pick.specs.declared.facts.Facts.{Facts}
use Rattle.rule_pick.specs.declared.kinds.Source.TheVariants.{Default}
use Rattle.rule_pick.specs.FactsOf.{AreFactsOf}
use Rattle.rule_pick.proofs.OneFacts.{one_facts}
use Rattle.kind_subjects.specs.declared.layer.RowLayer.{RowLayer}
use Rattle.pair_check.specs.PlainRow.{PlainRow, AreOrdered, IdsAreInOrder}
use Rattle.kind_subjects.specs.TriedLayers.{IsFirst, HoldsNowhere}
use Rattle.kind_subjects.specs.Compared.{is_compared}
use Rattle.kind_subjects.specs.MeasuredPair.{MeetAt}
use Rattle.pair_check.specs.Pairs.{Deciders, Pair, PairMeets, SaysMeeting, SaysNear, BreaksBy, Breaks}
use Rattle.pair_check.specs.Asked.{AsksNothing}
use Rattle.pair_check.specs.Rows.{Checked, deciders, Stands, IsRowOfTwo, AreRowsWhere, AreRowsOfPair}
use Rattle.pair_check.specs.Stages.{IsNearOrMeets, IsOfPair, IsOfKind, IsBelow, AreRowsBelow}
use Rattle.kind_subjects.proofs.TriedLayers.{none_of_no_first}
use Rattle.pair_check.proofs.KindRows.{with_row, without_row, passes}
use Rattle.pair_check.proofs.OneRow.{HaveSameKeys, broken_once}

-- ---- kinds of two

pub meeting_in_order : (kind : Kind) (first second : ℕ) → family kind ≡ Meets → first < second → IdsAreInOrder kind first second
meeting_in_order kind first second e lt = subst (λ (f : Family). AreOrdered f first second) (sym e) lt

pub near_in_order : (kind : Kind) (first second : ℕ) → family kind ≡ Keeps → first < second → IdsAreInOrder kind first second
near_in_order kind first second e lt = subst (λ (f : Family). AreOrdered f first second) (sym e) lt

module _ (d : Deciders) (pair : Pair) where
  pub breaks_meeting : (kind : Kind) (row : PlainRow) → family kind ≡ Meets → SaysMeeting d kind pair row → Breaks d kind pair row
  breaks_meeting kind row e says = subst (λ (f : Family). BreaksBy f d kind pair row) (sym e) says

  pub breaks_near : (kind : Kind) (row : PlainRow) → family kind ≡ Keeps → SaysNear d kind pair row → Breaks d kind pair row
  breaks_near kind row e says = subst (λ (f : Family). BreaksBy f d kind pair row) (sym e) says

  pub says_meeting : (kind : Kind) (row : PlainRow) → family kind ≡ Meets → Breaks d kind pair row → SaysMeeting d kind pair row
  says_meeting kind row e broken = subst (λ (f : Family). BreaksBy f d kind pair row) e broken

  pub says_near : (kind : Kind) (row : PlainRow) → family kind ≡ Keeps → Breaks d kind pair row → SaysNear d kind pair row
  says_near kind row e broken = subst (λ (f : Family). BreaksBy f d kind pair row) e broken

-- ---- rows of one pair

unlike : (b : Bool) → b ≡ false → IsTrue b → ⊥
unlike b e t = cc

abbrev short_row : ℕ → ℕ → RowLayer → PlainRow
short_row first second layer = record { first = first; second = second; kind = Short; layer = layer; value = pos 0; gap = pos 0; over = false; source = Default; severity = Error }

module _ (d : Deciders) (pair : Pair) (first second : ℕ) where
  pub pair_once : (kind : Kind) (r s : PlainRow) → IsOfKind (IsOfPair d pair first second) kind r → IsOfKind (IsOfPair d pair first second) kind s → r ≡ s
  pair_once kind r s h k =
      let alike : HaveSameKeys r s = record { first = h.is.first_is ∙ sym k.is.first_is; second = h.is.second_is ∙ sym k.is.second_is; kind = h.kind_is ∙ sym k.kind_is } in
      broken_once d pair kind r s alike (subst (λ (l : Kind). Breaks d l pair r) h.kind_is h.is.broken) (subst (λ (l : Kind). Breaks d l pair s) k.kind_is k.is.broken)

  -- the pair breaks the kind
  pub pair_with : (kind : Kind) (rows : List PlainRow) (row : PlainRow) → IsOfKind (IsOfPair d pair first second) kind row → AreRowsBelow (IsOfPair d pair first second) (kind_number kind) rows
      → AreRowsBelow (IsOfPair d pair first second) (kind_number kind + 1) (rows ++ row ∷ [])
  pair_with kind rows row is r = with_row (IsOfPair d pair first second) first second (λ s h. (h.first_is, h.second_is)) kind rows row is (λ s h. pair_once kind row s is h) r

  -- it does not
  pub pair_without : (kind : Kind) (rows : List PlainRow) → ((row : PlainRow) → ¬ (IsOfKind (IsOfPair d pair first second) kind row)) → AreRowsBelow (IsOfPair d pair first second) (kind_number kind) rows
      → AreRowsBelow (IsOfPair d pair first second) (kind_number kind + 1) rows
  pair_without kind rows none r = without_row (IsOfPair d pair first second) first second (λ s h. (h.first_is, h.second_is)) kind rows none r

  -- nothing is asked of the kind
  pub pair_unasked : (kind : Kind) (rows : List PlainRow) → family kind ≡ Keeps → AsksNothing d kind → AreRowsBelow (IsOfPair d pair first second) (kind_number kind) rows
      → AreRowsBelow (IsOfPair d pair first second) (kind_number kind + 1) rows
  pair_unasked kind rows m nothing r =
      pair_without kind rows
      (λ row h.
      let says = says_near d pair kind row m (subst (λ (l : Kind). Breaks d l pair row) h.kind_is h.is.broken) in
      nothing.none pair row.layer says.where_first.holds) r

  -- the pair is not compared for the kind, which asks that two do not meet
  pub pair_unmet : (kind : Kind) (rows : List PlainRow) → family kind ≡ Meets → is_compared kind pair.a pair.b ≡ false → AreRowsBelow (IsOfPair d pair first second) (kind_number kind) rows
      → AreRowsBelow (IsOfPair d pair first second) (kind_number kind + 1) rows
  pair_unmet kind rows m other r =
      pair_without kind rows
      (λ row h.
      let says = says_meeting d pair kind row m (subst (λ (l : Kind). Breaks d l pair row) h.kind_is h.is.broken) in
      unlike (is_compared kind pair.a pair.b) other says.compared) r

  -- or for the kind, which asks for a distance
  pub pair_uncompared : (kind : Kind) (rows : List PlainRow) → family kind ≡ Keeps → is_compared kind pair.a pair.b ≡ false → AreRowsBelow (IsOfPair d pair first second) (kind_number kind) rows
      → AreRowsBelow (IsOfPair d pair first second) (kind_number kind + 1) rows
  pair_uncompared kind rows m other r =
      pair_without kind rows
      (λ row h.
      let says = says_near d pair kind row m (subst (λ (l : Kind). Breaks d l pair row) h.kind_is h.is.broken) in
      unlike (is_compared kind pair.a pair.b) other says.compared) r

  -- ---- a short takes the place of others

  short_says : (row : PlainRow) → IsOfKind (IsOfPair d pair first second) Short row → SaysMeeting d Short pair row
  short_says row h = subst (λ (l : Kind). Breaks d l pair row) h.kind_is h.is.broken

  do_meet : (row : PlainRow) → IsOfKind (IsOfPair d pair first second) Short row → PairMeets d Short pair
  do_meet row h =
      let says = short_says row h in record { compared = says.compared; somewhere = record { layer = row.layer; tried = says.where_first.tried; holds = says.where_first.holds } }

  no_clearance : PairMeets d Short pair → (row : PlainRow) → ¬ (IsOfKind (IsOfPair d pair first second) Clearance row)
  no_clearance meet row h = let says : SaysNear d Clearance pair row = subst (λ (l : Kind). Breaks d l pair row) h.kind_is h.is.broken in says.place meet

  no_hole_clearance : PairMeets d Short pair → (row : PlainRow) → ¬ (IsOfKind (IsOfPair d pair first second) HoleClearance row)
  no_hole_clearance meet row h = let says : SaysNear d HoleClearance pair row = subst (λ (l : Kind). Breaks d l pair row) h.kind_is h.is.broken in says.place meet

  pub pair_short : (rows : List PlainRow) (row : PlainRow) → IsOfKind (IsOfPair d pair first second) Short row → AreRowsBelow (IsOfPair d pair first second) 1 rows
      → AreRowsBelow (IsOfPair d pair first second) 4 (rows ++ row ∷ [])
  pair_short rows row is r =
      let meet = do_meet row is in
      pair_without HoleClearance (rows ++ row ∷ []) (no_hole_clearance meet) (pair_without Clearance (rows ++ row ∷ []) (no_clearance meet) (pair_with Short rows row is r))

  -- where the copper of the two neither meets nor is too near, a short has no row, and a clearance has none
  pub pair_kept : (rows : List PlainRow) → HoldsNowhere d.copper (IsNearOrMeets d pair) → AreRowsBelow (IsOfPair d pair first second) 1 rows → AreRowsBelow (IsOfPair d pair first second) 3 rows
  pair_kept rows nowhere r = pair_without Clearance rows no_clearance_row (pair_without Short rows no_short_row r)
    where
      no_short_row : (row : PlainRow) → ¬ (IsOfKind (IsOfPair d pair first second) Short row)
      no_short_row row h = let says = short_says row h in nowhere.none row.layer says.where_first.tried (inr says.where_first.holds)

      no_clearance_row : (row : PlainRow) → ¬ (IsOfKind (IsOfPair d pair first second) Clearance row)
      no_clearance_row row h =
          let says = says_near d pair Clearance row refl (subst (λ (l : Kind). Breaks d l pair row) h.kind_is h.is.broken) in
          nowhere.none row.layer says.where_first.tried (inl says.where_first.holds)

  pub kept_apart : HoldsNowhere d.copper (IsNearOrMeets d pair) → ¬ (PairMeets d Short pair)
  kept_apart nowhere meet = nowhere.none meet.somewhere.layer meet.somewhere.tried (inr meet.somewhere.holds)

  -- without its row the pair does not meet
  pub not_meeting : ((row : PlainRow) → ¬ (IsOfKind (IsOfPair d pair first second) Short row)) → ¬ (PairMeets d Short pair)
  not_meeting none meet =
      (none_of_no_first d.copper (λ (layer : RowLayer). MeetAt Short layer pair.a pair.b) (λ layer where_first. none (short_row first second layer) (is layer where_first))).none meet.somewhere.layer meet.somewhere.tried
      meet.somewhere.holds
    where
      is : (layer : RowLayer) → IsFirst d.copper (λ (l : RowLayer). MeetAt Short l pair.a pair.b) layer → IsOfKind (IsOfPair d pair first second) Short (short_row first second layer)
      is layer where_first = record {
        is = record {
          first_is = refl;
          second_is = refl;
          broken = record { compared = meet.compared; where_first = where_first; value = refl; gap = refl; over = refl; source = refl; severity = refl };
        };
        kind_is = refl;
      }

  -- ---- the whole

  -- the numbers of the kinds that two items break
  number_of : (kind : Kind) (row : PlainRow) → Breaks d kind pair row → ((1 ≤ kind_number kind) × (kind_number kind < 8)) ⊎ ((13 ≤ kind_number kind) × (kind_number kind < 15))
  number_of Short row h = inl (omega arith, omega arith)
  number_of Clearance row h = inl (omega arith, omega arith)
  number_of HoleClearance row h = inl (omega arith, omega arith)
  number_of HoleToHole row h = inl (omega arith, omega arith)
  number_of EdgeClearance row h = inl (omega arith, omega arith)
  number_of CourtyardClearance row h = inl (omega arith, omega arith)
  number_of Keepout row h = inl (omega arith, omega arith)
  number_of PhysicalClearance row h = inr (omega arith, omega arith)
  number_of PhysicalHoleClearance row h = inr (omega arith, omega arith)
  number_of _ row h = absurd h

  not_first : (n : ℕ) → ((1 ≤ n) × (n < 8)) ⊎ ((13 ≤ n) × (n < 15)) → n < 1 → ⊥
  not_first n (inl h) lt = let from = h.0 in omega arith
  not_first n (inr h) lt = let from = h.0 in omega arith

  before_singles : (n : ℕ) → ((1 ≤ n) × (n < 8)) ⊎ ((13 ≤ n) × (n < 15)) → n < 13 → n < 8
  before_singles n (inl h) lt = h.1
  before_singles n (inr h) lt = let from = h.0 in absurd (omega arith)

  before_last : (n : ℕ) → ((1 ≤ n) × (n < 8)) ⊎ ((13 ≤ n) × (n < 15)) → n < 15
  before_last n (inl h) = let to = h.1 in omega arith
  before_last n (inr h) = h.1

  pub past_singles : (rows : List PlainRow) → AreRowsBelow (IsOfPair d pair first second) 8 rows → AreRowsBelow (IsOfPair d pair first second) 13 rows
  past_singles rows r =
      passes (IsBelow (IsOfPair d pair first second) 8) (IsBelow (IsOfPair d pair first second) 13) rows (λ row h. let lt = h.below in record { is = h.is; below = omega arith })
      (λ row h. record { is = h.is; below = before_singles (kind_number row.kind) (number_of row.kind row h.is.broken) h.below }) r

  pub all_of_pair : (rows : List PlainRow) → AreRowsBelow (IsOfPair d pair first second) 15 rows → AreRowsWhere (IsOfPair d pair first second) rows
  all_of_pair rows r =
      passes (IsBelow (IsOfPair d pair first second) 15) (IsOfPair d pair first second) rows (λ row h. h.is) (λ row h. record { is = h; below = before_last (kind_number row.kind) (number_of row.kind row h.broken) }) r

  pub none_below : (row : PlainRow) → ¬ (IsBelow (IsOfPair d pair first second) 1 row)
  none_below row h = not_first (kind_number row.kind) (number_of row.kind row h.is.broken) h.below

-- ---- rows of the board

some_once : {A : Type 0} (found : Option A) (x y : A) → found ≡ Some x → found ≡ Some y → x ≡ y
some_once found x y e f = cc

-- what stands on the board under an id is one item with its facts
pub item_once : (c : Checked) (id : ℕ) (item other : Item) (f g : Facts) → Stands c id item f → Stands c id other g → item ≡ other
item_once c id item other f g h k = some_once (item_at c.board.items id) item other h.item_is k.item_is

pub facts_once : (c : Checked) (id : ℕ) (item other : Item) (f g : Facts) → Stands c id item f → Stands c id other g → f ≡ g
facts_once c id item other f g h k =
    one_facts c.board c.classes other f g (subst (λ (i : Item). AreFactsOf c.board c.classes i f) (item_once c id item other f g h k) h.facts_are) k.facts_are

same_pair : (p q : Pair) → p.a ≡ q.a → p.b ≡ q.b → p.facts_a ≡ q.facts_a → p.facts_b ≡ q.facts_b → p ≡ q
same_pair p q a b facts_a facts_b = λ i. record { a = a i; b = b i; facts_a = facts_a i; facts_b = facts_b i }

module _ (c : Checked) (pair : Pair) (first second : ℕ) (one : Stands c first pair.a pair.facts_a) (other : Stands c second pair.b pair.facts_b) (ordered : first < second) where
  into : (row : PlainRow) → IsOfPair (deciders c) pair first second row → IsRowOfTwo c row × (row.first ≡ first) × (row.second ≡ second)
  into row h = (
    record {
      pair = pair;
      first = subst (λ (id : ℕ). Stands c id pair.a pair.facts_a) (sym h.first_is) one;
      second = subst (λ (id : ℕ). Stands c id pair.b pair.facts_b) (sym h.second_is) other;
      ordered = let e = h.first_is in let f = h.second_is in omega arith;
      broken = h.broken;
    },
    h.first_is,
    h.second_is,
  )

  back : (row : PlainRow) → IsRowOfTwo c row × (row.first ≡ first) × (row.second ≡ second) → IsOfPair (deciders c) pair first second row
  back row h =
      let two = h.0 in
      let its_first : Stands c first two.pair.a two.pair.facts_a = subst (λ (id : ℕ). Stands c id two.pair.a two.pair.facts_a) h.1 two.first in
      let its_second : Stands c second two.pair.b two.pair.facts_b = subst (λ (id : ℕ). Stands c id two.pair.b two.pair.facts_b) h.2 two.second in
      let same : two.pair ≡ pair =
      same_pair two.pair pair (item_once c first two.pair.a pair.a two.pair.facts_a pair.facts_a its_first one) (item_once c second two.pair.b pair.b two.pair.facts_b pair.facts_b its_second other)
      (facts_once c first two.pair.a pair.a two.pair.facts_a pair.facts_a its_first one) (facts_once c second two.pair.b pair.b two.pair.facts_b pair.facts_b its_second other) in
      record { first_is = h.1; second_is = h.2; broken = subst (λ (p : Pair). Breaks (deciders c) row.kind p row) same two.broken }

  pub rows_of_pair : (rows : List PlainRow) → AreRowsWhere (IsOfPair (deciders c) pair first second) rows → AreRowsOfPair c first second rows
  rows_of_pair rows r =
      passes (IsOfPair (deciders c) pair first second) (λ (row : PlainRow). IsRowOfTwo c row × (row.first ≡ first) × (row.second ≡ second)) rows into back r
