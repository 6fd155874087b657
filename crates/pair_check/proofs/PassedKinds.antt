-- Kinds of which a pair has no row, as a look at its items tells.
use Rattle.std.proofs.Common.{◌≡◌, ◌⊎◌, inl, inr, refl, ap, subst, ℕ, Bool, true, false, ◌&&◌, ◌||◌, not, ◌∙◌, Option, None, Some, List, [], arith}
use Rattle.one_item.specs.declared.item.Hole.{Hole}
use Rattle.one_item.specs.declared.item.What.{What}
use Rattle.one_item.specs.ItemKinds.{is_body}
use Rattle.one_item.specs.declared.item.What.TheVariants.{Track, Via, Pad, Graphic, Fill, Edge, Area, Body, Note}
use Rattle.cond_lang.specs.declared.kind.Kind.{Kind}
use Rattle.cond_lang.specs.declared.kind.Kind.TheVariants.{Short, Clearance, HoleClearance, HoleToHole, EdgeClearance, CourtyardClearance, Keepout, PhysicalClearance, PhysicalHoleClearance}
use Rattle.pair_check.specs.declared.asked.Asked.{Asked}
use Rattle.kind_subjects.specs.declared.layer.RowLayer.{RowLayer}
use Rattle.kind_subjects.specs.declared.subject.OperandKinds.TheVariants.{EdgesAndCopper}
use Rattle.kind_subjects.specs.declared.subject.Subject.TheVariants.{Sides}
use Rattle.pair_check.specs.PlainRow.{PlainRow}
use Rattle.kind_subjects.specs.Compared.{share_net, keeps_out, are_round_holes, is_compared}
use Rattle.kind_subjects.specs.MeasuredPair.{lines_of}
use Rattle.pair_check.specs.Pairs.{Deciders, Pair, IsNearAt, Breaks}
use Rattle.pair_check.specs.Asked.{IsNoteOf}
use Rattle.pair_check.specs.Rows.{AreRowsWhere}
use Rattle.pair_check.specs.Stages.{IsOfPair, IsOfKind, AreRowsBelow}
use Rattle.pair_check.specs.Coppers.{is_copper, are_copper}
use Rattle.kind_subjects.proofs.Unfaced.{near_within, kind_within, edge_within}
use Rattle.pair_check.proofs.RowsOfPair.{says_near, pair_without, pair_unasked, pair_uncompared, pair_unmet, past_singles, all_of_pair}

no_lines : (what : What) → is_copper what ≡ true → lines_of what ≡ []
no_lines (Edge lines) e = cc
no_lines (Track width) e = refl
no_lines (Via size drill micro blind) e = refl
no_lines (Pad number reference) e = refl
no_lines Graphic e = refl
no_lines Fill e = refl
no_lines (Area title bans shape) e = refl
no_lines (Body reference front back on_back) e = refl
no_lines (Note about layer) e = refl

no_body : (what : What) → is_copper what ≡ true → is_body what ≡ false
no_body (Body reference front back on_back) e = cc
no_body (Track width) e = refl
no_body (Via size drill micro blind) e = refl
no_body (Pad number reference) e = refl
no_body Graphic e = refl
no_body Fill e = refl
no_body (Edge lines) e = refl
no_body (Area title bans shape) e = refl
no_body (Note about layer) e = refl

no_ban : (what other : What) → is_copper what ≡ true → keeps_out what other ≡ false
no_ban (Area title bans shape) other e = cc
no_ban (Track width) other e = refl
no_ban (Via size drill micro blind) other e = refl
no_ban (Pad number reference) other e = refl
no_ban Graphic other e = refl
no_ban Fill other e = refl
no_ban (Edge lines) other e = refl
no_ban (Body reference front back on_back) other e = refl
no_ban (Note about layer) other e = refl

not_both : (a b : Option Hole) → (a ≡ None) ⊎ (b ≡ None) → are_round_holes a b ≡ false
not_both None b h = refl
not_both (Some a) None h = refl
not_both (Some a) (Some b) (inl e) = cc
not_both (Some a) (Some b) (inr e) = cc

and_first : (a b : Bool) → a ≡ false → (a && b) ≡ false
and_first a b e = ap (λ t. t && b) e

and_second : (a b : Bool) → b ≡ false → (a && b) ≡ false
and_second true b e = e
and_second false b e = refl

or_none : (a b : Bool) → a ≡ false → b ≡ false → (a || b) ≡ false
or_none a b e f = ap (λ t. t || b) e ∙ f

is_not : (a : Bool) → not a ≡ true → a ≡ false
is_not true e = cc
is_not false e = refl

one_of : (a b : Bool) → (a && b) ≡ true → a ≡ true
one_of true b e = refl
one_of false b e = cc

other_of : (a b : Bool) → (a && b) ≡ true → b ≡ true
other_of true b e = e
other_of false b e = cc

module _ (d : Deciders) (pair : Pair) (first second : ℕ) where
  -- ---- of one net

  no_short : share_net pair.a pair.b ≡ true → is_compared Short pair.a pair.b ≡ false
  unfolding is_compared
  no_short e = rw e

  no_clearance : share_net pair.a pair.b ≡ true → is_compared Clearance pair.a pair.b ≡ false
  unfolding is_compared
  no_clearance e = rw e

  no_hole_clearance : share_net pair.a pair.b ≡ true → is_compared HoleClearance pair.a pair.b ≡ false
  unfolding is_compared
  no_hole_clearance e = rw e

  pub of_one_net : share_net pair.a pair.b ≡ true → (rows : List PlainRow) → AreRowsBelow (IsOfPair d pair first second) 1 rows → AreRowsBelow (IsOfPair d pair first second) 4 rows
  of_one_net e rows r =
      pair_uncompared d pair first second HoleClearance rows refl (no_hole_clearance e)
      (pair_uncompared d pair first second Clearance rows refl (no_clearance e) (pair_unmet d pair first second Short rows refl (no_short e) r))

  -- ---- not both with holes

  no_hole_to_hole : (pair.a.hole ≡ None) ⊎ (pair.b.hole ≡ None) → is_compared HoleToHole pair.a pair.b ≡ false
  unfolding is_compared
  no_hole_to_hole h = and_second _ _ (not_both pair.a.hole pair.b.hole h)

  pub not_both_holes : (pair.a.hole ≡ None) ⊎ (pair.b.hole ≡ None) → (rows : List PlainRow) → AreRowsBelow (IsOfPair d pair first second) 4 rows → AreRowsBelow (IsOfPair d pair first second) 5 rows
  not_both_holes h rows r = pair_uncompared d pair first second HoleToHole rows refl (no_hole_to_hole h) r

  -- ---- two pieces of copper

  module _ (copper : are_copper pair.a pair.b ≡ true) where
    one : is_copper pair.a.what ≡ true
    one = one_of (is_copper pair.a.what) (is_copper pair.b.what) copper

    other : is_copper pair.b.what ≡ true
    other = other_of (is_copper pair.a.what) (is_copper pair.b.what) copper

    pub no_courtyards : is_compared CourtyardClearance pair.a pair.b ≡ false
    unfolding is_compared
    no_courtyards = and_first _ _ (no_body pair.a.what one)

    pub no_keepout : is_compared Keepout pair.a pair.b ≡ false
    unfolding is_compared
    no_keepout = and_second _ _ (or_none _ _ (no_ban pair.a.what pair.b.what one) (no_ban pair.b.what pair.a.what other))

    -- neither is an edge
    pub no_edge : (layer : RowLayer) → IsNearAt d EdgeClearance pair layer → ⊥
    no_edge layer n =
        let within = kind_within EdgeClearance (Sides EdgesAndCopper) pair.a pair.b 0 0 layer refl (edge_within pair.a pair.b 0 0 (no_lines pair.a.what one) (no_lines pair.b.what other) layer) in
        let far = (near_within EdgeClearance pair.a pair.b n.pick.least 0 0 layer within n.near).1 in
        absurd (omega arith)

    no_edge_row : (row : PlainRow) → ¬ (IsOfKind (IsOfPair d pair first second) EdgeClearance row)
    no_edge_row row h =
        let says = says_near d pair EdgeClearance row refl (subst (λ (l : Kind). Breaks d l pair row) h.kind_is h.is.broken) in
        no_edge row.layer says.where_first.holds

    pub of_copper : (rows : List PlainRow) → AreRowsBelow (IsOfPair d pair first second) 5 rows → AreRowsBelow (IsOfPair d pair first second) 8 rows
    of_copper rows r =
        pair_unmet d pair first second Keepout rows refl no_keepout
        (pair_uncompared d pair first second CourtyardClearance rows refl no_courtyards (pair_without d pair first second EdgeClearance rows no_edge_row r))

  -- ---- without a rule on physical distances

  pub without_physical : (asked : Asked) → IsNoteOf d asked → not asked.physical_clearance ≡ true → not asked.physical_hole_clearance ≡ true → (rows : List PlainRow)
      → AreRowsBelow (IsOfPair d pair first second) 8 rows → AreRowsWhere (IsOfPair d pair first second) rows
  without_physical asked note e f rows r =
      all_of_pair d pair first second rows
      (pair_unasked d pair first second PhysicalHoleClearance rows refl (note.physical_hole_clearance (is_not asked.physical_hole_clearance f))
      (pair_unasked d pair first second PhysicalClearance rows refl (note.physical_clearance (is_not asked.physical_clearance e)) (past_singles d pair first second rows r)))
