-- Two pieces of copper that are farther apart than anything asks of them break nothing.
use Rattle.std.proofs.Common.{◌≡◌, ℕ, ◌<◌, ◌==◌, ℤ, pos, ◌+ℤ◌, ◌≤ℤ◌, Bool, true, false, IsTrue, List, [], Some, slice_get, refl, sym, subst, arith}
use Rattle.std.proofs.lemmas.Int.{ints}
use Rattle.std.proofs.lemmas.List.{append-nil}
use Rattle.std.proofs.lemmas.List.Elements.{All-nil}
use Rattle.std.proofs.lemmas.Map.Views.{exact_unsigned_eq}
use Rattle.geo_seg.specs.declared.boxes.Bounds.{Bounds}
use Rattle.geo_seg.specs.Boxes.{AreClear}
use Rattle.one_item.specs.ItemParts.{parts_of}
use Rattle.one_item.specs.Extents.{LiesIn, AreBoundsOf}
use Rattle.board_index.specs.IndexedItems.{IsEntryOf}
use Rattle.box_index.specs.declared.entry.Entry.{Entry}
use Rattle.cond_lang.specs.declared.kind.Kind.{Kind}
use Rattle.cond_lang.specs.declared.kind.Kind.TheVariants.{Short, Clearance, HoleClearance, HoleToHole, EdgeClearance, CourtyardClearance, Keepout, PhysicalClearance, PhysicalHoleClearance}
use Rattle.cond_lang.specs.CheckKinds.{kind_number}
use Rattle.cond_lang.specs.Rules.{PlainConstraint, PlainRule}
use Rattle.rule_pick.specs.CopperDemands.{AsksAtMost, EachAsksAtMost, AskAtMost, ItAsksAtMost}
use Rattle.rule_pick.specs.Deciding.{asked_by, asked_least}
use Rattle.rule_pick.specs.Picks.{Pick}
use Rattle.rule_pick.specs.Reach.{is_between_two, is_of_copper}
use Rattle.item_copper.proofs.ItemBoxes.{all_lie}
use Rattle.item_copper.proofs.Far.{far_in, far_back, each_lies}
use Rattle.kind_subjects.specs.declared.layer.RowLayer.{RowLayer}
use Rattle.kind_subjects.specs.TriedLayers.{asked_layer}
use Rattle.kind_subjects.specs.Compared.{is_compared}
use Rattle.pair_check.specs.PlainRow.{PlainRow}
use Rattle.pair_check.specs.Coppers.{are_copper}
use Rattle.pair_check.specs.Pairs.{Deciders, Pair, IsPickOf, Breaks}
use Rattle.pair_check.specs.Rows.{Checked, deciders, AreRowsOfPair}
use Rattle.pair_check.specs.Stages.{IsOfPair}
use Rattle.pair_check.proofs.KindRows.{same_number}
use Rattle.pair_check.proofs.NearPicks.{found_has, at_has, picked_at_most}
use Rattle.pair_check.proofs.PassedKinds.{no_edge, no_courtyards, no_keepout}
use Rattle.pair_check.proofs.RowsOfPair.{rows_of_pair}
use Rattle.row_check.specs.declared.operands.Operand.{Operand}
use Rattle.row_check.specs.CopperSeparation.{AreBoxesApart}
use Rattle.row_check.specs.Operands.{StandsAt}
use Rattle.row_check.specs.EntryWalks.{HasAddedRows}
use Rattle.row_check.proofs.NearPairs.{breaks_nothing}
use Rattle.row_check.proofs.TileRows.{its_bounds}

along : (u v w : ℤ) → u ≤ℤ v → v ≤ℤ w → u ≤ℤ w
along u v w h k = omega (arith, ints)

unlike : (b : Bool) → b ≡ false → IsTrue b → ⊥
unlike b e t = cc

module _ (d : Deciders) (pair : Pair) (least most : ℤ) (ask : AskAtMost d.rules d.mins least) (some : pos 0 ≤ℤ most) (within : least ≤ℤ most) (first : ItAsksAtMost pair.facts_a most) (second : ItAsksAtMost pair.facts_b most) where
  by_rules : (kind : Kind) → is_of_copper kind ≡ true → (place : ℕ) (rule : PlainRule) (c : PlainConstraint) → slice_get d.rules place ≡ Some rule → asked_by kind rule ≡ Some c → asked_least c ≤ℤ most
  by_rules kind of place rule c stands asked =
      let has = found_has (AsksAtMost least) (λ x. kind_number x.kind == kind_number kind) rule.constraints c (at_has (EachAsksAtMost least) d.rules place rule ask.by_rules stands) asked in
      let same = same_number c.kind kind (exact_unsigned_eq (kind_number c.kind) (kind_number kind) has.1) in
      along (asked_least c) least most (has.0 (subst (λ (k : Kind). is_of_copper k ≡ true) (sym same) of)) within

  at_most : (kind : Kind) → is_of_copper kind ≡ true → (layer : RowLayer) (pick : Pick) → IsPickOf d kind pair layer pick → pick.least ≤ℤ most
  at_most kind of layer pick picked =
      picked_at_most d.rules d.mins most kind (by_rules kind of) (λ micro. along _ least most (ask.by_board micro kind of) within) pair.facts_a pair.facts_b first.local second.local first.class_clearance second.class_clearance
      (asked_layer layer) pick picked

  module _ (box_a box_b : Bounds) (own : AreBoundsOf (parts_of pair.a) (Some box_a)) (others : AreBoundsOf (parts_of pair.b) (Some box_b)) (clear : AreClear box_a box_b (most +ℤ most +ℤ pos 1)) (copper : are_copper pair.a pair.b ≡ true)
      (row : PlainRow) where
    far : (kind : Kind) → ((layer : RowLayer) (pick : Pick) → is_between_two kind ≡ true → IsPickOf d kind pair layer pick → pick.least ≤ℤ most) → Breaks d kind pair row → ⊥
    far kind asked says =
        breaks_nothing d pair row (LiesIn box_a) (LiesIn box_b) (each_lies box_a (parts_of pair.a) (all_lie (parts_of pair.a) box_a own)) (each_lies box_b (parts_of pair.b) (all_lie (parts_of pair.b) box_b others)) (λ v. v ≤ℤ most)
        (λ v from to p q h k. far_in v most from to box_a box_b clear p q h k) (λ v from to p q h k. far_back v most from to box_a box_b clear p q h k) some kind asked says

    none : (kind : Kind) → Breaks d kind pair row → ⊥
    none Short says = far Short (λ layer pick between picked. absurd (cc)) says
    none Clearance says = far Clearance (λ layer pick between picked. at_most Clearance refl layer pick picked) says
    none HoleClearance says = far HoleClearance (λ layer pick between picked. at_most HoleClearance refl layer pick picked) says
    none HoleToHole says = far HoleToHole (λ layer pick between picked. at_most HoleToHole refl layer pick picked) says
    none PhysicalClearance says = far PhysicalClearance (λ layer pick between picked. at_most PhysicalClearance refl layer pick picked) says
    none PhysicalHoleClearance says = far PhysicalHoleClearance (λ layer pick between picked. at_most PhysicalHoleClearance refl layer pick picked) says
    none EdgeClearance says = no_edge d pair 0 0 copper row.layer says.where_first.holds
    none CourtyardClearance says = unlike (is_compared CourtyardClearance pair.a pair.b) (no_courtyards d pair 0 0 copper) says.compared
    none Keepout says = unlike (is_compared Keepout pair.a pair.b) (no_keepout d pair 0 0 copper) says.compared
    none _ says = says

-- so two such items have no row
pub no_rows_apart : (c : Checked) (least : ℤ) → AskAtMost (deciders c).rules (deciders c).mins least → (a b : Entry) (one other : Operand) → StandsAt c one → StandsAt c other → one.id ≡ a.id → other.id ≡ b.id → one.id < other.id → IsEntryOf c.board a → IsEntryOf c.board b
    → AreBoxesApart least a b one.single other.single → (rows : List PlainRow) → HasAddedRows (AreRowsOfPair c one.id other.id) rows rows
no_rows_apart c least ask a b one other stands stands_too same same_too ordered on on_too apart rows =
    let pair : Pair = record { a = one.single.item.now; b = other.single.item.now; facts_a = one.single.facts.now; facts_b = other.single.facts.now } in
    let own = its_bounds c.board a one.id one.single.item.now on (sym same) stands.item_is in
    let others = its_bounds c.board b other.id other.single.item.now on_too (sym same_too) stands_too.item_is in record {
      more = [];
      is = sym (append-nil rows);
      pass = rows_of_pair c pair one.id other.id stands stands_too ordered []
          (record {
            ordered = λ i j x l m. absurd (omega arith);
            only = All-nil (IsOfPair (deciders c) pair one.id other.id);
            all = λ row h. absurd (none (deciders c) pair least apart.most ask apart.some apart.least_within apart.first apart.second a.bounds b.bounds own others apart.clear apart.copper row row.kind h.broken);
          });
    }
