-- The tiles that are tested may be lent to other threads.
use denote.Param.Send.{IsSync, sendable, struct_sync, recorded_sync, shr_sync, shr_slice_sync, plain_sync}
use denote.Builtin.{u32}
use denote.Ref.{NamedLft}
use denote.Struct.Declared.{shape}
use Rattle.std.proofs.Crossing.{crosses}
use Rattle.board_items.proofs.board.Board.TheSendSync as board
use Rattle.box_index.proofs.index.TileIndex.TheSendSync as index
use Rattle.cond_lang.proofs.cond.Cond.TheLaws.TheKnot as cond
use Rattle.cond_lang.proofs.kind.Kind.TheSendSync as kind
use Rattle.cond_lang.proofs.rule.Disallow.TheSendSync as disallow
use Rattle.cond_lang.proofs.rule.RuleLayer.TheSendSync as layer
use Rattle.cond_lang.proofs.rule.Severity.TheSendSync as severity
use Rattle.cond_lang.specs.contracts.constraints.Rule as Rule
use Rattle.drc_io.proofs.name.Name.TheSendSync as name
use Rattle.net_class.proofs.classes.Classes.TheSendSync as classes
use Rattle.rule_pick.proofs.facts_by_id.FactsById.TheSendSync as facts
use Rattle.pair_check.specs.contracts.view.CheckView as CheckView
use Rattle.row_check.proofs.asks.PairAsks.TheSendSync as asks
use Rattle.tile_rows.specs.contracts.work.Tiles as Tiles
use Rattle.tile_rows.specs.contracts.work.AskedTiles as AskedTiles

pub rule_crosses : IsSync Rule.the_row
rule_crosses =
    recorded_sync (Rule.the_field).row _ _ (Rule.the_type).to_one
    (struct_sync (shape Rule.the_type) (
      search (name.the_sync, sendable) depth 60 fits 20000,
      (
        layer.the_field_sync,
        (
          severity.the_field_sync,
          (
            search (crosses, cond.crosses_both, sendable) depth 60 fits 20000,
            (search (kind.the_field_sync, disallow.the_field_sync, crosses, cond.crosses_both, sendable) depth 60 fits 20000, tt),
          ),
        ),
      ),
    ))

view_crosses : (a : NamedLft) → IsSync (CheckView.the_field a).row
view_crosses a = struct_sync (shape (CheckView.the_type a)) (shr_sync _ _ _ board.the_sync, (shr_sync _ _ _ facts.the_sync, (shr_slice_sync _ _ _ rule_crosses, (shr_sync _ _ _ classes.the_sync, tt))))

number_crosses : IsSync u32
number_crosses = plain_sync _ _ _ _ _

tiles_cross : (a : NamedLft) → IsSync (Tiles.the_field a).row
tiles_cross a =
    struct_sync (shape (Tiles.the_type a)) (view_crosses a, (shr_sync _ _ _ index.the_sync, (shr_slice_sync _ _ _ number_crosses, (shr_slice_sync _ _ _ number_crosses, tt))))

pub asked_cross : (a : NamedLft) → IsSync (AskedTiles.the_row a)
asked_cross a = recorded_sync (AskedTiles.the_field a).row _ _ (AskedTiles.the_type a).to_one (struct_sync (shape (AskedTiles.the_type a)) (tiles_cross a, (asks.the_field_sync, tt)))
