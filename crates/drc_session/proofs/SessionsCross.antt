-- Sessions may go to other threads and be shared by them.
use denote.Param.Send.{IsSend, IsSync, sendable, struct_send, struct_sync, recorded_send, recorded_sync, view_send, view_sync}
use denote.Struct.Declared.{shape}
use Rattle.std.proofs.Crossing.{crosses}
use Rattle.board_items.proofs.board.Board.TheSendSync as board
use Rattle.box_index.proofs.index.TileIndex.TheSendSync as index
use Rattle.cond_lang.proofs.cond.Cond.TheLaws.TheKnot as cond
use Rattle.cond_lang.proofs.kind.Kind.TheSendSync as kind
use Rattle.cond_lang.proofs.rule.Disallow.TheSendSync as disallow
use Rattle.cond_lang.proofs.rule.RuleLayer.TheSendSync as layer
use Rattle.cond_lang.proofs.rule.Severity.TheSendSync as severity
use Rattle.cond_lang.specs.contracts.constraints.Rule as Rule
use Rattle.drc_io.proofs.name.Name.TheSendSync as name
use Rattle.net_class.proofs.classes.Classes.TheSendSync as classes
use Rattle.rule_pick.proofs.facts_by_id.FactsById.TheSendSync as facts
use Rattle.pair_check.proofs.row.Row.TheSendSync as row
use Rattle.net_groups.proofs.part.NetPart.TheSendSync as part
use Rattle.drc_session.specs.contracts.parts.Parts as Parts
use Rattle.drc_session.specs.contracts.session.Session as Session
use Rattle.drc_session.specs.contracts.session.Session.TheInside as Inside
use Rattle.tile_rows.proofs.Crossing.{rule_crosses}

rule_send : IsSend Rule.the_row
rule_send =
    recorded_send (Rule.the_field).row _ _ (Rule.the_type).to_one
    (struct_send (shape Rule.the_type) (
      search (name.the_send, sendable) depth 60 fits 20000,
      (
        layer.the_field_send,
        (
          severity.the_field_send,
          (
            search (crosses, cond.crosses_both, sendable) depth 60 fits 20000,
            (search (kind.the_field_send, disallow.the_field_send, crosses, cond.crosses_both, sendable) depth 60 fits 20000, tt),
          ),
        ),
      ),
    ))

parts_send : IsSend (Parts.the_field).row
parts_send =
    struct_send (shape Parts.the_type) (
      board.the_send,
      (
        classes.the_send,
        (
          search (rule_send, crosses, sendable) depth 60 fits 20000,
          (facts.the_send, (search sendable depth 20, (index.the_send, (search (row.the_send, crosses, sendable) depth 60, (search (part.the_send, crosses, sendable) depth 60, tt))))),
        ),
      ),
    )

parts_sync : IsSync (Parts.the_field).row
parts_sync =
    struct_sync (shape Parts.the_type) (
      board.the_sync,
      (
        classes.the_sync,
        (
          search (rule_crosses, crosses, sendable) depth 60 fits 20000,
          (facts.the_sync, (search sendable depth 20, (index.the_sync, (search (row.the_sync, crosses, sendable) depth 60, (search (part.the_sync, crosses, sendable) depth 60, tt))))),
        ),
      ),
    )

inside_send : IsSend Inside.the_row
inside_send =
    recorded_send (Inside.the_field).row _ _ (Inside.the_type).to_one (struct_send (shape Inside.the_type) (parts_send, (search sendable depth 20, tt)))

inside_sync : IsSync Inside.the_row
inside_sync =
    recorded_sync (Inside.the_field).row _ _ (Inside.the_type).to_one (struct_sync (shape Inside.the_type) (parts_sync, (search sendable depth 20, tt)))

pub session_send : IsSend Session.the_row
session_send = view_send Inside.the_row _ _ _ _ inside_send

pub session_sync : IsSync Session.the_row
session_sync = view_sync Inside.the_row _ _ _ _ inside_sync
