use Rattle.std.proofs.Common.{◌∙◌, ap, List, map}
use Rattle.board_items.specs.declared.back.Kept.{Kept}
use Rattle.board_items.specs.Back.{kept_entry}
use Rattle.board_edits.specs.Making.{ids_of, without_put}
use Rattle.board_edits.proofs.PutItems.{put_made}
use Rattle.board_edits.proofs.making.put_back.Goals as goal

pub returns : goal.returns
returns c =
    put_made c.put_back.ensures c.args.board.now c.put_back-2.new.self (map kept_entry c.args.items.items) _ c.soundness.ensures.sound c.soundness-2.ensures.sound c.requires c.in_ok-put_back.ensures.back
    (c.without_put-back.ensures ∙ ap (λ (xs : List Kept). without_put (map kept_entry xs)) c.deref-2.ensures.value) (c.in_ok-ids.ensures ∙ ap (λ (xs : List Kept). ids_of (map kept_entry xs)) c.deref.ensures.value)
