-- Trials may be lent to threads where the runtime and the gate may.
use denote.RattleType.{RattleType}
use denote.Param.Send.{IsSync, struct_sync, recorded_sync, shr_sync, shr_slice_sync, plain_sync}
use denote.Builtin.{u32}
use denote.Ref.{NamedLft}
use denote.Struct.Declared.{shape}
use Rattle.edit_script.proofs.command.Command.TheSendSync as command
use Rattle.drc_session.proofs.SessionsCross.{session_sync}
use Rattle.what_if.specs.contracts.work.Trials as Trials

number_crosses : IsSync u32
number_crosses = plain_sync _ _ _ _ _

pub trials_cross : (a : NamedLft) (R G : RattleType) → IsSync R → IsSync G → IsSync (Trials.the_row a R G)
trials_cross a R G r g =
    recorded_sync (Trials.the_field a R G).row _ _ (Trials.the_type a R G).to_one
    (struct_sync (shape (Trials.the_type a R G)) (shr_sync _ _ _ session_sync, (shr_sync _ _ _ r, (shr_sync _ _ _ g, (shr_slice_sync _ _ _ (command.the_sync a), (number_crosses, tt))))))
