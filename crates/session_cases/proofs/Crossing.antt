-- Trials may be lent to threads where the runtime may.
use denote.RattleType.{RattleType}
use denote.Param.Send.{IsSync, struct_sync, recorded_sync, shr_sync, shr_slice_sync}
use denote.Ref.{NamedLft}
use denote.Struct.Declared.{shape}
use Rattle.edit_script.proofs.command.Command.TheSendSync as command
use Rattle.drc_session.proofs.SessionsCross.{session_sync}
use Rattle.session_cases.specs.contracts.alike.Trials as Trials

pub trials_cross : (a : NamedLft) (R : RattleType) → IsSync R → IsSync (Trials.the_row a R)
trials_cross a R r =
    recorded_sync (Trials.the_field a R).row _ _ (Trials.the_type a R).to_one
    (struct_sync (shape (Trials.the_type a R)) (shr_sync _ _ _ session_sync, (shr_sync _ _ _ r, (shr_slice_sync _ _ _ (command.the_sync a), tt))))
