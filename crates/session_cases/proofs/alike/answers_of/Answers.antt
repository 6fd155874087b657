use denote.Exit.{no}
use denote.Param.Send.{arg_sync, param_sync}
use Rattle.session_cases.proofs.Crossing.{trials_cross}
use Rattle.session_cases.proofs.alike.answers_of.Goals as goal

pub run_tiles-requires-sync-T : goal.run_tiles-requires-sync-T
run_tiles-requires-sync-T g c κs within = param_sync 1 _ (arg_sync _ no _ (trials_cross _ _ (param_sync 0 _ c.type_bounds.sync-R)))
