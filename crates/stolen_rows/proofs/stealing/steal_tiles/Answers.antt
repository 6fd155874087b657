use denote.Exit.{no}
use denote.Param.Send.{arg_sync, param_sync}
use Rattle.tile_rows.proofs.Answered.{rows_answered}
use Rattle.tile_rows.proofs.Crossing.{asked_cross}
use Rattle.stolen_rows.proofs.stealing.steal_tiles.Goals as goal

pub run_stolen-requires-sync-T : goal.run_stolen-requires-sync-T
run_stolen-requires-sync-T g c κs within = param_sync 1 _ (arg_sync _ no _ (asked_cross _))

pub returns-clause-rows : goal.returns-clause-rows
returns-clause-rows g c = rows_answered c.of-asked.result.tiles _ c.of-asked.ensures.tiles c.in_ok-batches.batches.items c.in_ok-batches.ensures.answers
