use denote.Exit.{no}
use denote.Param.Send.{arg_sync, param_sync}
use Rattle.std.proofs.lemmas.Result.{IfOk-weaker}
use Rattle.tile_rows.proofs.Answered.{rows_answered}
use Rattle.tile_rows.proofs.Crossing.{asked_cross}
use Rattle.tile_rows.proofs.testing.test_tiles.Goals as goal

pub run_tiles-requires-sync-T : goal.run_tiles-requires-sync-T
run_tiles-requires-sync-T g c κs within = param_sync 1 _ (arg_sync _ no _ (asked_cross _))

pub returns-clause-rows : goal.returns-clause-rows
returns-clause-rows g c = IfOk-weaker c.run_tiles.result _ _ (λ r h. rows_answered c.of-asked.result.tiles _ c.of-asked.ensures.tiles r.0.items h) c.run_tiles.ensures.answers
