-- What rules and the board ask of pairs of items, noted once for all tiles.
use Rattle.rule_pick.specs.CopperDemands.{AskAtMost}
use Rattle.pair_check.specs.Asked.{IsNoteOf}
use Rattle.pair_check.specs.Pairs.{Deciders}
use Rattle.row_check.specs.declared.asks.PairAsks.{PairAsks}

-- of each kind that is noted as not asked for nothing is asked, and of two pieces of copper no more than is noted
pub record AreAsksOf (d : Deciders) (asks : PairAsks) : Type 0 where
  pub kinds : IsNoteOf d asks.kinds
  pub of_copper : AskAtMost d.rules d.mins asks.of_copper.nm
