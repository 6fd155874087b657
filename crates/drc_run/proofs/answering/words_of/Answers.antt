use Rattle.std.proofs.Common.{rules}
use Rattle.std.proofs.lemmas.Iterator.{YieldsList-from_slice, YieldsList-from_map_by}
use Rattle.std.proofs.lemmas.Iterator.Adapters.{YieldsList-from_skip}
use Rattle.std.proofs.lemmas.Iterator.Consumers.{map_from_collect, YieldsList-at}
use Rattle.drc_run.proofs.answering.words_of.Goals as goal

pub returns : goal.returns
returns c = map_from_collect _ c.collect.ensures.ran
    (YieldsList-from_map_by _ _ _
    (YieldsList-at c.map.ensures.source (YieldsList-from_skip 1 (YieldsList-at c.skip.ensures.source (YieldsList-from_slice c.args.line.now c.iter.ensures.rest)) c.skip.ensures.count))
    c.map.ensures.closure (λ x r q k. search rules))
