use Rattle.std.proofs.Common.{[], refl}
use Rattle.one_item.proofs.Around.{four}
use Rattle.one_item.proofs.item.Item.bounds.Goals as goal

pub returns-clause-least : goal.returns-clause-least
returns-clause-least c =
    let copper = c.around-copper.ensures.grown [] refl in
    let drilled = c.around_hole-drilled.ensures.grown _ copper in
    let first = c.around.ensures.grown _ drilled in
    let second = c.around-2.ensures.grown _ first in
    four _ _ _ _ _ _ _ c.as_slice.ensures c.parts.ensures second
