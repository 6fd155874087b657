use Rattle.std.proofs.Common.{◌∙◌, sym, ap}
use Rattle.rule_text.specs.ListText.{moved}
use Rattle.rule_text.proofs.laws.one_list_reading.Goals as goal

pub returns : goal.returns
returns c = λ text by a b h k. h.2 ∙ ap (moved by) (c.one_reading_here.ensures text h.0 k.0 h.1 k.1) ∙ sym k.2
