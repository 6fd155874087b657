use Rattle.json_exact.specs.Handles.{json_of}
use Rattle.net_class.specs.ClassValues.{json_if}
use Rattle.net_class.proofs.Whole.{classes_are}
use Rattle.net_class.proofs.classes.classes_of.Goals as goal

pub returns : goal.returns
returns c =
    classes_are (json_of c.args.root) (json_if c.in_ok-settings.settings) c.in_ok-written.written c.with_rest.result c.in_ok-settings.ensures c.in_ok-written.ensures c.with_rest.ensures
