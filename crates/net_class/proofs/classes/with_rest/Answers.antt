use Rattle.std.proofs.Common.{map}
use Rattle.json_exact.specs.Handles.{json_of}
use Rattle.net_class.specs.ClassValues.{json_if, plain_class, plain_pattern, mins_of}
use Rattle.net_class.proofs.Whole.{rest_is}
use Rattle.net_class.proofs.classes.with_rest.Goals as goal

pub returns : goal.returns
returns c =
    rest_is (json_of c.args.root) (json_if c.args.settings) c.args.written (map plain_pattern c.in_ok-patterns.patterns.items) (mins_of c.in_ok-mins.mins)
    c.in_ok-patterns.ensures c.in_ok-mins.ensures
    (plain_class c.in_ok-default.default) (map plain_class c.in_ok-named.named.items) c.default_clearance-clearance.result.nm
    c.default_clearance-clearance.ensures c.in_ok-default.ensures c.in_ok-named.ensures
