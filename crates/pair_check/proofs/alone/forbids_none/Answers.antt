use Rattle.std.proofs.Common.{◌≡◌, refl, sym, ◌∙◌, Bool, true, false, not}
use Rattle.pair_check.proofs.AskedKinds.{forbids_nothing}
use Rattle.pair_check.proofs.alone.forbids_none.Goals as goal

off : (asked : Bool) → not asked ≡ true → asked ≡ false
off false e = refl
off true e = absurd cc

pub returns : goal.returns
returns c = λ e. record {
  none = λ item facts layer. forbids_nothing c.args.view.now.rules.now _ c.args.kind c.requires (sym c.some_asks.ensures ∙ off c.some_asks.result e) item facts layer _;
}
