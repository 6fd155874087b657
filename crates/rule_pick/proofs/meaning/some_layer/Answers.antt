-- The names are looked at one after the other.
use Rattle.std.proofs.Common.{sym, subst, ◌∙◌, ◌<◌, ℕ, false, arith}
use Rattle.net_class.specs.Wild.{matches}
use Rattle.copper_layers.specs.Layers.{layer_names}
use Rattle.rule_pick.proofs.LayerNames.{found, other_name, not_there, count, at_end}
use Rattle.rule_pick.proofs.meaning.some_layer.Goals.{else-has-via-then-has+else-wild, else-has-via-else-has}
use Rattle.rule_pick.proofs.meaning.some_layer.Goals as goal

pub returns-then-wild : goal.returns-then-wild
returns-then-wild c = sym (c.loop-layer.invariant ∙ found (matches false c.args.pattern.now) c.args.layers c.loop-layer.layer layer_names c.layer_name.result.now c.layer_name.ensures (sym c.has.ensures ∙ c.if-has.true) (sym c.wild.ensures.computed ∙ c.if-wild.true))

pub loop-layer-preserved : goal.loop-layer-preserved
loop-layer-preserved c = elim c.else-has.branch [
  | else-has-via-then-has+else-wild w ↦ c.loop-layer.invariant ∙ other_name (matches false c.args.pattern.now) c.args.layers c.loop-layer.layer layer_names w.layer_name.result.now w.layer_name.ensures (sym c.has.ensures ∙ w.if-has.true) (sym w.wild.ensures.computed ∙ w.if-wild.false)
  | else-has-via-else-has w ↦ c.loop-layer.invariant ∙ not_there (matches false c.args.pattern.now) c.args.layers c.loop-layer.layer layer_names (subst (λ (k : ℕ). c.loop-layer.layer < k) (sym count) (omega arith)) (sym c.has.ensures ∙ w.if-has.false)
]

pub returns : goal.returns
returns c = sym (c.loop-layer.invariant ∙ at_end (matches false c.args.pattern.now) c.args.layers c.loop-layer.layer (omega arith))
