use Rattle.std.proofs.Common.{◌≤◌, ℕ, IsTrue, ◌↔◌, min, max, bit_and, sym, subst, ap, arith}
use Rattle.copper_layers.specs.Layers.{has_layer, is_within}
use Rattle.copper_layers.proofs.LayerLemmas.{mask_fits, mask_is, between_within, between_layers}
use Rattle.copper_layers.proofs.set.LayerSet.between.Goals as goal

pub overflow_sub-result : goal.overflow_sub-result
overflow_sub-result c = mask_fits c.min.result c.max.result (omega arith) (omega arith)

pub returns-clause-value : goal.returns-clause-value
returns-clause-value c =
    let mask = mask_is c.args.a c.args.b c.min.result c.max.result c.min.ensures c.max.ensures c.requires.first c.requires.second in
    ap (λ n. record { bits = bit_and c.args.self.bits n }) mask

pub returns-clause-within : goal.returns-clause-within
returns-clause-within c =
    let mask = mask_is c.args.a c.args.b c.min.result c.max.result c.min.ensures c.max.ensures c.requires.first c.requires.second in
    subst (λ (n : ℕ). IsTrue (is_within (record { bits = bit_and c.args.self.bits n }) c.args.self)) (sym mask) (between_within c.args.self c.args.a c.args.b)

pub returns-clause-each : goal.returns-clause-each
returns-clause-each c = λ layer.
    let mask = mask_is c.args.a c.args.b c.min.result c.max.result c.min.ensures c.max.ensures c.requires.first c.requires.second in
    subst (λ (n : ℕ). IsTrue (has_layer (record { bits = bit_and c.args.self.bits n }) layer) ↔ (IsTrue (has_layer c.args.self layer) × (min c.args.a c.args.b ≤ layer) × (layer ≤ max c.args.a c.args.b))) (sym mask)
    (between_layers c.args.self c.args.a c.args.b layer)
