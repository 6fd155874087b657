-- The layers that a rule acts on, by their names.
use Rattle.std.specs.Prelude.{ℕ, codes, Option, Some, Result, if◌then◌else◌}
use Rattle.std.specs.List.{position_from}
use Rattle.std.specs.Option.{option_map}
use Rattle.sexpr_read.specs.Tree.{Tree}
use Rattle.copper_layers.specs.Layers.{layer_names}
use Rattle.cond_lang.specs.declared.rule.RuleLayer.{RuleLayer}
use Rattle.cond_lang.specs.declared.rule.RuleLayer.TheVariants.{Outer, Inner, One}
use Rattle.rule_text.specs.declared.error.RuleError.{RuleError}
use Rattle.rule_text.specs.declared.error.RuleError.TheVariants.{Bad}
use Rattle.list_read.specs.FirstRefusals.{◌>>=◌, needed}
use Rattle.list_read.specs.ListHeads.{place, is_text}
use Rattle.rule_text.specs.RuleForms.{atom_at}

-- the copper layer that an atom names: the place of its name
unfoldable pub layer_number : Tree → Option ℕ
layer_number atom = position_from (is_text atom) 0 layer_names

-- the layers that a word stands for
unfoldable pub layer_named : Tree → Option RuleLayer
layer_named atom =
    if is_text atom (codes "outer") then Some Outer
    else if is_text atom (codes "inner") then Some Inner
    else option_map One (layer_number atom)

-- (layer WORD)
unfoldable pub layer_in : Tree → Result RuleLayer RuleError
layer_in clause = do
  atom ← atom_at clause
  needed (Bad (place atom)) (layer_named atom)
