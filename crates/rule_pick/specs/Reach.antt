-- How far checks reach: the greatest distance that a rule, a class, the board or an item asks for, in nanometres.
use Rattle.std.specs.Prelude.{ℕ, ℤ, ◌≤ℤ◌, Bool, true, false, List, [], ◌∷◌, ◌++◌, map, All, Contains, Option, None, Some, if◌then◌else◌}
use Rattle.std.specs.List.{flat_map}
use Rattle.one_item.specs.declared.item.Item.{Item}
use Rattle.board_items.specs.Boards.{PlainBoard}
use Rattle.net_class.specs.NetClasses.{PlainMins, PlainClasses}
use Rattle.cond_lang.specs.declared.kind.Kind.{Kind}
use Rattle.cond_lang.specs.declared.kind.Kind.TheVariants.{Clearance, HoleClearance, HoleToHole, PhysicalClearance, PhysicalHoleClearance}
use Rattle.cond_lang.specs.declared.kind.Family.{Family}
use Rattle.cond_lang.specs.declared.kind.Family.TheVariants.{Meets, Keeps, Limits, Forbids}
use Rattle.cond_lang.specs.CheckKinds.{family}
use Rattle.cond_lang.specs.Rules.{PlainConstraint, PlainRule}
use Rattle.rule_pick.specs.declared.asking.Between.{Between}
use Rattle.rule_pick.specs.declared.asking.Between.TheVariants.{Items, Coppers}
use Rattle.rule_pick.specs.Deciding.{asked_least}

abbrev pub asks_distance : Family → Bool
asks_distance Meets = false
asks_distance Keeps = true
asks_distance Limits = false
asks_distance Forbids = false

-- the kinds that ask two items to keep a distance
abbrev pub is_between_two : Kind → Bool
is_between_two kind = asks_distance (family kind)

-- the kinds that ask two pieces of copper to keep a distance
abbrev pub is_of_copper : Kind → Bool
is_of_copper Clearance = true
is_of_copper HoleClearance = true
is_of_copper HoleToHole = true
is_of_copper PhysicalClearance = true
is_of_copper PhysicalHoleClearance = true
is_of_copper _ = false

-- the kinds that ask any two items, or two pieces of copper, to keep a distance
abbrev pub is_between : Between → Kind → Bool
is_between Items kind = is_between_two kind
is_between Coppers kind = is_of_copper kind

-- the least value, where the kind is such a one
abbrev pub asked_between : Between → PlainConstraint → List ℤ
asked_between between c = if is_between between c.kind then asked_least c ∷ [] else []

abbrev pub distances_between : Between → PlainRule → List ℤ
distances_between between rule = flat_map (asked_between between) rule.constraints

-- what is asked of any two items
abbrev pub distance_asked : PlainConstraint → List ℤ
distance_asked c = asked_between Items c

abbrev pub distances_of : PlainRule → List ℤ
distances_of rule = flat_map distance_asked rule.constraints

-- the clearances of all classes
abbrev pub clearances_of : PlainClasses → List ℤ
clearances_of classes = map (λ c. c.clearance) (classes.default ∷ classes.named)

-- the least distances of the board
abbrev pub least_distances : PlainMins → List ℤ
least_distances mins = mins.min_clearance ∷ mins.min_hole_clearance ∷ mins.min_hole_to_hole ∷ mins.min_copper_edge_clearance ∷ []

abbrev pub one_if : Option ℤ → List ℤ
one_if None = []
one_if (Some nm) = nm ∷ []

-- the clearances that items have of their own
abbrev pub local_clearances : List (ℕ × Item) → List ℤ
local_clearances items = flat_map (λ entry. one_if entry.1.local) items

-- all distances that are asked for
abbrev pub distances_asked : PlainBoard → PlainClasses → List PlainRule → List ℤ
distances_asked board classes rules =
    flat_map distances_of rules ++ (clearances_of classes ++ (least_distances classes.mins ++ local_clearances board.items))

-- one of the values, and none is greater
pub record IsGreatestOf (values : List ℤ) (n : ℤ) : Type 0 where
  pub most : All (λ v. v ≤ℤ n) values
  pub one : Contains values n

abbrev pub IsReach : PlainBoard → PlainClasses → List PlainRule → ℤ → Type 0
IsReach board classes rules n = IsGreatestOf (distances_asked board classes rules) n
