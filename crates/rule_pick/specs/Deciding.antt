-- Which value a kind of check has, between the items a and b or of a alone: a clearance of the items' own, that of the last rule
-- of the text that matches, or the board's default. Lengths are in nanometres.
use Rattle.std.specs.Prelude.{◌≡◌, ◌⊎◌, ℕ, ◌<◌, ℤ, pos, ◌==◌, Bool, true, false, ◌&&◌, ◌||◌, not, IsTrue, List, find, is_some, Option, None, Some, unwrap_or, if◌then◌else◌}
use Rattle.std.specs.Int.{int_max}
use Rattle.std.specs.List.{slice_get}
use Rattle.std.specs.Ordering.{int_eq}
use Rattle.net_class.specs.NetClasses.{PlainMins}
use Rattle.cond_lang.specs.declared.kind.Kind.{Kind}
use Rattle.cond_lang.specs.declared.kind.Kind.TheVariants.{Short, Clearance, HoleClearance, HoleToHole, EdgeClearance, CourtyardClearance, Keepout, TrackWidth, ViaDiameter, HoleSize, AnnularWidth, Disallow as DisallowKind, PhysicalClearance, PhysicalHoleClearance, Assertion}
use Rattle.cond_lang.specs.declared.rule.RuleLayer.{RuleLayer}
use Rattle.cond_lang.specs.declared.rule.RuleLayer.TheVariants.{Any, Outer, Inner, One}
use Rattle.cond_lang.specs.declared.rule.Severity.TheVariants.{Error}
use Rattle.cond_lang.specs.CheckKinds.{kind_number, has_own}
use Rattle.cond_lang.specs.Rules.{PlainConstraint, PlainRule, no_bans}
use Rattle.cond_lang.specs.Trees.{CondTree}
use Rattle.rule_pick.specs.declared.facts.Facts.{Facts}
use Rattle.rule_pick.specs.declared.kinds.Source.{Source}
use Rattle.rule_pick.specs.declared.kinds.Source.TheVariants.{Default, Local, Rule}
use Rattle.rule_pick.specs.Meaning.{holds}
use Rattle.rule_pick.specs.Picks.{Pick}

-- ---- what the board allows at least

-- The board's minimum of a kind; 0 where it has none, as for the size and the hole of a micro via.
abbrev pub minimum : PlainMins → Bool → Kind → ℤ
minimum mins micro Short = pos 0
minimum mins micro Clearance = mins.min_clearance
minimum mins micro HoleClearance = mins.min_hole_clearance
minimum mins micro HoleToHole = mins.min_hole_to_hole
minimum mins micro EdgeClearance = mins.min_copper_edge_clearance
minimum mins micro CourtyardClearance = pos 0
minimum mins micro Keepout = pos 0
minimum mins micro TrackWidth = mins.min_track_width
minimum mins micro ViaDiameter = if micro then pos 0 else mins.min_via_diameter
minimum mins micro HoleSize = if micro then pos 0 else mins.min_through_hole_diameter
minimum mins micro AnnularWidth = mins.min_via_annular_width
minimum mins micro DisallowKind = pos 0
minimum mins micro PhysicalClearance = pos 0
minimum mins micro PhysicalHoleClearance = pos 0
minimum mins micro Assertion = pos 0

-- without a rule something may be asked of the kind: by classes and items, or by the board's minimum
abbrev pub has_default : PlainMins → Kind → Bool
has_default mins kind = has_own kind || not (int_eq (minimum mins false kind) (pos 0))

-- ---- clearances of the items' own

abbrev pub local_if : Option Facts → Option ℤ
local_if None = None
local_if (Some f) = f.local

-- the greater, where there are two
abbrev pub greater_if : Option ℤ → Option ℤ → Option ℤ
greater_if None other = other
greater_if (Some nm) None = Some nm
greater_if (Some nm) (Some other) = Some (int_max nm other)

-- where the kind has such values, the greatest of those that the items have
abbrev pub local_of : Kind → Facts → Option Facts → Option ℤ
local_of kind a b = if has_own kind then greater_if a.local (local_if b) else None

-- ---- rules

-- what the rule asks of the kind, the first where it asks twice
abbrev pub asked_by : Kind → PlainRule → Option PlainConstraint
asked_by kind rule = find (λ c. kind_number c.kind == kind_number kind) rule.constraints

-- the rule asks this of the kind
abbrev pub Asks : Kind → PlainRule → PlainConstraint → Type 0
Asks kind rule constraint = asked_by kind rule ≡ Some constraint

-- F.Cu or B.Cu
abbrev pub is_outer : ℕ → Bool
is_outer layer = (layer == 0) || (layer == 31)

-- the rule acts on the layer; where no layer is asked, only a rule that names none does
abbrev pub admits : RuleLayer → Option ℕ → Bool
admits Any layer = true
admits Outer None = false
admits Outer (Some layer) = is_outer layer
admits Inner None = false
admits Inner (Some layer) = if is_outer layer then false else true
admits (One own) None = false
admits (One own) (Some layer) = own == layer

-- the condition holds one way or the other; of a single item it is asked alone
abbrev pub holds_either_way : CondTree → Facts → Option Facts → Bool
holds_either_way cond a None = holds cond a None
holds_either_way cond a (Some b) = holds cond a (Some b) || holds cond b (Some a)

-- a rule without a condition holds of all items
abbrev pub applies : Option CondTree → Facts → Option Facts → Bool
applies None a b = true
applies (Some cond) a b = holds_either_way cond a b

-- the rule asks something of the kind, acts on the layer, and its condition holds
unfoldable pub matches_rule : Kind → Facts → Option Facts → Option ℕ → PlainRule → Bool
matches_rule kind a b layer rule = is_some (asked_by kind rule) && (admits rule.layer layer && applies rule.cond a b)

-- this rule matches, and none after it does
pub record IsDeciding (rules : List PlainRule) (kind : Kind) (a : Facts) (b : Option Facts) (layer : Option ℕ) (place : ℕ) (rule : PlainRule) : Type 0 where
  pub stands : slice_get rules place ≡ Some rule
  pub matches : IsTrue (matches_rule kind a b layer rule)
  pub none_later : (later : ℕ) (other : PlainRule) → place < later → slice_get rules later ≡ Some other → matches_rule kind a b layer other ≡ false

-- no rule matches
abbrev pub NoneMatches : List PlainRule → Kind → Facts → Option Facts → Option ℕ → Type 0
NoneMatches rules kind a b layer = (place : ℕ) (rule : PlainRule) → slice_get rules place ≡ Some rule → matches_rule kind a b layer rule ≡ false

-- ---- what is picked

-- without a rule there is a least value alone, and what breaks it is an error
abbrev pub pick_least : Source → ℤ → Pick
pick_least source least = record { least = least; most = None; bans = no_bans; source = source; severity = Error; holds = true }

abbrev pub class_clearance_if : Option Facts → ℤ → ℤ
class_clearance_if None nm = nm
class_clearance_if (Some f) nm = int_max f.class_clearance nm

-- the board's minimum, where classes have values of their own the greatest of it and of theirs
abbrev pub default_least : ℤ → Kind → Facts → Option Facts → ℤ
default_least least kind a b = if has_own kind then class_clearance_if b (int_max a.class_clearance least) else least

-- what an assertion claims, of a alone; the other kinds claim nothing
abbrev pub claim_holds : Option CondTree → Facts → Bool
claim_holds None a = true
claim_holds (Some claim) a = holds claim a None

-- a missing least value is 0
abbrev pub asked_least : PlainConstraint → ℤ
asked_least c = unwrap_or c.least (pos 0)

-- what the rule asks, but not below the board's minimum
abbrev pub pick_of_rule : ℤ → Facts → ℕ → PlainRule → PlainConstraint → Pick
pick_of_rule least a place rule c = record {
  least = int_max (asked_least c) least;
  most = c.most;
  bans = c.bans;
  source = Rule place;
  severity = rule.severity;
  holds = claim_holds c.claim a;
}

-- the items have a clearance of their own
pub record IsLocalPick (mins : PlainMins) (kind : Kind) (a : Facts) (b : Option Facts) (picked : Pick) : Type 0 where
  pub nm : ℤ
  pub local : local_of kind a b ≡ Some nm
  pub value : picked ≡ pick_least Local (int_max nm (minimum mins a.micro kind))

-- they have none, and a rule decides
pub record IsRulePick (rules : List PlainRule) (mins : PlainMins) (kind : Kind) (a : Facts) (b : Option Facts) (layer : Option ℕ) (picked : Pick) : Type 0 where
  pub place : ℕ
  pub rule : PlainRule
  pub constraint : PlainConstraint
  pub local : local_of kind a b ≡ None
  pub deciding : IsDeciding rules kind a b layer place rule
  pub asked : Asks kind rule constraint
  pub value : picked ≡ pick_of_rule (minimum mins a.micro kind) a place rule constraint

-- they have none, and no rule decides
pub record IsDefaultPick (rules : List PlainRule) (mins : PlainMins) (kind : Kind) (a : Facts) (b : Option Facts) (layer : Option ℕ) (picked : Pick) : Type 0 where
  pub local : local_of kind a b ≡ None
  pub no_rule : NoneMatches rules kind a b layer
  pub value : picked ≡ pick_least Default (default_least (minimum mins a.micro kind) kind a b)

abbrev pub IsPick : List PlainRule → PlainMins → Kind → Facts → Option Facts → Option ℕ → Pick → Type 0
IsPick rules mins kind a b layer picked =
    IsLocalPick mins kind a b picked ⊎ (IsRulePick rules mins kind a b layer picked ⊎ IsDefaultPick rules mins kind a b layer picked)
