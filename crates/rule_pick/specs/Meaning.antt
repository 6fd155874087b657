-- What a condition says of the facts of an item a, and of those of an item b where there is one (KiCad 7, PCB editor manual,
-- custom design rules). Nothing is said of an item that is not there, nor of a property that an item has not: a comparison with
-- it is false, also one by `!=`, and so is a question to it.
use Rattle.std.specs.Prelude.{ℕ, ◌+◌, ℤ, Bool, true, false, not, ◌&&◌, ◌||◌, int_le, int_lt, List, [], ◌∷◌, codes, Option, None, Some}
use Rattle.std.specs.Ordering.{int_eq}
use Rattle.std.specs.Str.{str_eq_ignore_ascii_case}
use Rattle.std.specs.List.{list_any}
use Rattle.copper_layers.specs.declared.set.LayerSet.{LayerSet}
use Rattle.copper_layers.specs.Layers.{has_layer, layer_names}
use Rattle.net_class.specs.Wild.{matches}
use Rattle.cond_lang.specs.declared.terms.Side.{Side}
use Rattle.cond_lang.specs.declared.terms.Side.TheVariants.{A, B}
use Rattle.cond_lang.specs.declared.terms.Func.{Func}
use Rattle.cond_lang.specs.declared.terms.Func.TheVariants.{ExistsOnLayer, IsPlated, IntersectsArea, IntersectsCourtyard}
use Rattle.cond_lang.specs.declared.terms.Prop.{Prop}
use Rattle.cond_lang.specs.declared.terms.Prop.TheVariants.{ItemType, NetClass, NetName, Width, Diameter, Hole}
use Rattle.cond_lang.specs.declared.terms.Op.{Op}
use Rattle.cond_lang.specs.declared.terms.Op.TheVariants.{Same, Differs, Less, AtMost, More, AtLeast}
use Rattle.cond_lang.specs.declared.terms.Term.{Term}
use Rattle.cond_lang.specs.declared.terms.Term.TheVariants.{Of, Text, Length}
use Rattle.cond_lang.specs.Trees.{CondTree, Trees, any, all, negated, call, compare, none, first}
use Rattle.rule_pick.specs.declared.kinds.ItemKind.{ItemKind}
use Rattle.rule_pick.specs.declared.kinds.ItemKind.TheVariants.{Track, Via, Pad, Graphic, Fill, Edge, Area, Body, Note}
use Rattle.rule_pick.specs.declared.facts.Facts.{Facts}

-- ---- properties

-- what stands on a side of a comparison
pub data Value : Type 0 where
  missing : Value
  text : List ℕ → Value
  length : ℤ → Value

-- the type of an item; notes have none
abbrev pub type_of : ItemKind → Value
type_of Track = text (codes "Track")
type_of Via = text (codes "Via")
type_of Pad = text (codes "Pad")
type_of Graphic = text (codes "Graphic")
type_of Fill = text (codes "Zone")
type_of Edge = text (codes "Graphic")
type_of Area = text (codes "Zone")
type_of Body = text (codes "Footprint")
type_of Note = missing

-- what may lie on a net
abbrev pub has_net : ItemKind → Bool
has_net Track = true
has_net Via = true
has_net Pad = true
has_net Graphic = true
has_net Fill = true
has_net Edge = false
has_net Area = false
has_net Body = false
has_net Note = false

abbrev pub text_if : Bool → List ℕ → Value
text_if true name = text name
text_if false name = missing

abbrev pub length_if : Option ℤ → Value
length_if None = missing
length_if (Some nm) = length nm

-- a property of an item
abbrev pub property : Prop → Facts → Value
property ItemType f = type_of f.kind
property NetClass f = text_if (has_net f.kind) f.class
property NetName f = text_if (has_net f.kind) f.net_name
property Width f = length_if f.width
property Diameter f = length_if f.diameter
property Hole f = length_if f.hole

abbrev pub property_if : Prop → Option Facts → Value
property_if prop None = missing
property_if prop (Some f) = property prop f

-- the item of a side
abbrev pub item_of : Side → Facts → Option Facts → Option Facts
item_of A a b = Some a
item_of B a b = b

unfoldable pub value_of : Term → Facts → Option Facts → Value
value_of (Of side prop) a b = property_if prop (item_of side a b)
value_of (Text pattern) a b = text pattern
value_of (Length nm) a b = length nm

-- ---- comparisons

-- Two texts agree where they are equal but for the case of ASCII. A text that stands on the right in quotes is a pattern.
abbrev pub do_agree : Term → List ℕ → List ℕ → Bool
do_agree (Text pattern) left right = matches true right left
do_agree (Of side prop) left right = str_eq_ignore_ascii_case left right
do_agree (Length nm) left right = str_eq_ignore_ascii_case left right

-- texts have no order
abbrev pub compare_texts : Op → Bool → Bool
compare_texts Same agree = agree
compare_texts Differs agree = not agree
compare_texts Less agree = false
compare_texts AtMost agree = false
compare_texts More agree = false
compare_texts AtLeast agree = false

abbrev pub compare_lengths : Op → ℤ → ℤ → Bool
compare_lengths Same left right = int_eq left right
compare_lengths Differs left right = not (int_eq left right)
compare_lengths Less left right = int_lt left right
compare_lengths AtMost left right = int_le left right
compare_lengths More left right = int_lt right left
compare_lengths AtLeast left right = int_le right left

-- the term is that on the right; a text is not compared with a length
abbrev pub compare_values : Op → Term → Value → Value → Bool
compare_values op term (text left) (text right) = compare_texts op (do_agree term left right)
compare_values op term (length left) (length right) = compare_lengths op left right
compare_values op term (text left) (length right) = false
compare_values op term (length left) (text right) = false
compare_values op term (text left) missing = false
compare_values op term (length left) missing = false
compare_values op term missing right = false

unfoldable pub compares : Term → Op → Term → Facts → Option Facts → Bool
compares left op right a b = compare_values op right (value_of left a b) (value_of right a b)

-- ---- questions

-- some layer of the set, whose name is among these from this number on, has a name that passes the test
unfoldable pub some_layer : (List ℕ → Bool) → LayerSet → ℕ → List (List ℕ) → Bool
some_layer test layers number [] = false
some_layer test layers number (name ∷ names) = (has_layer layers number && test name) || some_layer test layers (number + 1) names

-- whether the pattern matches the name of a layer of the item, case kept
unfoldable pub exists_on_layer : List ℕ → Facts → Bool
exists_on_layer pattern f = some_layer (matches false pattern) f.layers 0 layer_names || (f.on_edge && matches false pattern (codes "Edge.Cuts"))

-- whether the pattern matches one of the names, but for the case of ASCII
abbrev pub some_name : List ℕ → List (List ℕ) → Bool
some_name pattern names = list_any (matches true pattern) names

abbrev pub answer : Func → List ℕ → Facts → Bool
answer ExistsOnLayer pattern f = exists_on_layer pattern f
answer IsPlated pattern f = f.plated
answer IntersectsArea pattern f = some_name pattern f.areas
answer IntersectsCourtyard pattern f = some_name pattern f.courtyards

abbrev pub answer_if : Func → List ℕ → Option Facts → Bool
answer_if func pattern None = false
answer_if func pattern (Some f) = answer func pattern f

unfoldable pub answers : Side → Func → List ℕ → Facts → Option Facts → Bool
answers side func pattern a b = answer_if func pattern (item_of side a b)

-- ---- conditions

abbrev mutual
  -- the condition holds of a, and of b if it is there
  pub holds : CondTree → Facts → Option Facts → Bool
  holds (any parts) a b = some_hold parts a b
  holds (all parts) a b = all_hold parts a b
  holds (negated inner) a b = not (holds inner a b)
  holds (call side func pattern) a b = answers side func pattern a b
  holds (compare left op right) a b = compares left op right a b

  pub some_hold : Trees → Facts → Option Facts → Bool
  some_hold none a b = false
  some_hold (first part parts) a b = holds part a b || some_hold parts a b

  pub all_hold : Trees → Facts → Option Facts → Bool
  all_hold none a b = true
  all_hold (first part parts) a b = holds part a b && all_hold parts a b
