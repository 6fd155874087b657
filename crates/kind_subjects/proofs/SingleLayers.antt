-- The layers on which a single item is asked and measured.
use Rattle.std.proofs.Common.{◌≡◌, ◌⊎◌, inl, inr, refl, sym, ap, subst, ℕ, ◌<◌, ◌≤◌, Bool, true, false, IsTrue, if◌then◌else◌, List, arith}
use Rattle.copper_layers.specs.declared.set.LayerSet.{LayerSet}
use Rattle.copper_layers.specs.Layers.{has_layer}
use Rattle.one_item.specs.declared.parts.Part.{Part}
use Rattle.one_item.specs.declared.item.What.{What}
use Rattle.one_item.specs.declared.item.What.TheVariants as what
use Rattle.one_item.specs.declared.item.Item.{Item}
use Rattle.cond_lang.specs.declared.kind.Kind.{Kind}
use Rattle.rule_pick.specs.FactsOf.{SomeOn}
use Rattle.kind_subjects.specs.declared.subject.Measure.{Measure}
use Rattle.kind_subjects.specs.declared.subject.Measure.TheVariants.{Width, Diameter, Bore, Ring}
use Rattle.kind_subjects.specs.declared.subject.Subject.{Subject}
use Rattle.kind_subjects.specs.declared.subject.Subject.TheVariants.{Sides, Length, Whole}
use Rattle.kind_subjects.specs.declared.layer.RowLayer.{RowLayer}
use Rattle.kind_subjects.specs.declared.layer.RowLayer.TheVariants.{Copper, FrontYard, BackYard, Nowhere}
use Rattle.kind_subjects.specs.Subjects.{subject_of}
use Rattle.kind_subjects.specs.KindLayers.{IsMeasuredOn, IsSeenOn, IsLayerOf, IsCopper, IsNowhere}
use Rattle.kind_subjects.specs.TriedLayers.{rank, IsTried}
use Rattle.kind_subjects.specs.SingleLayers.{LiesAt, IsAskedAt, IsOnCopper, IsMeasuredBy, IsMeasuredIn, IsMeasuredAt}

nowhere : (layer : RowLayer) → layer ≡ Nowhere → IsNowhere layer
nowhere layer e = subst IsNowhere (sym e) tt

on_copper : (copper : LayerSet) (parts : List Part) (layer : RowLayer) → IsTried copper layer → IsOnCopper parts layer → IsCopper layer
on_copper copper parts (Copper n) is at = is.below
on_copper copper parts _ is at = absurd at

measured_on : (copper : LayerSet) (measure : Measure) (item : Item) (layer : RowLayer) → IsTried copper layer → IsMeasuredBy measure item layer → IsMeasuredOn measure layer
measured_on copper Width item layer is at = on_copper copper item.copper layer is at
measured_on copper Diameter item layer is at = nowhere layer at
measured_on copper Bore item layer is at = nowhere layer at
measured_on copper Ring item layer is at = nowhere layer at

measured_in : (copper : LayerSet) (subject : Subject) (item : Item) (layer : RowLayer) → IsTried copper layer → IsMeasuredIn subject item layer → IsSeenOn subject layer
measured_in copper (Sides operand_kinds) item layer is at = absurd at
measured_in copper (Length measure) item layer is at = measured_on copper measure item layer is at
measured_in copper Whole item layer is at = absurd at

pub limit_layer : (copper : LayerSet) (kind : Kind) (item : Item) (layer : RowLayer) → IsTried copper layer → IsMeasuredAt kind item layer → IsLayerOf kind layer
limit_layer copper kind item layer is at = measured_in copper (subject_of kind) item layer is at

-- where the layers of the copper have places from the one to before the other, the width of a track is measured on such places
pub width_within : (item : Item) (parts : List Part) (set : LayerSet) (from to : ℕ) → item.copper ≡ parts → ((layer : ℕ) → SomeOn layer parts → IsTrue (has_layer set layer))
    → ((layer : ℕ) → IsTrue (has_layer set layer) → (from ≤ layer) × (layer < to)) → (layer : RowLayer) → IsOnCopper item.copper layer → (from ≤ rank layer) × (rank layer < to)
width_within item parts set from to same each places (Copper n) at = places n (each n (subst (λ (ps : List Part). SomeOn n ps) same at))
width_within item parts set from to same each places _ at = absurd at

-- the other lengths are measured on none
pub none_within : (layer : RowLayer) → layer ≡ Nowhere → (34 ≤ rank layer) × (rank layer < 35)
none_within layer at = let e = ap rank at in (omega arith, omega arith)

lies_layer : (copper : LayerSet) (parts : List Part) (layer : RowLayer) → IsTried copper layer → LiesAt parts layer → IsCopper layer ⊎ IsNowhere layer
lies_layer copper parts (Copper n) is at = inl is.below
lies_layer copper parts Nowhere is at = inr tt
lies_layer copper parts FrontYard is at = absurd at
lies_layer copper parts BackYard is at = absurd at

no_yard : (on_back : Bool) (yard : RowLayer) → (yard ≡ FrontYard) ⊎ (yard ≡ BackYard) → yard ≡ (if on_back then Copper 31 else Copper 0) → ⊥
no_yard true yard (inl e) f = cc
no_yard true yard (inr e) f = cc
no_yard false yard (inl e) f = cc
no_yard false yard (inr e) f = cc

side_layer : (copper : LayerSet) (on_back : Bool) (layer : RowLayer) → IsTried copper layer → layer ≡ (if on_back then Copper 31 else Copper 0) → IsCopper layer ⊎ IsNowhere layer
side_layer copper on_back (Copper n) is e = inl is.below
side_layer copper on_back Nowhere is e = inr tt
side_layer copper on_back FrontYard is e = absurd (no_yard on_back FrontYard (inl refl) e)
side_layer copper on_back BackYard is e = absurd (no_yard on_back BackYard (inr refl) e)

pub asked_at : (copper : LayerSet) (item : Item) (w : What) (layer : RowLayer) → IsTried copper layer → IsAskedAt item w layer → IsCopper layer ⊎ IsNowhere layer
asked_at copper item (what.Body reference front back on_back) layer is at = side_layer copper on_back layer is at
asked_at copper item (what.Edge lines) layer is at = absurd at
asked_at copper item (what.Area title bans shape) layer is at = absurd at
asked_at copper item (what.Note about at_layer) layer is at = absurd at
asked_at copper item _ layer is at = lies_layer copper item.copper layer is at
