-- What faces each other are parts of the two items, so that what is far apart neither meets nor is too near.
use Rattle.std.proofs.Common.{◌⊎◌, ℕ, nat_eq, ℤ, pos, ◌*ℤ◌, Bool, true, false, List, [], ◌∷◌, ◌++◌, All, Option, inl, inr, subst}
use Rattle.std.specs.Bool.{if◌then◌else◌}
use Rattle.std.proofs.lemmas.List.Elements.{All-nil, All-cons, All-head, All-tail, All-filter, All-weaker}
use Rattle.geo_seg.specs.Distances.{Apart}
use Rattle.one_item.specs.declared.parts.Part.{Part}
use Rattle.one_item.specs.declared.item.Hole.{Hole}
use Rattle.one_item.specs.declared.item.What.{What}
use Rattle.one_item.specs.declared.item.What.TheVariants.{Track, Via, Pad, Graphic, Fill, Edge, Area, Body, Note}
use Rattle.one_item.specs.declared.item.Item.{Item}
use Rattle.copper_layers.specs.Layers.{has_layer}
use Rattle.one_item.specs.CopperPairs.{on_layer, SomeMeet, Keeps}
use Rattle.one_item.specs.ItemParts.{parts_of, hole_parts, kind_parts}
use Rattle.cond_lang.specs.declared.kind.Kind.{Kind}
use Rattle.kind_subjects.specs.declared.subject.OperandKinds.{OperandKinds}
use Rattle.kind_subjects.specs.declared.subject.OperandKinds.TheVariants.{Coppers, HolesAndCopper, Holes, EdgesAndCopper, Yards, Areas}
use Rattle.kind_subjects.specs.declared.subject.Subject.{Subject}
use Rattle.kind_subjects.specs.declared.subject.Subject.TheVariants.{Sides, Length, Whole}
use Rattle.kind_subjects.specs.Subjects.{subject_of}
use Rattle.rule_pick.specs.FactsOf.{placed_parts, parts_asked}
use Rattle.item_copper.proofs.Far.{IsFar}
use Rattle.kind_subjects.specs.declared.layer.RowLayer.{RowLayer}
use Rattle.kind_subjects.specs.declared.layer.RowLayer.TheVariants.{Copper, FrontYard, BackYard, Nowhere}
use Rattle.kind_subjects.specs.MeasuredPair.{MeasuredPair, measured_pair, copper_on, hole_on, hole_without, hole_alone, lines_of, front_of, back_of, area_on, yard_on, placed_on, faced, measured_pairs_in, measured_pairs, MeetAt, KeepAt}

-- ---- parts of one item
module _ (P : Part → Type 0) where
  prefix_all : (xs ys : List Part) → All P (xs ++ ys) → All P xs
  prefix_all [] ys a = All-nil P
  prefix_all (x ∷ xs) ys a = All-cons P x xs (All-head P x (xs ++ ys) a) (prefix_all xs ys (All-tail P x (xs ++ ys) a))

  back_all : (xs ys : List Part) → All P (xs ++ ys) → All P ys
  back_all [] ys a = a
  back_all (x ∷ xs) ys a = back_all xs ys (All-tail P x (xs ++ ys) a)

  if_all : (b : Bool) (xs ys : List Part) → All P xs → All P ys → All P (if b then xs else ys)
  if_all true xs ys h k = h
  if_all false xs ys h k = k

  yard_all : (layer : ℕ) (prefix back : List Part) → All P prefix → All P back → All P (yard_on layer prefix back)
  yard_all layer prefix back h k = if_all (nat_eq layer 0) prefix (if nat_eq layer 31 then back else []) h (if_all (nat_eq layer 31) back [] k (All-nil P))

  placed_all : (copper : List Part) (hole : Option Hole) → All P copper → All P (hole_parts hole) → All P (placed_parts copper hole)
  placed_all [] hole c h = h
  placed_all (part ∷ parts) hole c h = c

  without_all : (copper : List Part) (hole : Option Hole) → All P (hole_parts hole) → All P (hole_without copper hole)
  without_all [] hole h = h
  without_all (part ∷ parts) hole h = All-nil P

  on_all : (layer : ℕ) (xs : List Part) → All P xs → All P (on_layer layer xs)
  on_all layer xs h = All-filter (λ (part : Part). has_layer part.layers layer) P xs h

  lines_all : (what : What) → All P (kind_parts what) → All P (lines_of what)
  lines_all (Edge lines) h = h
  lines_all (Track width) h = All-nil P
  lines_all (Via size drill micro blind) h = All-nil P
  lines_all (Pad number reference) h = All-nil P
  lines_all Graphic h = All-nil P
  lines_all Fill h = All-nil P
  lines_all (Area title bans shape) h = All-nil P
  lines_all (Body reference prefix back on_back) h = All-nil P
  lines_all (Note about layer) h = All-nil P

  prefixes_all : (what : What) → All P (kind_parts what) → All P (front_of what)
  prefixes_all (Body reference prefix back on_back) h = prefix_all prefix back h
  prefixes_all (Edge lines) h = All-nil P
  prefixes_all (Track width) h = All-nil P
  prefixes_all (Via size drill micro blind) h = All-nil P
  prefixes_all (Pad number reference) h = All-nil P
  prefixes_all Graphic h = All-nil P
  prefixes_all Fill h = All-nil P
  prefixes_all (Area title bans shape) h = All-nil P
  prefixes_all (Note about layer) h = All-nil P

  backs_all : (what : What) → All P (kind_parts what) → All P (back_of what)
  backs_all (Body reference prefix back on_back) h = back_all prefix back h
  backs_all (Edge lines) h = All-nil P
  backs_all (Track width) h = All-nil P
  backs_all (Via size drill micro blind) h = All-nil P
  backs_all (Pad number reference) h = All-nil P
  backs_all Graphic h = All-nil P
  backs_all Fill h = All-nil P
  backs_all (Area title bans shape) h = All-nil P
  backs_all (Note about layer) h = All-nil P

  areas_all : (layer : ℕ) (what : What) → All P (kind_parts what) → All P (area_on layer what)
  areas_all layer (Area title bans shape) h = on_all layer (shape ∷ []) h
  areas_all layer (Body reference prefix back on_back) h = All-nil P
  areas_all layer (Edge lines) h = All-nil P
  areas_all layer (Track width) h = All-nil P
  areas_all layer (Via size drill micro blind) h = All-nil P
  areas_all layer (Pad number reference) h = All-nil P
  areas_all layer Graphic h = All-nil P
  areas_all layer Fill h = All-nil P
  areas_all layer (Note about at_layer) h = All-nil P

  seen_all : (layer : ℕ) (item : Item) (what : What) → All P (kind_parts what) → All P (on_layer layer (parts_asked item)) → All P (placed_on layer item what)
  seen_all layer item (Body reference prefix back on_back) h k = yard_all layer prefix back (prefix_all prefix back h) (back_all prefix back h)
  seen_all layer item (Area title bans shape) h k = k
  seen_all layer item (Edge lines) h k = k
  seen_all layer item (Track width) h k = k
  seen_all layer item (Via size drill micro blind) h k = k
  seen_all layer item (Pad number reference) h k = k
  seen_all layer item Graphic h k = k
  seen_all layer item Fill h k = k
  seen_all layer item (Note about at_layer) h k = k

  module _ (item : Item) (all : All P (parts_of item)) where
    copper : All P item.copper
    copper = prefix_all item.copper (hole_parts item.hole ++ kind_parts item.what) all

    rest : All P (hole_parts item.hole ++ kind_parts item.what)
    rest = back_all item.copper (hole_parts item.hole ++ kind_parts item.what) all

    pub hole : All P (hole_parts item.hole)
    hole = prefix_all (hole_parts item.hole) (kind_parts item.what) rest

    kind : All P (kind_parts item.what)
    kind = back_all (hole_parts item.hole) (kind_parts item.what) rest

    pub on_copper : (layer : ℕ) → All P (copper_on layer item)
    on_copper layer = on_all layer item.copper copper

    pub on_hole : (layer : ℕ) → All P (hole_on layer item)
    on_hole layer = on_all layer (hole_parts item.hole) hole

    pub alone : All P (hole_alone item)
    alone = without_all item.copper item.hole hole

    pub lines : All P (lines_of item.what)
    lines = lines_all item.what kind

    pub prefixes : All P (front_of item.what)
    prefixes = prefixes_all item.what kind

    pub backs : All P (back_of item.what)
    backs = backs_all item.what kind

    pub areas : (layer : ℕ) → All P (area_on layer item.what)
    areas layer = areas_all layer item.what kind

    pub seen : (layer : ℕ) → All P (placed_on layer item item.what)
    seen layer = seen_all layer item item.what kind (on_all layer (parts_asked item) (placed_all item.copper item.hole copper hole))

-- ---- what faces each other
module _ (P Q : Part → Type 0) (a b : Item) (all_a : All P (parts_of a)) (all_b : All Q (parts_of b)) where
  -- parts of the one item face parts of the other
  abbrev Between : MeasuredPair → Type 0
  Between f = (All P f.own × All Q f.others) ⊎ (All Q f.own × All P f.others)

  none : All Between []
  none = All-nil Between

  there : (own others : List Part) → All P own → All Q others → All Between (measured_pair own others ∷ [])
  there own others h k = All-cons Between (measured_pair own others) [] (inl (h, k)) none

  both : (own_of_a of_b own_of_b of_a : List Part) → All P own_of_a → All Q of_b → All Q own_of_b → All P of_a → All Between (measured_pair own_of_a of_b ∷ measured_pair own_of_b of_a ∷ [])
  both own_of_a of_b own_of_b of_a h k l m = All-cons Between (measured_pair own_of_a of_b) (measured_pair own_of_b of_a ∷ []) (inl (h, k)) (All-cons Between (measured_pair own_of_b of_a) [] (inr (l, m)) none)

  coppers : (layer : ℕ) → All Between (measured_pair (copper_on layer a) (copper_on layer b) ∷ [])
  coppers layer = there (copper_on layer a) (copper_on layer b) (on_copper P a all_a layer) (on_copper Q b all_b layer)

  holes : (layer : ℕ) → All Between (measured_pair (hole_on layer a) (copper_on layer b) ∷ measured_pair (hole_on layer b) (copper_on layer a) ∷ [])
  holes layer = both (hole_on layer a) (copper_on layer b) (hole_on layer b) (copper_on layer a) (on_hole P a all_a layer) (on_copper Q b all_b layer) (on_hole Q b all_b layer) (on_copper P a all_a layer)

  faced_between : (operand_kinds : OperandKinds) (layer : RowLayer) → All Between (faced operand_kinds layer a b)
  faced_between Coppers (Copper layer) = coppers layer
  faced_between HolesAndCopper (Copper layer) = holes layer
  faced_between Holes Nowhere = there (hole_parts a.hole) (hole_parts b.hole) (hole P a all_a) (hole Q b all_b)
  faced_between EdgesAndCopper (Copper layer) =
      both (lines_of a.what) (copper_on layer b) (lines_of b.what) (copper_on layer a) (lines P a all_a) (on_copper Q b all_b layer) (lines Q b all_b) (on_copper P a all_a layer)
  faced_between EdgesAndCopper Nowhere = both (lines_of a.what) (hole_alone b) (lines_of b.what) (hole_alone a) (lines P a all_a) (alone Q b all_b) (lines Q b all_b) (alone P a all_a)
  faced_between Yards FrontYard = there (front_of a.what) (front_of b.what) (prefixes P a all_a) (prefixes Q b all_b)
  faced_between Yards BackYard = there (back_of a.what) (back_of b.what) (backs P a all_a) (backs Q b all_b)
  faced_between Areas (Copper layer) =
      both (area_on layer a.what) (placed_on layer b b.what) (area_on layer b.what) (placed_on layer a a.what) (areas P a all_a layer) (seen Q b all_b layer) (areas Q b all_b layer) (seen P a all_a layer)
  faced_between _ _ = none

  measured_pairs_between : (kind : Kind) (layer : RowLayer) → All Between (measured_pairs kind layer a b)
  unfolding measured_pairs
  measured_pairs_between kind layer = by (subject_of kind)
    where
      by : (subject : Subject) → All Between (measured_pairs_in subject layer a b)
      by (Sides operand_kinds) = faced_between operand_kinds layer
      by (Length measure) = none
      by Whole = none

  -- ---- parts that are far from each other
  module _ (v : ℤ) (far : (p q : Part) → P p → Q q → IsFar v p q) (back : (p q : Part) → P p → Q q → IsFar v q p) where
    far_lists : (R S : Part → Type 0) → ((p q : Part) → R p → S q → IsFar v p q) → (own others : List Part) → All R own → All S others → All (λ p. All (λ q. IsFar v p q) others) own
    far_lists R S is own others h k = All-weaker R (λ p. All (λ q. IsFar v p q) others) (λ p r. All-weaker S (IsFar v p) (λ q s. is p q r s) others k) own h

    abbrev AllFar : MeasuredPair → Type 0
    AllFar f = All (λ p. All (λ q. IsFar v p q) f.others) f.own

    faced_far : (f : MeasuredPair) → Between f → AllFar f
    faced_far f (inl h) = far_lists P Q far f.own f.others h.0 h.1
    faced_far f (inr h) = far_lists Q P (λ q p s r. back p q r s) f.own f.others h.0 h.1

    far_keeps : (f : MeasuredPair) → Between f → Keeps f.own f.others v
    far_keeps f h = inr (record { each = All-weaker (λ p. All (λ q. IsFar v p q) f.others) (λ p. All (λ q. Apart p.shape q.shape (pos 2 *ℤ v)) f.others) (λ p a. All-weaker (IsFar v p) (λ q. Apart p.shape q.shape (pos 2 *ℤ v)) (λ q x. x.apart) f.others a) f.own (faced_far f h) })

    far_meets : (f : MeasuredPair) → Between f → SomeMeet f.own f.others → ⊥
    far_meets f h m =
        let one = m.some in
        let other = one.4 in
        let own : All (IsFar v one.1) f.others = subst (λ (p : Part). All (IsFar v p) f.others) one.3 (faced_far f h one.0 one.1 one.2) in
        let x : IsFar v one.1 other.1 = subst (IsFar v one.1) other.3 (own other.0 other.1 other.2) in
        x.no_meeting other.4

    pub all_kept : (kind : Kind) (layer : RowLayer) → KeepAt kind layer a b v
    all_kept kind layer = All-weaker Between (λ f. Keeps f.own f.others v) far_keeps (measured_pairs kind layer a b) (measured_pairs_between kind layer)

    pub none_meet : (kind : Kind) (layer : RowLayer) → MeetAt kind layer a b → ⊥
    none_meet kind layer m = far_meets m.1 (subst Between m.3 (measured_pairs_between kind layer m.0 m.1 m.2)) m.4
