-- Kinds of which nothing is asked.
use Rattle.std.proofs.Common.{◌≡◌, inl, inr, refl, sym, ap, subst, ◌∙◌, ℕ, ◌==◌, ℤ, pos, Bool, true, false, not, cond, ◌&&◌, ◌||◌, is_some, List, [], ◌∷◌, map, All, Option, None, Some, find, arith}
use Rattle.std.specs.Bool.{if◌then◌else◌}
use Rattle.std.specs.Int.{int_max}
use Rattle.std.specs.Ordering.{int_eq}
use Rattle.std.proofs.lemmas.Int.{ints}
use Rattle.std.specs.List.{list_any}
use Rattle.std.proofs.lemmas.List.Elements.{All-nil, All-cons}
use Rattle.copper_layers.specs.declared.set.LayerSet.{LayerSet}
use Rattle.one_item.specs.declared.item.What.{What}
use Rattle.one_item.specs.declared.item.What.TheVariants as what
use Rattle.one_item.specs.declared.item.Item.{Item}
use Rattle.net_class.specs.NetClasses.{PlainMins}
use Rattle.cond_lang.specs.declared.kind.Kind.{Kind}
use Rattle.cond_lang.specs.declared.kind.Kind.TheVariants.{Clearance, ViaDiameter, HoleSize}
use Rattle.cond_lang.specs.declared.kind.Family.TheVariants.{Forbids as Forbidding}
use Rattle.cond_lang.specs.declared.rule.Disallow.{Disallow as Bans}
use Rattle.cond_lang.specs.declared.constraint.Constraint.{Constraint}
use Rattle.cond_lang.specs.declared.constraints.Rule.{Rule}
use Rattle.cond_lang.specs.CheckKinds.{family, kind_number, has_own, is_assertion}
use Rattle.cond_lang.specs.Rules.{PlainConstraint, PlainRule, no_bans, plain_constraint, plain_rule}
use Rattle.rule_pick.specs.declared.facts.Facts.{Facts}
use Rattle.rule_pick.specs.Deciding.{minimum, has_default, greater_if, local_if, class_clearance_if, local_of, asked_by, IsPick}
use Rattle.rule_pick.specs.Picks.{Pick}
use Rattle.kind_subjects.specs.declared.layer.RowLayer.{RowLayer}
use Rattle.kind_subjects.specs.TriedLayers.{asked_layer}
use Rattle.pair_check.specs.Asked.{asks, some_asks, AsksNothing}
use Rattle.pair_check.specs.Pairs.{Deciders, Pair, IsNearAt}
use Rattle.pair_check.specs.Singles.{bans_what, bans_item, ForbidsBy, Forbids, IsForbiddenAt}
use Rattle.kind_subjects.specs.MeasuredPair.{may_not_meet}
use Rattle.kind_subjects.proofs.NearLayers.{not_near, kept_none}
use Rattle.kind_subjects.proofs.Unfaced.{unlike}
use Rattle.pair_check.proofs.NearPicks.{at_has}

-- ---- rules that ask nothing

either_none : (b c : Bool) → (b || c) ≡ false → (b ≡ false) × (c ≡ false)
either_none false c e = (refl, e)
either_none true c e = absurd (cc)

found_none : (kind : Kind) (xs : List Constraint) → list_any (λ (c : Constraint). kind_number c.kind == kind_number kind) xs ≡ false
    → find (λ (c : PlainConstraint). kind_number c.kind == kind_number kind) (map plain_constraint xs) ≡ None
found_none kind [] e = refl
found_none kind (x ∷ xs) e =
    let parts = either_none (kind_number x.kind == kind_number kind) (list_any (λ (c : Constraint). kind_number c.kind == kind_number kind) xs) e in
    ap (λ b. cond b (Some (plain_constraint x)) (find (λ (c : PlainConstraint). kind_number c.kind == kind_number kind) (map plain_constraint xs))) parts.0 ∙ found_none kind xs parts.1

pub none_asks : (kind : Kind) (rules : List Rule) → some_asks kind rules ≡ false → All (λ (r : PlainRule). asked_by kind r ≡ None) (map plain_rule rules)
none_asks kind [] e = All-nil (λ (r : PlainRule). asked_by kind r ≡ None)
none_asks kind (r ∷ rules) e =
    let parts = either_none (asks kind r) (some_asks kind rules) e in
    All-cons (λ (r : PlainRule). asked_by kind r ≡ None) (plain_rule r) (map plain_rule rules) (found_none kind r.constraints parts.0) (none_asks kind rules parts.1)

-- ---- what is picked then

pub some_none : {A : Type 0} (found : Option A) (x : A) → found ≡ None → found ≡ Some x → ⊥
some_none found x e f = absurd (cc)

module _ (rules : List PlainRule) (mins : PlainMins) (kind : Kind) (clear : has_own kind ≡ false) (least : (micro : Bool) → minimum mins micro kind ≡ pos 0)
    (none : All (λ (r : PlainRule). asked_by kind r ≡ None) rules) where
  local_none : (a : Facts) (b : Option Facts) → local_of kind a b ≡ None
  local_none a b = ap (λ (t : Bool). if t then greater_if a.local (local_if b) else None) clear

  pub picks_nothing : (a : Facts) (b : Option Facts) (layer : Option ℕ) (pick : Pick) → IsPick rules mins kind a b layer pick → pick.least ≡ pos 0
  picks_nothing a b layer pick (inl local) = absurd (some_none (local_of kind a b) local.nm (local_none a b) local.local)
  picks_nothing a b layer pick (inr (inl rule)) = absurd (some_none (asked_by kind rule.rule) rule.constraint (at_has (λ (r : PlainRule). asked_by kind r ≡ None) rules rule.place rule.rule none rule.deciding.stands) rule.asked)
  picks_nothing a b layer pick (inr (inr default)) = ap (λ (p : Pick). p.least) default.value ∙ ap (λ (t : Bool). if t then class_clearance_if b (int_max a.class_clearance (minimum mins a.micro kind)) else minimum mins a.micro kind) clear ∙ least a.micro

-- ---- kinds

zero_of : (z : ℤ) → not (int_eq z (pos 0)) ≡ false → z ≡ pos 0
zero_of z e = grind (arith, ints, e)

-- of a micro via no more is asked than of another
least_of : (mins : PlainMins) (kind : Kind) → minimum mins false kind ≡ pos 0 → (micro : Bool) → minimum mins micro kind ≡ pos 0
least_of mins ViaDiameter e true = refl
least_of mins ViaDiameter e false = e
least_of mins HoleSize e true = refl
least_of mins HoleSize e false = e
least_of mins _ e micro = e

pub asks_nothing : (d : Deciders) (rules : List Rule) (kind : Kind) → d.rules ≡ map plain_rule rules → may_not_meet kind ≡ false → has_default d.mins kind ≡ false → some_asks kind rules ≡ false → AsksNothing d kind
asks_nothing d rules kind same meets default asked = record { none = far }
  where
    none : All (λ (r : PlainRule). asked_by kind r ≡ None) d.rules
    none = subst (λ rs. All (λ (r : PlainRule). asked_by kind r ≡ None) rs) (sym same) (none_asks kind rules asked)

    far : (pair : Pair) (layer : RowLayer) → IsNearAt d kind pair layer → ⊥
    far pair layer n =
        let parts = either_none (has_own kind) (not (int_eq (minimum d.mins false kind) (pos 0))) default in
        let zero = picks_nothing d.rules d.mins kind parts.0 (least_of d.mins kind (zero_of (minimum d.mins false kind) parts.1)) none pair.facts_a (Some pair.facts_b) (asked_layer layer) n.pick n.picked in
        not_near kind layer pair.a pair.b n.pick.least (kept_none kind layer pair.a pair.b n.pick.least zero) (λ e m. unlike (may_not_meet kind) meets e) n.near

-- ---- kinds that forbid

and_false : (b : Bool) → (b && false) ≡ false
and_false true = refl
and_false false = refl

or_false : (b c : Bool) → b ≡ false → c ≡ false → (b || c) ≡ false
or_false false c e f = f
or_false true c e f = absurd (cc)

no_ban_of : (w : What) → bans_what no_bans w ≡ false
no_ban_of (what.Via size drill micro blind) = or_false (micro && false) (blind && false) (and_false micro) (and_false blind)
no_ban_of (what.Track width) = refl
no_ban_of (what.Pad number reference) = refl
no_ban_of what.Graphic = refl
no_ban_of what.Fill = refl
no_ban_of (what.Body reference front back on_back) = refl
no_ban_of _ = refl

no_ban_item : (item : Item) → bans_item no_bans item ≡ false
no_ban_item item = or_false (bans_what no_bans item.what) (is_some item.hole && false) (no_ban_of item.what) (and_false (is_some item.hole))

allows : (kind : Kind) (pick : Pick) (item : Item) → pick.bans ≡ no_bans → pick.holds ≡ true → ¬ (Forbids kind pick item)
allows kind pick item e f h = by (is_assertion kind) h
  where
    by : (claims : Bool) → ForbidsBy claims pick item → ⊥
    by true h = cc
    by false h = let none = ap (λ (b : Bans). bans_item b item) e ∙ no_ban_item item in cc

ban_unclear : (kind : Kind) → family kind ≡ Forbidding → has_own kind ≡ false
ban_unclear Clearance e = absurd (cc)
ban_unclear _ e = refl

-- without a rule that asks for it a kind forbids nothing
pub forbids_nothing : (rules : List Rule) (mins : PlainMins) (kind : Kind) → family kind ≡ Forbidding → some_asks kind rules ≡ false → (item : Item) (facts : Facts) (layer : RowLayer) (copper : LayerSet)
    → ¬ (IsForbiddenAt (record { copper = copper; mins = mins; rules = map plain_rule rules }) kind item facts layer)
forbids_nothing rules mins kind m asked item facts layer copper is = by is.picked
  where
    none : All (λ (r : PlainRule). asked_by kind r ≡ None) (map plain_rule rules)
    none = none_asks kind rules asked

    no_local : local_of kind facts None ≡ None
    no_local = ap (λ (t : Bool). if t then greater_if facts.local (local_if None) else None) (ban_unclear kind m)

    by : IsPick (map plain_rule rules) mins kind facts None (asked_layer layer) is.pick → ⊥
    by (inl local) = some_none (local_of kind facts None) local.nm no_local local.local
    by (inr (inl rule)) = some_none (asked_by kind rule.rule) rule.constraint (at_has (λ (r : PlainRule). asked_by kind r ≡ None) (map plain_rule rules) rule.place rule.rule none rule.deciding.stands) rule.asked
    by (inr (inr default)) = allows kind is.pick item (ap (λ (p : Pick). p.bans) default.value) (ap (λ (p : Pick). p.holds) default.value) is.forbids
