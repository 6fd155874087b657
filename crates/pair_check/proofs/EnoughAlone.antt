-- Single items that have enough where no rule asks anything of single items.
use Rattle.std.proofs.Common.{◌≡◌, inl, inr, refl, sym, ap, subst, ◌∙◌, ℕ, ℤ, pos, ◌*ℤ◌, ◌≤ℤ◌, Bool, true, false, List, map, All, Option, None, Some, arith}
use Rattle.std.specs.Bool.{if◌then◌else◌}
use Rattle.std.specs.Int.{int_max}
use Rattle.std.proofs.lemmas.Int.{ints}
use Rattle.one_item.specs.declared.item.Item.{Item}
use Rattle.net_class.specs.NetClasses.{PlainMins}
use Rattle.cond_lang.specs.declared.kind.Kind.{Kind}
use Rattle.cond_lang.specs.declared.kind.Kind.TheVariants.{Clearance, TrackWidth, ViaDiameter, HoleSize, AnnularWidth, Disallow, Assertion}
use Rattle.cond_lang.specs.declared.kind.Family.TheVariants.{Limits}
use Rattle.cond_lang.specs.declared.constraints.Rule.{Rule}
use Rattle.cond_lang.specs.CheckKinds.{family, has_own}
use Rattle.cond_lang.specs.Rules.{PlainRule, plain_rule}
use Rattle.rule_pick.specs.declared.facts.Facts.{Facts}
use Rattle.rule_pick.specs.Deciding.{minimum, greater_if, local_if, local_of, asked_by, class_clearance_if, IsPick}
use Rattle.rule_pick.specs.Picks.{Pick}
use Rattle.kind_subjects.specs.declared.layer.RowLayer.{RowLayer}
use Rattle.kind_subjects.specs.TriedLayers.{asked_layer}
use Rattle.kind_subjects.specs.LimitedLengths.{times, length_of}
use Rattle.pair_check.specs.declared.alone.Enough.{Enough}
use Rattle.pair_check.specs.Asked.{some_asks}
use Rattle.pair_check.specs.Alone.{IsEnough, AreEnoughAlone}
use Rattle.pair_check.specs.PlainRow.{PlainRow}
use Rattle.pair_check.specs.Pairs.{Deciders}
use Rattle.pair_check.specs.Singles.{BreaksLimit, IsOffAt, SaysLimit, BreaksAlone}
use Rattle.pair_check.proofs.AskedKinds.{none_asks, some_none}
use Rattle.pair_check.proofs.NearPicks.{at_has}

-- ---- what is picked where no rule asks

limit_unclear : (kind : Kind) → family kind ≡ Limits → has_own kind ≡ false
limit_unclear Clearance e = absurd cc
limit_unclear _ e = refl

-- of a micro via no more is asked than of another
no_more : (mins : PlainMins) (kind : Kind) → pos 0 ≤ℤ (times kind *ℤ minimum mins false kind) → (micro : Bool) → (times kind *ℤ minimum mins micro kind) ≤ℤ (times kind *ℤ minimum mins false kind)
no_more mins ViaDiameter low true = low
no_more mins HoleSize low true = low
no_more mins kind low false = grind (arith, ints)
no_more mins _ low micro = grind (arith, ints)

-- the least value is the board's, and there is no greatest
record IsUnasked (mins : PlainMins) (kind : Kind) (facts : Facts) (pick : Pick) : Type 0 where
  least : pick.least ≡ minimum mins facts.micro kind
  most : pick.most ≡ None

picks_minimum : (rules : List PlainRule) (mins : PlainMins) (kind : Kind) → has_own kind ≡ false → All (λ (r : PlainRule). asked_by kind r ≡ None) rules
    → (facts : Facts) (layer : Option ℕ) (pick : Pick) → IsPick rules mins kind facts None layer pick → IsUnasked mins kind facts pick
picks_minimum rules mins kind clear none facts layer pick (inl local) =
    absurd (some_none (local_of kind facts None) local.nm (ap (λ (t : Bool). if t then greater_if facts.local (local_if None) else None) clear) local.local)
picks_minimum rules mins kind clear none facts layer pick (inr (inl rule)) =
    absurd (some_none (asked_by kind rule.rule) rule.constraint (at_has (λ (r : PlainRule). asked_by kind r ≡ None) rules rule.place rule.rule none rule.deciding.stands) rule.asked)
picks_minimum rules mins kind clear none facts layer pick (inr (inr default)) = record {
  least = ap (λ (p : Pick). p.least) default.value ∙ ap (λ (t : Bool). if t then class_clearance_if None (int_max facts.class_clearance (minimum mins facts.micro kind)) else minimum mins facts.micro kind) clear;
  most = ap (λ (p : Pick). p.most) default.value;
}

-- ---- limits

-- so much breaks no limit
keeps_limit : (kind : Kind) (n : ℤ) (least : ℤ) (pick : Pick) → (times kind *ℤ pick.least) ≤ℤ least → pick.most ≡ None → least ≤ℤ n → (over : Bool) (limit : ℤ) → ¬ (BreaksLimit kind n pick over limit)
keeps_limit kind n least pick low most le false limit broken =
    let is = ap (λ (z : ℤ). times kind *ℤ z) broken.0 in
    let short = broken.1 in
    grind (arith, ints, is, short, low, le)
keeps_limit kind n least pick low most le true limit broken = some_none pick.most limit most broken.1

-- where no rule asks for the kind the board's minimum is enough
pub minimum_enough : (rules : List Rule) (d : Deciders) (kind : Kind) → d.rules ≡ map plain_rule rules → family kind ≡ Limits → some_asks kind rules ≡ false
    → pos 0 ≤ℤ (times kind *ℤ minimum d.mins false kind) → IsEnough d kind (times kind *ℤ minimum d.mins false kind)
minimum_enough rules d kind same limits asked low = record { none = keeps }
  where
    none : All (λ (r : PlainRule). asked_by kind r ≡ None) d.rules
    none = subst (λ rs. All (λ (r : PlainRule). asked_by kind r ≡ None) rs) (sym same) (none_asks kind rules asked)

    keeps : (item : Item) (facts : Facts) (n : ℤ) (layer : RowLayer) → (times kind *ℤ minimum d.mins false kind) ≤ℤ n → IsOffAt d kind item facts n layer → ⊥
    keeps item facts n layer le off =
        let is = picks_minimum d.rules d.mins kind (limit_unclear kind limits) none facts (asked_layer layer) off.pick off.picked in
        let short = subst (λ (z : ℤ). (times kind *ℤ z) ≤ℤ (times kind *ℤ minimum d.mins false kind)) (sym is.least) (no_more d.mins kind low facts.micro) in
        keeps_limit kind n (times kind *ℤ minimum d.mins false kind) off.pick short is.most le off.over off.limit off.broken

-- ---- single items

-- where the item has a length that the kind limits, it is at least so much
abbrev pub Has : Kind → ℤ → Item → Type 0
Has kind least item = (n : ℤ) → length_of kind item ≡ Some n → least ≤ℤ n

enough_breaks_no_limit : (d : Deciders) (kind : Kind) (least : ℤ) (item : Item) (facts : Facts) (row : PlainRow) → IsEnough d kind least → Has kind least item → SaysLimit d kind item facts row → ⊥
enough_breaks_no_limit d kind least item facts row enough has says =
    enough.none item facts says.length row.layer (has says.length says.measured) says.where_first.holds

pub breaks_none : (d : Deciders) (enough : Enough) (item : Item) → AreEnoughAlone d enough → Has TrackWidth enough.width item → Has ViaDiameter enough.diameter item → Has HoleSize enough.hole item → Has AnnularWidth enough.ring item
    → (facts : Facts) (kind : Kind) (row : PlainRow) → BreaksAlone d kind item facts row → ⊥
breaks_none d enough item are width diameter hole ring facts TrackWidth row says = enough_breaks_no_limit d TrackWidth enough.width item facts row are.width width says
breaks_none d enough item are width diameter hole ring facts ViaDiameter row says = enough_breaks_no_limit d ViaDiameter enough.diameter item facts row are.diameter diameter says
breaks_none d enough item are width diameter hole ring facts HoleSize row says = enough_breaks_no_limit d HoleSize enough.hole item facts row are.hole hole says
breaks_none d enough item are width diameter hole ring facts AnnularWidth row says = enough_breaks_no_limit d AnnularWidth enough.ring item facts row are.ring ring says
breaks_none d enough item are width diameter hole ring facts Disallow row says = are.bans.none item facts row.layer says.where_first.holds
breaks_none d enough item are width diameter hole ring facts Assertion row says = are.claims.none item facts row.layer says.where_first.holds
breaks_none d enough item are width diameter hole ring facts _ row says = absurd says
