-- What is kept of a step, in plain form.
use Rattle.std.proofs.Common.{◌≡◌, refl, sym, ap, subst, ◌∙◌, true, false, List, [], ◌∷◌, ◌++◌, map, reverse}
use Rattle.std.proofs.lemmas.List.{reverse-append, map-append}
use Rattle.edit_script.specs.Commands.{PlainCommand}
use Rattle.drc_state.specs.declared.change.Change.{Change}
use Rattle.drc_state.specs.declared.change.Change.TheVariants.{Nothing, PutBack, TakeOut, Shift, Replace}
use Rattle.drc_state.specs.States.{State}
use Rattle.drc_state.specs.CommandSteps.{is_rules}
use Rattle.drc_state.specs.StateChanges.{PlainChange, plain_change, is_replace, ChangeFits, IsInverseChange}
use Rattle.undo_log.specs.Past.{begun, is_again}
use Rattle.undo_log.specs.Ways.{nearest_first, AddsNoItems, AreWays}
use Rattle.undo_log.specs.Keeping.{IsNoted}

-- what is pushed is the nearest
pub nearest_pushed : (changes : List Change) (change : Change) → nearest_first (changes ++ change ∷ []) ≡ plain_change change ∷ nearest_first changes
nearest_pushed changes change = ap reverse (map-append plain_change changes (change ∷ [])) ∙ reverse-append (map plain_change changes) (plain_change change ∷ [])

-- no change that the code has adds items that are new
pub adds_none : (change : Change) → AddsNoItems (plain_change change)
adds_none Nothing = tt
adds_none (PutBack items) = tt
adds_none (TakeOut unit) = tt
adds_none (Shift unit dx dy) = tt
adds_none (Replace rules) = tt

pub noted : (old new : State) (command : PlainCommand) (back back_now on on_now : List Change) (change : Change)
    → is_replace (plain_change change) ≡ is_rules command → IsInverseChange (plain_change change) new old
    → (is_again command ≡ true → (back_now ≡ back) × (on_now ≡ on)) → (is_again command ≡ false → (back_now ≡ back ++ change ∷ []) × (on_now ≡ []))
    → IsNoted old new command (nearest_first back) (nearest_first back_now) (nearest_first on) (nearest_first on_now)
noted old new command back back_now on on_now change kind leads again other = record {
  again = λ is. let same = again is in (ap nearest_first same.0, ap nearest_first same.1);
  other = λ is. let pushed = other is in (
    plain_change change,
    record { back = leads; adds_none = adds_none change; kind = kind },
    ap nearest_first pushed.0 ∙ nearest_pushed back change,
    ap nearest_first pushed.1,
  );
}

-- the change that is taken is the nearest
pub nearest_fits : (s : State) (from from_now : List Change) (change : Change) → from ≡ from_now ++ change ∷ []
    → ((nearest : PlainChange) (others : List PlainChange) → nearest_first from ≡ nearest ∷ others → ChangeFits s nearest) → ChangeFits s (plain_change change)
nearest_fits s from from_now change is fits = fits (plain_change change) (nearest_first from_now) (ap nearest_first is ∙ nearest_pushed from_now change)

-- at the opening nothing leads anywhere
pub begun_ways : (s : State) (back on : List Change) → back ≡ [] → on ≡ [] → AreWays s (nearest_first back) (nearest_first on) (begun s)
begun_ways s back on b o =
    subst (λ (cs : List Change). AreWays s (nearest_first cs) (nearest_first on) (begun s)) (sym b)
    (subst (λ (cs : List Change). AreWays s [] (nearest_first cs) (begun s)) (sym o) (record { present = refl; earlier = tt; later = tt }))
