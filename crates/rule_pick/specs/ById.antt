-- Facts by id, kept as a row of slots: slot k is for the id k, and it is empty where the id has no facts.
use Rattle.std.specs.Prelude.{◌≡◌, ◌≢◌, ℕ, List, slice_get, Option}
use Rattle.std.specs.Option.{option_flatten}
use Rattle.rule_pick.specs.declared.facts.Facts.{Facts}

-- the facts of an id, if there are some; there are none where there is no slot
unfoldable pub facts_at : List (Option Facts) → ℕ → Option Facts
facts_at slots id = option_flatten (slice_get slots id)

-- the id now has these facts, or none, and each other id has what it had
pub record IsPut (id : ℕ) (facts : Option Facts) (old new : List (Option Facts)) : Type 0 where
  pub here : facts_at new id ≡ facts
  pub rest : (other : ℕ) → other ≢ id → facts_at new other ≡ facts_at old other

-- each id has what it had
pub record HasSameFacts (old new : List (Option Facts)) : Type 0 where
  pub each : (id : ℕ) → facts_at new id ≡ facts_at old id
