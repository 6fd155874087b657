-- What a seat took, and what it made of that.
use Rattle.std.specs.Prelude.{◌≡◌, ℕ, false}
use Rattle.tile_pool.specs.NumberedValues.{AreValues}
use Rattle.steal_pool.specs.declared.share.Share.{Share}

-- as long as there was memory, each number taken has its value
abbrev pub HasTakenValues : {X : Type 0} → (ℕ → X → Type 0) → Share X → Type 0
HasTakenValues G s = s.failed ≡ false → AreValues G s.hand.items s.batch.items
