-- A worker before and after its run.
use Rattle.std.specs.Prelude.{◌≡◌, ℕ, ◌<◌, true, false, List, [], length, slice_index_or}
use Rattle.claim_board.specs.declared.deal.Deal.{Deal}
use Rattle.claim_board.specs.DealViews.{IsSeatOf, seat_number, seat_hand, seat_done}
use Rattle.tile_pool.specs.NumberedValues.{AreValues}
use Rattle.tile_pool.specs.declared.pool.Worker.{Worker}

-- it was given nothing yet
abbrev pub IsFresh : {X : Type 0} → Deal → Worker X → Type 0
IsFresh deal w = IsSeatOf deal w.seat × (seat_done w.seat ≡ false) × (seat_hand w.seat ≡ []) × (w.batch.items ≡ []) × (w.failed ≡ false)

-- it is done, and has the values of its hand, where there was memory for all
abbrev pub IsDone : {X : Type 0} → Deal → (ℕ → X → Type 0) → Worker X → Worker X → Type 0
IsDone deal G old new = IsSeatOf deal new.seat × (seat_number new.seat ≡ seat_number old.seat) × (seat_done new.seat ≡ true) × (new.failed ≡ false → AreValues G (seat_hand new.seat) new.batch.items)

-- each worker of the crew is done
abbrev pub HasRun : {X : Type 0} → Deal → (ℕ → X → Type 0) → List (Worker X) → List (Worker X) → Type 0
HasRun {X} deal G crew later = (k : ℕ) (d : Worker X) → k < length crew → IsDone deal G (slice_index_or crew k d) (slice_index_or later k d)
