-- A worker before and after its run.
use Rattle.std.specs.Prelude.{◌≡◌, ℕ, ◌+◌, ◌<◌, ◌≤◌, List, [], length, sum_by, slice_index_or}
use Rattle.crossbeam_deque.specs.Handles.{worker_view, worker_flavor, worker_deque}
use Rattle.crossbeam_deque.specs.declared.handles.Stealer.{Stealer}
use Rattle.std.specs.declared.alloc.Global.{Global}
use Rattle.steal_pool.specs.declared.rule.Hand.{Hand}
use Rattle.steal_pool.specs.declared.member.Member.{Member}
use Rattle.steal_pool.specs.Seats.{AreLines, taken_with, taken_of}
use Rattle.steal_pool.specs.SeatValues.{HasTakenValues}

module _ {X P : Type 0} (G : ℕ → X → Type 0) (tiles : ℕ) where
  -- it has its passes, and has taken nothing
  abbrev pub IsReady : List (Stealer ℕ Global Hand P) → Member X → Type 0
  IsReady others m =
      ((worker_flavor m.own ≡ 0) × (0 < (worker_view m.own).parts) × ((worker_view m.own).limit ≤ tiles))
      × AreLines tiles others m.lines.items
      × (m.share.hand.items ≡ [])
      × HasTakenValues G m.share
      × ((h : ℕ → ℕ) → (taken_of h m.own ≡ 0) × (taken_with h m.lines.items ≡ 0))

  -- its hand is what it took with its passes
  abbrev pub HasRun : List (Stealer ℕ Global Hand P) → Member X → Member X → Type 0
  HasRun others old m =
      ((worker_deque m.own ≡ worker_deque old.own) × (worker_flavor m.own ≡ 0) × ((worker_view m.own).parts ≡ (worker_view old.own).parts) × ((worker_view m.own).limit ≡ (worker_view old.own).limit) × ((worker_view m.own).put ≡ (worker_view old.own).put))
      × AreLines tiles others m.lines.items
      × ((h : ℕ → ℕ) → sum_by h m.share.hand.items ≡ taken_of h m.own + taken_with h m.lines.items)
      × HasTakenValues G m.share

  -- each of the crew has run
  abbrev pub HaveRun : List (Stealer ℕ Global Hand P) → List (Member X) → List (Member X) → Type 0
  HaveRun others crew later = (k : ℕ) (d : Member X) → k < length crew → HasRun others (slice_index_or crew k d) (slice_index_or later k d)
