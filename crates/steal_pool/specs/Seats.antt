-- What is known of all deques, of the owners of them, and of the passes that seats have.
use Rattle.std.specs.Prelude.{◌≡◌, ℕ, ◌<◌, ◌≤◌, ◌%◌, List, [], length, filter, nat_eq, sum_by, slice_index_or}
use Rattle.std.specs.List.{range_with_len}
use Rattle.crossbeam_deque.specs.Handles.{view, IsPassOf, stealer_deque, stealer_flavor, worker_deque, worker_flavor, worker_view}
use Rattle.crossbeam_deque.specs.declared.handles.Stealer.{Stealer}
use Rattle.crossbeam_deque.specs.declared.handles.Worker.{Worker}
use Rattle.std.specs.declared.alloc.Global.{Global}
use Rattle.steal_pool.specs.declared.rule.Hand.{Hand}
use Rattle.steal_pool.specs.declared.rule.Line.{Line}

module _ {P : Type 0} (tiles : ℕ) where
  -- the owner of a deque, with so many of its parts
  abbrev pub IsOwner : ℕ → Stealer ℕ Global Hand P → Worker ℕ Global Hand P → Type 0
  IsOwner parts s o = (worker_deque o ≡ stealer_deque s) × (worker_flavor o ≡ 0) × (stealer_flavor s ≡ 0) × ((worker_view o).parts ≡ parts) × ((worker_view o).limit ≤ tiles)

  -- each deque has its owner, with so many of its parts
  abbrev pub AreOwners : ℕ → List (Stealer ℕ Global Hand P) → List (Worker ℕ Global Hand P) → Type 0
  AreOwners parts others owners = (length owners ≡ length others) × ((k : ℕ) (s : Stealer ℕ Global Hand P) (o : Worker ℕ Global Hand P) → k < length owners → IsOwner parts (slice_index_or others k s) (slice_index_or owners k o))

  -- a pass of a deque with one of its parts
  abbrev pub IsLine : Stealer ℕ Global Hand P → Line → Type 0
  IsLine s l = IsPassOf (stealer_deque s) l.ticket × (stealer_flavor s ≡ 0) × ((view l.ticket).parts ≡ 1) × ((view l.ticket).put ≡ []) × ((view l.ticket).limit ≤ tiles)

  abbrev pub AreLines : List (Stealer ℕ Global Hand P) → List Line → Type 0
  AreLines others lines = (length lines ≡ length others) × ((k : ℕ) (s : Stealer ℕ Global Hand P) (l : Line) → k < length lines → IsLine (slice_index_or others k s) (slice_index_or lines k l))

  -- the passes of the first deques
  abbrev pub AreFirstLines : List (Stealer ℕ Global Hand P) → List Line → Type 0
  AreFirstLines others lines = (length lines ≤ length others) × ((k : ℕ) (s : Stealer ℕ Global Hand P) (l : Line) → k < length lines → IsLine (slice_index_or others k s) (slice_index_or lines k l))

-- the numbers that an owner pushed, in its order
abbrev pub put_by : {P : Type 0} → Worker ℕ Global Hand P → List ℕ
put_by {P} o = let v : Hand = worker_view o in v.put

-- the numbers below the count that leave w over when they are divided by the number of workers, rising
abbrev pub turns_of : ℕ → ℕ → ℕ → List ℕ
turns_of workers w count = filter (λ n. nat_eq (n % workers) w) (range_with_len 0 count)

-- of the numbers below the count each worker was given those of its turns, and no others
abbrev pub AreGiven : {P : Type 0} → ℕ → List (Worker ℕ Global Hand P) → Type 0
AreGiven {P} count owners = (w : ℕ) (o : Worker ℕ Global Hand P) → w < length owners → put_by (slice_index_or owners w o) ≡ turns_of (length owners) w count

-- each owner has pushed what it had pushed before
abbrev pub PutAlike : {P : Type 0} → List (Worker ℕ Global Hand P) → List (Worker ℕ Global Hand P) → Type 0
PutAlike {P} old new = (k : ℕ) (a b : Worker ℕ Global Hand P) → k < length new → put_by (slice_index_or new k b) ≡ put_by (slice_index_or old k a)

-- what was pushed by an owner, and what it took, weighed
abbrev pub put_of : {P : Type 0} → (ℕ → ℕ) → Worker ℕ Global Hand P → ℕ
put_of {P} h o = let v : Hand = worker_view o in sum_by h v.put

abbrev pub taken_of : {P : Type 0} → (ℕ → ℕ) → Worker ℕ Global Hand P → ℕ
taken_of {P} h o = let v : Hand = worker_view o in sum_by h v.taken

-- the same of all owners
abbrev pub pushed_by : {P : Type 0} → (ℕ → ℕ) → List (Worker ℕ Global Hand P) → ℕ
pushed_by h owners = sum_by (put_of h) owners

abbrev pub taken_by : {P : Type 0} → (ℕ → ℕ) → List (Worker ℕ Global Hand P) → ℕ
taken_by h owners = sum_by (taken_of h) owners

-- what was taken with a pass, and with all passes, weighed
abbrev pub taken_through : (ℕ → ℕ) → Line → ℕ
taken_through h l = sum_by h (view l.ticket).taken

abbrev pub taken_with : (ℕ → ℕ) → List Line → ℕ
taken_with h lines = sum_by (taken_through h) lines

-- passes with which nothing was taken
abbrev pub AreUnused : {P : Type 0} → ℕ → List (Stealer ℕ Global Hand P) → List Line → Type 0
AreUnused tiles others lines = AreLines tiles others lines × ((h : ℕ → ℕ) → taken_with h lines ≡ 0)
