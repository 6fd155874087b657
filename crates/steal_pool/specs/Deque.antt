-- The rule of one deque: the numbers that were pushed to it stand, each once, in it or among those taken with one of its passes.
use Rattle.std.specs.Prelude.{◌≡◌, ℕ, ◌+◌, ◌-◌, ◌<◌, ◌≤◌, List, [], ◌∷◌, ◌++◌, length, sum_by, All}
use mathlib.Core.Option.{some}
use lib.ListN.{get_elem?}
use Rattle.claim_board.specs.DealMachine.{times}
use Rattle.steal_pool.specs.declared.rule.Hand.{Hand}

abbrev pub hand : ℕ → ℕ → List ℕ → List ℕ → Hand
hand parts limit put taken = record { parts = parts; limit = limit; put = put; taken = taken }

-- a pass with no part has pushed and taken nothing
abbrev pub IsIdle : Hand → Type 0
IsIdle v = v.parts ≡ 0 → (v.put ≡ []) × (v.taken ≡ [])

-- how often a number was pushed
abbrev pub pushed : ℕ → List Hand → ℕ
pushed x views = sum_by (λ (v : Hand). times x v.put) views

-- a pass with a part knows a number above all that were pushed
abbrev pub IsAbove : List Hand → Hand → Type 0
IsAbove views v = 0 < v.parts → (x : ℕ) → v.limit ≤ x → pushed x views ≡ 0

pub record Balanced (items : List ℕ) (views : List Hand) : Type 0 where
  -- each of 1024 parts is one pass's
  pub parts : sum_by (λ (v : Hand). v.parts) views ≡ 1024
  -- what was pushed was taken or is there, however numbers are weighed
  pub same : (h : ℕ → ℕ) → sum_by (λ (v : Hand). sum_by h v.put) views ≡ sum_by (λ (v : Hand). sum_by h v.taken) views + sum_by h items
  -- no number was pushed twice
  pub once : (x : ℕ) → pushed x views ≤ 1
  pub idle : (port : ℕ) (v : Hand) → get_elem? views port ≡ some v → IsIdle v
  pub above : (port : ℕ) (v : Hand) → get_elem? views port ≡ some v → IsAbove views v

-- ---- the kinds of step

-- the owner, while it has every part, pushes a number above all that were pushed
abbrev pub Put : Hand → List ℕ → Hand → Type 0
Put v [] w = w ≡ v
Put v (x ∷ xs) w = (v.parts ≡ 1024) × (v.limit ≤ x) × Put (hand v.parts (x + 1) (v.put ++ x ∷ []) v.taken) xs w

-- numbers taken are below the limit. Who has every part knows that no more was taken than pushed
abbrev pub Took : Hand → List ℕ → Hand → Type 0
Took v xs w = (w ≡ hand v.parts v.limit v.put (v.taken ++ xs)) × All (λ x. x < v.limit) xs × (v.parts ≡ 1024 → length (v.taken ++ xs) ≤ length v.put)

-- and where the deque is empty, that all of it was taken
abbrev pub TookAll : Hand → Type 0
TookAll v = v.parts ≡ 1024 → (h : ℕ → ℕ) → sum_by h v.put ≡ sum_by h v.taken

-- making a pass and giving it back move no number
abbrev pub less : Hand → Hand
less v = hand (v.parts - 1) v.limit v.put v.taken

abbrev pub both : Hand → Hand → Hand
both v w = hand (v.parts + w.parts) v.limit (v.put ++ w.put) (v.taken ++ w.taken)

-- ---- what the rule says

-- each number that was pushed stands once, in the deque or among what was taken, and no other stands there
abbrev pub KeepsEach : Type 0
KeepsEach = (items : List ℕ) (views : List Hand) → Balanced items views → (x : ℕ) → (sum_by (λ (v : Hand). times x v.taken) views + times x items ≡ pushed x views) × (pushed x views ≤ 1)
