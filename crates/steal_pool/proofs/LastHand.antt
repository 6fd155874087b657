-- One hand more: the caller's.
use Rattle.std.proofs.Common.{◌≡◌, ℕ, ◌+◌, List, [], ◌∷◌, ◌++◌, if◌then◌else◌, nat_eq, length, map, sum_by, Vec, Global, sym, ap, ◌∙◌, subst}
use Rattle.std.proofs.lemmas.List.Sums.{sum_by_push}
use Rattle.std.proofs.lemmas.List.{length-map}
use Rattle.claim_board.specs.DealMachine.{sum_below, times, once_below}
use Rattle.claim_board.proofs.Machine.{once_is}
use Rattle.tile_pool.specs.NumberedValues.{AreValues, AreBatches}
use Rattle.steal_pool.proofs.Related.{each_push, map_push}
use Rattle.steal_pool.proofs.Workers.{sum_map}

-- the numbers below the count, however they are weighed, are each of them once
pub each_once : (tiles : ℕ) (hands : List (Vec ℕ Global)) (last : Vec ℕ Global) → ((h : ℕ → ℕ) → sum_by (λ (v : Vec ℕ Global). sum_by h v.items) hands + sum_by h last.items ≡ sum_below h tiles) → (x : ℕ) → sum_by (times x) (map (λ (v : Vec ℕ Global). v.items) (hands ++ last ∷ [])) ≡ once_below x tiles
each_once tiles hands last all x =
    ap (sum_by (times x)) (map_push (λ (v : Vec ℕ Global). v.items) hands last)
    ∙ sum_by_push (times x) (map (λ (v : Vec ℕ Global). v.items) hands) last.items
    ∙ ap (λ n. n + times x last.items) (sum_map (times x) (λ (v : Vec ℕ Global). v.items) hands)
    ∙ all (λ y. if nat_eq y x then 1 else 0)
    ∙ once_is x tiles

pub one_batch_more : {X : Type 0} (G : ℕ → X → Type 0) (hands : List (Vec ℕ Global)) (batches : List (Vec X Global)) (hand : Vec ℕ Global) (batch : Vec X Global) → length hands ≡ length batches → AreBatches G (map (λ (v : Vec ℕ Global). v.items) hands) batches → AreValues G hand.items batch.items
    → AreBatches G (map (λ (v : Vec ℕ Global). v.items) (hands ++ hand ∷ [])) (batches ++ batch ∷ [])
one_batch_more {X} G hands batches hand batch long all last =
    subst (λ hs. AreBatches G hs (batches ++ batch ∷ [])) (sym (map_push (λ (v : Vec ℕ Global). v.items) hands hand))
    (each_push (λ k (h : List ℕ) (b : Vec X Global). AreValues G h b.items) (map (λ (v : Vec ℕ Global). v.items) hands) batches hand.items batch (sym long ∙ sym (length-map hands (λ (v : Vec ℕ Global). v.items))) all last)
