-- What is in the slots after one more value is put there.
use Rattle.std.proofs.Common.{◌≡◌, All, ℕ, zero, suc, ◌+◌, ◌<◌, ◌≤◌, Bool, true, List, [], ◌∷◌, ◌++◌, length, drop, set, get_or, if◌then◌else◌, nat_lt, nat_eq, replicate, Some, None, Option, sum_by, sym, ap, ◌∙◌, subst, refl, arith, eq-eqb, ne_eqb, add-one, lt-ltb, length-append, Vec, Global}
use native.Mathlib.Decide.{ℕ_discrete, dec_lt}
use Rattle.std.proofs.lemmas.Bool.Decides.{nat_tests}
use Rattle.std.proofs.lemmas.List.{get_or-set_other, get_or-set_same}
use Rattle.std.proofs.Math.ListN.{length-set, length-replicate, get_or-append}
use Rattle.std.proofs.Math.Seq.{drop-cons, get_or-append_seam}
use Rattle.std.proofs.lemmas.List.Sums.{sum_by-cons}
use Rattle.claim_board.specs.DealMachine.{times, once_below}
use Rattle.tile_pool.specs.NumberedValues.{AreAnswers, AreValues, AreBatches, Slot, AreFull}

-- a value that is put at the number of a place
pub put_at : {X : Type 0} (hand : List ℕ) (slots later : List (Option X)) (at n : ℕ) (v : X) → later ≡ set slots (get_or hand at 0) (Some v) → at ≡ n → later ≡ set slots (get_or hand n 0) (Some v)
put_at hand slots later at n v e s = e ∙ ap (λ j. set slots (get_or hand j 0) (Some v)) s

module _ {X : Type 0} (G : ℕ → X → Type 0) where
  -- the slots, where these numbers got their values
  abbrev pub Placed : List (Option X) → List (Option X) → List ℕ → Type 0
  Placed slots old numbers = (k : ℕ) (d : Option X) → k < length slots → Slot G k (nat_lt 0 (times k numbers)) (get_or slots k d) (get_or old k d)

  pub place_step : (hand : List ℕ) (slots old : List (Option X)) (n : ℕ) (v : X) → n < length hand → G (get_or hand n 0) v → get_or hand n 0 < length slots
      → Placed slots old (drop (n + 1) hand) → Placed (set slots (get_or hand n 0) (Some v)) old (drop n hand)
  place_step hand slots old n v l g in_slots h k d q = go (ℕ_discrete k (get_or hand n 0))
    where
      counted : times k (drop n hand) ≡ (if nat_eq (get_or hand n 0) k then 1 else 0) + times k (drop (n + 1) hand)
      counted = ap (times k) (drop-cons hand n 0 l) ∙ sum_by-cons (λ y. if nat_eq y k then 1 else 0) (get_or hand n 0) (drop (suc n) hand) ∙ ap (λ j. (if nat_eq (get_or hand n 0) k then 1 else 0) + times k (drop j hand)) (sym (add-one n))

      go : Dec (k ≡ get_or hand n 0) → Slot G k (nat_lt 0 (times k (drop n hand))) (get_or (set slots (get_or hand n 0) (Some v)) k d) (get_or old k d)
      go (yes s) = let one : times k (drop n hand) ≡ 1 + times k (drop (n + 1) hand) = counted ∙ ap (λ b. (if b then 1 else 0) + times k (drop (n + 1) hand)) (eq-eqb (get_or hand n 0) k (sym s)) in
          let more : nat_lt 0 (times k (drop n hand)) ≡ true = lt-ltb 0 (times k (drop n hand)) (omega arith) in
          let there : get_or (set slots (get_or hand n 0) (Some v)) k d ≡ Some v = ap (λ j. get_or (set slots (get_or hand n 0) (Some v)) j d) s ∙ get_or-set_same slots (get_or hand n 0) (Some v) d in_slots in
          subst (λ b. Slot G k b (get_or (set slots (get_or hand n 0) (Some v)) k d) (get_or old k d)) (sym more) (v, there, subst (λ j. G j v) (sym s) g)
      go (no ne) = let none : times k (drop n hand) ≡ times k (drop (n + 1) hand) = counted ∙ ap (λ b. (if b then 1 else 0) + times k (drop (n + 1) hand)) (ne_eqb (get_or hand n 0) k (λ s. ne (sym s))) ∙ omega arith in
          let same : get_or (set slots (get_or hand n 0) (Some v)) k d ≡ get_or slots k d = get_or-set_other slots (get_or hand n 0) k (Some v) d ne in
          subst (λ (x : Option X). Slot G k (nat_lt 0 (times k (drop n hand))) x (get_or old k d)) (sym same)
          (subst (λ t. Slot G k (nat_lt 0 t) (get_or slots k d) (get_or old k d)) (sym none) (h k d (subst (λ j. k < j) (length-set slots (get_or hand n 0) (Some v)) q)))

  -- the same of several hands
  abbrev pub PlacedAll : List (Option X) → List (Option X) → List (List ℕ) → Type 0
  PlacedAll slots old some_hands = (k : ℕ) (d : Option X) → k < length slots → Slot G k (nat_lt 0 (sum_by (times k) some_hands)) (get_or slots k d) (get_or old k d)

  slot_moved : (k : ℕ) (b : Bool) (slot later old : Option X) → later ≡ slot → Slot G k b slot old → Slot G k b later old
  slot_moved k b slot later old e h = subst (λ (x : Option X). Slot G k b x old) (sym e) h

  pub place_all_step : (hands : List (List ℕ)) (slots later old : List (Option X)) (n : ℕ) → n < length hands → length later ≡ length slots
      → ((k : ℕ) (d : Option X) → k < length slots → Slot G k (nat_lt 0 (times k (get_or hands n []))) (get_or later k d) (get_or slots k d))
      → PlacedAll slots old (drop (n + 1) hands) → PlacedAll later old (drop n hands)
  place_all_step hands slots later old n l same h before k d q = go (times k (get_or hands n [])) refl
    where
      now : sum_by (times k) (drop n hands) ≡ times k (get_or hands n []) + sum_by (times k) (drop (n + 1) hands)
      now = ap (sum_by (times k)) (drop-cons hands n [] l) ∙ sum_by-cons (times k) (get_or hands n []) (drop (suc n) hands) ∙ ap (λ j. times k (get_or hands n []) + sum_by (times k) (drop j hands)) (sym (add-one n))

      placed : Slot G k (nat_lt 0 (times k (get_or hands n []))) (get_or later k d) (get_or slots k d)
      placed = h k d (omega arith)

      go : (t : ℕ) → times k (get_or hands n []) ≡ t → Slot G k (nat_lt 0 (sum_by (times k) (drop n hands))) (get_or later k d) (get_or old k d)
      go zero e =
          let is : get_or later k d ≡ get_or slots k d = subst (λ j. Slot G k (nat_lt 0 j) (get_or later k d) (get_or slots k d)) e placed in
          let s : sum_by (times k) (drop (n + 1) hands) ≡ sum_by (times k) (drop n hands) = omega (arith, now, e) in
          slot_moved k (nat_lt 0 (sum_by (times k) (drop n hands))) (get_or slots k d) (get_or later k d) (get_or old k d) is
          (subst (λ j. Slot G k (nat_lt 0 j) (get_or slots k d) (get_or old k d)) s (before k d (omega arith)))
      go (suc t) e =
          let here : Slot G k true (get_or later k d) (get_or slots k d) = subst (λ b. Slot G k b (get_or later k d) (get_or slots k d)) (lt-ltb 0 (times k (get_or hands n [])) (omega (arith, e))) placed in
          subst (λ b. Slot G k b (get_or later k d) (get_or old k d)) (sym (lt-ltb 0 (sum_by (times k) (drop n hands)) (omega (arith, now, e)))) here

  pub all_full : (hands : List (List ℕ)) (slots old : List (Option X)) (tiles : ℕ) → length slots ≡ tiles → ((x : ℕ) → sum_by (times x) hands ≡ once_below x tiles) → PlacedAll slots old hands → AreFull G slots
  all_full hands slots old tiles long once placed k d l =
      let one : sum_by (times k) hands ≡ 1 = once k ∙ ap (λ b. if b then 1 else 0) (lt-ltb k tiles (omega arith)) in
      subst (λ j. Slot G k (nat_lt 0 j) (get_or slots k d) (get_or old k d)) one (placed k d l)

  -- one answer more
  pub take_more : (slots : List (Option X)) (n : ℕ) (answers : List X) (slot : Option X) → AreFull G slots → AreAnswers G n answers → n < length slots → slot ≡ get_or slots n slot
      → (x : X) × (slot ≡ Some x) × AreAnswers G (n + 1) (answers ++ x ∷ [])
  take_more slots n answers slot full so_far l is =
      let found = full n slot l in
      (found.0, is ∙ found.1, record { long = omega (arith, length-append answers (found.0 ∷ []), so_far.long); each = each found.0 found.2 })
    where
      each : (x : X) → G n x → (k : ℕ) (d : X) → k < n + 1 → G k (get_or (answers ++ x ∷ []) k d)
      each x g k d q = go (dec_lt k n)
        where
          go : Dec (k < n) → G k (get_or (answers ++ x ∷ []) k d)
          go (yes p) = subst (λ (y : X). G k y) (sym (get_or-append answers (x ∷ []) d k (omega (arith, so_far.long)))) (so_far.each k d p)
          go (no p) = let at : k ≡ length answers = omega (arith, so_far.long) in let at' : k ≡ n = omega arith in
              subst (λ (y : X). G k y) (sym (ap (λ j. get_or (answers ++ x ∷ []) j d) at ∙ get_or-append_seam answers x [] d)) (subst (λ j. G j x) (sym at') g)

-- a number that stands in a list is counted there
pub counted_at : (xs : List ℕ) (i d : ℕ) → i < length xs → 0 < times (get_or xs i d) xs
counted_at [] i d l = absurd (omega arith)
counted_at (x ∷ xs) zero d l = let t = eq-eqb x x refl in let c = sum_by-cons (λ y. if nat_eq y x then 1 else 0) x xs in let e = ap (λ b. (if b then 1 else 0) + times x xs) t in omega arith
counted_at (x ∷ xs) (suc i) d l = let k = get_or xs i d in let c = sum_by-cons (λ y. if nat_eq y k then 1 else 0) x xs in let again = counted_at xs i d (omega arith) in omega arith

pub counted_in : (k : ℕ) (hands : List (List ℕ)) (n : ℕ) → n < length hands → times k (get_or hands n []) ≤ sum_by (times k) hands
counted_in k [] n l = absurd (omega arith)
counted_in k (h ∷ hs) zero l = omega (arith, sum_by-cons (times k) h hs)
counted_in k (h ∷ hs) (suc n) l = omega (arith, sum_by-cons (times k) h hs, counted_in k hs n (omega arith))

pub below_tiles : (x tiles : ℕ) → 0 < once_below x tiles → x < tiles
below_tiles x tiles l = grind (arith, nat_tests)

-- the last batch taken off
pub one_batch_less : {X : Type 0} (G : ℕ → X → Type 0) (hands : List (List ℕ)) (batches less : List (Vec X Global)) (b : Vec X Global) → AreBatches G hands batches → length batches ≤ length hands → batches ≡ less ++ b ∷ []
    → (length batches ≡ length less + 1) × (length less < length hands) × AreBatches G hands less × AreValues G (get_or hands (length less) []) b.items
one_batch_less {X} G hands batches less b h short cut = (n, omega (arith, n, short), fewer, last)
  where
    n : length batches ≡ length less + 1
    n = ap length cut ∙ length-append less (b ∷ [])

    fewer : AreBatches G hands less
    fewer k d e l = subst (λ (v : Vec X Global). AreValues G (get_or hands k d) v.items) (ap (λ xs. get_or xs k e) cut ∙ get_or-append less (b ∷ []) e k l) (h k d e (omega (arith, n)))

    last : AreValues G (get_or hands (length less) []) b.items
    last = subst (λ (v : Vec X Global). AreValues G (get_or hands (length less) []) v.items) (ap (λ xs. get_or xs (length less) b) cut ∙ get_or-append_seam less b [] b) (h (length less) [] b (omega (arith, n)))

-- the last batch taken off, with the hand that it is of
module _ {X : Type 0} (G : ℕ → X → Type 0) (hands : List (List ℕ)) (batches less : List (Vec X Global)) (b : Vec X Global) (of : AreBatches G hands batches) (short : length batches ≤ length hands) (cut : batches ≡ less ++ b ∷ []) (hand : List ℕ)
    (is : hand ≡ get_or hands (length less) []) where
  -- where the hands hold each number below the count once, its numbers have slots
  pub batch_fits : (tiles : ℕ) → ((x : ℕ) → sum_by (times x) hands ≡ once_below x tiles) → (slots : List (Option X)) → length slots ≡ tiles → AreValues G hand b.items × All (λ k. k < length slots) hand
  batch_fits tiles once slots long =
      let l = one_batch_less G hands batches less b of short cut in (
        subst (λ (h : List ℕ). AreValues G h b.items) (sym is) l.3,
        λ k d q.
            let x : ℕ = get_or hand k d in
            let at = counted_at hand k d q in
            let most = counted_in x hands (length less) l.1 in
            let same : times x hand ≡ times x (get_or hands (length less) []) = ap (times x) is in
            let low : x < tiles = below_tiles x tiles (omega (arith, at, most, same, once x)) in
            omega (arith, low, long),
      )

  -- the slots after the batch is placed
  pub batch_placed : (slots later old : List (Option X)) → length later ≡ length slots → ((k : ℕ) (d : Option X) → k < length slots → Slot G k (nat_lt 0 (times k hand)) (get_or later k d) (get_or slots k d))
      → PlacedAll G slots old (drop (length batches) hands) → (length less ≤ length hands) × AreBatches G hands less × PlacedAll G later old (drop (length less) hands)
  batch_placed slots later old long now before =
      let l = one_batch_less G hands batches less b of short cut in
      let step = place_all_step G hands slots later old (length less) l.1 long (λ k d q. subst (λ (h : List ℕ). Slot G k (nat_lt 0 (times k h)) (get_or later k d) (get_or slots k d)) is (now k d q))
      (subst (λ j. PlacedAll G slots old (drop j hands)) l.0 before) in
      (omega (arith, l.1), l.2, step)

pub filled : {X : Type 0} (slots : List (Option X)) (n : ℕ) → slots ≡ replicate n None → length slots ≡ n
filled {X} slots n e = ap length e ∙ length-replicate {A = Option X} n None
