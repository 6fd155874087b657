-- Which numbers the workers are given, a number at a time.
use Rattle.std.proofs.Common.{◌≡◌, ℕ, zero, suc, ◌+◌, ◌<◌, ◌%◌, ◌≢◌, List, [], ◌∷◌, ◌++◌, nat_eq, length, filter, get_or, set, sum_by, Global, refl, sym, ap, ◌∙◌, subst, arith, add-one, eq-eqb, ne_eqb}
use native.Mathlib.Decide.{ℕ_discrete}
use Rattle.std.specs.List.{range_with_len}
use Rattle.std.proofs.Math.ListN.{length-set}
use Rattle.std.proofs.lemmas.List.{append-nil, get_or-set_other, get_or-set_same}
use Rattle.std.proofs.lemmas.List.Elements.{filter-append}
use Rattle.std.proofs.lemmas.List.Sums.{sum_by-cons, sum_by_push}
use Rattle.crossbeam_deque.specs.Handles.{SameWorker, worker_view, worker_port}
use Rattle.crossbeam_deque.specs.Tasks.{Pushes}
use Rattle.crossbeam_deque.specs.declared.handles.Stealer.{Stealer}
use Rattle.crossbeam_deque.specs.declared.handles.Worker.{Worker}
use Rattle.steal_pool.specs.declared.rule.Hand.{Hand}
use Rattle.steal_pool.specs.Deque.{Balanced, Put}
use Rattle.steal_pool.specs.Seats.{IsOwner, AreOwners, put_by, put_of, taken_of, turns_of, AreGiven, PutAlike, pushed_by, taken_by}
use Rattle.steal_pool.proofs.Moves.{puts}
use Rattle.steal_pool.proofs.Related.{entry_at, each_set, sum_set_or}
use Rattle.steal_pool.proofs.Workers.{sum_part}

range_more : (a n : ℕ) → range_with_len a (suc n) ≡ range_with_len a n ++ (a + n) ∷ []
range_more a zero = ap (λ k. k ∷ []) (omega arith)
range_more a (suc n) = ap (λ xs. a ∷ xs) (range_more (a + 1) n ∙ ap (λ k. range_with_len (a + 1) n ++ k ∷ []) (omega arith))

turns_more : (workers w count : ℕ) → turns_of workers w (count + 1) ≡ turns_of workers w count ++ filter (λ n. nat_eq (n % workers) w) (count ∷ [])
turns_more workers w count =
    ap (turns_of workers w) (add-one count)
    ∙ ap (filter (λ n. nat_eq (n % workers) w)) (range_more 0 count ∙ ap (λ k. range_with_len 0 count ++ k ∷ []) (omega arith))
    ∙ filter-append (λ n. nat_eq (n % workers) w) (range_with_len 0 count) (count ∷ [])

pub its_turn : (workers w count : ℕ) → count % workers ≡ w → turns_of workers w (count + 1) ≡ turns_of workers w count ++ count ∷ []
its_turn workers w count e = turns_more workers w count ∙ ap (λ xs. turns_of workers w count ++ xs) (rw (eq-eqb (count % workers) w e) refl)

pub other_turn : (workers w count : ℕ) → count % workers ≢ w → turns_of workers w (count + 1) ≡ turns_of workers w count
other_turn workers w count ne =
    turns_more workers w count ∙ ap (λ xs. turns_of workers w count ++ xs) (rw (ne_eqb (count % workers) w ne) refl) ∙ append-nil (turns_of workers w count)

empty : (xs : List ℕ) → sum_by (λ k. 1) xs ≡ 0 → xs ≡ []
empty [] e = refl
empty (x ∷ xs) e = absurd (omega (arith, sum_by-cons (λ k. 1) x xs, e))

module _ {P : Type 0} where
  pub none_given : (owners : List (Worker ℕ Global Hand P)) → ((h : ℕ → ℕ) → pushed_by h owners ≡ 0) → AreGiven 0 owners
  none_given owners none w o l =
      let part = sum_part (put_of (λ k. 1)) owners w o l in
      let zeros = none (λ k. 1) in
      empty (put_by (get_or owners w o)) (omega (arith, part, zeros))

  -- the numbers below n were given, and n is given to the owner of the deque at a place
  module _ (n at : ℕ) (others : List (Stealer ℕ Global Hand P)) (owners : List (Worker ℕ Global Hand P)) (d : Worker ℕ Global Hand P) (of : AreOwners n 1024 others owners) (l : at < length owners) where
    abbrev own : Worker ℕ Global Hand P
    own = get_or owners at d

    is : (s : Stealer ℕ Global Hand P) → IsOwner n 1024 (get_or others at s) own
    is s = of.1 at s d l

    pub may_give : Pushes (λ items views. Balanced items views) (worker_port (get_or owners at d)) (worker_view (get_or owners at d)) (n ∷ []) (Put (worker_view (get_or owners at d)) (n ∷ []))
    may_give = let i = is (entry_at others at (subst (λ k. at < k) of.0 l)).0 in puts (worker_port own) (worker_view own) n i.3 i.4

    module _ (new : Worker ℕ Global Hand P) (same : SameWorker (get_or owners at d) new) (rule : Put (worker_view (get_or owners at d)) (n ∷ []) (worker_view new)) where
      pub owners_more : AreOwners (n + 1) 1024 others (set owners at new)
      owners_more = (
        length-set owners at new ∙ of.0,
        each_set (λ k s o. IsOwner n 1024 s o) (λ k s o. IsOwner (n + 1) 1024 s o) others owners at new of.1 l
            (λ k s o ne h. (h.0, h.1, h.2, h.3, omega (arith, h.4)))
            (λ s. let i = is s in (same.0 ∙ i.0, same.1 ∙ i.1, i.2, ap (λ (v : Hand). v.parts) rule.2 ∙ i.3, omega (arith, ap (λ (v : Hand). v.limit) rule.2))),
      )

      pub weights_more : (h : ℕ → ℕ) → (pushed_by h (set owners at new) ≡ pushed_by h owners + h n) × (taken_by h (set owners at new) ≡ taken_by h owners)
      weights_more h =
          let p = sum_set_or (put_of h) owners at new d l in
          let t = sum_set_or (taken_of h) owners at new d l in
          let put : sum_by h (worker_view new).put ≡ sum_by h (worker_view own).put + h n = ap (λ (v : Hand). sum_by h v.put) rule.2 ∙ sum_by_push h (worker_view own).put n in
          let taken : sum_by h (worker_view new).taken ≡ sum_by h (worker_view own).taken = ap (λ (v : Hand). sum_by h v.taken) rule.2 in
          (omega (arith, p, put), omega (arith, t, taken))

      -- where it was that worker's turn
      pub given_more : AreGiven n owners → n % length owners ≡ at → AreGiven (n + 1) (set owners at new)
      given_more given turn w o q = go (ℕ_discrete w at) ∙ ap (λ k. turns_of k w (n + 1)) (sym (length-set owners at new))
        where
          go : Dec (w ≡ at) → put_by (get_or (set owners at new) w o) ≡ turns_of (length owners) w (n + 1)
          go (yes e) =
              ap (λ j. put_by (get_or (set owners at new) j o)) e
              ∙ ap put_by (get_or-set_same owners at new o l)
              ∙ ap (λ (v : Hand). v.put) rule.2
              ∙ ap (λ xs. xs ++ n ∷ []) (given at d l)
              ∙ sym (its_turn (length owners) at n turn)
              ∙ ap (λ j. turns_of (length owners) j (n + 1)) (sym e)
          go (no ne) =
              ap put_by (get_or-set_other owners at w new o ne)
              ∙ given w o (subst (λ k. w < k) (length-set owners at new) q)
              ∙ sym (other_turn (length owners) w n (λ e. ne (sym e ∙ turn)))

  pub given_alike : (count : ℕ) (old new : List (Worker ℕ Global Hand P)) → length new ≡ length old → AreGiven count old → PutAlike old new → AreGiven count new
  given_alike count old new long given alike w o l = alike w o o l ∙ given w o (subst (λ k. w < k) long l) ∙ ap (λ k. turns_of k w count) (sym long)

  pub alike_start : (owners : List (Worker ℕ Global Hand P)) → PutAlike owners owners
  alike_start owners k a b l = let e = entry_at owners k l in ap put_by (e.1 b ∙ sym (e.1 a))

  pub alike_twice : (old mid new : List (Worker ℕ Global Hand P)) → length new ≡ length mid → PutAlike old mid → PutAlike mid new → PutAlike old new
  alike_twice old mid new long first second k a b l = second k b b l ∙ first k a b (subst (λ j. k < j) long l)

  -- one owner changes, and has pushed what it had pushed
  pub alike_set : (old owners : List (Worker ℕ Global Hand P)) (at : ℕ) (new d : Worker ℕ Global Hand P) → PutAlike old owners → at < length owners → put_by new ≡ put_by (get_or owners at d) → PutAlike old (set owners at new)
  alike_set old owners at new d alike l e = each_set (λ k a b. put_by b ≡ put_by a) (λ k a b. put_by b ≡ put_by a) old owners at new alike l (λ k a b ne h. h) (λ a. e ∙ alike at a d l)
