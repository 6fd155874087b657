-- The law of the machine: each event keeps what was pushed in one place.
use Rattle.std.proofs.Common.{◌≡◌, ℕ, zero, suc, ◌+◌, ◌<◌, ◌≤◌, ◌≢◌, Bool, true, false, not, ◌&&◌, List, [], ◌∷◌, ◌++◌, if◌then◌else◌, nat_eq, nat_lt, All, refl, sym, ap, ◌∙◌, subst, arith, eq-eqb, ne_eqb}
use native.Mathlib.Decide.{ℕ_discrete}
use Rattle.std.proofs.lemmas.Bool.Decides.{nat_tests}
use Rattle.std.proofs.lemmas.List.Sums.{sum_by_push, sum_by-cons}
use Rattle.std.proofs.lemmas.List.Elements.{All-append}
use Rattle.claim_board.specs.DealMachine.{times}
use Rattle.claim_board.proofs.Machine.{sum_below_change, sum_below_zero}
use Rattle.steal_pool.specs.StealMachine.{Event, push, pop, steal, Machine, start, pushed_to, taken_from, step, run, may, is_legal, IsOf, stands, AreOnce, LosesNone}

both_true : (a b : Bool) → (a && b) ≡ true → (a ≡ true) × (b ≡ true)
both_true true b e = (refl, e)
both_true false b e = absurd (Rattle.std.proofs.Common.true≢false (sym e))

pushed_stands : (seats x : ℕ) (m : Machine) (w n : ℕ) → w < seats → stands seats x (pushed_to m w n) ≡ stands seats x m + (if nat_eq n x then 1 else 0)
pushed_stands seats x m w n l =
    let d : ℕ = if nat_eq n x then 1 else 0 in
    let t : nat_eq w w ≡ true = eq-eqb w w refl in
    let here : times x ((pushed_to m w n).deque w) ≡ times x (m.deque w) + d = rw t (sum_by_push (λ y. if nat_eq y x then 1 else 0) (m.deque w) n) in
    let c = sum_below_change (λ v. times x (m.deque v)) (λ v. times x ((pushed_to m w n).deque v)) seats w d l here (λ v ne. ap (λ b. times x (if b then m.deque v ++ n ∷ [] else m.deque v)) (ne_eqb v w ne)) in
    omega arith

taken_stands : (seats x : ℕ) (m : Machine) (w o : ℕ) (xs : List ℕ) → m.deque o ≡ xs → w < seats → o < seats → stands seats x (taken_from m w o xs) ≡ stands seats x m
taken_stands seats x m w o [] e l l' = refl
taken_stands seats x m w o (n ∷ rest) e l l' =
    let d : ℕ = if nat_eq n x then 1 else 0 in
    let new : Machine = taken_from m w o (n ∷ rest) in
    let t : nat_eq w w ≡ true = eq-eqb w w refl in
    let t' : nat_eq o o ≡ true = eq-eqb o o refl in
    let hand_here : times x (new.hand w) ≡ times x (m.hand w) + d = rw t (sum_by_push (λ y. if nat_eq y x then 1 else 0) (m.hand w) n) in
    let there : times x (new.deque o) ≡ times x rest = ap (λ b. times x (if b then rest else m.deque o)) t' in
    let first : times x (m.deque o) ≡ d + times x rest = ap (times x) e ∙ sum_by-cons (λ y. if nat_eq y x then 1 else 0) n rest in
    let deque_here : times x (m.deque o) ≡ times x (new.deque o) + d = omega arith in
    let a = sum_below_change (λ v. times x (m.hand v)) (λ v. times x (new.hand v)) seats w d l hand_here (λ v ne. ap (λ b. times x (if b then m.hand v ++ n ∷ [] else m.hand v)) (ne_eqb v w ne)) in
    let b = sum_below_change (λ v. times x (new.deque v)) (λ v. times x (m.deque v)) seats o d l' deque_here (λ v ne. sym (ap (λ b. times x (if b then rest else m.deque v)) (ne_eqb v o ne))) in
    omega arith

taken_pushed : (m : Machine) (w o : ℕ) (xs : List ℕ) → (taken_from m w o xs).pushed ≡ m.pushed
taken_pushed m w o [] = refl
taken_pushed m w o (n ∷ rest) = refl

taken_once : (tiles seats : ℕ) (m : Machine) (w o : ℕ) → w < seats → o < seats → AreOnce tiles seats m → AreOnce tiles seats (taken_from m w o (m.deque o))
taken_once tiles seats m w o l l' h = let p = taken_pushed m w o (m.deque o) in record {
  stand = λ x. taken_stands seats x m w o (m.deque o) refl l l' ∙ h.stand x ∙ ap (times x) (sym p);
  once = λ x. subst (λ ns. times x ns ≤ 1) (sym p) (h.once x);
  below = subst (All (λ n. n < tiles)) (sym p) h.below;
}

pushed_once : (tiles seats : ℕ) (m : Machine) (w n : ℕ) → w < seats → n < tiles → times n m.pushed ≡ 0 → AreOnce tiles seats m → AreOnce tiles seats (pushed_to m w n)
pushed_once tiles seats m w n l low new h = record {
  stand = λ x. let a = pushed_stands seats x m w n l in let b = sum_by_push (λ y. if nat_eq y x then 1 else 0) m.pushed n in let c = h.stand x in omega arith;
  once = λ x. go x (ℕ_discrete n x);
  below = All-append (λ j. j < tiles) m.pushed (n ∷ []) h.below one_low;
}
  where
    one_low : All (λ j. j < tiles) (n ∷ [])
    one_low zero d q = low
    one_low (suc k) d q = absurd (omega arith)

    go : (x : ℕ) → Dec (n ≡ x) → times x (m.pushed ++ n ∷ []) ≤ 1
    go x (yes e) =
        let d : ℕ = if nat_eq n x then 1 else 0 in
        let more : times x (m.pushed ++ n ∷ []) ≡ times x m.pushed + d = sum_by_push (λ y. if nat_eq y x then 1 else 0) m.pushed n in
        let z : times x m.pushed ≡ 0 = subst (λ j. times j m.pushed ≡ 0) e new in
        let t : d ≡ 1 = ap (λ q. if q then 1 else 0) (eq-eqb n x e) in
        omega arith
    go x (no ne) =
        let d : ℕ = if nat_eq n x then 1 else 0 in
        let more : times x (m.pushed ++ n ∷ []) ≡ times x m.pushed + d = sum_by_push (λ y. if nat_eq y x then 1 else 0) m.pushed n in
        let z = h.once x in
        let t : d ≡ 0 = ap (λ q. if q then 1 else 0) (ne_eqb n x ne) in
        omega arith

step_once : (tiles seats : ℕ) (m : Machine) (e : Event) → may tiles m e ≡ true → IsOf seats e → AreOnce tiles seats m → AreOnce tiles seats (step m e)
step_once tiles seats m (push w n) ok of h =
    let a = both_true (not m.started) (nat_lt n tiles && nat_eq (times n m.pushed) 0) ok in
    let b = both_true (nat_lt n tiles) (nat_eq (times n m.pushed) 0) a.1 in
    pushed_once tiles seats m w n of (grind (arith, b, nat_tests)) (grind (arith, b, nat_tests)) h
step_once tiles seats m (pop w) ok of h = taken_once tiles seats m w w of of h
step_once tiles seats m (steal w o) ok of h = taken_once tiles seats m w o of.0 of.1 h

run_once : (tiles seats : ℕ) (m : Machine) (events : List Event) → is_legal tiles m events ≡ true → All (IsOf seats) events → AreOnce tiles seats m → AreOnce tiles seats (run m events)
run_once tiles seats m [] ok of h = h
run_once tiles seats m (e ∷ es) ok of h =
    let a = both_true (may tiles m e) (is_legal tiles (step m e) es) ok in
    run_once tiles seats (step m e) es a.1 (λ k d l. of (suc k) d (omega arith)) (step_once tiles seats m e a.0 (of 0 e (omega arith)) h)

pub loses_none : LosesNone
loses_none tiles seats events ok of = run_once tiles seats start events ok of record {
  stand = λ x. let a = sum_below_zero (λ w. 0) seats (λ w. refl) in omega arith;
  once = λ x. omega arith;
  below = λ k d l. absurd (omega arith);
}
