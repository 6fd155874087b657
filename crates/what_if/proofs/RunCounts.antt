-- Counts of a run, one after another, and of all runs in the order of the commands.
use Rattle.std.proofs.Common.{◌≡◌, refl, sym, ap, subst, ◌∙◌, ℕ, zero, suc, ◌+◌, ◌*◌, ◌/◌, ◌%◌, ◌<◌, ◌≤◌, List, [], ◌∷◌, ◌++◌, length, get_or, Option, None, Vec, Global, arith, length-append}
use Rattle.std.proofs.Math.ListN.{get_or-append}
use Rattle.std.proofs.Math.Seq.{get_or-append_seam}
use native.Mathlib.Decide.{dec_lt}
use native.Mathlib.Nat.{mod-lt, mul-le-mul_right, div-add-mod', add-mul, one-mul}
use Rattle.edit_script.specs.Commands.{PlainCommand}
use Rattle.tile_pool.specs.NumberedValues.{AreAnswers}
use Rattle.drc_state.specs.States.{State}
use Rattle.what_if.specs.Trials.{IsCountAt}
use Rattle.what_if.specs.CommandRuns.{AreCountsFrom, AreCommandRuns}

-- past the end of a list stands what is handed in
past_end : {X : Type 0} (xs : List X) (k : ℕ) (d : X) → length xs ≤ k → get_or xs k d ≡ d
past_end [] k d le = refl
past_end (x ∷ xs) zero d le = absurd (omega (arith, le))
past_end (x ∷ xs) (suc k) d le = past_end xs k d (omega (arith, le))

-- one answer more
pub answers_more : {X : Type 0} (G : ℕ → X → Type 0) (n : ℕ) (xs : List X) (x : X) → AreAnswers G n xs → G n x → AreAnswers G (n + 1) (xs ++ x ∷ [])
answers_more {X = X} G n xs x so_far g = record { long = omega (arith, length-append xs (x ∷ []), so_far.long); each = each }
  where
    each : (k : ℕ) (d : X) → k < n + 1 → G k (get_or (xs ++ x ∷ []) k d)
    each k d q = go (dec_lt k n)
      where
        go : Dec (k < n) → G k (get_or (xs ++ x ∷ []) k d)
        go (yes p) = subst (λ (y : X). G k y) (sym (get_or-append xs (x ∷ []) d k (omega (arith, so_far.long)))) (so_far.each k d p)
        go (no p) =
            let at : k ≡ length xs = omega (arith, so_far.long) in
            let at' : k ≡ n = omega arith in
            subst (λ (y : X). G k y) (sym (ap (λ j. get_or (xs ++ x ∷ []) j d) at ∙ get_or-append_seam xs x [] d)) (subst (λ j. G j x) (sym at') g)

-- ---- one run

module _ (s : State) (commands : List PlainCommand) (first stride : ℕ) where
  -- the counts of the first commands of the run, and the place that comes next
  pub record IsRunSoFar (place : ℕ) (counts : List (Option ℕ)) : Type 0 where
    pub placed : place ≡ first + length counts * stride
    pub each : AreAnswers (λ k count. IsCountAt s commands (first + k * stride) count) (length counts) counts

  pub run_more : (place : ℕ) (counts later : List (Option ℕ)) (count : Option ℕ) → IsRunSoFar place counts → IsCountAt s commands place count → later ≡ counts ++ count ∷ [] → IsRunSoFar (place + stride) later
  run_more place counts later count so_far is e = subst (IsRunSoFar (place + stride)) (sym e) (record {
    placed =
        let more = add-mul (length counts) 1 stride in
        let one = one-mul stride in
        let long = ap (λ k. k * stride) (length-append counts (count ∷ [])) in
        omega (arith, more, one, long, so_far.placed);
    each =
        subst (λ k. AreAnswers (λ k count. IsCountAt s commands (first + k * stride) count) k (counts ++ count ∷ [])) (sym (length-append counts (count ∷ [])))
        (answers_more (λ k count. IsCountAt s commands (first + k * stride) count) (length counts) counts count so_far.each (subst (λ k. IsCountAt s commands k count) so_far.placed is));
  })

  pub run_done : (place : ℕ) (counts : List (Option ℕ)) → length commands ≤ place → IsRunSoFar place counts → AreCountsFrom s commands stride first counts
  run_done place counts past so_far k d l = go (dec_lt k (length counts))
    where
      go : Dec (k < length counts) → IsCountAt s commands (first + k * stride) (get_or counts k d)
      go (yes q) = so_far.each.each k d q
      go (no q) =
          let le : length counts ≤ k = omega arith in
          let more = mul-le-mul_right stride le in
          absurd (omega (arith, more, so_far.placed, past, l))

-- ---- all runs

module _ (s : State) (commands : List PlainCommand) (runs : List (Vec (Option ℕ) Global)) (some_runs : 0 < length runs) (are : AreCommandRuns s commands (length runs) runs) where
  pub count_in : (place : ℕ) (run : Vec (Option ℕ) Global) (d : Option ℕ) → place < length commands → run ≡ get_or runs (place % length runs) run → IsCountAt s commands place (get_or run.items (place / length runs) d)
  count_in place run d lt is =
      let w : ℕ = length runs in
      let at : place % w + place / w * w ≡ place = omega (arith, div-add-mod' place w) in
      let h = are.each (place % w) run (mod-lt place some_runs) (place / w) d (omega (arith, at, lt)) in
      subst (λ k. IsCountAt s commands k (get_or run.items (place / w) d)) at (subst (λ (v : Vec (Option ℕ) Global). IsCountAt s commands (place % w + place / w * w) (get_or v.items (place / w) d)) (sym is) h)

  -- what is found there, or none, is that count
  pub count_found : (place : ℕ) (run : Vec (Option ℕ) Global) (xs : List (Option ℕ)) (count : Option ℕ) → place < length commands → run ≡ get_or runs (place % length runs) run → xs ≡ run.items → count ≡ get_or xs (place / length runs) count → IsCountAt s commands place count
  count_found place run xs count lt is value at =
      subst (IsCountAt s commands place) (sym (at ∙ ap (λ (ys : List (Option ℕ)). get_or ys (place / length runs) count) value)) (count_in place run count lt is)

  pub count_none : (place : ℕ) (run : Vec (Option ℕ) Global) (xs : List (Option ℕ)) → place < length commands → run ≡ get_or runs (place % length runs) run → xs ≡ run.items → length xs ≤ place / length runs → IsCountAt s commands place None
  count_none place run xs lt is value past =
      subst (IsCountAt s commands place) (ap (λ (ys : List (Option ℕ)). get_or ys (place / length runs) None) (sym value) ∙ past_end xs (place / length runs) None past) (count_in place run None lt is)
