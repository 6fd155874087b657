-- One work of a plan is done, or one more is planned.
use Rattle.std.proofs.Common.{◌≡◌, ◌≢◌, ◌⊎◌, ℕ, ◌+◌, ◌<◌, Bool, true, false, List, [], ◌∷◌, ◌++◌, length, get_or, set, Some, IfSome, inl, inr, refl, sym, subst, ap, ◌∙◌, arith, All, Contains}
use Rattle.std.specs.List.{Any}
use Rattle.std.proofs.lemmas.List.{get_or_default, get_or-set_other, get_or-set_same, length-set}
use Rattle.std.proofs.lemmas.List.Elements.{All-contains, All-push, All-weaker, Contains-append_left, Contains-push, Contains-push_cases, Contains-get_or}
use Rattle.board_items.specs.Boards.{PlainBoard}
use Rattle.board_laws.specs.Edits.{is_one_of}
use Rattle.net_groups.specs.NetParts.{PlainNetPart}
use Rattle.net_groups.specs.declared.works.Work.{Work}
use Rattle.net_groups.specs.NetParts.{IsNetPart}
use Rattle.net_groups.specs.Works.{AreFound}
use Rattle.kept_nets.specs.NetPlans.{IsDue, AreAt, AreWorksUpTo, IsPlan}

eq_or : (m k : ℕ) → (m ≡ k) ⊎ (m ≢ k)
eq_or m k = grind arith

any_has : (P : Work → Type 0) (works : List Work) (work : Work) → Contains works work → P work → Any P works
any_has P works work c p = (c.0, work, c.1, c.2, p)

-- a work that is left
any_left : (P : Work → Type 0) (works : List Work) (work : Work) → Any P (works ++ work ∷ []) → Any P works ⊎ P work
any_left P works work a = by_place (Contains-push_cases works work a.1 (a.0, a.2, a.3))
  where
    by_place : Contains works a.1 ⊎ (work ≡ a.1) → Any P works ⊎ P work
    by_place (inl c) = inl (any_has P works a.1 c a.4)
    by_place (inr e) = inr (subst P (sym e) a.4)

any_more : (P : Work → Type 0) (works : List Work) (work : Work) → Any P works → Any P (works ++ work ∷ [])
any_more P works work a = any_has P (works ++ work ∷ []) a.1 (Contains-append_left works (work ∷ []) a.1 (a.0, a.2, a.3)) a.4

pub all_prefix : (P : Work → Type 0) (works : List Work) (work : Work) → All P (works ++ work ∷ []) → All P works
all_prefix P works work all k d lt = All-contains P (works ++ work ∷ []) (get_or works k d) all (Contains-append_left works (work ∷ []) (get_or works k d) (Contains-get_or works k d lt))

pub all_last : (P : Work → Type 0) (works : List Work) (work : Work) → All P (works ++ work ∷ []) → P work
all_last P works work all = All-contains P (works ++ work ∷ []) work all (Contains-push works work)

pub plan_done : (board : PlainBoard) (nets : List ℕ) (parts after : List PlainNetPart) (works : List Work) (work : Work) (part : PlainNetPart) → work.part ≡ Some part → after ≡ set parts work.place part → IsPlan board nets parts (works ++ work ∷ []) → IsPlan board nets after works
plan_done board nets parts after works work part found put plan = record {
  long = ap length put ∙ (length-set parts work.place part ∙ plan.long);
  right = all_prefix (λ w. (w.place < length nets) × IfSome w.part (IsNetPart board (get_or nets w.place 0))) works work plan.right;
  due = λ k d lt. by_place k d lt (eq_or k work.place);
}
  where
    here : (work.place < length nets) × IfSome work.part (IsNetPart board (get_or nets work.place 0))
    here = all_last (λ w. (w.place < length nets) × IfSome w.part (IsNetPart board (get_or nets w.place 0))) works work plan.right

    fresh : IsNetPart board (get_or nets work.place 0) part
    fresh = subst (λ o. IfSome o (IsNetPart board (get_or nets work.place 0))) found here.1

    further : (k : ℕ) (d : PlainNetPart) → k ≢ work.place → IsNetPart board (get_or nets k 0) (get_or parts k d) ⊎ IsDue (works ++ work ∷ []) k → IsNetPart board (get_or nets k 0) (get_or after k d) ⊎ IsDue works k
    further k d other (inl p) = inl (subst (IsNetPart board (get_or nets k 0)) (sym (ap (λ (ps : List PlainNetPart). get_or ps k d) put ∙ get_or-set_other parts work.place k part d other)) p)
    further k d other (inr a) = left (any_left (λ w. w.place ≡ k) works work a)
      where
        left : IsDue works k ⊎ (work.place ≡ k) → IsNetPart board (get_or nets k 0) (get_or after k d) ⊎ IsDue works k
        left (inl q) = inr q
        left (inr e) = absurd (other (sym e))

    by_place : (k : ℕ) (d : PlainNetPart) → k < length nets → (k ≡ work.place) ⊎ (k ≢ work.place) → IsNetPart board (get_or nets k 0) (get_or after k d) ⊎ IsDue works k
    by_place k d lt (inr other) = further k d other (plan.due k d lt)
    by_place k d lt (inl e) =
        let there : get_or after work.place d ≡ part = ap (λ (ps : List PlainNetPart). get_or ps work.place d) put ∙ get_or-set_same parts work.place part d (omega (arith, here.0, plan.long)) in
        inl (subst (λ (n : ℕ). IsNetPart board (get_or nets n 0) (get_or after n d)) (sym e) (subst (IsNetPart board (get_or nets work.place 0)) (sym there) fresh))

-- a plan with no work left is done
pub plan_empty : (board : PlainBoard) (nets : List ℕ) (parts : List PlainNetPart) → IsPlan board nets parts [] → AreAt board nets parts
plan_empty board nets parts plan k d lt = by_due (plan.due k d lt)
  where
    by_due : IsNetPart board (get_or nets k 0) (get_or parts k d) ⊎ IsDue [] k → IsNetPart board (get_or nets k 0) (get_or parts k d)
    by_due (inl p) = p
    by_due (inr a) = absurd (omega (arith, a.2))

last_case : (m i : ℕ) → m < i + 1 → (m < i) ⊎ (m ≡ i)
last_case m i k = grind arith

module _ (nets touched : List ℕ) (place : ℕ) (works : List Work) (r : AreWorksUpTo nets touched place works) where
  pub work_more : (work : Work) → work.place ≡ place → work.net ≡ get_or nets place 0 → is_one_of touched work.net ≡ true → AreWorksUpTo nets touched (place + 1) (works ++ work ∷ [])
  work_more work e f own = record {
    only = All-push (λ w. (w.place < place + 1) × (w.net ≡ get_or nets w.place 0) × (is_one_of touched w.net ≡ true)) works work (All-weaker (λ w. (w.place < place) × (w.net ≡ get_or nets w.place 0) × (is_one_of touched w.net ≡ true)) (λ w. (w.place < place + 1) × (w.net ≡ get_or nets w.place 0) × (is_one_of touched w.net ≡ true)) (λ w h. (omega (arith, h.0), h.1, h.2)) works r.only) (omega arith, f ∙ ap (λ n. get_or nets n 0) (sym e), own);
    all = λ k lt among. by_place k among (last_case k place lt);
  }
    where
      by_place : (k : ℕ) → is_one_of touched (get_or nets k 0) ≡ true → (k < place) ⊎ (k ≡ place) → IsDue (works ++ work ∷ []) k
      by_place k among (inl lt) = any_more (λ w. w.place ≡ k) works work (r.all k lt among)
      by_place k among (inr q) = any_has (λ w. w.place ≡ k) (works ++ work ∷ []) work (Contains-push works work) (e ∙ sym q)

  pub work_none : ¬ (is_one_of touched (get_or nets place 0) ≡ true) → AreWorksUpTo nets touched (place + 1) works
  work_none free = record {
    only = All-weaker (λ w. (w.place < place) × (w.net ≡ get_or nets w.place 0) × (is_one_of touched w.net ≡ true)) (λ w. (w.place < place + 1) × (w.net ≡ get_or nets w.place 0) × (is_one_of touched w.net ≡ true)) (λ w h. (omega (arith, h.0), h.1, h.2)) works r.only;
    all = λ k lt among. by_place k among (last_case k place lt);
  }
    where
      by_place : (k : ℕ) → is_one_of touched (get_or nets k 0) ≡ true → (k < place) ⊎ (k ≡ place) → IsDue works k
      by_place k among (inl lt) = r.all k lt among
      by_place k among (inr q) = absurd (free (subst (λ (n : ℕ). is_one_of touched (get_or nets n 0) ≡ true) q among))

-- the works that were found and the parts that stay make a plan
pub planned : (board : PlainBoard) (nets touched : List ℕ) (parts : List PlainNetPart) (works found : List Work) → length parts ≡ length nets
    → ((k : ℕ) (d : PlainNetPart) → k < length nets → is_one_of touched (get_or nets k 0) ≡ false → IsNetPart board (get_or nets k 0) (get_or parts k d))
    → AreWorksUpTo nets touched (length nets) works → AreFound board works found → IsPlan board nets parts found
planned board nets touched parts works found long stay r f = record {
  long = long;
  right = right;
  due = λ k d lt. by_touch k d lt (is_one_of touched (get_or nets k 0)) refl;
}
  where
    right : All (λ w. (w.place < length nets) × IfSome w.part (IsNetPart board (get_or nets w.place 0))) found
    right k d lt =
        let below : k < length works = omega (arith, f.long) in
        let e = f.each k d below in
        let h = r.only k d below in
        let same : (get_or works k d).net ≡ get_or nets (get_or found k d).place 0 = h.1 ∙ ap (λ n. get_or nets n 0) (sym e.0) in
        (omega (arith, h.0, e.0), subst (λ (net : ℕ). IfSome (get_or found k d).part (IsNetPart board net)) same e.2)

    due_of : (k : ℕ) → IsDue works k → IsDue found k
    due_of k a =
        let e = f.each a.0 a.1 a.2 in
        let lt : a.0 < length found = omega (arith, a.2, f.long) in
        (a.0, get_or found a.0 a.1, lt, get_or_default found a.0 (get_or found a.0 a.1) a.1 lt, e.0 ∙ (ap (λ (w : Work). w.place) a.3 ∙ a.4))

    by_touch : (k : ℕ) (d : PlainNetPart) → k < length nets → (b : Bool) → is_one_of touched (get_or nets k 0) ≡ b → IsNetPart board (get_or nets k 0) (get_or parts k d) ⊎ IsDue found k
    by_touch k d lt true q = inr (due_of k (r.all k lt q))
    by_touch k d lt false q = inl (stay k d lt q)
