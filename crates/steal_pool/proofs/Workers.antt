-- What a crew leaves, from what each worker leaves.
use Rattle.std.proofs.Common.{◌≡◌, ℕ, zero, suc, ◌+◌, ◌<◌, ◌≤◌, false, List, [], ◌∷◌, length, map, get_or, sum_by, All, Vec, Global, refl, sym, ap, ◌∙◌, subst, arith}
use Rattle.std.proofs.lemmas.List.{get_or-map, length-map}
use Rattle.std.proofs.lemmas.List.Sums.{sum_by-cons}
use Rattle.crossbeam_deque.specs.declared.handles.Stealer.{Stealer}
use Rattle.crossbeam_deque.specs.declared.handles.Worker.{Worker}
use Rattle.steal_pool.specs.declared.rule.Hand.{Hand}
use Rattle.steal_pool.specs.declared.rule.Line.{Line}
use Rattle.steal_pool.specs.declared.member.Member.{Member}
use Rattle.steal_pool.specs.declared.rule.Fair.{Fair}
use Rattle.tile_pool.specs.NumberedValues.{AreValues, AreBatches}
use Rattle.tile_pool.proofs.Batches.{none_of}
use Rattle.steal_pool.specs.Seats.{IsOwner, AreOwners, AreLines, AreUnused, put_of, taken_of, taken_with, pushed_by, taken_by}
use Rattle.steal_pool.specs.PoolMembers.{IsReady, HaveRun}
use Rattle.steal_pool.proofs.Related.{entry_at}

-- a sum over two lists that agree place by place
pub sum_same : {A : Type 0} (f g : A → ℕ) (xs ys : List A) → length xs ≡ length ys → ((k : ℕ) (d : A) → k < length xs → f (get_or xs k d) ≡ g (get_or ys k d)) → sum_by f xs ≡ sum_by g ys
sum_same f g [] [] e h = refl
sum_same f g [] (y ∷ ys) e h = absurd (omega (arith, e))
sum_same f g (x ∷ xs) [] e h = absurd (omega (arith, e))
sum_same f g (x ∷ xs) (y ∷ ys) e h = let a = h 0 x (omega arith) in let b = sum_same f g xs ys (omega (arith, e)) (λ k d l. h (suc k) d (omega arith)) in omega (arith, sum_by-cons f x xs, sum_by-cons g y ys)

pub sum_map : {A B : Type 0} (f : B → ℕ) (m : A → B) (xs : List A) → sum_by f (map m xs) ≡ sum_by (λ x. f (m x)) xs
sum_map f m [] = refl
sum_map f m (x ∷ xs) = let a = sum_map f m xs in omega (arith, sum_by-cons f (m x) (map m xs), sum_by-cons (λ y. f (m y)) x xs)

pub sum_two : {A : Type 0} (f g : A → ℕ) (xs : List A) → sum_by (λ x. f x + g x) xs ≡ sum_by f xs + sum_by g xs
sum_two f g [] = refl
sum_two f g (x ∷ xs) = let a = sum_two f g xs in omega (arith, sum_by-cons (λ y. f y + g y) x xs, sum_by-cons f x xs, sum_by-cons g x xs)

pub sum_part : {A : Type 0} (f : A → ℕ) (xs : List A) (k : ℕ) (d : A) → k < length xs → f (get_or xs k d) ≤ sum_by f xs
sum_part f [] k d l = absurd (omega arith)
sum_part f (x ∷ xs) zero d l = omega (arith, sum_by-cons f x xs)
sum_part f (x ∷ xs) (suc k) d l = omega (arith, sum_by-cons f x xs, sum_part f xs k d (omega arith))

module _ {X : Type 0} (G : ℕ → X → Type 0) (tiles parts : ℕ) (others : List (Stealer ℕ Global Hand Fair)) (owners : List (Worker ℕ Global Hand Fair)) (crew : List (Member X)) (same : map (λ (m : Member X). m.own) crew ≡ owners) (of : AreOwners tiles parts others owners) where
  long : length crew ≡ length owners
  long = sym (length-map crew (λ (m : Member X). m.own)) ∙ ap length same

  owner_at : (k : ℕ) (d : Member X) → k < length crew → get_or owners k d.own ≡ (get_or crew k d).own
  owner_at k d l = ap (λ xs. get_or xs k d.own) (sym same) ∙ get_or-map (λ (m : Member X). m.own) crew k d d.own l

  is_at : (k : ℕ) (s : Stealer ℕ Global Hand Fair) (d : Member X) → k < length crew → IsOwner tiles parts (get_or others k s) (get_or crew k d).own
  is_at k s d l = subst (λ (o : Worker ℕ Global Hand Fair). IsOwner tiles parts (get_or others k s) o) (owner_at k d l) (of.1 k s d.own (omega (arith, l, long)))

  pub ready_crew : 0 < parts → ((h : ℕ → ℕ) → taken_by h owners ≡ 0) → All (λ (m : Member X). AreUnused tiles others m.lines.items) crew → All (λ (m : Member X). (m.share.hand.items ≡ []) × (m.share.batch.items ≡ [])) crew → All (IsReady G tiles others) crew
  ready_crew some none unused fresh k d l =
      let s = (entry_at others k (omega (arith, l, long, of.0))).0 in
      let is = is_at k s d l in
      let u = unused k d l in
      let f = fresh k d l in
      let m = get_or crew k d in (
        (is.1, omega (arith, is.3, some), is.4),
        u.0,
        f.0,
        (λ e. none_of G m.share.hand.items m.share.batch.items f.0 f.1),
        λ h.
            let part = sum_part (taken_of h) owners k d.own (omega (arith, l, long)) in
            let at = ap (taken_of h) (owner_at k d l) in
            let z = none h in
            (omega (arith, part, at, z), u.1 h),
      )

  module _ (later : List (Member X)) (as_long : length later ≡ length crew) (ran : HaveRun G tiles others crew later) where
    pub back_owners : AreOwners tiles parts others (map (λ (m : Member X). m.own) later)
    back_owners = (length-map later (λ (m : Member X). m.own) ∙ as_long ∙ long ∙ of.0, each)
      where
        each : (k : ℕ) (s : Stealer ℕ Global Hand Fair) (o : Worker ℕ Global Hand Fair) → k < length (map (λ (m : Member X). m.own) later) → IsOwner tiles parts (get_or others k s) (get_or (map (λ (m : Member X). m.own) later) k o)
        each k s o l =
            let l' : k < length later = omega (arith, length-map later (λ (m : Member X). m.own)) in
            let l'' : k < length crew = omega (arith, l', as_long) in
            let w = (entry_at later k l').0 in
            let is = is_at k s w l'' in
            let r = (ran k w l'').0 in
            subst (λ (x : Worker ℕ Global Hand Fair). IsOwner tiles parts (get_or others k s) x) (sym (get_or-map (λ (m : Member X). m.own) later k w o l'))
            (r.0 ∙ is.0, r.1, is.2, r.2 ∙ is.3, omega (arith, r.3, is.4))

    pub back_pushed : (h : ℕ → ℕ) → pushed_by h (map (λ (m : Member X). m.own) later) ≡ pushed_by h owners
    back_pushed h = sum_map (put_of h) (λ (m : Member X). m.own) later
        ∙ sum_same (λ (m : Member X). put_of h m.own) (λ (m : Member X). put_of h m.own) later crew as_long (λ k d l. ap (sum_by h) (ran k d (omega (arith, l, as_long))).0.4)
        ∙ sym (sum_map (put_of h) (λ (m : Member X). m.own) crew) ∙ ap (pushed_by h) same

    pub back_lines : All (λ (v : Vec Line Global). AreLines tiles others v.items) (map (λ (m : Member X). m.lines) later)
    back_lines k d l =
        let l' : k < length later = omega (arith, length-map later (λ (m : Member X). m.lines)) in
        let w = (entry_at later k l').0 in
        subst (λ (v : Vec Line Global). AreLines tiles others v.items) (sym (get_or-map (λ (m : Member X). m.lines) later k w d l')) (ran k w (omega (arith, l', as_long))).1

    pub back_kept : (h : ℕ → ℕ) → sum_by (λ (v : Vec ℕ Global). sum_by h v.items) (map (λ (m : Member X). m.share.hand) later) ≡ taken_by h (map (λ (m : Member X). m.own) later) + sum_by (λ (v : Vec Line Global). taken_with h v.items) (map (λ (m : Member X). m.lines) later)
    back_kept h =
        let a = sum_map (λ (v : Vec ℕ Global). sum_by h v.items) (λ (m : Member X). m.share.hand) later in
        let b = sum_map (taken_of h) (λ (m : Member X). m.own) later in
        let c = sum_map (λ (v : Vec Line Global). taken_with h v.items) (λ (m : Member X). m.lines) later in
        let d = sum_two (λ (m : Member X). taken_of h m.own) (λ (m : Member X). taken_with h m.lines.items) later in
        let e = sum_same (λ (m : Member X). sum_by h m.share.hand.items) (λ (m : Member X). taken_of h m.own + taken_with h m.lines.items) later later refl (λ k x l. (ran k x (omega (arith, l, as_long))).2 h) in
        omega arith

    pub back_values : All (λ (m : Member X). m.share.failed ≡ false) later → AreBatches G (map (λ (v : Vec ℕ Global). v.items) (map (λ (m : Member X). m.share.hand) later)) (map (λ (m : Member X). m.share.batch) later)
    back_values good k d e l =
        let l' : k < length later = omega (arith, length-map later (λ (m : Member X). m.share.batch)) in
        let l'' : k < length (map (λ (m : Member X). m.share.hand) later) = omega (arith, l', length-map later (λ (m : Member X). m.share.hand)) in
        let w = (entry_at later k l').0 in
        let r = (ran k w (omega (arith, l', as_long))).3 (good k w l') in
        let hand : (get_or later k w).share.hand.items ≡ get_or (map (λ (v : Vec ℕ Global). v.items) (map (λ (m : Member X). m.share.hand) later)) k d = ap (λ (v : Vec ℕ Global). v.items) (sym (get_or-map (λ (m : Member X). m.share.hand) later k w w.share.hand l')) ∙ sym (get_or-map (λ (v : Vec ℕ Global). v.items) (map (λ (m : Member X). m.share.hand) later) k w.share.hand d l'') in
        let batch : (get_or later k w).share.batch ≡ get_or (map (λ (m : Member X). m.share.batch) later) k e = sym (get_or-map (λ (m : Member X). m.share.batch) later k w e l') in
        subst (λ (xs : List ℕ). AreValues G xs (get_or (map (λ (m : Member X). m.share.batch) later) k e).items) hand (subst (λ (b : Vec X Global). AreValues G (get_or later k w).share.hand.items b.items) batch r)
