use Rattle.std.proofs.Common.{◌≡◌, ◌≢◌, ℕ, ◌+◌, ◌≤◌, ◌<◌, Bool, true, false, cond, nat_eq, List, [], ◌∷◌, ◌⊎◌, inl, inr, ⊎_elim, refl, sym, ◌∙◌, ap, ap₂, subst, true≢false, arith, eq-eqb, ne_eqb}
use Rattle.ratsnest.specs.Mem.{Mem, Sub, Under, Drops}
use Rattle.ratsnest.proofs.Members.{Sub-more, Sub-itself, Sub-mem, Sub-from_mem, Under-mem, Under-from_mem}
use Rattle.ratsnest.specs.LinkChains.{Joins, Chain}
use Rattle.ratsnest.specs.LinkChains.Chain.{here, step}
use Rattle.std.proofs.lemmas.Bool.{cases_eq, cond-true, cond-false}

-- the labels c, with the label of a put to that of b
pub merge : (ℕ → ℕ) → ℕ → ℕ → ℕ → ℕ
merge c a b x = cond (nat_eq (c x) (c a)) (c b) (c x)

merge_moves : (c : ℕ → ℕ) (a b x : ℕ) → c x ≡ c a → merge c a b x ≡ c b
unfolding merge
merge_moves c a b x h = cond-true _ _ _ (eq-eqb (c x) (c a) h)

merge_stays : (c : ℕ → ℕ) (a b x : ℕ) → c x ≢ c a → merge c a b x ≡ c x
unfolding merge
merge_stays c a b x h = cond-false _ _ _ (ne_eqb (c x) (c a) h)

-- groups of one label keep one label
merge_same : (c : ℕ → ℕ) (a b x y : ℕ) → c x ≡ c y → merge c a b x ≡ merge c a b y
unfolding merge
merge_same c a b x y h = rw h

-- the ends get one label
merge_ends : (c : ℕ → ℕ) (a b : ℕ) → merge c a b a ≡ merge c a b b
merge_ends c a b =
    ⊎_elim (λ e. merge_moves c a b a refl ∙ sym (merge_moves c a b b e))
    (λ ne. merge_moves c a b a refl ∙ sym (merge_stays c a b b ne)) (cases_eq (c b) (c a))

-- what has one label afterwards had one before, or had those of the ends
merge_back : (c : ℕ → ℕ) (a b x y : ℕ) → merge c a b x ≡ merge c a b y →
    (c x ≡ c y) ⊎ (((c x ≡ c a) × (c y ≡ c b)) ⊎ ((c x ≡ c b) × (c y ≡ c a)))
merge_back c a b x y h =
    ⊎_elim
    (λ ex. ⊎_elim (λ ey. inl (ex ∙ sym ey))
    (λ ny. inr (inl (ex, sym (merge_stays c a b y ny) ∙ sym h ∙ merge_moves c a b x ex))) (cases_eq (c y) (c a)))
    (λ nx. ⊎_elim (λ ey. inr (inr (sym (merge_stays c a b x nx) ∙ h ∙ merge_moves c a b y ey, ey)))
    (λ ny. inl (sym (merge_stays c a b x nx) ∙ h ∙ merge_stays c a b y ny)) (cases_eq (c y) (c a)))
    (cases_eq (c x) (c a))

pub same_unless : (a b : Bool) → (a ≢ b → ⊥) → a ≡ b
same_unless true true h = refl
same_unless false false h = refl
same_unless true false h = absurd (h true≢false)
same_unless false true h = absurd (h (λ e. true≢false (sym e)))

module _ {L : Type 0} (left right : L → ℕ) where
  -- the labels that the links of a list give
  pub labels : List L → ℕ → ℕ
  labels [] x = x
  labels (e ∷ es) x = merge (labels es) (left e) (right e) x

  -- the links whose ends the rest of the list, after them, does not join
  pub greedy : List L → List L
  greedy [] = []
  greedy (e ∷ es) =
      cond (nat_eq (labels es (left e)) (labels es (right e))) (greedy es) (e ∷ greedy es)

  -- each link's ends have one label
  abbrev pub Keeps : (ℕ → ℕ) → List L → Type 0
  Keeps c [] = Unit {0}
  Keeps c (e ∷ es) = (c (left e) ≡ c (right e)) × Keeps c es

  keeps_merge : (c : ℕ → ℕ) (a b : ℕ) (es : List L) → Keeps c es → Keeps (merge c a b) es
  keeps_merge c a b [] k = tt
  keeps_merge c a b (e ∷ es) k = (merge_same c a b _ _ k.0, keeps_merge c a b es k.1)

  pub labels_keep : (es : List L) → Keeps (labels es) es
  unfolding labels
  labels_keep [] = tt
  labels_keep (e ∷ es) =
      (merge_ends (labels es) (left e) (right e), keeps_merge (labels es) (left e) (right e) es (labels_keep es))

  -- labels that each link keeps are the same where `labels` are
  pub labels_least : (es : List L) (c : ℕ → ℕ) → Keeps c es → (x y : ℕ) → labels es x ≡ labels es y → c x ≡ c y
  unfolding labels
  labels_least [] c k x y h = ap c h
  labels_least (e ∷ es) c k x y h =
      let go : (u v : ℕ) → labels es u ≡ labels es v → c u ≡ c v = labels_least es c k.1 in
      elim (merge_back (labels es) (left e) (right e) x y h) [
        | inl s ↦ go x y s
        | inr (inl s) ↦ go x (left e) s.0 ∙ k.0 ∙ sym (go y (right e) s.1)
        | inr (inr s) ↦ go x (right e) s.0 ∙ sym k.0 ∙ sym (go y (left e) s.1)
      ]

  pub Keeps-mem : (c : ℕ → ℕ) (es : List L) → Keeps c es → (e : L) → Mem e es → c (left e) ≡ c (right e)
  Keeps-mem c [] k e m = absurd m
  Keeps-mem c (f ∷ es) k e m = elim m [
    | inl h ↦ subst (λ z. c (left z) ≡ c (right z)) (sym h) k.0
    | inr h ↦ Keeps-mem c es k.1 e h
  ]

  pub Keeps-from_mem : (c : ℕ → ℕ) (es : List L) → ((e : L) → Mem e es → c (left e) ≡ c (right e)) → Keeps c es
  Keeps-from_mem c [] h = tt
  Keeps-from_mem c (e ∷ es) h = (h e (inl refl), Keeps-from_mem c es (λ f m. h f (inr m)))

  pub Keeps-sub : (c : ℕ → ℕ) (fs es : List L) → Keeps c es → Sub fs es → Keeps c fs
  Keeps-sub c [] es k s = tt
  Keeps-sub c (f ∷ fs) es k s = (Keeps-mem c es k f s.0, Keeps-sub c fs es k s.1)

  -- a link that the labels do not keep, if there is one
  pub broken : (c : ℕ → ℕ) (es : List L) → Keeps c es ⊎ ((f : L) × Mem f es × (c (left f) ≢ c (right f)))
  broken c [] = inl tt
  broken c (e ∷ es) = elim (cases_eq (c (left e)) (c (right e))) [
    | inl h ↦ elim (broken c es) [ inl k ↦ inl (h, k) | inr b ↦ inr (b.0, inr b.1, b.2) ]
    | inr n ↦ inr (e, inl refl, n)
  ]

  -- where e joins the ends of f, and the rest does not, f joins the ends of e
  exchange : (gs : List L) (e f : L) → labels gs (left f) ≢ labels gs (right f) →
      labels (e ∷ gs) (left f) ≡ labels (e ∷ gs) (right f) →
      labels (f ∷ gs) (left e) ≡ labels (f ∷ gs) (right e)
  unfolding labels
  exchange gs e f n h =
      let c : ℕ → ℕ = labels gs in
      let go : (x y : ℕ) → c x ≡ c y → merge c (left f) (right f) x ≡ merge c (left f) (right f) y = merge_same c (left f) (right f) in
      let ends : merge c (left f) (right f) (left f) ≡ merge c (left f) (right f) (right f) = merge_ends c (left f) (right f) in
      elim (merge_back c (left e) (right e) (left f) (right f) h) [
        | inl s ↦ absurd (n s)
        | inr (inl s) ↦ go (left e) (left f) (sym s.0) ∙ ends ∙ go (right f) (right e) s.1
        | inr (inr s) ↦ go (left e) (right f) (sym s.1) ∙ sym ends ∙ go (left f) (right e) s.0
      ]

  pub greedy_joined : (e : L) (es : List L) → labels es (left e) ≡ labels es (right e) → greedy (e ∷ es) ≡ greedy es
  unfolding greedy
  greedy_joined e es h = cond-true _ _ _ (eq-eqb (labels es (left e)) (labels es (right e)) h)

  pub greedy_apart : (e : L) (es : List L) → labels es (left e) ≢ labels es (right e) → greedy (e ∷ es) ≡ e ∷ greedy es
  unfolding greedy
  greedy_apart e es h = cond-false _ _ _ (ne_eqb (labels es (left e)) (labels es (right e)) h)

  module _ (weight : L → ℕ) where
    abbrev pub total : List L → ℕ
    total [] = 0
    total (e ∷ es) = weight e + total es

    -- no link of the list weighs more than w
    abbrev pub Bounded : ℕ → List L → Type 0
    Bounded w [] = Unit {0}
    Bounded w (e ∷ es) = (weight e ≤ w) × Bounded w es

    abbrev pub Falling : List L → Type 0
    Falling [] = Unit {0}
    Falling (e ∷ es) = Bounded (weight e) es × Falling es

    Bounded-mem : (w : ℕ) (es : List L) → Bounded w es → (e : L) → Mem e es → weight e ≤ w
    Bounded-mem w [] b e m = absurd m
    Bounded-mem w (f ∷ es) b e m = elim m [
      | inl h ↦ subst (λ z. weight z ≤ w) (sym h) b.0
      | inr h ↦ Bounded-mem w es b.1 e h
    ]

    -- the links fs of e ∷ es without e
    pub record Without (e : L) (es fs gs : List L) : Type 0 where
      pub within : Sub gs es
      pub of : Sub gs fs
      pub had : Mem e fs
      pub weighs : weight e + total gs ≤ total fs
      pub keeps : (c : ℕ → ℕ) → c (left e) ≡ c (right e) → Keeps c gs → Keeps c fs
      pub others : (f : L) → Mem f fs → (f ≡ e) ⊎ Mem f gs

    without_more : (e f : L) (es fs gs : List L) → f ≡ e → Without e es fs gs → Without e es (f ∷ fs) gs
    without_more e f es fs gs h w = record {
      within = w.within;
      of = Sub-more gs fs f w.of;
      had = inr w.had;
      weighs = omega (arith, w.weighs);
      keeps = λ c k kg. (subst (λ z. c (left z) ≡ c (right z)) (sym h) k, w.keeps c k kg);
      others = λ g m. elim m [ inl q ↦ inl (q ∙ h) | inr q ↦ w.others g q ];
    }

    without_first : (e f : L) (es fs : List L) → f ≡ e → Sub fs es → Without e es (f ∷ fs) fs
    without_first e f es fs h s = record {
      within = s;
      of = Sub-more fs fs f (Sub-itself fs);
      had = inl (sym h);
      weighs = let w : weight e ≡ weight f = ap weight (sym h) in omega arith;
      keeps = λ c k kg. (subst (λ z. c (left z) ≡ c (right z)) (sym h) k, kg);
      others = λ g m. elim m [ inl q ↦ inl (q ∙ h) | inr q ↦ inr q ];
    }

    without_next : (e f : L) (es fs gs : List L) → Mem f es → Without e es fs gs → Without e es (f ∷ fs) (f ∷ gs)
    without_next e f es fs gs m w = record {
      within = (m, w.within);
      of = (inl refl, Sub-more gs fs f w.of);
      had = inr w.had;
      weighs = omega (arith, w.weighs);
      keeps = λ c k kg. (kg.0, w.keeps c k kg.1);
      others = λ g n. elim n [ inl q ↦ inr (inl q) | inr q ↦ elim (w.others g q) [ inl r ↦ inl r | inr r ↦ inr (inr r) ] ];
    }

    pub take_out : (e : L) (es fs : List L) → Sub fs (e ∷ es) → Sub fs es ⊎ ((gs : List L) × Without e es fs gs)
    take_out e es [] s = inl tt
    take_out e es (f ∷ fs) s = elim s.0 [
      | inl h ↦ elim (take_out e es fs s.1) [
        | inl t ↦ inr (fs, without_first e f es fs h t)
        | inr t ↦ inr (t.0, without_more e f es fs t.0 h t.1)
      ]
      | inr h ↦ elim (take_out e es fs s.1) [
        | inl t ↦ inl (h, t)
        | inr t ↦ inr (f ∷ t.0, without_next e f es fs t.0 h t.1)
      ]
    ]

    -- labels of e and of a list without it, which the whole list has too
    spans_with : (e : L) (es fs gs : List L) → Without e es fs gs → Keeps (labels (e ∷ gs)) fs
    spans_with e es fs gs w =
        let k : Keeps (labels (e ∷ gs)) (e ∷ gs) = labels_keep (e ∷ gs) in
        w.keeps (labels (e ∷ gs)) k.0 k.1

    -- without a link that the others do not join, the rest still joins what the others join
    rest_spans : (e : L) (es fs gs : List L) → Without e es fs gs → labels es (left e) ≢ labels es (right e) →
        Keeps (labels fs) es → Keeps (labels gs) es
    rest_spans e es fs gs w n k =
        elim (broken (labels gs) es) [
          | inl s ↦ s
          | inr b ↦
              let h : labels (e ∷ gs) (left b.0) ≡ labels (e ∷ gs) (right b.0) =
              labels_least fs (labels (e ∷ gs)) (spans_with e es fs gs w) _ _ (Keeps-mem (labels fs) es k b.0 b.1) in
              let x : labels (b.0 ∷ gs) (left e) ≡ labels (b.0 ∷ gs) (right e) = exchange gs e b.0 b.2 h in
              absurd (n (labels_least (b.0 ∷ gs) (labels es) (Keeps-sub (labels es) (b.0 ∷ gs) es (labels_keep es) (b.1, w.within)) _ _ x))
        ]

    -- a link that the others join can be put for another one
    swap_spans : (e : L) (es fs gs : List L) → Without e es fs gs → (f : L) → labels gs (left f) ≢ labels gs (right f) →
        labels fs (left f) ≡ labels fs (right f) → Keeps (labels fs) es → Keeps (labels (f ∷ gs)) es
    swap_spans e es fs gs w f n hf k =
        let h : labels (e ∷ gs) (left f) ≡ labels (e ∷ gs) (right f) =
        labels_least fs (labels (e ∷ gs)) (spans_with e es fs gs w) _ _ hf in
        let x : labels (f ∷ gs) (left e) ≡ labels (f ∷ gs) (right e) = exchange gs e f n h in
        let kf : Keeps (labels (f ∷ gs)) (f ∷ gs) = labels_keep (f ∷ gs) in
        Keeps-from_mem (labels (f ∷ gs)) es
        (λ g m. labels_least fs (labels (f ∷ gs)) (w.keeps (labels (f ∷ gs)) x kf.1) _ _ (Keeps-mem (labels fs) es k g m))

    -- a rule for the list es: links that join what it joins weigh at least n
    abbrev pub AtLeast : List L → ℕ → Type 0
    AtLeast es n = (fs : List L) → Sub fs es → Keeps (labels fs) es → n ≤ total fs

    least_joined : (e : L) (es : List L) (n : ℕ) → labels es (left e) ≡ labels es (right e) → Bounded (weight e) es →
        AtLeast es n → AtLeast (e ∷ es) n
    least_joined e es n j b ih fs s k =
        elim (take_out e es fs s) [
          | inl t ↦ ih fs t k.1
          | inr t ↦ elim (broken (labels t.0) es) [
            | inl u ↦ let le : n ≤ total t.0 = ih t.0 t.1.within u in omega (arith, t.1.weighs)
            | inr u ↦
                let le : n ≤ weight u.0 + total t.0 =
                ih (u.0 ∷ t.0) (u.1, t.1.within)
                (swap_spans e es fs t.0 t.1 u.0 u.2 (Keeps-mem (labels fs) es k.1 u.0 u.1) k.1) in
                let small : weight u.0 ≤ weight e = Bounded-mem (weight e) es b u.0 u.1 in
                omega (arith, t.1.weighs)
          ]
        ]

    least_apart : (e : L) (es : List L) (n : ℕ) → labels es (left e) ≢ labels es (right e) →
        AtLeast es n → AtLeast (e ∷ es) (weight e + n)
    least_apart e es n a ih fs s k =
        elim (take_out e es fs s) [
          | inl t ↦ absurd (a (labels_least fs (labels es) (Keeps-sub (labels es) fs es (labels_keep es) t) _ _ k.0))
          | inr t ↦
              let le : n ≤ total t.0 = ih t.0 t.1.within (rest_spans e es fs t.0 t.1 a k.1) in
              omega (arith, t.1.weighs)
        ]

    -- the greedy links weigh the least
    pub greedy_least : (es : List L) → Falling es → AtLeast es (total (greedy es))
    unfolding greedy
    greedy_least [] d = λ fs s k. omega arith
    greedy_least (e ∷ es) d =
        elim (cases_eq (labels es (left e)) (labels es (right e))) [
          | inl j ↦ subst (λ r. AtLeast (e ∷ es) (total r)) (sym (greedy_joined e es j))
              (least_joined e es (total (greedy es)) j d.0 (greedy_least es d.1))
          | inr a ↦ subst (λ r. AtLeast (e ∷ es) (total r)) (sym (greedy_apart e es a))
              (least_apart e es (total (greedy es)) a (greedy_least es d.1))
        ]

  pub chain_keeps : {A : Type 0} (P : L → Type 0) (c : ℕ → A) → ((e : L) → P e → c (left e) ≡ c (right e)) → {a b : ℕ} → Chain left right P a b → c a ≡ c b
  chain_keeps P c k here = refl
  chain_keeps P c k (step e p j t) = elim j [
    | inl q ↦ ap c (sym q.0) ∙ k e p ∙ ap c q.1 ∙ chain_keeps P c k t
    | inr q ↦ ap c (sym q.1) ∙ sym (k e p) ∙ ap c q.0 ∙ chain_keeps P c k t
  ]

  pub chain_joined : (P : L → Type 0) → {a b c : ℕ} → Chain left right P a b → Chain left right P b c → Chain left right P a c
  chain_joined P here u = u
  chain_joined P (step e p j t) u = step e p j (chain_joined P t u)

  joins_back : (e : L) (a b : ℕ) → Joins left right e a b → Joins left right e b a
  joins_back e a b j = elim j [ inl q ↦ inr q | inr q ↦ inl q ]

  pub chain_back : (P : L → Type 0) → {a b : ℕ} → Chain left right P a b → Chain left right P b a
  chain_back P here = here
  chain_back P (step {a} {b} {c} e p j t) = chain_joined P (chain_back P t) (step e p (joins_back e a b j) here)

  -- groups of one label are joined by a chain of the links
  pub labels_chain : (P : L → Type 0) (es : List L) → ((e : L) → Mem e es → P e) → (a b : ℕ) → labels es a ≡ labels es b → Chain left right P a b
  unfolding labels
  labels_chain P [] p a b h = subst (λ z. Chain left right P a z) h here
  labels_chain P (e ∷ es) p a b h =
      let go : (u v : ℕ) → labels es u ≡ labels es v → Chain left right P u v = labels_chain P es (λ f m. p f (inr m)) in
      let over : Chain left right P (left e) (right e) = step e (p e (inl refl)) (inl (refl, refl)) here in
      elim (merge_back (labels es) (left e) (right e) a b h) [
        | inl s ↦ go a b s
        | inr (inl s) ↦ chain_joined P (go a (left e) s.0) (chain_joined P over (go (right e) b (sym s.1)))
        | inr (inr s) ↦ chain_joined P (go a (right e) s.0) (chain_joined P (chain_back P over) (go (left e) b (sym s.1)))
      ]

  pub chain_wider : (P Q : L → Type 0) → ((e : L) → P e → Q e) → {a b : ℕ} → Chain left right P a b → Chain left right Q a b
  chain_wider P Q w here = here
  chain_wider P Q w (step e p j t) = step e (w e p) j (chain_wider P Q w t)

  pub greedy_mem : (es : List L) (e : L) → Mem e (greedy es) → Mem e es
  unfolding greedy
  greedy_mem [] e m = m
  greedy_mem (f ∷ fs) e m =
      elim (cases_eq (labels fs (left f)) (labels fs (right f))) [
        | inl j ↦ inr (greedy_mem fs e (subst (λ r. Mem e r) (greedy_joined f fs j) m))
        | inr a ↦ elim (subst (λ r. Mem e r) (greedy_apart f fs a) m) [
          | inl q ↦ inl q
          | inr q ↦ inr (greedy_mem fs e q)
        ]
      ]

  -- no link is joined by those after it
  abbrev pub Free : List L → Type 0
  Free [] = Unit {0}
  Free (e ∷ es) = (labels es (left e) ≢ labels es (right e)) × Free es

  pub greedy_free : (es : List L) → Free (greedy es)
  unfolding greedy
  greedy_free [] = tt
  greedy_free (e ∷ es) =
      elim (cases_eq (labels es (left e)) (labels es (right e))) [
        | inl j ↦ subst Free (sym (greedy_joined e es j)) (greedy_free es)
        | inr a ↦ subst Free (sym (greedy_apart e es a))
            ((λ q. a (labels_least (greedy es) (labels es) (Keeps-from_mem (labels es) (greedy es) (λ f m. Keeps-mem (labels es) es (labels_keep es) f (greedy_mem es f m))) _ _ q)), greedy_free es)
      ]

  -- links that join all that a free list joins are the whole of it
  pub all_chosen : (ns : List L) → Free ns → (ts : List L) → Sub ts ns → Keeps (labels ts) ns → Sub ns ts
  all_chosen [] f ts s k = tt
  all_chosen (n ∷ ns) f ts s k =
      elim (take_out (λ _. 0) n ns ts s) [
        | inl t ↦ absurd (f.0 (labels_least ts (labels ns) (Keeps-sub (labels ns) ts ns (labels_keep ns) t) _ _ k.0))
        | inr t ↦
            let more : Sub ns t.0 = all_chosen ns f.1 t.0 t.1.within (rest_spans (λ _. 0) n ns ts t.0 t.1 f.0 k.1) in
            (t.1.had, Sub-from_mem ns ts (λ g m. Sub-mem t.0 ts t.1.of g (Sub-mem ns t.0 more g m)))
      ]

  module _ (key : L → ℕ) where
    abbrev pub Smaller : List L → L → L → Type 0
    Smaller es e f = Mem f es × (key f < key e)

    -- a link whose ends no chain of smaller links joins
    abbrev pub InNest : List L → L → Type 0
    InNest es e = Mem e es × (Chain left right (Smaller es e) (left e) (right e) → ⊥)

    -- a greater link more changes nothing
    in_nest_more : (f : L) (fs : List L) (e : L) → key e < key f → InNest fs e → InNest (f ∷ fs) e
    in_nest_more f fs e u n = (
      inr n.0,
      λ c. n.1 (chain_wider (Smaller (f ∷ fs) e) (Smaller fs e)
          (λ g p. elim p.0 [
            | inl h ↦ let k : key g ≡ key f = ap key h in absurd (omega (arith, p.1))
            | inr h ↦ (h, p.1)
          ]) c),
    )

    in_nest_first : (e : L) (fs : List L) → Under key (key e) fs → labels fs (left e) ≢ labels fs (right e) → InNest (e ∷ fs) e
    in_nest_first e fs u a = (
      inl refl,
      λ c. a (chain_keeps (Smaller (e ∷ fs) e) (labels fs)
          (λ g p. elim p.0 [
            | inl h ↦ let k : key g ≡ key e = ap key h in absurd (omega (arith, p.1))
            | inr h ↦ Keeps-mem (labels fs) fs (labels_keep fs) g h
          ]) c),
    )

    pub greedy_sound : (es : List L) → Drops key es → (e : L) → Mem e (greedy es) → InNest es e
    unfolding greedy
    greedy_sound [] d e m = absurd m
    greedy_sound (f ∷ fs) d e m =
        let rest : Mem e (greedy fs) → InNest (f ∷ fs) e =
        λ q. in_nest_more f fs e (Under-mem key (key f) fs d.0 e (greedy_mem fs e q)) (greedy_sound fs d.1 e q) in
        elim (cases_eq (labels fs (left f)) (labels fs (right f))) [
          | inl j ↦ rest (subst (λ r. Mem e r) (greedy_joined f fs j) m)
          | inr a ↦ elim (subst (λ r. Mem e r) (greedy_apart f fs a) m) [
            | inl q ↦ subst (λ z. InNest (f ∷ fs) z) (sym q) (in_nest_first f fs d.0 a)
            | inr q ↦ rest q
          ]
        ]

    in_nest_less : (f : L) (fs : List L) (e : L) → Mem e fs → InNest (f ∷ fs) e → InNest fs e
    in_nest_less f fs e m n =
        (m, λ c. n.1 (chain_wider (Smaller fs e) (Smaller (f ∷ fs) e) (λ g p. (inr p.0, p.1)) c))

    pub greedy_whole : (es : List L) → Drops key es → (e : L) → InNest es e → Mem e (greedy es)
    unfolding greedy
    greedy_whole [] d e n = absurd n.0
    greedy_whole (f ∷ fs) d e n =
        let keep : Mem e (greedy fs) → Mem e (greedy (f ∷ fs)) = λ q.
        elim (cases_eq (labels fs (left f)) (labels fs (right f))) [
          | inl j ↦ subst (λ r. Mem e r) (sym (greedy_joined f fs j)) q
          | inr a ↦ subst (λ r. Mem e r) (sym (greedy_apart f fs a)) (inr q)
        ] in
        elim n.0 [
          | inr m ↦ keep (greedy_whole fs d.1 e (in_nest_less f fs e m n))
          | inl h ↦ elim (cases_eq (labels fs (left f)) (labels fs (right f))) [
            | inr a ↦ subst (λ r. Mem e r) (sym (greedy_apart f fs a)) (inl h)
            | inl j ↦ absurd (n.1
                (labels_chain (Smaller (f ∷ fs) e) fs (λ g m. (inr m, subst (λ z. key g < key z) (sym h) (Under-mem key (key f) fs d.0 g m)))
                (left e) (right e) (subst (λ z. labels fs (left z) ≡ labels fs (right z)) (sym h) j)))
          ]
        ]

    -- the least link that leaves a set of groups is in the nest
    pub cut : (es : List L) (seen : ℕ → Bool) (e : L) → Mem e es → seen (left e) ≢ seen (right e) →
        ((f : L) → Mem f es → seen (left f) ≢ seen (right f) → key e ≤ key f) → InNest es e
    cut es seen e m x least = (
      m,
      λ c. x (chain_keeps (Smaller es e) seen
          (λ f p. same_unless (seen (left f)) (seen (right f)) (λ n. let k : key e ≤ key f = least f p.0 n in omega (arith, p.1))) c),
    )

    sub_tails : (y : L) (xs ys : List L) → Under key (key y) xs → Sub xs (y ∷ ys) → Sub xs ys
    sub_tails y [] ys u s = tt
    sub_tails y (x ∷ xs) ys u s = (
      elim s.0 [
        | inl h ↦ let k : key x ≡ key y = ap key h in absurd (omega (arith, u.0))
        | inr h ↦ h
      ],
      sub_tails y xs ys u.1 s.1,
    )

    same_heads : (x y : L) (xs ys : List L) → Under key (key x) xs → Under key (key y) ys → Mem x (y ∷ ys) → Mem y (x ∷ xs) → x ≡ y
    same_heads x y xs ys u v s t = elim s [
      | inl h ↦ h
      | inr h ↦ elim t [
        | inl q ↦ sym q
        | inr q ↦ absurd (omega (arith, Under-mem key (key y) ys v x h, Under-mem key (key x) xs u y q))
      ]
    ]

    -- lists that fall and have the same links are the same
    pub same_links : (xs ys : List L) → Drops key xs → Drops key ys → Sub xs ys → Sub ys xs → xs ≡ ys
    same_links [] [] dx dy s t = refl
    same_links [] (y ∷ ys) dx dy s t = absurd t.0
    same_links (x ∷ xs) [] dx dy s t = absurd s.0
    same_links (x ∷ xs) (y ∷ ys) dx dy s t =
        let h : x ≡ y = same_heads x y xs ys dx.0 dy.0 s.0 t.0 in
        let a : Sub xs ys = sub_tails y xs ys (subst (λ z. Under key (key z) xs) h dx.0) s.1 in
        let b : Sub ys xs = sub_tails x ys xs (subst (λ z. Under key (key z) ys) (sym h) dy.0) t.1 in
        ap₂ ◌∷◌ h (same_links xs ys dx.1 dy.1 a b)

    pub greedy_drops : (es : List L) → Drops key es → Drops key (greedy es)
    unfolding greedy
    greedy_drops [] d = tt
    greedy_drops (e ∷ es) d =
        elim (cases_eq (labels es (left e)) (labels es (right e))) [
          | inl j ↦ subst (Drops key) (sym (greedy_joined e es j)) (greedy_drops es d.1)
          | inr a ↦ subst (Drops key) (sym (greedy_apart e es a))
              (Under-from_mem key (key e) (greedy es) (λ f m. Under-mem key (key e) es d.0 f (greedy_mem es f m)), greedy_drops es d.1)
        ]

  pub labels_first : (x : ℕ) → labels [] x ≡ x
  unfolding labels
  labels_first x = refl

  pub labels_apart : (e : L) (es : List L) (x : ℕ) →
      labels (e ∷ es) x ≡ cond (nat_eq (labels es x) (labels es (left e))) (labels es (right e)) (labels es x)
  unfolding labels merge
  labels_apart e es x = refl

  -- a link that changes nothing
  pub labels_joined : (e : L) (es : List L) (x : ℕ) → labels es (left e) ≡ labels es (right e) → labels (e ∷ es) x ≡ labels es x
  unfolding labels
  labels_joined e es x h = elim (cases_eq (labels es x) (labels es (left e))) [
    | inl s ↦ merge_moves (labels es) (left e) (right e) x s ∙ sym h ∙ sym s
    | inr n ↦ merge_stays (labels es) (left e) (right e) x n
  ]

  pub greedy_none : greedy [] ≡ []
  unfolding greedy
  greedy_none = refl
