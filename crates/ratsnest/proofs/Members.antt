-- On what is in a list.
use Rattle.std.proofs.Common.{◌≡◌, ℕ, zero, suc, ◌<◌, ◌⊎◌, List, [], ◌∷◌, ◌++◌, length, get_or, inl, inr, refl, sym, subst, Contains, arith}
use Rattle.std.proofs.Common.{◌∙◌}
use Rattle.std.proofs.lemmas.Bool.{cases_order}
use Rattle.ratsnest.specs.Mem.{Mem, Sub, Under, Drops}

pub Sub-more : {X : Type 0} (fs es : List X) (e : X) → Sub fs es → Sub fs (e ∷ es)
Sub-more [] es e s = tt
Sub-more (f ∷ fs) es e s = (inr s.0, Sub-more fs es e s.1)

pub Sub-itself : {X : Type 0} (es : List X) → Sub es es
Sub-itself [] = tt
Sub-itself (e ∷ es) = (inl refl, Sub-more es es e (Sub-itself es))

pub Sub-mem : {X : Type 0} (fs es : List X) → Sub fs es → (f : X) → Mem f fs → Mem f es
Sub-mem [] es s f m = absurd m
Sub-mem (g ∷ fs) es s f m = elim m [
  | inl h ↦ subst (λ z. Mem z es) (sym h) s.0
  | inr h ↦ Sub-mem fs es s.1 f h
]

pub Sub-from_mem : {X : Type 0} (fs es : List X) → ((f : X) → Mem f fs → Mem f es) → Sub fs es
Sub-from_mem [] es h = tt
Sub-from_mem (g ∷ fs) es h = (h g (inl refl), Sub-from_mem fs es (λ f m. h f (inr m)))

pub Mem-at : {X : Type 0} (xs : List X) (k : ℕ) (x : X) → k < length xs → get_or xs k x ≡ x → Mem x xs
Mem-at [] k x l e = absurd (omega arith)
Mem-at (y ∷ ys) zero x l e = inl (sym e)
Mem-at (y ∷ ys) (suc k) x l e = inr (Mem-at ys k x (omega arith) e)

pub Mem-from_contains : {X : Type 0} (xs : List X) (x : X) → Contains xs x → Mem x xs
Mem-from_contains xs x c = Mem-at xs c.0 x c.1 c.2

pub Contains-from_mem : {X : Type 0} (xs : List X) (x : X) → Mem x xs → Contains xs x
Contains-from_mem [] x m = absurd m
Contains-from_mem (y ∷ ys) x m = elim m [
  | inl h ↦ (0, omega arith, sym h)
  | inr h ↦ let c : Contains ys x = Contains-from_mem ys x h in (suc c.0, omega (arith, c.1), c.2)
]

pub Mem-append_left : {X : Type 0} (xs ys : List X) (x : X) → Mem x xs → Mem x (xs ++ ys)
Mem-append_left [] ys x m = absurd m
Mem-append_left (z ∷ xs) ys x m = elim m [ inl h ↦ inl h | inr h ↦ inr (Mem-append_left xs ys x h) ]

pub Mem-append_right : {X : Type 0} (xs ys : List X) (x : X) → Mem x ys → Mem x (xs ++ ys)
Mem-append_right [] ys x m = m
Mem-append_right (z ∷ xs) ys x m = inr (Mem-append_right xs ys x m)

pub Mem-append_cases : {X : Type 0} (xs ys : List X) (x : X) → Mem x (xs ++ ys) → Mem x xs ⊎ Mem x ys
Mem-append_cases [] ys x m = inr m
Mem-append_cases (z ∷ xs) ys x m = elim m [
  | inl h ↦ inl (inl h)
  | inr h ↦ elim (Mem-append_cases xs ys x h) [ inl q ↦ inl (inr q) | inr q ↦ inr q ]
]

pub Under-mem : {X : Type 0} (key : X → ℕ) (n : ℕ) (es : List X) → Under key n es → (e : X) → Mem e es → key e < n
Under-mem key n [] u e m = absurd m
Under-mem key n (f ∷ es) u e m = elim m [
  | inl h ↦ subst (λ z. key z < n) (sym h) u.0
  | inr h ↦ Under-mem key n es u.1 e h
]

pub Under-from_mem : {X : Type 0} (key : X → ℕ) (n : ℕ) (es : List X) → ((e : X) → Mem e es → key e < n) → Under key n es
Under-from_mem key n [] h = tt
Under-from_mem key n (e ∷ es) h = (h e (inl refl), Under-from_mem key n es (λ f m. h f (inr m)))

-- what a list with y put into a falling list is
pub record PutIn {X : Type 0} (key : X → ℕ) (y : X) (xs zs : List X) : Type 0 where
  pub drops : Drops key zs
  pub sound : (x : X) → Mem x zs → Mem x xs ⊎ (x ≡ y)
  pub whole : (x : X) → Mem x xs ⊎ (x ≡ y) → Mem x zs

pub falling_insert : {X : Type 0} (key : X → ℕ) (y : X) (xs : List X) → Drops key xs →
    ((x : X) → Mem x xs → key x ≡ key y → x ≡ y) → (zs : List X) × PutIn key y xs zs
falling_insert key y [] d same = (
  y ∷ [],
  record {
    drops = (tt, tt);
    sound = λ x m. elim m [ inl h ↦ inr h | inr h ↦ absurd h ];
    whole = λ x m. elim m [ inl h ↦ absurd h | inr h ↦ inl h ];
  },
)
falling_insert {X} key y (x ∷ xs) d same =
    elim (cases_order (key x) (key y)) [
      | inl e ↦ (
        x ∷ xs,
        record {
          drops = d;
          sound = λ z m. inl m;
          whole = λ z m. elim m [ inl h ↦ h | inr h ↦ inl (h ∙ sym (same x (inl refl) e)) ];
        },
      )
      | inr (inl lt) ↦ (
        y ∷ x ∷ xs,
        record {
          drops = ((lt, Under-from_mem key (key y) xs (λ z m. let k : key z < key x = Under-mem key (key x) xs d.0 z m in omega arith)), d);
          sound = λ z m. elim m [ inl h ↦ inr h | inr h ↦ inl h ];
          whole = λ z m. elim m [ inl h ↦ inr h | inr h ↦ inl h ];
        },
      )
      | inr (inr gt) ↦
          let more : (zs : List X) × PutIn key y xs zs = falling_insert key y xs d.1 (λ z m. same z (inr m)) in (
            x ∷ more.0,
            record {
              drops = (
                Under-from_mem key (key x) more.0 (λ z m. elim (more.1.sound z m) [
                  | inl h ↦ Under-mem key (key x) xs d.0 z h
                  | inr h ↦ subst (λ w. key w < key x) (sym h) gt
                ]),
                more.1.drops,
              );
              sound = λ z m. elim m [ inl h ↦ inl (inl h) | inr h ↦ elim (more.1.sound z h) [ inl q ↦ inl (inr q) | inr q ↦ inr q ] ];
              whole = λ z m. elim m [
                | inl h ↦ elim h [ inl q ↦ inl q | inr q ↦ inr (more.1.whole z (inl q)) ]
                | inr h ↦ inr (more.1.whole z (inr h))
              ];
            },
          )
    ]

-- a list in order, with the same elements
pub falling_of : {X : Type 0} (key : X → ℕ) (xs : List X) → ((x y : X) → Mem x xs → Mem y xs → key x ≡ key y → x ≡ y) →
    (zs : List X) × Drops key zs × ((x : X) → Mem x zs → Mem x xs) × ((x : X) → Mem x xs → Mem x zs)
falling_of key [] same = ([], tt, λ x m. m, λ x m. m)
falling_of {X} key (y ∷ xs) same =
    let more : (zs : List X) × Drops key zs × ((x : X) → Mem x zs → Mem x xs) × ((x : X) → Mem x xs → Mem x zs) =
    falling_of key xs (λ u v mu mv. same u v (inr mu) (inr mv)) in
    let put : (zs : List X) × PutIn key y more.0 zs = falling_insert key y more.0 more.1 (λ z m. same z y (inr (more.2 z m)) (inl refl)) in (
      put.0,
      put.1.drops,
      λ z m. elim (put.1.sound z m) [ inl h ↦ inr (more.2 z h) | inr h ↦ inl h ],
      λ z m. elim m [ inl h ↦ put.1.whole z (inr h) | inr h ↦ put.1.whole z (inl (more.3 z h)) ],
    )

pub Drops-push : {X : Type 0} (key : X → ℕ) (xs : List X) (y : X) → Drops key xs → ((x : X) → Mem x xs → key y < key x) → Drops key (xs ++ y ∷ [])
Drops-push key [] y d h = (tt, tt)
Drops-push key (x ∷ xs) y d h = (
  Under-from_mem key (key x) (xs ++ y ∷ []) (λ z m. elim (Mem-append_cases xs (y ∷ []) z m) [
    | inl q ↦ Under-mem key (key x) xs d.0 z q
    | inr q ↦ elim q [ inl e ↦ subst (λ w. key w < key x) (sym e) (h x (inl refl)) | inr e ↦ absurd e ]
  ]),
  Drops-push key xs y d.1 (λ z m. h z (inr m)),
)

pub Mem-get_or : {X : Type 0} (xs : List X) (k : ℕ) (d : X) → k < length xs → Mem (get_or xs k d) xs
Mem-get_or [] k d h = absurd (omega arith)
Mem-get_or (x ∷ xs) zero d h = inl refl
Mem-get_or (x ∷ xs) (suc k) d h = inr (Mem-get_or xs k d (omega arith))
