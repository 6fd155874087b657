-- What the links that were chosen are: the nest, joining all groups at the least sum.
use Rattle.std.proofs.Common.{◌≡◌, ℕ, zero, suc, ◌≤◌, ◌<◌, ◌↔◌, List, [], ◌∷◌, ◌++◌, length, get_or, reverse, sum_by, Contains, All, inl, inr, refl, sym, ◌∙◌, ap, subst, arith}
use Rattle.std.proofs.lemmas.Bool.{cases_eq}
use Rattle.std.proofs.lemmas.List.Elements.{All-contains, Contains-get_or}
use Rattle.std.proofs.lemmas.List.{reverse-reverse}
use Rattle.std.proofs.lemmas.List.Sorted.{IsPermutation-reverse, sum_by-IsPermutation}
use Rattle.std.proofs.lemmas.List.Recursion.{is_sum_by}
use mathlib.Core.List.{reverse-cons}
use Rattle.ratsnest.specs.declared.anchor.Anchor.{Anchor}
use Rattle.ratsnest.specs.declared.link.Link.{Link}
use Rattle.ratsnest.specs.Mem.{Mem, Sub, AllAbove, Climbs, Under, Drops}
use Rattle.ratsnest.specs.NestOf.{group_at, AnchorsRise, IsLink, InNest, IsNest, HasPlaces, IsLeast, JoinAll, Precedes, total}
use Rattle.ratsnest.specs.Grow.{rank, link_at, AreChosen}
use Rattle.ratsnest.proofs.Members.{Sub-mem, Sub-from_mem, Under-mem, Mem-from_contains, Contains-from_mem, Mem-append_left, Mem-append_right, Mem-append_cases, falling_of, Drops-push, Mem-get_or}
use Rattle.ratsnest.proofs.Theory
use Rattle.ratsnest.proofs.Order.{link_at_is, IsLink-at, same_rank, precedes_rank, rank_precedes}
use Rattle.ratsnest.proofs.Grown.{group_below}

-- the links between j and the places below i
row : List Anchor → ℕ → ℕ → List Link
row anchors j zero = []
row anchors j (suc i) = link_at anchors i j ∷ row anchors j i

-- each pair of places below n
pairs : List Anchor → ℕ → List Link
pairs anchors zero = []
pairs anchors (suc j) = row anchors j j ++ pairs anchors j

row_has : (anchors : List Anchor) (j n i : ℕ) → i < n → Mem (link_at anchors i j) (row anchors j n)
unfolding row
row_has anchors j zero i h = absurd (omega arith)
row_has anchors j (suc n) i h = elim (cases_eq i n) [
  | inl e ↦ inl (ap (λ z. link_at anchors z j) e)
  | inr ne ↦ inr (row_has anchors j n i (omega arith))
]

pairs_have : (anchors : List Anchor) (n i j : ℕ) → i < j → j < n → Mem (link_at anchors i j) (pairs anchors n)
unfolding pairs
pairs_have anchors zero i j h k = absurd (omega arith)
pairs_have anchors (suc n) i j h k = elim (cases_eq j n) [
  | inl e ↦ Mem-append_left (row anchors n n) (pairs anchors n) (link_at anchors i j)
      (subst (λ z. Mem (link_at anchors i z) (row anchors n n)) (sym e) (row_has anchors n n i (omega arith)))
  | inr ne ↦ Mem-append_right (row anchors n n) (pairs anchors n) (link_at anchors i j) (pairs_have anchors n i j h (omega arith))
]

-- all links of the anchors, from the greatest down
pub record IsListed (anchors : List Anchor) (es : List Link) : Type 0 where
  pub drops : Drops rank es
  pub sound : (l : Link) → Mem l es → IsLink anchors l
  pub whole : (l : Link) → IsLink anchors l → Mem l es

-- only the links of a list of pairs
only : (anchors : List Anchor) (ps : List Link) → ((l : Link) → Mem l ps → (l.first < l.second) × (l.second < length anchors) × (l ≡ link_at anchors l.first l.second)) →
    (ls : List Link) × ((l : Link) → Mem l ls → IsLink anchors l) × ((l : Link) → Mem l ps → IsLink anchors l → Mem l ls)
only anchors [] h = ([], λ l m. absurd m, λ l m k. absurd m)
only anchors (p ∷ ps) h =
    let more : (ls : List Link) × ((l : Link) → Mem l ls → IsLink anchors l) × ((l : Link) → Mem l ps → IsLink anchors l → Mem l ls) =
    only anchors ps (λ l m. h l (inr m)) in
    elim (cases_eq (group_at anchors p.first) (group_at anchors p.second)) [
      | inl e ↦ (more.0, more.1, λ l m k. elim m [ inl q ↦ absurd (k.apart (subst (λ (z : Link). group_at anchors z.first ≡ group_at anchors z.second) (sym q) e)) | inr q ↦ more.2 l q k ])
      | inr n ↦
          let f : (p.first < p.second) × (p.second < length anchors) × (p ≡ link_at anchors p.first p.second) = h p (inl refl) in
          let k : IsLink anchors p = subst (IsLink anchors) (sym f.2) (IsLink-at anchors p.first p.second (omega arith) f.1 n) in (
            p ∷ more.0,
            λ l m. elim m [ inl q ↦ subst (IsLink anchors) (sym q) k | inr q ↦ more.1 l q ],
            λ l m kl. elim m [ inl q ↦ inl q | inr q ↦ inr (more.2 l q kl) ],
          )
    ]

-- a link of places in order
abbrev IsOfPlaces : List Anchor → Link → Type 0
IsOfPlaces anchors l = (l.first < l.second) × (l.second < length anchors) × (l ≡ link_at anchors l.first l.second)

places_at : (anchors : List Anchor) (i j : ℕ) → i < j → j < length anchors → IsOfPlaces anchors (link_at anchors i j)
unfolding link_at
places_at anchors i j h k =
    let f : (link_at anchors i j).first ≡ i = omega arith in
    let s : (link_at anchors i j).second ≡ j = omega arith in
    (omega arith, omega arith, sym (ap (λ z. link_at anchors z (link_at anchors i j).second) f ∙ ap (link_at anchors i) s))

row_places : (anchors : List Anchor) (j n : ℕ) → n ≤ j → j < length anchors → (l : Link) → Mem l (row anchors j n) → IsOfPlaces anchors l
unfolding row
row_places anchors j zero h k l m = absurd m
row_places anchors j (suc n) h k l m = elim m [
  | inl e ↦ subst (IsOfPlaces anchors) (sym e) (places_at anchors n j h k)
  | inr q ↦ row_places anchors j n (omega arith) k l q
]

pairs_places : (anchors : List Anchor) (n : ℕ) → n ≤ length anchors → (l : Link) → Mem l (pairs anchors n) → IsOfPlaces anchors l
unfolding pairs
pairs_places anchors zero h l m = absurd m
pairs_places anchors (suc n) h l m = elim (Mem-append_cases (row anchors n n) (pairs anchors n) l m) [
  | inl q ↦ row_places anchors n n (omega arith) h l q
  | inr q ↦ pairs_places anchors n (omega arith) l q
]

pub same_rank_links : (anchors : List Anchor) → length anchors < 4294967296 → (l m : Link) → IsLink anchors l → IsLink anchors m → rank l ≡ rank m → l ≡ m
same_rank_links anchors few l m kl km e =
    let lo : l.first < l.second = kl.in_order in
    let mo : m.first < m.second = km.in_order in
    same_rank (length anchors) few l m (omega (arith, kl.within)) kl.within (omega (arith, km.within)) km.within e

pub listed : (anchors : List Anchor) → length anchors < 4294967296 → (es : List Link) × IsListed anchors es
listed anchors few =
    let all : (ls : List Link) × ((l : Link) → Mem l ls → IsLink anchors l) × ((l : Link) → Mem l (pairs anchors (length anchors)) → IsLink anchors l → Mem l ls) =
    only anchors (pairs anchors (length anchors)) (λ l m. pairs_places anchors (length anchors) (omega arith) l m) in
    let order : (zs : List Link) × Drops rank zs × ((x : Link) → Mem x zs → Mem x all.0) × ((x : Link) → Mem x all.0 → Mem x zs) =
    falling_of rank all.0 (λ x y mx my. same_rank_links anchors few x y (all.1 x mx) (all.1 y my)) in (
      order.0,
      record {
        drops = order.1;
        sound = λ l m. all.1 l (order.2 l m);
        whole = λ l k. order.3 l (all.2 l (subst (λ z. Mem z (pairs anchors (length anchors))) (link_at_is anchors l k)
            (pairs_have anchors (length anchors) l.first l.second k.in_order k.within)) k);
      },
    )

abbrev pub from : List Anchor → Link → ℕ
from anchors l = group_at anchors l.first

abbrev pub to : List Anchor → Link → ℕ
to anchors l = group_at anchors l.second

module _ (anchors : List Anchor) (rise : AnchorsRise anchors) (few : length anchors < 4294967296) (es : List Link) (listed : IsListed anchors es) where
  -- the two ways to say that a link is in the nest
  in_nest_from : (l : Link) → InNest anchors l → Theory.InNest (from anchors) (to anchors) rank es l
  in_nest_from l n = (
    listed.whole l n.link,
    λ c. n.alone (Theory.chain_wider (from anchors) (to anchors)
        (Theory.Smaller (from anchors) (to anchors) rank es l) (λ m. IsLink anchors m × Precedes anchors m l)
        (λ m s. (listed.sound m s.0, rank_precedes anchors rise few m l (listed.sound m s.0) n.link s.1)) c),
  )

  in_nest_to : (l : Link) → Theory.InNest (from anchors) (to anchors) rank es l → InNest anchors l
  in_nest_to l n =
      let k : IsLink anchors l = listed.sound l n.0 in
      record {
        link = k;
        alone = λ c. n.1 (Theory.chain_wider (from anchors) (to anchors)
            (λ m. IsLink anchors m × Precedes anchors m l) (Theory.Smaller (from anchors) (to anchors) rank es l)
            (λ m s. (listed.whole m s.0, precedes_rank anchors rise few m l s.0 k s.1)) c);
      }

  pub greedy_is_nest : (l : Link) → Mem l (Theory.greedy (from anchors) (to anchors) es) ↔ InNest anchors l
  greedy_is_nest l = (
    λ m. in_nest_to l (Theory.greedy_sound (from anchors) (to anchors) rank es listed.drops l m),
    λ n. Theory.greedy_whole (from anchors) (to anchors) rank es listed.drops l (in_nest_from l n),
  )

-- links that fall in the order have squares that fall
lesser_square : (n : ℕ) → n < 4294967296 → (l m : Link) → l.second < n → m.second < n → l.first < n → m.first < n → rank l < rank m → l.square ≤ m.square
lesser_square n h l m a b c d r = omega arith

squares_bounded : (anchors : List Anchor) → length anchors < 4294967296 → (e : Link) → IsLink anchors e → (es : List Link) → ((l : Link) → Mem l es → IsLink anchors l) →
    Under rank (rank e) es → Theory.Bounded (from anchors) (to anchors) (λ (l : Link). l.square) e.square es
squares_bounded anchors few e ke [] links u = tt
squares_bounded anchors few e ke (f ∷ es) links u =
    let kf : IsLink anchors f = links f (inl refl) in
    let fo : f.first < f.second = kf.in_order in
    let eo : e.first < e.second = ke.in_order in (
      lesser_square (length anchors) few f e kf.within ke.within (omega (arith, kf.within)) (omega (arith, ke.within)) u.0,
      squares_bounded anchors few e ke es (λ l m. links l (inr m)) u.1,
    )

squares_fall : (anchors : List Anchor) → length anchors < 4294967296 → (es : List Link) → ((l : Link) → Mem l es → IsLink anchors l) →
    Drops rank es → Theory.Falling (from anchors) (to anchors) (λ (l : Link). l.square) es
squares_fall anchors few [] links d = tt
squares_fall anchors few (e ∷ es) links d =
    (squares_bounded anchors few e (links e (inl refl)) es (λ l m. links l (inr m)) d.0, squares_fall anchors few es (λ l m. links l (inr m)) d.1)

AllAbove-mem : {X : Type 0} (key : X → ℕ) (n : ℕ) (es : List X) → AllAbove key n es → (e : X) → Mem e es → n < key e
AllAbove-mem key n [] u e m = absurd m
AllAbove-mem key n (f ∷ es) u e m = elim m [
  | inl h ↦ subst (λ z. n < key z) (sym h) u.0
  | inr h ↦ AllAbove-mem key n es u.1 e h
]

pub Mem-reverse : {X : Type 0} (xs : List X) (x : X) → Mem x (reverse xs) ↔ Mem x xs
Mem-reverse [] x = (λ m. m, λ m. m)
Mem-reverse (y ∷ ys) x = (
  λ m. elim (Mem-append_cases (reverse ys) (y ∷ []) x (subst (Mem x) (reverse-cons y ys) m)) [
    | inl q ↦ inr ((Mem-reverse ys x).0 q)
    | inr q ↦ elim q [ inl e ↦ inl e | inr e ↦ absurd e ]
  ],
  λ m. subst (Mem x) (sym (reverse-cons y ys)) (elim m [
    | inl e ↦ Mem-append_right (reverse ys) (y ∷ []) x (inl e)
    | inr q ↦ Mem-append_left (reverse ys) (y ∷ []) x ((Mem-reverse ys x).1 q)
  ]),
)

pub Drops-reverse : {X : Type 0} (key : X → ℕ) (xs : List X) → Climbs key xs → Drops key (reverse xs)
Drops-reverse key [] c = tt
Drops-reverse key (x ∷ xs) c =
    subst (Drops key) (sym (reverse-cons x xs)) (Drops-push key (reverse xs) x (Drops-reverse key xs c.1)
    (λ z m. AllAbove-mem key (key x) xs c.0 z ((Mem-reverse xs z).0 m)))

Climbs-at : {X : Type 0} (key : X → ℕ) (xs : List X) → Climbs key xs → (i j : ℕ) (d : X) → i < j → j < length xs → key (get_or xs i d) < key (get_or xs j d)
Climbs-at key [] c i j d h k = absurd (omega arith)
Climbs-at key (x ∷ xs) c i zero d h k = absurd (omega arith)
Climbs-at key (x ∷ xs) c zero (suc j) d h k = AllAbove-mem key (key x) xs c.0 (get_or xs j d) (Mem-get_or xs j d (omega arith))
Climbs-at key (x ∷ xs) c (suc i) (suc j) d h k = Climbs-at key xs c.1 i j d (omega arith) (omega arith)

total_is : (anchors : List Anchor) (xs : List Link) → Theory.total (from anchors) (to anchors) (λ (l : Link). l.square) xs ≡ sum_by (λ (l : Link). l.square) xs
total_is anchors xs = is_sum_by (Theory.total (from anchors) (to anchors) (λ (l : Link). l.square)) (λ (l : Link). l.square) refl (λ _ _. refl) xs

pub nest_from : (anchors : List Anchor) → AnchorsRise anchors → length anchors < 4294967296 → (links : List Link) → Climbs rank links →
    ((l : Link) → Mem l links → InNest anchors l) → ((l : Link) → InNest anchors l → Mem l links) → IsNest anchors links
nest_from anchors rise few links climbs sound whole = record {
  ascending = λ i j d h k.
      rank_precedes anchors rise few (get_or links i d) (get_or links j d)
      (sound (get_or links i d) (Mem-get_or links i d (omega arith))).link (sound (get_or links j d) (Mem-get_or links j d k)).link
      (Climbs-at rank links climbs i j d h k);
  sound = λ l m. sound l (Mem-from_contains links l m);
  whole = λ l n. Contains-from_mem links l (whole l n);
}

AllAbove-from_mem : {X : Type 0} (key : X → ℕ) (n : ℕ) (es : List X) → ((e : X) → Mem e es → n < key e) → AllAbove key n es
AllAbove-from_mem key n [] h = tt
AllAbove-from_mem key n (e ∷ es) h = (h e (inl refl), AllAbove-from_mem key n es (λ f m. h f (inr m)))

Climbs-push : {X : Type 0} (key : X → ℕ) (xs : List X) (y : X) → Climbs key xs → ((x : X) → Mem x xs → key x < key y) → Climbs key (xs ++ y ∷ [])
Climbs-push key [] y d h = (tt, tt)
Climbs-push key (x ∷ xs) y d h = (
  AllAbove-from_mem key (key x) (xs ++ y ∷ []) (λ z m. elim (Mem-append_cases xs (y ∷ []) z m) [
    | inl q ↦ AllAbove-mem key (key x) xs d.0 z q
    | inr q ↦ elim q [ inl e ↦ subst (λ w. key x < key w) (sym e) (h x (inl refl)) | inr e ↦ absurd e ]
  ]),
  Climbs-push key xs y d.1 (λ z m. h z (inr m)),
)

pub Climbs-reverse : {X : Type 0} (key : X → ℕ) (xs : List X) → Drops key xs → Climbs key (reverse xs)
Climbs-reverse key [] c = tt
Climbs-reverse key (x ∷ xs) c =
    subst (Climbs key) (sym (reverse-cons x xs)) (Climbs-push key (reverse xs) x (Climbs-reverse key xs c.1)
    (λ z m. Under-mem key (key x) xs c.0 z ((Mem-reverse xs z).0 m)))

module _ (anchors : List Anchor) (rise : AnchorsRise anchors) (few : length anchors < 4294967296) (links : List Link) (chosen : AreChosen anchors links) where
  module _ (es : List Link) (listed : IsListed anchors es) where
    chosen_keep : (ls : List Link) → ((l : Link) → Mem l ls → IsLink anchors l) → Theory.Keeps (from anchors) (to anchors) (Theory.labels (from anchors) (to anchors) links) ls
    chosen_keep ls k =
        let c : ℕ → ℕ = Theory.labels (from anchors) (to anchors) links in
        Theory.Keeps-from_mem (from anchors) (to anchors) c ls
        (λ e m. let ke : IsLink anchors e = k e m in let eo : e.first < e.second = ke.in_order in
        chosen.joined c (Theory.Keeps-mem (from anchors) (to anchors) c links (Theory.labels_keep (from anchors) (to anchors) links))
        (group_at anchors e.first) (group_at anchors e.second) (group_below anchors e.first (omega (arith, ke.within))) (group_below anchors e.second ke.within))

    chosen_sub : Sub links (Theory.greedy (from anchors) (to anchors) es)
    chosen_sub = Sub-from_mem links (Theory.greedy (from anchors) (to anchors) es) (λ l m. (greedy_is_nest anchors rise few es listed l).1 (chosen.nest l m))

    chosen_all : Sub (Theory.greedy (from anchors) (to anchors) es) links
    chosen_all = Theory.all_chosen (from anchors) (to anchors) (Theory.greedy (from anchors) (to anchors) es) (Theory.greedy_free (from anchors) (to anchors) es) links chosen_sub
        (chosen_keep (Theory.greedy (from anchors) (to anchors) es) (λ l m. ((greedy_is_nest anchors rise few es listed l).0 m).link))

    chosen_whole : (l : Link) → InNest anchors l → Mem l links
    chosen_whole l n = Sub-mem (Theory.greedy (from anchors) (to anchors) es) links chosen_all l ((greedy_is_nest anchors rise few es listed l).1 n)

  pub chosen_nest : IsNest anchors links
  chosen_nest =
      let all : (es : List Link) × IsListed anchors es = listed anchors few in
      nest_from anchors rise few links chosen.climbs chosen.nest (chosen_whole all.0 all.1)

  pub chosen_join : JoinAll anchors links
  chosen_join a b ha hb =
      let c : ℕ → ℕ = Theory.labels (from anchors) (to anchors) links in
      Theory.labels_chain (from anchors) (to anchors) (Contains links) links (λ e m. Contains-from_mem links e m) a b
      (chosen.joined c (Theory.Keeps-mem (from anchors) (to anchors) c links (Theory.labels_keep (from anchors) (to anchors) links)) a b ha hb)

Climbs-from_at : {X : Type 0} (key : X → ℕ) (xs : List X) → ((i j : ℕ) (d : X) → i < j → j < length xs → key (get_or xs i d) < key (get_or xs j d)) → Climbs key xs
Climbs-from_at key [] h = tt
Climbs-from_at key (x ∷ xs) h = (
  AllAbove-from_mem key (key x) xs (λ z m. let c : Contains xs z = Contains-from_mem xs z m in
      subst (λ w. key x < key w) c.2 (h 0 (suc c.0) z (omega arith) (omega (arith, c.1)))),
  Climbs-from_at key xs (λ i j d a b. h (suc i) (suc j) d (omega arith) (omega arith)),
)

nest_climbs : (anchors : List Anchor) → AnchorsRise anchors → length anchors < 4294967296 → (links : List Link) → IsNest anchors links → Climbs rank links
nest_climbs anchors rise few links n =
    Climbs-from_at rank links (λ i j d h k.
    precedes_rank anchors rise few (get_or links i d) (get_or links j d)
    (n.sound (get_or links i d) (Contains-from_mem links (get_or links i d) (Mem-get_or links i d (omega arith)))).link
    (n.sound (get_or links j d) (Contains-from_mem links (get_or links j d) (Mem-get_or links j d k))).link
    (n.ascending i j d h k))

-- there is one nest
pub one_nest : (anchors : List Anchor) → AnchorsRise anchors → length anchors < 4294967296 → (xs ys : List Link) → IsNest anchors xs → IsNest anchors ys → xs ≡ ys
one_nest anchors rise few xs ys a b =
    let go : (us vs : List Link) → IsNest anchors us → IsNest anchors vs → Sub (reverse us) (reverse vs) =
    λ us vs p q. Sub-from_mem (reverse us) (reverse vs) (λ l m.
    (Mem-reverse vs l).1 (Mem-from_contains vs l (q.whole l (p.sound l (Contains-from_mem us l ((Mem-reverse us l).0 m)))))) in
    let e : reverse xs ≡ reverse ys =
    Theory.same_links (from anchors) (to anchors) rank (reverse xs) (reverse ys)
    (Drops-reverse rank xs (nest_climbs anchors rise few xs a)) (Drops-reverse rank ys (nest_climbs anchors rise few ys b)) (go xs ys a b) (go ys xs b a) in
    sym (reverse-reverse xs) ∙ ap reverse e ∙ reverse-reverse ys

-- ---- the least total
module _ (anchors : List Anchor) (rise : AnchorsRise anchors) (few : length anchors < 4294967296) (es : List Link) (listed : IsListed anchors es) where
  greedy_nest : IsNest anchors (reverse (Theory.greedy (from anchors) (to anchors) es))
  greedy_nest =
      nest_from anchors rise few (reverse (Theory.greedy (from anchors) (to anchors) es))
      (Climbs-reverse rank (Theory.greedy (from anchors) (to anchors) es) (Theory.greedy_drops (from anchors) (to anchors) rank es listed.drops))
      (λ l m. (greedy_is_nest anchors rise few es listed l).0 ((Mem-reverse (Theory.greedy (from anchors) (to anchors) es) l).0 m))
      (λ l n. (Mem-reverse (Theory.greedy (from anchors) (to anchors) es) l).1 ((greedy_is_nest anchors rise few es listed l).1 n))

  greedy_lightest : (ls : List Link) → All (IsLink anchors) ls → JoinAll anchors ls → Theory.total (from anchors) (to anchors) (λ (l : Link). l.square) (Theory.greedy (from anchors) (to anchors) es) ≤ total ls
  greedy_lightest ls k j =
      let sub : Sub ls es = Sub-from_mem ls es (λ l m. listed.whole l (All-contains (IsLink anchors) ls l k (Contains-from_mem ls l m))) in
      let c : ℕ → ℕ = Theory.labels (from anchors) (to anchors) ls in
      let spans : Theory.Keeps (from anchors) (to anchors) c es =
      Theory.Keeps-from_mem (from anchors) (to anchors) c es (λ e m.
      let ke : IsLink anchors e = listed.sound e m in let eo : e.first < e.second = ke.in_order in
      Theory.chain_keeps (from anchors) (to anchors) (Contains ls) c
      (λ f cf. Theory.Keeps-mem (from anchors) (to anchors) c ls (Theory.labels_keep (from anchors) (to anchors) ls) f (Mem-from_contains ls f cf))
      (j (group_at anchors e.first) (group_at anchors e.second) (group_below anchors e.first (omega (arith, ke.within))) (group_below anchors e.second ke.within))) in
      let least : Theory.total (from anchors) (to anchors) (λ (l : Link). l.square) (Theory.greedy (from anchors) (to anchors) es) ≤ Theory.total (from anchors) (to anchors) (λ (l : Link). l.square) ls =
      Theory.greedy_least (from anchors) (to anchors) (λ (l : Link). l.square) es (squares_fall anchors few es listed.sound listed.drops) ls sub spans in
      omega (arith, total_is anchors ls)

  nest_lightest : (links : List Link) → IsNest anchors links → IsLeast anchors links
  nest_lightest links n ls k j =
      let e : links ≡ reverse (Theory.greedy (from anchors) (to anchors) es) = one_nest anchors rise few links (reverse (Theory.greedy (from anchors) (to anchors) es)) n greedy_nest in
      let same : total (reverse (Theory.greedy (from anchors) (to anchors) es)) ≡ total (Theory.greedy (from anchors) (to anchors) es) =
      sum_by-IsPermutation (λ (l : Link). l.square) (Theory.greedy (from anchors) (to anchors) es) (reverse (Theory.greedy (from anchors) (to anchors) es)) (IsPermutation-reverse (Theory.greedy (from anchors) (to anchors) es)) in
      let sums : total links ≡ total (reverse (Theory.greedy (from anchors) (to anchors) es)) = ap total e in
      omega (arith, greedy_lightest ls k j, total_is anchors (Theory.greedy (from anchors) (to anchors) es))

pub nest_least : (anchors : List Anchor) → AnchorsRise anchors → length anchors < 4294967296 → (links : List Link) → IsNest anchors links → IsLeast anchors links
nest_least anchors rise few = let all : (es : List Link) × IsListed anchors es = listed anchors few in nest_lightest anchors rise few all.0 all.1

-- the ends of its links are places of anchors
pub nest_places : (anchors : List Anchor) (links : List Link) → IsNest anchors links → All (HasPlaces anchors) links
nest_places anchors links n k d lt =
    let l = (n.sound (get_or links k d) (Contains-get_or links k d lt)).link in
    let below = l.in_order in
    let inside = l.within in
    (omega arith, inside)
