-- A link more joins two labels.
use Rattle.std.proofs.Common.{◌≡◌, ◌≢◌, ℕ, zero, suc, ◌+◌, ◌≤◌, ◌<◌, ◌⊎◌, Bool, true, false, List, [], ◌∷◌, ◌++◌, length, get_or, set, insert, replicate, reverse, count_by, inl, inr, refl, sym, ◌∙◌, ap, subst, arith, true≢false, length-append}
use Rattle.std.proofs.lemmas.Bool.{cases_lt, cases_eq}
use Rattle.std.proofs.lemmas.List.{get_or-set_same, get_or-set_other, get_or-replicate, length-set, length-replicate, reverse-reverse}
use Rattle.ratsnest.specs.declared.anchor.Anchor.{Anchor}
use Rattle.ratsnest.specs.declared.link.Link.{Link}
use Rattle.ratsnest.specs.Mem.{Mem, Climbs}
use Rattle.ratsnest.specs.NestOf.{group_at, group_count, IsLink, InNest}
use Rattle.ratsnest.specs.Grow.{rank, AreChosen}
use Rattle.ratsnest.specs.Forest.{label_at, IsRelabeled, IsJoining, IsForest, AreOne}
use Rattle.ratsnest.proofs.Members.{Mem-append_left, Mem-append_right, Mem-append_cases, Sub-from_mem}
use Rattle.ratsnest.proofs.Climbing.{Climbs-insert, Mem-insert, Mem-insert_cases}
use Rattle.ratsnest.proofs.Grown.{group_below}
use Rattle.ratsnest.proofs.Counted.{counted_less, counted_one, counted_two, counted_all}
use Rattle.ratsnest.proofs.Theory
use Rattle.ratsnest.proofs.Whole.{from, to, same_rank_links, Drops-reverse, Mem-reverse}

-- ---- where a link belongs in the order
abbrev IsPlace : List Link → Link → ℕ → Type 0
IsPlace xs y k = ((i : ℕ) (d : Link) → i < k → rank (get_or xs i d) < rank y) × ((d : Link) → k < length xs → rank y ≤ rank (get_or xs k d))

below_more : (x : Link) (xs : List Link) (y : Link) (k : ℕ) → rank x < rank y → ((i : ℕ) (d : Link) → i < k → rank (get_or xs i d) < rank y) →
    (i : ℕ) (d : Link) → i < suc k → rank (get_or (x ∷ xs) i d) < rank y
below_more x xs y k lt b zero d h = lt
below_more x xs y k lt b (suc i) d h = b i d (omega arith)

place_of : (xs : List Link) (y : Link) → (k : ℕ) × IsPlace xs y k
place_of [] y = (0, ((λ i d h. absurd (omega arith)), (λ d h. absurd (omega arith))))
place_of (x ∷ xs) y = elim (cases_lt (rank x) (rank y)) [
  | inl lt ↦ let m : (k : ℕ) × IsPlace xs y k = place_of xs y in (suc m.0, (below_more x xs y m.0 lt m.1.0, (λ d h. m.1.1 d (omega arith))))
  | inr ge ↦ (0, ((λ i d h. absurd (omega arith)), (λ d h. ge)))
]

length_insert : (xs : List Link) (k : ℕ) (y : Link) → length (insert xs k y) ≡ length xs + 1
length_insert xs zero y = omega arith
length_insert [] (suc k) y = refl
length_insert (x ∷ xs) (suc k) y = omega (arith, length_insert xs k y)

module _ (anchors : List Anchor) (few : length anchors < 4294967296) (labels : List ℕ) (links : List Link) (f : IsForest anchors labels links)
    (l : Link) (n : InNest anchors l) (apart : label_at labels (group_at anchors l.first) ≢ label_at labels (group_at anchors l.second))
    (labels' : List ℕ) (len' : length labels' ≡ length labels) where
  first_fits : group_at anchors l.first < length labels
  first_fits = omega (arith, group_below anchors l.first (omega (arith, n.link.in_order, n.link.within)), f.count)

  second_fits : group_at anchors l.second < length labels
  second_fits = omega (arith, group_below anchors l.second n.link.within, f.count)

  other : (m : Link) → Mem m f.sorted → rank m ≢ rank l
  other m h e =
      let same : m ≡ l = same_rank_links anchors few m l (f.nest m h).link n.link e in
      apart (subst (λ (z : Link). IsJoining anchors labels z) same (f.inside m h))

  module _ (a b : ℕ) (g₁ g₂ : ℕ) (h₁ : g₁ < length labels) (h₂ : g₂ < length labels) (e₁ : label_at labels g₁ ≡ a) (e₂ : label_at labels g₂ ≡ b) (ne : a ≢ b)
      (across : (c : ℕ → ℕ) → c (group_at anchors l.first) ≡ c (group_at anchors l.second) → c g₁ ≡ c g₂)
      (ends : IsJoining anchors labels' l)
      (r : IsRelabeled a b labels labels') where
    same_still : (x y : ℕ) → x < length labels → y < length labels → label_at labels x ≡ label_at labels y → label_at labels' x ≡ label_at labels' y
    same_still x y hx hy e = elim (cases_eq (label_at labels x) a) [
      | inl p ↦ r.moved x (omega (arith, len')) p ∙ sym (r.moved y (omega (arith, len')) (sym e ∙ p))
      | inr p ↦ r.stays x (omega (arith, len')) p ∙ e ∙ sym (r.stays y (omega (arith, len')) (λ q. p (e ∙ q)))
    ]

    pub forest_more : IsForest anchors labels' (links ++ l ∷ [])
    forest_more =
        let k : (k : ℕ) × IsPlace f.sorted l k = place_of f.sorted l in
        let ha : a < length f.heads = omega (arith, f.head_count, f.heads_fit g₁ h₁, e₁) in
        record {
          count = len' ∙ f.count;
          sorted = insert f.sorted k.0 l;
          climbs = Climbs-insert rank f.sorted k.0 l f.climbs k.1.0 k.1.1 other;
          len = omega (arith, length-append links (l ∷ []), length_insert f.sorted k.0 l, f.len);
          there = λ m h. Mem-insert f.sorted k.0 l m (elim (Mem-append_cases links (l ∷ []) m h) [
            | inl q ↦ inl (f.there m q)
            | inr q ↦ elim q [ inl e ↦ inr e | inr e ↦ absurd e ]
          ]);
          back = λ m h. elim (Mem-insert_cases f.sorted k.0 l m h) [
            | inl q ↦ Mem-append_left links (l ∷ []) m (f.back m q)
            | inr e ↦ Mem-append_right links (l ∷ []) m (inl e)
          ];
          nest = λ m h. elim (Mem-insert_cases f.sorted k.0 l m h) [ inl q ↦ f.nest m q | inr e ↦ subst (λ (z : Link). InNest anchors z) (sym e) n ];
          inside = λ m h. elim (Mem-insert_cases f.sorted k.0 l m h) [
            | inl q ↦
                let w : IsLink anchors m = (f.nest m q).link in
                same_still (group_at anchors m.first) (group_at anchors m.second)
                (omega (arith, group_below anchors m.first (omega (arith, w.in_order, w.within)), f.count)) (omega (arith, group_below anchors m.second w.within, f.count)) (f.inside m q)
            | inr e ↦ subst (λ (z : Link). IsJoining anchors labels' z) (sym e) ends
          ];
          heads = set f.heads a false;
          head_count = length-set f.heads a false ∙ f.head_count ∙ sym len';
          heads_fit = λ g h. elim (cases_eq (label_at labels g) a) [
            | inl p ↦ omega (arith, r.moved g h p, f.heads_fit g₂ h₂, e₂, len')
            | inr p ↦ omega (arith, r.stays g h p, f.heads_fit g (omega (arith, h, len')), len')
          ];
          counted = omega (arith, counted_less f.heads a ha (subst (λ z. get_or f.heads z true ≡ true) e₁ (f.used_head g₁ h₁)), f.counted, length-append links (l ∷ []));
          head_used = λ c h e. elim (cases_eq c a) [
            | inl p ↦ absurd (true≢false (sym e ∙ ap (λ z. get_or (set f.heads a false) z true) p ∙ get_or-set_same f.heads a false true ha))
            | inr p ↦
                let w : (g : ℕ) × (g < length labels) × (label_at labels g ≡ c) =
                f.head_used c (omega (arith, h, length-set f.heads a false)) (sym (get_or-set_other f.heads a c false true p) ∙ e) in
                (w.0, omega (arith, w.1, len'), r.stays w.0 (omega (arith, w.1, len')) (λ q. p (sym w.2 ∙ q)) ∙ w.2)
          ];
          used_head = λ g h. elim (cases_eq (label_at labels g) a) [
            | inl p ↦ ap (λ z. get_or (set f.heads a false) z true) (r.moved g h p) ∙ get_or-set_other f.heads a b false true (λ q. ne (sym q))
                ∙ subst (λ z. get_or f.heads z true ≡ true) e₂ (f.used_head g₂ h₂)
            | inr p ↦ ap (λ z. get_or (set f.heads a false) z true) (r.stays g h p) ∙ get_or-set_other f.heads a (label_at labels g) false true p
                ∙ f.used_head g (omega (arith, h, len'))
          ];
          joined = λ c resp x y hx hy e.
              let lx : x < length labels = omega (arith, hx, len') in
              let ly : y < length labels = omega (arith, hy, len') in
              let was : (u v : ℕ) → u < length labels → v < length labels → label_at labels u ≡ label_at labels v → c u ≡ c v =
              f.joined c (λ m h. resp m (Mem-append_left links (l ∷ []) m h)) in
              let bridge : c g₁ ≡ c g₂ = across c (resp l (Mem-append_right links (l ∷ []) l (inl refl))) in
              elim (cases_eq (label_at labels x) a) [
                | inl p ↦ elim (cases_eq (label_at labels y) a) [
                  | inl q ↦ was x y lx ly (p ∙ sym q)
                  | inr q ↦
                      let at_b : label_at labels y ≡ b = sym (r.stays y hy q) ∙ sym e ∙ r.moved x hx p in
                      was x g₁ lx h₁ (p ∙ sym e₁) ∙ bridge ∙ was g₂ y h₂ ly (e₂ ∙ sym at_b)
                ]
                | inr p ↦ elim (cases_eq (label_at labels y) a) [
                  | inl q ↦
                      let at_b : label_at labels x ≡ b = sym (r.stays x hx p) ∙ e ∙ r.moved y hy q in
                      was x g₂ lx h₂ (at_b ∙ sym e₂) ∙ sym bridge ∙ was g₁ y h₁ ly (e₁ ∙ sym q)
                  | inr q ↦ was x y lx ly (sym (r.stays x hx p) ∙ e ∙ r.stays y hy q)
                ]
              ];
        }

  -- whichever label is kept
  pub forest_joined : IsRelabeled (label_at labels (group_at anchors l.first)) (label_at labels (group_at anchors l.second)) labels labels'
      ⊎ IsRelabeled (label_at labels (group_at anchors l.second)) (label_at labels (group_at anchors l.first)) labels labels' → IsForest anchors labels' (links ++ l ∷ [])
  forest_joined r =
      let g : ℕ = group_at anchors l.first in
      let h : ℕ = group_at anchors l.second in
      let hg : g < length labels' = omega (arith, first_fits, len') in
      let hh : h < length labels' = omega (arith, second_fits, len') in
      elim r [
        | inl q ↦ forest_more (label_at labels g) (label_at labels h) g h first_fits second_fits refl refl apart (λ c e. e)
            (q.moved g hg refl ∙ sym (q.stays h hh (λ e. apart (sym e)))) q
        | inr q ↦ forest_more (label_at labels h) (label_at labels g) h g second_fits first_fits refl refl (λ e. apart (sym e)) (λ c e. sym e)
            (q.stays g hg apart ∙ sym (q.moved h hh refl)) q
      ]

-- ---- where it begins and ends
pub forest_none : (anchors : List Anchor) (labels : List ℕ) → length labels ≡ group_count anchors → ((g : ℕ) → g < length labels → get_or labels g 0 ≡ g) → IsForest anchors labels []
forest_none anchors labels count own =
    let heads : List Bool = replicate (length labels) true in
    let len : length heads ≡ length labels = length-replicate (length labels) true in
    record {
      count = count;
      sorted = [];
      climbs = tt;
      len = refl;
      there = λ l h. h;
      back = λ l h. h;
      nest = λ l h. absurd h;
      inside = λ l h. absurd h;
      heads = replicate (length labels) true;
      head_count = len;
      heads_fit = λ g h. omega (arith, own g h);
      counted = omega (arith, counted_all (length labels), count);
      head_used = λ c h e. let hc : c < length labels = omega (arith, h, len) in (c, hc, own c hc);
      used_head = λ g h. get_or-replicate (length labels) (label_at labels g) true true (omega (arith, own g h));
      joined = λ c resp g h hg hh e. ap c (sym (own g hg) ∙ e ∙ own h hh);
    }

climbs_same : (anchors : List Anchor) (xs ys : List Link) → Climbs rank xs → Climbs rank ys → ((l : Link) → Mem l xs → Mem l ys) → ((l : Link) → Mem l ys → Mem l xs) → xs ≡ ys
climbs_same anchors xs ys cx cy there back =
    let e : reverse xs ≡ reverse ys =
    Theory.same_links (from anchors) (to anchors) rank (reverse xs) (reverse ys) (Drops-reverse rank xs cx) (Drops-reverse rank ys cy)
    (Sub-from_mem (reverse xs) (reverse ys) (λ l m. (Mem-reverse ys l).1 (there l ((Mem-reverse xs l).0 m))))
    (Sub-from_mem (reverse ys) (reverse xs) (λ l m. (Mem-reverse xs l).1 (back l ((Mem-reverse ys l).0 m)))) in
    sym (reverse-reverse xs) ∙ ap reverse e ∙ reverse-reverse ys

-- so many links leave one label
pub forest_whole : (anchors : List Anchor) (labels : List ℕ) (links : List Link) → IsForest anchors labels links → length labels ≤ length links + 1 → AreOne labels
forest_whole anchors labels links f many g h hg hh = elim (cases_eq (label_at labels g) (label_at labels h)) [
  | inl e ↦ e
  | inr n ↦
      let a : label_at labels g < length f.heads = omega (arith, f.heads_fit g hg, f.head_count) in
      let b : label_at labels h < length f.heads = omega (arith, f.heads_fit h hh, f.head_count) in
      absurd (omega (arith, counted_two f.heads (label_at labels g) (label_at labels h) a b n (f.used_head g hg) (f.used_head h hh), f.counted, f.count, many))
]

module _ (anchors : List Anchor) (labels : List ℕ) (links : List Link) (f : IsForest anchors labels links) (one : AreOne labels) (some : 0 < group_count anchors) where
  one_head : count_by (λ b. b) f.heads ≡ 1
  one_head =
      let h0 : 0 < length labels = omega (arith, f.count) in
      counted_one f.heads (label_at labels 0) (omega (arith, f.heads_fit 0 h0, f.head_count)) (f.used_head 0 h0)
      (λ k h e. let w : (g : ℕ) × (g < length labels) × (label_at labels g ≡ k) = f.head_used k h e in sym w.2 ∙ one w.0 0 w.1 h0)

  -- the links in order
  pub forest_chosen : (ys : List Link) → Climbs rank ys → ((l : Link) → Mem l ys → Mem l links) → ((l : Link) → Mem l links → Mem l ys) → AreChosen anchors ys
  forest_chosen ys climbs sound whole =
      let e : ys ≡ f.sorted = climbs_same anchors ys f.sorted climbs f.climbs (λ l m. f.there l (sound l m)) (λ l m. whole l (f.back l m)) in
      record {
        counted = omega (arith, ap length e, f.len, f.counted, one_head);
        climbs = climbs;
        nest = λ l m. f.nest l (f.there l (sound l m));
        joined = λ c resp g h hg hh. f.joined c (λ l m. resp l (whole l m)) g h (omega (arith, f.count)) (omega (arith, f.count)) (one g h (omega (arith, f.count)) (omega (arith, f.count)));
      }
