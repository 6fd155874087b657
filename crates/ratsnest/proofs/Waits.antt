-- What waits keeps its least link from what is reached.
use Rattle.std.proofs.Common.{◌≡◌, ◌≢◌, ℕ, ◌*◌, ◌≤◌, ◌<◌, ◌⊎◌, Bool, true, false, min, max, List, ◌++◌, length, get_or, set, inl, inr, refl, sym, ◌∙◌, ap, ap₂, subst, All, Contains, arith, true≢false}
use Rattle.std.proofs.lemmas.Bool.{cases_lt, cases_eq}
use Rattle.std.proofs.lemmas.List.{get_or-set_same, get_or-set_other, get_or_read}
use Rattle.std.proofs.lemmas.List.Elements.{All-contains, Contains-get_or, Contains-append_left, Contains-append_right, Contains-append_cases}
use Rattle.std.proofs.lemmas.List.Sorted.{Contains-permutation, IsPermutation-sym}
use Rattle.std.specs.List.Sorted.{IsPermutation}
use Rattle.ratsnest.specs.declared.anchor.Anchor.{Anchor}
use Rattle.ratsnest.specs.declared.link.Link.{Link}
use Rattle.ratsnest.specs.declared.waiting.Waiting.{Waiting}
use Rattle.ratsnest.specs.NestOf.{anchor_at, group_at, square_of, square_between}
use Rattle.ratsnest.specs.Grow.{rank, link_at, rank_at, link_between, is_reached, StandsFor, IsDrawnToAll, IsNearest, IsReach, IsHeld}
use Rattle.ratsnest.proofs.Stands.{square_back, no_less_from}

-- the link depends on the place and the anchor alone
pub same_between : (m a b : Waiting) → b.place ≡ a.place → b.anchor ≡ a.anchor → link_between m b ≡ link_between m a
unfolding link_between
same_between m a b p q = rw (p, q) refl

pub between_at : (anchors : List Anchor) (m w : Waiting) → m.anchor ≡ anchor_at anchors m.place → w.anchor ≡ anchor_at anchors w.place →
    link_between m w ≡ link_at anchors m.place w.place
unfolding link_between link_at square_between
between_at anchors m w p q = elim (cases_lt m.place w.place) [
  | inl h ↦
      let lo : min m.place w.place ≡ m.place = omega arith in
      let hi : max m.place w.place ≡ w.place = omega arith in
      rw (lo, hi, p, q) refl
  | inr h ↦
      let lo : min m.place w.place ≡ w.place = omega arith in
      let hi : max m.place w.place ≡ m.place = omega arith in
      let s : square_of m.anchor w.anchor ≡ square_of (anchor_at anchors w.place) (anchor_at anchors m.place) =
      square_back w.anchor m.anchor ∙ ap₂ square_of q p in
      rw (lo, hi, s) refl
]

pub group_is : (anchors : List Anchor) (w : Waiting) → w.anchor ≡ anchor_at anchors w.place → w.anchor.group ≡ group_at anchors w.place
unfolding group_at
group_is anchors w e = ap (λ (a : Anchor). a.group) e

-- what is read where the least one stands
pub least_is : (xs : List Waiting) (i : ℕ) (e : Waiting) → i < length xs → e ≡ get_or xs i e →
    ((k : ℕ) (d : Waiting) → k < length xs → rank (get_or xs i d).link ≤ rank (get_or xs k d).link) →
    (k : ℕ) (d : Waiting) → k < length xs → rank e.link ≤ rank (get_or xs k d).link
least_is xs i e h is l k d hk = subst (λ (z : Waiting). rank z.link ≤ rank (get_or xs k d).link) (sym (get_or_read xs i e h is d)) (l k d hk)

-- those of the group are taken out, and what is left is drawn to them
pub reach_made : (group : ℕ) (were joined rest new : List Waiting) → IsPermutation were (joined ++ rest) →
    All (λ (w : Waiting). w.anchor.group ≡ group) joined → All (λ (w : Waiting). w.anchor.group ≢ group) rest → length new ≡ length rest →
    ((k : ℕ) (d : Waiting) → k < length new → IsDrawnToAll joined (get_or rest k d) (get_or new k d)) → IsReach group were new
reach_made group were joined rest new all of others len drawn =
    let were_in : (w : Waiting) → Contains (joined ++ rest) w → Contains were w =
    λ w. Contains-permutation (joined ++ rest) were w (IsPermutation-sym were (joined ++ rest) all) in
    let now_in : (w : Waiting) → Contains were w → Contains joined w ⊎ Contains rest w =
    λ w c. Contains-append_cases joined rest w (Contains-permutation were (joined ++ rest) w all c) in
    record {
      rest = λ k d h. subst (λ (a : Anchor). a.group ≢ group) (sym (drawn k d h).anchor) (others k d (omega arith));
      from = λ k d h. (
        get_or rest k d,
        were_in (get_or rest k d) (Contains-append_right joined rest (get_or rest k d) (Contains-get_or rest k d (omega arith))),
        record {
          place = (drawn k d h).place;
          anchor = (drawn k d h).anchor;
          choice = elim (drawn k d h).choice [
            | inl e ↦ inl e
            | inr e ↦ inr (e.0, were_in e.0 (Contains-append_left joined rest e.0 e.1), All-contains (λ (w : Waiting). w.anchor.group ≡ group) joined e.0 of e.1, e.2)
          ];
          not_old = (drawn k d h).not_old;
          not_others = λ m c g. elim (now_in m c) [
            | inl i ↦ subst (λ z. rank (get_or new k d).link ≤ rank (link_between z (get_or rest k d))) i.2 ((drawn k d h).not_others i.0 m i.1)
            | inr i ↦ absurd (All-contains (λ (w : Waiting). w.anchor.group ≢ group) rest m others i g)
          ];
        },
      );
      whole = λ w c. elim (now_in w c) [
        | inl i ↦ inl (All-contains (λ (w : Waiting). w.anchor.group ≡ group) joined w of i)
        | inr i ↦
            let h : i.0 < length new = omega (arith, i.1) in
            inr (get_or new i.0 w, Contains-get_or new i.0 w h, (drawn i.0 w h).place ∙ ap (λ (z : Waiting). z.place) i.2)
      ];
    }

-- what is reached after one group more
pub set_reached : (xs : List Bool) (i k : ℕ) → i < length xs → get_or xs k false ≡ true → get_or (set xs i true) k false ≡ true
set_reached xs i k l h = elim (cases_eq k i) [
  | inl e ↦ subst (λ z. get_or (set xs i true) z false ≡ true) (sym e) (get_or-set_same xs i true false l)
  | inr n ↦ get_or-set_other xs i k true false n ∙ h
]

pub set_reached_back : (xs : List Bool) (i k : ℕ) → get_or (set xs i true) k false ≡ true → (get_or xs k false ≡ true) ⊎ (k ≡ i)
set_reached_back xs i k h = elim (cases_eq k i) [
  | inl e ↦ inr e
  | inr n ↦ inl (sym (get_or-set_other xs i k true false n) ∙ h)
]

-- where an anchor waits that is not reached
abbrev pub IsPlaced : List Anchor → List Bool → Waiting → Type 0
IsPlaced anchors reached w = (w.place < length anchors) × (w.anchor ≡ anchor_at anchors w.place) × (is_reached anchors reached w.place ≡ false)

abbrev pub Near : List Anchor → List Bool → Waiting → Type 0
Near anchors reached w = (i : ℕ) × (i < length anchors) × (is_reached anchors reached i ≡ true) × (w.link ≡ link_at anchors i w.place)

module _ (anchors : List Anchor) (reached : List Bool) (group : ℕ) (fits : group < length reached) (outside : get_or reached group false ≡ false)
    (old new : List Waiting) (r : IsReach group old new)
    (placed : (w : Waiting) → Contains old w → IsPlaced anchors reached w)
    (near : (w : Waiting) → Contains old w → Near anchors (set reached group true) w)
    (least : (w : Waiting) → Contains old w → (i : ℕ) → i < length anchors → is_reached anchors reached i ≡ true → rank w.link ≤ rank_at anchors i w.place)
    (whole : (j : ℕ) → j < length anchors → is_reached anchors reached j ≡ false → (w : Waiting) × Contains old w × StandsFor anchors w.place j) where
  here : get_or (set reached group true) group false ≡ true
  here = get_or-set_same reached group true false fits

  -- the link of two that waited
  between : (m o : Waiting) → Contains old m → Contains old o → link_between m o ≡ link_at anchors m.place o.place
  between m o cm co = between_at anchors m o (placed m cm).1 (placed o co).1

  held_one : (o w : Waiting) → Contains old o → IsNearest group old o w → w.anchor.group ≢ group → IsHeld anchors (set reached group true) w
  held_one o w c n apart =
      let at : w.anchor ≡ anchor_at anchors w.place = n.anchor ∙ (placed o c).1 ∙ sym (ap (anchor_at anchors) n.place) in
      let other : group_at anchors w.place ≢ group = λ e. apart (group_is anchors w at ∙ e) in
      record {
        within = subst (λ z. z < length anchors) (sym n.place) (placed o c).0;
        anchor = at;
        outside = get_or-set_other reached group (group_at anchors w.place) true false other ∙ ap (is_reached anchors reached) n.place ∙ (placed o c).2;
        near = elim n.choice [
          | inl e ↦
              let q : Near anchors (set reached group true) o = near o c in
              (q.0, q.1, q.2, e ∙ q.3 ∙ sym (ap (link_at anchors q.0) n.place))
          | inr e ↦ (
            e.0.place,
            (placed e.0 e.1).0,
            ap (λ z. get_or (set reached group true) z false) (sym (group_is anchors e.0 (placed e.0 e.1).1) ∙ e.2) ∙ here,
            e.3 ∙ between e.0 o e.1 c ∙ sym (ap (link_at anchors e.0.place) n.place),
          )
        ];
        least = λ i hi re. elim (set_reached_back reached group (group_at anchors i) re) [
          | inl was ↦ subst (λ z. rank w.link ≤ rank_at anchors i z) (sym n.place) (omega (arith, n.not_old, least o c i hi was))
          | inr is ↦
              let m : (m : Waiting) × Contains old m × StandsFor anchors m.place i = whole i hi (ap (λ z. get_or reached z false) is ∙ outside) in
              let of : m.0.anchor.group ≡ group = group_is anchors m.0 (placed m.0 m.1).1 ∙ m.2.group ∙ is in
              let e : link_between m.0 o ≡ link_at anchors m.0.place w.place = between m.0 o m.1 c ∙ sym (ap (link_at anchors m.0.place) n.place) in
              let le : rank w.link ≤ rank_at anchors m.0.place w.place = subst (λ (z : Link). rank w.link ≤ rank z) e (n.not_others m.0 m.1 of) in
              omega (arith, le, no_less_from anchors m.0.place i w.place m.2)
        ];
      }

  pub held_after : All (IsHeld anchors (set reached group true)) new
  held_after k d h =
      let f : (o : Waiting) × Contains old o × IsNearest group old o (get_or new k d) = r.from k d h in
      held_one f.0 (get_or new k d) f.1 f.2 (r.rest k d h)

  pub whole_after : (j : ℕ) → j < length anchors → is_reached anchors (set reached group true) j ≡ false → (w : Waiting) × Contains new w × StandsFor anchors w.place j
  whole_after j hj un =
      let other : group_at anchors j ≢ group = λ e. true≢false (sym here ∙ sym (ap (λ z. get_or (set reached group true) z false) e) ∙ un) in
      let o : (o : Waiting) × Contains old o × StandsFor anchors o.place j = whole j hj (sym (get_or-set_other reached group (group_at anchors j) true false other) ∙ un) in
      elim (r.whole o.0 o.1) [
        | inl e ↦ absurd (other (sym o.2.group ∙ sym (group_is anchors o.0 (placed o.0 o.1).1) ∙ e))
        | inr w ↦ (w.0, w.1, subst (λ z. StandsFor anchors z j) (sym w.2) o.2)
      ]

-- a link that is longer
pub longer_is_more : (m w : Waiting) (n : ℕ) → n ≡ square_of m.anchor w.anchor → rank w.link < n * 18446744073709551616 → rank w.link ≤ rank (link_between m w)
unfolding link_between
longer_is_more m w n is less = omega (arith, is, less)
