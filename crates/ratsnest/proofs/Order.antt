-- On links of a list of anchors, and on their order.
use Rattle.std.proofs.Common.{◌≡◌, ◌≢◌, ℕ, ◌<◌, ◌⊎◌, min, max, List, length, inl, inr, refl, sym, ◌∙◌, ap, subst, arith}
use Rattle.std.proofs.lemmas.Bool.{cases_order, cases_lt}
use Rattle.ratsnest.specs.declared.anchor.Anchor.{Anchor}
use Rattle.ratsnest.specs.declared.link.Link.{Link}
use Rattle.ratsnest.specs.NestOf.{anchor_at, group_at, IsBefore, AnchorsRise, IsLink, Precedes}
use Rattle.ratsnest.specs.Grow.{rank, link_at, rank_at}

pub link_at_first : (anchors : List Anchor) (i j : ℕ) → (link_at anchors i j).first ≡ min i j
unfolding link_at
link_at_first anchors i j = refl

pub link_at_second : (anchors : List Anchor) (i j : ℕ) → (link_at anchors i j).second ≡ max i j
unfolding link_at
link_at_second anchors i j = refl

pub link_at-back : (anchors : List Anchor) (i j : ℕ) → link_at anchors j i ≡ link_at anchors i j
unfolding link_at
link_at-back anchors i j =
    let m : min j i ≡ min i j = omega arith in
    let x : max j i ≡ max i j = omega arith in
    rw (m, x)

pub same_link : (l m : Link) → l.square ≡ m.square → l.first ≡ m.first → l.second ≡ m.second → l ≡ m
same_link l m s f e = λ i. record { square = s i; first = f i; second = e i }

pub link_at_is : (anchors : List Anchor) (l : Link) → IsLink anchors l → link_at anchors l.first l.second ≡ l
unfolding link_at
link_at_is anchors l k =
    let lt : l.first < l.second = k.in_order in
    let m : min l.first l.second ≡ l.first = omega arith in
    let x : max l.first l.second ≡ l.second = omega arith in
    same_link (link_at anchors l.first l.second) l (rw (m, x) (sym k.square)) m x

pub IsLink-at : (anchors : List Anchor) (i j : ℕ) → i < length anchors → j < length anchors → group_at anchors i ≢ group_at anchors j → IsLink anchors (link_at anchors i j)
unfolding link_at
IsLink-at anchors i j hi hj ne =
    let apart : i ≢ j = λ e. ne (ap (group_at anchors) e) in
    elim (cases_order i j) [
      | inl e ↦ absurd (apart e)
      | inr (inl lt) ↦
          let m : min i j ≡ i = omega arith in
          let x : max i j ≡ j = omega arith in
          record { in_order = omega arith; within = omega arith; apart = rw (m, x) ne; square = refl }
      | inr (inr gt) ↦
          let m : min i j ≡ j = omega arith in
          let x : max i j ≡ i = omega arith in
          record { in_order = omega arith; within = omega arith; apart = rw (m, x) (λ e. ne (sym e)); square = refl }
    ]

-- one rank is one link
pub same_rank : (n : ℕ) → n < 4294967296 → (l m : Link) → l.first < n → l.second < n → m.first < n → m.second < n → rank l ≡ rank m → l ≡ m
same_rank n h l m a b c d e = same_link l m (omega arith) (omega arith) (omega arith)

before_place : (anchors : List Anchor) → AnchorsRise anchors → (i j : ℕ) → i < length anchors → j < length anchors → IsBefore (anchor_at anchors i) (anchor_at anchors j) → i < j
before_place anchors rise i j hi hj b =
    elim (cases_order i j) [
      | inr (inl lt) ↦ lt
      | inl e ↦ let c : IsBefore (anchor_at anchors i) (anchor_at anchors i) = subst (λ z. IsBefore (anchor_at anchors i) (anchor_at anchors z)) (sym e) b in absurd (omega arith)
      | inr (inr gt) ↦ let c : IsBefore (anchor_at anchors j) (anchor_at anchors i) = rise j i gt hi in absurd (omega arith)
    ]

same_place : (anchors : List Anchor) → AnchorsRise anchors → (i j : ℕ) → i < length anchors → j < length anchors →
    (anchor_at anchors i).id ≡ (anchor_at anchors j).id → (anchor_at anchors i).number ≡ (anchor_at anchors j).number → i ≡ j
same_place anchors rise i j hi hj p q =
    elim (cases_order i j) [
      | inl e ↦ e
      | inr (inl lt) ↦ let c : IsBefore (anchor_at anchors i) (anchor_at anchors j) = rise i j lt hj in absurd (omega arith)
      | inr (inr gt) ↦ let c : IsBefore (anchor_at anchors j) (anchor_at anchors i) = rise j i gt hi in absurd (omega arith)
    ]

module _ (anchors : List Anchor) (rise : AnchorsRise anchors) (few : length anchors < 4294967296) where
  pub precedes_rank : (l m : Link) → IsLink anchors l → IsLink anchors m → Precedes anchors l m → rank l < rank m
  precedes_rank l m kl km p =
      let lo : l.first < l.second = kl.in_order in
      let lw : l.second < length anchors = kl.within in
      let mo : m.first < m.second = km.in_order in
      let mw : m.second < length anchors = km.within in
      elim p [
        | inl s ↦ omega arith
        | inr t ↦ elim t.1 [
          | inl b ↦ let lt : l.first < m.first = before_place anchors rise l.first m.first (omega arith) (omega arith) b in omega (arith, t.0)
          | inr b ↦
              let e : l.first ≡ m.first = same_place anchors rise l.first m.first (omega arith) (omega arith) b.0 b.1 in
              let lt : l.second < m.second = before_place anchors rise l.second m.second (omega arith) (omega arith) b.2 in omega (arith, t.0)
        ]
      ]

  pub rank_precedes : (l m : Link) → IsLink anchors l → IsLink anchors m → rank l < rank m → Precedes anchors l m
  rank_precedes l m kl km r =
      let lo : l.first < l.second = kl.in_order in
      let lw : l.second < length anchors = kl.within in
      let mo : m.first < m.second = km.in_order in
      let mw : m.second < length anchors = km.within in
      elim (cases_order l.square m.square) [
        | inr (inl lt) ↦ inl lt
        | inr (inr gt) ↦ absurd (omega arith)
        | inl e ↦ elim (cases_order l.first m.first) [
          | inr (inl lt) ↦ inr (e, inl (rise l.first m.first lt (omega arith)))
          | inr (inr gt) ↦ absurd (omega arith)
          | inl f ↦ inr (e, inr (ap (λ z. (anchor_at anchors z).id) f, ap (λ z. (anchor_at anchors z).number) f, rise l.second m.second (omega arith) mw))
        ]
      ]

-- which end of the link is which
pub ends_of : (anchors : List Anchor) (i j : ℕ) →
    (((link_at anchors i j).first ≡ i) × ((link_at anchors i j).second ≡ j)) ⊎ (((link_at anchors i j).first ≡ j) × ((link_at anchors i j).second ≡ i))
unfolding link_at
ends_of anchors i j = elim (cases_lt i j) [ inl h ↦ inl (omega arith, omega arith) | inr h ↦ inr (omega arith, omega arith) ]

-- the rank of a link, from either end
pub rank_from_first : (anchors : List Anchor) (l : Link) → IsLink anchors l → rank_at anchors l.first l.second ≡ rank l
rank_from_first anchors l k = ap rank (link_at_is anchors l k)

pub rank_from_second : (anchors : List Anchor) (l : Link) → IsLink anchors l → rank_at anchors l.second l.first ≡ rank l
rank_from_second anchors l k = ap rank (link_at-back anchors l.first l.second ∙ link_at_is anchors l k)
