-- The least links that leave the labels are in the nest.
use Rattle.std.proofs.Common.{◌≡◌, ◌≢◌, ℕ, ◌≤◌, ◌<◌, Bool, true, false, nat_eq, List, length, get_or, inl, inr, sym, ◌∙◌, ap, subst, All, arith, true≢false, IsPermutation}
use Rattle.std.proofs.lemmas.Bool.{cases_eq}
use Rattle.std.proofs.lemmas.Bool.Decides.{nat_tests}
use Rattle.std.proofs.lemmas.List.{get_or_default}
use Rattle.std.proofs.lemmas.List.Elements.{Contains-get_or}
use Rattle.std.proofs.lemmas.List.Sorted.{Contains-permutation, All-permutation}
use Rattle.ratsnest.specs.declared.anchor.Anchor.{Anchor}
use Rattle.ratsnest.specs.declared.link.Link.{Link}
use Rattle.ratsnest.specs.declared.indexed_anchor.IndexedAnchor.{IndexedAnchor}
use Rattle.ratsnest.specs.NestOf.{anchor_at, group_at, group_count, AnchorsRise, GroupsOccur, IsLink, InNest, Precedes}
use Rattle.ratsnest.specs.Grow.{rank, link_at, rank_at}
use Rattle.ratsnest.specs.Forest.{link_between, indexed_anchor_at, no_indexed_anchor, no_link, best_at, label_at, label_of, IsIndexedAnchorOf, AreIndexedAnchors, AreBestTo, IsUsable, IsIdle, IsJoining, AreOne}
use Rattle.ratsnest.proofs.IndexedAnchors.{between_at, group_is}
use Rattle.ratsnest.proofs.Squares.{square_small}
use Rattle.ratsnest.proofs.Theory.{chain_keeps}
use Rattle.ratsnest.proofs.Order.{IsLink-at, ends_of, rank_from_first, rank_from_second, precedes_rank}

test_yes : (x c : ℕ) → x ≡ c → nat_eq x c ≡ true
test_yes x c e = grind (arith, nat_tests)

test_no : (x c : ℕ) → x ≢ c → nat_eq x c ≡ false
test_no x c n = grind (arith, nat_tests)

-- the anchors in another order
pub indexed_anchors_moved : (anchors : List Anchor) (indexed_anchors moved : List IndexedAnchor) → length indexed_anchors ≡ length anchors →
    ((k : ℕ) → k < length indexed_anchors → IsIndexedAnchorOf anchors k (indexed_anchor_at indexed_anchors k)) → IsPermutation indexed_anchors moved → AreIndexedAnchors anchors moved
indexed_anchors_moved anchors indexed_anchors moved len each p =
    let all : All (λ (s : IndexedAnchor). (s.place < length anchors) × (s.anchor ≡ anchor_at anchors s.place)) moved =
    All-permutation (λ (s : IndexedAnchor). (s.place < length anchors) × (s.anchor ≡ anchor_at anchors s.place)) indexed_anchors moved p
    (λ k d h.
    let s : IsIndexedAnchorOf anchors k (get_or indexed_anchors k d) = subst (λ (z : IndexedAnchor). IsIndexedAnchorOf anchors k z) (get_or_default indexed_anchors k no_indexed_anchor d h) (each k h) in
    (omega (arith, s.place, h, len), s.anchor ∙ sym (ap (anchor_at anchors) s.place))) in
    record {
      within = λ k h. (all k no_indexed_anchor h).0;
      anchor = λ k h. (all k no_indexed_anchor h).1;
      whole = λ j h.
          let hj : j < length indexed_anchors = omega (arith, len) in
          let c = Contains-permutation indexed_anchors moved (indexed_anchor_at indexed_anchors j) p (Contains-get_or indexed_anchors j no_indexed_anchor hj) in
          (c.0, c.1, ap (λ (z : IndexedAnchor). z.place) (get_or_default moved c.0 no_indexed_anchor (indexed_anchor_at indexed_anchors j) c.1 ∙ c.2) ∙ (each j hj).place);
    }

module _ (anchors : List Anchor) (rise : AnchorsRise anchors) (few : length anchors < 4294967296) (labels : List ℕ) where
  module _ (c i j : ℕ) (hi : i < length anchors) (hj : j < length anchors)
      (inside : label_at labels (group_at anchors i) ≡ c) (outside : label_at labels (group_at anchors j) ≢ c)
      (least : (a b : ℕ) → a < length anchors → b < length anchors → label_at labels (group_at anchors a) ≡ c → label_at labels (group_at anchors b) ≢ c →
      rank_at anchors i j ≤ rank_at anchors a b) where
    side : ℕ → Bool
    side g = nat_eq (label_at labels g) c

    leaving_is_link : IsLink anchors (link_at anchors i j)
    leaving_is_link = IsLink-at anchors i j hi hj (λ q. outside (sym (ap (label_at labels) q) ∙ inside))

    -- the ends of a lesser link are on one side
    lesser_stays : (f : Link) → IsLink anchors f → rank f < rank_at anchors i j → nat_eq (label_at labels (group_at anchors f.first)) c ≡ nat_eq (label_at labels (group_at anchors f.second)) c
    lesser_stays f k less =
        let low : f.first < f.second = k.in_order in
        let high : f.second < length anchors = k.within in
        elim (cases_eq (label_at labels (group_at anchors f.first)) c) [
          | inl a ↦ elim (cases_eq (label_at labels (group_at anchors f.second)) c) [
            | inl b ↦ test_yes (label_at labels (group_at anchors f.first)) c a ∙ sym (test_yes (label_at labels (group_at anchors f.second)) c b)
            | inr b ↦ absurd (omega (arith, least f.first f.second (omega arith) high a b, rank_from_first anchors f k))
          ]
          | inr a ↦ elim (cases_eq (label_at labels (group_at anchors f.second)) c) [
            | inl b ↦ absurd (omega (arith, least f.second f.first high (omega arith) b a, rank_from_second anchors f k))
            | inr b ↦ test_no (label_at labels (group_at anchors f.first)) c a ∙ sym (test_no (label_at labels (group_at anchors f.second)) c b)
          ]
        ]

    leaving_in_nest : InNest anchors (link_at anchors i j)
    leaving_in_nest =
        let e : Link = link_at anchors i j in
        record {
          link = leaving_is_link;
          alone = λ chain.
              let same : nat_eq (label_at labels (group_at anchors e.first)) c ≡ nat_eq (label_at labels (group_at anchors e.second)) c =
              chain_keeps (λ (l : Link). group_at anchors l.first) (λ (l : Link). group_at anchors l.second)
              (λ m. IsLink anchors m × Precedes anchors m e) (λ q. nat_eq (label_at labels q) c)
              (λ f p. lesser_stays f p.0 (precedes_rank anchors rise few f e p.0 leaving_is_link p.1)) chain in
              let yes : nat_eq (label_at labels (group_at anchors i)) c ≡ true = test_yes (label_at labels (group_at anchors i)) c inside in
              let no : nat_eq (label_at labels (group_at anchors j)) c ≡ false = test_no (label_at labels (group_at anchors j)) c outside in
              elim (ends_of anchors i j) [
                | inl q ↦ true≢false (sym yes ∙ sym (ap (λ z. nat_eq (label_at labels (group_at anchors z)) c) q.0) ∙ same ∙ ap (λ z. nat_eq (label_at labels (group_at anchors z)) c) q.1 ∙ no)
                | inr q ↦ true≢false (sym yes ∙ sym (ap (λ z. nat_eq (label_at labels (group_at anchors z)) c) q.1) ∙ sym same ∙ ap (λ z. nat_eq (label_at labels (group_at anchors z)) c) q.0 ∙ no)
              ];
        }

  module _ (indexed_anchors : List IndexedAnchor) (are : AreIndexedAnchors anchors indexed_anchors) where
    between : (i j : ℕ) → i < length indexed_anchors → j < length indexed_anchors → link_between (indexed_anchor_at indexed_anchors i) (indexed_anchor_at indexed_anchors j) ≡ link_at anchors (indexed_anchor_at indexed_anchors i).place (indexed_anchor_at indexed_anchors j).place
    between i j hi hj = between_at anchors (indexed_anchor_at indexed_anchors i) (indexed_anchor_at indexed_anchors j) (are.anchor i hi) (are.anchor j hj)

    label_is : (i : ℕ) → i < length indexed_anchors → label_of labels (indexed_anchor_at indexed_anchors i) ≡ label_at labels (group_at anchors (indexed_anchor_at indexed_anchors i).place)
    label_is i hi = ap (label_at labels) (group_is anchors (indexed_anchor_at indexed_anchors i) (are.anchor i hi))

    short : (i j : ℕ) → i < length indexed_anchors → j < length indexed_anchors → (link_between (indexed_anchor_at indexed_anchors i) (indexed_anchor_at indexed_anchors j)).square ≤ 2000000000000000000
    unfolding link_between
    short i j hi hj =
        let s : IndexedAnchor = indexed_anchor_at indexed_anchors i in
        let t : IndexedAnchor = indexed_anchor_at indexed_anchors j in
        omega (arith, square_small s.anchor.x t.anchor.x s.anchor.x_in_range t.anchor.x_in_range, square_small s.anchor.y t.anchor.y s.anchor.y_in_range t.anchor.y_in_range)

    shorter_than_none : (i j : ℕ) → i < length indexed_anchors → j < length indexed_anchors → rank no_link ≤ rank (link_between (indexed_anchor_at indexed_anchors i) (indexed_anchor_at indexed_anchors j)) → ⊥
    unfolding link_between
    shorter_than_none i j hi hj le =
        let s : IndexedAnchor = indexed_anchor_at indexed_anchors i in
        let t : IndexedAnchor = indexed_anchor_at indexed_anchors j in
        omega (
          arith,
          are.within i hi,
          are.within j hj,
          few,
          le,
          square_small s.anchor.x t.anchor.x s.anchor.x_in_range t.anchor.x_in_range,
          square_small s.anchor.y t.anchor.y s.anchor.y_in_range t.anchor.y_in_range,
        )

    module _ (skipped : ℕ) (best : List Link) (b : AreBestTo indexed_anchors labels skipped (length indexed_anchors) best) where
      leaving_least : (c i j : ℕ) → c ≢ skipped → c < length best → i < length indexed_anchors → j < length indexed_anchors → best_at best c ≡ link_between (indexed_anchor_at indexed_anchors i) (indexed_anchor_at indexed_anchors j) →
          (p q : ℕ) → p < length anchors → q < length anchors → label_at labels (group_at anchors p) ≡ c → label_at labels (group_at anchors q) ≢ c →
          rank_at anchors (indexed_anchor_at indexed_anchors i).place (indexed_anchor_at indexed_anchors j).place ≤ rank_at anchors p q
      leaving_least c i j kept hc hi hj is p q hp hq lp lq =
          let u = are.whole p hp in
          let v = are.whole q hq in
          let lu : label_of labels (indexed_anchor_at indexed_anchors u.0) ≡ c = label_is u.0 u.1 ∙ ap (λ z. label_at labels (group_at anchors z)) u.2 ∙ lp in
          let lv : label_of labels (indexed_anchor_at indexed_anchors v.0) ≢ c = λ e. lq (sym (ap (λ z. label_at labels (group_at anchors z)) v.2) ∙ sym (label_is v.0 v.1) ∙ e) in
          let le : rank (best_at best (label_of labels (indexed_anchor_at indexed_anchors u.0))) ≤ rank (link_between (indexed_anchor_at indexed_anchors u.0) (indexed_anchor_at indexed_anchors v.0)) =
          b.least u.0 v.0 u.1 v.1 (λ e. kept (sym lu ∙ e)) (λ e. lv (e ∙ lu)) in
          let le' : rank (best_at best c) ≤ rank (link_between (indexed_anchor_at indexed_anchors u.0) (indexed_anchor_at indexed_anchors v.0)) =
          subst (λ z. rank (best_at best z) ≤ rank (link_between (indexed_anchor_at indexed_anchors u.0) (indexed_anchor_at indexed_anchors v.0))) lu le in
          let far : link_between (indexed_anchor_at indexed_anchors u.0) (indexed_anchor_at indexed_anchors v.0) ≡ link_at anchors p q =
          between u.0 v.0 u.1 v.1 ∙ ap (λ z. link_at anchors z (indexed_anchor_at indexed_anchors v.0).place) u.2 ∙ ap (link_at anchors p) v.2 in
          let near : best_at best c ≡ link_at anchors (indexed_anchor_at indexed_anchors i).place (indexed_anchor_at indexed_anchors j).place = is ∙ between i j hi hj in
          subst (λ (z : Link). rank z ≤ rank_at anchors p q) near (subst (λ (z : Link). rank (best_at best c) ≤ rank z) far le')

      pub best_usable : All (IsUsable anchors) best
      best_usable c d hc =
          let at : best_at best c ≡ get_or best c d = get_or_default best c no_link d hc in
          subst (λ (z : Link). IsUsable anchors z) at (elim (cases_eq c skipped) [
            | inl e ↦ inl (ap (λ (z : Link). z.square) (ap (best_at best) e ∙ b.none))
            | inr kept ↦ elim (b.choice c hc) [
              | inl e ↦ inl (ap (λ (z : Link). z.square) e)
              | inr f ↦
                  let i = f.0 in
                  let j = f.1 in
                  let hi : i < length indexed_anchors = f.2 in
                  let hj : j < length indexed_anchors = f.3 in
                  let is : best_at best c ≡ link_at anchors (indexed_anchor_at indexed_anchors i).place (indexed_anchor_at indexed_anchors j).place = f.6 ∙ between i j hi hj in
                  inr (subst (λ (z : Link). InNest anchors z) (sym is) (leaving_in_nest c (indexed_anchor_at indexed_anchors i).place (indexed_anchor_at indexed_anchors j).place (are.within i hi) (are.within j hj)
                  (sym (label_is i hi) ∙ f.4) (λ e. f.5 (label_is j hj ∙ e)) (leaving_least c i j kept hc hi hj f.6)))
            ]
          ])

      -- where each is idle, nothing leaves a label
      idle_is_none : ((k : ℕ) → k < length best → IsIdle anchors labels (best_at best k)) → (c : ℕ) → c < length best → best_at best c ≡ no_link
      idle_is_none idle c hc = elim (b.choice c hc) [
        | inl e ↦ e
        | inr f ↦
            let i = f.0 in
            let j = f.1 in
            let hi : i < length indexed_anchors = f.2 in
            let hj : j < length indexed_anchors = f.3 in
            let is : best_at best c ≡ link_at anchors (indexed_anchor_at indexed_anchors i).place (indexed_anchor_at indexed_anchors j).place = f.6 ∙ between i j hi hj in
            absurd (elim (idle c hc) [
              | inl e ↦ omega (arith, e, ap (λ (z : Link). z.square) f.6, short i j hi hj)
              | inr e ↦
                  let same : IsJoining anchors labels (link_at anchors (indexed_anchor_at indexed_anchors i).place (indexed_anchor_at indexed_anchors j).place) = subst (λ (z : Link). IsJoining anchors labels z) is e in
                  let li : label_at labels (group_at anchors (indexed_anchor_at indexed_anchors i).place) ≡ c = sym (label_is i hi) ∙ f.4 in
                  let lj : label_at labels (group_at anchors (indexed_anchor_at indexed_anchors j).place) ≢ c = λ q. f.5 (label_is j hj ∙ q) in
                  elim (ends_of anchors (indexed_anchor_at indexed_anchors i).place (indexed_anchor_at indexed_anchors j).place) [
                    | inl q ↦ lj (sym (ap (λ z. label_at labels (group_at anchors z)) q.1) ∙ sym same ∙ ap (λ z. label_at labels (group_at anchors z)) q.0 ∙ li)
                    | inr q ↦ lj (sym (ap (λ z. label_at labels (group_at anchors z)) q.0) ∙ same ∙ ap (λ z. label_at labels (group_at anchors z)) q.1 ∙ li)
                  ]
            ])
      ]

      -- then nothing has another label than an anchor whose label is not passed over
      idle_is_whole : ((k : ℕ) → k < length best → IsIdle anchors labels (best_at best k)) → (u v : ℕ) → u < length indexed_anchors → v < length indexed_anchors →
          label_of labels (indexed_anchor_at indexed_anchors u) < length best → label_of labels (indexed_anchor_at indexed_anchors u) ≢ skipped → label_of labels (indexed_anchor_at indexed_anchors v) ≢ label_of labels (indexed_anchor_at indexed_anchors u) → ⊥
      idle_is_whole idle u v hu hv fits kept apart =
          shorter_than_none u v hu hv (subst (λ (z : Link). rank z ≤ rank (link_between (indexed_anchor_at indexed_anchors u) (indexed_anchor_at indexed_anchors v))) (idle_is_none idle (label_of labels (indexed_anchor_at indexed_anchors u)) fits)
          (b.least u v hu hv kept apart))

      pub idle_is_one : GroupsOccur anchors → length labels ≡ group_count anchors → length best ≡ length labels → ((g : ℕ) → g < length labels → label_at labels g < length labels) →
          ((k : ℕ) → k < length best → IsIdle anchors labels (best_at best k)) → AreOne labels
      idle_is_one occur count len below idle g h hg hh = elim (cases_eq (label_at labels g) (label_at labels h)) [
        | inl e ↦ e
        | inr n ↦
            let p = occur g (omega (arith, count)) in
            let q = occur h (omega (arith, count)) in
            let u = are.whole p.0 p.1 in
            let v = are.whole q.0 q.1 in
            let lu : label_of labels (indexed_anchor_at indexed_anchors u.0) ≡ label_at labels g = label_is u.0 u.1 ∙ ap (λ z. label_at labels (group_at anchors z)) u.2 ∙ ap (label_at labels) p.2 in
            let lv : label_of labels (indexed_anchor_at indexed_anchors v.0) ≡ label_at labels h = label_is v.0 v.1 ∙ ap (λ z. label_at labels (group_at anchors z)) v.2 ∙ ap (label_at labels) q.2 in
            absurd (elim (cases_eq (label_at labels g) skipped) [
              | inl s ↦ idle_is_whole idle v.0 u.0 v.1 u.1 (omega (arith, lv, below h hh, len)) (λ e. n (s ∙ sym e ∙ lv)) (λ e. n (sym lu ∙ e ∙ lv))
              | inr s ↦ idle_is_whole idle u.0 v.0 u.1 v.1 (omega (arith, lu, below g hg, len)) (λ e. s (sym lu ∙ e)) (λ e. n (sym lu ∙ sym e ∙ lv))
            ])
      ]
