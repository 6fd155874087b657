-- An anchor that stands for another: of its group, at its point and no later in the list. Its links are never more.
use Rattle.std.proofs.Common.{◌≡◌, ℕ, ◌+◌, ◌≤◌, ◌<◌, min, max, List, [], ◌∷◌, ◌++◌, unsigned_abs, ◌-ℤ◌, ℤ, inl, inr, refl, sym, ◌∙◌, ap, subst, All, arith}
use Rattle.std.proofs.lemmas.Bool.{cases_lt}
use Rattle.std.proofs.lemmas.Int.{ints}
use Rattle.std.proofs.lemmas.List.Elements.{All-push, All-weaker, All-contains, Contains-append_left, Contains-push}
use Rattle.ratsnest.specs.declared.anchor.Anchor.{Anchor}
use Rattle.ratsnest.specs.declared.waiting.Waiting.{Waiting}
use Rattle.ratsnest.specs.NestOf.{anchor_at, group_at, square_of, square_between}
use Rattle.ratsnest.specs.Grow.{link_at, rank_at, StandsFor, IsFromFirst, IsLed, AreFirst}

gap_back : (a b : ℤ) → unsigned_abs (b -ℤ a) ≡ unsigned_abs (a -ℤ b)
gap_back a b = omega (arith, ints)

pub square_back : (a b : Anchor) → square_of b a ≡ square_of a b
square_back a b = rw (gap_back a.x b.x, gap_back a.y b.y) refl

module _ (anchors : List Anchor) where
  -- the square does not ask which place is lower
  square_either : (i k : ℕ) → square_between anchors (min i k) (max i k) ≡ square_of (anchor_at anchors i) (anchor_at anchors k)
  unfolding square_between
  square_either i k = elim (cases_lt i k) [
    | inl h ↦
        let lo : min i k ≡ i = omega arith in
        let hi : max i k ≡ k = omega arith in
        rw (lo, hi) refl
    | inr h ↦
        let lo : min i k ≡ k = omega arith in
        let hi : max i k ≡ i = omega arith in
        rw (lo, hi) (square_back (anchor_at anchors i) (anchor_at anchors k))
  ]

  pub no_less_from : (i j k : ℕ) → StandsFor anchors i j → rank_at anchors i k ≤ rank_at anchors j k
  unfolding link_at
  no_less_from i j k s =
      let indexed_anchor : square_of (anchor_at anchors i) (anchor_at anchors k) ≡ square_of (anchor_at anchors j) (anchor_at anchors k) = rw (s.x, s.y) refl in
      let same : square_between anchors (min i k) (max i k) ≡ square_between anchors (min j k) (max j k) = square_either i k ∙ indexed_anchor ∙ sym (square_either j k) in
      let lo : min i k ≤ min j k = omega (arith, s.lower) in
      let hi : max i k ≤ max j k = omega (arith, s.lower) in
      omega (arith, same, lo, hi)

  rank_back : (i k : ℕ) → rank_at anchors k i ≡ rank_at anchors i k
  unfolding link_at
  rank_back i k =
      let lo : min k i ≡ min i k = omega arith in
      let hi : max k i ≡ max i k = omega arith in
      rw (lo, hi) refl

  pub no_less_to : (i j k : ℕ) → StandsFor anchors i j → rank_at anchors k i ≤ rank_at anchors k j
  no_less_to i j k s = omega (arith, rank_back i k, rank_back j k, no_less_from i j k s)

  -- ---- what waits at first
  stands_self : (j : ℕ) → StandsFor anchors j j
  stands_self j = record { lower = omega arith; group = refl; x = refl; y = refl }

  pub first_none : AreFirst anchors 0 []
  first_none = record { each = λ k d h. absurd (omega arith); whole = λ j h. absurd (omega arith) }

  module _ (n : ℕ) (waiting : List Waiting) (are : AreFirst anchors n waiting) where
    each_next : All (λ (w : Waiting). (w.place < n + 1) × IsFromFirst anchors w.place w) waiting
    each_next =
        All-weaker (λ (w : Waiting). (w.place < n) × IsFromFirst anchors w.place w) (λ (w : Waiting). (w.place < n + 1) × IsFromFirst anchors w.place w)
        (λ w h. (omega (arith, h.0), h.1)) waiting are.each

    pub first_led : IsLed waiting (anchor_at anchors n) → AreFirst anchors (n + 1) waiting
    unfolding group_at
    first_led led =
        let lead : (led.lead.place < n) × IsFromFirst anchors led.lead.place led.lead =
        All-contains (λ (w : Waiting). (w.place < n) × IsFromFirst anchors w.place w) waiting led.lead are.each led.there in
        let at : led.lead.anchor ≡ anchor_at anchors led.lead.place = lead.1.anchor in
        record {
          each = each_next;
          whole = λ j h. elim (cases_lt j n) [
            | inl l ↦ are.whole j l
            | inr g ↦
                let e : n ≡ j = omega arith in (
                  led.lead,
                  led.there,
                  subst (StandsFor anchors led.lead.place) e (record {
                    lower = omega (arith, lead.0);
                    group = sym (ap (λ (a : Anchor). a.group) at) ∙ led.group;
                    x = sym (ap (λ (a : Anchor). a.x) at) ∙ led.x;
                    y = sym (ap (λ (a : Anchor). a.y) at) ∙ led.y;
                  }),
                )
          ];
        }

    pub first_more : (w : Waiting) → IsFromFirst anchors n w → AreFirst anchors (n + 1) (waiting ++ w ∷ [])
    first_more w first = record {
      each =
          All-push (λ (w : Waiting). (w.place < n + 1) × IsFromFirst anchors w.place w) waiting w each_next
          (omega (arith, first.place), subst (λ z. IsFromFirst anchors z w) (sym first.place) first);
      whole = λ j h. elim (cases_lt j n) [
        | inl l ↦ let was = are.whole j l in (was.0, Contains-append_left waiting (w ∷ []) was.0 was.1, was.2)
        | inr g ↦
            let e : w.place ≡ j = omega (arith, first.place) in
            (w, Contains-push waiting w, subst (λ z. StandsFor anchors z j) (sym e) (stands_self j))
      ];
    }
