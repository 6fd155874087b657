-- On parts of the tree, and on the least links to their anchors.
use Rattle.std.proofs.Common.{◌≡◌, ◌≢◌, ◌+◌, ◌*◌, ◌≤◌, ◌<◌, ℕ, List, length, get_or, set, replicate, Option, Some, None, IfSome, inl, inr, refl, sym, ◌∙◌, ap, subst, arith}
use Rattle.std.proofs.lemmas.Bool.{cases_lt, cases_eq}
use Rattle.std.proofs.lemmas.List.{get_or-set_same, get_or-set_other, get_or-replicate, get_or_past, length-set, length-replicate}
use Rattle.ratsnest.specs.declared.anchor.Anchor.{Anchor}
use Rattle.ratsnest.specs.declared.link.Link.{Link}
use Rattle.ratsnest.specs.declared.indexed_anchor.IndexedAnchor.{IndexedAnchor}
use Rattle.ratsnest.specs.declared.tree.Part.{Part}
use Rattle.ratsnest.specs.declared.tree.Node.{Node}
use Rattle.ratsnest.specs.NestOf.{square_of}
use Rattle.ratsnest.specs.Grow.{rank}
use Rattle.ratsnest.specs.Forest.{link_between, indexed_anchor_at, label_of, IsDrawn, IsLinkInside, IsNode, AreNodes, AreHalves, IsNamed, AreNames, IsPassed, IsLooked, AreBestTo, best_at, no_link}
use Rattle.ratsnest.proofs.IndexedAnchors.{farther_is_more}

pub halves_back : (part a b : Part) → AreHalves part a b → AreHalves part b a
halves_back part a b h = record {
  whole = λ i lo hi. elim (h.whole i lo hi) [ inl p ↦ inr p | inr p ↦ inl p ];
  a_within = h.b_within;
  b_within = h.a_within;
  a_less = h.b_less;
  b_less = h.a_less;
}

module _ (indexed_anchors : List IndexedAnchor) (labels : List ℕ) where
  IsNamed-both : (low mid high c : ℕ) → IsNamed indexed_anchors labels low mid c → IsNamed indexed_anchors labels mid high c → IsNamed indexed_anchors labels low high c
  IsNamed-both low mid high c a b = record { each = λ i lo hi h. elim (cases_lt i mid) [ inl l ↦ a.each i lo l h | inr g ↦ b.each i (omega arith) hi h ] }

  pub named_of_both : (nodes : List Node) (names : List (Option ℕ)) → AreNames indexed_anchors labels nodes names → (node left right name : ℕ) (w a b : Node) →
      left < length nodes → right < length nodes → ((d : Node) → get_or nodes node d ≡ w) → ((d : Node) → get_or nodes left d ≡ a) → ((d : Node) → get_or nodes right d ≡ b) →
      get_or names left None ≡ Some name → get_or names right None ≡ Some name → a.low ≡ w.low → a.high ≡ b.low → b.high ≡ w.high →
      (d : Node) → IsNamed indexed_anchors labels (get_or nodes node d).low (get_or nodes node d).high name
  named_of_both nodes names are node left right name w a b hl hr wi ai bi nl nr low mid high d =
      let p : IsNamed indexed_anchors labels a.low a.high name = subst (λ (n : Node). IsNamed indexed_anchors labels n.low n.high name) (ai d) (are left name d hl nl) in
      let q : IsNamed indexed_anchors labels b.low b.high name = subst (λ (n : Node). IsNamed indexed_anchors labels n.low n.high name) (bi d) (are right name d hr nr) in
      let p' : IsNamed indexed_anchors labels w.low b.low name = subst (λ z. IsNamed indexed_anchors labels z b.low name) low (subst (λ z. IsNamed indexed_anchors labels a.low z name) mid p) in
      let q' : IsNamed indexed_anchors labels b.low w.high name = subst (λ z. IsNamed indexed_anchors labels b.low z name) high q in
      subst (λ (n : Node). IsNamed indexed_anchors labels n.low n.high name) (sym (wi d)) (IsNamed-both w.low b.low w.high name p' q')

  -- all anchors of the part have the label
  pub passed_named : (nodes : List Node) (names : List (Option ℕ)) → AreNames indexed_anchors labels nodes names → (s : IndexedAnchor) (k own low high : ℕ) (n : Node) (best : Link) →
      k < length nodes → ((d : Node) → get_or nodes k d ≡ n) → n.low ≡ low → n.high ≡ high → get_or names k None ≡ Some own → IsPassed indexed_anchors labels s own low high best
  passed_named nodes names are s k own low high n best h is lo hi name = record {
    not_others = λ i a b l other.
        let e : IsNamed indexed_anchors labels n.low n.high own = subst (λ (z : Node). IsNamed indexed_anchors labels z.low z.high own) (is n) (are k own n h name) in
        absurd (other (e.each i (omega (arith, lo, hi)) (omega (arith, lo, hi)) l));
  }

  -- the area of the part is too far
  pub passed_far : (nodes : List Node) → AreNodes indexed_anchors nodes → (s : IndexedAnchor) (k own low high far : ℕ) (n : Node) (best : Link) →
      k < length nodes → ((d : Node) → get_or nodes k d ≡ n) → n.low ≡ low → n.high ≡ high →
      ((a : Anchor) → IsLinkInside n.area a → far ≤ square_of s.anchor a) → rank best < far * 18446744073709551616 → IsPassed indexed_anchors labels s own low high best
  passed_far nodes are s k own low high far n best h is lo hi least less = record {
    not_others = λ i a b l other.
        let e : IsNode indexed_anchors n = subst (λ (z : Node). IsNode indexed_anchors z) (is n) (are k n h) in
        farther_is_more best s (indexed_anchor_at indexed_anchors i) far (least (indexed_anchor_at indexed_anchors i).anchor (e.inside i (omega (arith, lo, hi)) (omega (arith, lo, hi)) l)) less;
  }

  module _ (s : IndexedAnchor) (own : ℕ) where
    pub looked_none : (low high : ℕ) (best : Link) → IsPassed indexed_anchors labels s own low high best → IsLooked indexed_anchors labels s own low high best best
    looked_none low high best p = record { choice = inl refl; not_old = omega arith; passed = p }

    pub passed_none : (low : ℕ) (best : Link) → IsPassed indexed_anchors labels s own low low best
    passed_none low best = record { not_others = λ i a b l other. absurd (omega arith) }

    pub looked_own : (low i : ℕ) (old new : Link) → label_of labels (indexed_anchor_at indexed_anchors i) ≡ own → IsLooked indexed_anchors labels s own low i old new → IsLooked indexed_anchors labels s own low (i + 1) old new
    looked_own low i old new same k = record {
      choice = k.choice;
      not_old = k.not_old;
      passed = record {
        not_others = λ j a b l other. elim (cases_eq j i) [
          | inl e ↦ absurd (other (ap (λ z. label_of labels (indexed_anchor_at indexed_anchors z)) e ∙ same))
          | inr n ↦ k.passed.not_others j a (omega arith) l other
        ];
      };
    }

    pub looked_drawn : (low i : ℕ) (old mid new : Link) → i < length indexed_anchors → label_of labels (indexed_anchor_at indexed_anchors i) ≢ own → IsLooked indexed_anchors labels s own low i old mid →
        IsDrawn s (indexed_anchor_at indexed_anchors i) mid new → IsLooked indexed_anchors labels s own low (i + 1) old new
    looked_drawn low i old mid new h other k d = record {
      choice = elim d.choice [
        | inl e ↦ elim k.choice [ inl f ↦ inl (e ∙ f) | inr f ↦ inr (f.0, f.1, f.2, e ∙ f.3) ]
        | inr e ↦ inr (i, h, other, e)
      ];
      not_old = omega (arith, d.not_old, k.not_old);
      passed = record {
        not_others = λ j a b l ot. elim (cases_eq j i) [
          | inl e ↦ subst (λ z. rank new ≤ rank (link_between s (indexed_anchor_at indexed_anchors z))) (sym e) d.not_other
          | inr n ↦ omega (arith, d.not_old, k.passed.not_others j a (omega arith) l ot)
        ];
      };
    }

    pub looked_both : (part a b : Part) → AreHalves part a b → (old mid new : Link) → IsLooked indexed_anchors labels s own a.low a.high old mid →
        IsLooked indexed_anchors labels s own b.low b.high mid new → IsLooked indexed_anchors labels s own part.low part.high old new
    looked_both part a b halves old mid new p q = record {
      choice = elim q.choice [
        | inl e ↦ elim p.choice [ inl f ↦ inl (e ∙ f) | inr f ↦ inr (f.0, f.1, f.2, e ∙ f.3) ]
        | inr e ↦ inr e
      ];
      not_old = omega (arith, q.not_old, p.not_old);
      passed = record {
        not_others = λ i lo hi l other. elim (halves.whole i lo hi) [
          | inl h ↦ omega (arith, q.not_old, p.passed.not_others i h.0 h.1 l other)
          | inr h ↦ q.passed.not_others i h.0 h.1 l other
        ];
      };
    }

  -- a name more
  pub names_set : (nodes : List Node) (names : List (Option ℕ)) → AreNames indexed_anchors labels nodes names → (k : ℕ) (name : Option ℕ) → k < length names →
      ((c : ℕ) → name ≡ Some c → (d : Node) → IsNamed indexed_anchors labels (get_or nodes k d).low (get_or nodes k d).high c) → AreNames indexed_anchors labels nodes (set names k name)
  names_set nodes names are k name h new j c d l is = elim (cases_eq j k) [
    | inl e ↦
        let n : name ≡ Some c = sym (get_or-set_same names k name None h) ∙ ap (λ z. get_or (set names k name) z None) (sym e) ∙ is in
        subst (λ z. IsNamed indexed_anchors labels (get_or nodes z d).low (get_or nodes z d).high c) (sym e) (new c n d)
    | inr n ↦ are j c d l (sym (get_or-set_other names k j name None n) ∙ is)
  ]

  pub names_none : (nodes : List Node) (n : ℕ) → AreNames indexed_anchors labels nodes (replicate n None)
  names_none nodes n k c d h is = elim (cases_lt k n) [
    | inl l ↦ let e : Some c ≡ None = sym is ∙ get_or-replicate n k None None l in absurd cc
    | inr g ↦ let e : Some c ≡ None = sym is ∙ get_or_past (replicate n None) k None (omega (arith, length-replicate {A = Option ℕ} n None)) in absurd cc
  ]

  -- one anchor more
  pub best_more : (skipped i own : ℕ) (best : List Link) (new : Link) → i < length indexed_anchors → own ≡ label_of labels (indexed_anchor_at indexed_anchors i) → own < length best → own ≢ skipped →
      AreBestTo indexed_anchors labels skipped i best → IsLooked indexed_anchors labels (indexed_anchor_at indexed_anchors i) own 0 (length indexed_anchors) (best_at best own) new → AreBestTo indexed_anchors labels skipped (i + 1) (set best own new)
  best_more skipped i own best new hi is ho kept b k = record {
    none = get_or-set_other best own skipped new no_link (λ q. kept (sym q)) ∙ b.none;
    choice = λ c h. elim (cases_eq c own) [
      | inl e ↦
          let at : best_at (set best own new) c ≡ new = ap (best_at (set best own new)) e ∙ get_or-set_same best own new no_link ho in
          elim k.choice [
            | inl o ↦ elim (b.choice own ho) [
              | inl f ↦ inl (at ∙ o ∙ f)
              | inr f ↦ inr (f.0, f.1, f.2, f.3, f.4 ∙ sym e, (λ q. f.5 (q ∙ e)), at ∙ o ∙ f.6)
            ]
            | inr o ↦ inr (i, o.0, hi, o.1, sym is ∙ sym e, (λ q. o.2 (q ∙ e)), at ∙ o.3)
          ]
      | inr n ↦
          let at : best_at (set best own new) c ≡ best_at best c = get_or-set_other best own c new no_link n in
          elim (b.choice c (omega (arith, h, length-set best own new))) [
            | inl f ↦ inl (at ∙ f)
            | inr f ↦ inr (f.0, f.1, f.2, f.3, f.4, f.5, at ∙ f.6)
          ]
    ];
    least = λ p j hp hj far other.
        let own_at : best_at (set best own new) own ≡ new = get_or-set_same best own new no_link ho in
        elim (cases_eq (label_of labels (indexed_anchor_at indexed_anchors p)) own) [
          | inl e ↦
              let at : best_at (set best own new) (label_of labels (indexed_anchor_at indexed_anchors p)) ≡ new = ap (best_at (set best own new)) e ∙ own_at in
              subst (λ (z : Link). rank z ≤ rank (link_between (indexed_anchor_at indexed_anchors p) (indexed_anchor_at indexed_anchors j))) (sym at) (elim (cases_eq p i) [
                | inl q ↦ subst (λ z. rank new ≤ rank (link_between (indexed_anchor_at indexed_anchors z) (indexed_anchor_at indexed_anchors j))) (sym q) (k.passed.not_others j (omega arith) hj hj (λ z. other (z ∙ sym e)))
                | inr q ↦
                    let was : rank (best_at best (label_of labels (indexed_anchor_at indexed_anchors p))) ≤ rank (link_between (indexed_anchor_at indexed_anchors p) (indexed_anchor_at indexed_anchors j)) = b.least p j (omega arith) hj far other in
                    let was' : rank (best_at best own) ≤ rank (link_between (indexed_anchor_at indexed_anchors p) (indexed_anchor_at indexed_anchors j)) =
                    subst (λ z. rank (best_at best z) ≤ rank (link_between (indexed_anchor_at indexed_anchors p) (indexed_anchor_at indexed_anchors j))) e was in
                    omega (arith, k.not_old, was')
              ])
          | inr n ↦
              let at : best_at (set best own new) (label_of labels (indexed_anchor_at indexed_anchors p)) ≡ best_at best (label_of labels (indexed_anchor_at indexed_anchors p)) =
              get_or-set_other best own (label_of labels (indexed_anchor_at indexed_anchors p)) new no_link n in
              subst (λ (z : Link). rank z ≤ rank (link_between (indexed_anchor_at indexed_anchors p) (indexed_anchor_at indexed_anchors j))) (sym at) (elim (cases_eq p i) [
                | inl q ↦ absurd (n (ap (λ z. label_of labels (indexed_anchor_at indexed_anchors z)) q ∙ sym is))
                | inr q ↦ b.least p j (omega arith) hj far other
              ])
        ];
  }

  -- an anchor more that has the label that is passed over
  pub best_same : (skipped i : ℕ) (best : List Link) → label_of labels (indexed_anchor_at indexed_anchors i) ≡ skipped → AreBestTo indexed_anchors labels skipped i best → AreBestTo indexed_anchors labels skipped (i + 1) best
  best_same skipped i best is b = record {
    none = b.none;
    choice = b.choice;
    least = λ p j hp hj far other. elim (cases_eq p i) [
      | inl q ↦ absurd (far (ap (λ z. label_of labels (indexed_anchor_at indexed_anchors z)) q ∙ is))
      | inr q ↦ b.least p j (omega arith) hj far other
    ];
  }

  pub best_none : (skipped n : ℕ) (best : List Link) → best ≡ replicate n no_link → AreBestTo indexed_anchors labels skipped 0 best
  best_none skipped n best is =
      let each : (c : ℕ) → best_at best c ≡ no_link = λ c. elim (cases_lt c n) [
        | inl l ↦ ap (λ (z : List Link). best_at z c) is ∙ get_or-replicate n c no_link no_link l
        | inr g ↦ get_or_past best c no_link (omega (arith, ap length is, length-replicate n no_link))
      ] in
      record { none = each skipped; choice = λ c h. inl (each c); least = λ i j h k far other. absurd (omega arith) }

  -- what a name says
  pub named_some : (nodes : List Node) (k : ℕ) (name : Option ℕ) → IfSome name (λ c. (d : Node) → IsNamed indexed_anchors labels (get_or nodes k d).low (get_or nodes k d).high c) →
      (c : ℕ) → name ≡ Some c → (d : Node) → IsNamed indexed_anchors labels (get_or nodes k d).low (get_or nodes k d).high c
  named_some nodes k name h c e = subst (λ (z : Option ℕ). IfSome z (λ c. (d : Node) → IsNamed indexed_anchors labels (get_or nodes k d).low (get_or nodes k d).high c)) e h
