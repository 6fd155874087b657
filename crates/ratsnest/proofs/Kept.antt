-- Each group stays among the members of its label.
use Rattle.std.proofs.Common.{◌≡◌, ◌≢◌, ℕ, ◌<◌, List, [], ◌∷◌, ◌++◌, length, get_or, set, Contains, inl, inr, refl, sym, ◌∙◌, ap, subst, arith}
use Rattle.std.proofs.lemmas.Bool.{cases_eq}
use Rattle.std.proofs.lemmas.List.{get_or-set_same, get_or-set_other, get_or_default, length-set}
use Rattle.std.proofs.lemmas.List.Elements.{Contains-get_or, Contains-append_left, Contains-append_right, Contains-append_cases}
use Rattle.ratsnest.specs.declared.joins.Members.{Members}
use Rattle.ratsnest.specs.Forest.{label_at, AreKept, IsRelabeled}

module _ (labels : List ℕ) (members : List Members) (kept : AreKept labels members) (a b : ℕ) (ha : a < length labels) (hb : b < length labels) (ne : a ≢ b)
    (d : Members) (moved : List ℕ) (is : (get_or members a d).groups.items ≡ moved) where
  moved_is : (k : ℕ) → k < length moved → (get_or moved k 0 < length labels) × (label_at labels (get_or moved k 0) ≡ a)
  moved_is k h = kept.back a (get_or moved k 0) d (omega (arith, kept.len)) (subst (λ (z : List ℕ). Contains z (get_or moved k 0)) (sym is) (Contains-get_or moved k 0 h))

  pub moved_fits : (k : ℕ) → k < length moved → get_or moved k 0 < length labels
  moved_fits k h = (moved_is k h).0

  has : (g : ℕ) → g < length labels → label_at labels g ≡ a → Contains moved g
  has g h e = subst (λ (z : List ℕ). Contains z g) is (subst (λ z. Contains (get_or members z d).groups.items g) e (kept.there g d h))

  pub relabeled : (labels' : List ℕ) → length labels' ≡ length labels → ((k : ℕ) → k < length moved → label_at labels' (get_or moved k 0) ≡ b) →
      ((g : ℕ) → ((k : ℕ) → k < length moved → get_or moved k 0 ≢ g) → label_at labels' g ≡ label_at labels g) → IsRelabeled a b labels labels'
  relabeled labels' len given others = record {
    moved = λ g h e.
        let c : Contains moved g = has g (omega (arith, h, len)) e in
        let at : get_or moved c.0 0 ≡ g = get_or_default moved c.0 0 g c.1 ∙ c.2 in
        subst (λ z. label_at labels' z ≡ b) at (given c.0 c.1);
    stays = λ g h n. others g (λ k hk e. n (subst (λ z. label_at labels z ≡ a) e (moved_is k hk).1));
  }

  pub kept_after : (labels' : List ℕ) → length labels' ≡ length labels → IsRelabeled a b labels labels' → (m n : Members) → m.groups.items ≡ [] →
      n.groups.items ≡ (get_or members b d).groups.items ++ moved → AreKept labels' (set (set members a m) b n)
  kept_after labels' len r m n none more =
      let fits_a : a < length members = omega (arith, kept.len) in
      let fits_b : b < length (set members a m) = omega (arith, kept.len, length-set members a m) in
      let at_b : (e : Members) → get_or (set (set members a m) b n) b e ≡ n = λ e. get_or-set_same (set members a m) b n e fits_b in
      let at_a : (e : Members) → get_or (set (set members a m) b n) a e ≡ m = λ e. get_or-set_other (set members a m) b a n e ne ∙ get_or-set_same members a m e fits_a in
      let at : (c : ℕ) (e : Members) → c ≢ a → c ≢ b → get_or (set (set members a m) b n) c e ≡ get_or members c e =
      λ c e p q. get_or-set_other (set members a m) b c n e q ∙ get_or-set_other members a c m e p in
      record {
        len = length-set (set members a m) b n ∙ length-set members a m ∙ kept.len ∙ sym len;
        below = λ g h. elim (cases_eq (label_at labels g) a) [
          | inl e ↦ omega (arith, r.moved g h e, len)
          | inr e ↦ omega (arith, r.stays g h e, kept.below g (omega (arith, h, len)), len)
        ];
        there = λ g e h.
            let hg : g < length labels = omega (arith, h, len) in
            elim (cases_eq (label_at labels g) a) [
              | inl q ↦
                  let w : (get_or (set (set members a m) b n) (label_at labels' g) e).groups.items ≡ (get_or members b d).groups.items ++ moved =
                  ap (λ z. (get_or (set (set members a m) b n) z e).groups.items) (r.moved g h q) ∙ ap (λ (z : Members). z.groups.items) (at_b e) ∙ more in
                  subst (λ (z : List ℕ). Contains z g) (sym w) (Contains-append_right (get_or members b d).groups.items moved g (has g hg q))
              | inr q ↦
                  let s : label_at labels' g ≡ label_at labels g = r.stays g h q in
                  elim (cases_eq (label_at labels g) b) [
                    | inl p ↦
                        let w : (get_or (set (set members a m) b n) (label_at labels' g) e).groups.items ≡ (get_or members b d).groups.items ++ moved =
                        ap (λ z. (get_or (set (set members a m) b n) z e).groups.items) (s ∙ p) ∙ ap (λ (z : Members). z.groups.items) (at_b e) ∙ more in
                        subst (λ (z : List ℕ). Contains z g) (sym w) (Contains-append_left (get_or members b d).groups.items moved g
                        (subst (λ z. Contains (get_or members z d).groups.items g) p (kept.there g d hg)))
                    | inr p ↦
                        let w : get_or (set (set members a m) b n) (label_at labels' g) e ≡ get_or members (label_at labels g) e =
                        ap (λ z. get_or (set (set members a m) b n) z e) s ∙ at (label_at labels g) e q p in
                        subst (λ (z : Members). Contains z.groups.items g) (sym w) (kept.there g e hg)
                  ]
            ];
        back = λ c g e hc has_g.
            let old_len : length (set (set members a m) b n) ≡ length members = length-set (set members a m) b n ∙ length-set members a m in
            elim (cases_eq c b) [
              | inl q ↦
                  let w : (get_or (set (set members a m) b n) c e).groups.items ≡ (get_or members b d).groups.items ++ moved =
                  ap (λ z. (get_or (set (set members a m) b n) z e).groups.items) q ∙ ap (λ (z : Members). z.groups.items) (at_b e) ∙ more in
                  elim (Contains-append_cases (get_or members b d).groups.items moved g (subst (λ (z : List ℕ). Contains z g) w has_g)) [
                    | inl p ↦
                        let k : (g < length labels) × (label_at labels g ≡ b) = kept.back b g d (omega (arith, kept.len)) p in
                        (omega (arith, k.0, len), r.stays g (omega (arith, k.0, len)) (λ z. ne (sym z ∙ k.1)) ∙ k.1 ∙ sym q)
                    | inr p ↦
                        let k : (g < length labels) × (label_at labels g ≡ a) = kept.back a g d fits_a (subst (λ (z : List ℕ). Contains z g) (sym is) p) in
                        (omega (arith, k.0, len), r.moved g (omega (arith, k.0, len)) k.1 ∙ sym q)
                  ]
              | inr q ↦ elim (cases_eq c a) [
                | inl p ↦
                    let w : (get_or (set (set members a m) b n) c e).groups.items ≡ [] =
                    ap (λ z. (get_or (set (set members a m) b n) z e).groups.items) p ∙ ap (λ (z : Members). z.groups.items) (at_a e) ∙ none in
                    let no : Contains [] g = subst (λ (z : List ℕ). Contains z g) w has_g in
                    absurd (omega (arith, no.1))
                | inr p ↦
                    let k : (g < length labels) × (label_at labels g ≡ c) = kept.back c g e (omega (arith, hc, old_len)) (subst (λ (z : Members). Contains z.groups.items g) (at c e p q) has_g) in
                    (omega (arith, k.0, len), r.stays g (omega (arith, k.0, len)) (λ z. p (sym k.1 ∙ z)) ∙ k.1)
              ]
            ];
      }

-- each group is the only member of its label
pub kept_own : (labels : List ℕ) (members : List Members) → length members ≡ length labels → ((g : ℕ) → g < length labels → get_or labels g 0 ≡ g) →
    ((g : ℕ) (d : Members) → g < length members → (get_or members g d).groups.items ≡ g ∷ []) → AreKept labels members
kept_own labels members len own only = record {
  len = len;
  below = λ g h. omega (arith, own g h);
  there = λ g d h. subst (λ z. Contains (get_or members z d).groups.items g) (sym (own g h))
      (subst (λ (z : List ℕ). Contains z g) (sym (only g d (omega (arith, len)))) (0, omega arith, refl));
  back = λ c g d h has_g.
      let one : Contains (c ∷ []) g = subst (λ (z : List ℕ). Contains z g) (only c d h) has_g in
      let zero_is : one.0 ≡ 0 = omega (arith, one.1) in
      let e : c ≡ g = subst (λ z. get_or (c ∷ []) z g ≡ g) zero_is one.2 in
      (omega (arith, len), own g (omega (arith, len)) ∙ sym e);
}
