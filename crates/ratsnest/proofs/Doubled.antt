-- An anchor at the point of another that stands at a lower place has no lesser link.
use Rattle.std.proofs.Common.{◌≡◌, ℕ, zero, suc, ◌+◌, ◌≤◌, ◌<◌, min, max, List, length, get_or, inl, inr, refl, sym, ◌∙◌, ap, subst, arith}
use Rattle.std.proofs.lemmas.Bool.{cases_eq}
use Rattle.ratsnest.specs.declared.waiting.Waiting.{Waiting}
use Rattle.ratsnest.specs.NestOf.{square_of}
use Rattle.ratsnest.specs.Grow.{rank, link_between, IsDrawn, IsDrawnToAll, IsDoubled, IsTold, IsDrawnToSome}
use Rattle.ratsnest.proofs.Waits.{same_between}

twin_is_less : (m n w : Waiting) → m.anchor.x ≡ n.anchor.x → m.anchor.y ≡ n.anchor.y → m.place < n.place →
    rank (link_between m w) ≤ rank (link_between n w)
unfolding link_between
twin_is_less m n w ex ey less =
    let s : square_of m.anchor w.anchor ≡ square_of n.anchor w.anchor = rw (ex, ey) refl in
    let lo : min m.place w.place ≤ min n.place w.place = omega (arith, less) in
    let hi : max m.place w.place ≤ max n.place w.place = omega (arith, less) in
    omega (arith, s, lo, hi)

pub told_drawn : (joined : List Waiting) (m old new : Waiting) → IsDrawn m old new → IsTold joined m old new
told_drawn joined m old new d = record { place = d.place; anchor = d.anchor; choice = d.choice; not_old = d.not_old; not_m = inl d.not_m }

pub told_doubled : (joined : List Waiting) (m old : Waiting) → IsDoubled joined m → IsTold joined m old old
told_doubled joined m old t = record { place = refl; anchor = refl; choice = inl refl; not_old = omega arith; not_m = inr t }

pub some_none : (joined : List Waiting) (old : Waiting) → IsDrawnToSome joined 0 old old
some_none joined old = record { place = refl; anchor = refl; choice = inl refl; not_old = omega arith; not_others = λ k d h. absurd (omega arith) }

-- one more of the list
pub some_more : (joined : List Waiting) (i : ℕ) (m old mid new : Waiting) → i < length joined → ((d : Waiting) → m ≡ get_or joined i d) →
    IsDrawnToSome joined i old mid → IsTold joined m mid new → IsDrawnToSome joined (i + 1) old new
some_more joined i m old mid new h is d e =
    let same : link_between m mid ≡ link_between m old = same_between m old mid d.place d.anchor in
    record {
      place = e.place ∙ d.place;
      anchor = e.anchor ∙ d.anchor;
      choice = elim e.choice [
        | inl q ↦ elim d.choice [
          | inl r ↦ inl (q ∙ r)
          | inr r ↦ inr (r.0, r.1, q ∙ r.2)
        ]
        | inr q ↦ inr (m, (i, h, sym (is m)), q ∙ same)
      ];
      not_old = omega (arith, e.not_old, d.not_old);
      not_others = λ k x l. elim (cases_eq k i) [
        | inl s ↦
            let at : m ≡ get_or joined k x = is x ∙ sym (ap (λ z. get_or joined z x) s) in
            elim e.not_m [
              | inl f ↦ inl (subst (λ (z : Waiting). rank new.link ≤ rank (link_between z old)) at (rw same at f))
              | inr f ↦ inr (subst (λ (z : Waiting). IsDoubled joined z) at f)
            ]
        | inr n ↦ elim (d.not_others k x (omega arith)) [
          | inl f ↦ inl (omega (arith, e.not_old, f))
          | inr f ↦ inr f
        ]
      ];
    }

module _ (joined : List Waiting) (n : ℕ) (old new : Waiting) (whole : length joined ≤ n) (s : IsDrawnToSome joined n old new) where
  -- of twins the one at the least place has none, so its links were kept
  settled : (bound k : ℕ) (d : Waiting) → k < length joined → (get_or joined k d).place < bound → rank new.link ≤ rank (link_between (get_or joined k d) old)
  settled zero k d h l = absurd (omega arith)
  settled (suc bound) k d h l = elim (s.not_others k d (omega arith)) [
    | inl f ↦ f
    | inr t ↦
        let low : (get_or joined t.there.0 t.twin).place < bound = omega (arith, ap (λ (z : Waiting). z.place) t.there.2, t.lower, l) in
        let kept : rank new.link ≤ rank (link_between t.twin old) =
        subst (λ (z : Waiting). rank new.link ≤ rank (link_between z old)) t.there.2 (settled bound t.there.0 t.twin t.there.1 low) in
        omega (arith, kept, twin_is_less t.twin (get_or joined k d) old t.x t.y t.lower)
  ]

  pub some_all : IsDrawnToAll joined old new
  some_all = record {
    place = s.place;
    anchor = s.anchor;
    choice = s.choice;
    not_old = s.not_old;
    not_others = λ k d h. settled (suc (get_or joined k d).place) k d h (omega arith);
  }
