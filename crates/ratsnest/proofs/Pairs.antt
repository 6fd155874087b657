-- The links of all pairs of places, as they are found.
use Rattle.std.proofs.Common.{◌≡◌, ◌≢◌, ℕ, ◌+◌, ◌≤◌, ◌<◌, List, [], ◌∷◌, ◌++◌, length, inl, inr, sym, ◌∙◌, ap, ap₂, subst, arith}
use Rattle.std.proofs.lemmas.Bool.{cases_eq}
use Rattle.ratsnest.specs.declared.anchor.Anchor.{Anchor}
use Rattle.ratsnest.specs.declared.link.Link.{Link}
use Rattle.ratsnest.specs.Mem.{Mem}
use Rattle.ratsnest.specs.NestOf.{group_at, IsLink}
use Rattle.ratsnest.specs.Grow.{link_at}
use Rattle.ratsnest.proofs.Members.{Mem-append_left, Mem-append_right, Mem-append_cases}
use Rattle.ratsnest.proofs.Order.{link_at_is, IsLink-at}

-- the links whose second place is below j, and those of j whose first place is below i
pub record HasLinks (anchors : List Anchor) (links : List Link) (j i : ℕ) : Type 0 where
  pub sound : (e : Link) → Mem e links → IsLink anchors e
  pub whole : (e : Link) → IsLink anchors e → e.second < j → Mem e links
  pub more : (e : Link) → IsLink anchors e → e.second ≡ j → e.first < i → Mem e links

pub has_more : (anchors : List Anchor) (links : List Link) (j i : ℕ) (l : Link) → HasLinks anchors links j i → i < j → j < length anchors →
    l ≡ link_at anchors i j → group_at anchors i ≢ group_at anchors j → HasLinks anchors (links ++ l ∷ []) j (i + 1)
has_more anchors links j i l h lt within is apart = record {
  sound = λ e m. elim (Mem-append_cases links (l ∷ []) e m) [
    | inl q ↦ h.sound e q
    | inr q ↦ elim q [ inl r ↦ subst (IsLink anchors) (sym (r ∙ is)) (IsLink-at anchors i j (omega arith) within apart) | inr r ↦ absurd r ]
  ];
  whole = λ e k s. Mem-append_left links (l ∷ []) e (h.whole e k s);
  more = λ e k s f. elim (cases_eq e.first i) [
    | inl q ↦ Mem-append_right links (l ∷ []) e (inl (sym (link_at_is anchors e k) ∙ ap₂ (link_at anchors) q s ∙ sym is))
    | inr n ↦ Mem-append_left links (l ∷ []) e (h.more e k s (omega arith))
  ];
}

pub has_same : (anchors : List Anchor) (links : List Link) (j i : ℕ) → HasLinks anchors links j i → group_at anchors i ≡ group_at anchors j → HasLinks anchors links j (i + 1)
has_same anchors links j i h same = record {
  sound = h.sound;
  whole = h.whole;
  more = λ e k s f. elim (cases_eq e.first i) [
    | inl q ↦ absurd (k.apart (ap (group_at anchors) q ∙ same ∙ sym (ap (group_at anchors) s)))
    | inr n ↦ h.more e k s (omega arith)
  ];
}

pub has_row : (anchors : List Anchor) (links : List Link) (j i : ℕ) → j ≤ i → HasLinks anchors links j i → HasLinks anchors links (j + 1) 0
has_row anchors links j i le h = record {
  sound = h.sound;
  whole = λ e k s. elim (cases_eq e.second j) [
    | inl q ↦ let o : e.first < e.second = k.in_order in h.more e k q (omega arith)
    | inr n ↦ h.whole e k (omega arith)
  ];
  more = λ e k s f. absurd (omega arith);
}

pub has_none : (anchors : List Anchor) → HasLinks anchors [] 0 0
has_none anchors = record { sound = λ e m. absurd m; whole = λ e k s. absurd (omega arith); more = λ e k s f. absurd (omega arith) }
