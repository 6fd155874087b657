-- Whether links were added.
use Rattle.std.proofs.Common.{ℕ, ◌+◌, ◌≤◌, ◌<◌, List, length, inl, inr, refl, sym, ◌∙◌, subst, arith}
use Rattle.std.proofs.lemmas.Bool.{cases_eq}
use Rattle.ratsnest.specs.declared.anchor.Anchor.{Anchor}
use Rattle.ratsnest.specs.declared.link.Link.{Link}
use Rattle.ratsnest.specs.Forest.{best_at, IsIdle, HasGrown, HaveGrown}

-- what an index reads past the end
abbrev pub zero_link : Link
zero_link = record { first = 0; second = 0; square = 0 }

pub grown_none : (anchors : List Anchor) (best : List Link) (labels : List ℕ) (links : List Link) → HaveGrown anchors best 0 labels links labels links
grown_none anchors best labels links = inr (refl, refl, λ k h. absurd (omega arith))

pub grown_more : (anchors : List Anchor) (best : List Link) (n : ℕ) → n < length best → (labels : List ℕ) (links : List Link) (labels' : List ℕ) (links' : List Link)
    (labels'' : List ℕ) (links'' : List Link) → HaveGrown anchors best n labels links labels' links' → HasGrown anchors (best_at best n) labels' links' labels'' links'' →
    HaveGrown anchors best (n + 1) labels links labels'' links''
grown_more anchors best n hn labels links labels' links' labels'' links'' (inl a) (inl b) = inl (omega arith)
grown_more anchors best n hn labels links labels' links' labels'' links'' (inl a) (inr b) = inl (omega (arith, b.1))
grown_more anchors best n hn labels links labels' links' labels'' links'' (inr a) (inl b) = inl (omega (arith, a.1))
grown_more anchors best n hn labels links labels' links' labels'' links'' (inr a) (inr b) = inr (
  b.0 ∙ a.0,
  b.1 ∙ a.1,
  λ k h. elim (cases_eq k n) [
    | inl e ↦ subst (λ z. IsIdle anchors labels (best_at best z)) (sym e) (subst (λ z. IsIdle anchors z (best_at best n)) a.0 b.2)
    | inr ne ↦ a.2 k (omega arith)
  ],
)

pub grown_less : (anchors : List Anchor) (best : List Link) (m n : ℕ) → m ≤ n → (labels : List ℕ) (links : List Link) (labels' : List ℕ) (links' : List Link) →
    HaveGrown anchors best n labels links labels' links' → HaveGrown anchors best m labels links labels' links'
grown_less anchors best m n le labels links labels' links' (inl a) = inl a
grown_less anchors best m n le labels links labels' links' (inr a) = inr (a.0, a.1, λ k h. a.2 k (omega arith))
