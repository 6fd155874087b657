-- Tests of lists of anchors.
use Rattle.std.proofs.Common.{ℕ, ◌+◌, ◌-◌, ◌<◌, List, inl, inr, sym, subst, arith}
use Rattle.std.proofs.lemmas.Bool.{cases_order}
use Rattle.ratsnest.specs.declared.anchor.Anchor.{Anchor}
use Rattle.ratsnest.specs.NestOf.{anchor_at, IsBefore}

-- the anchors before this place rise
abbrev pub RiseTo : List Anchor → ℕ → Type 0
RiseTo anchors n = (i j : ℕ) → i < j → j < n → IsBefore (anchor_at anchors i) (anchor_at anchors j)

before_both : (a b c : Anchor) → IsBefore a b → IsBefore b c → IsBefore a c
before_both a b c (inl p) (inl q) = inl (omega arith)
before_both a b c (inl p) (inr q) = inl (let e = q.0 in omega arith)
before_both a b c (inr p) (inl q) = inl (let e = p.0 in omega arith)
before_both a b c (inr p) (inr q) = let e = p.0 in let f = q.0 in let lt = p.1 in let more = q.1 in inr (omega arith, omega arith)

pub rise_first : (anchors : List Anchor) → RiseTo anchors 1
rise_first anchors i j lt past = absurd (omega arith)

pub rise_next : (anchors : List Anchor) (n : ℕ) → 0 < n → RiseTo anchors n → IsBefore (anchor_at anchors (n - 1)) (anchor_at anchors n) → RiseTo anchors (n + 1)
rise_next anchors n some up next i j lt past = elim (cases_order j n) [
  | inr (inl less) ↦ up i j lt less
  | inr (inr more) ↦ absurd (omega arith)
  | inl same ↦ subst (λ k. IsBefore (anchor_at anchors i) (anchor_at anchors k)) (sym same) (elim (cases_order i (n - 1)) [
    | inl e ↦ subst (λ k. IsBefore (anchor_at anchors k) (anchor_at anchors n)) (sym e) next
    | inr (inl less) ↦ before_both (anchor_at anchors i) (anchor_at anchors (n - 1)) (anchor_at anchors n) (up i (n - 1) less (omega arith)) next
    | inr (inr more) ↦ absurd (omega arith)
  ])
]

-- a number more
pub all_to : (P : ℕ → Type 0) (n : ℕ) → ((k : ℕ) → k < n → P k) → P n → (k : ℕ) → k < n + 1 → P k
all_to P n before here k lt = elim (cases_order k n) [
  | inl same ↦ subst P (sym same) here
  | inr (inl less) ↦ before k less
  | inr (inr more) ↦ absurd (omega arith)
]
