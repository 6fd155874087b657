use Rattle.std.proofs.Common.{◌≡◌, ◌⊎◌, inl, inr, ◌∙◌, sym, subst, ℕ, ◌+◌, ◌-◌, ◌*◌, ◌<◌, ◌≤◌, List, ◌++◌, slice_index_or, replicate, arith}
use Rattle.std.proofs.lemmas.Bool.{cases_lt}
use Rattle.std.proofs.lemmas.List.{get_or_append_left, get_or-append_right, get_or-replicate, length-append, length-replicate}
use Rattle.box_index.specs.AreaWalks.{IsFilled}
use Rattle.box_index.proofs.fills.filled.Goals as goal

module _ {X : Type 0} (n k : ℕ) (x : X) (xs : List X) (h : IsFilled n x xs) where
  each_at : (i : ℕ) (d : X) → i < n + k → (i < n) ⊎ (n ≤ i) → slice_index_or (xs ++ replicate k x) i d ≡ x
  each_at i d l (inl low) = get_or_append_left xs (replicate k x) d i (let e = h.long in omega (arith, e, low)) ∙ h.each i d low
  each_at i d l (inr high) = get_or-append_right xs (replicate k x) n i d h.long high ∙ get_or-replicate k (i - n) x d (omega arith)

  row_more : IsFilled (n + k) x (xs ++ replicate k x)
  row_more = record {
    long = let e = h.long in let both = length-append xs (replicate k x) in let row = length-replicate k x in omega (arith, e, both, row);
    each = λ i d l. each_at i d l (cases_lt i n);
  }

pub loop-preserved : goal.loop-preserved
loop-preserved g c =
    let n = c.loop.counter * 125 in
    let more : n + 125 ≡ (c.loop.counter + 1) * 125 = omega arith in
    subst (λ m. IsFilled m c.args.value c.extend_from_slice.new.self.items) more
    (subst (λ vs. IsFilled (n + 125) c.args.value vs) (sym c.in_ok-extend_from_slice.ensures.items) (row_more n 125 c.args.value c.loop.values.items c.loop.invariant))
