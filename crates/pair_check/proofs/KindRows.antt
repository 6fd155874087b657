-- Lists of rows that grow kind by kind.
use Rattle.std.proofs.Common.{◌≡◌, ◌⊎◌, inl, inr, refl, sym, ap, subst, ◌∙◌, ℕ, ◌+◌, ◌<◌, cond, ◌==◌, List, [], ◌∷◌, ◌++◌, get_or, Contains, arith}
use Rattle.std.proofs.lemmas.List.Elements.{All-push, Contains-append_left, Contains-append_right}
use Rattle.std.proofs.lemmas.List.Quantifiers.{all_pairs_push}
use Rattle.cond_lang.specs.declared.kind.Kind.{Kind}
use Rattle.cond_lang.specs.declared.kind.Kind.TheVariants.{Short, Clearance, HoleClearance, HoleToHole, EdgeClearance, CourtyardClearance, Keepout, TrackWidth, ViaDiameter, HoleSize, AnnularWidth, Disallow, PhysicalClearance, PhysicalHoleClearance, Assertion}
use Rattle.cond_lang.specs.CheckKinds.{kind_number}
use Rattle.pair_check.specs.PlainRow.{PlainRow}
use Rattle.pair_check.specs.Rows.{Before, AreRowsWhere}
use Rattle.pair_check.specs.Stages.{IsOfKind, IsBelow, AreRowsBelow}

-- ---- numbers of kinds

abbrev kind_at : ℕ → Kind
kind_at n =
    cond (n == 1) Short
    (cond (n == 2) Clearance
    (cond (n == 3) HoleClearance
    (cond (n == 4) HoleToHole
    (cond (n == 5) EdgeClearance
    (cond (n == 6) CourtyardClearance
    (cond (n == 7) Keepout
    (cond (n == 8) TrackWidth
    (cond (n == 9) ViaDiameter
    (cond (n == 10) HoleSize
    (cond (n == 11) AnnularWidth (cond (n == 12) Disallow (cond (n == 13) PhysicalClearance (cond (n == 14) PhysicalHoleClearance Assertion)))))))))))))

kind_back : (kind : Kind) → kind_at (kind_number kind) ≡ kind
kind_back Short = refl
kind_back Clearance = refl
kind_back HoleClearance = refl
kind_back HoleToHole = refl
kind_back EdgeClearance = refl
kind_back CourtyardClearance = refl
kind_back Keepout = refl
kind_back TrackWidth = refl
kind_back ViaDiameter = refl
kind_back HoleSize = refl
kind_back AnnularWidth = refl
kind_back Disallow = refl
kind_back PhysicalClearance = refl
kind_back PhysicalHoleClearance = refl
kind_back Assertion = refl

-- each kind has a number of its own
pub same_number : (k l : Kind) → kind_number k ≡ kind_number l → k ≡ l
same_number k l e = sym (kind_back k) ∙ ap kind_at e ∙ kind_back l

last_case : (m n : ℕ) → m < n + 1 → (m < n) ⊎ (m ≡ n)
last_case m n h = grind arith

module _ (Is : PlainRow → Type 0) (first second : ℕ) (ids : (row : PlainRow) → Is row → (row.first ≡ first) × (row.second ≡ second)) where
  below_more : (kind : Kind) (row : PlainRow) → IsBelow Is (kind_number kind) row → IsBelow Is (kind_number kind + 1) row
  below_more kind row h = let lt = h.below in record { is = h.is; below = omega arith }

  below_case : (kind : Kind) (row : PlainRow) → IsBelow Is (kind_number kind + 1) row → IsBelow Is (kind_number kind) row ⊎ IsOfKind Is kind row
  below_case kind row h = by (last_case (kind_number row.kind) (kind_number kind) h.below)
    where
      by : (kind_number row.kind < kind_number kind) ⊎ (kind_number row.kind ≡ kind_number kind) → IsBelow Is (kind_number kind) row ⊎ IsOfKind Is kind row
      by (inl lt) = inl (record { is = h.is; below = lt })
      by (inr e) = inr (record { is = h.is; kind_is = same_number row.kind kind e })

  -- a kind that is not broken
  pub without_row : (kind : Kind) (rows : List PlainRow) → ((row : PlainRow) → ¬ (IsOfKind Is kind row)) → AreRowsBelow Is (kind_number kind) rows → AreRowsBelow Is (kind_number kind + 1) rows
  without_row kind rows none r = record {
    ordered = r.ordered;
    only = λ n d h. below_more kind (get_or rows n d) (r.only n d h);
    all = λ row h. by row (below_case kind row h);
  }
    where
      by : (row : PlainRow) → IsBelow Is (kind_number kind) row ⊎ IsOfKind Is kind row → Contains rows row
      by row (inl h) = r.all row h
      by row (inr h) = absurd (none row h)

  -- a kind with its one row
  pub with_row : (kind : Kind) (rows : List PlainRow) (row : PlainRow) → IsOfKind Is kind row → ((other : PlainRow) → IsOfKind Is kind other → row ≡ other) → AreRowsBelow Is (kind_number kind) rows
      → AreRowsBelow Is (kind_number kind + 1) (rows ++ row ∷ [])
  with_row kind rows row is once r = record {
    ordered = all_pairs_push Before rows row r.ordered (λ k d h. before (get_or rows k d) (r.only k d h));
    only = All-push (IsBelow Is (kind_number kind + 1)) rows row (λ n d h. below_more kind (get_or rows n d) (r.only n d h)) own;
    all = λ other h. by other (below_case kind other h);
  }
    where
      number : kind_number row.kind ≡ kind_number kind
      number = ap kind_number is.kind_is

      own : IsBelow Is (kind_number kind + 1) row
      own = let e = number in record { is = is.is; below = omega arith }

      before : (other : PlainRow) → IsBelow Is (kind_number kind) other → Before other row
      before other h =
          let e = number in
          let p = ids other h.is in
          let q = ids row is.is in
          let lt = h.below in inr (inr (p.0 ∙ sym q.0, p.1 ∙ sym q.1, omega arith))

      by : (other : PlainRow) → IsBelow Is (kind_number kind) other ⊎ IsOfKind Is kind other → Contains (rows ++ row ∷ []) other
      by other (inl h) = Contains-append_left rows (row ∷ []) other (r.all other h)
      by other (inr h) = subst (Contains (rows ++ row ∷ [])) (once other h) (Contains-append_right rows (row ∷ []) row (0, omega arith, refl))

-- no rows of kinds with lesser numbers
pub no_rows : (Is : PlainRow → Type 0) (n : ℕ) → ((row : PlainRow) → ¬ (IsBelow Is n row)) → AreRowsBelow Is n []
no_rows Is n none = record { ordered = λ i j d lt h. absurd (omega arith); only = λ k d h. absurd (omega arith); all = λ row h. absurd (none row h) }

-- the same rows pass
pub passes : (P Q : PlainRow → Type 0) (rows : List PlainRow) → ((row : PlainRow) → P row → Q row) → ((row : PlainRow) → Q row → P row) → AreRowsWhere P rows → AreRowsWhere Q rows
passes P Q rows into back r = record { ordered = r.ordered; only = λ n d h. into (get_or rows n d) (r.only n d h); all = λ row h. r.all row (back row h) }
