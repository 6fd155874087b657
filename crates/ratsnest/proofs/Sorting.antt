-- A sorted list of links, each once, climbs.
use Rattle.std.proofs.Common.{◌≡◌, ℕ, ◌<◌, ◌⊎◌, Bool, true, false, ◌&&◌, nat_eq, List, [], ◌∷◌, inl, inr, refl, sym, ◌∙◌, ap₂, arith, Ordering, Less, Equal, Greater, nat_cmp, is_eq, eqb-true, IsPermutation, IsSorted}
use Rattle.std.specs.Ordering.{ordering_then, eq_by_cmp}
use Rattle.std.specs.Cmp.{IsTotalOrder, IsEquivalence}
use Rattle.std.specs.Cmp.{then_total, on_total, nat_cmp_total}
use Rattle.std.specs.List.{dedup, AllByRecursion}
use Rattle.std.specs.Cmp.Lexicographic.{pointwise}
use Rattle.std.proofs.Common.{true≢false}
use Rattle.std.specs.List.Sorted.{IsStrictlySortedBy}
use Rattle.std.proofs.lemmas.Bool.Decides.{nat_tests}
use Rattle.std.proofs.lemmas.List.Kept.{IsStrictlySortedBy-dedup, Contains-dedup, Contains-from_dedup}
use Rattle.std.proofs.lemmas.List.Sorted.{Contains-permutation, IsPermutation-sym}
use Rattle.std.proofs.lemmas.Bool.{and_parts}
use Rattle.std.specs.Cmp.{eq_by_cmp_equiv}
use Rattle.ratsnest.proofs.Order.{same_link}
use Rattle.ratsnest.specs.declared.link.Link.{Link}
use Rattle.ratsnest.specs.Mem.{Mem, AllAbove, Climbs}
use Rattle.ratsnest.specs.Grow.{rank}
use Rattle.ratsnest.proofs.Members.{Mem-from_contains, Contains-from_mem}

abbrev pub link_cmp : Link → Link → Ordering
link_cmp x y = ordering_then (nat_cmp x.square y.square) (ordering_then (nat_cmp x.first y.first) (nat_cmp x.second y.second))

abbrev pub link_eq : Link → Link → Bool
link_eq x y = nat_eq x.first y.first && (nat_eq x.second y.second && nat_eq x.square y.square)

link_total : IsTotalOrder link_cmp
link_total = then_total (on_total (λ (l : Link). l.square) nat_cmp_total) (then_total (on_total (λ (l : Link). l.first) nat_cmp_total) (on_total (λ (l : Link). l.second) nat_cmp_total))

nat_cmp_less : (a b : ℕ) → nat_cmp a b ≡ Less → a < b
nat_cmp_less a b h = grind (arith, nat_tests)

nat_cmp_equal : (a b : ℕ) → nat_cmp a b ≡ Equal → a ≡ b
nat_cmp_equal a b h = grind (arith, nat_tests)

nat_cmp_is_eq : (a b : ℕ) → nat_eq a b ≡ is_eq (nat_cmp a b)
nat_cmp_is_eq a b = grind (arith, nat_tests)

then_less : (o p : Ordering) → ordering_then o p ≡ Less → (o ≡ Less) ⊎ ((o ≡ Equal) × (p ≡ Less))
then_less Less p h = inl refl
then_less Equal p h = inr (refl, h)
then_less Greater p h = absurd cc

then_is_eq : (o p : Ordering) → is_eq (ordering_then o p) ≡ is_eq o && is_eq p
then_is_eq Less p = refl
then_is_eq Equal p = refl
then_is_eq Greater p = refl

turned : (a b c : Bool) → (b && (c && a)) ≡ (a && (b && c))
turned true true true = refl
turned true true false = refl
turned true false c = refl
turned false true true = refl
turned false true false = refl
turned false false c = refl

link_ties : (x y : Link) → link_eq x y ≡ eq_by_cmp link_cmp x y
link_ties x y =
    turned (nat_eq x.square y.square) (nat_eq x.first y.first) (nat_eq x.second y.second)
    ∙ ap₂ ◌&&◌ (nat_cmp_is_eq x.square y.square)
    (ap₂ ◌&&◌ (nat_cmp_is_eq x.first y.first) (nat_cmp_is_eq x.second y.second) ∙ sym (then_is_eq (nat_cmp x.first y.first) (nat_cmp x.second y.second)))
    ∙ sym (then_is_eq (nat_cmp x.square y.square) (ordering_then (nat_cmp x.first y.first) (nat_cmp x.second y.second)))

link_less : (x y : Link) → x.first < 4294967296 → x.second < 4294967296 → y.first < 4294967296 → y.second < 4294967296 → link_cmp x y ≡ Less → rank x < rank y
link_less x y a b c d h = elim (then_less (nat_cmp x.square y.square) (ordering_then (nat_cmp x.first y.first) (nat_cmp x.second y.second)) h) [
  | inl s ↦ omega (arith, nat_cmp_less x.square y.square s)
  | inr s ↦ elim (then_less (nat_cmp x.first y.first) (nat_cmp x.second y.second) s.1) [
    | inl f ↦ omega (arith, nat_cmp_equal x.square y.square s.0, nat_cmp_less x.first y.first f)
    | inr f ↦ omega (arith, nat_cmp_equal x.square y.square s.0, nat_cmp_equal x.first y.first f.0, nat_cmp_less x.second y.second f.1)
  ]
]

abbrev Fitting : List Link → Type 0
Fitting xs = (l : Link) → Mem l xs → (l.first < 4294967296) × (l.second < 4294967296)

above_from_less : (x : Link) (ys : List Link) → x.first < 4294967296 → x.second < 4294967296 → Fitting ys → AllByRecursion (λ y. link_cmp x y ≡ Less) ys → AllAbove rank (rank x) ys
above_from_less x [] a b f h = tt
above_from_less x (y ∷ ys) a b f h =
    let k : (y.first < 4294967296) × (y.second < 4294967296) = f y (inl refl) in
    (link_less x y a b k.0 k.1 h.0, above_from_less x ys a b (λ l m. f l (inr m)) h.1)

Climbs-from_strict : (xs : List Link) → Fitting xs → IsStrictlySortedBy link_cmp xs → Climbs rank xs
unfolding IsStrictlySortedBy
Climbs-from_strict [] f s = tt
Climbs-from_strict (x ∷ xs) f s =
    let k : (x.first < 4294967296) × (x.second < 4294967296) = f x (inl refl) in
    (above_from_less x xs k.0 k.1 (λ l m. f l (inr m)) s.0, Climbs-from_strict xs (λ l m. f l (inr m)) s.1)

eq_is_same : (x y : Link) → link_eq x y ≡ true → x ≡ y
eq_is_same x y h =
    let p : (nat_eq x.first y.first ≡ true) × ((nat_eq x.second y.second && nat_eq x.square y.square) ≡ true) = and_parts _ _ h in
    let q : (nat_eq x.second y.second ≡ true) × (nat_eq x.square y.square ≡ true) = and_parts _ _ p.1 in
    same_link x y (eqb-true x.square y.square q.1) (eqb-true x.first y.first p.0) (eqb-true x.second y.second q.0)

link_equiv : IsEquivalence link_eq
link_equiv =
    let e : IsEquivalence (eq_by_cmp link_cmp) = eq_by_cmp_equiv link_total in
    record {
      refl = λ x. link_ties x x ∙ e.refl x;
      symm = λ x y. link_ties x y ∙ e.symm x y ∙ sym (link_ties y x);
      congr = λ x y z h. link_ties x z ∙ e.congr x y z (sym (link_ties x y) ∙ h) ∙ sym (link_ties y z);
    }

module _ (xs ys : List Link) (moved : IsPermutation xs ys) where
  pub deduped_sound : (l : Link) → Mem l (dedup link_eq ys) → Mem l xs
  deduped_sound l m = Mem-from_contains xs l (Contains-permutation ys xs l (IsPermutation-sym xs ys moved) (Contains-from_dedup link_eq ys l (Contains-from_mem (dedup link_eq ys) l m)))

  pub deduped_whole : (l : Link) → Mem l xs → Mem l (dedup link_eq ys)
  deduped_whole l m = Mem-from_contains (dedup link_eq ys) l (Contains-dedup link_equiv eq_is_same ys l (Contains-permutation xs ys l moved (Contains-from_mem xs l m)))

  pub deduped_climbs : Fitting xs → IsSorted link_cmp ys → Climbs rank (dedup link_eq ys)
  deduped_climbs f s = Climbs-from_strict (dedup link_eq ys) (λ l m. f l (deduped_sound l m)) (IsStrictlySortedBy-dedup link_total link_ties ys s)

-- what `==` answers at lists of links
pub same_links_from : (xs ys : List Link) → pointwise link_eq xs ys ≡ true → xs ≡ ys
same_links_from [] [] h = refl
same_links_from [] (y ∷ ys) h = absurd (true≢false (sym h))
same_links_from (x ∷ xs) [] h = absurd (true≢false (sym h))
same_links_from (x ∷ xs) (y ∷ ys) h =
    let p : (link_eq x y ≡ true) × (pointwise link_eq xs ys ≡ true) = and_parts _ _ h in
    ap₂ ◌∷◌ (eq_is_same x y p.0) (same_links_from xs ys p.1)

pub same_links_itself : (xs : List Link) → pointwise link_eq xs xs ≡ true
same_links_itself [] = refl
same_links_itself (x ∷ xs) = ap₂ ◌&&◌ (link_equiv.refl x) (same_links_itself xs)
