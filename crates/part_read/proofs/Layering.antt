-- Sets of layers by what is said of each layer, and sets that are gathered part by part.
use Rattle.std.proofs.Common.{◌≡◌, ◌∙◌, refl, sym, ap, ℕ, zero, suc, ◌+◌, ◌^◌, ◌<◌, ◌≤◌, ◌==◌, max, arith, ◌⊎◌, inl, inr, List, [], ◌∷◌, ◌++◌, Bool, true, false, ◌||◌, Result, Ok, Err}
use Rattle.std.specs.Prelude.{if◌then◌else◌}
use Rattle.std.proofs.lemmas.Bool.{cases_eq, ltb-true, ltb-false}
use Rattle.std.specs.Prelude.{IsTrue, nat_lt}
use Rattle.std.proofs.Math.Bool.{or-true}
use Rattle.std.proofs.lemmas.Nat.Bits.{bit_at_or, bit_at-zero, bit_at-pow_same, bit_at-pow_other, bit_at_above, bit_at-lt, same_from_bits}
use Rattle.std.specs.Int.{bit_at}
use Rattle.std.specs.List.{list_any}
use Rattle.sexpr_read.specs.Tree.{Tree}
use Rattle.board_errors.specs.declared.errors.BoardError.{BoardError}
use Rattle.copper_layers.specs.declared.set.LayerSet.{LayerSet}
use Rattle.copper_layers.specs.Layers.{has_layer, is_within, single_layer, union_of}
use Rattle.copper_layers.proofs.LayerLemmas.{within_layers}
use Rattle.list_read.specs.FirstRefusals.{◌>>=◌}
use Rattle.part_read.specs.LayersWhere.{layers_below, layers_where, layers_of_any}
use Rattle.part_read.specs.BoardLayers.{each_set}
use Rattle.part_read.specs.LayerSets.{GivesSet}

-- ---- single layers and unions
abbrev pub no_layers : LayerSet
no_layers = record { bits = 0 }

both_bits : (a b m : ℕ) → a < 2 → b < 2 → m ≡ max a b → (m == 1) ≡ (a == 1) || (b == 1)
both_bits zero zero m h k e = rw e refl
both_bits zero (suc zero) m h k e = rw e refl
both_bits (suc zero) zero m h k e = rw e refl
both_bits (suc zero) (suc zero) m h k e = rw e refl
both_bits (suc (suc a)) b m h k e = absurd (omega arith)
both_bits a (suc (suc b)) m h k e = absurd (omega arith)

pub has_union : (s t : LayerSet) (k : ℕ) → has_layer (union_of s t) k ≡ has_layer s k || has_layer t k
has_union s t k = both_bits (bit_at s.bits k) (bit_at t.bits k) _ (bit_at-lt s.bits k) (bit_at-lt t.bits k) (bit_at_or s.bits t.bits k)

has_none : (k : ℕ) → has_layer no_layers k ≡ false
has_none k = rw (bit_at-zero k) refl

has_single : (k : ℕ) → has_layer (single_layer k) k ≡ true
has_single k = rw (bit_at-pow_same k) refl

has_other : (n k : ℕ) → (k ≡ n → ⊥) → has_layer (single_layer n) k ≡ false
has_other n k other = rw (bit_at-pow_other n k other) refl

same_bit : (a b : ℕ) → a < 2 → b < 2 → (a == 1) ≡ (b == 1) → a ≡ b
same_bit zero zero h k e = refl
same_bit (suc zero) (suc zero) h k e = refl
same_bit zero (suc zero) h k e = absurd cc
same_bit (suc zero) zero h k e = absurd cc
same_bit (suc (suc a)) b h k e = absurd (omega arith)
same_bit a (suc (suc b)) h k e = absurd (omega arith)

-- sets with the same layers are the same
pub same_sets : (s t : LayerSet) → ((k : ℕ) → has_layer s k ≡ has_layer t k) → s ≡ t
same_sets s t same =
    ap (λ (n : ℕ). record { bits = n }) (same_from_bits s.bits t.bits (λ k. same_bit (bit_at s.bits k) (bit_at t.bits k) (bit_at-lt s.bits k) (bit_at-lt t.bits k) (same k)))

or_false : (a : Bool) → a || false ≡ a
or_false true = refl
or_false false = refl

-- ---- the set of the layers that pass a test

none_past : (n : ℕ) (test : ℕ → Bool) (k : ℕ) → n ≤ k → has_layer (layers_below n test) k ≡ false
unfolding layers_below
none_past zero test k le = has_none k
none_past (suc n) test k le = by (test n) (none_past n test k (omega arith))
  where
    by : (b : Bool) → has_layer (layers_below n test) k ≡ false → has_layer (if b then union_of (layers_below n test) (single_layer n) else layers_below n test) k ≡ false
    by true h = has_union (layers_below n test) (single_layer n) k ∙ rw (h, has_other n k (λ same. absurd (omega arith))) refl
    by false h = h

pub in_below : (n : ℕ) (test : ℕ → Bool) (k : ℕ) → k < n → has_layer (layers_below n test) k ≡ test k
unfolding layers_below
in_below zero test k lt = absurd (omega arith)
in_below (suc n) test k lt = by (cases_eq k n) (test n) refl (λ below. in_below n test k below)
  where
    by : (k ≡ n) ⊎ (k ≡ n → ⊥) → (b : Bool) → test n ≡ b → (k < n → has_layer (layers_below n test) k ≡ test k)
        → has_layer (if b then union_of (layers_below n test) (single_layer n) else layers_below n test) k ≡ test k
    by (inl here) true e before = rw (here, e) (has_union (layers_below n test) (single_layer n) n ∙ rw (has_single n) (or-true (has_layer (layers_below n test) n)))
    by (inl here) false e before = rw (here, e) (none_past n test n (omega arith))
    by (inr other) true e before =
        has_union (layers_below n test) (single_layer n) k ∙ rw (has_other n k other) (or_false (has_layer (layers_below n test) k)) ∙ before (omega arith)
    by (inr other) false e before = before (omega arith)

-- tests that agree give one set
pub same_below : (n : ℕ) (p q : ℕ → Bool) → ((k : ℕ) → k < n → p k ≡ q k) → layers_below n p ≡ layers_below n q
unfolding layers_below
same_below zero p q same = refl
same_below (suc n) p q same = rw (same n (omega arith), same_below n p q (λ k lt. same k (omega arith))) refl

below_or_past : (k : ℕ) → (k < 32) ⊎ (32 ≤ k)
below_or_past k = by (nat_lt k 32) refl
  where
    by : (b : Bool) → nat_lt k 32 ≡ b → (k < 32) ⊎ (32 ≤ k)
    by true e = inl (ltb-true k 32 e)
    by false e = inr (ltb-false k 32 e)

-- a set of layers below 32 is that of its layers
pub where_is : (s : LayerSet) (test : ℕ → Bool) → ((k : ℕ) → k < 32 → test k ≡ has_layer s k) → ((k : ℕ) → 32 ≤ k → has_layer s k ≡ false) → layers_where test ≡ s
where_is s test same none = same_sets (layers_where test) s (λ k. by k (below_or_past k))
  where
    by : (k : ℕ) → (k < 32) ⊎ (32 ≤ k) → has_layer (layers_where test) k ≡ has_layer s k
    by k (inl below) = in_below 32 test k below ∙ same k below
    by k (inr past) = none_past 32 test k past ∙ sym (none k past)

few : (s : LayerSet) → s.bits < 2 ^ 32 → (k : ℕ) → 32 ≤ k → has_layer s k ≡ false
few s lt k past = rw (bit_at_above s.bits 32 k lt past) refl

-- ---- sets that are gathered

pub has_any : (sets : List LayerSet) (k : ℕ) → k < 32 → has_layer (layers_of_any sets) k ≡ list_any (λ set. has_layer set k) sets
has_any sets k lt = in_below 32 (λ layer. list_any (λ set. has_layer set layer) sets) k lt

any_append : (k : ℕ) (xs ys : List LayerSet) → list_any (λ set. has_layer set k) (xs ++ ys) ≡ list_any (λ set. has_layer set k) xs || list_any (λ set. has_layer set k) ys
any_append k [] ys = refl
any_append k (x ∷ xs) ys = rw (any_append k xs ys) (or_assoc (has_layer x k) (list_any (λ set. has_layer set k) xs) (list_any (λ set. has_layer set k) ys))
  where
    or_assoc : (a b c : Bool) → a || (b || c) ≡ (a || b) || c
    or_assoc true b c = refl
    or_assoc false b c = refl

-- one set, or none, is what all have
pub any_one : (s : LayerSet) → s.bits < 2 ^ 32 → layers_of_any (s ∷ []) ≡ s
any_one s lt = where_is s (λ k. has_layer s k || false) (λ k below. or_false (has_layer s k)) (few s lt)

pub any_single : (layer : ℕ) → layer < 32 → layers_of_any (single_layer layer ∷ []) ≡ single_layer layer
any_single layer lt =
    where_is (single_layer layer) (λ k. has_layer (single_layer layer) k || false) (λ k below. or_false (has_layer (single_layer layer) k))
    (λ k past. has_other layer k (λ same. absurd (omega arith)))

pub any_none : layers_of_any [] ≡ no_layers
any_none = where_is no_layers (λ k. false) (λ k below. sym (has_none k)) (λ k past. has_none k)

pub any_union : (xs ys : List LayerSet) → union_of (layers_of_any xs) (layers_of_any ys) ≡ layers_of_any (xs ++ ys)
any_union xs ys = sym (where_is (union_of (layers_of_any xs) (layers_of_any ys)) (λ k. list_any (λ set. has_layer set k) (xs ++ ys))
    (λ k below. any_append k xs ys ∙ sym (has_union (layers_of_any xs) (layers_of_any ys) k ∙ rw (has_any xs k below, has_any ys k below) refl))
    (λ k past. has_union (layers_of_any xs) (layers_of_any ys) k ∙ rw (none_past 32 (λ layer. list_any (λ set. has_layer set layer) xs) k past, none_past 32 (λ layer. list_any (λ set. has_layer set layer) ys) k past) refl))

-- what is within a set, and another, are so together
pub union_within : (s t u : LayerSet) → IsTrue (is_within s u) → IsTrue (is_within t u) → IsTrue (is_within (union_of s t) u)
union_within s t u h k = (within_layers (union_of s t) u).1 (λ layer in_both. by layer (has_layer s layer) refl (has_union s t layer) in_both)
  where
    by : (layer : ℕ) (b : Bool) → has_layer s layer ≡ b → has_layer (union_of s t) layer ≡ has_layer s layer || has_layer t layer → IsTrue (has_layer (union_of s t) layer) → IsTrue (has_layer u layer)
    by layer true e joined in_both = (within_layers s u).0 h layer e
    by layer false e joined in_both = (within_layers t u).0 k layer (sym (joined ∙ rw e refl) ∙ in_both)

pub none_within : (u : LayerSet) → IsTrue (is_within no_layers u)
none_within u = (within_layers no_layers u).1 (λ layer h. by layer h)
  where
    by : (layer : ℕ) → IsTrue (has_layer no_layers layer) → IsTrue (has_layer u layer)
    by layer h = let e : false ≡ true = sym (has_none layer) ∙ h in absurd cc

-- the sets of one part join those before it
pub any_joined : (s : LayerSet) (first others : List LayerSet) → layers_of_any (union_of s (layers_of_any first) ∷ others) ≡ layers_of_any (s ∷ (first ++ others))
any_joined s first others = same_below 32 _ _ at
  where
    or_assoc : (a b c : Bool) → (a || b) || c ≡ a || (b || c)
    or_assoc true b c = refl
    or_assoc false b c = refl

    at : (k : ℕ) → k < 32 → has_layer (union_of s (layers_of_any first)) k || list_any (λ set. has_layer set k) others ≡ has_layer s k || list_any (λ set. has_layer set k) (first ++ others)
    at k below = rw (has_union s (layers_of_any first) k, has_any first k below, any_append k first others) (or_assoc (has_layer s k) (list_any (λ set. has_layer set k) first) (list_any (λ set. has_layer set k) others))

pub any_begun : (sets : List LayerSet) → layers_of_any (no_layers ∷ sets) ≡ layers_of_any sets
any_begun sets = same_below 32 _ _ (λ k below. rw (has_none k) refl)

-- what was gathered, and what is left, give what all gives
abbrev pub gathered : (Tree → Result (List LayerSet) BoardError) → LayerSet → List Tree → Result LayerSet BoardError
gathered sets so_far ts = each_set sets ts >>= λ others. Ok (layers_of_any (so_far ∷ others))

then_same : (a : Result (List LayerSet) BoardError) (f g : List LayerSet → LayerSet) → ((xs : List LayerSet) → f xs ≡ g xs) → (a >>= λ xs. Ok (f xs)) ≡ (a >>= λ xs. Ok (g xs))
then_same (Ok xs) f g same = ap (λ (s : LayerSet). Ok s) (same xs)
then_same (Err e) f g same = refl

pub gathered_begun : (sets : Tree → Result (List LayerSet) BoardError) (ts : List Tree) → gathered sets no_layers ts ≡ (each_set sets ts >>= λ all. Ok (layers_of_any all))
gathered_begun sets ts = then_same (each_set sets ts) (λ others. layers_of_any (no_layers ∷ others)) layers_of_any any_begun

pub gathered_all : (sets : Tree → Result (List LayerSet) BoardError) (s : LayerSet) → s.bits < 2 ^ 32 → gathered sets s [] ≡ Ok s
gathered_all sets s lt = ap (λ (t : LayerSet). Ok t) (any_one s lt)

-- no layer from 32 on
abbrev pub AreFew : LayerSet → Type 0
AreFew s = (k : ℕ) → 32 ≤ k → has_layer s k ≡ false

pub few_none : AreFew no_layers
few_none k past = has_none k

pub few_union : (s new : LayerSet) (answer : Result (List LayerSet) BoardError) → AreFew s → GivesSet (Ok new) answer → AreFew (union_of s new)
few_union s new (Ok sets) h is k past =
    has_union s new k ∙ rw (h k past, is, none_past 32 (λ layer. list_any (λ set. has_layer set layer) sets) k past) refl
few_union s new (Err e) h is k past = absurd is

pub gathered_few : (sets : Tree → Result (List LayerSet) BoardError) (s : LayerSet) → AreFew s → gathered sets s [] ≡ Ok s
gathered_few sets s h = ap (λ (t : LayerSet). Ok t) (where_is s (λ k. has_layer s k || false) (λ k below. or_false (has_layer s k)) h)

pub gathered_more : (sets : Tree → Result (List LayerSet) BoardError) (s new : LayerSet) (t : Tree) (ts : List Tree) → GivesSet (Ok new) (sets t) → gathered sets s (t ∷ ts) ≡ gathered sets (union_of s new) ts
gathered_more sets s new t ts given = by (sets t) refl given
  where
    rest : (a : Result (List LayerSet) BoardError) (first : List LayerSet) → new ≡ layers_of_any first
        → ((a >>= λ others. Ok (first ++ others)) >>= λ all. Ok (layers_of_any (s ∷ all))) ≡ (a >>= λ others. Ok (layers_of_any (union_of s new ∷ others)))
    rest (Ok others) first is = ap (λ (x : LayerSet). Ok x) (sym (rw is (any_joined s first others)))
    rest (Err e) first is = refl

    by : (a : Result (List LayerSet) BoardError) → sets t ≡ a → GivesSet (Ok new) a → gathered sets s (t ∷ ts) ≡ gathered sets (union_of s new) ts
    by (Ok first) e is = rw e (rest (each_set sets ts) first is)
    by (Err d) e is = absurd is

pub gathered_refused : (sets : Tree → Result (List LayerSet) BoardError) (s : LayerSet) (e : BoardError) (t : Tree) (ts : List Tree) → GivesSet (Err e) (sets t) → gathered sets s (t ∷ ts) ≡ Err e
gathered_refused sets s e t ts given = by (sets t) refl given
  where
    by : (a : Result (List LayerSet) BoardError) → sets t ≡ a → GivesSet (Err e) a → gathered sets s (t ∷ ts) ≡ Err e
    by (Ok first) h is = absurd is
    by (Err d) h is = rw (h, is) refl

pub gives_none : (answer : Result (List LayerSet) BoardError) → answer ≡ Ok [] → GivesSet (Ok no_layers) answer
gives_none answer e = rw e (sym any_none)

pub gives_one : (s : LayerSet) (answer : Result (List LayerSet) BoardError) → s.bits < 2 ^ 32 → answer ≡ Ok (s ∷ []) → GivesSet (Ok s) answer
gives_one s answer lt e = rw e (sym (any_one s lt))

pub gives_single : (layer : ℕ) (answer : Result (List LayerSet) BoardError) → layer < 32 → answer ≡ Ok (single_layer layer ∷ []) → GivesSet (Ok (single_layer layer)) answer
gives_single layer answer lt e = rw e (sym (any_single layer lt))

pub gives_any : (s : LayerSet) (sets : List LayerSet) (answer : Result (List LayerSet) BoardError) → s ≡ layers_of_any sets → answer ≡ Ok sets → GivesSet (Ok s) answer
gives_any s sets answer is e = rw e is
