-- What stands in a text is no longer than the text.
use Rattle.std.proofs.Common.{◌≡◌, ◌≤◌, ◌+◌, ◌-◌, ◌==◌, ℕ, Bool, true, false, List, [], ◌∷◌, length, drop, sym, subst, refl, arith}
use Rattle.std.specs.Prelude.{Ok, slice_range}
use Rattle.std.proofs.lemmas.List.{length-take, length-drop}
use Rattle.sexpr_read.specs.Tree.{Forest, none, atom, list, Tree, leaf, branch, trees, parts, is_list, unescaped}
use Rattle.sexpr_read.specs.TreePlaces.{IsSlice, StandBetween, PartsStandBetween}
use Rattle.list_read.specs.FirstRefusals.{◌>>=◌}
use Rattle.list_read.specs.ListHeads.{text_of, behind_one, behind_head}
use Rattle.rule_text.specs.RuleForms.{single_among, as_atom, atom_at, behind_two, clauses}
use Rattle.rule_text.specs.RulesOf.{claim_among}
use Rattle.rule_text.specs.ShortRuleTrees.{AreShort, AllShort, IsShort}

-- ---- parts of short trees

pub short_text : (t : Tree) → IsShort t → length (text_of t) ≤ 33554432
short_text (leaf s q c) h = h.1
short_text (branch s f) h = omega arith

pub head_short : (t : Tree) (ts : List Tree) → AllShort (t ∷ ts) → IsShort t
head_short t ts h = h.0

pub tail_short : (t : Tree) (ts : List Tree) → AllShort (t ∷ ts) → AllShort ts
tail_short t ts h = h.1

pub first_short : (ts : List Tree) (u : Tree) (us : List Tree) → ts ≡ u ∷ us → AllShort ts → IsShort u
first_short ts u us e h = let k : AllShort (u ∷ us) = subst AllShort e h in head_short u us k

pub rest_short : (ts : List Tree) (u : Tree) (us : List Tree) → ts ≡ u ∷ us → AllShort ts → AllShort us
rest_short ts u us e h = let k : AllShort (u ∷ us) = subst AllShort e h in tail_short u us k

all_short : (f : Forest) → AreShort f → AllShort (trees f)
all_short none h = tt
all_short (atom s q c others) h = (h.0, all_short others h.1)
all_short (list s inside others) h = (h.0, all_short others h.1)

pub parts_short : (t : Tree) → IsShort t → AllShort (parts t)
parts_short (leaf s q c) h = tt
parts_short (branch s f) h = all_short f h.1.1

pub parts_few : (t : Tree) → IsShort t → length (parts t) ≤ 33554432
parts_few (leaf s q c) h = omega arith
parts_few (branch s f) h = h.1.0

pub behind_head_short : (t : Tree) → IsShort t → AllShort (behind_head t)
unfolding behind_head
behind_head_short t h = by_list (parts t) (parts_short t h)
  where
    by_list : (ts : List Tree) → AllShort ts → AllShort (behind_one ts)
    by_list [] k = tt
    by_list (x ∷ ts) k = k.1

pub behind_head_few : (t : Tree) → IsShort t → length (behind_head t) ≤ 33554432
unfolding behind_head
behind_head_few t h = by_list (parts t) (parts_few t h)
  where
    by_list : (ts : List Tree) → length ts ≤ 33554432 → length (behind_one ts) ≤ 33554432
    by_list [] k = omega arith
    by_list (x ∷ ts) k = omega (arith, k)

behind_short : (ts : List Tree) → AllShort ts → AllShort (behind_two ts)
behind_short [] h = tt
behind_short (t ∷ []) h = tt
behind_short (t ∷ u ∷ ts) h = tail_short u ts (tail_short t (u ∷ ts) h)

pub clauses_short : (t : Tree) → IsShort t → AllShort (clauses t)
unfolding clauses
clauses_short t h = behind_short (parts t) (parts_short t h)

as_atom_short : (t a : Tree) → Ok a ≡ as_atom t → IsShort t → IsShort a
as_atom_short t a e h = by_test (is_list t) refl
  where
    by_test : (b : Bool) → is_list t ≡ b → IsShort a
    by_test true k = absurd (grind (arith, e, k))
    by_test false k = let same : a ≡ t = grind (arith, e, k) in subst IsShort (sym same) h

single_short : (t : Tree) (ts : List Tree) (a : Tree) → Ok a ≡ (single_among t ts >>= as_atom) → AllShort ts → IsShort a
single_short t [] a e h = absurd (grind (arith, e))
single_short t (x ∷ []) a e h = absurd (grind (arith, e))
single_short t (x ∷ y ∷ []) a e h = as_atom_short y a e (head_short y [] (tail_short x (y ∷ []) h))
single_short t (x ∷ y ∷ z ∷ ts) a e h = absurd (grind (arith, e))

pub atom_short : (t a : Tree) → Ok a ≡ atom_at t → IsShort t → IsShort a
unfolding atom_at
atom_short t a e h = single_short t (parts t) a e (parts_short t h)

claim_among_short : (t : Tree) (ts : List Tree) (a : Tree) → Ok a ≡ claim_among t ts → AllShort ts → IsShort a
claim_among_short t [] a e h = absurd (grind (arith, e))
claim_among_short t (x ∷ []) a e h = as_atom_short x a e (head_short x [] h)
claim_among_short t (x ∷ y ∷ ts) a e h = absurd (grind (arith, e))

pub claim_short : (t a : Tree) → Ok a ≡ claim_among t (clauses t) → IsShort t → IsShort a
claim_short t a e h = claim_among_short t (clauses t) a e (clauses_short t h)

-- ---- trees that stand in a text

ordered : (text : List ℕ) (from to : ℕ) (f : Forest) → StandBetween text from to f → from ≤ to
ordered text from to none h = h
ordered text from to (atom s q c others) h =
    let a = h.0 in let b = h.1 in let d = ordered text s.end to others h.3 in omega (arith, a, b, d)
ordered text from to (list s inside others) h =
    let a = h.0 in let b = h.1 in let d = ordered text s.end to others h.3 in omega (arith, a, b, d)

few : (text : List ℕ) (from to : ℕ) (f : Forest) → StandBetween text from to f → from + length (trees f) ≤ to
few text from to none h = omega (arith, h)
few text from to (atom s q c others) h =
    let a = h.0 in let b = h.1 in let d = few text s.end to others h.3 in omega (arith, a, b, d)
few text from to (list s inside others) h =
    let a = h.0 in let b = h.1 in let d = few text s.end to others h.3 in omega (arith, a, b, d)

unescaped_shorter : (c : List ℕ) → length (unescaped c) ≤ length c
unfolding unescaped
unescaped_shorter [] = omega arith
unescaped_shorter (b ∷ []) = omega arith
unescaped_shorter (b ∷ c ∷ bytes) =
    by_test (unescaped_shorter bytes) (unescaped_shorter (c ∷ bytes)) (b == 0x5C) refl
  where
    by_test : length (unescaped bytes) ≤ length bytes → length (unescaped (c ∷ bytes)) ≤ length (c ∷ bytes) → (t : Bool) → (b == 0x5C) ≡ t → length (unescaped (b ∷ c ∷ bytes)) ≤ length (b ∷ c ∷ bytes)
    by_test h k true e = rw e (omega (arith, h))
    by_test h k false e = rw e (omega (arith, k))

range_shorter : (text : List ℕ) (a b : ℕ) → length (slice_range text a b) ≤ length text
range_shorter text a b =
    let p = length-take (b - a) (drop a text) in let q = length-drop a text in omega (arith, p, q)

content_shorter : (text : List ℕ) (from to : ℕ) (q : Bool) (c : List ℕ) → IsSlice text (record { at = from; end = to }) q c → length c ≤ length text
content_shorter text from to false c h = subst (λ x. length x ≤ length text) (sym h) (range_shorter text from to)
content_shorter text from to true c h = subst (λ x. length x ≤ length text) (sym h.1) (range_shorter text (from + 1) (to - 1))

short : (text : List ℕ) → length text ≤ 33554432 → (from to : ℕ) → to ≤ length text → (f : Forest) → StandBetween text from to f → AreShort f
short text n from to w none h = tt
short text n from to w (atom s q c others) h =
    let b = h.1 in let d = ordered text s.end to others h.3 in
    ((omega (arith, b, d, w, n), text_short q (content_shorter text s.at s.end q c h.2)), short text n s.end to w others h.3)
  where
    text_short : (q : Bool) → length c ≤ length text → length (text_of (leaf s q c)) ≤ 33554432
    text_short true k = let u = unescaped_shorter c in omega (arith, u, k, n)
    text_short false k = omega (arith, k, n)
short text n from to w (list s inside others) h =
    let b = h.1 in let d = ordered text s.end to others h.3 in let m = few text (s.at + 1) (s.end - 1) inside h.2 in
    ((omega (arith, b, d, w, n), (omega (arith, m, d, w, n), short text n (s.at + 1) (s.end - 1) (omega (arith, d, w)) inside h.2)), short text n s.end to w others h.3)

pub forms_short : (text : List ℕ) (t : Tree) → PartsStandBetween text 0 (length text) t → length text ≤ 33554432 → AllShort (parts t)
forms_short text (leaf s q c) h n = tt
forms_short text (branch s f) h n = all_short f (short text n 0 (length text) (omega arith) f h)

pub forms_few : (text : List ℕ) (t : Tree) → PartsStandBetween text 0 (length text) t → length text ≤ 33554432 → length (parts t) ≤ 33554432
forms_few text (leaf s q c) h n = omega arith
forms_few text (branch s f) h n = let k = few text 0 (length text) f h in omega (arith, k, n)
