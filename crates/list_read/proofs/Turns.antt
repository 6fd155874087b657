-- A part whose head is wanted at one place is wanted at no other.
use Rattle.std.proofs.Common.{◌≡◌, ◌∙◌, refl, sym, ap, subst, ℕ, zero, suc, ◌<◌, arith, List, [], ◌∷◌, length, get_or, set, Option, None, Some, Bool, true, false, not, ◌&&◌, ◌||◌, cond, bytes_eq, map, option_map}
use Rattle.std.specs.Prelude.{codes}
use Rattle.std.specs.List.{list_any}
use Rattle.std.proofs.lemmas.Slice.Eq.{bytes_eq-Decides}
use Rattle.std.proofs.lemmas.List.{map-set, length-map, get_or_default}
use Rattle.sexpr_read.specs.declared.view.Node.{Node}
use Rattle.sexpr_read.specs.Tree.{Tree, value}
use Rattle.sexpr_read.specs.TreeViews.{tree_of}
use Rattle.list_read.specs.declared.elements.Wanted.{Wanted}
use Rattle.list_read.specs.declared.elements.Wanted.TheVariants.{Head, Name}
use Rattle.list_read.specs.ListHeads.{is_text, is_value}
use Rattle.list_read.specs.ListWalk.{is_wanted_first, is_new, noted_one, noted, heads_of, share, are_distinct}
use Rattle.list_read.proofs.Walks.{mapped_at}

-- ---- two that want the same atom share a head

or_true_right : (a : Bool) → (a || true) ≡ true
or_true_right true = refl
or_true_right false = refl

or_false : (a b : Bool) → (a || b) ≡ false → (a ≡ false) × (b ≡ false)
or_false true b h = absurd cc
or_false false b h = (refl, h)

and_parts : (a b : Bool) → (not a && b) ≡ true → (a ≡ false) × (b ≡ true)
and_parts true b h = absurd cc
and_parts false b h = (refl, h)

same_value : (v : Option (List ℕ)) (a b : List ℕ) → is_value v a ≡ true → is_value v b ≡ true → bytes_eq a b ≡ true
same_value None a b h k = absurd cc
same_value (Some v) a b h k = (bytes_eq-Decides a b).1 (sym ((bytes_eq-Decides v a).0 h) ∙ (bytes_eq-Decides v b).0 k)

-- one of these texts is that of the atom
any_text : (first : Tree) (head : List ℕ) (heads : List (List ℕ)) → is_text first head ≡ true → list_any (is_text first) heads ≡ true → list_any (bytes_eq head) heads ≡ true
any_text first head [] h k = absurd cc
any_text first head (x ∷ xs) h k = by (is_text first x) refl (any_text first head xs h)
  where
    by : (b : Bool) → is_text first x ≡ b → (list_any (is_text first) xs ≡ true → list_any (bytes_eq head) xs ≡ true) → (bytes_eq head x || list_any (bytes_eq head) xs) ≡ true
    by true e rest = ap (λ c. c || list_any (bytes_eq head) xs) (same_value (value first) head x h e)
    by false e rest = ap (λ c. bytes_eq head x || c) (rest (rw e at k)) ∙ or_true_right (bytes_eq head x)

shared : (first : Tree) (heads others : List (List ℕ)) → list_any (is_text first) heads ≡ true → list_any (is_text first) others ≡ true
    → list_any (λ head. list_any (bytes_eq head) others) heads ≡ true
shared first [] others h k = absurd cc
shared first (x ∷ xs) others h k = by (is_text first x) refl (λ m. shared first xs others m k)
  where
    by : (b : Bool) → is_text first x ≡ b → (list_any (is_text first) xs ≡ true → list_any (λ head. list_any (bytes_eq head) others) xs ≡ true)
        → (list_any (bytes_eq x) others || list_any (λ head. list_any (bytes_eq head) others) xs) ≡ true
    by true e rest = ap (λ c. c || list_any (λ head. list_any (bytes_eq head) others) xs) (any_text first x others e k)
    by false e rest = ap (λ c. list_any (bytes_eq x) others || c) (rest (rw e at h)) ∙ or_true_right (list_any (bytes_eq x) others)

or_none : (a : Bool) → a ≡ (a || false)
or_none true = refl
or_none false = refl

wanted_any : (w : Wanted) (first : Tree) → is_wanted_first w first ≡ list_any (is_text first) (heads_of w)
wanted_any (Head word) first = or_none (is_text first word.now)
wanted_any Name first = ap (λ b. is_text first (codes "tstamp") || b) (or_none (is_text first (codes "uuid")))

two_share : (v w : Wanted) (first : Tree) → is_wanted_first v first ≡ true → is_wanted_first w first ≡ true → share v w ≡ true
two_share v w first h k = shared first (heads_of v) (heads_of w) (sym (wanted_any v first) ∙ h) (sym (wanted_any w first) ∙ k)

-- so where they share none, the other is not wanted
other_not : (v w : Wanted) (first : Tree) → share v w ≡ false → is_wanted_first w first ≡ true → is_wanted_first v first ≡ false
other_not v w first apart h = by (is_wanted_first v first) refl
  where
    by : (b : Bool) → is_wanted_first v first ≡ b → b ≡ false
    by false e = refl
    by true e = sym (two_share v w first e h) ∙ apart

next_not : (v w : Wanted) (first : Tree) → share v w ≡ false → is_wanted_first v first ≡ true → is_wanted_first w first ≡ false
next_not v w first apart h = by (is_wanted_first w first) refl
  where
    by : (b : Bool) → is_wanted_first w first ≡ b → b ≡ false
    by false e = refl
    by true e = sym (two_share v w first h e) ∙ apart

-- ---- a part that is wanted at one place alone

new_wanted : (f : Option Tree) (w : Wanted) (first : Tree) → is_new f w first ≡ true → is_wanted_first w first ≡ true
new_wanted (Some found) w first h = absurd cc
new_wanted None w first h = h

stays : (part first : Tree) (w : Wanted) (f : Option Tree) → is_wanted_first w first ≡ false → noted_one part first w f ≡ f
stays part first w (Some found) h = refl
stays part first w None h = ap (λ (b : Bool). cond b (Some part) None) h

all_stay : (part first : Tree) (v : Wanted) (ws : List Wanted) (fs : List (Option Tree)) → length ws ≡ length fs → is_wanted_first v first ≡ true → list_any (share v) ws ≡ false → noted part first ws fs ≡ fs
all_stay part first v [] [] e h apart = refl
all_stay part first v [] (f ∷ fs) e h apart = absurd (omega (arith, e))
all_stay part first v (w ∷ ws) [] e h apart = absurd (omega (arith, e))
all_stay part first v (w ∷ ws) (f ∷ fs) e h apart =
    let parts = or_false (share v w) (list_any (share v) ws) apart in
    ap (λ (o : Option Tree). o ∷ noted part first ws fs) (stays part first w f (next_not v w first parts.0 h))
    ∙ ap (λ (l : List (Option Tree)). f ∷ l) (all_stay part first v ws fs (omega (arith, e)) h parts.1)

apart_at : (v : Wanted) (ws : List Wanted) (k : ℕ) (w : Wanted) → k < length ws → w ≡ get_or ws k w → list_any (share v) ws ≡ false → share v w ≡ false
apart_at v [] k w lt is apart = absurd (omega (arith, lt))
apart_at v (u ∷ ws) zero w lt is apart = ap (share v) is ∙ (or_false (share v u) (list_any (share v) ws) apart).0
apart_at v (u ∷ ws) (suc k) w lt is apart = apart_at v ws k w (omega (arith, lt)) is (or_false (share v u) (list_any (share v) ws) apart).1

pub noted_at : (part first : Tree) (ws : List Wanted) (fs : List (Option Tree)) (k : ℕ) (w : Wanted) → k < length ws → length ws ≡ length fs → w ≡ get_or ws k w → are_distinct ws ≡ true
    → is_new (get_or fs k None) w first ≡ true → set fs k (Some part) ≡ noted part first ws fs
noted_at part first [] fs k w lt e is distinct new = absurd (omega (arith, lt))
noted_at part first (v ∷ ws) [] k w lt e is distinct new = absurd (omega (arith, e))
noted_at part first (v ∷ ws) (f ∷ fs) zero w lt e is distinct new =
    let parts = and_parts (list_any (share v) ws) (are_distinct ws) distinct in
    let here : is_new f v first ≡ true = subst (λ (u : Wanted). is_new f u first ≡ true) is new in
    sym
    (ap (λ (b : Bool). cond b (Some part) f ∷ noted part first ws fs) here
    ∙ ap (λ (l : List (Option Tree)). Some part ∷ l) (all_stay part first v ws fs (omega (arith, e)) (new_wanted f v first here) parts.0))
noted_at part first (v ∷ ws) (f ∷ fs) (suc k) w lt e is distinct new =
    let parts = and_parts (list_any (share v) ws) (are_distinct ws) distinct in
    let apart = apart_at v ws k w (omega (arith, lt)) is parts.0 in
    ap (λ (l : List (Option Tree)). f ∷ l) (noted_at part first ws fs k w (omega (arith, lt)) (omega (arith, e)) is parts.1 new)
    ∙ ap (λ (o : Option Tree). o ∷ noted part first ws fs) (sym (stays part first v f (other_not v w first apart (new_wanted (get_or fs k None) w first new))))

-- what the test of the place tells
pub note_turn : (part : Node) (first : Tree) (k : ℕ) (ws : List Wanted) (found : List (Option Node)) (r : Option Node) (d : Wanted) (new : Bool) → k < length ws → length ws ≡ length found
    → are_distinct ws ≡ true → r ≡ get_or found k r → new ≡ is_new (option_map tree_of (get_or found k r)) (get_or ws k d) first → new ≡ true
    → map (option_map tree_of) (set found k (Some part)) ≡ noted (tree_of part) first ws (map (option_map tree_of) found)
note_turn part first k ws found r d new lt same distinct is asked h =
    let there : get_or (map (option_map tree_of) found) k None ≡ option_map tree_of (get_or found k r) = mapped_at found k r (omega (arith, lt, same)) is ∙ ap (option_map tree_of) is in
    map-set (option_map tree_of) found k (Some part)
    ∙ noted_at (tree_of part) first ws (map (option_map tree_of) found) k (get_or ws k d) lt (same ∙ sym (length-map found (option_map tree_of))) (get_or_default ws k d (get_or ws k d) lt) distinct
    (ap (λ (o : Option Tree). is_new o (get_or ws k d) first) there ∙ sym asked ∙ h)
