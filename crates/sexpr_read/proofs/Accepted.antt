-- A text that spells a tree of at most 64 levels has no fault.
use Rattle.std.proofs.Common.{◌≡◌, ◌⊎◌, inl, inr, ℕ, suc, ◌+◌, ◌≤◌, Bool, true, false, List, length, Some, None, refl, ◌∙◌, arith}
use Rattle.std.specs.Str.{is_utf8}
use Rattle.std.specs.Prelude.{IsUtf8, Result, Ok, Err, IfOk, IfErr, MatchResult}
use Rattle.std.specs.Str.Lossy.{utf8_valid_len}
use Rattle.std.proofs.lemmas.Str.{is_utf8-from_IsUtf8, IsUtf8-from_is_utf8}
use Rattle.sexpr_read.specs.declared.place.TextError.{TextError}
use Rattle.sexpr_read.specs.declared.place.TextError.TheVariants.{NotUtf8, OutOfMemory}
use Rattle.sexpr_read.specs.declared.bytes.ByteClass.{ByteClass}
use Rattle.sexpr_read.specs.ByteClasses.{sign_of}
use Rattle.sexpr_read.specs.Comments.{shown}
use Rattle.sexpr_read.specs.Tree.{Forest, none, atom, list, levels_in, Tree, leaf, branch, levels}
use Rattle.sexpr_read.specs.Spelling.{SpellsForest, Spells, SpellsAll}
use Rattle.sexpr_read.specs.TreeRefusals.{outside, whole_fault, refusal_of_one, refusal_of_all, is_blank_before}
use Rattle.sexpr_read.specs.ReaderProgress.{Stands}
use Rattle.sexpr_read.proofs.Machine.{IsInner, over_gap, over_word, over_string, over_open, over_first, over_close}
use Rattle.sexpr_read.proofs.Unique.{forest_ordered, unique_tree, unique_forms}
use Rattle.sexpr_read.proofs.Faults.{stands_first, blank_gap, not_blank, whole_by_end}

module _ (one : Bool) (text : List ℕ) (sign : ℕ → ByteClass) where
  pub over_forest : (f : Forest) (a b d : ℕ) → SpellsForest sign text a b f → IsInner one d → d + levels_in f ≤ 64
      → Stands one sign a (outside d) → Stands one sign b (outside d)
  over_forest none a b d h inner low here = over_gap one sign a b d h here
  over_forest (atom s false x others) a b d h inner low here =
      over_forest others s.end b d h.2 inner low (over_word one sign s.at s.end d inner h.1.0 (over_gap one sign a s.at d h.0 here))
  over_forest (atom s true x others) a b d h inner low here =
      over_forest others s.end b d h.2 inner low (over_string one sign s.at s.end d inner h.1.0 (over_gap one sign a s.at d h.0 here))
  over_forest (list s inside others) a b d h inner low here =
      let in_list = over_open one sign s.at d inner (omega arith) h.1 (over_gap one sign a s.at d h.0 here) in
      let at_close = over_forest inside (suc s.at) h.2.0 (suc d) h.2.2 tt (omega arith) in_list in
      let behind : Stands one sign s.end (outside d) = rw h.2.1 (over_close one sign h.2.0 d h.2.3 at_close) in
      over_forest others s.end b d h.3 inner (omega arith) behind

pub accepted : (text : List ℕ) (tree : Tree) → Spells text tree → levels tree ≤ 64
    → whole_fault true (sign_of text) (length text) ≡ None
unfolding Spells
accepted text (leaf s q x) h low = absurd h
accepted text (branch s inside) (utf8, h) low =
    let sign : ℕ → ByteClass = sign_of text in
    let blank : is_blank_before sign s.at ≡ true = blank_gap sign s.at h.0 in
    let in_list = over_first sign s.at blank h.1 (over_gap true sign 0 s.at 0 h.0 (stands_first true sign)) in
    let at_close = over_forest true text sign inside (suc s.at) h.2.0 1 h.2.2 tt (omega arith) in_list in
    let behind : Stands true sign s.end (outside 0) = rw h.2.1 (over_close true sign h.2.0 0 h.2.3 at_close) in
    let last = over_gap true sign s.end (length text) 0 h.3 behind in
    let seen : is_blank_before sign (length text) ≡ false =
    not_blank sign s.at (length text) h.1 (omega (arith, forest_ordered sign text inside (suc s.at) h.2.0 h.2.2, h.2.1, h.3.ordered)) in
    whole_by_end true sign (length text) (outside 0) None last (rw seen refl)

pub accepted_all : (text : List ℕ) (tree : Tree) → SpellsAll text tree → levels tree ≤ 65
    → whole_fault false (shown text) (length text) ≡ None
unfolding SpellsAll
accepted_all text (leaf s q x) h low = absurd h
accepted_all text (branch s inside) (utf8, place, h) low =
    let last = over_forest false text (shown text) inside 0 (length text) 0 h refl (omega arith) (stands_first false (shown text)) in
    whole_by_end false (shown text) (length text) (outside 0) None last refl

spelled_utf8 : (text : List ℕ) (tree : Tree) → Spells text tree → IsUtf8 text
unfolding Spells
spelled_utf8 text (leaf s q x) h = absurd h
spelled_utf8 text (branch s inside) h = h.0

pub refusal_of_utf8 : (text : List ℕ) → IsUtf8 text → refusal_of_one text ≡ whole_fault true (sign_of text) (length text)
unfolding refusal_of_one
refusal_of_utf8 text utf8 = rw (is_utf8-from_IsUtf8 text utf8) refl

pub refusal_of_bytes : (text : List ℕ) → (IsUtf8 text → ⊥) → refusal_of_one text ≡ Some (NotUtf8 (utf8_valid_len text))
unfolding refusal_of_one
refusal_of_bytes text never = by_test (is_utf8 text) refl
  where
    by_test : (b : Bool) → is_utf8 text ≡ b → refusal_of_one text ≡ Some (NotUtf8 (utf8_valid_len text))
    by_test true e = absurd (never (IsUtf8-from_is_utf8 text e))
    by_test false e = rw e refl

-- bytes that are no UTF-8 spell nothing
pub bytes_spell_nothing : (text : List ℕ) → (IsUtf8 text → ⊥) → (tree : Tree) → Spells text tree → levels tree ≤ 64 → ⊥
bytes_spell_nothing text never tree h low = never (spelled_utf8 text tree h)

spelled_all_utf8 : (text : List ℕ) (tree : Tree) → SpellsAll text tree → IsUtf8 text
unfolding SpellsAll
spelled_all_utf8 text (leaf s q x) h = absurd h
spelled_all_utf8 text (branch s inside) h = h.0

pub all_of_utf8 : (text : List ℕ) → IsUtf8 text → refusal_of_all text ≡ whole_fault false (shown text) (length text)
unfolding refusal_of_all
all_of_utf8 text utf8 = rw (is_utf8-from_IsUtf8 text utf8) refl

pub all_of_bytes : (text : List ℕ) → (IsUtf8 text → ⊥) → refusal_of_all text ≡ Some (NotUtf8 (utf8_valid_len text))
unfolding refusal_of_all
all_of_bytes text never = by_test (is_utf8 text) refl
  where
    by_test : (b : Bool) → is_utf8 text ≡ b → refusal_of_all text ≡ Some (NotUtf8 (utf8_valid_len text))
    by_test true e = absurd (never (IsUtf8-from_is_utf8 text e))
    by_test false e = rw e refl

pub bytes_spell_no_forms : (text : List ℕ) → (IsUtf8 text → ⊥) → (tree : Tree) → SpellsAll text tree → levels tree ≤ 65 → ⊥
bytes_spell_no_forms text never tree h low = never (spelled_all_utf8 text tree h)

-- what the answer of the reader says of the text
module _ {D : Type 0} (root : D → Tree) (text : List ℕ) where
  pub only_tree : (r : Result D TextError) → IfOk r (λ doc. Spells text (root doc))
      → IfOk r (λ doc. (tree : Tree) → Spells text tree → tree ≡ root doc)
  only_tree (Ok doc) h = λ tree k. unique_tree text tree (root doc) k h
  only_tree (Err e) h = tt

  pub no_tree : (r : Result D TextError) → IfErr r (λ e. (e ≡ OutOfMemory) ⊎ (whole_fault true (sign_of text) (length text) ≡ Some e))
      → IfErr r (λ e. (e ≡ OutOfMemory) ⊎ ((tree : Tree) → Spells text tree → levels tree ≤ 64 → ⊥))
  no_tree (Ok doc) h = tt
  no_tree (Err e) (inl memory) = inl memory
  no_tree (Err e) (inr fault) = inr (λ tree k low. let none_is = accepted text tree k low in cc)

  pub exact_answer : (r : Result D TextError) → IsUtf8 text → IfOk r (λ doc. Spells text (root doc)) → IfOk r (λ doc. levels (root doc) ≤ 64)
      → IfErr r (λ e. (e ≡ OutOfMemory) ⊎ (whole_fault true (sign_of text) (length text) ≡ Some e))
      → MatchResult r (λ _. refusal_of_one text ≡ None) (λ e. (e ≡ OutOfMemory) ⊎ (refusal_of_one text ≡ Some e))
  exact_answer (Ok doc) utf8 h low k = refusal_of_utf8 text utf8 ∙ accepted text (root doc) h low
  exact_answer (Err e) utf8 h low (inl memory) = inl memory
  exact_answer (Err e) utf8 h low (inr fault) = inr (refusal_of_utf8 text utf8 ∙ fault)

-- the same of a text of forms
module _ {D : Type 0} (root : D → Tree) (text : List ℕ) where
  pub only_forms : (r : Result D TextError) → IfOk r (λ doc. SpellsAll text (root doc))
      → IfOk r (λ doc. (tree : Tree) → SpellsAll text tree → tree ≡ root doc)
  only_forms (Ok doc) h = λ tree k. unique_forms text tree (root doc) k h
  only_forms (Err e) h = tt

  pub no_forms : (r : Result D TextError) → IfErr r (λ e. (e ≡ OutOfMemory) ⊎ (whole_fault false (shown text) (length text) ≡ Some e))
      → IfErr r (λ e. (e ≡ OutOfMemory) ⊎ ((tree : Tree) → SpellsAll text tree → levels tree ≤ 65 → ⊥))
  no_forms (Ok doc) h = tt
  no_forms (Err e) (inl memory) = inl memory
  no_forms (Err e) (inr fault) = inr (λ tree k low. let none_is = accepted_all text tree k low in cc)

  pub exact_forms : (r : Result D TextError) → IsUtf8 text → IfOk r (λ doc. SpellsAll text (root doc)) → IfOk r (λ doc. levels (root doc) ≤ 65)
      → IfErr r (λ e. (e ≡ OutOfMemory) ⊎ (whole_fault false (shown text) (length text) ≡ Some e))
      → MatchResult r (λ _. refusal_of_all text ≡ None) (λ e. (e ≡ OutOfMemory) ⊎ (refusal_of_all text ≡ Some e))
  exact_forms (Ok doc) utf8 h low k = all_of_utf8 text utf8 ∙ accepted_all text (root doc) h low
  exact_forms (Err e) utf8 h low (inl memory) = inl memory
  exact_forms (Err e) utf8 h low (inr fault) = inr (all_of_utf8 text utf8 ∙ fault)
