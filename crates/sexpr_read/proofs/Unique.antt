-- No part of a text spells two forests.
use Rattle.std.proofs.Common.{◌≡◌, ◌⊎◌, inl, inr, ℕ, suc, ◌+◌, ◌-◌, ◌≤◌, ◌<◌, true, false, Bool, List, length, refl, sym, ◌∙◌, ap, arith}
use Rattle.std.proofs.lemmas.Bool.{cases_order}
use Rattle.std.specs.Prelude.{slice_range}
use Rattle.sexpr_read.specs.declared.place.Span.{Span}
use Rattle.sexpr_read.specs.declared.bytes.ByteClass.{ByteClass}
use Rattle.sexpr_read.specs.declared.bytes.ByteClass.TheVariants.{Space, Open, Close, Quote, Backslash, Plain}
use Rattle.sexpr_read.specs.ByteClasses.{is_word, is_itself, sign_of}
use Rattle.sexpr_read.specs.Comments.{shown}
use Rattle.sexpr_read.specs.Tree.{Forest, none, atom, list, Tree, leaf, branch}
use Rattle.sexpr_read.specs.Spelling.{IsSpaceBetween, IsWord, IsContent, empty, itself, escape, IsString, IsAtom, SpellsForest, Spells, SpellsAll}

-- a tree may begin so
pub record IsHead (c : ByteClass) : Type 0 where
  pub no_space : c ≡ Space → ⊥
  pub no_close : c ≡ Close → ⊥

pub word_head : (c : ByteClass) → is_word c ≡ true → IsHead c
word_head Plain e = record { no_space = λ h. cc; no_close = λ h. cc }
word_head Backslash e = record { no_space = λ h. cc; no_close = λ h. cc }
word_head Space e = cc
word_head Open e = cc
word_head Close e = cc
word_head Quote e = cc

open_head : (c : ByteClass) → c ≡ Open → IsHead c
open_head c e = record { no_space = λ h. cc; no_close = λ h. cc }

quote_head : (c : ByteClass) → c ≡ Quote → IsHead c
quote_head c e = record { no_space = λ h. cc; no_close = λ h. cc }

word_opens_no_list : (c : ByteClass) → is_word c ≡ true → c ≡ Open → ⊥
word_opens_no_list c e h = let f : is_word Open ≡ true = rw h at e in cc

word_opens_no_string : (c : ByteClass) → is_word c ≡ true → c ≡ Quote → ⊥
word_opens_no_string c e h = let f : is_word Quote ≡ true = rw h at e in cc

same_span : (s t : Span) → s.at ≡ t.at → s.end ≡ t.end → s ≡ t
same_span s t p q =
    let made : ℕ → ℕ → Span = λ x y. record { at = x; end = y } in
    ap (λ x. made x s.end) p ∙ ap (made t.at) q

module _ (sign : ℕ → ByteClass) (text : List ℕ) where
  pub word_first : (a b : ℕ) → IsWord sign a b → is_word (sign a) ≡ true
  word_first a b w = w.each a (omega arith) w.ordered

  pub atom_head : (s : Span) (q : Bool) (bytes : List ℕ) → IsAtom sign text s q bytes → IsHead (sign s.at)
  atom_head s false bytes h = word_head (sign s.at) (word_first s.at s.end h.0)
  atom_head s true bytes h = quote_head (sign s.at) h.0.opens

  atom_opens_no_list : (s : Span) (q : Bool) (bytes : List ℕ) → IsAtom sign text s q bytes → sign s.at ≡ Open → ⊥
  atom_opens_no_list s false bytes h e = word_opens_no_list (sign s.at) (word_first s.at s.end h.0) e
  atom_opens_no_list s true bytes h e = let f : Quote ≡ Open = sym h.0.opens ∙ e in cc

  pub content_ordered : {a b : ℕ} → IsContent sign a b → a ≤ b
  content_ordered empty = omega arith
  content_ordered (itself e more) = let h = content_ordered more in omega (arith, h)
  content_ordered (escape e more) = let h = content_ordered more in omega (arith, h)

  pub string_ordered : (a b : ℕ) → IsString sign a b → a + 2 ≤ b
  string_ordered a b s = omega (arith, content_ordered s.inside, s.ends)

  pub atom_ordered : (s : Span) (q : Bool) (bytes : List ℕ) → IsAtom sign text s q bytes → s.at < s.end
  atom_ordered s false bytes h = h.0.ordered
  atom_ordered s true bytes h = omega (arith, string_ordered s.at s.end h.0)

  pub forest_ordered : (f : Forest) (a b : ℕ) → SpellsForest sign text a b f → a ≤ b
  forest_ordered none a b h = h.ordered
  forest_ordered (atom s q bytes others) a b h =
      omega (arith, h.0.ordered, atom_ordered s q bytes h.1, forest_ordered others s.end b h.2)
  forest_ordered (list s inside others) a b h =
      omega (arith, h.0.ordered, forest_ordered inside (suc s.at) h.2.0 h.2.2, h.2.1, forest_ordered others s.end b h.3)

  gap_end : (a p q : ℕ) → IsSpaceBetween sign a p → IsSpaceBetween sign a q → (sign p ≡ Space → ⊥) → (sign q ≡ Space → ⊥) → p ≡ q
  gap_end a p q g h np nq = elim (cases_order p q) [
    | inl e ↦ e
    | inr o ↦ elim o [
      | inl lt ↦ absurd (np (h.blank p g.ordered lt))
      | inr gt ↦ absurd (nq (g.blank q h.ordered gt))
    ]
  ]

  word_end : (a b c : ℕ) → IsWord sign a b → IsWord sign a c → b ≡ c
  word_end a b c v w = elim (cases_order b c) [
    | inl e ↦ e
    | inr o ↦ elim o [
      | inl lt ↦ (let yes : is_word (sign b) ≡ true = w.each b (omega (arith, v.ordered)) lt in let no = v.longest in cc)
      | inr gt ↦ (let yes : is_word (sign c) ≡ true = v.each c (omega (arith, w.ordered)) gt in let no = w.longest in cc)
    ]
  ]

  itself_is_no_quote : (p : ℕ) → is_itself (sign p) ≡ true → sign p ≡ Quote → ⊥
  itself_is_no_quote p e h = let f : is_itself Quote ≡ true = rw h at e in cc

  itself_is_no_backslash : (p : ℕ) → is_itself (sign p) ≡ true → sign p ≡ Backslash → ⊥
  itself_is_no_backslash p e h = let f : is_itself Backslash ≡ true = rw h at e in cc

  content_end : {a b c : ℕ} → IsContent sign a b → IsContent sign a c → sign b ≡ Quote → sign c ≡ Quote → b ≡ c
  content_end empty empty hb hc = refl
  content_end empty (itself {from = p} e more) hb hc = absurd (itself_is_no_quote p e hb)
  content_end empty (escape e more) hb hc = cc
  content_end (itself {from = p} e more) empty hb hc = absurd (itself_is_no_quote p e hc)
  content_end (itself {from = p} e more) (itself f others) hb hc = content_end more others hb hc
  content_end (itself {from = p} e more) (escape f others) hb hc = absurd (itself_is_no_backslash p e f)
  content_end (escape {from = p} e more) empty hb hc = cc
  content_end (escape {from = p} e more) (itself f others) hb hc = absurd (itself_is_no_backslash p f e)
  content_end (escape {from = p} e more) (escape f others) hb hc = content_end more others hb hc

  string_end : (a b c : ℕ) → IsString sign a b → IsString sign a c → b ≡ c
  string_end a b c s t = s.ends ∙ ap suc (content_end s.inside t.inside s.closes t.closes) ∙ sym t.ends

  -- two ends of forests that begin at one place: brackets, or the same place
  abbrev pub Ends : ℕ → ℕ → Type 0
  Ends b c = ((sign b ≡ Close) × (sign c ≡ Close)) ⊎ (b ≡ c)

  close_is_no_space : (p : ℕ) → sign p ≡ Close → sign p ≡ Space → ⊥
  close_is_no_space p e h = cc

  -- where one forest has ended no tree of the other begins
  no_head : (a b c p : ℕ) → IsSpaceBetween sign a b → IsSpaceBetween sign a p → IsHead (sign p) → p < c → Ends b c → ⊥
  no_head a b c p g h head before (inl e) =
      head.no_close (ap sign (gap_end a p b h g head.no_space (close_is_no_space b e.0)) ∙ e.0)
  no_head a b c p g h head before (inr e) = head.no_space (g.blank p h.ordered (omega (arith, e)))

  ends_sym : (b c : ℕ) → Ends b c → Ends c b
  ends_sym b c (inl e) = inl (e.1, e.0)
  ends_sym b c (inr e) = inr (sym e)

  same_atom : (s t : Span) (q r : Bool) (x y : List ℕ) → s.at ≡ t.at → IsAtom sign text s q x → IsAtom sign text t r y
      → (s ≡ t) × (q ≡ r) × (x ≡ y)
  same_atom s t false false x y e h k =
      let ends : s.end ≡ t.end = word_end s.at s.end t.end h.0 (rw e k.0) in
      let same : s ≡ t = same_span s t e ends in
      (same, refl, h.1 ∙ ap (λ (z : Span). slice_range text z.at z.end) same ∙ sym k.1)
  same_atom s t true true x y e h k =
      let ends : s.end ≡ t.end = string_end s.at s.end t.end h.0 (rw e k.0) in
      let same : s ≡ t = same_span s t e ends in
      (same, refl, h.1 ∙ ap (λ (z : Span). slice_range text (z.at + 1) (z.end - 1)) same ∙ sym k.1)
  same_atom s t false true x y e h k = absurd (word_opens_no_string (sign s.at) (word_first s.at s.end h.0) (ap sign e ∙ k.0.opens))
  same_atom s t true false x y e h k = absurd (word_opens_no_string (sign t.at) (word_first t.at t.end k.0) (ap sign (sym e) ∙ h.0.opens))

  pub unique_forest : (f g : Forest) (a b c : ℕ) → SpellsForest sign text a b f → SpellsForest sign text a c g → Ends b c → (f ≡ g) × (b ≡ c)
  unique_forest none none a b c h k (inl e) = (refl, gap_end a b c h k (close_is_no_space b e.0) (close_is_no_space c e.1))
  unique_forest none none a b c h k (inr e) = (refl, e)
  unique_forest none (atom t r y more) a b c h k e =
      absurd (no_head a b c t.at h k.0 (atom_head t r y k.1) (omega (arith, atom_ordered t r y k.1, forest_ordered more t.end c k.2)) e)
  unique_forest none (list t inner more) a b c h k e =
      absurd (no_head a b c t.at h k.0 (open_head (sign t.at) k.1)
      (omega (arith, forest_ordered inner (suc t.at) k.2.0 k.2.2, k.2.1, forest_ordered more t.end c k.3)) e)
  unique_forest (atom s q x others) none a b c h k e =
      absurd (no_head a c b s.at k h.0 (atom_head s q x h.1) (omega (arith, atom_ordered s q x h.1, forest_ordered others s.end b h.2)) (ends_sym b c e))
  unique_forest (list s inside others) none a b c h k e =
      absurd (no_head a c b s.at k h.0 (open_head (sign s.at) h.1)
      (omega (arith, forest_ordered inside (suc s.at) h.2.0 h.2.2, h.2.1, forest_ordered others s.end b h.3)) (ends_sym b c e))
  unique_forest (atom s q x others) (atom t r y more) a b c h k e =
      let at : s.at ≡ t.at = gap_end a s.at t.at h.0 k.0 (atom_head s q x h.1).no_space (atom_head t r y k.1).no_space in
      let same = same_atom s t q r x y at h.1 k.1 in
      let ends : s.end ≡ t.end = ap (λ (z : Span). z.end) same.0 in
      let rest = unique_forest others more s.end b c h.2 (rw ends k.2) e in
      (cc, rest.1)
  unique_forest (atom s q x others) (list t inner more) a b c h k e =
      let at : s.at ≡ t.at = gap_end a s.at t.at h.0 k.0 (atom_head s q x h.1).no_space (open_head (sign t.at) k.1).no_space in
      absurd (atom_opens_no_list s q x h.1 (ap sign at ∙ k.1))
  unique_forest (list s inside others) (atom t r y more) a b c h k e =
      let at : s.at ≡ t.at = gap_end a s.at t.at h.0 k.0 (open_head (sign s.at) h.1).no_space (atom_head t r y k.1).no_space in
      absurd (atom_opens_no_list t r y k.1 (ap sign (sym at) ∙ h.1))
  unique_forest (list s inside others) (list t inner more) a b c h k e =
      let at : s.at ≡ t.at = gap_end a s.at t.at h.0 k.0 (open_head (sign s.at) h.1).no_space (open_head (sign t.at) k.1).no_space in
      let within = unique_forest inside inner (suc s.at) h.2.0 k.2.0 h.2.2 (rw at k.2.2) (inl (h.2.3, k.2.3)) in
      let ends : s.end ≡ t.end = h.2.1 ∙ ap suc within.1 ∙ sym k.2.1 in
      let same : s ≡ t = same_span s t at ends in
      let rest = unique_forest others more s.end b c h.3 (rw ends k.3) e in
      (cc, rest.1)

-- no text spells two trees
pub unique_tree : (text : List ℕ) (s t : Tree) → Spells text s → Spells text t → s ≡ t
unfolding Spells
unique_tree text (leaf s q x) t h k = absurd h
unique_tree text (branch s inside) (leaf t q x) h k = absurd k
unique_tree text (branch s inside) (branch t inner) h k =
    let same = (unique_forest (sign_of text) text (list s inside none) (list t inner none) 0 (length text) (length text) h.1 k.1 (inr refl)).0 in cc

-- no text spells two lists of forms
pub unique_forms : (text : List ℕ) (s t : Tree) → SpellsAll text s → SpellsAll text t → s ≡ t
unfolding SpellsAll
unique_forms text (leaf s q x) t h k = absurd h
unique_forms text (branch s inside) (leaf t q x) h k = absurd k
unique_forms text (branch s inside) (branch t inner) h k =
    let same = (unique_forest (shown text) text inside inner 0 (length text) (length text) h.2 k.2 (inr refl)).0 in
    let place : s ≡ t = h.1 ∙ sym k.1 in cc
