-- Trees that are set down one after another.
use Rattle.std.proofs.Common.{◌≡◌, ◌∙◌, refl, sym, ap, subst, ℕ, ◌+◌, ◌-◌, ◌<◌, ◌≤◌, arith, Bool, true, false, cond, List, [], ◌∷◌, ◌++◌, append_assoc, codes, None}
use Rattle.sexpr_read.specs.declared.place.Span.{Span}
use Rattle.sexpr_read.specs.Tree.{Forest, none, list, Tree, leaf, branch, trees, span, is_list, parts, levels_in}
use Rattle.sexpr_read.specs.TreeViews.{trees_left}
use Rattle.list_read.specs.ListHeads.{first_is}
use Rattle.roundtrip_lists.specs.Translated.{place_moved}
use Rattle.roundtrip_lists.specs.Moving.{put_if}
use Rattle.roundtrip_boards.specs.WrittenBoard.{first_at}
use Rattle.board_write.specs.declared.distance.Distance.{Distance}
use Rattle.board_write.specs.declared.setting.Setting.{Setting}
use Rattle.board_write.specs.declared.setting.Left.{Left}
use Rattle.board_write.specs.declared.places.Moving.{Moving}
use Rattle.board_write.specs.declared.places.Moving.TheVariants.{Nothing, First, All}
use Rattle.board_write.specs.Marks.{plain_shift}
use Rattle.board_write.specs.Settings.{grove, inside, gap, rest_of, set_down, updated, within, behind, updated_inside, list_down}
use Rattle.board_write.specs.Opened.{atom_down, IsListOpened}
use Rattle.board_write.proofs.Groves.{grove_parts, deep_first, deep_later, deep_inside}
use Rattle.board_write.proofs.Prefixes.{more}

none_updated : (moving : Moving) → updated moving none ≡ none
none_updated Nothing = refl
none_updated (First by) = refl
none_updated (All by) = refl

atom_updated : (moving : Moving) (t : Tree) (others : Forest) → is_list t ≡ false → (setting : Setting) (from to : ℕ) (first : Bool) (ts : List Tree)
    → set_down setting from to first (updated moving (grove (t ∷ ts))) ≡ gap setting from (span t).at first ++ (atom_down t ++ set_down setting (span t).end to false (updated moving (grove ts)))
atom_updated moving (branch s i) others h setting from to first ts = absurd cc
atom_updated Nothing (leaf s q c) others h setting from to first ts = refl
atom_updated (First by) (leaf s q c) others h setting from to first ts = refl
atom_updated (All by) (leaf s q c) others h setting from to first ts = refl

first_list : (by : Distance) (t : Tree) (ts : List Tree) → is_list t ≡ true → updated (First by) (grove (t ∷ ts)) ≡ list (span t) (updated_inside (First by) (inside t)) (updated (behind (First by) (inside t)) (grove ts))
first_list by (leaf s q c) ts h = absurd cc
first_list by (branch s i) ts h = by_head (first_is (trees i) (codes "at"))
  where
    by_head : (b : Bool) → cond b (list s (put_if (place_moved (plain_shift by) i) i) (grove ts)) (list s i (first_at (plain_shift by) (grove ts)))
        ≡ list s (put_if (cond b (place_moved (plain_shift by) i) None) i) (updated (cond b Nothing (First by)) (grove ts))
    by_head true = refl
    by_head false = refl

list_updated : (moving : Moving) (t : Tree) (ts : List Tree) → is_list t ≡ true → updated moving (grove (t ∷ ts)) ≡ list (span t) (updated_inside moving (inside t)) (updated (behind moving (inside t)) (grove ts))
list_updated Nothing (leaf s q c) ts h = absurd cc
list_updated Nothing (branch s i) ts h = refl
list_updated (First by) t ts h = first_list by t ts h
list_updated (All by) (leaf s q c) ts h = absurd cc
list_updated (All by) (branch s i) ts h = refl

-- ---- what the loop keeps

module _ (setting : Setting) (from to : ℕ) (first : Bool) (moving : Moving) (t : Tree) (left ts : List Tree) (was all : List ℕ)
    (steps : left ≡ t ∷ ts) (holds : was ++ set_down setting from to first (updated moving (grove left)) ≡ all) where
  begun : was ++ set_down setting from to first (updated moving (grove (t ∷ ts))) ≡ all
  begun = ap (λ (l : List Tree). was ++ set_down setting from to first (updated moving (grove l))) (sym steps) ∙ holds

  atom_after : {gapped now : List ℕ} → is_list t ≡ false → gapped ≡ was ++ gap setting from (span t).at first → now ≡ gapped ++ atom_down t
      → now ++ set_down setting (span t).end to false (updated moving (grove ts)) ≡ all
  atom_after {gapped} h g a =
      more gapped (atom_down t) a (set_down setting (span t).end to false (updated moving (grove ts)))
      ∙ more was (gap setting from (span t).at first) g (atom_down t ++ set_down setting (span t).end to false (updated moving (grove ts)))
      ∙ ap (λ (l : List ℕ). was ++ l) (sym (atom_updated moving t none h setting from to first ts)) ∙ begun

  list_after : {gapped opened inner now : List ℕ} (inside_left : Left) → is_list t ≡ true → gapped ≡ was ++ gap setting from (span t).at first → IsListOpened setting moving t gapped opened inside_left
      → inner ≡ opened ++ set_down setting inside_left.from ((span t).end - 1) inside_left.is_first (updated (within moving) (grove (trees_left inside_left.parts))) → now ≡ inner ++ 41 ∷ []
      → now ++ set_down setting (span t).end to false (updated (behind moving (inside t)) (grove ts)) ≡ all
  list_after {gapped} {opened} {inner} inside_left h g o i e =
      let rest : List ℕ = set_down setting (span t).end to false (updated (behind moving (inside t)) (grove ts)) in
      let within_it : List ℕ = set_down setting ((span t).at + 1) ((span t).end - 1) true (updated_inside moving (inside t)) in
      more inner (41 ∷ []) e rest
      ∙ ap (λ (l : List ℕ). l ++ (41 ∷ rest)) (i ∙ o.text ((span t).end - 1))
      ∙ append_assoc gapped (40 ∷ within_it) (41 ∷ rest)
      ∙ more was (gap setting from (span t).at first) g (40 ∷ (within_it ++ (41 ∷ rest)))
      ∙ ap (λ (f : Forest). was ++ set_down setting from to first f) (sym (list_updated moving t ts h))
      ∙ begun

  module _ (s : Span) (same : s ≡ span t) where
    pub after_atom : {gapped now : List ℕ} → is_list t ≡ false → gapped ≡ was ++ gap setting from s.at first → now ≡ gapped ++ atom_down t
        → now ++ set_down setting s.end to false (updated moving (grove ts)) ≡ all
    after_atom {gapped} {now} h g a =
        subst (λ (z : Span). gapped ≡ was ++ gap setting from z.at first → now ++ set_down setting z.end to false (updated moving (grove ts)) ≡ all) (sym same) (λ k. atom_after h k a) g

    pub after_list : {gapped opened inner now : List ℕ} (inside_left : Left) (close : ℕ) → close ≡ s.end - 1 → is_list t ≡ true → gapped ≡ was ++ gap setting from s.at first → IsListOpened setting moving t gapped opened inside_left
        → inner ≡ opened ++ set_down setting inside_left.from close inside_left.is_first (updated (within moving) (grove (trees_left inside_left.parts))) → now ≡ inner ++ 41 ∷ []
        → now ++ set_down setting s.end to false (updated (behind moving (inside t)) (grove ts)) ≡ all
    after_list {gapped} {opened} {inner} {now} inside_left close at h g o i e =
        let closes : close ≡ (span t).end - 1 = at ∙ ap (λ (z : Span). z.end - 1) same in
        let inner_is = subst (λ (c : ℕ). inner ≡ opened ++ set_down setting inside_left.from c inside_left.is_first (updated (within moving) (grove (trees_left inside_left.parts)))) closes i in
        subst (λ (z : Span). gapped ≡ was ++ gap setting from z.at first → now ++ set_down setting z.end to false (updated (behind moving (inside t)) (grove ts)) ≡ all) (sym same) (λ k. list_after inside_left h k o inner_is e) g

pub at_end : (setting : Setting) (from to : ℕ) (first : Bool) (moving : Moving) (left : List Tree) (was now all : List ℕ) → left ≡ [] → was ++ set_down setting from to first (updated moving (grove left)) ≡ all
    → now ≡ was ++ rest_of setting from to → now ≡ all
at_end setting from to first moving left was now all none_left holds e =
    e
    ∙ ap (λ (f : Forest). was ++ set_down setting from to first f) (sym (none_updated moving))
    ∙ ap (λ (l : List Tree). was ++ set_down setting from to first (updated moving (grove l))) (sym none_left)
    ∙ holds

-- the list inside is less deep than all
pub less_inside : (t : Tree) (left ts : List Tree) (deep inner : ℕ) → left ≡ t ∷ ts → is_list t ≡ true → levels_in (grove left) ≤ deep → inner ≤ levels_in (inside t) → inner < deep
less_inside t left ts deep inner e h low small =
    let same : levels_in (grove left) ≡ levels_in (grove (t ∷ ts)) = ap (λ (l : List Tree). levels_in (grove l)) e in
    let one = deep_first t ts in
    let two = deep_inside t h in
    omega (arith, same, one, two, low, small)

pub less_later : (t : Tree) (left ts : List Tree) (deep : ℕ) → left ≡ t ∷ ts → levels_in (grove left) ≤ deep → levels_in (grove ts) ≤ deep
less_later t left ts deep e low =
    let same : levels_in (grove left) ≡ levels_in (grove (t ∷ ts)) = ap (λ (l : List Tree). levels_in (grove l)) e in
    let one = deep_later t ts in
    omega (arith, same, one, low)

-- a list by itself
whole_list : (setting : Setting) (t : Tree) (moving : Moving) (ts : List Tree) (old : List ℕ) {opened inner now : List ℕ} → ts ≡ parts t → opened ≡ old ++ 40 ∷ []
    → inner ≡ opened ++ set_down setting ((span t).at + 1) ((span t).end - 1) true (updated moving (grove ts)) → now ≡ inner ++ 41 ∷ [] → now ≡ old ++ list_down setting (span t) (updated moving (inside t))
whole_list setting t moving ts old {opened} given o i e =
    let written : List ℕ = set_down setting ((span t).at + 1) ((span t).end - 1) true (updated moving (grove ts)) in
    e
    ∙ ap (λ (l : List ℕ). l ++ 41 ∷ []) i
    ∙ append_assoc opened written (41 ∷ [])
    ∙ more old (40 ∷ []) o (written ++ 41 ∷ [])
    ∙ ap (λ (f : Forest). old ++ list_down setting (span t) (updated moving f)) (ap grove given ∙ grove_parts t)

pub list_whole : (setting : Setting) (t : Tree) (moving : Moving) (ts : List Tree) (s : Span) (close : ℕ) (old : List ℕ) {opened inner now : List ℕ} → s ≡ span t → close ≡ s.end - 1 → ts ≡ parts t → opened ≡ old ++ 40 ∷ []
    → inner ≡ opened ++ set_down setting (s.at + 1) close true (updated moving (grove ts)) → now ≡ inner ++ 41 ∷ [] → now ≡ old ++ list_down setting (span t) (updated moving (inside t))
list_whole setting t moving ts s close old {opened} {inner} {now} same at given o i e =
    let closes : close ≡ (span t).end - 1 = at ∙ ap (λ (z : Span). z.end - 1) same in
    let opens : s.at + 1 ≡ (span t).at + 1 = ap (λ (z : Span). z.at + 1) same in
    let inner_to = subst (λ (c : ℕ). inner ≡ opened ++ set_down setting (s.at + 1) c true (updated moving (grove ts))) closes i in
    let inner_is = subst (λ (c : ℕ). inner ≡ opened ++ set_down setting c ((span t).end - 1) true (updated moving (grove ts))) opens inner_to in
    whole_list setting t moving ts old given o inner_is e
