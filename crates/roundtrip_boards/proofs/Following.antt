-- The lists of the written text follow those of the board's text, with the items that the ledger has at the end.
use Rattle.std.proofs.Common.{◌≡◌, ◌∙◌, refl, sym, ap, subst, ℕ, suc, arith, Bool, true, false, cond, List, [], ◌∷◌, ◌++◌, map, length, Option, None, Some, Ok, inl, inr}
use Rattle.std.specs.Prelude.{MatchBool, nat_eq}
use Rattle.std.proofs.lemmas.Bool.{eq-eqb, eqb-true}
use Rattle.sexpr_read.specs.declared.place.Span.{Span}
use Rattle.sexpr_read.specs.Tree.{Forest, none, atom, list, Tree, leaf, branch}
use Rattle.one_item.specs.declared.item.Item.{Item}
use Rattle.board_items.specs.Boards.{PlainBoard}
use Rattle.roundtrip_text.specs.Pieces.{SameTrees}
use Rattle.roundtrip_text.specs.RewrittenText.{Disposition, stays, leaves, inside_by, insides_after}
use Rattle.roundtrip_lists.specs.Translated.{Shift, Translated}
use Rattle.roundtrip_lists.specs.Carried.{shift_of, of_unit}
use Rattle.roundtrip_lists.proofs.Moving.{translated_same, translated_itself}
use Rattle.pcb_read.specs.declared.sorts.Sort.{Sort}
use Rattle.pcb_read.specs.Sorts.{sort_of}
use Rattle.pcb_read.specs.BoardOf.{Reading, with_items, SaysPart}
use Rattle.roundtrip_boards.specs.Roots.{with_units, Goes, ends, stays as part_stays, leaves as unit_leaves, keeps as unit_keeps}
use Rattle.roundtrip_boards.specs.WrittenBoard.{Draft, is_gone, shift_of_unit, moved_if, disposition_by, unit_disposition, list_disposition, DispositionsAre}
use Rattle.roundtrip_boards.specs.Ledger.{Entry, AreNow, IsKept, AreKept}
use Rattle.roundtrip_boards.specs.Reads.{IsUnit, TextReads}
use Rattle.roundtrip_boards.proofs.Commands.{ReadsFrom}

-- ---- the lists of a forest

abbrev pub branches : Forest → List Tree
branches none = []
branches (atom s q c others) = branches others
branches (list s inside others) = branch s inside ∷ branches others

-- trees that have these insides, but for spans
abbrev pub HaveInsides : List Forest → List Tree → Type 0
HaveInsides [] [] = Unit {0}
HaveInsides [] (u ∷ us) = ⊥
HaveInsides (i ∷ is) [] = ⊥
HaveInsides (i ∷ is) (leaf s q c ∷ us) = ⊥
HaveInsides (i ∷ is) (branch s j ∷ us) = SameTrees i j × HaveInsides is us

abbrev pub items_now : Entry → List Item
items_now e = map (λ (x : ℕ × Item). x.1) e.now

module _ (Carries : Sort → Tree → Tree → List Item → List Item → Type 0)
    (carries : (sort : Sort) (s r : Span) (i j : Forest) (o : Option Shift) (e : Entry) → sort_of (branch s i) ≡ Some sort → SameTrees (moved_if o i) j → AreNow (shift_of o) e
    → Carries sort (branch s i) (branch r j) e.read (items_now e))
    (nothing : (sort : Sort) (s r : Span) (i j : Forest) → sort_of (branch s i) ≡ Some sort → Translated None i j → Carries sort (branch s i) (branch r j) [] [])
    (same_sort : (s r : Span) (i j : Forest) (o : Option Shift) → SameTrees (moved_if o i) j → sort_of (branch r j) ≡ sort_of (branch s i))
    (grows : (a next : Reading) (t : Tree) (i : Item) (items : List Item) → IsUnit a next t (i ∷ items) → next.board.next_unit ≡ suc a.board.next_unit)
    (one_next : (a next other : Reading) (t : Tree) → SaysPart a t (Ok next) → SaysPart a t (Ok other) → other ≡ next)
    (draft : Draft) where
  -- what follows: the items of the units that are there, and the rest of the ledger
  pub record Follows (a z : Reading) (ts us : List Tree) (es fs : List Entry) : Type 0 where
    pub units : List (List Item)
    pub used : List Entry
    pub left : List Entry
    pub split : fs ≡ used ++ left
    pub count : length used ≡ length es
    pub items : (c : PlainBoard) → with_units c units ≡ with_units c (map items_now used)
    pub goes : Goes Carries a ts z us units
    pub kept : AreKept draft z.board.next_unit left

  -- a part that gives no unit has one tree in the written text
  plain_disposition : (a next : Reading) (i : Forest) → next.board.next_unit ≡ a.board.next_unit → list_disposition draft a next i ≡ stays
  plain_disposition a next i e = rw (eq-eqb a.board.next_unit next.board.next_unit (sym e)) refl

  unit_disposition_is : (a next : Reading) (i : Forest) → next.board.next_unit ≡ suc a.board.next_unit → list_disposition draft a next i ≡ unit_disposition draft i (Some a.board.next_unit)
  unit_disposition_is a next i e = by_test (nat_eq a.board.next_unit next.board.next_unit) refl
    where
      by_test : (b : Bool) → nat_eq a.board.next_unit next.board.next_unit ≡ b → list_disposition draft a next i ≡ unit_disposition draft i (Some a.board.next_unit)
      by_test true t = absurd (let k = eqb-true a.board.next_unit next.board.next_unit t in omega (arith, k, e))
      by_test false t = rw t refl

  disposition_inside : (o : Option Shift) (i : Forest) → inside_by i (disposition_by o i) ≡ moved_if o i ∷ []
  disposition_inside None i = refl
  disposition_inside (Some by) i = refl

  -- the one tree of a list that is there, before others
  one_inside : (i : Forest) (is : List Forest) (us : List Tree) → HaveInsides (i ∷ is) us → (r : Span) × (j : Forest) × (others : List Tree) × (us ≡ branch r j ∷ others) × SameTrees i j × HaveInsides is others
  one_inside i is [] h = absurd h
  one_inside i is (leaf s q c ∷ us) h = absurd h
  one_inside i is (branch r j ∷ us) h = (r, j, us, refl, h.0, h.1)

  same_none : (i j : Forest) → SameTrees i j → Translated None i j
  same_none i j h = translated_same None i i j (translated_itself i) h

  none_left : (us : List Tree) → HaveInsides [] us → us ≡ []
  none_left [] h = refl
  none_left (u ∷ us) h = absurd h

  abbrev Rest : Forest → Type 0
  Rest f = (a z : Reading) (dispositions : List Disposition) (es fs : List Entry) (us : List Tree) → TextReads a (branches f) z es → DispositionsAre draft a (branches f) dispositions → ReadsFrom es fs → AreKept draft a.board.next_unit fs
      → HaveInsides (insides_after dispositions f) us → Follows a z (branches f) us es fs

  module _ (s : Span) (i others : Forest) (more : Rest others) (a z : Reading) (us : List Tree) where
    plain_part : (next : Reading) (dispositions : List Disposition) (es fs : List Entry) → sort_of (branch s i) ≡ None → SaysPart a (branch s i) (Ok next) → next.board.next_unit ≡ a.board.next_unit → TextReads next (branches others) z es
        → DispositionsAre draft next (branches others) dispositions → ReadsFrom es fs → AreKept draft a.board.next_unit fs → HaveInsides (i ∷ insides_after dispositions others) us → Follows a z (branches (list s i others)) us es fs
    plain_part next dispositions es fs no_sort says same reads disposition from kept inside =
        let o = one_inside i (insides_after dispositions others) us inside in
        let rest = more next z dispositions es fs o.2 reads disposition from (subst (λ n. AreKept draft n fs) (sym same) kept) o.5 in
        record {
          units = rest.units;
          used = rest.used;
          left = rest.left;
          split = rest.split;
          count = rest.count;
          items = rest.items;
          goes = subst (λ (l : List Tree). Goes Carries a (branches (list s i others)) z l rest.units) (sym o.3) (part_stays no_sort (same_none i o.1 o.4) says rest.goes);
          kept = rest.kept;
        }

    empty_unit : (next : Reading) (dispositions : List Disposition) (es fs : List Entry) (unit : IsUnit a next (branch s i) []) → TextReads next (branches others) z es → DispositionsAre draft next (branches others) dispositions → ReadsFrom es fs
        → AreKept draft a.board.next_unit fs → HaveInsides (i ∷ insides_after dispositions others) us → Follows a z (branches (list s i others)) us es fs
    empty_unit next dispositions es fs unit reads disposition from kept inside =
        let o = one_inside i (insides_after dispositions others) us inside in
        let same : next.board.next_unit ≡ a.board.next_unit = ap (λ (r : Reading). r.board.next_unit) unit.after in
        let rest = more next z dispositions es fs o.2 reads disposition from (subst (λ n. AreKept draft n fs) (sym same) kept) o.5 in
        let sorts : sort_of (branch o.0 o.1) ≡ Some unit.sort = same_sort s o.0 i o.1 None o.4 ∙ unit.is_sort in
        record {
          units = [] ∷ rest.units;
          used = rest.used;
          left = rest.left;
          split = rest.split;
          count = rest.count;
          items = rest.items;
          goes = subst (λ (l : List Tree). Goes Carries a (branches (list s i others)) z l ([] ∷ rest.units)) (sym o.3)
              (unit_keeps unit.sort unit.is_sort sorts unit.says (nothing unit.sort s o.0 i o.1 unit.is_sort (same_none i o.1 o.4)) unit.after rest.goes);
          kept = rest.kept;
        }

    gone_unit : (next : Reading) (dispositions : List Disposition) (es fs : List Entry) (items : List Item) (e f : Entry) → f.now ≡ [] → (unit : IsUnit a next (branch s i) items) → SaysPart a (branch s i) (Ok next) → next.board.next_unit ≡ suc a.board.next_unit
        → TextReads next (branches others) z es → DispositionsAre draft next (branches others) dispositions → ReadsFrom es fs → AreKept draft (suc a.board.next_unit) fs → HaveInsides (insides_after dispositions others) us
        → Follows a z (branches (list s i others)) us (e ∷ es) (f ∷ fs)
    gone_unit next dispositions es fs items e f empty unit says grown reads disposition from kept inside =
        let rest = more next z dispositions es fs us reads disposition from (subst (λ n. AreKept draft n fs) (sym grown) kept) inside in
        let none_now : items_now f ≡ [] = ap (λ (l : List (ℕ × Item)). map (λ (x : ℕ × Item). x.1) l) empty in
        record {
          units = rest.units;
          used = f ∷ rest.used;
          left = rest.left;
          split = ap (λ (l : List Entry). f ∷ l) rest.split;
          count = ap suc rest.count;
          items = λ c. rest.items c ∙ ap (λ (l : List Item). with_units (with_items c (of_unit c.next_unit l)) (map items_now rest.used)) (sym none_now);
          goes = unit_leaves unit.sort unit.is_sort says rest.goes;
          kept = rest.kept;
        }

    kept_unit : (next : Reading) (dispositions : List Disposition) (es fs : List Entry) (items : List Item) (was e : Entry) (unit : IsUnit a next (branch s i) items) → next.board.next_unit ≡ suc a.board.next_unit → e.read ≡ items
        → AreNow (shift_of (shift_of_unit draft a.board.next_unit)) e → TextReads next (branches others) z es → DispositionsAre draft next (branches others) dispositions → ReadsFrom es fs → AreKept draft (suc a.board.next_unit) fs
        → HaveInsides (moved_if (shift_of_unit draft a.board.next_unit) i ∷ insides_after dispositions others) us → Follows a z (branches (list s i others)) us (was ∷ es) (e ∷ fs)
    kept_unit next dispositions es fs items was e unit grown same now reads disposition from kept inside =
        let shift : Option Shift = shift_of_unit draft a.board.next_unit in
        let o = one_inside (moved_if shift i) (insides_after dispositions others) us inside in
        let rest = more next z dispositions es fs o.2 reads disposition from (subst (λ n. AreKept draft n fs) (sym grown) kept) o.5 in
        let sorts : sort_of (branch o.0 o.1) ≡ Some unit.sort = same_sort s o.0 i o.1 shift o.4 ∙ unit.is_sort in
        let carried : Carries unit.sort (branch s i) (branch o.0 o.1) items (items_now e) =
        subst (λ (l : List Item). Carries unit.sort (branch s i) (branch o.0 o.1) l (items_now e)) same (carries unit.sort s o.0 i o.1 shift e unit.is_sort o.4 now) in
        record {
          units = items_now e ∷ rest.units;
          used = e ∷ rest.used;
          left = rest.left;
          split = ap (λ (l : List Entry). e ∷ l) rest.split;
          count = ap suc rest.count;
          items = λ c. rest.items (with_items c (of_unit c.next_unit (items_now e)));
          goes = subst (λ (l : List Tree). Goes Carries a (branches (list s i others)) z l (items_now e ∷ rest.units)) (sym o.3) (unit_keeps unit.sort unit.is_sort sorts unit.says carried unit.after rest.goes);
          kept = rest.kept;
        }

    -- a unit with items: the first entry of the ledger is its own
    with_entry : (next : Reading) (dispositions : List Disposition) (es fs : List Entry) (items : List Item) (e f : Entry) (unit : IsUnit a next (branch s i) items) → SaysPart a (branch s i) (Ok next) → next.board.next_unit ≡ suc a.board.next_unit
        → e.read ≡ items → f.read ≡ e.read → IsKept draft a.board.next_unit f → TextReads next (branches others) z es → DispositionsAre draft next (branches others) dispositions → ReadsFrom es fs → AreKept draft (suc a.board.next_unit) fs
        → HaveInsides (inside_by i (unit_disposition draft i (Some a.board.next_unit)) ++ insides_after dispositions others) us → Follows a z (branches (list s i others)) us (e ∷ es) (f ∷ fs)
    with_entry next dispositions es fs items e f unit says grown reads_e reads_f own reads disposition from kept inside = by_gone (is_gone draft a.board.next_unit) refl own.items inside
      where
        by_gone : (b : Bool) → is_gone draft a.board.next_unit ≡ b → MatchBool b (f.now ≡ []) (AreNow (shift_of (shift_of_unit draft a.board.next_unit)) f)
            → HaveInsides (inside_by i (cond b leaves (disposition_by (shift_of_unit draft a.board.next_unit) i)) ++ insides_after dispositions others) us → Follows a z (branches (list s i others)) us (e ∷ es) (f ∷ fs)
        by_gone true g empty inside = gone_unit next dispositions es fs items e f empty unit says grown reads disposition from kept inside
        by_gone false g now inside =
            kept_unit next dispositions es fs items e f unit grown (reads_f ∙ reads_e) now reads disposition from kept
            (subst (λ (l : List Forest). HaveInsides (l ++ insides_after dispositions others) us) (disposition_inside (shift_of_unit draft a.board.next_unit) i) inside)

  pub follows : (f : Forest) → Rest f
  follows none a z dispositions es fs us (reads, no_entries) disposition from kept inside =
      let none_there = none_left us inside in
      record {
        units = [];
        used = [];
        left = fs;
        split = refl;
        count = sym (ap length no_entries);
        items = λ c. refl;
        goes = subst (λ (r : Reading). Goes Carries a [] r us []) (sym reads) (subst (λ (l : List Tree). Goes Carries a [] a l []) (sym none_there) ends);
        kept = subst (λ (r : Reading). AreKept draft r.board.next_unit fs) (sym reads) kept;
      }
  follows (atom s q c others) a z dispositions es fs us reads disposition from kept inside = follows others a z dispositions es fs us reads disposition from kept inside
  follows (list s i others) a z dispositions es fs us (inl (next, no_sort, says, same, reads)) (other, more, said, disposition, are) from kept inside =
      let one : other ≡ next = one_next a next other (branch s i) says said in
      let list_is : list_disposition draft a other i ≡ stays = plain_disposition a other i (ap (λ (r : Reading). r.board.next_unit) one ∙ same) in
      let there : HaveInsides (i ∷ insides_after more others) us =
      subst (λ (x : Disposition). HaveInsides (inside_by i x ++ insides_after more others) us) list_is (subst (λ (l : List Disposition). HaveInsides (insides_after l (list s i others)) us) are inside) in
      plain_part s i others (follows others) a z us next more es fs no_sort says same reads (subst (λ (r : Reading). DispositionsAre draft r (branches others) more) one disposition) from kept there
  follows (list s i others) a z dispositions es fs us (inr (next, [], unit, says, reads)) (other, more, said, disposition, are) from kept inside =
      let one : other ≡ next = one_next a next other (branch s i) says said in
      let same : next.board.next_unit ≡ a.board.next_unit = ap (λ (r : Reading). r.board.next_unit) unit.after in
      let list_is : list_disposition draft a other i ≡ stays = plain_disposition a other i (ap (λ (r : Reading). r.board.next_unit) one ∙ same) in
      let there : HaveInsides (i ∷ insides_after more others) us =
      subst (λ (x : Disposition). HaveInsides (inside_by i x ++ insides_after more others) us) list_is (subst (λ (l : List Disposition). HaveInsides (insides_after l (list s i others)) us) are inside) in
      empty_unit s i others (follows others) a z us next more es fs unit reads (subst (λ (r : Reading). DispositionsAre draft r (branches others) more) one disposition) from kept there
  follows (list s i others) a z dispositions [] fs us (inr (next, item ∷ items, unit, says, reads)) found from kept inside = absurd reads
  follows (list s i others) a z dispositions (e ∷ es) [] us (inr (next, item ∷ items, unit, says, reads)) found from kept inside = absurd from
  follows (list s i others) a z dispositions (e ∷ es) (f ∷ fs) us (inr (next, item ∷ items, unit, says, reads)) (other, more, said, disposition, are) from kept inside =
      let one : other ≡ next = one_next a next other (branch s i) says said in
      let grown = grows a next (branch s i) item items unit in
      let list_is : list_disposition draft a other i ≡ unit_disposition draft i (Some a.board.next_unit) = unit_disposition_is a other i (ap (λ (r : Reading). r.board.next_unit) one ∙ grown) in
      let there : HaveInsides (inside_by i (unit_disposition draft i (Some a.board.next_unit)) ++ insides_after more others) us =
      subst (λ (x : Disposition). HaveInsides (inside_by i x ++ insides_after more others) us) list_is (subst (λ (l : List Disposition). HaveInsides (insides_after l (list s i others)) us) are inside) in
      with_entry s i others (follows others) a z us next more es fs (item ∷ items) e f unit says grown reads.0 from.0 kept.0 reads.1 (subst (λ (r : Reading). DispositionsAre draft r (branches others) more) one disposition) from.1 kept.1 there
