-- Put together: the written text is read as the board after the commands.
use Rattle.std.proofs.Common.{◌≡◌, ◌∙◌, refl, sym, ap, subst, ℕ, suc, ◌+◌, ◌≤◌, arith, Bool, true, List, [], ◌∷◌, ◌++◌, map, length, length-append, append-nil, Option, None, Some, Result, Ok, inl, inr}
use Rattle.std.proofs.lemmas.List.{length-map}
use Rattle.std.specs.List.{AllZip, slice_get}
use Rattle.sexpr_read.specs.declared.place.Span.{Span}
use Rattle.sexpr_read.specs.Tree.{Forest, none, atom, list, Tree, leaf, branch, trees}
use Rattle.board_errors.specs.declared.errors.BoardError.{BoardError}
use Rattle.one_item.specs.declared.item.Item.{Item}
use Rattle.board_items.specs.Boards.{PlainBoard}
use Rattle.roundtrip_text.specs.Pieces.{SameTrees}
use Rattle.roundtrip_text.specs.RewrittenText.{Disposition, insides, insides_after}
use Rattle.roundtrip_text.specs.Edited.{SpellsEdited}
use Rattle.roundtrip_lists.specs.Translated.{Shift, Translated, TranslatedTrees}
use Rattle.roundtrip_lists.specs.Carried.{shift_of, of_unit, ItemsOf}
use Rattle.pcb_read.specs.declared.sorts.Sort.{Sort}
use Rattle.pcb_read.specs.Sorts.{sort_of}
use Rattle.pcb_read.specs.ItemsOf.{SaysItems, has_capacity}
use Rattle.pcb_read.specs.ItemText.{SaysBy, SaysList}
use Rattle.pcb_read.specs.BoardOf.{Reading, unread, with_items, with_other, SaysPartBy, SaysParts}
use Rattle.roundtrip_boards.specs.Roots.{SameLayersAndNets, SameItems, with_units, total, Goes}
use Rattle.roundtrip_boards.specs.TextChanges.{Change, ChangeAll}
use Rattle.roundtrip_boards.specs.WrittenBoard.{Draft, untouched, with_changes, moved_if, added_trees, DispositionsAre}
use Rattle.roundtrip_boards.specs.Ledger.{Entry, all_now, AreNow, AreKept, IsLedger, SameReads}
use Rattle.roundtrip_boards.specs.Reads.{IsUnit, TextReads}
use Rattle.roundtrip_boards.specs.AddedReads.{AddedRead, ends}
use Rattle.roundtrip_boards.specs.SameBoards.{IsSameItem}
use Rattle.roundtrip_boards.proofs.Roots.{same_units, count_with, transfer}
use Rattle.roundtrip_boards.proofs.Commands.{ReadsFrom, same_itself, reads_same}
use Rattle.roundtrip_boards.proofs.Following.{branches, HaveInsides, items_now, follows}
use Rattle.roundtrip_boards.proofs.Starting.{starts}
use Rattle.roundtrip_boards.proofs.Plain.{one_next, atom_sort, atom_other, lists_only, with_atoms}
use Rattle.roundtrip_boards.proofs.Grouping.{Grouped, same_items, Share, share_units, read_back, reads_back, are_grouped}
use Rattle.roundtrip_boards.proofs.Adding.{adds}
use Rattle.roundtrip_boards.proofs.Staging.{kept_count, length_reads, Stage, stages}

-- ---- small lemmas

have_insides : (f g : Forest) → SameTrees f g → HaveInsides (insides f) (branches g)
have_insides none none h = tt
have_insides none (atom t r d rest) h = absurd h
have_insides none (list t within rest) h = absurd h
have_insides (atom s q c others) none h = absurd h
have_insides (atom s q c others) (atom t r d rest) h = have_insides others rest h.2
have_insides (atom s q c others) (list t within rest) h = absurd h
have_insides (list s inside others) none h = absurd h
have_insides (list s inside others) (atom t r d rest) h = absurd h
have_insides (list s inside others) (list t within rest) h = (h.0, have_insides others rest h.1)

have_split : (xs ys : List Forest) (us : List Tree) → HaveInsides (xs ++ ys) us → (vs : List Tree) × (ws : List Tree) × (us ≡ vs ++ ws) × HaveInsides xs vs × HaveInsides ys ws
have_split [] ys us h = ([], us, refl, tt, h)
have_split (x ∷ xs) ys [] h = absurd h
have_split (x ∷ xs) ys (leaf s q c ∷ us) h = absurd h
have_split (x ∷ xs) ys (branch s j ∷ us) h = let k = have_split xs ys us h.1 in (branch s j ∷ k.0, k.1, ap (λ (l : List Tree). branch s j ∷ l) k.2, (h.0, k.3), k.4)

parts_join : (ts us : List Tree) (a b c : Reading) → SaysParts a ts (Ok b) → SaysParts b us (Ok c) → SaysParts a (ts ++ us) (Ok c)
parts_join [] us a b c h k = let same : b ≡ a = cc in subst (λ (r : Reading). SaysParts r us (Ok c)) same k
parts_join (t ∷ ts) us a b c (inl (next, says, more)) k = inl (next, says, parts_join ts us next b c more k)
parts_join (t ∷ ts) us a b c (inr (e, says, is)) k = absurd cc

append_same : (xs ys us vs : List Entry) → xs ++ ys ≡ us ++ vs → length xs ≡ length us → (xs ≡ us) × (ys ≡ vs)
append_same [] ys [] vs e l = (refl, e)
append_same [] ys (u ∷ us) vs e l = absurd (omega (arith, l))
append_same (x ∷ xs) ys [] vs e l = absurd (omega (arith, l))
append_same (x ∷ xs) ys (u ∷ us) vs e l =
    let first : x ≡ u = cc in
    let rest : xs ++ ys ≡ us ++ vs = cc in
    let k = append_same xs ys us vs rest (omega (arith, l)) in
    (ap (λ (z : Entry). z ∷ xs) first ∙ ap (λ (z : List Entry). u ∷ z) k.0, k.1)

reads_front : (xs ys zs : List Entry) → ReadsFrom xs ys → ReadsFrom xs (ys ++ zs)
reads_front [] ys zs h = tt
reads_front (x ∷ xs) [] zs h = absurd h
reads_front (x ∷ xs) (y ∷ ys) zs h = (h.0, reads_front xs ys zs h.1)

count_units : (c : PlainBoard) (units : List (List Item)) → length (with_units c units).items ≡ length c.items + total units
count_units c [] = omega arith
count_units c (now ∷ units) =
    let more : List Item = of_unit c.next_unit now in
    let l : length more ≡ length now = length-map now (λ (x : Item). record x { unit = c.next_unit }) in
    let n = count_with c more in
    let k = count_units (with_items c more) units in
    omega (arith, l, n, k)

total_now : (es : List Entry) → total (map items_now es) ≡ length (all_now es)
total_now [] = refl
total_now (e ∷ es) =
    let l : length (items_now e) ≡ length e.now = length-map e.now (λ (x : ℕ × Item). x.1) in
    let n = length-append e.now (all_now es) in
    let k = total_now es in
    omega (arith, l, n, k)

all_append : (es fs : List Entry) → length (all_now (es ++ fs)) ≡ length (all_now es) + length (all_now fs)
all_append [] fs = omega arith
all_append (e ∷ es) fs = let k = all_append es fs in let a = length-append e.now (all_now (es ++ fs)) in let b = length-append e.now (all_now es) in omega (arith, k, a, b)

units_join : (c : PlainBoard) (es fs : List Entry) → with_units c (map items_now (es ++ fs)) ≡ with_units (with_units c (map items_now es)) (map items_now fs)
units_join c [] fs = refl
units_join c (e ∷ es) fs = units_join (with_items c (of_unit c.next_unit (items_now e))) es fs

dispositions_lists : (draft : Draft) (f : Forest) (a : Reading) (dispositions : List Disposition) → DispositionsAre draft a (trees f) dispositions → DispositionsAre draft a (branches f) dispositions
dispositions_lists draft none a dispositions h = h
dispositions_lists draft (atom s q c others) a dispositions (next, more, says, rest, are) =
    let k : Ok next ≡ with_other a (leaf s q c) = subst (λ (o : Option Sort). SaysPartBy a (leaf s q c) o (Ok next)) (atom_sort s q c) says in
    let same : next ≡ a = (let e : (let r : Result Reading BoardError = Ok next in r) ≡ Ok a = k ∙ atom_other a s q c in cc) in
    dispositions_lists draft others a dispositions (subst (λ (l : List Disposition). DispositionsAre draft a (trees others) l) (sym are) (subst (λ (r : Reading). DispositionsAre draft r (trees others) more) same rest))
dispositions_lists draft (list s inside others) a dispositions (next, more, says, rest, are) = (next, more, says, dispositions_lists draft others next more rest, are)

both_items : (c one last : PlainBoard) (units others : List (List Item)) (texts news : List Entry) → with_units c units ≡ with_units c (map items_now texts) → SameItems (with_units c units) one
    → with_units one others ≡ with_units one (map items_now news) → last.items ≡ (with_units one others).items → last.items ≡ (with_units c (map items_now (texts ++ news))).items
both_items c one last units others texts news e h f k =
    k ∙ ap (λ (b : PlainBoard). b.items) f ∙ (same_units (with_units c units) one (map items_now news) h).items ∙ ap (λ (b : PlainBoard). (with_units b (map items_now news)).items) e
    ∙ sym (ap (λ (b : PlainBoard). b.items) (units_join c texts news))

all_grouped : (draft : Draft) (all : List Entry) (again last : PlainBoard) → AreKept draft 0 all → last.items ≡ all_now all → again.items ≡ (with_units unread.board (map items_now all)).items → Grouped 0 0 again.items last.items
all_grouped draft all again last kept items are =
    let runs : again.items ≡ read_back unread.board all = are ∙ reads_back unread.board all in
    let grouped : Grouped 0 0 (read_back unread.board all) (all_now all) = are_grouped draft 0 all unread.board kept in
    subst (λ (l : List (ℕ × Item)). Grouped 0 0 l last.items) (sym runs) (subst (λ (l : List (ℕ × Item)). Grouped 0 0 (read_back unread.board all) l) (sym items) grouped)

-- there is room for the units of the text, and for the added ones
first_fits : (units : List (List Item)) (texts news : List Entry) (last : PlainBoard) → with_units unread.board units ≡ with_units unread.board (map items_now texts) → last.items ≡ all_now (texts ++ news) → length last.items ≤ 200000 → total units + length (all_now news) ≤ 200000
first_fits units texts news last e items few =
    let count1 = count_units unread.board units in
    let count2 = count_units unread.board (map items_now texts) in
    let same = ap (λ (b : PlainBoard). length b.items) e in
    let t = total_now texts in
    let a = all_append texts news in
    let l = ap length items in
    omega (arith, count1, count2, same, t, a, l, few)

then_fits : (units : List (List Item)) (news : List Entry) (one : PlainBoard) → SameItems (with_units unread.board units) one → total units + length (all_now news) ≤ 200000 → length one.items + total (map items_now news) ≤ 200000
then_fits units news one h few =
    let count = count_units unread.board units in
    let l = ap length h.items in
    let t = total_now news in
    omega (arith, count, l, t, few)

-- ---- all together

module _ (Carries : Sort → Tree → Tree → List Item → List Item → Type 0)
    (carried : (sort : Sort) (board other : PlainBoard) (unit : ℕ) (t u : Tree) (items now : List Item) → SameLayersAndNets board other → SaysItems board unit t sort (Ok items) → Carries sort t u items now
    → has_capacity other other.next_unit now ≡ true → SaysItems other other.next_unit u sort (Ok (of_unit other.next_unit now)))
    (as_long : (sort : Sort) (t u : Tree) (items now : List Item) → Carries sort t u items now → length now ≡ length items)
    (plain : (t u : Tree) → TranslatedTrees None t u → sort_of t ≡ sort_of u)
    (others_read : (t u : Tree) (a b next : Reading) → TranslatedTrees None t u → SameLayersAndNets a.board b.board → b.layered ≡ a.layered → with_other a t ≡ Ok next
    → (new : Reading) × (with_other b u ≡ Ok new) × SameLayersAndNets next.board new.board × (new.layered ≡ next.layered) × SameItems b.board new.board)
    (carries : (sort : Sort) (s r : Span) (i j : Forest) (o : Option Shift) (e : Entry) → sort_of (branch s i) ≡ Some sort → SameTrees (moved_if o i) j → AreNow (shift_of o) e
    → Carries sort (branch s i) (branch r j) e.read (items_now e))
    (without : (sort : Sort) (s r : Span) (i j : Forest) → sort_of (branch s i) ≡ Some sort → Translated None i j → Carries sort (branch s i) (branch r j) [] [])
    (same_sort : (s r : Span) (i j : Forest) (o : Option Shift) → SameTrees (moved_if o i) j → sort_of (branch r j) ≡ sort_of (branch s i))
    (grows : (a next : Reading) (t : Tree) (i : Item) (items : List Item) → IsUnit a next t (i ∷ items) → next.board.next_unit ≡ suc a.board.next_unit)
    (ready : (board : PlainBoard) (t : Tree) (sort : Sort) (items : List Item) → SaysItems board board.next_unit t sort (Ok items) → ItemsOf board.next_unit items)
    (other_keeps : (a next : Reading) (t : Tree) → with_other a t ≡ Ok next → (next.board.items ≡ a.board.items) × (next.board.next_unit ≡ a.board.next_unit)) where
  pub ready_list : (board : PlainBoard) (t : Tree) (items : List Item) → SaysList board board.next_unit t (Ok items) → ItemsOf board.next_unit items
  ready_list board t items says = by_sort (sort_of t) says
    where
      by_sort : (o : Option Sort) → SaysBy board board.next_unit t o (Ok items) → ItemsOf board.next_unit items
      by_sort None h = absurd cc
      by_sort (Some sort) h = ready board t sort items h

  -- the written text is read as the board after the commands, but for ids and unit numbers
  pub record ReadAgain (z : Reading) (ts : List Tree) (last : PlainBoard) : Type 0 where
    pub reading : Reading
    pub says : SaysParts unread ts (Ok reading)
    pub ground : SameLayersAndNets z.board reading.board
    pub layered : reading.layered ≡ z.layered
    pub items : AllZip IsSameItem reading.board.items last.items
    pub units : (i j : ℕ) (p q r s : ℕ × Item) → slice_get reading.board.items i ≡ Some p → slice_get reading.board.items j ≡ Some q → slice_get last.items i ≡ Some r → slice_get last.items j ≡ Some s → Share p q r s

  -- the ledger through all commands
  pub record Staged (z : Reading) (draft : Draft) (ts : List Tree) (last : PlainBoard) : Type 0 where
    pub first : List Entry
    pub reads : TextReads unread ts z first
    pub number : length first ≡ z.board.next_unit
    pub stage : Stage ready_list z.board first draft last

  staged : (ts : List Tree) (z : Reading) (changes : List Change) (last : PlainBoard) → SaysParts unread ts (Ok z) → ChangeAll z.board changes last → Staged z (with_changes (untouched z.board.next_unit) changes) ts last
  staged ts z changes last says done =
      let begin : IsLedger (untouched 0) [] unread.board = record { items = refl; next = refl; kept = refl; gone_below = λ u k. refl; moved_below = λ u k. refl } in
      let start = starts ready other_keeps ts unread z [] says begin in
      let number : length start.0 ≡ z.board.next_unit = (let k = kept_count (untouched z.board.next_unit) 0 start.0 start.2.kept in omega (arith, k)) in
      let stage0 : Stage ready_list z.board start.0 (untouched z.board.next_unit) z.board =
      record { texts = start.0; news = []; ledger = subst (λ (l : List Entry). IsLedger (untouched z.board.next_unit) l z.board) (sym (append-nil start.0)) start.2; same = record { copper = refl; nets = refl }; of_text = same_itself start.0; added = ends } in
      record { first = start.0; reads = start.1; number = number; stage = stages ready_list z.board start.0 changes (untouched z.board.next_unit) z.board last stage0 done }

  -- the lists of the text
  pub record TextPart (z : Reading) (draft : Draft) (ts us : List Tree) (texts news : List Entry) : Type 0 where
    pub units : List (List Item)
    pub goes : Goes Carries unread ts z us units
    pub are : with_units unread.board units ≡ with_units unread.board (map items_now texts)
    pub kept : AreKept draft z.board.next_unit news

  text_part : (others : Forest) (z : Reading) (draft : Draft) (dispositions : List Disposition) (us : List Tree) (first texts news : List Entry) → TextReads unread (branches others) z first → DispositionsAre draft unread (branches others) dispositions → SameReads first texts
      → AreKept draft 0 (texts ++ news) → HaveInsides (insides_after dispositions others) us → TextPart z draft (branches others) us texts news
  text_part others z draft dispositions us first texts news reads are of_text kept inside =
      let text = follows Carries carries without same_sort grows one_next draft others unread z dispositions first (texts ++ news) us reads are (reads_front first texts news (reads_same first texts of_text)) kept inside in
      let long : length texts ≡ length text.used = length_reads first texts of_text ∙ sym text.count in
      let same = append_same texts news text.used text.left text.split long in
      record {
        units = text.units;
        goes = text.goes;
        are = text.items unread.board ∙ ap (λ (l : List Entry). with_units unread.board (map items_now l)) (sym same.0);
        kept = subst (AreKept draft z.board.next_unit) (sym same.1) text.kept;
      }

  last_part : (z : Reading) (draft : Draft) (ts us ws : List Tree) (first texts news : List Entry) (last : PlainBoard) (t : TextPart z draft ts us texts news) → AddedRead z.board (length first) draft.added news → length first ≡ z.board.next_unit
      → AreKept draft 0 (texts ++ news) → last.items ≡ all_now (texts ++ news) → length last.items ≤ 200000 → HaveInsides (insides (added_trees draft draft.added)) ws → ReadAgain z (us ++ ws) last
  last_part z draft ts us ws first texts news last t added number kept items few inside =
      let fits = first_fits t.units texts news last t.are items few in
      let one = transfer Carries carried as_long plain others_read t.goes unread (record { copper = refl; nets = refl }) refl (record { ids = refl; units = omega arith }) (omega (arith, fits)) in
      let kept2 : AreKept draft (length first) news = subst (λ n. AreKept draft n news) (sym number) t.kept in
      let two = adds Carries carried carries without same_sort atom_sort draft z.board added one.0 ws one.2.ground one.2.fresh (then_fits t.units news one.0.board one.2.same fits) kept2 inside in
      let are = both_items unread.board one.0.board two.1.last.board t.units two.0 texts news t.are one.2.same (two.2 one.0.board) two.1.items in
      let ours = all_grouped draft (texts ++ news) two.1.last.board last kept items are in
      record {
        reading = two.1.last;
        says = parts_join us ws unread one.0 two.1.last one.1 two.1.says;
        ground = two.1.same;
        layered = two.1.layered ∙ one.2.layered;
        items = same_items ours;
        units = share_units ours;
      }

  pub read_again : (q : Bool) (c : List ℕ) (h : Span) (others : Forest) (z : Reading) (changes : List Change) (last : PlainBoard) (dispositions : List Disposition) (out : List ℕ) (draft : Draft)
      → draft ≡ with_changes (untouched z.board.next_unit) changes
      → SaysParts unread (trees (atom h q c others)) (Ok z) → ChangeAll z.board changes last → DispositionsAre draft unread (trees (atom h q c others)) dispositions → length last.items ≤ 200000
      → (w : SpellsEdited out q c (insides_after dispositions others ++ insides (added_trees draft draft.added))) → ReadAgain z (trees w.forest) last
  read_again q c h others z changes last dispositions out draft is says done are few w =
      let s : Staged z draft (branches others) last = subst (λ (d : Draft). Staged z d (branches others) last) (sym is) (staged (branches others) z changes last (lists_only (atom h q c others) unread (Ok z) says) done) in
      let inside = subst (λ (l : List Forest). HaveInsides l (branches w.forest)) w.are (have_insides (atom w.head_is q c w.kept) w.forest w.same) in
      let split = have_split (insides_after dispositions others) (insides (added_trees draft draft.added)) (branches w.forest) inside in
      let t = text_part others z draft dispositions split.0 s.first s.stage.texts s.stage.news s.reads (dispositions_lists draft (atom h q c others) unread dispositions are) s.stage.of_text s.stage.ledger.kept split.3 in
      let r = last_part z draft (branches others) split.0 split.1 s.first s.stage.texts s.stage.news last t s.stage.added s.number s.stage.ledger.kept s.stage.ledger.items few split.4 in
      record {
        reading = r.reading;
        says = with_atoms w.forest unread (Ok r.reading) (subst (λ (l : List Tree). SaysParts unread l (Ok r.reading)) (sym split.2) r.says);
        ground = r.ground;
        layered = r.layered;
        items = r.items;
        units = r.units;
      }
