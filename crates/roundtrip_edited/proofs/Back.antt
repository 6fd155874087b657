-- Reading the text of an edited board again gives the board after the commands, where footprints are read so.
use Rattle.std.proofs.Common.{arith, ◌≡◌, ◌∙◌, refl, sym, ap, subst, ℕ, suc, ◌≤◌, Bool, true, false, List, [], ◌∷◌, ◌++◌, length, Ok, ◌⊎◌, inl, inr}
use Rattle.sexpr_read.specs.declared.place.Span.{Span}
use Rattle.sexpr_read.specs.Tree.{Forest, atom, Tree, branch, trees, parts, levels_in, levels}
use Rattle.sexpr_read.specs.Spelling.{Spells}
use Rattle.one_item.specs.declared.item.Item.{Item}
use Rattle.board_items.specs.Boards.{PlainBoard}
use Rattle.roundtrip_text.specs.RewrittenText.{Disposition, FirstIsThere, insides, insides_after, edited_whole}
use Rattle.roundtrip_text.specs.Edited.{SpellsEdited}
use Rattle.roundtrip_text.proofs.Whole.{whole_edited}
use Rattle.roundtrip_lists.specs.Carried.{of_unit, ItemsOf}
use Rattle.pcb_read.specs.declared.sorts.Sort.{Sort}
use Rattle.pcb_read.specs.declared.sorts.Sort.TheVariants.{Track, Via, Arc, Graphic, Curve, Text, Zone, Footprint}
use Rattle.pcb_read.specs.BoardOf.{Reading, unread, header_in, SaysParts}
use Rattle.pcb_read.specs.BoardText.{BoardSays}
use Rattle.pcb_read.specs.ItemsOf.{SaysItems, has_capacity}
use Rattle.edit_script.specs.Commands.{PlainCommand}
use Rattle.roundtrip_edited.specs.Footprints.{is_footprint}
use Rattle.roundtrip_edited.proofs.Placed.{list_stands}
use Rattle.roundtrip_boards.specs.TextChanges.{Change, unchanged, takes_out, shifts, appends, Changes, ChangeAll}
use Rattle.roundtrip_boards.specs.Reads.{IsUnit}
use Rattle.roundtrip_boards.specs.Roots.{SameLayersAndNets}
use Rattle.edit_script.specs.Fits.{AreShallow}
use Rattle.roundtrip_boards.specs.SameBoards.{IsSame}
use Rattle.roundtrip_boards.specs.WrittenBoard.{Draft, Added, untouched, with_changes, DispositionsAre, added_trees, IsWritten, written_by}
use Rattle.roundtrip_boards.proofs.Appending.{AllMayStand, changes_stand, added_stand}
use Rattle.roundtrip_boards.proofs.Fitting.{dispositions_fit}
use Rattle.roundtrip_boards.proofs.Heading.{first_there}
use Rattle.roundtrip_boards.proofs.Roots.{same_with}
use Rattle.roundtrip_boards.proofs.Together.{ReadAgain, read_again}
use Rattle.roundtrip_boards.proofs.Turning.{all_change}
use Rattle.roundtrip_edited.specs.Carries.{Carries}
use Rattle.roundtrip_edited.proofs.Counting.{parts_small, changes_small}
use Rattle.roundtrip_edited.proofs.Header.{header_again}
use Rattle.roundtrip_edited.proofs.Levels.{changes_low, draft_low, AllAtoms, added_low}
use Rattle.roundtrip_edited.proofs.Lists.{carries, without, as_long, list_carried, unit_grows}
use Rattle.roundtrip_edited.proofs.Parts.{plain_sort, moved_sort, other_keeps, others_read}
use Rattle.roundtrip_edited.proofs.Root.{RootSays, board_root, spelled_stands, text_says}
use Rattle.roundtrip_edited.proofs.Version.{version_stays}

-- ---- commands leave layers and nets

after_ground : (board new : PlainBoard) (change : Change) → Changes board change new → SameLayersAndNets board new
after_ground board new unchanged e = subst (SameLayersAndNets board) (sym e) (record { copper = refl; nets = refl })
after_ground board new (takes_out u) (named, e) = subst (SameLayersAndNets board) (sym e) (record { copper = refl; nets = refl })
after_ground board new (shifts u by) (named, stay, m) = subst (SameLayersAndNets board) (sym m.others) (record { copper = refl; nets = refl })
after_ground board new (appends list items) (added, e) = subst (SameLayersAndNets board) (sym e) (same_with board items)

last_ground : (changes : List Change) (board last : PlainBoard) → ChangeAll board changes last → SameLayersAndNets board last
last_ground [] board last e = subst (SameLayersAndNets board) (sym e) (record { copper = refl; nets = refl })
last_ground (change ∷ changes) board last (new, one, rest) =
    let k = after_ground board new change one in
    let m = last_ground changes new last rest in
    record { copper = m.copper ∙ k.copper; nets = m.nets ∙ k.nets }

all_atoms : (added : List Added) → AllMayStand added → AllAtoms added
all_atoms [] h = tt
all_atoms (a ∷ more) h = (h.0.0, all_atoms more h.1)

-- ---- the written root

module _ (text : List ℕ) (s h : Span) (q : Bool) (c : List ℕ) (others : Forest) (draft : Draft) (dispositions : List Disposition)
    (accepted : header_in (branch s (atom h q c others)) ≡ Ok tt) (are : DispositionsAre draft unread (trees (atom h q c others)) dispositions) where
  -- the head is no list, so it has no disposition
  after_head : (next : Reading) × DispositionsAre draft next (trees others) dispositions
  after_head = by_head are
    where
      by_head : DispositionsAre draft unread (trees (atom h q c others)) dispositions → (next : Reading) × DispositionsAre draft next (trees others) dispositions
      by_head (next, more, says, rest, is) = (next, subst (DispositionsAre draft next (trees others)) (sym is) rest)

  spells_edited : Spells text (branch s (atom h q c others)) → levels (branch s (atom h q c others)) ≤ 64 → AllMayStand draft.added → suc (levels_in (added_trees draft draft.added)) ≤ 64
      → SpellsEdited (edited_whole text s dispositions (atom h q c others) (added_trees draft draft.added)) q c (insides_after dispositions others ++ insides (added_trees draft draft.added))
  spells_edited spelled low stand deep =
      let stands = spelled_stands text s (atom h q c others) spelled in
      let fit = dispositions_fit draft (atom h q c others) unread dispositions are stands.0 stands.1 in
      let first : FirstIsThere dispositions others = first_there draft after_head.0 dispositions s h q c others tt accepted after_head.1 in
      let added = added_stand draft draft.added stand in
      whole_edited text s dispositions h q c others (added_trees draft draft.added) spelled low fit.0 first fit.1 added.0 added.1 deep

  header_stays : (out : List ℕ) (added : List Forest) (w : SpellsEdited out q c (insides_after dispositions others ++ added)) → header_in (branch w.where_it_is w.forest) ≡ Ok tt
  header_stays out added w =
      let v = version_stays draft after_head.0 dispositions s h q c others tt accepted after_head.1 in
      header_again s w.where_it_is w.head_is h v.span q c others w.kept w.forest v.inside (v.rest ++ added) tt accepted v.there w.same (w.are ∙ ap (λ (l : List Forest). l ++ added) v.are)

-- ---- the law

module _ (foot_carried : (board other : PlainBoard) (unit own : ℕ) (t u : Tree) (items now : List Item) → SameLayersAndNets board other → SaysItems board unit t Footprint (Ok items) → Carries Footprint t u items now
    → has_capacity other own now ≡ true → SaysItems other own u Footprint (Ok (of_unit own now)))
    (foot_stands : (board : PlainBoard) (unit : ℕ) (t : Tree) (items : List Item) → SaysItems board unit t Footprint (Ok items) → ItemsOf unit items) where
  by_sort : (sort : Sort) → (is_footprint sort ≡ false) ⊎ (sort ≡ Footprint)
  by_sort Footprint = inr refl
  by_sort Track = inl refl
  by_sort Via = inl refl
  by_sort Arc = inl refl
  by_sort (Graphic kind) = inl refl
  by_sort Curve = inl refl
  by_sort (Text about) = inl refl
  by_sort Zone = inl refl

  ready : (board : PlainBoard) (t : Tree) (sort : Sort) (items : List Item) → SaysItems board board.next_unit t sort (Ok items) → ItemsOf board.next_unit items
  ready board t sort items says = by_test (by_sort sort)
    where
      by_test : (is_footprint sort ≡ false) ⊎ (sort ≡ Footprint) → ItemsOf board.next_unit items
      by_test (inl plain) = list_stands board board.next_unit t sort items plain says
      by_test (inr is) = foot_stands board board.next_unit t items (subst (λ (s : Sort). SaysItems board board.next_unit t s (Ok items)) is says)

  carried : (sort : Sort) (board other : PlainBoard) (unit : ℕ) (t u : Tree) (items now : List Item) → SameLayersAndNets board other → SaysItems board unit t sort (Ok items) → Carries sort t u items now → has_capacity other other.next_unit now ≡ true
      → SaysItems other other.next_unit u sort (Ok (of_unit other.next_unit now))
  carried sort board other unit t u items now ground says c capacity = by_test (by_sort sort)
    where
      by_test : (is_footprint sort ≡ false) ⊎ (sort ≡ Footprint) → SaysItems other other.next_unit u sort (Ok (of_unit other.next_unit now))
      by_test (inl plain) = list_carried sort board other unit other.next_unit t u items now plain ground says c capacity
      by_test (inr is) =
          subst (λ (s : Sort). SaysItems other other.next_unit u s (Ok (of_unit other.next_unit now))) (sym is)
          (foot_carried board other unit other.next_unit t u items now ground (subst (λ (s : Sort). SaysItems board unit t s (Ok items)) is says) (subst (λ (s : Sort). Carries s t u items now) is c) capacity)

  grows : (a next : Reading) (t : Tree) (i : Item) (items : List Item) → IsUnit a next t (i ∷ items) → next.board.next_unit ≡ suc a.board.next_unit
  grows a next t i items unit = unit_grows a next t i items unit (ready a.board t unit.sort (i ∷ items) unit.says)

  abbrev Again : Reading → List Tree → PlainBoard → Type 0
  Again z ts last = ReadAgain Carries carried as_long plain_sort others_read carries without moved_sort grows ready other_keeps z ts last

  same_board : (z : Reading) (ts : List Tree) (last : PlainBoard) → SameLayersAndNets z.board last → (r : Again z ts last) → IsSame r.reading.board last
  same_board z ts last ground r = record {
    copper = r.ground.copper ∙ sym ground.copper;
    nets = r.ground.nets ∙ sym ground.nets;
    items = r.items;
    units = r.units;
  }

  -- what is read of the written text
  read_root : (text : List ℕ) (s h : Span) (q : Bool) (c : List ℕ) (others : Forest) (z : Reading) (draft : Draft) (changes : List Change) (dispositions : List Disposition) (out : List ℕ) (last : PlainBoard)
      → header_in (branch s (atom h q c others)) ≡ Ok tt → SaysParts unread (trees (atom h q c others)) (Ok z) → z.layered ≡ true → draft ≡ with_changes (untouched z.board.next_unit) changes → ChangeAll z.board changes last
      → DispositionsAre draft unread (trees (atom h q c others)) dispositions → length last.items ≤ 200000 → SpellsEdited out q c (insides_after dispositions others ++ insides (added_trees draft draft.added))
      → (again : PlainBoard) × BoardSays out (Ok again) × IsSame again last
  read_root text s h q c others z draft changes dispositions out last accepted says layered is done are few w =
      let r = read_again Carries carried as_long plain_sort others_read carries without moved_sort grows ready other_keeps q c h others z changes last dispositions out draft is says done are few w in
      let header = header_stays text s h q c others draft dispositions accepted are out (insides (added_trees draft draft.added)) w in
      (r.reading.board, text_says out w.where_it_is w.forest r.reading w.spelled w.shallow header r.says (r.layered ∙ layered), same_board z (trees w.forest) last (last_ground changes z.board last done) r)

  by_root : (text : List ℕ) (commands : List PlainCommand) (out : List ℕ) (last : PlainBoard) (w : IsWritten text commands out last) → AreShallow commands → RootSays w.root w.board
      → (again : PlainBoard) × BoardSays out (Ok again) × IsSame again last
  by_root text commands out last w shallow r =
      let draft : Draft = with_changes (untouched r.reading.board.next_unit) w.changes in
      let inside : Forest = atom r.head_span r.quoted r.head r.others in
      let same : with_changes (untouched w.board.next_unit) w.changes ≡ draft = ap (λ (b : PlainBoard). with_changes (untouched b.next_unit) w.changes) r.board_is in
      let done : ChangeAll r.reading.board w.changes last = subst (λ (b : PlainBoard). ChangeAll b w.changes last) r.board_is (all_change commands w.answers w.changes w.board last w.done w.are_changes) in
      let few : length last.items ≤ 200000 = changes_small w.changes r.reading.board last (parts_small (trees inside) unread r.reading (omega arith) r.says) done in
      let dispositions : DispositionsAre draft unread (trees inside) w.dispositions =
      subst (λ (d : Draft). DispositionsAre d unread (trees inside) w.dispositions) same (subst (λ (t : Tree). DispositionsAre (with_changes (untouched w.board.next_unit) w.changes) unread (parts t) w.dispositions) r.is w.are_dispositions) in
      let spelled : Spells text (branch r.span inside) = subst (Spells text) r.is w.spelled in
      let low : levels (branch r.span inside) ≤ 64 = subst (λ (t : Tree). levels t ≤ 64) r.is w.shallow in
      let stand : AllMayStand draft.added = changes_stand w.changes (untouched r.reading.board.next_unit) r.reading.board last done tt in
      let deep : suc (levels_in (added_trees draft draft.added)) ≤ 64 =
      added_low draft draft.added (all_atoms draft.added stand) (draft_low w.changes (untouched r.reading.board.next_unit) (changes_low commands w.answers w.changes shallow w.are_changes) tt) in
      let edited = spells_edited text r.span r.head_span r.quoted r.head r.others draft w.dispositions r.accepted dispositions spelled low stand deep in
      let written : out ≡ edited_whole text r.span w.dispositions inside (added_trees draft draft.added) =
      w.written ∙ ap (λ (d : Draft). written_by text w.root w.dispositions d) same ∙ ap (λ (t : Tree). written_by text t w.dispositions draft) r.is in
      read_root text r.span r.head_span r.quoted r.head r.others r.reading draft w.changes w.dispositions out last r.accepted r.says r.layered refl done dispositions few
      (subst (λ (o : List ℕ). SpellsEdited o r.quoted r.head (insides_after w.dispositions r.others ++ insides (added_trees draft draft.added))) (sym written) edited)

  pub read_back : (text : List ℕ) (commands : List PlainCommand) (out : List ℕ) (last : PlainBoard) → AreShallow commands → IsWritten text commands out last → (again : PlainBoard) × BoardSays out (Ok again) × IsSame again last
  read_back text commands out last shallow w = by_root text commands out last w shallow (board_root w.root w.board w.says)
