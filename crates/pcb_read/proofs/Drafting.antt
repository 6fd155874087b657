-- Drafts of tracks and vias: what a list says on a board is its draft's item, where the board has the draft's net, and else the refusal
-- of the net.
use Rattle.std.proofs.Common.{◌≡◌, ◌∙◌, ◌⊎◌, inl, inr, refl, sym, ap, subst, ℕ, codes, Bool, true, false, is_some, IsTrue, Option, None, Some, Result, Ok, Err, IfOk, IfSome, if◌then◌else◌}
use Rattle.std.specs.Result.{result_ok}
use Rattle.sexpr_read.specs.Tree.{Tree}
use Rattle.board_errors.specs.declared.errors.BoardError.{BoardError}
use Rattle.board_errors.specs.declared.errors.BoardError.TheVariants.{UnknownNet, OutOfMemory}
use Rattle.copper_layers.specs.declared.set.LayerSet.{LayerSet}
use Rattle.copper_layers.specs.Layers.{is_within}
use Rattle.one_item.specs.declared.item.Item.{Item}
use Rattle.board_items.specs.Boards.{PlainBoard, name_of}
use Rattle.list_read.specs.FirstRefusals.{◌>>=◌}
use Rattle.list_read.specs.ListHeads.{place}
use Rattle.list_read.specs.NamedElements.{element}
use Rattle.part_read.specs.ElementResults.{in_needed, in_given, given_or, atom_of}
use Rattle.part_read.specs.BoardNumbers.{raw_point_of, size_at, size_of, number_in}
use Rattle.part_read.specs.BoardLayers.{layer_of, layers_through}
use Rattle.part_read.specs.NetsOf.{declared_in, net_of}
use Rattle.part_read.specs.NodeResults.{Gives}
use Rattle.part_read.specs.Graphics.{one_item}
use Rattle.pcb_read.specs.declared.drafts.Draft.{Draft}
use Rattle.pcb_read.specs.declared.sorts.Sort.{Sort}
use Rattle.pcb_read.specs.declared.sorts.Sort.TheVariants.{Track, Via, Arc, Graphic, Curve, Text, Zone, Footprint}
use Rattle.pcb_read.specs.Sorts.{sort_of}
use Rattle.pcb_read.specs.ItemsOf.{in_capacity, SaysItems}
use Rattle.pcb_read.specs.Drafts.{number_given, net_given, track_draft, via_draft, item_of, item_on, draft_by, IsDraft}
use Rattle.pcb_read.specs.Tracks.{track_of, via_of}
use Rattle.pcb_read.proofs.OneReading.{same_ok}

-- ---- nets

-- a number that is known, or the refusal of its atom
abbrev pub known_or : (ℕ → Bool) → Tree → ℕ → Result ℕ BoardError
known_or known atom number = if known number then Ok number else Err (UnknownNet (place atom))

there_by : (known : ℕ → Bool) (atom : Result Tree BoardError) (net : ℕ) → (atom >>= number_in) ≡ Ok net → known net ≡ true
    → (atom >>= λ t. number_in t >>= known_or known t) ≡ Ok net
there_by known (Err e) net given is = absurd cc
there_by known (Ok t) net given is = rw given (rw is refl)

tested : (b : Bool) (e : BoardError) (k m : ℕ) → (if b then Ok k else Err e) ≡ Ok m → k ≡ m
tested true e k m h = same_ok h
tested false e k m h = absurd cc

same_by : (known : ℕ → Bool) (atom : Result Tree BoardError) (net other : ℕ) → (atom >>= number_in) ≡ Ok net
    → (atom >>= λ t. number_in t >>= known_or known t) ≡ Ok other → net ≡ other
same_by known (Err e) net other given h = absurd cc
same_by known (Ok t) net other given h =
    tested (known net) (UnknownNet (place t)) net other (subst (λ (n : Result ℕ BoardError). (n >>= known_or known t) ≡ Ok other) given h)

refused_by : (known : ℕ → Bool) (atom : Result Tree BoardError) (e : BoardError) → (atom >>= number_in) ≡ Err e
    → (atom >>= λ t. number_in t >>= known_or known t) ≡ Err e
refused_by known (Err f) e given = given
refused_by known (Ok t) e given = rw given refl

module _ (board : PlainBoard) where
  abbrev has : ℕ → Bool
  has net = is_some (name_of board net)

  -- a net that the board has is the list's
  pub net_there : (found : Option Tree) (net : ℕ) → given_or 0 number_given found ≡ Ok net → is_some (name_of board net) ≡ true → given_or 0 (declared_in board) found ≡ Ok net
  unfolding number_given declared_in
  net_there None net given is = given
  net_there (Some list) net given is = there_by has (atom_of 1 list) net given is

  -- the list's net is no other
  pub net_same : (found : Option Tree) (net other : ℕ) → given_or 0 number_given found ≡ Ok net → given_or 0 (declared_in board) found ≡ Ok other → net ≡ other
  unfolding number_given declared_in
  net_same None net other given h = same_ok (sym given ∙ h)
  net_same (Some list) net other given h = same_by has (atom_of 1 list) net other given h

  pub net_refused : (found : Option Tree) (e : BoardError) → given_or 0 number_given found ≡ Err e → given_or 0 (declared_in board) found ≡ Err e
  unfolding number_given declared_in
  net_refused None e given = given
  net_refused (Some list) e given = refused_by has (atom_of 1 list) e given

-- ---- five steps, of which the last is the net

module _ {A B C D : Type 0} where
  abbrev pub drafted : Result A BoardError → Result B BoardError → Result C BoardError → Result D BoardError → Result ℕ BoardError → (A → B → C → D → ℕ → Draft) → Result Draft BoardError
  drafted a b c d given make = a >>= λ x. b >>= λ y. c >>= λ z. d >>= λ w. given >>= λ net. Ok (make x y z w net)

  abbrev read : Result A BoardError → Result B BoardError → Result C BoardError → Result D BoardError → Result ℕ BoardError → (A → B → C → D → ℕ → Result Item BoardError) → Result Item BoardError
  read a b c d net give = a >>= λ x. b >>= λ y. c >>= λ z. d >>= λ w. net >>= λ n. give x y z w n

  -- where each step gives something, the draft is made of it
  pub all_drafted : (a : Result A BoardError) (b : Result B BoardError) (c : Result C BoardError) (d : Result D BoardError) (given : Result ℕ BoardError)
      (make : A → B → C → D → ℕ → Draft) (x : A) (y : B) (z : C) (w : D) (n : ℕ)
      → a ≡ Ok x → b ≡ Ok y → c ≡ Ok z → d ≡ Ok w → given ≡ Ok n → drafted a b c d given make ≡ Ok (make x y z w n)
  all_drafted a b c d given make x y z w n first second third fourth net = rw first (rw second (rw third (rw fourth (rw net refl))))

  -- where all was drafted, the item is the draft's, or the net is refused
  on_by : (a : Result A BoardError) (b : Result B BoardError) (c : Result C BoardError) (d : Result D BoardError) (given net : Result ℕ BoardError)
      (make : A → B → C → D → ℕ → Draft) (give : A → B → C → D → ℕ → Result Item BoardError) (item : Draft → Result Item BoardError) (draft : Draft)
      → ((x : A) (y : B) (z : C) (w : D) (n : ℕ) → give x y z w n ≡ item (make x y z w n))
      → ((n m : ℕ) → given ≡ Ok n → net ≡ Ok m → n ≡ m)
      → drafted a b c d given make ≡ Ok draft → read a b c d net give ≡ (net >>= λ n. item draft)
  on_by (Ok x) (Ok y) (Ok z) (Ok w) (Ok n) (Ok m) make give item draft same one h =
      ap (λ (k : ℕ). give x y z w k) (sym (one n m refl refl)) ∙ same x y z w n ∙ ap item (same_ok h)
  on_by (Ok x) (Ok y) (Ok z) (Ok w) (Ok n) (Err e) make give item draft same one h = refl
  on_by (Ok x) (Ok y) (Ok z) (Ok w) (Err e) net make give item draft same one h = absurd cc
  on_by (Ok x) (Ok y) (Ok z) (Err e) given net make give item draft same one h = absurd cc
  on_by (Ok x) (Ok y) (Err e) d given net make give item draft same one h = absurd cc
  on_by (Ok x) (Err e) c d given net make give item draft same one h = absurd cc
  on_by (Err e) b c d given net make give item draft same one h = absurd cc

  -- a refusal of the draft is one of the item
  refused : (a : Result A BoardError) (b : Result B BoardError) (c : Result C BoardError) (d : Result D BoardError) (given net : Result ℕ BoardError)
      (make : A → B → C → D → ℕ → Draft) (give : A → B → C → D → ℕ → Result Item BoardError) (e : BoardError)
      → ((f : BoardError) → given ≡ Err f → net ≡ Err f)
      → drafted a b c d given make ≡ Err e → read a b c d net give ≡ Err e
  refused (Ok x) (Ok y) (Ok z) (Ok w) (Ok n) net make give e gone h = absurd cc
  refused (Ok x) (Ok y) (Ok z) (Ok w) (Err f) net make give e gone h = rw (gone f refl) cc
  refused (Ok x) (Ok y) (Ok z) (Err f) given net make give e gone h = cc
  refused (Ok x) (Ok y) (Err f) d given net make give e gone h = cc
  refused (Ok x) (Err f) c d given net make give e gone h = cc
  refused (Err f) b c d given net make give e gone h = cc

  -- the draft has the number that is given
  number_of : (a : Result A BoardError) (b : Result B BoardError) (c : Result C BoardError) (d : Result D BoardError) (given : Result ℕ BoardError)
      (make : A → B → C → D → ℕ → Draft) (draft : Draft) → ((x : A) (y : B) (z : C) (w : D) (n : ℕ) → (make x y z w n).net ≡ n)
      → drafted a b c d given make ≡ Ok draft → given ≡ Ok draft.net
  number_of (Ok x) (Ok y) (Ok z) (Ok w) (Ok n) make draft own h = ap (λ (k : ℕ). Ok k) (sym (own x y z w n) ∙ ap (λ (d : Draft). d.net) (same_ok h))
  number_of (Ok x) (Ok y) (Ok z) (Ok w) (Err e) make draft own h = absurd cc
  number_of (Ok x) (Ok y) (Ok z) (Err e) given make draft own h = absurd cc
  number_of (Ok x) (Ok y) (Err e) d given make draft own h = absurd cc
  number_of (Ok x) (Err e) c d given make draft own h = absurd cc
  number_of (Err e) b c d given make draft own h = absurd cc

-- ---- tracks and vias

module _ (tree : Tree) where
  abbrev net_element : Option Tree
  net_element = element (codes "net") tree

  pub track_number : (copper : LayerSet) (draft : Draft) → track_draft copper tree ≡ Ok draft → net_given tree ≡ Ok draft.net
  unfolding track_draft
  track_number copper draft h =
      number_of (raw_point_of (codes "start") tree) (raw_point_of (codes "end") tree) (size_of (codes "width") tree) (layer_of copper tree) (net_given tree) _ draft (λ x y z w n. refl) h

  pub via_number : (copper : LayerSet) (draft : Draft) → via_draft copper tree ≡ Ok draft → net_given tree ≡ Ok draft.net
  unfolding via_draft
  via_number copper draft h =
      number_of (raw_point_of (codes "at") tree) (size_of (codes "size") tree) (in_given size_at (element (codes "drill") tree))
      (in_needed (layers_through copper) tree (element (codes "layers") tree)) (net_given tree) _ draft (λ x y z w n. refl) h

  module _ (board : PlainBoard) (unit : ℕ) where
    pub track_on : (draft : Draft) → track_draft board.copper tree ≡ Ok draft → track_of board unit tree ≡ item_on board unit tree draft
    unfolding track_draft track_of
    track_on draft h =
        on_by (raw_point_of (codes "start") tree) (raw_point_of (codes "end") tree) (size_of (codes "width") tree) (layer_of board.copper tree) (net_given tree) (net_of board tree)
        _ _ (item_of unit tree) draft (λ x y z w n. refl) (net_same board net_element) h

    pub track_refused : (e : BoardError) → track_draft board.copper tree ≡ Err e → track_of board unit tree ≡ Err e
    unfolding track_draft track_of
    track_refused e h =
        refused (raw_point_of (codes "start") tree) (raw_point_of (codes "end") tree) (size_of (codes "width") tree) (layer_of board.copper tree) (net_given tree) (net_of board tree)
        _ _ e (net_refused board net_element) h

    pub via_on : (draft : Draft) → via_draft board.copper tree ≡ Ok draft → via_of board unit tree ≡ item_on board unit tree draft
    unfolding via_draft via_of
    via_on draft h =
        on_by (raw_point_of (codes "at") tree) (size_of (codes "size") tree) (in_given size_at (element (codes "drill") tree))
        (in_needed (layers_through board.copper) tree (element (codes "layers") tree)) (net_given tree) (net_of board tree)
        _ _ (item_of unit tree) draft (λ x y z w n. refl) (net_same board net_element) h

    pub via_refused : (e : BoardError) → via_draft board.copper tree ≡ Err e → via_of board unit tree ≡ Err e
    unfolding via_draft via_of
    via_refused e h =
        refused (raw_point_of (codes "at") tree) (size_of (codes "size") tree) (in_given size_at (element (codes "drill") tree))
        (in_needed (layers_through board.copper) tree (element (codes "layers") tree)) (net_given tree) (net_of board tree)
        _ _ e (net_refused board net_element) h

    -- so of what a call gives
    pub no_track : (copper : LayerSet) (e : BoardError) → copper ≡ board.copper → (e ≡ OutOfMemory) ⊎ (track_draft copper tree ≡ Err e) → (e ≡ OutOfMemory) ⊎ (track_of board unit tree ≡ Err e)
    no_track copper e same (inl gone) = inl gone
    no_track copper e same (inr h) = inr (track_refused e (subst (λ (set : LayerSet). track_draft set tree ≡ Err e) same h))

    pub no_via : (copper : LayerSet) (e : BoardError) → copper ≡ board.copper → (e ≡ OutOfMemory) ⊎ (via_draft copper tree ≡ Err e) → (e ≡ OutOfMemory) ⊎ (via_of board unit tree ≡ Err e)
    no_via copper e same (inl gone) = inl gone
    no_via copper e same (inr h) = inr (via_refused e (subst (λ (set : LayerSet). via_draft set tree ≡ Err e) same h))

  -- the item of a draft whose net the board has
  item_there : (board : PlainBoard) (unit : ℕ) (draft : Draft) → net_given tree ≡ Ok draft.net → is_some (name_of board draft.net) ≡ true → item_on board unit tree draft ≡ item_of unit tree draft
  item_there board unit draft given known = rw (net_there board net_element draft.net given known) refl

  -- what is drafted of a track's list is the draft of the list
  pub track_found : (copper : LayerSet) (answer : Result Draft BoardError) → sort_of tree ≡ Some Track → Gives answer (track_draft copper tree)
      → IfOk answer (λ draft. IsTrue (is_within draft.layers copper)) → IfSome (result_ok answer) (IsDraft copper tree)
  track_found copper (Ok draft) is read on = (rw is (ap result_ok read), on)
  track_found copper (Err e) is read on = tt

  pub via_found : (copper : LayerSet) (answer : Result Draft BoardError) → sort_of tree ≡ Some Via → Gives answer (via_draft copper tree)
      → IfOk answer (λ draft. IsTrue (is_within draft.layers copper)) → IfSome (result_ok answer) (IsDraft copper tree)
  via_found copper (Ok draft) is read on = (rw is (ap result_ok read), on)
  via_found copper (Err e) is read on = tt

  ok_of : {A E : Type 0} (answer : Result A E) (x : A) → result_ok answer ≡ Some x → answer ≡ Ok x
  ok_of (Ok y) x h = cc
  ok_of (Err e) x h = absurd cc

  -- a part whose draft is this one says the draft's item, on each board with its copper layers and its net
  pub said_by : (board : PlainBoard) (unit : ℕ) (draft : Draft) (sort : Option Sort) → draft_by sort board.copper tree ≡ Some draft → is_some (name_of board draft.net) ≡ true
      → (own : Sort) × (sort ≡ Some own) × SaysItems board unit tree own (in_capacity board unit tree (one_item (item_of unit tree draft)))
  said_by board unit draft (Some Track) h known =
      let is = ok_of (track_draft board.copper tree) draft h in
      let same = sym (track_on board unit draft is ∙ item_there board unit draft (track_number board.copper draft is) known) in
      (Track, refl, ap (λ (item : Result Item BoardError). in_capacity board unit tree (one_item item)) same)
  said_by board unit draft (Some Via) h known =
      let is = ok_of (via_draft board.copper tree) draft h in
      let same = sym (via_on board unit draft is ∙ item_there board unit draft (via_number board.copper draft is) known) in
      (Via, refl, ap (λ (item : Result Item BoardError). in_capacity board unit tree (one_item item)) same)
  said_by board unit draft (Some Arc) h known = absurd cc
  said_by board unit draft (Some (Graphic kind)) h known = absurd cc
  said_by board unit draft (Some Curve) h known = absurd cc
  said_by board unit draft (Some (Text about)) h known = absurd cc
  said_by board unit draft (Some Zone) h known = absurd cc
  said_by board unit draft (Some Footprint) h known = absurd cc
  said_by board unit draft None h known = absurd cc
