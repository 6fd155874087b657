-- Words of the search that grows one group.
use Rattle.std.specs.Prelude.{◌≡◌, ◌≢◌, All, Contains, ℕ, ◌+◌, ◌-◌, ◌*◌, ◌≤◌, ◌<◌, min, max, ◌⊎◌, Bool, true, false, List, length, slice_index, slice_index_or, count_by}
use Rattle.ratsnest.specs.declared.anchor.Anchor.{Anchor}
use Rattle.ratsnest.specs.declared.link.Link.{Link}
use Rattle.ratsnest.specs.Mem.{Mem, Climbs}
use Rattle.ratsnest.specs.declared.waiting.Waiting.{Waiting}
use Rattle.ratsnest.specs.NestOf.{anchor_at, group_at, group_count, square_of, square_between, IsLink, InNest}

-- the place of a link in the order, as one number
abbrev pub rank : Link → ℕ
rank l = (l.square * 18446744073709551616 + l.first * 4294967296) + l.second

-- the link of two anchors, the lower place first
unfoldable pub link_at : List Anchor → ℕ → ℕ → Link
link_at anchors i j =
    record { square = square_between anchors (min i j) (max i j); first = min i j; second = max i j }

abbrev pub rank_at : List Anchor → ℕ → ℕ → ℕ
rank_at anchors i j = rank (link_at anchors i j)

-- the link of two anchors, each given with its place
abbrev pub link_with_places : Anchor → ℕ → Anchor → ℕ → Link
link_with_places a i b j = record { square = square_of a b; first = min i j; second = max i j }

-- the link of two anchors
unfoldable pub link_between : Waiting → Waiting → Link
link_between m w = link_with_places m.anchor m.place w.anchor w.place

-- an anchor waits with its link from the first one
pub record IsFromFirst (anchors : List Anchor) (j : ℕ) (w : Waiting) : Type 0 where
  pub place : w.place ≡ j
  pub anchor : w.anchor ≡ anchor_at anchors j
  pub link : w.link ≡ link_at anchors 0 j

-- the anchor at the first place is of the group of the other and at its point, no later in the list: its links are never more
pub record StandsFor (anchors : List Anchor) (i j : ℕ) : Type 0 where
  pub lower : i ≤ j
  pub group : group_at anchors i ≡ group_at anchors j
  pub x : (anchor_at anchors i).x ≡ (anchor_at anchors j).x
  pub y : (anchor_at anchors i).y ≡ (anchor_at anchors j).y

-- one that waits is of the group of the anchor and at its point
pub record IsLed (waiting : List Waiting) (anchor : Anchor) : Type 0 where
  pub lead : Waiting
  pub there : Contains waiting lead
  pub group : lead.anchor.group ≡ anchor.group
  pub x : lead.anchor.x ≡ anchor.x
  pub y : lead.anchor.y ≡ anchor.y

-- of the first n anchors some wait with their links from the first one, and for each one stands that does
pub record AreFirst (anchors : List Anchor) (n : ℕ) (waiting : List Waiting) : Type 0 where
  pub each : All (λ (w : Waiting). (w.place < n) × IsFromFirst anchors w.place w) waiting
  pub whole : (j : ℕ) → j < n → (w : Waiting) × Contains waiting w × StandsFor anchors w.place j

-- what waited keeps the link that it had, or that from m, whichever is less
pub record IsDrawn (m old new : Waiting) : Type 0 where
  pub place : new.place ≡ old.place
  pub anchor : new.anchor ≡ old.anchor
  pub choice : (new.link ≡ old.link) ⊎ (new.link ≡ link_between m old)
  pub not_old : rank new.link ≤ rank old.link
  pub not_m : rank new.link ≤ rank (link_between m old)

-- the same over a list
pub record IsDrawnToAll (joined : List Waiting) (old new : Waiting) : Type 0 where
  pub place : new.place ≡ old.place
  pub anchor : new.anchor ≡ old.anchor
  pub choice : (new.link ≡ old.link) ⊎ ((m : Waiting) × Contains joined m × (new.link ≡ link_between m old))
  pub not_old : rank new.link ≤ rank old.link
  pub not_others : (k : ℕ) (d : Waiting) → k < length joined → rank new.link ≤ rank (link_between (slice_index_or joined k d) old)

-- one of the list stands at the same point, at a lower place
pub record IsDoubled (joined : List Waiting) (m : Waiting) : Type 0 where
  pub twin : Waiting
  pub there : Contains joined twin
  pub lower : twin.place < m.place
  pub x : twin.anchor.x ≡ m.anchor.x
  pub y : twin.anchor.y ≡ m.anchor.y

-- what waited keeps the link that it had, or that from m, whichever is less, or m has a twin
pub record IsTold (joined : List Waiting) (m old new : Waiting) : Type 0 where
  pub place : new.place ≡ old.place
  pub anchor : new.anchor ≡ old.anchor
  pub choice : (new.link ≡ old.link) ⊎ (new.link ≡ link_between m old)
  pub not_old : rank new.link ≤ rank old.link
  pub not_m : (rank new.link ≤ rank (link_between m old)) ⊎ IsDoubled joined m

-- the same over the first n of a list
pub record IsDrawnToSome (joined : List Waiting) (n : ℕ) (old new : Waiting) : Type 0 where
  pub place : new.place ≡ old.place
  pub anchor : new.anchor ≡ old.anchor
  pub choice : (new.link ≡ old.link) ⊎ ((m : Waiting) × Contains joined m × (new.link ≡ link_between m old))
  pub not_old : rank new.link ≤ rank old.link
  pub not_others : (k : ℕ) (d : Waiting) → k < n → (rank new.link ≤ rank (link_between (slice_index_or joined k d) old)) ⊎ IsDoubled joined (slice_index_or joined k d)

-- the same over all of a group that were waiting
pub record IsNearest (group : ℕ) (were : List Waiting) (old new : Waiting) : Type 0 where
  pub place : new.place ≡ old.place
  pub anchor : new.anchor ≡ old.anchor
  pub choice : (new.link ≡ old.link) ⊎ ((m : Waiting) × Contains were m × (m.anchor.group ≡ group) × (new.link ≡ link_between m old))
  pub not_old : rank new.link ≤ rank old.link
  pub not_others : (m : Waiting) → Contains were m → m.anchor.group ≡ group → rank new.link ≤ rank (link_between m old)

-- the group is reached: what is not of it still waits, with the least links
pub record IsReach (group : ℕ) (old new : List Waiting) : Type 0 where
  pub rest : All (λ (w : Waiting). w.anchor.group ≢ group) new
  pub from : All (λ (w : Waiting). (o : Waiting) × Contains old o × IsNearest group old o w) new
  pub whole : (o : Waiting) → Contains old o → (o.anchor.group ≡ group) ⊎ ((w : Waiting) × Contains new w × (w.place ≡ o.place))

-- the group of the anchor is reached
abbrev pub is_reached : List Anchor → List Bool → ℕ → Bool
is_reached anchors reached i = slice_index_or reached (group_at anchors i) false

-- what waits is not reached, and its link is the least from what is reached
pub record IsHeld (anchors : List Anchor) (reached : List Bool) (w : Waiting) : Type 0 where
  pub within : w.place < length anchors
  pub anchor : w.anchor ≡ anchor_at anchors w.place
  pub outside : is_reached anchors reached w.place ≡ false
  pub near : (i : ℕ) × (i < length anchors) × (is_reached anchors reached i ≡ true) × (w.link ≡ link_at anchors i w.place)
  pub least : (i : ℕ) → i < length anchors → is_reached anchors reached i ≡ true → rank w.link ≤ rank_at anchors i w.place

-- what holds while the search grows
pub record IsGrown (anchors : List Anchor) (reached : List Bool) (waiting : List Waiting) (links : List Link) : Type 0 where
  pub flags : length reached ≡ group_count anchors
  pub counted : count_by (λ b. b) reached ≡ length links + 1
  pub climbs : Climbs rank links
  pub nest : (l : Link) → Mem l links → InNest anchors l
  pub inside : (l : Link) → Mem l links → (is_reached anchors reached l.first ≡ true) × (is_reached anchors reached l.second ≡ true)
  pub joined : (c : ℕ → ℕ) → ((l : Link) → Mem l links → c (group_at anchors l.first) ≡ c (group_at anchors l.second)) →
      (g h : ℕ) → slice_index_or reached g false ≡ true → slice_index_or reached h false ≡ true → c g ≡ c h
  pub held : All (IsHeld anchors reached) waiting
  pub whole : (j : ℕ) → j < length anchors → is_reached anchors reached j ≡ false → (w : Waiting) × Contains waiting w × StandsFor anchors w.place j

-- what the search leaves: links of the nest that join all groups
pub record AreChosen (anchors : List Anchor) (links : List Link) : Type 0 where
  pub counted : length links ≡ group_count anchors - 1
  pub climbs : Climbs rank links
  pub nest : (l : Link) → Mem l links → InNest anchors l
  pub joined : (c : ℕ → ℕ) → ((l : Link) → Mem l links → c (group_at anchors l.first) ≡ c (group_at anchors l.second)) →
      (g h : ℕ) → g < group_count anchors → h < group_count anchors → c g ≡ c h

-- all links of the anchors, in order
pub record AreAllLinks (anchors : List Anchor) (links : List Link) : Type 0 where
  pub climbs : Climbs rank links
  pub sound : (l : Link) → Mem l links → IsLink anchors l
  pub whole : (l : Link) → IsLink anchors l → Mem l links

-- each group is its own label
pub record AreOwnLabels (anchors : List Anchor) (labels : List ℕ) : Type 0 where
  pub count : length labels ≡ group_count anchors
  pub own : (g : ℕ) → g < length labels → slice_index labels g ≡ g
