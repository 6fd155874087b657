-- Words of the search that joins groups by rounds.
use Rattle.std.specs.Prelude.{◌≡◌, ◌≢◌, Contains, ℕ, ℤ, ◌+◌, ◌-◌, ◌≤◌, ◌<◌, ◌≤ℤ◌, ◌⊎◌, Bool, true, List, length, slice_index_or, count_by, Option, Some, None}
use Rattle.ratsnest.specs.declared.anchor.Anchor.{Anchor}
use Rattle.ratsnest.specs.declared.link.Link.{Link}
use Rattle.ratsnest.specs.declared.indexed_anchor.IndexedAnchor.{IndexedAnchor}
use Rattle.ratsnest.specs.declared.span.Span.{Span}
use Rattle.ratsnest.specs.declared.area.Area.{Area}
use Rattle.ratsnest.specs.declared.tree.Part.{Part}
use Rattle.ratsnest.specs.declared.tree.Node.{Node}
use Rattle.ratsnest.specs.declared.joins.Members.{Members}
use Rattle.ratsnest.specs.Mem.{Mem, Climbs}
use Rattle.ratsnest.specs.Grow.{rank, link_with_places}
use Rattle.ratsnest.specs.NestOf.{nowhere, anchor_at, group_at, group_count, InNest}

-- the link of two anchors
unfoldable pub link_between : IndexedAnchor → IndexedAnchor → Link
link_between s t = link_with_places s.anchor s.place t.anchor t.place

-- what stands past the end of a list
abbrev pub no_indexed_anchor : IndexedAnchor
no_indexed_anchor = record { anchor = nowhere; place = 0 }

abbrev pub indexed_anchor_at : List IndexedAnchor → ℕ → IndexedAnchor
indexed_anchor_at indexed_anchors i = slice_index_or indexed_anchors i no_indexed_anchor

-- longer than each link
abbrev pub no_link : Link
no_link = record { square = 18446744073709551615; first = 0; second = 0 }

abbrev pub best_at : List Link → ℕ → Link
best_at best c = slice_index_or best c no_link

-- the anchor of a place, with the place
pub record IsIndexedAnchorOf (anchors : List Anchor) (k : ℕ) (s : IndexedAnchor) : Type 0 where
  pub place : s.place ≡ k
  pub anchor : s.anchor ≡ anchor_at anchors k

-- all anchors, in any order
pub record AreIndexedAnchors (anchors : List Anchor) (indexed_anchors : List IndexedAnchor) : Type 0 where
  pub within : (k : ℕ) → k < length indexed_anchors → (indexed_anchor_at indexed_anchors k).place < length anchors
  pub anchor : (k : ℕ) → k < length indexed_anchors → (indexed_anchor_at indexed_anchors k).anchor ≡ anchor_at anchors (indexed_anchor_at indexed_anchors k).place
  pub whole : (j : ℕ) → j < length anchors → (k : ℕ) × (k < length indexed_anchors) × ((indexed_anchor_at indexed_anchors k).place ≡ j)

-- what is kept is the link that was kept, or that of the two, whichever is less
pub record IsDrawn (s t : IndexedAnchor) (old new : Link) : Type 0 where
  pub choice : (new ≡ old) ⊎ (new ≡ link_between s t)
  pub not_old : rank new ≤ rank old
  pub not_other : rank new ≤ rank (link_between s t)

-- the span has the coordinate
abbrev pub Covers : Span → ℤ → Type 0
Covers s z = (s.low ≤ℤ z) × (z ≤ℤ s.high)

abbrev pub IsLinkInside : Area → Anchor → Type 0
IsLinkInside area a = Covers area.x a.x × Covers area.y a.y

-- the node's area has the anchors of its part
pub record IsNode (indexed_anchors : List IndexedAnchor) (n : Node) : Type 0 where
  pub inside : (i : ℕ) → n.low ≤ i → i < n.high → i < length indexed_anchors → IsLinkInside n.area (indexed_anchor_at indexed_anchors i).anchor

abbrev pub AreNodes : List IndexedAnchor → List Node → Type 0
AreNodes indexed_anchors nodes = (k : ℕ) (d : Node) → k < length nodes → IsNode indexed_anchors (slice_index_or nodes k d)

-- two parts hold what a part does, and are shorter
pub record AreHalves (part a b : Part) : Type 0 where
  pub whole : (i : ℕ) → part.low ≤ i → i < part.high → ((a.low ≤ i) × (i < a.high)) ⊎ ((b.low ≤ i) × (i < b.high))
  pub a_within : (part.low ≤ a.low) × (a.high ≤ part.high)
  pub b_within : (part.low ≤ b.low) × (b.high ≤ part.high)
  pub a_less : a.high - a.low < part.high - part.low
  pub b_less : b.high - b.low < part.high - part.low

-- the label of a group
abbrev pub label_at : List ℕ → ℕ → ℕ
label_at labels g = slice_index_or labels g 0

abbrev pub label_of : List ℕ → IndexedAnchor → ℕ
label_of labels s = label_at labels s.anchor.group

-- all anchors of the part have the label
pub record IsNamed (indexed_anchors : List IndexedAnchor) (labels : List ℕ) (low high c : ℕ) : Type 0 where
  pub each : (i : ℕ) → low ≤ i → i < high → i < length indexed_anchors → label_of labels (indexed_anchor_at indexed_anchors i) ≡ c

-- where a node has a name, all anchors of its part have that label
abbrev pub AreNames : List IndexedAnchor → List ℕ → List Node → List (Option ℕ) → Type 0
AreNames indexed_anchors labels nodes names = (k c : ℕ) (d : Node) → k < length nodes → slice_index_or names k None ≡ Some c →
    IsNamed indexed_anchors labels (slice_index_or nodes k d).low (slice_index_or nodes k d).high c

-- no link to an anchor of the part that has another label is less
pub record IsPassed (indexed_anchors : List IndexedAnchor) (labels : List ℕ) (s : IndexedAnchor) (own low high : ℕ) (best : Link) : Type 0 where
  pub not_others : (i : ℕ) → low ≤ i → i < high → i < length indexed_anchors → label_of labels (indexed_anchor_at indexed_anchors i) ≢ own → rank best ≤ rank (link_between s (indexed_anchor_at indexed_anchors i))

-- the least of the link that was kept and those to anchors of the part that have another label
pub record IsLooked (indexed_anchors : List IndexedAnchor) (labels : List ℕ) (s : IndexedAnchor) (own low high : ℕ) (old new : Link) : Type 0 where
  pub choice : (new ≡ old) ⊎ ((i : ℕ) × (i < length indexed_anchors) × (label_of labels (indexed_anchor_at indexed_anchors i) ≢ own) × (new ≡ link_between s (indexed_anchor_at indexed_anchors i)))
  pub not_old : rank new ≤ rank old
  pub passed : IsPassed indexed_anchors labels s own low high new

-- a link from an anchor with the label to one with another
abbrev pub IsLeaving : List IndexedAnchor → List ℕ → ℕ → Link → Type 0
IsLeaving indexed_anchors labels c l = (i j : ℕ) × (i < length indexed_anchors) × (j < length indexed_anchors) × (label_of labels (indexed_anchor_at indexed_anchors i) ≡ c) × (label_of labels (indexed_anchor_at indexed_anchors j) ≢ c)
    × (l ≡ link_between (indexed_anchor_at indexed_anchors i) (indexed_anchor_at indexed_anchors j))

-- for each label but one the least link that leaves it, as far as the first n anchors tell
pub record AreBestTo (indexed_anchors : List IndexedAnchor) (labels : List ℕ) (skipped n : ℕ) (best : List Link) : Type 0 where
  pub none : best_at best skipped ≡ no_link
  pub choice : (c : ℕ) → c < length best → (best_at best c ≡ no_link) ⊎ IsLeaving indexed_anchors labels c (best_at best c)
  pub least : (i j : ℕ) → i < n → j < length indexed_anchors → label_of labels (indexed_anchor_at indexed_anchors i) ≢ skipped → label_of labels (indexed_anchor_at indexed_anchors j) ≢ label_of labels (indexed_anchor_at indexed_anchors i) →
      rank (best_at best (label_of labels (indexed_anchor_at indexed_anchors i))) ≤ rank (link_between (indexed_anchor_at indexed_anchors i) (indexed_anchor_at indexed_anchors j))

-- each group is listed among the members of its label, and there alone
pub record AreKept (labels : List ℕ) (members : List Members) : Type 0 where
  pub len : length members ≡ length labels
  pub below : (g : ℕ) → g < length labels → label_at labels g < length labels
  pub there : (g : ℕ) (d : Members) → g < length labels → Contains (slice_index_or members (label_at labels g) d).groups.items g
  pub back : (c g : ℕ) (d : Members) → c < length members → Contains (slice_index_or members c d).groups.items g → (g < length labels) × (label_at labels g ≡ c)

-- those of one label have another
pub record IsRelabeled (a b : ℕ) (old new : List ℕ) : Type 0 where
  pub moved : (g : ℕ) → g < length new → label_at old g ≡ a → label_at new g ≡ b
  pub stays : (g : ℕ) → g < length new → label_at old g ≢ a → label_at new g ≡ label_at old g

-- the groups of the ends of the link have one label
abbrev pub IsJoining : List Anchor → List ℕ → Link → Type 0
IsJoining anchors labels l = label_at labels (group_at anchors l.first) ≡ label_at labels (group_at anchors l.second)

-- the links are of the nest, and two groups have one label where chains of them join the two
pub record IsForest (anchors : List Anchor) (labels : List ℕ) (links : List Link) : Type 0 where
  pub count : length labels ≡ group_count anchors
  pub sorted : List Link
  pub climbs : Climbs rank sorted
  pub len : length links ≡ length sorted
  pub there : (l : Link) → Mem l links → Mem l sorted
  pub back : (l : Link) → Mem l sorted → Mem l links
  pub nest : (l : Link) → Mem l sorted → InNest anchors l
  pub inside : (l : Link) → Mem l sorted → IsJoining anchors labels l
  pub heads : List Bool
  pub head_count : length heads ≡ length labels
  pub heads_fit : (g : ℕ) → g < length labels → label_at labels g < length labels
  pub counted : count_by (λ b. b) heads + length links ≡ group_count anchors
  pub head_used : (c : ℕ) → c < length heads → slice_index_or heads c true ≡ true → (g : ℕ) × (g < length labels) × (label_at labels g ≡ c)
  pub used_head : (g : ℕ) → g < length labels → slice_index_or heads (label_at labels g) true ≡ true
  pub joined : (c : ℕ → ℕ) → ((l : Link) → Mem l links → c (group_at anchors l.first) ≡ c (group_at anchors l.second)) →
      (g h : ℕ) → g < length labels → h < length labels → label_at labels g ≡ label_at labels h → c g ≡ c h

-- there is no link, or it is in the nest
abbrev pub IsUsable : List Anchor → Link → Type 0
IsUsable anchors l = (l.square ≡ 18446744073709551615) ⊎ InNest anchors l

-- the link is no link, or it joins groups of one label
abbrev pub IsIdle : List Anchor → List ℕ → Link → Type 0
IsIdle anchors labels l = (l.square ≡ 18446744073709551615) ⊎ IsJoining anchors labels l

-- the links are more, or nothing has changed and the link is idle
abbrev pub HasGrown : List Anchor → Link → List ℕ → List Link → List ℕ → List Link → Type 0
HasGrown anchors l labels links labels' links' =
    (length links < length links') ⊎ ((labels' ≡ labels) × (length links' ≡ length links) × IsIdle anchors labels l)

-- the same over the first n of a list
abbrev pub HaveGrown : List Anchor → List Link → ℕ → List ℕ → List Link → List ℕ → List Link → Type 0
HaveGrown anchors best n labels links labels' links' =
    (length links < length links') ⊎ ((labels' ≡ labels) × (length links' ≡ length links) × ((k : ℕ) → k < n → IsIdle anchors labels (best_at best k)))

-- all groups have one label
abbrev pub AreOne : List ℕ → Type 0
AreOne labels = (g h : ℕ) → g < length labels → h < length labels → label_at labels g ≡ label_at labels h
