-- The nest of a list of anchors: the links of a least spanning tree of their groups. Lengths are nanometres.
use Rattle.std.specs.Prelude.{◌≡◌, ◌≢◌, ℕ, suc, ◌+◌, ◌*◌, ◌<◌, max, ◌⊎◌, pos, ◌-ℤ◌, neg_ℤ, unsigned_abs, List, [], ◌∷◌, length, slice_index_or, sum_by, All, Contains, ◌≤◌, refl}
use Rattle.int_algebra.proofs.Tested.{le_by_test}
use Rattle.ratsnest.specs.CoordinateRange.{IsInReach}
use Rattle.ratsnest.specs.declared.anchor.Anchor.{Anchor}
use Rattle.ratsnest.specs.declared.link.Link.{Link}
use Rattle.ratsnest.specs.LinkChains.{Chain}

abbrev at_zero : IsInReach (pos 0)
at_zero = record { from = le_by_test (neg_ℤ (pos 500000000)) (pos 0) refl; to = le_by_test (pos 0) (pos 500000000) refl }

-- what stands past the end of the list
abbrev pub nowhere : Anchor
nowhere = record { id = 0; number = 0; group = 0; x = pos 0; y = pos 0; x_in_range = at_zero; y_in_range = at_zero }

abbrev pub anchor_at : List Anchor → ℕ → Anchor
anchor_at anchors i = slice_index_or anchors i nowhere

unfoldable pub group_at : List Anchor → ℕ → ℕ
group_at anchors i = (anchor_at anchors i).group

-- one more than the greatest group, or 0 with no anchor
unfoldable pub group_count : List Anchor → ℕ
group_count [] = 0
group_count (a ∷ more) = max (suc a.group) (group_count more)

-- the square of the distance between two anchors
abbrev pub square_of : Anchor → Anchor → ℕ
square_of a b =
    unsigned_abs (a.x -ℤ b.x) * unsigned_abs (a.x -ℤ b.x) + unsigned_abs (a.y -ℤ b.y) * unsigned_abs (a.y -ℤ b.y)

unfoldable pub square_between : List Anchor → ℕ → ℕ → ℕ
square_between anchors i j = square_of (anchor_at anchors i) (anchor_at anchors j)

abbrev pub IsBefore : Anchor → Anchor → Type 0
IsBefore a b = (a.id < b.id) ⊎ ((a.id ≡ b.id) × (a.number < b.number))

-- the anchors rise by id, then by number
abbrev pub AnchorsRise : List Anchor → Type 0
AnchorsRise anchors = (i j : ℕ) → i < j → j < length anchors → IsBefore (anchor_at anchors i) (anchor_at anchors j)

-- each number below the count is the group of some anchor
abbrev pub GroupsOccur : List Anchor → Type 0
GroupsOccur anchors = (g : ℕ) → g < group_count anchors → (i : ℕ) × (i < length anchors) × (group_at anchors i ≡ g)

-- a pair of anchors of different groups, with the square of their distance
pub record IsLink (anchors : List Anchor) (l : Link) : Type 0 where
  pub in_order : l.first < l.second
  pub within : l.second < length anchors
  pub apart : group_at anchors l.first ≢ group_at anchors l.second
  pub square : l.square ≡ square_between anchors l.first l.second

-- the ends of the link are places of anchors
abbrev pub HasPlaces : List Anchor → Link → Type 0
HasPlaces anchors l = (l.first < length anchors) × (l.second < length anchors)

-- the order of links: by square, then by the id and number of the first anchor, then of the second
abbrev pub Precedes : List Anchor → Link → Link → Type 0
Precedes anchors l m =
    (l.square < m.square)
    ⊎ ((l.square ≡ m.square) × (IsBefore (anchor_at anchors l.first) (anchor_at anchors m.first)
    ⊎ (((anchor_at anchors l.first).id ≡ (anchor_at anchors m.first).id)
    × ((anchor_at anchors l.first).number ≡ (anchor_at anchors m.first).number)
    × IsBefore (anchor_at anchors l.second) (anchor_at anchors m.second))))

-- a chain of links, each of which P allows, from group to group
abbrev pub IsChain : List Anchor → (Link → Type 0) → ℕ → ℕ → Type 0
IsChain anchors P = Chain (λ (l : Link). group_at anchors l.first) (λ (l : Link). group_at anchors l.second) P

-- a link of two groups that all lesser links together leave apart
pub record InNest (anchors : List Anchor) (l : Link) : Type 0 where
  pub link : IsLink anchors l
  pub alone : IsChain anchors (λ m. IsLink anchors m × Precedes anchors m l) (group_at anchors l.first) (group_at anchors l.second) → ⊥

-- the links, in order, are those of the nest
pub record IsNest (anchors : List Anchor) (links : List Link) : Type 0 where
  pub ascending : (i j : ℕ) (d : Link) → i < j → j < length links → Precedes anchors (slice_index_or links i d) (slice_index_or links j d)
  pub sound : (l : Link) → Contains links l → InNest anchors l
  pub whole : (l : Link) → InNest anchors l → Contains links l

-- the links join all groups
abbrev pub JoinAll : List Anchor → List Link → Type 0
JoinAll anchors links = (a b : ℕ) → a < group_count anchors → b < group_count anchors → IsChain anchors (Contains links) a b

-- the sum of squared distances of the links
abbrev pub total : List Link → ℕ
total links = sum_by (λ (l : Link). l.square) links

-- other links that leave no two groups apart have at least this total
abbrev pub IsLeast : List Anchor → List Link → Type 0
IsLeast anchors links = (others : List Link) → All (IsLink anchors) others → JoinAll anchors others → total links ≤ total others
