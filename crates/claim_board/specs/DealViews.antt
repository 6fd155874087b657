-- What callers see of a deal, of its seats, and of a deal that has ended.
use Rattle.std.specs.Prelude.{◌≡◌, ℕ, ◌<◌, Bool, List, [], ◌∷◌, ◌++◌, length, slice_index_or, if◌then◌else◌, nat_eq, nat_lt, map, All, Option, Some, None}
use Rattle.claim_board.specs.DealMachine.{drawn, ended}
use Rattle.claim_board.specs.TableRule.{first_draws}
use Rattle.claim_board.specs.declared.deal.Deal.{Deal}
use Rattle.claim_board.specs.declared.deal.DealSeat.{DealSeat}
use Rattle.claim_board.specs.declared.deal.Dealt.{Dealt}

abbrev pub deal_tiles : Deal → ℕ
deal_tiles d = d.tiles

abbrev pub deal_seats : Deal → ℕ
deal_seats d = d.seats

-- the number of a seat among those of its deal, from 0
abbrev pub seat_number : DealSeat → ℕ
seat_number s = s.number

-- what a seat was given so far
abbrev pub seat_hand : DealSeat → List ℕ
seat_hand s = s.hand.items

abbrev pub seat_done : DealSeat → Bool
seat_done s = s.done

-- the numbers that a seat drew so far, the last one too where it is done
abbrev pub seat_draws : DealSeat → List ℕ
seat_draws s = first_draws s.seat.me.0.entries

-- the seat is one of this deal's
abbrev pub IsSeatOf : Deal → DealSeat → Type 0
IsSeatOf d s = (s.seat.table_id ≡ d.table.shared.table_id) × (s.seat.me.0.tiles ≡ d.tiles) × (s.seat.me.0.made ≡ (if nat_eq s.number 0 then d.seats else 0)) × (s.number ≡ 0 → s.seat.id ≡ 0)

-- the seats are all those that `new` gave, in their order
abbrev pub AreSeatsOf : Deal → List DealSeat → Type 0
AreSeatsOf d all = (length all ≡ d.seats) × ((k : ℕ) (x : DealSeat) → k < length all → IsSeatOf d (slice_index_or all k x) × ((slice_index_or all k x).number ≡ k))

-- between the two the seat drew the number n, which is above all that it drew before: it is given n where n is below the number of
-- tiles, and is done where it is not
abbrev pub Drew : ℕ → DealSeat → DealSeat → ℕ → Type 0
Drew tiles old new n =
    (seat_draws new ≡ seat_draws old ++ n ∷ [])
    × All (λ k. k < n) (seat_draws old)
    × (seat_hand new ≡ drawn tiles n (seat_hand old))
    × (seat_done new ≡ ended tiles n (seat_done old))

-- what is answered where n was drawn
abbrev pub given : ℕ → ℕ → Option ℕ
given tiles n = if nat_lt n tiles then Some n else None

abbrev pub dealt_tiles : Dealt → ℕ
dealt_tiles d = d.tiles

abbrev pub dealt_seats : Dealt → ℕ
dealt_seats d = d.seats

-- the hands of all seats
abbrev pub dealt_hands : Dealt → List (List ℕ)
dealt_hands d = map (λ v. v.items) d.hands.items
