use Rattle.std.proofs.Common.{◌≡◌, ◌++◌, take, drop}
use Rattle.board_items.specs.Back.{id_placed}
use Rattle.board_items.proofs.back.place_of.Given as goal

-- none of those that have passed is greater
abbrev pub invariant-loop-place : goal.invariant-loop-place
invariant-loop-place l = id_placed l.id l.ids ≡ take l.place l.ids ++ id_placed l.id (drop l.place l.ids)
