-- What a list says, from what its parts say.
use Rattle.std.proofs.Common.{◌≡◌, refl, sym, subst, ℕ, ◌⊎◌, inl, inr, List, Result, Ok, Err}
use Rattle.std.specs.Prelude.{Vec}
use Rattle.std.specs.declared.alloc.Global.{Global}
use Rattle.sexpr_read.specs.Tree.{Tree}
use Rattle.board_errors.specs.declared.errors.BoardError.{BoardError}
use Rattle.board_errors.specs.declared.errors.BoardError.TheVariants.{OutOfMemory}
use Rattle.one_item.specs.declared.item.Item.{Item}
use Rattle.board_items.specs.Boards.{PlainBoard}
use Rattle.part_read.specs.Lists.{GivesItems}
use Rattle.pad_read.specs.declared.head.Head.{Head}
use Rattle.footprint_read.specs.declared.contents.Contents.{Contents}
use Rattle.footprint_read.specs.declared.courts.Court.{Court}
use Rattle.footprint_read.specs.Courtyards.{IsCourt}
use Rattle.footprint_read.specs.FootHead.{head_of}
use Rattle.footprint_read.specs.FootprintOf.{finished, contents_of, SaysOf, SaysInside, SaysWithHead, FootprintSays, SaysItems}

module _ (board : PlainBoard) (unit : ℕ) (tree : Tree) where
  pub head_refused : (e : BoardError) → (e ≡ OutOfMemory) ⊎ (head_of board.copper tree ≡ Err e) → (e ≡ OutOfMemory) ⊎ FootprintSays board unit tree (Err e)
  head_refused e (inl h) = inl h
  head_refused e (inr h) = inr (subst (λ (r : Result Head BoardError). SaysWithHead board unit tree r (Err e)) (sym h) refl)

  with_head : (head : Head) (answer : Result (List Item) BoardError) → head_of board.copper tree ≡ Ok head → SaysInside board unit head tree (contents_of board unit head tree) answer → FootprintSays board unit tree answer
  with_head head answer h k = subst (λ (r : Result Head BoardError). SaysWithHead board unit tree r answer) (sym h) k

  pub contents_refused : (head : Head) (e : BoardError) → head_of board.copper tree ≡ Ok head → (e ≡ OutOfMemory) ⊎ (contents_of board unit head tree ≡ Err e) → (e ≡ OutOfMemory) ⊎ FootprintSays board unit tree (Err e)
  contents_refused head e h (inl k) = inl k
  contents_refused head e h (inr k) = inr (with_head head (Err e) h (subst (λ (r : Result Contents BoardError). SaysInside board unit head tree r (Err e)) (sym k) refl))

  says_by : (head : Head) (contents : Contents) (front back : Court) (answer : Result (List Item) BoardError) → head_of board.copper tree ≡ Ok head → contents_of board unit head tree ≡ Ok contents
      → IsCourt head.placement contents.front front → IsCourt head.placement contents.back back → answer ≡ finished board unit head tree contents.given front back → FootprintSays board unit tree answer
  says_by head contents front back answer h k f b s =
      let inside : SaysOf board unit head tree contents answer = record { front = front; back = back; of_front = f; of_back = b; same = s } in
      with_head head answer h (subst (λ (r : Result Contents BoardError). SaysInside board unit head tree r answer) (sym k) inside)

  pub says_items : (head : Head) (contents : Contents) (front back : Court) (result : Result (Vec Item Global) BoardError) → head_of board.copper tree ≡ Ok head → contents_of board unit head tree ≡ Ok contents
      → IsCourt head.placement contents.front front → IsCourt head.placement contents.back back → GivesItems result (finished board unit head tree contents.given front back) → SaysItems result board unit tree
  says_items head contents front back (Ok items) h k f b s = says_by head contents front back (Ok items.items) h k f b (sym s)
  says_items head contents front back (Err e) h k f b (inl s) = inl s
  says_items head contents front back (Err e) h k f b (inr s) = inr (says_by head contents front back (Err e) h k f b (sym s))
