-- What was gathered, and what is still to come.
use Rattle.std.proofs.Common.{◌≡◌, ◌∙◌, refl, ap, sym, List, ◌∷◌, ◌++◌, append_assoc, Result, Ok, Err}
use Rattle.sexpr_read.specs.Tree.{Tree}
use Rattle.board_errors.specs.declared.errors.BoardError.{BoardError}
use Rattle.part_read.specs.declared.figures.Drawing.{Drawing}
use Rattle.list_read.specs.FirstRefusals.{◌>>=◌}
use Rattle.part_read.specs.Lists.{before}
use Rattle.pad_read.specs.CustomPads.{primitive_kind, primitive_by, primitives_among}

before_more : (old first : List Drawing) (r : Result (List Drawing) BoardError) → before old (r >>= λ others. Ok (first ++ others)) ≡ before (old ++ first) r
before_more old first (Ok others) = ap (λ (ds : List Drawing). Ok ds) (sym (append_assoc old first others))
before_more old first (Err e) = refl

pub taken : (pad t : Tree) (rest : List Tree) (old more new : List Drawing) → primitive_by pad t (primitive_kind t) ≡ Ok more → new ≡ old ++ more
    → before old (primitives_among pad (t ∷ rest)) ≡ before new (primitives_among pad rest)
taken pad t rest old more new e n =
    rw e (before_more old more (primitives_among pad rest) ∙ ap (λ (ds : List Drawing). before ds (primitives_among pad rest)) (sym n))
