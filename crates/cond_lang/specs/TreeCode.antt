-- How the trees of conditions are stored: as the list of their parts, each behind those that it holds.
use Rattle.std.specs.Prelude.{◌≡◌, refl, ℕ, List, [], ◌∷◌}
use Rattle.std.proofs.Common.{◌∙◌, ap}
use Rattle.std.specs.Coded.{Coded, code_by, coded_list}
use Rattle.cond_lang.specs.declared.terms.Side.{Side}
use Rattle.cond_lang.specs.declared.terms.Func.{Func}
use Rattle.cond_lang.specs.declared.terms.Op.{Op}
use Rattle.cond_lang.specs.declared.terms.Term.{Term}
use Rattle.cond_lang.specs.Trees.{CondTree, Trees, any, all, negated, call, compare, none, first}

-- a part without what it holds
pub data Token : Type 0 where
  any_of : Token
  all_of : Token
  not_so : Token
  call_of : Side → Func → List ℕ → Token
  compare_of : Term → Op → Term → Token
  no_more : Token
  one_more : Token

abbrev mutual
  pub tokens : CondTree → List Token → List Token
  tokens (any parts) rest = tokens_of parts (any_of ∷ rest)
  tokens (all parts) rest = tokens_of parts (all_of ∷ rest)
  tokens (negated tree) rest = tokens tree (not_so ∷ rest)
  tokens (call side func text) rest = call_of side func text ∷ rest
  tokens (compare left op right) rest = compare_of left op right ∷ rest

  pub tokens_of : Trees → List Token → List Token
  tokens_of none rest = no_more ∷ rest
  tokens_of (first tree parts) rest = tokens tree (tokens_of parts (one_more ∷ rest))

-- the trees, and the lists of trees, that were read so far, the last one first
pub record Read : Type 0 where
  pub trees : List CondTree
  pub lists : List Trees

abbrev pub step : Token → List CondTree → List Trees → Read
step any_of trees (parts ∷ lists) = record { trees = any parts ∷ trees; lists = lists }
step any_of trees [] = record { trees = trees; lists = [] }
step all_of trees (parts ∷ lists) = record { trees = all parts ∷ trees; lists = lists }
step all_of trees [] = record { trees = trees; lists = [] }
step not_so (tree ∷ trees) lists = record { trees = negated tree ∷ trees; lists = lists }
step not_so [] lists = record { trees = []; lists = lists }
step (call_of side func text) trees lists = record { trees = call side func text ∷ trees; lists = lists }
step (compare_of left op right) trees lists = record { trees = compare left op right ∷ trees; lists = lists }
step no_more trees lists = record { trees = trees; lists = none ∷ lists }
step one_more (tree ∷ trees) (parts ∷ lists) = record { trees = trees; lists = first tree parts ∷ lists }
step one_more [] lists = record { trees = []; lists = lists }
step one_more (tree ∷ trees) [] = record { trees = tree ∷ trees; lists = [] }

abbrev pub read : List Token → List CondTree → List Trees → Read
read [] trees lists = record { trees = trees; lists = lists }
read (token ∷ tokens) trees lists = let now = step token trees lists in read tokens now.trees now.lists

-- the tree that was read last
abbrev pub last : List CondTree → CondTree
last [] = any none
last (tree ∷ trees) = tree

abbrev pub tree_in : List Token → CondTree
tree_in tokens = last (read tokens [] []).trees

mutual
  pub tree_is_read : (tree : CondTree) (rest : List Token) (trees : List CondTree) (lists : List Trees) → read (tokens tree rest) trees lists ≡ read rest (tree ∷ trees) lists
  tree_is_read (any parts) rest trees lists = list_is_read parts (any_of ∷ rest) trees lists
  tree_is_read (all parts) rest trees lists = list_is_read parts (all_of ∷ rest) trees lists
  tree_is_read (negated tree) rest trees lists = tree_is_read tree (not_so ∷ rest) trees lists
  tree_is_read (call side func text) rest trees lists = refl
  tree_is_read (compare left op right) rest trees lists = refl

  pub list_is_read : (parts : Trees) (rest : List Token) (trees : List CondTree) (lists : List Trees) → read (tokens_of parts rest) trees lists ≡ read rest trees (parts ∷ lists)
  list_is_read none rest trees lists = refl
  list_is_read (first tree parts) rest trees lists = tree_is_read tree (tokens_of parts (one_more ∷ rest)) trees lists ∙ list_is_read parts (one_more ∷ rest) (tree ∷ trees) lists

pub tree_is_back : (tree : CondTree) → tree_in (tokens tree []) ≡ tree
tree_is_back tree = ap (λ (r : Read). last r.trees) (tree_is_read tree [] [] [])

abbrev pub coded_tree : Coded Token → Coded CondTree
coded_tree c = code_by (List Token) (coded_list c) (λ tree. tokens tree []) tree_in tree_is_back
