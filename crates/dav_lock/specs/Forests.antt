-- Element trees as contracts see them.
use Rattle.std.specs.Prelude.{ℕ, suc, max, List, Option, Some, None}
use Rattle.dav_lock.specs.Pairs.{Table}

mutual
  -- the nodes in an element, in their order
  pub data Forest : Type 0 where
    bare : Forest
    then : Tree → Forest → Forest

  -- one node
  pub data Tree : Type 0 where
    element : Option (List ℕ) → Option (List ℕ) → Option Table → List ℕ → Table → Forest → Tree
    text : List ℕ → Tree
    comment : List ℕ → Tree
    cdata : List ℕ → Tree
    instruction : List ℕ → Option (List ℕ) → Tree

-- how deep elements nest
abbrev mutual
  pub height : Forest → ℕ
  height bare = 0
  height (then t ts) = max (tree_height t) (height ts)

  pub tree_height : Tree → ℕ
  tree_height (element prefix namespace namespaces name attributes children) = suc (height children)
  tree_height (text t) = 0
  tree_height (comment t) = 0
  tree_height (cdata t) = 0
  tree_height (instruction t d) = 0

-- some nodes, then others
abbrev pub joined : Forest → Forest → Forest
joined bare g = g
joined (then t ts) g = then t (joined ts g)

-- the nodes in an element
abbrev pub children_of : Tree → Option Forest
children_of (element prefix namespace namespaces name attributes children) = Some children
children_of (text t) = None
children_of (comment t) = None
children_of (cdata t) = None
children_of (instruction t d) = None
