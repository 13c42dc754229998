-- How much there is to do at a forest, which falls with each step of a loop over it.
use Rattle.std.proofs.Common.{◌≡◌, ℕ, ◌+◌, ◌≤◌, List, [], ◌∷◌, ◌++◌, arith}
use Rattle.dav_lock.specs.Forests.{Forest, bare, then, Tree, element, text, comment, cdata, instruction}
use Rattle.dav_lock.specs.Trees.{forest_of}
use Rattle.dav_lock.specs.declared.element.XmlNode.{XmlNode}

abbrev mutual
  pub weight : Forest → ℕ
  weight bare = 0
  weight (then t ts) = tree_weight t + weight ts

  pub tree_weight : Tree → ℕ
  tree_weight (element prefix namespace namespaces name attributes children) = 2 + weight children
  tree_weight (text t) = 1
  tree_weight (comment t) = 1
  tree_weight (cdata t) = 1
  tree_weight (instruction t d) = 1

-- each node weighs something
pub tree_weighs : (t : Tree) → 1 ≤ tree_weight t
tree_weighs (element prefix namespace namespaces name attributes children) = omega arith
tree_weighs (text t) = omega arith
tree_weighs (comment t) = omega arith
tree_weighs (cdata t) = omega arith
tree_weighs (instruction t d) = omega arith

pub weight-append : (xs ys : List XmlNode) → weight (forest_of (xs ++ ys)) ≡ weight (forest_of xs) + weight (forest_of ys)
weight-append [] ys = omega arith
weight-append (x ∷ xs) ys = omega (arith, weight-append xs ys)
