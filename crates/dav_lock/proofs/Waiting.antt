-- Nodes that wait in a list: how high they are, and how much there is to do.
use Rattle.std.proofs.Common.{◌≡◌, suc, ◌+◌, ◌*◌, ◌≤◌, max, Bool, true, false, List, [], ◌∷◌, ◌++◌, Some, arith}
use Rattle.std.specs.Prelude.{if◌then◌else◌}
use denote.Param.Weighed.{most}
use Rattle.dav_lock.specs.Forests.{Forest, Tree, element, text, comment, cdata, instruction, height, tree_height, children_of}
use Rattle.dav_lock.specs.Trees.{tree_of, forest_of}
use Rattle.dav_lock.specs.declared.element.XmlNode.{XmlNode}
use Rattle.dav_lock.specs.declared.element.XmlNode.TheVariants.{Element, Text, Comment, CData, ProcessingInstruction}
use Rattle.dav_lock.specs.declared.element.Nodes.TheDeep.{size-XmlNode}
use Rattle.dav_lock.proofs.Weights.{weight, tree_weight, tree_weighs, weight-append}

height-append : (xs ys : List XmlNode) → height (forest_of (xs ++ ys)) ≡ max (height (forest_of xs)) (height (forest_of ys))
height-append [] ys = omega arith
height-append (x ∷ xs) ys = omega (arith, height-append xs ys)

-- one fewer waits
pub record Popped (all left : List XmlNode) (x : XmlNode) : Type 0 where
  pub others : height (forest_of left) ≤ height (forest_of all)
  pub first : tree_height (tree_of x) ≤ height (forest_of all)
  pub less : weight (forest_of all) ≡ weight (forest_of left) + tree_weight (tree_of x)
  pub some : 1 ≤ tree_weight (tree_of x)

pub popped : (all left : List XmlNode) (x : XmlNode) → all ≡ left ++ x ∷ [] → Popped all left x
popped all left x h = record {
  others = rw h (omega (arith, height-append left (x ∷ [])));
  first = rw h (omega (arith, height-append left (x ∷ [])));
  less = rw h (omega (arith, weight-append left (x ∷ [])));
  some = tree_weighs (tree_of x);
}

-- what stands in an element
pub record Holds (t : Tree) (f : Forest) : Type 0 where
  pub lower : suc (height f) ≤ tree_height t
  pub lighter : 2 + weight f ≤ tree_weight t

pub holds : (t : Tree) (f : Forest) → Some f ≡ children_of t → Holds t f
holds (element prefix namespace namespaces name attributes children) f h = let is : f ≡ children = cc in rw is (record { lower = omega arith; lighter = omega arith })
holds (text t) f h = cc
holds (comment t) f h = cc
holds (cdata t) f h = cc
holds (instruction t d) f h = cc

-- some more wait, or no memory is left for them
pub record Appended (xs ys new rest : List XmlNode) : Type 0 where
  pub waits : height (forest_of new) ≤ max (height (forest_of xs)) (height (forest_of ys))
  pub weighs : weight (forest_of new) ≤ weight (forest_of xs) + weight (forest_of ys)
  pub left : height (forest_of rest) ≤ height (forest_of ys)

pub appended : (b : Bool) (xs ys new rest : List XmlNode) → new ≡ (if b then xs ++ ys else xs) → rest ≡ (if b then [] else ys)
    → Appended xs ys new rest
appended true xs ys new rest n r = rw (n, r) (record {
  waits = omega (arith, height-append xs ys);
  weighs = omega (arith, weight-append xs ys);
  left = omega arith;
})
appended false xs ys new rest n r = rw (n, r) (record { waits = omega arith; weighs = omega arith; left = omega arith })

-- the measure of nodes that are let go
node_size : (x : XmlNode) → size-XmlNode x ≤ 3 * tree_height (tree_of x) + 2
node_size (Element e) = omega arith
node_size (Text t) = omega arith
node_size (Comment t) = omega arith
node_size (CData t) = omega arith
node_size (ProcessingInstruction t d) = omega arith

pub nodes_size : (xs : List XmlNode) → most size-XmlNode xs ≤ 3 * height (forest_of xs) + 2
nodes_size [] = omega arith
nodes_size (x ∷ xs) = omega (arith, node_size x, nodes_size xs)
