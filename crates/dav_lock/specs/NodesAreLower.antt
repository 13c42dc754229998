-- What stands in a node is less high than the node: the law that the measure of nodes cites, so it stands among the
-- definitions.
use Rattle.std.specs.Prelude.{◌≤◌, max, List, [], ◌∷◌}
use Rattle.std.proofs.Common.{arith}
use denote.Param.Weighed.{most}
use Rattle.dav_lock.specs.Forests.{height, tree_height}
use Rattle.dav_lock.specs.Trees.{tree_of, forest_of}
use Rattle.dav_lock.specs.declared.element.XmlNode.{XmlNode}
use Rattle.dav_lock.specs.declared.element.XmlNode.TheVariants.{Element, Text, Comment, CData, ProcessingInstruction}
use Rattle.dav_lock.specs.declared.element.Nodes.TheDeep.{deep-XmlNode}

node_height : (x : XmlNode) → deep-XmlNode x ≤ tree_height (tree_of x)
node_height (Element e) = omega arith
node_height (Text t) = omega arith
node_height (Comment t) = omega arith
node_height (CData t) = omega arith
node_height (ProcessingInstruction t d) = omega arith

nodes_height : (xs : List XmlNode) → most deep-XmlNode xs ≤ height (forest_of xs)
nodes_height [] = omega arith
nodes_height (x ∷ xs) = omega (arith, node_height x, nodes_height xs)

pub below_height : (xs : List XmlNode) → max (most deep-XmlNode xs) 0 ≤ height (forest_of xs)
below_height xs = omega (arith, nodes_height xs)
