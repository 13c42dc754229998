-- The trees that nodes stand for.
use Rattle.std.specs.Prelude.{List, [], ◌∷◌}
use Rattle.dav_lock.specs.Forests.{Forest, bare, then, Tree, element, text, comment, cdata, instruction}
use Rattle.dav_lock.specs.declared.element.XmlNode.{XmlNode}
use Rattle.dav_lock.specs.declared.element.XmlNode.TheVariants.{Element as node, Text, Comment, CData, ProcessingInstruction, Element}
use Rattle.dav_lock.specs.declared.copying.Found.{Found}
use Rattle.dav_lock.specs.declared.copying.Found.TheVariants.{Leaf, Inner}

abbrev pub tree_of : XmlNode → Tree
tree_of (node e) = element e.prefix e.namespace e.namespaces e.name e.attributes e.children
tree_of (Text t) = text t
tree_of (Comment t) = comment t
tree_of (CData t) = cdata t
tree_of (ProcessingInstruction t d) = instruction t d

abbrev pub forest_of : List XmlNode → Forest
forest_of [] = bare
forest_of (x ∷ xs) = then (tree_of x) (forest_of xs)

-- ---- what a node is to the loop that copies it

-- the node that was found
abbrev pub node_found : Found → XmlNode
node_found (Leaf x) = x
node_found (Inner e) = Element e.now
