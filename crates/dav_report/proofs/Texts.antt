-- The nodes that are no texts.
use Rattle.std.proofs.Common.{◌≡◌, Bool, not, cond, List, [], ◌∷◌, refl}
use Rattle.std.specs.List.{filter}
use Rattle.dav_lock.specs.Forests.{then, Tree, element, text, comment, cdata, instruction}
use Rattle.dav_lock.specs.Trees.{tree_of, forest_of}
use Rattle.dav_lock.specs.declared.element.XmlNode.{XmlNode}
use Rattle.dav_report.specs.Making.{without_texts, is_text_tree}

abbrev pub not_texts : XmlNode → Bool
not_texts x = not (is_text_tree (tree_of x))

one_more : (t : Tree) (xs rest : List XmlNode) (x : XmlNode) → tree_of x ≡ t → forest_of rest ≡ without_texts (forest_of xs)
    → forest_of (cond (not (is_text_tree t)) (x ∷ rest) rest) ≡ without_texts (then t (forest_of xs))
one_more (element prefix namespace namespaces name attributes children) xs rest x is h = rw (is, h) refl
one_more (text t) xs rest x is h = h
one_more (comment t) xs rest x is h = rw (is, h) refl
one_more (cdata t) xs rest x is h = rw (is, h) refl
one_more (instruction t d) xs rest x is h = rw (is, h) refl

pub forest_of-filter : (xs : List XmlNode) → forest_of (filter not_texts xs) ≡ without_texts (forest_of xs)
forest_of-filter [] = refl
forest_of-filter (x ∷ xs) = one_more (tree_of x) xs (filter not_texts xs) x refl (forest_of-filter xs)
