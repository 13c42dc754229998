-- What stands in an element.
use Rattle.std.specs.Prelude.{ℕ, Bool, List, [], ◌∷◌, Option, Some, None, is_some}
use Rattle.std.specs.List.{filter}
use Rattle.std.specs.Str.{bytes_eq}
use Rattle.dav_lock.specs.Pairs.{value_at}
use Rattle.dav_lock.specs.Forests.{Forest, bare, then, element, text, comment, cdata, instruction}
use Rattle.dav_lock.specs.declared.element.Element.{Element}
use Rattle.std.specs.Vec.Iter.{into_iter_items}
use Rattle.dav_lock.specs.Trees.{forest_of}
use Rattle.dav_report.specs.declared.element_iters.Elements.{Elements}
use Rattle.dav_report.specs.declared.element_iters.ElementsInto.{ElementsInto}

-- the elements, in order
abbrev pub elements : Forest → List Element
elements bare = []
elements (then (element prefix namespace namespaces name attributes children) rest) =
    record {
      prefix = prefix;
      namespace = namespace;
      namespaces = namespaces;
      name = name;
      attributes = attributes;
      children = children;
    } ∷ elements rest
elements (then (text t) rest) = elements rest
elements (then (comment t) rest) = elements rest
elements (then (cdata t) rest) = elements rest
elements (then (instruction t d) rest) = elements rest

-- the texts, in order
abbrev pub texts : Forest → List (List ℕ)
texts bare = []
texts (then (element prefix namespace namespaces name attributes children) rest) = texts rest
texts (then (text t) rest) = t ∷ texts rest
texts (then (comment t) rest) = texts rest
texts (then (cdata t) rest) = texts rest
texts (then (instruction t d) rest) = texts rest

abbrev pub is_named : List ℕ → Element → Bool
is_named name e = bytes_eq e.name name

-- the elements of this name, in order
abbrev pub named : List ℕ → Forest → List Element
named name nodes = filter (is_named name) (elements nodes)

abbrev pub first_of : {A : Type 0} → List A → Option A
first_of [] = None
first_of (x ∷ xs) = Some x

abbrev pub last_of : {A : Type 0} → List A → Option A
last_of [] = None
last_of (x ∷ []) = Some x
last_of (x ∷ y ∷ ys) = last_of (y ∷ ys)

-- whether an element of this name stands there
abbrev pub has : List ℕ → Forest → Bool
has name nodes = is_some (first_of (named name nodes))

abbrev pub attribute : List ℕ → Element → Option (List ℕ)
attribute name e = value_at name e.attributes

abbrev pub with_first : {A : Type 0} → Option A → Option (List A) → Option (List A)
with_first (Some x) (Some xs) = Some (x ∷ xs)
with_first (Some x) None = None
with_first None xs = None

-- what each stands for, or nothing where one is at fault
abbrev pub each : {A B : Type 0} → (A → Option B) → List A → Option (List B)
each f [] = Some []
each f (x ∷ xs) = with_first (f x) (each f xs)

-- ---- what the iterators over the elements in an element have left

abbrev pub left : Elements → List Element
left s = elements (forest_of s.nodes.now)

abbrev pub left_into : ElementsInto → List Element
left_into s = elements (forest_of (into_iter_items s.nodes))
