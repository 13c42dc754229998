-- A forest and the list of its nodes.
use Rattle.std.proofs.Common.{◌≡◌, ℕ, zero, suc, ◌+◌, ◌<◌, List, [], ◌∷◌, ◌++◌, length, take, drop, get_or, refl, sym, ap, arith, add-one}
use Rattle.dav_lock.specs.Forests.{bare, then, joined}
use Rattle.dav_lock.specs.Trees.{tree_of, forest_of}
use Rattle.dav_lock.specs.declared.element.XmlNode.{XmlNode}

pub forest_of-append : (xs ys : List XmlNode) → forest_of (xs ++ ys) ≡ joined (forest_of xs) (forest_of ys)
forest_of-append [] ys = refl
forest_of-append (x ∷ xs) ys = ap (then (tree_of x)) (forest_of-append xs ys)

step : (xs : List XmlNode) (i : ℕ) (x : XmlNode) → i < length xs → x ≡ get_or xs i x
    → forest_of (take (suc i) xs) ≡ joined (forest_of (take i xs)) (then (tree_of x) bare)
step [] i x h is = absurd (omega arith)
step (y ∷ ys) zero x h is = ap (λ z. then (tree_of z) bare) (sym is)
step (y ∷ ys) (suc i) x h is = ap (then (tree_of y)) (step ys i x (omega arith) is)

parts : (xs : List XmlNode) (i : ℕ) (x : XmlNode) → i < length xs → x ≡ get_or xs i x
    → forest_of xs ≡ joined (forest_of (take i xs)) (then (tree_of x) (forest_of (drop (suc i) xs)))
parts [] i x h is = absurd (omega arith)
parts (y ∷ ys) zero x h is = ap (λ z. then (tree_of z) (forest_of ys)) (sym is)
parts (y ∷ ys) (suc i) x h is = ap (then (tree_of y)) (parts ys i x (omega arith) is)

-- the nodes up to one, and that node
pub forest_step : (xs : List XmlNode) (i : ℕ) (x : XmlNode) → i < length xs → x ≡ get_or xs i x
    → forest_of (take (i + 1) xs) ≡ joined (forest_of (take i xs)) (then (tree_of x) bare)
forest_step xs i x h is = rw add-one (step xs i x h is)

-- the nodes up to one, that node, and those after it
pub forest_parts : (xs : List XmlNode) (i : ℕ) (x : XmlNode) → i < length xs → x ≡ get_or xs i x
    → forest_of xs ≡ joined (forest_of (take i xs)) (then (tree_of x) (forest_of (drop (i + 1) xs)))
forest_parts xs i x h is = rw add-one (parts xs i x h is)
