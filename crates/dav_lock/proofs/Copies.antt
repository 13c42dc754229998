-- A copy while it is made: what is done, inside the elements that are open.
use Rattle.std.proofs.Common.{◌≡◌, ℕ, ◌+◌, ◌<◌, List, [], ◌∷◌, ◌++◌, refl, sym, ap, ◌∙◌, subst, arith}
use Rattle.dav_lock.specs.Forests.{Forest, bare, then, Tree, element, joined}
use Rattle.dav_lock.specs.Trees.{tree_of, forest_of}
use Rattle.dav_lock.specs.declared.element.Element.{Element as ElementValue}
use Rattle.dav_lock.specs.declared.element.XmlNode.{XmlNode}
use Rattle.dav_lock.specs.declared.copying.Open.{Open}
use Rattle.dav_lock.proofs.Weights.{weight}
use Rattle.dav_lock.proofs.Opened.{left_at, left_at-append}

-- an element with other children
abbrev pub around : ElementValue → Forest → Tree
around e children = element e.prefix e.namespace e.namespaces e.name e.attributes children

-- the whole forest, where this stands in the innermost open element
abbrev pub held : List Open → Forest → Forest
held [] f = f
held (o ∷ os) f = joined o.before (then (around o.element (held os f)) (forest_of o.behind.now))

pub held-append : (os : List Open) (o : Open) (f : Forest)
    → held (os ++ o ∷ []) f ≡ held os (joined o.before (then (around o.element f) (forest_of o.behind.now)))
held-append [] o f = refl
held-append (p ∷ os) o f = ap (λ g. joined p.before (then (around p.element g) (forest_of p.behind.now))) (held-append os o f)

joined_then : (d : Forest) (t : Tree) (r : Forest) → joined (joined d (then t bare)) r ≡ joined d (then t r)
joined_then bare t r = refl
joined_then (then u us) t r = ap (then u) (joined_then us t r)

joined-bare : (f : Forest) → joined f bare ≡ f
joined-bare bare = refl
joined-bare (then t ts) = ap (then t) (joined-bare ts)

-- a node that is no element is copied
pub leaf_step : (os : List Open) (d f : Forest) (left behind : List XmlNode) (x : XmlNode) → left ≡ x ∷ behind
    → held os (joined d (forest_of left)) ≡ f → held os (joined (joined d (then (tree_of x) bare)) (forest_of behind)) ≡ f
leaf_step os d f left behind x step h =
    ap (held os) (joined_then d (tree_of x) (forest_of behind)) ∙ subst (λ (xs : List XmlNode). held os (joined d (forest_of xs)) ≡ f) step h

-- an element is opened
pub open_step : (os all : List Open) (o : Open) (f children : Forest) (left : List XmlNode) (x : XmlNode) → all ≡ os ++ o ∷ []
    → left ≡ x ∷ o.behind.now → tree_of x ≡ around o.element children → held os (joined o.before (forest_of left)) ≡ f
    → held all (joined bare children) ≡ f
open_step os all o f children left x pushed step is h =
    ap (λ ps. held ps children) pushed ∙ held-append os o children ∙ ap (λ t. held os (joined o.before (then t (forest_of o.behind.now)))) (sym is)
    ∙ subst (λ (xs : List XmlNode). held os (joined o.before (forest_of xs)) ≡ f) step h

-- the innermost open element is closed
pub close_step : (os all : List Open) (o : Open) (d f : Forest) (left : List XmlNode) → all ≡ os ++ o ∷ [] → left ≡ []
    → held all (joined d (forest_of left)) ≡ f → held os (joined (joined o.before (then (around o.element d) bare)) (forest_of o.behind.now)) ≡ f
close_step os all o d f left popped none h =
    ap (held os) (joined_then o.before (around o.element d) (forest_of o.behind.now)) ∙ sym (held-append os o d) ∙ ap (λ g. held (os ++ o ∷ []) g) (sym (joined-bare d))
    ∙ subst (λ (ps : List Open). held ps (joined d bare) ≡ f) popped (subst (λ (xs : List XmlNode). held all (joined d (forest_of xs)) ≡ f) none h)

-- nothing is open or left
pub all_done : (all : List Open) (d f : Forest) (left : List XmlNode) → all ≡ [] → left ≡ [] → held all (joined d (forest_of left)) ≡ f → d ≡ f
all_done all d f left closed none h =
    sym (joined-bare d) ∙ subst (λ (ps : List Open). held ps (joined d bare) ≡ f) closed (subst (λ (xs : List XmlNode). held all (joined d (forest_of xs)) ≡ f) none h)

-- what is left to do behind the open elements, and to close them
abbrev pub weight_behind : Open → ℕ
weight_behind o = weight (forest_of o.behind.now)

abbrev pub open_weight : List Open → ℕ
open_weight os = left_at weight_behind os

pub opens_less : (os all : List Open) (o : Open) (children : Forest) (left : List XmlNode) (x : XmlNode) → all ≡ os ++ o ∷ []
    → left ≡ x ∷ o.behind.now → tree_of x ≡ around o.element children → open_weight all + weight children < open_weight os + weight (forest_of left)
opens_less os all o children left x pushed step is = rw (pushed, step, is) (omega (arith, left_at-append weight_behind os o))
