-- Filters of components while they are read: what is done, inside the filters that are open.
use Rattle.std.proofs.Common.{◌≡◌, ℕ, ◌+◌, ◌<◌, ◌≤◌, Bool, true, false, cond, List, [], ◌∷◌, ◌++◌, Option, Some, None, codes, refl, sym, ap, ◌∙◌, subst, arith}
use Rattle.std.specs.Option.{option_map}
use Rattle.std.specs.Str.{bytes_eq}
use Rattle.dav_lock.specs.Forests.{Forest, bare, then, Tree, element, text, comment, cdata, instruction}
use Rattle.dav_lock.specs.Trees.{tree_of, forest_of}
use Rattle.dav_lock.specs.declared.element.Element.{Element}
use Rattle.dav_lock.specs.declared.element.XmlNode.{XmlNode}
use Rattle.dav_lock.proofs.Weights.{weight, tree_weight}
use Rattle.dav_report.specs.Children.{named}
use Rattle.dav_report.specs.Filters.{Asked, Filters, no_filters, and_filter, joined}
use Rattle.dav_report.specs.FilterLists.{asked_by}
use Rattle.dav_report.specs.Calendars.{asked, filter_then, component_filters}
use Rattle.dav_report.specs.declared.calendar_parts.Open.{Open}
use Rattle.dav_report.proofs.FilterCopying.{joined_more}
use Rattle.dav_calendar.specs.EventsTellNested.{joined-bare}
use Rattle.dav_lock.proofs.Opened.{left_at, left_at-append}

-- some filters, and then those that may be at fault
abbrev pub then_maybe : Filters → Option Filters → Option Filters
then_maybe d o = option_map (joined d) o

-- all filters, where these stand in the innermost open one
abbrev pub held : List Open → Option Filters → Option Filters
held [] f = f
held (o ∷ os) f = then_maybe o.before (filter_then (Some (asked_by o.filter)) (held os f) (component_filters (forest_of o.behind.now)))

pub held-append : (os : List Open) (o : Open) (f : Option Filters)
    → held (os ++ o ∷ []) f ≡ held os (then_maybe o.before (filter_then (Some (asked_by o.filter)) f (component_filters (forest_of o.behind.now))))
held-append [] o f = refl
held-append (p ∷ os) o f =
    ap (λ g. then_maybe p.before (filter_then (Some (asked_by p.filter)) g (component_filters (forest_of p.behind.now)))) (held-append os o f)

-- a fault inside an open filter is a fault of all
held-None : (os : List Open) → held os None ≡ None
held-None [] = refl
held-None (o ∷ os) =
    ap (λ g. then_maybe o.before (filter_then (Some (asked_by o.filter)) g (component_filters (forest_of o.behind.now)))) (held-None os)

-- a filter that is whole joins those that are done
closed : (d : Filters) (a : Asked) (inner : Filters) (r : Option Filters)
    → then_maybe (joined d (and_filter a inner no_filters)) r ≡ then_maybe d (filter_then (Some a) (Some inner) r)
closed d a inner None = refl
closed d a inner (Some r) = ap Some (joined_more d a inner r)

then_maybe-none : (d : Filters) → then_maybe d (Some no_filters) ≡ Some d
then_maybe-none d = ap Some (joined-bare d)

none_then_maybe : (o : Option Filters) → then_maybe no_filters o ≡ o
none_then_maybe None = refl
none_then_maybe (Some f) = refl

with_kept : (b : Bool) (e f : Element) (rest : Forest) → f ∷ [] ≡ cond b (e ∷ []) []
    → cond b (filter_then (asked e) (component_filters e.children) (component_filters rest)) (component_filters rest) ≡ filter_then (asked f) (component_filters f.children) (component_filters rest)
with_kept true e f rest h = let is : f ≡ e = cc in rw is refl
with_kept false e f rest h = cc

-- an element of the name in front
filters_at : (t : Tree) (e : Element) (rest : Forest) → e ∷ [] ≡ named (codes "comp-filter") (then t bare)
    → component_filters (then t rest) ≡ filter_then (asked e) (component_filters e.children) (component_filters rest)
filters_at (element prefix namespace namespaces name attributes children) e rest h =
    with_kept (bytes_eq name (codes "comp-filter")) (record { prefix = prefix; namespace = namespace; namespaces = namespaces; name = name; attributes = attributes; children = children }) e rest h
filters_at (text t) e rest h = cc
filters_at (comment t) e rest h = cc
filters_at (cdata t) e rest h = cc
filters_at (instruction t d) e rest h = cc

-- a filter is opened
pub open_step : (os all : List Open) (o : Open) (f : Option Filters) (left : List XmlNode) (x : XmlNode) (e : Element) → all ≡ os ++ o ∷ []
    → left ≡ x ∷ o.behind.now → e ∷ [] ≡ named (codes "comp-filter") (then (tree_of x) bare)
    → Some (asked_by o.filter) ≡ asked e → held os (then_maybe o.before (component_filters (forest_of left))) ≡ f
    → held all (then_maybe no_filters (component_filters e.children)) ≡ f
open_step os all o f left x e pushed step is a h =
    ap (held all) (none_then_maybe (component_filters e.children)) ∙ ap (λ ps. held ps (component_filters e.children)) pushed ∙ held-append os o (component_filters e.children)
    ∙ ap (λ b. held os (then_maybe o.before (filter_then b (component_filters e.children) (component_filters (forest_of o.behind.now))))) a
    ∙ ap (λ g. held os (then_maybe o.before g)) (sym (filters_at (tree_of x) e (forest_of o.behind.now) is))
    ∙ subst (λ (xs : List XmlNode). held os (then_maybe o.before (component_filters (forest_of xs))) ≡ f) step h

-- a filter at fault
pub fault_step : (os : List Open) (d : Filters) (f : Option Filters) (left behind : List XmlNode) (x : XmlNode) (e : Element) → left ≡ x ∷ behind
    → e ∷ [] ≡ named (codes "comp-filter") (then (tree_of x) bare) → None ≡ asked e
    → held os (then_maybe d (component_filters (forest_of left))) ≡ f → None ≡ f
fault_step os d f left behind x e step is a h =
    sym (held-None os) ∙ ap (λ b. held os (then_maybe d (filter_then b (component_filters e.children) (component_filters (forest_of behind))))) a
    ∙ ap (λ g. held os (then_maybe d g)) (sym (filters_at (tree_of x) e (forest_of behind) is))
    ∙ subst (λ (xs : List XmlNode). held os (then_maybe d (component_filters (forest_of xs))) ≡ f) step h

-- the innermost open filter is closed
pub close_step : (os all : List Open) (o : Open) (d : Filters) (f : Option Filters) (left : List XmlNode) → all ≡ os ++ o ∷ [] → left ≡ []
    → held all (then_maybe d (component_filters (forest_of left))) ≡ f
    → held os (then_maybe (joined o.before (and_filter (asked_by o.filter) d no_filters)) (component_filters (forest_of o.behind.now))) ≡ f
close_step os all o d f left popped none h =
    ap (held os) (closed o.before (asked_by o.filter) d (component_filters (forest_of o.behind.now))) ∙ sym (held-append os o (Some d)) ∙ ap (λ g. held (os ++ o ∷ []) g) (sym (then_maybe-none d))
    ∙ subst (λ (ps : List Open). held ps (then_maybe d (Some no_filters)) ≡ f) popped (subst (λ (xs : List XmlNode). held all (then_maybe d (component_filters (forest_of xs))) ≡ f) none h)

-- nothing is open or left
pub all_done : (all : List Open) (d : Filters) (f : Option Filters) (left : List XmlNode) → all ≡ [] → left ≡ []
    → held all (then_maybe d (component_filters (forest_of left))) ≡ f → Some d ≡ f
all_done all d f left none_open none h =
    sym (then_maybe-none d) ∙ subst (λ (ps : List Open). held ps (then_maybe d (Some no_filters)) ≡ f) none_open (subst (λ (xs : List XmlNode). held all (then_maybe d (component_filters (forest_of xs))) ≡ f) none h)

kept_weight : (b : Bool) (e f : Element) → f ∷ [] ≡ cond b (e ∷ []) [] → 2 + weight f.children ≤ 2 + weight e.children
kept_weight true e f h = let is : f ≡ e = cc in subst (λ (g : Element). 2 + weight g.children ≤ 2 + weight e.children) (sym is) (omega arith)
kept_weight false e f h = cc

-- what stands in an element weighs less than it
pub named_weight : (name : List ℕ) (t : Tree) (e : Element) → e ∷ [] ≡ named name (then t bare) → 2 + weight e.children ≤ tree_weight t
named_weight name (element prefix namespace namespaces n attributes children) e h =
    kept_weight (bytes_eq n name) (record { prefix = prefix; namespace = namespace; namespaces = namespaces; name = n; attributes = attributes; children = children }) e h
named_weight name (text t) e h = cc
named_weight name (comment t) e h = cc
named_weight name (cdata t) e h = cc
named_weight name (instruction t d) e h = cc

-- what is left to do behind the open filters, and to close them
abbrev pub weight_behind : Open → ℕ
weight_behind o = weight (forest_of o.behind.now)

abbrev pub open_weight : List Open → ℕ
open_weight os = left_at weight_behind os

pub opens_less : (os all : List Open) (o : Open) (left : List XmlNode) (x : XmlNode) (e : Element) → all ≡ os ++ o ∷ [] → left ≡ x ∷ o.behind.now
    → e ∷ [] ≡ named (codes "comp-filter") (then (tree_of x) bare)
    → open_weight all + weight e.children < open_weight os + weight (forest_of left)
opens_less os all o left x e pushed step is =
    rw (pushed, step) (omega (arith, left_at-append weight_behind os o, named_weight (codes "comp-filter") (tree_of x) e is))
