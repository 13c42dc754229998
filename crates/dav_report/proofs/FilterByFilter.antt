-- Filters of components: the definition over a forest, and each filter by itself.
use Rattle.std.proofs.Common.{◌≡◌, Bool, true, false, cond, List, [], ◌∷◌, Option, Some, None, codes, refl, sym, ap, ◌∙◌}
use Rattle.std.specs.Option.{option_map}
use Rattle.std.specs.Str.{bytes_eq}
use Rattle.dav_lock.specs.Forests.{Forest, bare, then, element, text, comment, cdata, instruction}
use Rattle.dav_lock.specs.declared.element.Element.{Element}
use Rattle.dav_report.specs.Children.{with_first, each}
use Rattle.dav_report.specs.Filters.{Asked, Filters, no_filters, and_filter}
use Rattle.dav_report.specs.FilterLists.{filters_of}
use Rattle.dav_report.specs.Calendars.{asked, filter_then, component_filters, component_with, component_filter, outer_filters}
use Rattle.dav_report.specs.declared.caldav.component_filter.ComponentFilter.{ComponentFilter}

-- a filter and the others
both_ways : (a : Option Asked) (inner : Option Filters) (others : Option (List ComponentFilter))
    → filter_then a inner (option_map filters_of others) ≡ option_map filters_of (with_first (component_with a inner) others)
both_ways None inner others = refl
both_ways (Some a) None others = refl
both_ways (Some a) (Some inner) None = refl
both_ways (Some a) (Some inner) (Some fs) = refl

one_more : (b : Bool) (e : Element) (inner others : Option Filters) (rest : List Element)
    → others ≡ option_map filters_of (each component_filter rest) → inner ≡ component_filters e.children
    → cond b (filter_then (asked e) inner others) others ≡ option_map filters_of (each component_filter (cond b (e ∷ rest) rest))
one_more true e inner others rest h i = rw (h, i) (both_ways (asked e) (component_filters e.children) (each component_filter rest))
one_more false e inner others rest h i = h

-- the filters in an element are those of its `comp-filter` children
pub outer_is : (f : Forest) → component_filters f ≡ option_map filters_of (outer_filters f)
outer_is bare = refl
outer_is (then (element prefix namespace namespaces name attributes children) rest) =
    one_more (bytes_eq name (codes "comp-filter")) (record { prefix = prefix; namespace = namespace; namespaces = namespaces; name = name; attributes = attributes; children = children }) (component_filters children) (component_filters rest) _
    (outer_is rest) refl
outer_is (then (text t) rest) = outer_is rest
outer_is (then (comment t) rest) = outer_is rest
outer_is (then (cdata t) rest) = outer_is rest
outer_is (then (instruction t d) rest) = outer_is rest

-- the list that filters come from
abbrev pub list_of : Filters → List ComponentFilter
list_of no_filters = []
list_of (and_filter a inner others) = record { name = a.name; is_not_defined = a.is_not_defined; time_range = a.time_range; prop_filters = a.prop_filters; comp_filters = inner } ∷ list_of others

list_of-filters_of : (fs : List ComponentFilter) → list_of (filters_of fs) ≡ fs
list_of-filters_of [] = refl
list_of-filters_of (f ∷ fs) = ap (λ gs. f ∷ gs) (list_of-filters_of fs)

same_list : (o : Option (List ComponentFilter)) (fs : List ComponentFilter) → Some (filters_of fs) ≡ option_map filters_of o → Some fs ≡ o
same_list None fs h = cc
same_list (Some gs) fs h = let e : filters_of fs ≡ filters_of gs = cc in ap Some (sym (list_of-filters_of fs) ∙ ap list_of e ∙ list_of-filters_of gs)

same_fault : (o : Option (List ComponentFilter)) → None ≡ option_map filters_of o → None ≡ o
same_fault None h = refl
same_fault (Some gs) h = cc

-- filters that were read are the list of those of the `comp-filter` children
pub outer_read : (f : Forest) (read : Filters) (fs : List ComponentFilter) → filters_of fs ≡ read → Some read ≡ component_filters f
    → Some fs ≡ outer_filters f
outer_read f read fs e h = same_list (outer_filters f) fs (ap Some e ∙ h ∙ outer_is f)

-- and there is no such list where one is at fault
pub outer_faulty : (f : Forest) → None ≡ component_filters f → None ≡ outer_filters f
outer_faulty f h = same_fault (outer_filters f) (h ∙ outer_is f)
