-- Elements as they are made.
use Rattle.std.specs.Prelude.{ℕ, Bool, true, false, ◌&&◌, List, [], ◌∷◌, ◌++◌, Option, Some, None, unwrap_or, codes, map}
use Rattle.std.specs.List.{list_any}
use Rattle.std.specs.Str.{bytes_eq}
use Rattle.std.specs.BTreeMap.{insert_entry}
use Rattle.dav_lock.specs.Pairs.{Table, text_order}
use Rattle.dav_lock.specs.Forests.{Forest, bare, then, Tree, element, text, comment, cdata, instruction, joined}
use Rattle.dav_lock.specs.declared.element.Element.{Element}
use Rattle.dav_report.specs.Lines.{cut, colon}
use Rattle.dav_report.specs.Calendars.{component_name}
use Rattle.dav_report.specs.declared.caldav.resource.CalendarComponentType.{CalendarComponentType}

-- an element of this name, with nothing in it
abbrev pub bare_element : Option (List ℕ) → List ℕ → Element
bare_element prefix name =
    record { prefix = prefix; namespace = None; namespaces = None; name = name; attributes = []; children = bare }

abbrev pub called : Option (List ℕ × List ℕ) → List ℕ → Element
called None t = bare_element None t
called (Some p) t = bare_element (Some p.0) p.1

-- a name, before which a prefix and a colon may stand
abbrev pub element_called : List ℕ → Element
element_called t = called (cut colon t) t

-- it declares this namespace too
abbrev pub with_namespace : List ℕ → List ℕ → Element → Element
with_namespace prefix uri e =
    record e { namespaces = Some (insert_entry text_order (unwrap_or e.namespaces []) prefix uri) }

abbrev pub without_texts : Forest → Forest
without_texts bare = bare
without_texts (then (element prefix namespace namespaces name attributes children) rest) =
    then (element prefix namespace namespaces name attributes children) (without_texts rest)
without_texts (then (text t) rest) = without_texts rest
without_texts (then (comment t) rest) = then (comment t) (without_texts rest)
without_texts (then (cdata t) rest) = then (cdata t) (without_texts rest)
without_texts (then (instruction t d) rest) = then (instruction t d) (without_texts rest)

abbrev pub is_text_tree : Tree → Bool
is_text_tree (element prefix namespace namespaces name attributes children) = false
is_text_tree (text t) = true
is_text_tree (comment t) = false
is_text_tree (cdata t) = false
is_text_tree (instruction t d) = false

-- this text in place of those in it
abbrev pub with_text : List ℕ → Element → Element
with_text t e = record e { children = joined (without_texts e.children) (then (text t) bare) }

abbrev pub tree : Element → Tree
tree e = element e.prefix e.namespace e.namespaces e.name e.attributes e.children

-- this element after what stands in it
abbrev pub with_child : Element → Element → Element
with_child child e = record e { children = joined e.children (then (tree child) bare) }

-- elements alone
abbrev pub holding : List Element → Forest
holding [] = bare
holding (e ∷ es) = then (tree e) (holding es)

-- an element of a namespace
abbrev pub made : List ℕ → List ℕ → Table → Forest → Element
made uri name attributes children = record {
  prefix = None;
  namespace = Some uri;
  namespaces = None;
  name = name;
  attributes = attributes;
  children = children;
}

abbrev pub dav : List ℕ
dav = codes "DAV:"

abbrev pub caldav : List ℕ
caldav = codes "urn:ietf:params:xml:ns:caldav"

abbrev pub carddav : List ℕ
carddav = codes "urn:ietf:params:xml:ns:carddav"

abbrev pub component : CalendarComponentType → Element
component kind = made caldav (codes "C:comp") ((codes "name", component_name kind) ∷ []) bare

abbrev pub component_set : List CalendarComponentType → Element
component_set kinds = made caldav (codes "C:supported-calendar-component-set") [] (holding (map component kinds))

-- a kind of content, and its version
abbrev pub content : List ℕ → List ℕ → Table
content kind version = (codes "content-type", kind) ∷ (codes "version", version) ∷ []

abbrev pub calendar_data : Element
calendar_data =
    made caldav (codes "C:supported-calendar-data") []
    (holding (made caldav (codes "C:calendar-data") (content (codes "text/calendar") (codes "2.0")) bare ∷ []))

abbrev pub address_data_type : List ℕ → Element
address_data_type version = made carddav (codes "CARD:address-data-type") (content (codes "text/vcard") version) bare

abbrev pub address_data : Element
address_data =
    made carddav (codes "CARD:supported-address-data") []
    (holding (address_data_type (codes "3.0") ∷ address_data_type (codes "4.0") ∷ []))

-- the link of a home: the prefix, then the path
abbrev pub home_link : List ℕ → List ℕ → Element
home_link prefix path = made dav (codes "D:href") [] (then (text (prefix ++ path)) bare)

abbrev pub home : List ℕ → List ℕ → List ℕ → List ℕ → Element
home uri name prefix path = made uri name [] (holding (home_link prefix path ∷ []))

-- the types of a collection of this kind
abbrev pub collection_types : List ℕ → List Element
collection_types name = made dav (codes "D:collection") [] bare ∷ made caldav name [] bare ∷ []

abbrev pub is_in : List ℕ → Option (List ℕ) → Bool
is_in uri None = false
is_in uri (Some n) = bytes_eq n uri

abbrev pub is_calendar : Element → Bool
is_calendar e = bytes_eq e.name (codes "calendar") && is_in caldav e.namespace

abbrev pub has_calendar : List Element → Bool
has_calendar types = list_any is_calendar types
