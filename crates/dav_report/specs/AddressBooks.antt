-- Address book requests (RFC 6352 sections 8.6, 8.7 and 10.5, 10.6): what an element asks for.
use Rattle.std.specs.Prelude.{ℕ, cond, List, Option, Some, None, option_map, codes}
use Rattle.std.specs.Option.{option_and_then, option_to_list}
use Rattle.std.specs.List.{flat_map}
use Rattle.std.specs.Str.{bytes_eq}
use Rattle.dav_lock.specs.Forests.{Forest}
use Rattle.dav_lock.specs.declared.element.Element.{Element}
use Rattle.dav_report.specs.Children.{texts, named, first_of, last_of, each}
use Rattle.dav_report.specs.Requests.{parameter_filter, parameter_filters, properties, hrefs, number}
use Rattle.dav_report.specs.declared.filters.ParameterFilter.{ParameterFilter}
use Rattle.dav_report.specs.declared.carddav.property_filter.PropertyFilter.{PropertyFilter}
use Rattle.dav_report.specs.declared.carddav.query.AddressBookQuery.{AddressBookQuery}
use Rattle.dav_report.specs.declared.carddav.query.CardDavReportType.{CardDavReportType}
use Rattle.dav_report.specs.declared.carddav.query.CardDavReportType.TheVariants.{AddressBookQuery as query, AddressBookMultiget}

abbrev pub property_with : Option ParameterFilter → Option (List ParameterFilter) → Option PropertyFilter
property_with (Some asked) (Some filters) = Some (record {
  name = asked.name;
  is_not_defined = asked.is_not_defined;
  text_match = asked.text_match;
  param_filters = filters;
})
property_with (Some asked) None = None
property_with None filters = None

-- a filter of a property, which asks what one of a parameter may ask; nothing where it has no name, or a filter of a
-- parameter in it has none
abbrev pub property_filter : Element → Option PropertyFilter
property_filter e = property_with (parameter_filter e) (parameter_filters e.children)

-- the filters of properties that stand in a `filter`
abbrev pub outer_filters : Forest → Option (List PropertyFilter)
outer_filters children = each property_filter (named (codes "prop-filter") children)

-- those in each `filter`
abbrev pub all_filters : Forest → Option (List (List PropertyFilter))
all_filters children = each (λ f. outer_filters f.children) (named (codes "filter") children)

-- the first text of each `nresults` that has one
abbrev pub counts : Forest → List (List ℕ)
counts children = flat_map (λ n. option_to_list (first_of (texts n.children))) (named (codes "nresults") children)

-- those in each `limit`
abbrev pub all_counts : Forest → List (List ℕ)
all_counts children = flat_map (λ l. counts l.children) (named (codes "limit") children)

-- a query keeps the last filter and the last count, where that is a number, and is refused where any filter is at fault
abbrev pub address_query : Forest → Option AddressBookQuery
address_query children =
    option_map (λ filters. record {
      prop_filter = last_of (flat_map (λ fs. fs) filters);
      properties = properties children;
      limit = option_and_then number (last_of (all_counts children));
    }) (all_filters children)

-- the report that an element asks for; nothing where the request is bad
abbrev pub address_report : Element → Option CardDavReportType
address_report root =
    cond (bytes_eq root.name (codes "addressbook-query")) (option_map query (address_query root.children))
    (cond (bytes_eq root.name (codes "addressbook-multiget")) (Some (AddressBookMultiget (hrefs root.children))) None)
