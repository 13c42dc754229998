-- What calendar and address book requests share (RFC 4791 section 9, RFC 6352 section 10).
use Rattle.std.specs.Prelude.{◌&&◌, ℕ, Bool, false, cond, List, [], length, Option, Some, None, option_map, unwrap_or, codes, map, nat_lt, ◌≡◌, Result, Ok, Err}
use Rattle.std.specs.List.{flat_map}
use Rattle.std.specs.Str.{bytes_eq, all_ascii_digits}
use Rattle.std.specs.Str.Parse.{digits_value, without_leading_plus}
use Rattle.dav_lock.specs.Forests.{Forest}
use Rattle.dav_lock.specs.declared.element.Element.{Element}
use Rattle.dav_report.specs.Children.{elements, texts, named, first_of, last_of, has, attribute, each}
use Rattle.dav_report.specs.declared.filters.TextMatch.{TextMatch}
use Rattle.dav_report.specs.declared.filters.ParameterFilter.{ParameterFilter}
use Rattle.dav_report.specs.declared.error.ReportError.{ReportError}
use Rattle.dav_report.specs.declared.error.ReportError.TheVariants.{BadRequest, FreeBusy, Fs, NoMemory}

abbrev pub is_yes : Option (List ℕ) → Bool
is_yes None = false
is_yes (Some v) = bytes_eq v (codes "yes")

-- a comparison: the first text, and negated where `negate-condition` is `yes`
abbrev pub text_match : Element → TextMatch
text_match e = record {
  text = unwrap_or (first_of (texts e.children)) [];
  collation = attribute (codes "collation") e;
  negate_condition = is_yes (attribute (codes "negate-condition") e);
  match_type = attribute (codes "match-type") e;
}

-- the last `text-match`
abbrev pub last_match : Forest → Option TextMatch
last_match children = option_map text_match (last_of (named (codes "text-match") children))

abbrev pub is_not_defined : Forest → Bool
is_not_defined children = has (codes "is-not-defined") children

-- a filter of a parameter; nothing where it has no name
abbrev pub parameter_filter : Element → Option ParameterFilter
parameter_filter e =
    option_map (λ name. record {
      name = name;
      is_not_defined = is_not_defined e.children;
      text_match = last_match e.children;
    }) (attribute (codes "name") e)

abbrev pub parameter_filters : Forest → Option (List ParameterFilter)
parameter_filters children = each parameter_filter (named (codes "param-filter") children)

-- the names of the elements in each `prop`
abbrev pub properties : Forest → List (List ℕ)
properties children = flat_map (λ p. map (λ e. e.name) (elements p.children)) (named (codes "prop") children)

-- each text in each `href`
abbrev pub hrefs : Forest → List (List ℕ)
hrefs children = flat_map (λ h. texts h.children) (named (codes "href") children)

-- a number of 32 bits as std reads it: decimal digits, before which a plus may stand
abbrev pub number : List ℕ → Option ℕ
number t =
    let digits = without_leading_plus t in
    cond (nat_lt 0 (length digits) && all_ascii_digits digits && nat_lt (digits_value 10 digits) 4294967296)
    (Some (digits_value 10 digits)) None

-- ---- what a parser answers

-- Exactly the report that is asked for, and BadRequest exactly where there is none. Want of memory may come instead,
-- and nothing else.
abbrev pub Answers : {T : Type 0} → Option T → Result T ReportError → Type 0
Answers asked (Ok report) = asked ≡ Some report
Answers asked (Err BadRequest) = asked ≡ None
Answers asked (Err FreeBusy) = ⊥
Answers asked (Err (Fs e)) = ⊥
Answers asked (Err NoMemory) = Unit {0}
