-- The gates: what a request asks for, or what it is refused with whatever stands on the disk. The first gate that
-- refuses decides.
use Rattle.std.specs.Prelude.{◌&&◌, ◌||◌, ◌==◌, ℕ, List, Bool, true, false, cond, not, length, nat_lt, codes, is_some, Option, None, Some, Result, Ok, Err}
use Rattle.http.specs.declared.request.Parts.{Parts}
use Rattle.http_uri.specs.Uri.{uri_path}
use Rattle.http_header.specs.HeaderMap.{get}
use Rattle.dav_core.specs.declared.dav_error.DavError.{DavError}
use Rattle.dav_core.specs.declared.method.DavMethod.{DavMethod}
use Rattle.dav_core.specs.declared.method.DavMethod.TheVariants.{Put, Patch, Options, PropFind, PropPatch, Lock, Report, MkCalendar, MkAddressbook}
use Rattle.dav_core.specs.declared.method.DavMethodSet.{DavMethodSet}
use Rattle.dav_core.specs.declared.parse_error.ParseError.{ParseError}
use Rattle.dav_core.specs.Methods.{method_of, is_in, same_method}
use Rattle.dav_core.specs.Statuses.{path_status}
use Rattle.dav_core.specs.DavPath.{WebPath}
use Rattle.dav_core.specs.Grammar.{parsed}
use Rattle.dav_model.specs.Conditions.{Fields, reads, writes}
use Rattle.dav_model.specs.declared.settings.Settings.{Settings}
use Rattle.dav_model.specs.declared.target.Target.{Target}
use Rattle.dav_model.specs.declared.target.Target.TheVariants.{At, Methods, Refused, Writes}

-- What the gates see of a body: that of a list of bytes, or of a reader.
pub data Bulk : Type 0 where
  none : Bulk
  some : Bulk
  -- more than 65,536 bytes
  much : Bulk
  -- its reader failed
  broken : Bulk

abbrev pub bulk_of : List ℕ → Bulk
bulk_of bytes = cond (length bytes == 0) none (cond (nat_lt 65536 (length bytes)) much some)

-- every method is allowed, or those that are set
abbrev pub in_allowed : Option DavMethodSet → DavMethod → Bool
in_allowed None method = true
in_allowed (Some set) method = is_in set method

-- Without a store OPTIONS alone is answered.
abbrev pub is_allowed : Bool → Option DavMethodSet → DavMethod → Bool
is_allowed stored allow method = in_allowed allow method && (stored || same_method method Options)

-- Gates 1 to 4, of the head alone.
abbrev pub with_path : DavMethod → Result WebPath ParseError → Target
with_path method (Ok path) = At method path
with_path method (Err fault) = Refused (path_status fault) false

abbrev pub with_method : Settings → Bool → Parts → Result DavMethod DavError → Target
with_method settings stored head (Err e) = Refused 501 true
with_method settings stored head (Ok method) = cond (is_allowed stored settings.allow method)
    (with_path method (parsed (uri_path head.uri) settings.prefix)) (Refused 405 true)

abbrev pub admitted : Settings → Bool → Parts → Target
admitted settings stored head = with_method settings stored head (method_of head.method)

-- Gates 5 and 6, of the body: too much of it, none of it read, or one that the method has no use for.
abbrev pub takes_much : DavMethod → Bool
takes_much method = same_method method Put || same_method method Patch

abbrev pub takes_some : DavMethod → Bool
takes_some method = takes_much method || (same_method method PropFind || (same_method method PropPatch
    || (same_method method Lock
    || (same_method method Report || (same_method method MkCalendar || same_method method MkAddressbook)))))

abbrev pub unless : Bool → ℕ → Bool → Option Target
unless passes status close = cond passes None (Some (Refused status close))

abbrev pub of_body : DavMethod → Bulk → Option Target
of_body method none = None
of_body method some = unless (takes_some method) 415 false
of_body method much = cond (takes_much method) None (Some (Refused 413 false))
of_body method broken = Some (Refused 500 false)

-- Gates 7 and 8, of the head again: a form that isn't built. Some methods aren't, nor is the field `if`, nor a PUT of a
-- part of a file.
abbrev pub has_field : Fields → List ℕ → Bool
has_field fields name = is_some (get fields name)

abbrev pub is_partial : Fields → DavMethod → Bool
is_partial fields method = same_method method Put && has_field fields (codes "content-range")

abbrev pub is_built : Fields → DavMethod → Bool
is_built fields method = (reads method || (writes method || same_method method Options))
    && not (has_field fields (codes "if") || is_partial fields method)

abbrev pub or_refused : Option Target → Option Target → Target → Target
or_refused None None target = target
or_refused None (Some refused) target = refused
or_refused (Some refused) other target = refused

-- what a request asks for that passed the gates
abbrev pub asked : DavMethod → WebPath → Target
asked method path = cond (same_method method Options) Methods
    (cond (writes method) (Writes method path) (At method path))

abbrev pub weighed : Fields → Bulk → Target → Target
weighed fields bulk (Refused status close) = Refused status close
weighed fields bulk Methods = Methods
weighed fields bulk (Writes method path) = Writes method path
weighed fields bulk (At method path) =
    or_refused (of_body method bulk) (unless (is_built fields method) 501 true) (asked method path)

-- All gates, in their order. `stored` is whether there is a store.
abbrev pub gates : Settings → Bool → Parts → Bulk → Target
gates settings stored head bulk = weighed head.headers bulk (admitted settings stored head)
