-- A GET writes nothing, whatever is set.
use Rattle.std.proofs.Common.{◌≡◌, Bool, true, false, not, None, Result, Ok, Err, codes, cond, refl, ap}
use Rattle.http.specs.declared.request.Parts.{Parts}
use Rattle.http.specs.Request.{head_of, body_of}
use Rattle.http_uri.specs.Uri.{uri_path}
use Rattle.dav_core.specs.declared.dav_error.DavError.{DavError}
use Rattle.dav_core.specs.declared.method.DavMethod.{DavMethod}
use Rattle.dav_core.specs.declared.method.DavMethod.TheVariants.{Get}
use Rattle.dav_core.specs.declared.parse_error.ParseError.{ParseError}
use Rattle.dav_core.specs.DavPath.{WebPath}
use Rattle.dav_core.specs.Grammar.{parsed}
use Rattle.dav_core.specs.Methods.{method_of}
use Rattle.dav_model.specs.declared.settings.Settings.{Settings}
use Rattle.dav_model.specs.declared.target.Target.{Target}
use Rattle.dav_model.specs.declared.target.Target.TheVariants.{At, Refused}
use Rattle.dav_model.specs.Conditions.{Asked, Fields}
use Rattle.dav_model.specs.Gates.{Bulk, bulk_of, gates, is_allowed, is_built, none, some, much, broken, weighed, with_method, with_path}
use Rattle.dav_model.specs.Rules.{Rules}
use Rattle.dav_model.specs.Trail.{is_writing, target_of}

abbrev IsRead : Target → Type 0
IsRead target = is_writing target ≡ false

by_built : (path : WebPath) (built : Bool) → IsRead (Rattle.dav_model.specs.Gates.or_refused None (Rattle.dav_model.specs.Gates.unless built 501 true) (At Get path))
by_built path true = refl
by_built path false = refl

weighed_get : (fields : Fields) (bulk : Bulk) (path : WebPath) → IsRead (weighed fields bulk (At Get path))
weighed_get fields none path = by_built path (is_built fields Get)
weighed_get fields some path = refl
weighed_get fields much path = refl
weighed_get fields broken path = refl

at_path : (fields : Fields) (bulk : Bulk) (path : Result WebPath ParseError) → IsRead (weighed fields bulk (with_path Get path))
at_path fields bulk (Ok path) = weighed_get fields bulk path
at_path fields bulk (Err fault) = refl

allowed : (fields : Fields) (bulk : Bulk) (path : Result WebPath ParseError) (is : Bool) → IsRead (weighed fields bulk (cond is (with_path Get path) (Refused 405 true)))
allowed fields bulk path true = at_path fields bulk path
allowed fields bulk path false = refl

gated : (settings : Settings) (head : Parts) (bulk : Bulk) (method : Result DavMethod DavError) → method ≡ Ok Get → IsRead (weighed head.headers bulk (with_method settings true head method))
gated settings head bulk method is = rw is (allowed head.headers bulk (parsed (uri_path head.uri) settings.prefix) (is_allowed true settings.allow Get))

pub quiet_get : (rules : Rules) (request : Asked) → (head_of request).method ≡ codes "GET" → not (is_writing (target_of rules request)) ≡ true
quiet_get rules request get =
    ap not (gated rules.settings (head_of request) (bulk_of (body_of request)) (method_of (head_of request).method) (ap method_of get))
