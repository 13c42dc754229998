-- Without a store nothing passes the gates.
use Rattle.std.proofs.Common.{◌≡◌, ◌||◌, ◌&&◌, ℕ, Bool, true, false, cond, Option, None, Some, Result, Ok, Err, refl, subst, sym}
use Rattle.http.specs.declared.request.Parts.{Parts}
use Rattle.http_uri.specs.Uri.{uri_path}
use Rattle.dav_core.specs.declared.dav_error.DavError.{DavError}
use Rattle.dav_core.specs.declared.method.DavMethod.{DavMethod}
use Rattle.dav_core.specs.declared.method.DavMethod.TheVariants.{Copy, Delete, Get, Head, Lock, MkAddressbook, MkCalendar, MkCol, Move, Options, Patch, PropFind, PropPatch, Put, Report, Unlock}
use Rattle.dav_core.specs.declared.parse_error.ParseError.{ParseError}
use Rattle.dav_core.specs.DavPath.{WebPath}
use Rattle.dav_core.specs.Grammar.{parsed}
use Rattle.dav_core.specs.Methods.{method_of, same_method}
use Rattle.dav_model.specs.declared.settings.Settings.{Settings}
use Rattle.dav_model.specs.declared.target.Target.{Target}
use Rattle.dav_model.specs.declared.target.Target.TheVariants.{At, Methods, Refused, Writes}
use Rattle.dav_model.specs.Conditions.{Fields, writes}
use Rattle.dav_model.specs.Gates.{Bulk, none, some, much, broken, asked, in_allowed, is_allowed, is_built, of_body, or_refused, takes_much, takes_some, unless, weighed, with_method, with_path}
use Rattle.dav_store.specs.Bodies.{BodyState}
use Rattle.dav_config.specs.Finding.{IsGated, Sought}
use Rattle.dav_config.specs.Handling.{Asking, IsAt, IsTarget, IsWritten}
use Rattle.dav_config.specs.Writing.{Brought, asks_to_write, is_of_writing}

-- a gate that lets pass, or refuses
abbrev Refuses : Option Target → Type 0
Refuses None = Unit {0}
Refuses (Some target) = IsAt target → ⊥

unless_refuses : (passes : Bool) (target : Target) → (IsAt target → ⊥) → Refuses (cond passes None (Some target))
unless_refuses true target never = tt
unless_refuses false target never = never

body_refuses : (method : DavMethod) (bulk : Bulk) → Refuses (of_body method bulk)
body_refuses method none = tt
body_refuses method some = unless_refuses (takes_some method) (Refused 415 false) (λ at. at)
body_refuses method much = unless_refuses (takes_much method) (Refused 413 false) (λ at. at)
body_refuses method broken = λ at. at

never_at : (first second : Option Target) (target : Target) → Refuses first → Refuses second → (IsAt target → ⊥) → IsAt (or_refused first second target) → ⊥
never_at None None target a b c at = c at
never_at None (Some refused) target a b c at = b at
never_at (Some refused) second target a b c at = a at

-- OPTIONS asks no store
asked_never : (method : DavMethod) (path : WebPath) → same_method method Options ≡ true → IsAt (asked method path) → ⊥
asked_never method path same at = subst (λ (b : Bool). IsAt (cond b Methods (cond (writes method) (Writes method path) (At method path)))) same at

unread : (fields : Fields) (bulk : Bulk) (method : DavMethod) (path : Result WebPath ParseError) → same_method method Options ≡ true
    → IsAt (weighed fields bulk (with_path method path)) → ⊥
unread fields bulk method (Err fault) same at = at
unread fields bulk method (Ok path) same at =
    never_at (of_body method bulk) (unless (is_built fields method) 501 true) (asked method path) (body_refuses method bulk)
    (unless_refuses (is_built fields method) (Refused 501 true) (λ at. at)) (asked_never method path same) at

allowed_without : (fields : Fields) (bulk : Bulk) (method : DavMethod) (path : Result WebPath ParseError) (among same : Bool) → same_method method Options ≡ same
    → IsAt (weighed fields bulk (cond (among && (false || same)) (with_path method path) (Refused 405 true))) → ⊥
allowed_without fields bulk method path true true e at = unread fields bulk method path e at
allowed_without fields bulk method path true false e at = at
allowed_without fields bulk method path false same e at = at

known_without : (settings : Settings) (head : Parts) (bulk : Bulk) (method : Result DavMethod DavError) → IsAt (weighed head.headers bulk (with_method settings false head method)) → ⊥
known_without settings head bulk (Err e) at = at
known_without settings head bulk (Ok method) at =
    allowed_without head.headers bulk method (parsed (uri_path head.uri) settings.prefix) (in_allowed settings.allow method) (same_method method Options) refl at

pub gated_alone : {C : Type 0} (sought : Sought C) (old new : Brought) (target : Target) → IsGated sought false old target new → IsAt target → ⊥
gated_alone sought old new target is at = known_without sought.settings sought.head is.bulk (method_of sought.head.method) (subst IsAt is.gated at)

-- ---- what is asked for by writing

module _ (head : Parts) where
  -- a gate that lets pass, or a target that is told apart so
  abbrev Parted : Option Target → Type 0
  Parted None = Unit {0}
  Parted (Some target) = IsWritten target head

  unless_parted : (passes : Bool) (status : ℕ) (close : Bool) → Parted (unless passes status close)
  unless_parted true status close = tt
  unless_parted false status close = tt

  much_parted : (takes : Bool) → Parted (cond takes None (Some (Refused 413 false)))
  much_parted true = tt
  much_parted false = tt

  body_parted : (method : DavMethod) (bulk : Bulk) → Parted (of_body method bulk)
  body_parted method none = tt
  body_parted method some = unless_parted (takes_some method) 415 false
  body_parted method much = much_parted (takes_much method)
  body_parted method broken = tt

  or_parted : (first second : Option Target) (target : Target) → Parted first → Parted second → IsWritten target head → IsWritten (or_refused first second target) head
  or_parted None None target a b c = c
  or_parted None (Some refused) target a b c = b
  or_parted (Some refused) second target a b c = a

  asked_parted : (method : DavMethod) (path : WebPath) → asks_to_write head ≡ writes method → IsWritten (asked method path) head
  asked_parted Head path e = e
  asked_parted Get path e = e
  asked_parted Put path e = (refl, e)
  asked_parted Patch path e = e
  asked_parted Options path e = e
  asked_parted PropFind path e = e
  asked_parted PropPatch path e = e
  asked_parted MkCol path e = (refl, e)
  asked_parted Copy path e = (refl, e)
  asked_parted Move path e = (refl, e)
  asked_parted Delete path e = (refl, e)
  asked_parted Lock path e = e
  asked_parted Unlock path e = e
  asked_parted Report path e = e
  asked_parted MkCalendar path e = (refl, e)
  asked_parted MkAddressbook path e = (refl, e)

  path_parted : (fields : Fields) (bulk : Bulk) (method : DavMethod) (path : Result WebPath ParseError) → asks_to_write head ≡ writes method
      → IsWritten (weighed fields bulk (with_path method path)) head
  path_parted fields bulk method (Err fault) e = tt
  path_parted fields bulk method (Ok path) e =
      or_parted (of_body method bulk) (unless (is_built fields method) 501 true) (asked method path) (body_parted method bulk)
      (unless_parted (is_built fields method) 501 true) (asked_parted method path e)

  allowed_parted : (fields : Fields) (bulk : Bulk) (method : DavMethod) (path : Result WebPath ParseError) (allowed : Bool) → asks_to_write head ≡ writes method
      → IsWritten (weighed fields bulk (cond allowed (with_path method path) (Refused 405 true))) head
  allowed_parted fields bulk method path true e = path_parted fields bulk method path e
  allowed_parted fields bulk method path false e = tt

  pub known_parted : (settings : Settings) (stored : Bool) (bulk : Bulk) (method : Result DavMethod DavError) → asks_to_write head ≡ is_of_writing method
      → IsWritten (weighed head.headers bulk (with_method settings stored head method)) head
  known_parted settings stored bulk (Err fault) e = tt
  known_parted settings stored bulk (Ok method) e =
      allowed_parted head.headers bulk method (parsed (uri_path head.uri) settings.prefix) (is_allowed stored settings.allow method) e

-- What the gates make of a request writes where its method does.
pub target_parted : {C : Type 0} (asking : Asking C) (stored : Bool) (old new : BodyState) (target : Target) → IsTarget asking stored old target new
    → IsWritten target asking.head
target_parted asking stored old new target asks =
    subst (λ (x : Target). IsWritten x asking.head) (sym asks.gated) (known_parted asking.head asking.settings stored asks.bulk (method_of asking.head.method) refl)
