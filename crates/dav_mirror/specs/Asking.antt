-- The request that a player is asked for a path.
use Rattle.std.specs.Prelude.{◌≡◌, ◌≤◌, ℕ, List, [], codes, false, true, Bool, Option, None, Some, Ok, length}
use Rattle.std.specs.List.{AllByRecursion}
use Rattle.http.specs.Request.{head_of, body_of}
use Rattle.http_header.specs.FieldName.{IsHeaderName}
use Rattle.http_header.specs.FieldValue.{IsFieldValue}
use Rattle.http_header.specs.HeaderMap.{value_count}
use Rattle.http_uri.specs.declared.uri.Uri.{Uri}
use Rattle.http_uri.specs.Uri.{uri_path}
use Rattle.dav_io.specs.declared.fields.Field.{Field}
use Rattle.dav_core.specs.DavPath.{IsPath, WebPath, link_of, shown}
use Rattle.dav_core.specs.Grammar.{parsed}
use Rattle.dav_model.specs.Conditions.{Asked, Fields, fields_of}
use Rattle.dav_model.specs.Gates.{has_field}
use Rattle.dav_fetch.specs.Peer.{Carries, links_most}
use Rattle.dav_mirror.specs.declared.asking.Asking.{Asking}

-- The target of the request leads back to the path, and none of its fields is `if`, which no server of ours hears.
pub record IsHeard (path : WebPath) (request : Asked) : Type 0 where
  pub back : parsed (uri_path (head_of request).uri) [] ≡ Ok path
  pub plain : has_field (fields_of request) (codes "if") ≡ false

-- A GET with these fields, and without a body.
pub record IsGet (asked : List Field) (request : Asked) : Type 0 where
  pub method : (head_of request).method ≡ codes "GET"
  pub fields : Carries asked (fields_of request)
  pub body : body_of request ≡ []

-- It asks for this path; where it is said to be heard, it is.
pub record IsAskedFor (path : WebPath) (asked : List Field) (request : Asked) (heard : Bool) : Type 0 where
  pub get : IsGet asked request
  pub is : heard ≡ true → IsHeard path request

-- ---- what can be asked

-- a path whose link is a target of a request
pub record CanBeTarget (path : WebPath) : Type 0 where
  pub is : IsPath path
  pub short : length (link_of (shown path)) ≤ links_most

-- The link is the path of the target.
abbrev pub IsTarget : WebPath → Option Uri → Type 0
IsTarget path None = ⊥
IsTarget path (Some uri) = uri_path uri ≡ link_of (shown path)

-- A request can have the field.
pub record IsSaid (f : Field) : Type 0 where
  pub name : IsHeaderName f.name
  pub value : IsFieldValue f.value

-- so few fields that a map has room for one more
pub record IsSmall (most : ℕ) (headers : Fields) : Type 0 where
  pub names : length headers ≤ most
  pub values : value_count headers ≤ most

-- A request can have these fields.
pub record AreSaid (asked : List Field) : Type 0 where
  pub each : AllByRecursion IsSaid asked
  pub few : length asked ≤ 1000

-- It is heard.
abbrev pub Hears : Option Asking → Type 0
Hears None = ⊥
Hears (Some asking) = asking.heard ≡ true
