-- What a fetch asks is heard.
use Rattle.std.proofs.Common.{◌≡◌, List, [], false, Option, None, Some, IfSome, Ok, codes, sym, ap, ◌∙◌}
use Rattle.http_uri.specs.declared.uri.Uri.{Uri}
use Rattle.http_uri.specs.Uri.{uri_path}
use Rattle.dav_io.specs.declared.fields.Field.{Field}
use Rattle.dav_core.specs.DavPath.{WebPath, link_of, shown}
use Rattle.dav_core.specs.Grammar.{parsed}
use Rattle.dav_core.proofs.Back.{parsed_back}
use Rattle.dav_model.specs.Conditions.{Fields}
use Rattle.dav_model.specs.Gates.{has_field}
use Rattle.dav_fetch.specs.Peer.{Carries, IsAskable}
use Rattle.dav_mirror.specs.Asking.{CanBeTarget, IsTarget}
use Rattle.dav_mirror.proofs.Askable.{askable_none}
use Rattle.dav_mirror.proofs.Fields.{none_carried}
use Rattle.dav_io.proofs.Cases.{if_some}

target_is : (path : WebPath) (o : Option Uri) (u : Uri) → o ≡ Some u → IsTarget path o → uri_path u ≡ link_of (shown path)
target_is path None u e h = cc
target_is path (Some x) u e h = let same : x ≡ u = cc in ap uri_path (sym same) ∙ h

-- The target of its request leads back to the path.
pub leads_back : (path : WebPath) (o : Option Uri) (u : Uri) → CanBeTarget path → path.prefix ≡ [] → o ≡ Some u → IsTarget path o → parsed (uri_path u) [] ≡ Ok path
leads_back path o u can none some target = ap (λ text. parsed text []) (target_is path o u some target) ∙ parsed_back path [] can.is (sym none)

-- None of its fields is one that isn't heard.
pub none_hinders : (path : WebPath) (asked : List Field) (p : Option Fields) (m : Fields) → IsAskable path asked → p ≡ Some m → IfSome p (λ (headers : Fields). Carries asked headers) → has_field m (codes "if") ≡ false
none_hinders path asked p m askable there carried =
    none_carried asked m (codes "if") (if_some (λ (headers : Fields). Carries asked headers) p m there carried) (askable_none path asked askable)
