use Rattle.std.proofs.Common.{List, IfSome, is_some, sym, ap, subst, ◌∙◌, true≢false}
use Rattle.dav_io.specs.declared.fields.Field.{Field}
use Rattle.dav_model.specs.Conditions.{Fields}
use Rattle.dav_fetch.specs.Peer.{Carries}
use Rattle.dav_mirror.specs.Asking.{AreSaid, CanBeTarget}
use Rattle.dav_mirror.proofs.Askable.{askable_said}
use Rattle.dav_mirror.proofs.Hearing.{leads_back, none_hinders}
use Rattle.dav_mirror.proofs.asking.request_for.Goals as goal

pub returns-in_default-2-clause-hears : goal.returns-in_default-2-clause-hears
returns-in_default-2-clause-hears c = λ askable.
    let said = subst AreSaid (sym c.as_slice.ensures) (askable_said c.args.path.now c.args.fields.now askable) in
    true≢false (sym (c.in_ok-headers.ensures.some said) ∙ ap is_some c.in_default-2.is)

pub returns-clause-hears : goal.returns-clause-hears
returns-clause-hears c = λ askable.
    let can : CanBeTarget c.args.path.now = record { is = askable.is; short = c.requires } in
    let carried = subst (λ (asked : List Field). IfSome c.in_ok-headers.field-0 (λ (headers : Fields). Carries asked headers)) c.as_slice.ensures c.in_ok-headers.ensures.carries in
    c.in_ok-heard.ensures.1 (
      leads_back c.args.path.now c.in_ok-uri.field-0 c.in-Some.uri can askable.prefix c.in-Some.is (c.in_ok-uri.ensures can),
      none_hinders c.args.path.now c.args.fields.now c.in_ok-headers.field-0 c.in-Some-2.headers askable c.in-Some-2.is carried,
    )
