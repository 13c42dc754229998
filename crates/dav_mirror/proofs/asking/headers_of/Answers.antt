use Rattle.std.proofs.Common.{◌≡◌, ◌+◌, ◌<◌, ◌++◌, ◌∷◌, [], length, take, sym, ap, subst, ◌∙◌, true≢false, arith}
use Rattle.std.proofs.lemmas.List.{take_more}
use Rattle.http_header.specs.FieldValue.{plain_value}
use Rattle.http_header.specs.HeaderMap.{append}
use Rattle.dav_io.specs.declared.fields.Field.{Field}
use Rattle.dav_fetch.specs.Peer.{Carries}
use Rattle.dav_mirror.specs.Asking.{IsSaid, IsSmall}
use Rattle.dav_mirror.proofs.Fields.{carries_more, said_at, small_less, small_more}
use Rattle.dav_mirror.proofs.asking.headers_of.Goals as goal

pub loop-field-preserved : goal.loop-field-preserved
loop-field-preserved c =
    let i = c.loop-field.field-index in
    let fields = c.args.fields.now in
    let field : Field = c.field-item.result in
    let added : c.add_field.new.headers ≡ append c.loop-field.headers field.name (plain_value field.value) = c.in_ok-add_field.ensures.adds c.if-not-branch.false in
    let more : take i fields ++ field ∷ [] ≡ take (i + 1) fields = ap (λ y. take i fields ++ y ∷ []) c.field-item.is ∙ sym (take_more fields i field c.loop-field-test.true) in (
      subst (λ l. Carries l c.add_field.new.headers) more (subst (Carries (take i fields ++ field ∷ [])) (sym added) (carries_more (take i fields) c.loop-field.headers field c.loop-field.invariant.0)),
      subst (IsSmall (i + 1)) (sym added) (small_more i c.loop-field.headers field.name (plain_value field.value) c.loop-field.invariant.1),
    )

-- A field can't be said.
pub returns-then-not-branch-clause-some : goal.returns-then-not-branch-clause-some
returns-then-not-branch-clause-some c = λ said.
    let i = c.loop-field.field-index in
    let fields = c.args.fields.now in
    let field : Field = c.field-item.result in
    let inside : i < length fields = c.loop-field-test.true in
    let fits : IsSaid field = subst IsSaid (sym c.field-item.is) (said_at fields i field said.each inside) in
    let few = said.few in
    absurd (true≢false (sym (c.in_ok-add_field.ensures.added fits (small_less i 1000 c.loop-field.headers (omega (arith, inside, few)) c.loop-field.invariant.1)) ∙ c.if-not-branch.true))
