use Rattle.std.proofs.Common.{◌∙◌, ap, sym, true≢false}
use Rattle.dav_core.specs.DavPath.{WebPath}
use Rattle.dav_mirror.proofs.Paths.{end_same, same_paths, told_apart, told_same}
use Rattle.dav_mirror.proofs.asking.is_same.Goals as goal

pub returns-then-not-same_prefix : goal.returns-then-not-same_prefix
returns-then-not-same_prefix c = (
  λ e. absurd (true≢false (sym e)),
  λ e. absurd (told_apart c.prefix.result.now c.prefix-2.result.now _ c.is_equal-same_prefix.ensures c.if-not-same_prefix.true (c.prefix.ensures ∙ ap (λ (p : WebPath). p.prefix) e ∙ sym c.prefix-2.ensures)),
)

pub returns-then-not-same_names : goal.returns-then-not-same_names
returns-then-not-same_names c = (
  λ e. absurd (true≢false (sym e)),
  λ e. absurd (told_apart c.names.result.now c.names-2.result.now _ c.is_equal-same_names.ensures c.if-not-same_names.true (c.names.ensures.value ∙ ap (λ (p : WebPath). p.names) e ∙ sym c.names-2.ensures.value)),
)

pub returns : goal.returns
returns c =
    let prefix = sym c.prefix.ensures ∙ told_same c.prefix.result.now c.prefix-2.result.now _ c.is_equal-same_prefix.ensures c.if-not-same_prefix.false ∙ c.prefix-2.ensures in
    let names = sym c.names.ensures.value ∙ told_same c.names.result.now c.names-2.result.now _ c.is_equal-same_names.ensures c.if-not-same_names.false ∙ c.names-2.ensures.value in (
      λ e. same_paths c.args.a.now c.args.b.now _ prefix names c.has_same_end.ensures e,
      λ e. end_same c.args.a.now c.args.b.now c.has_same_end.result c.has_same_end.ensures e,
    )
