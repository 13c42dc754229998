use Rattle.std.proofs.Common.{sym, ◌∙◌, string_bytes}
use Rattle.dav_host.proofs.PathTexts.{path_more, fits_more, too_long}
use Rattle.dav_host.proofs.paths.lay_path.Goals as goal

pub returns-then-not-push_name-clause-fits : goal.returns-then-not-push_name-clause-fits
returns-then-not-push_name-clause-fits c =
    sym (too_long c.args.root.now c.args.names.now c.loop-name.name-index c.name-item.result c.name-item.result c.as_str.result.now (string_bytes c.loop-name.path)
    c.loop-name-test.true c.name-item.is c.as_str.ensures.value c.loop-name.invariant.1 (sym c.push_name.ensures.fits ∙ c.if-not-push_name.true))

pub loop-name-preserved : goal.loop-name-preserved
loop-name-preserved c =
    let appended = c.push_name.ensures.done c.if-not-push_name.false in (
      c.push_name.ensures.room,
      path_more c.args.root.now c.args.names.now c.loop-name.name-index c.name-item.result c.name-item.result c.as_str.result.now (string_bytes c.loop-name.path) (string_bytes c.push_name.new.path)
          c.loop-name-test.true c.name-item.is c.as_str.ensures.value c.loop-name.invariant.1 appended,
      fits_more (string_bytes c.loop-name.path) c.as_str.result.now (string_bytes c.push_name.new.path) appended (sym c.push_name.ensures.fits ∙ c.if-not-push_name.false),
    )
