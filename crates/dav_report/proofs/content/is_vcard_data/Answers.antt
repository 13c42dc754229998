use Rattle.std.proofs.Common.{codes}
use Rattle.dav_report.proofs.Found.{object_is}
use Rattle.dav_report.proofs.content.is_vcard_data.Goals as goal

pub returns-then-starts_with : goal.returns-then-starts_with
returns-then-starts_with c =
    object_is (codes "BEGIN:VCARD") (codes "END:VCARD") c.args.content.now c.trim_ascii_end.result.now c.ends_with.result c.if-starts_with.ensures.value c.trim_ascii_end.ensures.value c.ends_with.ensures.value
