use Rattle.std.proofs.Common.{rules, ◌++◌, ◌∷◌, [], ◌∙◌, ap, subst, sym, IsUtf8, append_assoc}
use Rattle.dav_core.specs.DavPath.{link_of}
use Rattle.dav_page.specs.Index.{IsRowBelow, IsRowText}
use Rattle.dav_page.proofs.RowsWritten.{row_written, zip_more}
use Rattle.dav_page.proofs.rows.push_rows.Goals as goal

pub loop-member-preserved : goal.loop-member-preserved
loop-member-preserved c =
    let so = c.loop-member.invariant in
    let dir = c.args.dir.now in
    let text = c.new.result in
    let row =
    row_written dir c.member-item.result c.as_str-in-loop-member.result.now text
    (c.as_str-in-loop-member.ensures.value ∙ (c.in_ok-below.ensures ∙ ap link_of (c.as_str.ensures.value ∙ c.in_ok-above.ensures)))
    (subst IsUtf8 c.in_ok-above.ensures c.as_str.ensures.utf8)
    (subst (IsRowBelow c.as_str-in-loop-member.result.now c.member-item.result) (sym (c.new.ensures ∙ (c.in_ok-from_slice.ensures.items ∙ c.as_bytes.ensures.value))) c.in_ok-write_row.ensures) in (
      so.0 ++ text ∷ [],
      c.in_ok-push.ensures.items ∙ (ap (λ l. l ++ text ∷ []) so.1 ∙ append_assoc c.args.texts.now.items so.0 (text ∷ [])),
      zip_more (IsRowText dir) c.args.members.now so.0 c.loop-member.member-index c.member-item.result text c.loop-member-test.true so.2
          (search (rules, row)),
    )
