use Rattle.std.proofs.Common.{◌++◌, ap, sym, ◌∙◌, append_assoc, string_bytes}
use Rattle.dav_core.specs.DavPath.{final_slash}
use Rattle.dav_core.specs.Tree.{is_dir}
use Rattle.dav_page.specs.Index.{name_text}
use Rattle.dav_page.proofs.RowsWritten.{name_ended}
use Rattle.dav_page.proofs.rows.push_name.Goals as goal

pub returns-clause-text : goal.returns-clause-text
returns-clause-text c =
    let row = string_bytes c.args.row.now in
    let name = c.args.member.now.name in
    let slash = is_dir c.args.member.now.kind in
    c.in_ok-push_slash.ensures
    ∙ (ap (λ t. t ++ final_slash slash) (c.in_ok-push_text.ensures ∙ ap (λ t. row ++ name_text t) c.as_str.ensures.value)
    ∙ (append_assoc row (name_text name) (final_slash slash) ∙ ap (λ t. row ++ t) (sym (name_ended name slash c.as_str.ensures.utf8))))
