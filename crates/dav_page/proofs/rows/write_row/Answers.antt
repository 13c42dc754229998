use Rattle.std.proofs.Common.{◌++◌, refl, string_bytes}
use Rattle.std.proofs.lemmas.Str.{IsUtf8-string_bytes}
use Rattle.dav_core.specs.DavPath.{final_slash, link_of}
use Rattle.dav_core.specs.Tree.{is_dir}
use Rattle.dav_page.specs.Index.{name_text}
use Rattle.dav_page.specs.Listed.{shown_name, size_of}
use Rattle.dav_page.specs.Pages.{RowTexts}
use Rattle.dav_page.proofs.RowsWritten.{row_made}
use Rattle.dav_page.proofs.rows.write_row.Goals as goal

pub returns : goal.returns
returns c =
    let m = c.args.member.now in
    let date = c.in_ok-push_date.ensures in
    let texts : RowTexts =
    record {
      link = c.args.below.now ++ (link_of m.name ++ final_slash (is_dir m.kind));
      name = name_text (shown_name m);
      date = date.0;
      size = size_of m;
    } in
    record {
      texts = texts;
      link = refl;
      name = refl;
      named = c.in_ok-push_name.ensures.utf8;
      date = date.2;
      size = refl;
      fits = c.in_ok-push_size_of.ensures.form;
      spells =
          row_made texts (string_bytes c.clear.new.self) (string_bytes c.push_str.new.self) (string_bytes c.push_link_below.new.row)
          (string_bytes c.push_str-2.new.self) (string_bytes c.push_name.new.row) (string_bytes c.push_str-3.new.self)
          (string_bytes c.push_date.new.text) (string_bytes c.push_str-4.new.self) (string_bytes c.push_size_of.new.text)
          (string_bytes c.push_str-5.new.self) c.clear.ensures.bytes c.in_ok-push_str.ensures.bytes c.in_ok-push_link_below.ensures
          c.in_ok-push_str-2.ensures.bytes c.in_ok-push_name.ensures.text c.in_ok-push_str-3.ensures.bytes date.1
          c.in_ok-push_str-4.ensures.bytes c.in_ok-push_size_of.ensures.value c.in_ok-push_str-5.ensures.bytes;
      utf8 = IsUtf8-string_bytes c.push_str-5.new.self;
    }
