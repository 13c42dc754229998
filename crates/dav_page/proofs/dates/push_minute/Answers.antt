use Rattle.std.proofs.Common.{rules, ◌++◌, ◌/◌, ◌%◌, codes, refl, ◌∙◌}
use Rattle.httpdate.specs.Text.{four_digits, two_digits}
use Rattle.dav_page.proofs.RowsWritten.{goes_on}
use Rattle.dav_page.proofs.dates.push_minute.Goals as goal

pub returns : goal.returns
returns c =
    let parts = c.civil_of-year.result in (
      four_digits parts.0 ++ (codes "-" ++ (two_digits parts.1 ++ (codes "-" ++ (two_digits parts.2
          ++ (codes " " ++ (two_digits (c.args.secs % 86400 / 3600) ++ (codes ":" ++ two_digits (c.args.secs % 3600 / 60)))))))),
      c.in_ok-push_clock.ensures ∙ goes_on _ _ _ _ c.in_ok-push_day.ensures,
      record { year = parts.0; month = parts.1; day = parts.2; civil = c.civil_of-year.ensures.civil; counts = search rules; spells = refl },
    )
