use Rattle.std.proofs.Common.{sym, subst, length, ap, ◌∙◌, ◌<◌, ◌≤◌}
use Rattle.std.specs.Str.{all_ascii_digits}
use Rattle.dav_io.proofs.Digits.{digits_text}
use Rattle.dav_fetch.proofs.Digits.{not_refused}
use Rattle.dav_fetch.proofs.judging.parsed.Goals as goal

pub returns-in-Err-parse : goal.returns-in-Err-parse
returns-in-Err-parse c =
    let same = c.in-Ok.ensures.cases.0 in
    absurd (not_refused c.in-Ok.text.now c.in-Err-parse.field-0 (ap all_ascii_digits same ∙ c.requires.digits)
    (subst (λ ds. 0 < length ds) (sym same) c.requires.some) (subst (λ ds. length ds ≤ 19) (sym same) c.requires.few) c.in-Err-parse.ensures.value.0)

pub returns-in-Err : goal.returns-in-Err
returns-in-Err c = absurd (c.in-Err.ensures.cases.0 (digits_text c.args.digits.now c.requires.digits))
