use Rattle.std.proofs.Common.{rules, ap, ◌∙◌}
use Rattle.dav_calendar.specs.Moments.{time}
use Rattle.dav_calendar.proofs.Digits.{rest_is}
use Rattle.dav_calendar.proofs.Saying.{timed, untimed}
use Rattle.dav_calendar.proofs.moments.read_moment.Goals as goal

pub returns-in-Some-time-clause-value : goal.returns-in-Some-time-clause-value
returns-in-Some-time-clause-value c =
    timed c.args.text.now c.in-Some-day.start _ c.in-Some-time.within (search rules) c.in-Some-day.ensures.value (c.in-Some-time.ensures.value ∙ ap time (rest_is 8 c.args.text.now)) (search rules)

pub returns-in-None-time-clause-value : goal.returns-in-None-time-clause-value
returns-in-None-time-clause-value c = untimed c.args.text.now c.in-Some-day.start (search rules) c.in-Some-day.ensures.value (c.in-None-time.ensures.value ∙ ap time (rest_is 8 c.args.text.now))
