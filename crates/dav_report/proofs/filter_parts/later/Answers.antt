use Rattle.std.proofs.Common.{sym, ap, ◌∙◌}
use Rattle.std.specs.Option.{option_or}
use Rattle.dav_report.specs.Children.{last_of}
use Rattle.dav_report.proofs.Steps.{last_of-push}
use Rattle.dav_report.proofs.filter_parts.later.Goals as goal

pub returns-in-Some : goal.returns-in-Some
returns-in-Some g c = sym (ap (λ o. option_or o c.args.kept) (ap last_of c.in-Some.ensures.items ∙ last_of-push c.pop.new.self.items c.in-Some.last))
