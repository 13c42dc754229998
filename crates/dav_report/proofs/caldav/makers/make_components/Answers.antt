use Rattle.dav_report.specs.declared.caldav.resource.CalendarComponentType.TheVariants.{VEvent}
use Rattle.dav_report.proofs.ComponentKinds.{kind_step}
use Rattle.dav_report.proofs.caldav.makers.make_components.Goals as goal

pub loop-kind-preserved : goal.loop-kind-preserved
loop-kind-preserved c = rw (c.in_ok-push.ensures.ok, c.in_ok-make_component.ensures, c.loop-kind.invariant) (kind_step c.args.components.now c.loop-kind.kind-index VEvent c.loop-kind-test.true)
