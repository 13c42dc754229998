use Rattle.std.proofs.Common.{◌≡◌, refl}
use Rattle.dav_report.specs.FilterLists.{asked_by, filters_of}
use Rattle.dav_report.specs.declared.caldav.copying.Open.{Open}
use Rattle.dav_report.proofs.FilterCopying.{open_step, close_step, all_done, opens_less, weight_behind}
use Rattle.dav_lock.proofs.Opened.{closes_less, none_open}
use Rattle.dav_calendar.proofs.NestedWaiting.{weight}
use Rattle.dav_report.proofs.caldav.copying.copy_filters.Goals as goal
use Rattle.std.proofs.lemmas.List.{nil_from_length}

pub loop-first-smaller-in-Some : goal.loop-first-smaller-in-Some
loop-first-smaller-in-Some c =
    let o : Open = record { filter = c.in_ok-filter-in-Some.filter; before = c.loop-first.done; behind = c.in-Some.behind } in
    rw c.as_slice-left.ensures (opens_less c.loop-first.open.items c.push.new.self.items o c.loop-first.left.now c.in-Some.first.now c.in_ok-push-in-Some.ensures.items c.in-Some.ensures.cases.0)

pub loop-first-preserved-in-Some : goal.loop-first-preserved-in-Some
loop-first-preserved-in-Some c =
    let o : Open = record { filter = c.in_ok-filter-in-Some.filter; before = c.loop-first.done; behind = c.in-Some.behind } in
    let is : asked_by c.in-Some.first.now ≡ asked_by o.filter = rw c.in_ok-filter-in-Some.ensures refl in
    rw (c.empty-done-in-Some.ensures, c.as_slice-left.ensures)
    (open_step c.loop-first.open.items c.push.new.self.items o (filters_of c.args.filters.now) c.loop-first.left.now c.in-Some.first.now c.in_ok-push-in-Some.ensures.items c.in-Some.ensures.cases.0 is c.loop-first.invariant)

pub loop-first-smaller : goal.loop-first-smaller
loop-first-smaller c =
    rw c.in_ok-done-in-Some-pop.ensures.1
    (closes_less weight_behind c.pop.new.self.items c.loop-first.open.items c.in-Some-pop.last (weight (filters_of c.loop-first.left.now)) c.in-Some-pop.ensures.items (rw (nil_from_length c.loop-first.left.now c.in-None.ensures.cases) refl))

pub loop-first-preserved : goal.loop-first-preserved
loop-first-preserved c =
    rw (c.in_ok-done-in-Some-pop.ensures.0, c.in_ok-done-in-Some-pop.ensures.1)
    (close_step c.pop.new.self.items c.loop-first.open.items c.in-Some-pop.last c.loop-first.done (filters_of c.args.filters.now) c.loop-first.left.now c.in-Some-pop.ensures.items (nil_from_length c.loop-first.left.now c.in-None.ensures.cases)
    c.loop-first.invariant)

pub returns-in-None-pop : goal.returns-in-None-pop
returns-in-None-pop c =
    all_done c.loop-first.open.items c.loop-first.done (filters_of c.args.filters.now) c.loop-first.left.now
    (none_open c.loop-first.open.items c.pop.new.self.items _ c.in-None-pop.ensures.cases.0 c.in-None-pop.ensures.rest c.in-None-pop.ensures.items) (nil_from_length c.loop-first.left.now c.in-None.ensures.cases) c.loop-first.invariant
