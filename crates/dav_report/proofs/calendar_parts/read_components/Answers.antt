use Rattle.std.proofs.Common.{◌≡◌, Some, None, refl}
use Rattle.dav_report.specs.FilterLists.{asked_by}
use Rattle.dav_report.specs.Calendars.{asked, component_filters}
use Rattle.dav_report.specs.declared.calendar_parts.Open.{Open}
use Rattle.dav_report.proofs.FilterReading.{open_step, fault_step, close_step, all_done, opens_less, weight_behind}
use Rattle.dav_lock.proofs.Opened.{closes_less, none_open}
use Rattle.dav_lock.proofs.Weights.{weight}
use Rattle.dav_lock.specs.Trees.{forest_of}
use Rattle.dav_report.proofs.calendar_parts.read_components.Goals as goal
use Rattle.std.proofs.lemmas.List.{nil_from_length}

pub returns-in-None-2 : goal.returns-in-None-2
returns-in-None-2 c =
    let a : None ≡ asked c.in-Some-element_named.element.now = rw c.in-None-2.is at c.in_ok-filter-in-Some-element_named.ensures in
    fault_step c.loop-node.open.items c.loop-node.done (component_filters c.args.children.now) c.loop-node.left.now c.in-Some.behind.now c.in-Some.node.now c.in-Some-element_named.element.now c.in-Some.ensures.cases.0
    c.in-Some-element_named.ensures a c.loop-node.invariant

pub loop-node-smaller-in-Some-element_named : goal.loop-node-smaller-in-Some-element_named
loop-node-smaller-in-Some-element_named c =
    let o : Open = record { filter = c.in-Some-2.filter; before = c.loop-node.done; behind = c.in-Some.behind } in
    rw c.as_slice-left-in-Some-element_named.ensures
    (opens_less c.loop-node.open.items c.push.new.self.items o c.loop-node.left.now c.in-Some.node.now c.in-Some-element_named.element.now c.in_ok-push-in-Some-element_named.ensures.items c.in-Some.ensures.cases.0
    c.in-Some-element_named.ensures)

pub loop-node-preserved-in-Some-element_named : goal.loop-node-preserved-in-Some-element_named
loop-node-preserved-in-Some-element_named c =
    let o : Open = record { filter = c.in-Some-2.filter; before = c.loop-node.done; behind = c.in-Some.behind } in
    let a : Some (asked_by o.filter) ≡ asked c.in-Some-element_named.element.now = rw c.in-Some-2.is at c.in_ok-filter-in-Some-element_named.ensures in
    rw (c.empty-done-in-Some-element_named.ensures, c.as_slice-left-in-Some-element_named.ensures)
    (open_step c.loop-node.open.items c.push.new.self.items o (component_filters c.args.children.now) c.loop-node.left.now c.in-Some.node.now c.in-Some-element_named.element.now c.in_ok-push-in-Some-element_named.ensures.items
    c.in-Some.ensures.cases.0 c.in-Some-element_named.ensures a c.loop-node.invariant)

pub loop-node-smaller : goal.loop-node-smaller
loop-node-smaller c = closes_less weight_behind c.pop.new.self.items c.loop-node.open.items c.in-Some-pop.field-0 (weight (forest_of c.loop-node.left.now)) c.in-Some-pop.ensures.items (rw (nil_from_length c.loop-node.left.now c.in-None.ensures.cases) refl)

pub loop-node-preserved : goal.loop-node-preserved
loop-node-preserved c =
    rw c.in_ok-push-in-Some-pop.ensures.ok
    (close_step c.pop.new.self.items c.loop-node.open.items c.in-Some-pop.field-0 c.loop-node.done (component_filters c.args.children.now) c.loop-node.left.now c.in-Some-pop.ensures.items
    (nil_from_length c.loop-node.left.now c.in-None.ensures.cases) c.loop-node.invariant)

pub returns-in-None-pop : goal.returns-in-None-pop
returns-in-None-pop c =
    all_done c.loop-node.open.items c.loop-node.done (component_filters c.args.children.now) c.loop-node.left.now
    (none_open c.loop-node.open.items c.pop.new.self.items _ c.in-None-pop.ensures.cases.0 c.in-None-pop.ensures.rest c.in-None-pop.ensures.items) (nil_from_length c.loop-node.left.now c.in-None.ensures.cases) c.loop-node.invariant
