use Rattle.std.proofs.Common.{Some, cond, sym, ap, ◌∙◌}
use Rattle.std.proofs.lemmas.Result.{err_from_is_err_and}
use Rattle.std.specs.BTreeMap.{get_by}
use Rattle.std.specs.Cmp.Lexicographic.{slice_cmp}
use Rattle.std.specs.Ordering.{nat_cmp}
use Rattle.dav_core.specs.Path.{same_names}
use Rattle.dav_disk.proofs.Placed.{dirs_changed, dirs_put, member_put, member_first, place_added, places_kept, is_there}
use Rattle.dav_disk.proofs.places.Places.put.Goals as goal

pub returns-in_err-insert-clause-err : goal.returns-in_err-insert-clause-err
returns-in_err-insert-clause-err c =
    let p = err_from_is_err_and c.from_residual-in_err-insert.result c.from_residual-in_err-insert.ensures.1 in
    rw p.1 (places_kept (λ dir. get_by (λ k. slice_cmp (slice_cmp nat_cmp) dir k.items) c.args.self.now.dirs)
    (λ dir. get_by (λ k. slice_cmp (slice_cmp nat_cmp) dir k.items) (c.get_mut.follows.lender c.insert.new.self))
    c.args.dir.now c.in-Some.members.now c.insert.new.self
    (dirs_changed (λ k. k.items) c.args.dir.now c.args.self.now.dirs (c.get_mut.follows.lender c.insert.new.self) (Some c.insert.new.self)
    ((c.get_mut.follows.holds c.insert.new.self).3 (is_there c.in-Some.members.now _ c.in-Some.ensures.value)))
    c.in-Some.ensures.value c.in_err-insert.ensures.err)

pub returns-in-Some-clause-ok : goal.returns-in-Some-clause-ok
returns-in-Some-clause-ok c =
    place_added (λ dir. get_by (λ k. slice_cmp (slice_cmp nat_cmp) dir k.items) c.args.self.now.dirs)
    (λ dir. get_by (λ k. slice_cmp (slice_cmp nat_cmp) dir k.items) (c.get_mut.follows.lender c.insert.new.self))
    c.args.dir.now c.args.name.now c.args.place c.insert.new.self
    (dirs_changed (λ k. k.items) c.args.dir.now c.args.self.now.dirs (c.get_mut.follows.lender c.insert.new.self) (Some c.insert.new.self)
    ((c.get_mut.follows.holds c.insert.new.self).3 (is_there c.in-Some.members.now _ c.in-Some.ensures.value)))
    (member_put c.args.name.now c.in_ok-name.name c.args.place (get_by (λ k. slice_cmp (slice_cmp nat_cmp) c.args.dir.now k.items) c.args.self.now.dirs) c.in-Some.members.now c.insert.new.self
    c.in_ok-name.ensures c.in-Some.ensures.value c.in_ok-insert.ensures.updates)
    c.requires

pub returns-clause-ok : goal.returns-clause-ok
returns-clause-ok c =
    place_added (λ dir. get_by (λ k. slice_cmp (slice_cmp nat_cmp) dir k.items) c.args.self.now.dirs)
    (λ dir. get_by (λ k. slice_cmp (slice_cmp nat_cmp) dir k.items) c.insert-3.new.self)
    c.args.dir.now c.args.name.now c.args.place c.insert-2.new.self
    (λ dir. dirs_put (λ k. k.items) c.args.dir.now c.in_ok-copied_names.field-0 c.get_mut.follows.lender-at-none c.insert-3.new.self (Some c.insert-2.new.self) c.in_ok-copied_names.ensures c.in_ok-insert-3.ensures.updates dir
    ∙ ap (λ dirs. cond (same_names c.args.dir.now dir) (Some c.insert-2.new.self) (get_by (λ k. slice_cmp (slice_cmp nat_cmp) dir k.items) dirs)) c.get_mut.follows.holds-at-none)
    (member_first c.args.name.now c.in_ok-name.name c.args.place (get_by (λ k. slice_cmp (slice_cmp nat_cmp) c.args.dir.now k.items) c.args.self.now.dirs) c.new-members.result c.insert-2.new.self
    c.in_ok-name.ensures (sym c.in_default.ensures.value) c.new-members.ensures.empty c.in_ok-insert-2.ensures.updates)
    c.requires
