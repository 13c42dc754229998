use Rattle.std.proofs.Common.{refl, ◌∙◌}
use Rattle.dav_disk.specs.Making.{drawn_in}
use Rattle.dav_disk.proofs.Renames.{renamed_once, renamed_twice, reached, on_ok}
use Rattle.dav_disk.proofs.drawn.Drawn.rename.Goals as goal

pub returns-then-eq : goal.returns-then-eq
returns-then-eq c = on_ok _ _ c.place.result (λ placed w.
    placed w ∙ renamed_once (drawn_in c.args.self.now w) c.in-Ok.row.now c.args.from.now c.args.to.now c.as_slice-names.result.now c.as_slice-target.result.now
    c.parent_of.result.now c.parent_of-2.result.now c.args.self.now.rows c.in-Some.first c.may_rename.result c.eq.result
    (record {
      found = c.in-Ok.ensures.found;
      rows_are = refl;
      from_is = c.as_slice-names.ensures.value;
      to_is = c.as_slice-target.ensures.value;
      path = c.in-Ok.ensures.path;
      may_go = c.may_rename.ensures;
      goes = c.if-not-may_rename.false;
      ticked = c.in-Some.ensures;
    })
    c.parent_of.ensures c.parent_of-2.ensures c.eq.ensures c.if-eq.true) c.place.ensures

pub returns : goal.returns
returns c = λ w.
    reached _ (drawn_in c.place-2.new.self w) (drawn_in c.args.self.now w) c.as_slice-target.result.now c.args.to.now c.as_slice-names.result.now c.in-Some.first c.in-Some-tick.second
    (c.touch.ensures w) (c.in_ok-place.ensures w) c.as_slice-target.ensures.value
    ∙ renamed_twice (drawn_in c.args.self.now w) c.in-Ok.row.now c.args.from.now c.args.to.now c.as_slice-names.result.now c.as_slice-target.result.now
    c.parent_of.result.now c.parent_of-2.result.now c.args.self.now.rows c.in-Some.first c.in-Some-tick.second c.may_rename.result c.eq.result
    (record {
      found = c.in-Ok.ensures.found;
      rows_are = refl;
      from_is = c.as_slice-names.ensures.value;
      to_is = c.as_slice-target.ensures.value;
      path = c.in-Ok.ensures.path;
      may_go = c.may_rename.ensures;
      goes = c.if-not-may_rename.false;
      ticked = c.in-Some.ensures;
    })
    c.parent_of.ensures c.parent_of-2.ensures c.eq.ensures c.if-eq.false c.in-Some-tick.ensures
