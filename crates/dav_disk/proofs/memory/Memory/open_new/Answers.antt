use Rattle.std.proofs.Common.{◌≡◌, ◌≤◌, ◌+◌, [], Some, ap, sym, ◌∙◌, arith}
use Rattle.std.specs.Option.{option_map}
use Rattle.dav_core.proofs.TablesLemmas.{updates_put}
use Rattle.dav_core.specs.World.{World, at_key}
use Rattle.dav_core.specs.Changes.{file_added}
use Rattle.dav_core.specs.Edits.{makes}
use Rattle.dav_core.specs.declared.tree.Kind.TheVariants.{File}
use Rattle.dav_core.specs.declared.change.Change.TheVariants.{AddFile}
use Rattle.dav_disk.specs.Making.{edited}
use Rattle.dav_disk.specs.Files.{live_of, stored_at}
use Rattle.dav_disk.specs.Memory.{known_of}
use Rattle.dav_disk.proofs.Changed.{file_added_good}
use Rattle.dav_disk.proofs.Standing.{on_fine, free_place, file_is_left, file_made}
use Rattle.dav_disk.proofs.OpenDone.{made_greatest}
use Rattle.dav_disk.proofs.Opened.{opened_put}
use Rattle.dav_disk.proofs.Turned.{good_of, kept_of}
use Rattle.dav_disk.proofs.DirsStay.{changed_bared, kept_put, new_row}
use Rattle.dav_disk.proofs.GivenStay.{changed_given, open_given}
use Rattle.dav_disk.proofs.memory.Memory.open_new.Goals as goal

pub returns : goal.returns
returns c =
    let old : World = (known_of c.args.self.now).world in
    let v : World = record old { tree = c.give.new.rows; files = stored_at c.give.new.files; greatest = c.give.new.greatest; latest = c.give.new.latest } in
    let drawn = on_fine c.add_file.result _ c.is_err.result c.is_err.ensures.value c.if-is_err.false c.add_file.ensures in
    let made : v ≡ file_added old c.args.path.now [] = c.give.ensures.drawn old ∙ drawn old ∙ ap (λ w. file_added w c.args.path.now []) (c.in-Ok.ensures old) in
    let left = file_is_left old c.args.path.now [] (sym c.has_row_left.ensures ∙ c.if-not-has_row_left.false) in
    let updates = on_fine c.insert.result _ c.is_err-2.result c.is_err-2.ensures.value c.if-is_err-2.false c.insert.ensures.updates in (
      v,
      file_made old v c.args.path.now [] (free_place old.tree c.args.path.now c.args.self.now.tree c.requires) left made,
      ap (option_map live_of) c.in-Some.ensures.free,
      opened_put v _ _ c.in-Some.handle _ (updates_put c.in-Some.handle c.args.self.now.opens c.insert.new.self _ updates),
    )

pub invariant_of-self-2 : goal.invariant_of-self-2
invariant_of-self-2 c =
    let old : World = (known_of c.args.self.now).world in
    let v : World = record old { tree = c.give.new.rows; files = stored_at c.give.new.files; greatest = c.give.new.greatest; latest = c.give.new.latest } in
    let drawn = on_fine c.add_file.result _ c.is_err.result c.is_err.ensures.value c.if-is_err.false c.add_file.ensures in
    let made : v ≡ file_added old c.args.path.now [] = c.give.ensures.drawn old ∙ drawn old ∙ ap (λ w. file_added w c.args.path.now []) (c.in-Ok.ensures old) in
    let left = file_is_left old c.args.path.now [] (sym c.has_row_left.ensures ∙ c.if-not-has_row_left.false) in
    let edit : edited (makes c.args.path.now File []) old ≡ Some v = file_made old v c.args.path.now [] (free_place old.tree c.args.path.now c.args.self.now.tree c.requires) left made in
    let more : v.greatest ≡ old.greatest + 1 = made_greatest old v c.args.path.now edit in
    let fits : old.greatest + 1 ≤ v.greatest = omega arith in
    let updates = on_fine c.insert.result _ c.is_err-2.result c.is_err-2.ensures.value c.if-is_err-2.false c.insert.ensures.updates in
    let kept = kept_of v (file_added old c.args.path.now []) made (file_added_good old c.args.path.now [] (good_of old c.args.self.now.tree c.args.self.now.stored c.args.self.now.given)) in
    let bared = changed_bared v old (at_key c.args.self.now.opens) (AddFile c.args.path.now []) made (good_of old c.args.self.now.tree c.args.self.now.stored c.args.self.now.given) c.args.self.now.given
    (record { bare = c.args.self.now.bare; kept = c.args.self.now.kept }) in
    let row = new_row old v c.args.path.now edit in
    record {
      bare = bared.bare;
      kept = kept_put v.files (at_key c.args.self.now.opens) (at_key c.insert.new.self) c.in-Some.handle _ (updates_put c.in-Some.handle c.args.self.now.opens c.insert.new.self _ updates) bared.kept
          (λ o f. let same : record { number = old.greatest + 1; place = 0; kind = File; how = c.args.how } ≡ o = cc in rw (← same) (λ file. row));
      tree = kept.tree;
      plain = c.give.ensures.plain;
      stored = kept.stored;
      given = open_given v (at_key c.args.self.now.opens) (at_key c.insert.new.self) c.in-Some.handle (Some (record { number = old.greatest + 1; place = 0; kind = File; how = c.args.how }))
          (changed_given v old (AddFile c.args.path.now []) made c.args.self.now.given) (updates_put c.in-Some.handle c.args.self.now.opens c.insert.new.self _ updates)
          (λ o f. let same : record { number = old.greatest + 1; place = 0; kind = File; how = c.args.how } ≡ o = cc in rw (← same) fits);
    }
