use Rattle.std.proofs.Common.{◌≡◌, ◌++◌, [], refl, inl, ◌∙◌}
use Rattle.std.proofs.lemmas.List.{take_all}
use Rattle.dav_store.proofs.Staying.{reads_same, reads_then}
use Rattle.dav_selection.specs.Answered.{unless}
use Rattle.dav_selection.specs.Reports.{began}
use Rattle.dav_selection.specs.Taken.{taken}
use Rattle.dav_selection.specs.Visits.{links_asked}
use Rattle.dav_selection.proofs.Linked.{followed_or}
use Rattle.dav_selection.proofs.Links.{links_more, ok_then}
use Rattle.dav_selection.proofs.following.follow.Goals as goal

pub loop-href-init : goal.loop-href-init
loop-href-init g c = record {
  links = ([], began, refl, c.new-records.ensures.items, c.new-missing.ensures.items);
  stays = reads_same _ _;
}

pub loop-href-preserved : goal.loop-href-preserved
loop-href-preserved g c =
    let before = c.loop-href.invariant in
    let noted = ok_then c.note.result (c.note.new.missing.items ≡ c.loop-href.missing.items ++ unless c.in-Ok.given c.href-item.result) c.if-is_err.ensures.value c.note.ensures in
    record {
      links = links_more g.S.GuardedFileSystem.view c.args.credentials.now (taken c.args.wanted) c.args.prefix.now c.as_slice-href-items.result.now c.args.fs.now c.loop-href.fs
          c.follow_link.new.fs c.loop-href.href-index c.href-item.result c.href-item.result c.in-Ok.given c.loop-href.records.items c.follow_link.new.records.items c.loop-href.missing.items
          c.note.new.missing.items before.links c.in-Ok.ensures.table c.loop-href-test.true c.href-item.is noted;
      stays = reads_then _ _ _ _ before.stays c.in-Ok.ensures.stays;
    }

pub returns-in-Err-clause-stays : goal.returns-in-Err-clause-stays
returns-in-Err-clause-stays g c = reads_then _ _ _ _ c.loop-href.invariant.stays c.in-Err.ensures.stays

pub returns-then-is_err-clause-stays : goal.returns-then-is_err-clause-stays
returns-then-is_err-clause-stays g c = reads_then _ _ _ _ c.loop-href.invariant.stays c.in-Ok.ensures.stays

pub returns-clause-table : goal.returns-clause-table
returns-clause-table g c =
    let links = c.loop-href.invariant.links in
    inl (record {
      links = links.0;
      followed = links.1;
      written = links.2 ∙ (take_all c.loop-href.href-index c.as_slice-href-items.result.now c.loop-href-test.false ∙ c.as_slice-href-items.ensures);
      given = c.new.ensures ∙ links.3;
      lost = c.new-2.ensures ∙ links.4;
    })

pub returns-clause-shown : goal.returns-clause-shown
returns-clause-shown g c = λ stock shows. followed_or g.S.GuardedFileSystem.view g.S.GuardedFileSystem.listings
    c.args.fs.now c.args.credentials.now stock (links_asked c.args.prefix.now c.args.hrefs.now c.args.wanted) c.loop-href.fs _ (returns-clause-table g c) shows
