use Rattle.std.proofs.Common.{Ok, Err, [], refl, ap, arith}
use Rattle.dav_store.proofs.Staying.{stays_same, stays_then}
use Rattle.dav_walks.specs.Walking.{transfers_left, works_at}
use Rattle.dav_walks.specs.Weights.{weight}
use Rattle.dav_walks.proofs.steps.CopiesByTable.{none_pending, pending_goes, pending_stops}
use Rattle.dav_walks.proofs.copying.copy_pending.Goals as goal

pub works-init : goal.works-init
works-init g c = record { copies = λ r t h. h; stays = stays_same _ _ }

pub works-preserved : goal.works-preserved
works-preserved g c =
    let before = c.works.invariant in
    record {
      copies = λ r t h. before.copies r t
          (pending_goes g.S.GuardedFileSystem.view g.S.GuardedFileSystem.listings c.args.credentials.now c.args.alone c.works.walk.ends c.works.walk.works.items
          c.pop_front.new.self.items c.in-Some.work (transfers_left c.copy_one.new.walk) c.works.fs c.copy_one.new.fs t r c.in-Some.ensures.items
          c.in-Ok.ensures.copies h);
      stays = stays_then _ _ _ _ before.stays c.copy_one.ensures.stays;
    }

pub works-smaller : goal.works-smaller
works-smaller g c = omega (arith, c.in-Ok.ensures.lighter refl, ap (λ ws. weight (works_at c.works.walk.ends.from ws [])) c.in-Some.ensures.items)

pub returns-in-Err-clause-copies : goal.returns-in-Err-clause-copies
returns-in-Err-clause-copies g c =
    c.works.invariant.copies (Err c.in-Err.error) c.copy_one.new.fs
    (pending_stops g.S.GuardedFileSystem.view g.S.GuardedFileSystem.listings c.args.credentials.now c.args.alone c.works.walk.ends c.works.walk.works.items
    c.pop_front.new.self.items c.in-Some.work (transfers_left c.copy_one.new.walk) c.works.fs c.copy_one.new.fs c.in-Err.error c.in-Some.ensures.items c.in-Err.ensures.copies)

pub returns-in-Err-clause-stays : goal.returns-in-Err-clause-stays
returns-in-Err-clause-stays g c = stays_then _ _ _ _ c.works.invariant.stays c.copy_one.ensures.stays

pub returns-in-None-clause-copies : goal.returns-in-None-clause-copies
returns-in-None-clause-copies g c =
    c.works.invariant.copies (Ok tt) c.works.fs
    (none_pending g.S.GuardedFileSystem.view g.S.GuardedFileSystem.listings c.args.credentials.now c.args.alone c.works.walk.ends
    c.works.walk.works.items c.works.fs (omega (arith, c.in-None.ensures.cases.0, c.works.walk.works.ok.0)))
